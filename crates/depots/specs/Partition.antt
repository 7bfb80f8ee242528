-- R-4, one partition: its search, or answer 3 where a named column is outside the shape; and its
-- report.
use Rattle.std.specs.Prelude.{◌≡◌, false, List, ℕ, ℤ}
use Rattle.std.proofs.Math.Option.{none}
use Rattle.rules.specs.Basics.{pick}
use Rattle.rules.specs.Rows.{table_of}
use Rattle.rules.specs.Query.{columns_of}
use Rattle.rules.specs.Answers.{Buffers, Memory, refused, search_of}
use Rattle.rules.specs.Entries.{reported_in}
use Rattle.search.specs.Promise.{Promised}
use Rattle.named.specs.Outside.{is_three}
use Rattle.tally.specs.declared.NamedColumns.{NamedColumns}
use Rattle.tally.specs.Table.{DepotReport}

-- A named column outside the shape is answer 3, behind 1 and 2; else the partition's answer, its
-- counts and its buffers are the search's. A refusal changes no buffer.
unfoldable pub partition_of : NamedColumns → List ℕ → List ℤ → Buffers → Memory
unfolding is_three refused search_of
partition_of w q rows before = pick (is_three q w.depot w.month) (refused 3 0 before) (search_of q rows before)

-- its report: the answer, the rows, and the matches read back from its buffers
unfoldable pub depot_report : NamedColumns → List ℕ → List ℤ → Buffers → DepotReport
unfolding partition_of table_of columns_of reported_in
depot_report w q rows before =
    record {
      answer = (partition_of w q rows before).result.answer;
      rows = table_of (columns_of q) rows;
      matches = reported_in q (partition_of w q rows before);
    }

-- what `search_partition` promises
pub record Parted (w : NamedColumns) (q : List ℕ) (rows : List ℤ) (before : Buffers) (after : Memory) : Type 0 where
  pub whole : after ≡ partition_of w q rows before
  pub searched : is_three q w.depot w.month ≡ false → Promised none q rows before after
