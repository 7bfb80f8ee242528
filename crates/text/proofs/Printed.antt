-- The text made from the report's numbers and labels is the text that document 01 asks for: for the
-- numbers and labels of any matches, whatever stands behind them in the lent buffers.
use mathlib.Core.Path.{◌≡◌, refl, ap, ◌∙◌}
use mathlib.Core.Bool.{true, false}
use mathlib.Core.List.{List, [], ◌∷◌, ◌++◌, append_assoc}
use mathlib.Core.Option.{Option, none, some}
use Prim.Native.Nat.{ℕ, suc, ◌+◌, ◌*◌}
use lib.IntN.{ℤ, pos, negsuc, nat_abs}
use lib.ListN.{length, drop}
use lib.Seq.{take-append_seam, drop-append_seam, drop_at}
use Rattle.rules.specs.Basics.{bytes, wrote}
use Rattle.rules.specs.Rows.{Table}
use Rattle.rules.specs.Query.{Measure}
use Rattle.rules.specs.Search.{Match, Swept, labels}
use Rattle.rules.specs.Report.{measured, two_of, measure_numbers, match_numbers, numbers_of, labels_of}
use Rattle.rules.specs.Answers.{Task, stopped}
use Rattle.rules.specs.Program.{signed_decimal, measure_text, measures_text, match_line, match_lines, header_line, search_text}
use Rattle.laws.proofs.Limits.{match-long}
use Rattle.header.specs.Report.{number_at, header_text, results_text, field_text, line_text, lines_text, report_text, heading}
use Rattle.rules.specs.Walk.{Kept}

pub results_printed : (t : Table) (row : ℕ) (ls : List ℕ) (ms : List Measure) (rest : List ℤ)
    → results_text (length ms) (measure_numbers t row ls ms ++ rest) ≡ measures_text t row ls ms
unfolding results_text measure_numbers measures_text
results_printed t row ls [] rest = refl
results_printed t row ls (m ∷ ms) rest = go (results_printed t row ls ms rest) (measured t row ls m)
  where
    go : results_text (length ms) (measure_numbers t row ls ms ++ rest) ≡ measures_text t row ls ms → (v : Option ℤ)
        → results_text (suc (length ms)) ((two_of v ++ measure_numbers t row ls ms) ++ rest) ≡ 32 ∷ (measure_text v ++ measures_text t row ls ms)
    go ih none = ap (λ (x : List ℕ). 32 ∷ (bytes "null" ++ x)) ih
    go ih (some v) = ap (λ (x : List ℕ). 32 ∷ (signed_decimal v ++ x)) ih

pub line-printed : (t : Table) (ms : List Measure) (k row : ℕ) (ls : List ℕ) (rest : List ℤ)
    → line_text (length ms) (match_numbers t ms k row ls ++ rest) ls ≡ match_line t ms k row ls
unfolding line_text match_numbers match_line signed_decimal field_text
line-printed t ms k row ls rest = rw (results_printed t row ls ms rest) (simp append_assoc)

rows_taken : (t : Table) (ms : List Measure) (k row : ℕ) (ls : List ℕ) (rest : List ℤ) → nat_abs (number_at (match_numbers t ms k row ls ++ rest) 2) ≡ length ls
unfolding match_numbers
rows_taken t ms k row ls rest = refl

-- a match's own numbers N and labels, in front of those of the others
lines_step : (m w : ℕ) (N : List ℤ) (own : List ℕ) (ns : List ℤ) (ls : List ℕ) → length N ≡ 3 + 2 * w → nat_abs (number_at (N ++ ns) 2) ≡ length own
    → lines_text (suc m) w (N ++ ns) (own ++ ls) ≡ line_text w (N ++ ns) own ++ lines_text m w ns ls
unfolding lines_text
lines_step m w N own ns ls h e = rw (e, take-append_seam own ls, drop-append_seam own ls, drop_at N ns (3 + 2 * w) h)

pub lines_printed : (t : Task) (k : ℕ) (xs : List Match) (ns : List ℤ) (ls : List ℕ)
    → lines_text (length xs) (length t.measures) (numbers_of t.table t.measures t.places k xs ++ ns) (labels_of t.places xs ++ ls) ≡ match_lines t k xs
unfolding lines_text numbers_of labels_of match_lines
lines_printed t k [] ns ls = refl
lines_printed t k (x ∷ xs) ns ls = go (labels t.places x.path) (lines_printed t (suc k) xs ns ls)
  where
    w : ℕ
    w = length t.measures

    Ns : List ℤ
    Ns = numbers_of t.table t.measures t.places (suc k) xs

    Ls : List ℕ
    Ls = labels_of t.places xs

    go : (own : List ℕ) → lines_text (length xs) w (Ns ++ ns) (Ls ++ ls) ≡ match_lines t (suc k) xs
        → lines_text (suc (length xs)) w ((match_numbers t.table t.measures (suc k) x.start own ++ Ns) ++ ns) ((own ++ Ls) ++ ls)
        ≡ match_line t.table t.measures (suc k) x.start own ++ match_lines t (suc k) xs
    go own ih =
        let N : List ℤ = match_numbers t.table t.measures (suc k) x.start own in
        let long = match-long t.table t.measures (suc k) x.start own in
        let rows = rows_taken t.table t.measures (suc k) x.start own (Ns ++ ns) in
        let a = lines_step (length xs) w N own (Ns ++ ns) (Ls ++ ls) long rows in
        rw (append_assoc N Ns ns, append_assoc own Ls ls) (a ∙ rw (line-printed t.table t.measures (suc k) x.start own (Ns ++ ns), ih))

-- With the promise of the search, the numbers and labels of its matches in front of what the lent
-- buffers held, the report is the search's text.
pub report-printed : (t : Task) (r : Swept Kept) (numbers : List ℤ) (label_bytes : List ℕ)
    → report_text (heading (stopped r) (length r.matches) r.state.steps) (length t.measures)
    (wrote numbers 0 (numbers_of t.table t.measures t.places 0 r.matches))
    (wrote label_bytes 0 (labels_of t.places r.matches))
    ≡ search_text t r
unfolding report_text search_text header_text header_line wrote
report-printed t r numbers label_bytes =
    ap (λ (z : List ℕ). header_line r ++ z)
    (lines_printed t 0 r.matches
    (drop (0 + length (numbers_of t.table t.measures t.places 0 r.matches)) numbers)
    (drop (0 + length (labels_of t.places r.matches)) label_bytes))

-- document 01's own example, and a line with `-`, `null`, 0 and a number below 0
pub example : report_text (heading false 1 12) 2 (pos 1 ∷ pos 1 ∷ pos 3 ∷ pos 1 ∷ pos 2 ∷ pos 1 ∷ pos 115 ∷ []) (bytes "AAB") ≡ bytes "matches 1 steps 12\n1 1 3 AAB 2 115\n"
unfolding report_text bytes
example = refl

pub example_empty : report_text (heading true 1 7) 3 (pos 1 ∷ pos 40 ∷ pos 0 ∷ pos 0 ∷ pos 0 ∷ pos 1 ∷ pos 0 ∷ pos 1 ∷ negsuc 114 ∷ []) []
    ≡ bytes "stopped 1 steps 7\n1 40 0 - null 0 -115\n"
unfolding report_text bytes
example_empty = refl
