-- `place_words::among` meets its contract: a word is found among those of the span.
use Rattle.std.proofs.Common.{◌-◌, ◌∙◌, ℕ, take, drop, arith, rules, sym, ap}
use Rattle.std.proofs.lemmas.Iterator.{YieldsList-from_slice}
use Rattle.std.proofs.lemmas.Iterator.Search.{any_from_yields_List}
use borrow.Author.Tests.{tests}
use lib.Dec.{eqb}
use Rattle.rules.specs.Basics.{has}
use Rattle.place_words.proofs.WayLaws.{span_taken, has_any}
use Rattle.place_words.proofs.among.Goals as goal

pub returns : goal.returns
returns c =
    any_from_yields_List (λ (v : ℕ). eqb v c.args.y) _ _ _ c.any.ensures.ran
    (YieldsList-from_slice (take (c.args.to - c.args.from) (drop c.args.from c.args.table.now)) cc) (λ x b q k. search (rules, tests))
    ∙ has_any c.args.y (take (c.args.to - c.args.from) (drop c.args.from c.args.table.now))
    ∙ ap (has c.args.y) (sym (span_taken c.args.table.now c.args.from (c.args.to - c.args.from) (omega arith)))
