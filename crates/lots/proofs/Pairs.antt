-- The pairs by which notes and trail are measured, by the numbers of the prepared query.
use mathlib.Core.Path.{◌≡◌, ap, ap₂, sym, ◌∙◌}
use mathlib.Core.List.{List}
use mathlib.Core.Option.{Option}
use Prim.Native.Nat.{ℕ, ◌+◌, ◌*◌}
use native.Mathlib.Numerals.{add-one}
use Rattle.rules.specs.Language.{Tree, pattern}
use Rattle.rules.specs.Answers.{P, F}
use Rattle.rules.specs.Lots.{Named, named_pairs}
use Rattle.prepared.specs.Ready.{Ready}
use Rattle.prepared.specs.declared.Prepared.{Prepared}

pub named-pairs : (s : Named) (T : List ℕ) (p : Prepared) → Ready s.query T p → named_pairs s ≡ p.places * (s.largest + 1)
unfolding named_pairs P F
named-pairs s T p ready =
    sym (ap₂ (λ (x y : ℕ). x * y) (ready.places_are ∙ ap (λ (o : Option (Tree pattern)). P o * F o) (sym ready.has_tree)) (add-one s.largest))
