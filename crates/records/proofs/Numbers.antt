-- Each kind has a number of its own.
use Rattle.std.proofs.Common.{◌≡◌, ℕ, sym, ap, refl, ◌∙◌, eqb}
use Rattle.rules.specs.Basics.{pick}
use Rattle.records.specs.declared.Kind.{Kind}
use Rattle.records.specs.declared.Kind.TheVariants.{Shape, Text, AllOf, Skip, Measure, Postfix}
use Rattle.records.specs.Kinds.{number_of}

kind_of : ℕ → Kind
kind_of n = pick (eqb n 1) Shape (pick (eqb n 2) Text (pick (eqb n 3) AllOf (pick (eqb n 4) Skip (pick (eqb n 5) Measure Postfix))))

back : (k : Kind) → kind_of (number_of k) ≡ k
unfolding kind_of
back Shape = refl
back Text = refl
back AllOf = refl
back Skip = refl
back Measure = refl
back Postfix = refl

pub number_only : (j k : Kind) → number_of j ≡ number_of k → j ≡ k
number_only j k e = sym (back j) ∙ ap kind_of e ∙ back k
