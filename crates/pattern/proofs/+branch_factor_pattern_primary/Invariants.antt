-- The functions `branch`, `factor`, `pattern`, `primary` of pattern, which call each other, meet
-- their contracts. The measure: four times the bytes of text left, and a rank for each reader.
-- Invariants of the loops over parts: Begun. Laws: ReaderLaws, PartLaws.
use Rattle.pattern.proofs.PartLaws.{Begun}
use Rattle.nodes.specs.declared.Sort.TheVariants.{Sequence, Alternation}
use Rattle.rules.specs.Language as language
use lib.ListN.{length}
use Prim.Native.Nat.{◌+◌, ◌*◌, ◌-◌}
use Rattle.pattern.proofs.+branch_factor_pattern_primary.Given as goal

abbrev pub decreases-branch : goal.decreases-branch
decreases-branch l = 4 * (length l.text.now - l.at) + 2

abbrev pub decreases-factor : goal.decreases-factor
decreases-factor l = 4 * (length l.text.now - l.at) + 1

abbrev pub decreases-pattern : goal.decreases-pattern
decreases-pattern l = 4 * (length l.text.now - l.at) + 3

abbrev pub decreases-primary : goal.decreases-primary
decreases-primary l = 4 * (length l.text.now - l.at) + 0

abbrev pub invariant-branch-loop-f : goal.invariant-branch-loop-f
invariant-branch-loop-f l = Begun language.branch l.text l.at l.count l.initial.room Sequence 0 l.from l.end l.room

abbrev pub decreases-branch-loop-f : goal.decreases-branch-loop-f
decreases-branch-loop-f l = length l.text - l.from

abbrev pub invariant-pattern-loop-b : goal.invariant-pattern-loop-b
invariant-pattern-loop-b l = Begun language.pattern l.text l.at l.count l.initial.room Alternation 1 l.from l.end l.room

abbrev pub decreases-pattern-loop-b : goal.decreases-pattern-loop-b
decreases-pattern-loop-b l = length l.text - l.from
