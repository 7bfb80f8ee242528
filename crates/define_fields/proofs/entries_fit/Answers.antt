-- `define_fields::entries_fit` meets its contract by the laws of EntryRules.
use Rattle.std.proofs.Common.{rules, arith, refl, sym}
use Rattle.define_fields.proofs.EntryRules.{entered-outside, entered-cut, entered-unfit, entered-short, entered-more, entered_all, entered-past, entry-there}
use Rattle.define_fields.proofs.entries_fit.Goals as goal
use Rattle.define_fields.proofs.entries_fit.Goals.{then-end-at-via-then-end-at, then-end-at-via-else-end-at+then-not-entry_fits}

pub returns-then-at-end : goal.returns-then-at-end
returns-then-at-end c = search (rules, entered-outside)

pub entry_fits-requires : goal.entry_fits-requires
entry_fits-requires c = (search rules, search (rules, entry-there))

pub returns-then-end-at : goal.returns-then-end-at
returns-then-end-at c = elim c.then-end-at.branch [
  | then-end-at-via-then-end-at w ↦ entered-cut _ _ _ _ _ _ _ _ c.loop.invariant _ c.byte-tag.ensures.0 (omega arith) _ c.entry_bytes-bytes.ensures.0 (omega arith)
  | then-end-at-via-else-end-at+then-not-entry_fits w ↦ entered-unfit _ _ _ _ _ _ _ _ c.loop.invariant _ c.byte-tag.ensures.0 (omega arith) _ w.entry_fits.ensures w.if-not-entry_fits.true
]

pub returns-then-results-eq0 : goal.returns-then-results-eq0
returns-then-results-eq0 c = search (rules, entered-short)

pub loop-preserved : goal.loop-preserved
loop-preserved c =
    entered-more _ _ _ _ _ _ _ _ c.loop.invariant _ c.byte-tag.ensures.0 (omega arith) _ (omega arith) _ c.entry_bytes-bytes.ensures.0 (omega arith) _ refl (sym c.if-not-entry_fits.ensures) _ c.results_after-results.ensures (search rules)

pub returns-then-at-end-2 : goal.returns-then-at-end-2
returns-then-at-end-2 c = search (rules, entered_all)

pub returns-else-at-end-2 : goal.returns-else-at-end-2
returns-else-at-end-2 c = search (rules, entered-past)
