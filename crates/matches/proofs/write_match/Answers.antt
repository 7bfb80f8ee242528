-- `matches::write_match` meets its contract by the laws of Telling.
use mathlib.Core.Path.{refl}
use Rattle.matches.proofs.Telling.{tell_row, tell_labels, tell_end, tell_appends, tell_fits, tell_full}
use borrow.Author.Rules.{rules}
use Rattle.matches.proofs.write_match.Goals as goal

pub overflow_sub-taken : goal.overflow_sub-taken
overflow_sub-taken c = search (rules, tell_row)

pub put_labels-requires : goal.put_labels-requires
put_labels-requires c = tell_labels _ _ _ _ _ _ _ c.requires _ _ c.fits_whole.ensures c.if-fits_whole.true

pub slice_bounds-written-end : goal.slice_bounds-written-end
slice_bounds-written-end c = tell_end _ _ _ _ _ _ _ c.requires _ _ c.fits_whole.ensures c.if-fits_whole.true _ c.put_labels.ensures

pub invariant_of-of : goal.invariant_of-of
invariant_of-of c =
    let a = tell_appends _ _ _ _ _ _ _ c.requires _ _ c.fits_whole.ensures c.if-fits_whole.true _ c.put_labels.ensures c.args.numbers.now refl in
    record { few = a.few; there = a.there }

pub put_match-requires : goal.put_match-requires
put_match-requires c = tell_appends _ _ _ _ _ _ _ c.requires _ _ c.fits_whole.ensures c.if-fits_whole.true _ c.put_labels.ensures _ refl

pub returns-then-fits_whole : goal.returns-then-fits_whole
returns-then-fits_whole c = tell_fits _ _ _ _ _ _ _ c.requires _ _ c.fits_whole.ensures c.if-fits_whole.true _ c.put_labels.ensures _ _ _ _ refl c.put_match.ensures.numbers c.next_row-next.ensures c.behind_match.ensures

pub returns : goal.returns
returns c = tell_full _ _ _ _ _ _ _ c.requires _ _ c.fits_whole.ensures (c.args.numbers.now) refl c.if-fits_whole.false
