-- `entering::enter` meets its contract by the laws of Small and Letter.
use mathlib.Core.Path.{ap}
use mathlib.Core.Bool.{not}
use native.Mathlib.Omega.{arith}
use Rattle.pairs.proofs.Small.{fork-small, fork-inside, letter-inside, anchor_small, anchor_inside, enter-fork, enter-absent, anchor_shut, enter-end, enter-anchor}
use Rattle.entering.proofs.Letter.{low-code, letter-shut, letter-stuck, letter-opens}
use borrow.Author.Rules.{rules}
use Rattle.entering.proofs.enter.Goals as goal

pub overflow_add-steps : goal.overflow_add-steps
overflow_add-steps c = omega arith

pub fork_entry-requires : goal.fork_entry-requires
fork_entry-requires c = omega arith

pub overflow_add-top : goal.overflow_add-top
overflow_add-top c = omega arith

pub overflow_add-q : goal.overflow_add-q
overflow_add-q c = omega arith

pub tried-requires : goal.tried-requires
tried-requires c = search (rules, fork-small, fork-inside)

pub shape_of-notes-then-c-eq-NEAR_FORK : goal.shape_of-notes-then-c-eq-NEAR_FORK
shape_of-notes-then-c-eq-NEAR_FORK c = omega arith

pub shape_of-trail-then-c-eq-NEAR_FORK : goal.shape_of-trail-then-c-eq-NEAR_FORK
shape_of-trail-then-c-eq-NEAR_FORK c = omega arith

pub returns-then-c-eq-NEAR_FORK : goal.returns-then-c-eq-NEAR_FORK
returns-then-c-eq-NEAR_FORK c = search (rules, enter-fork)

pub shape_of-notes-then-row-size : goal.shape_of-notes-then-row-size
shape_of-notes-then-row-size c = omega arith

pub returns-then-row-size : goal.returns-then-row-size
returns-then-row-size c = enter-absent _ _ _ _ _ _ _ _ _ c.requires.1 _ c.code_at-c.ensures (omega arith) (omega arith) _ _ c.absent.ensures

pub letter_passes-requires : goal.letter_passes-requires
letter_passes-requires c = search (rules, low-code)

pub shape_of-notes-then-not-letter_passes : goal.shape_of-notes-then-not-letter_passes
shape_of-notes-then-not-letter_passes c = omega arith

pub returns-then-not-letter_passes : goal.returns-then-not-letter_passes
returns-then-not-letter_passes c = search (rules, letter-shut)

pub overflow_add-ahead : goal.overflow_add-ahead
overflow_add-ahead c = omega arith

pub overflow_add-ahead-then-c-lt-LETTERS : goal.overflow_add-ahead-then-c-lt-LETTERS
overflow_add-ahead-then-c-lt-LETTERS c = omega arith

pub failed-requires : goal.failed-requires
failed-requires c = search (rules, letter-inside)

pub shape_of-notes-then-failed : goal.shape_of-notes-then-failed
shape_of-notes-then-failed c = omega arith

pub returns-then-failed : goal.returns-then-failed
returns-then-failed c = letter-stuck _ _ _ _ _ _ _ _ _ c.requires.1 _ c.code_at-c.ensures (omega arith) (omega arith) _ c.letter_passes.ensures (ap not c.if-not-letter_passes.false) _ c.first_at-k.ensures _ c.failed.ensures c.if-failed.true _ _ c.fails-then-failed.ensures

pub overflow_add-opened : goal.overflow_add-opened
overflow_add-opened c = omega arith

pub overflow_add-next : goal.overflow_add-next
overflow_add-next c = omega arith

pub shape_of-notes-then-c-lt-LETTERS : goal.shape_of-notes-then-c-lt-LETTERS
shape_of-notes-then-c-lt-LETTERS c = omega arith

pub shape_of-trail-then-c-lt-LETTERS : goal.shape_of-trail-then-c-lt-LETTERS
shape_of-trail-then-c-lt-LETTERS c = omega arith

pub returns-then-c-lt-LETTERS : goal.returns-then-c-lt-LETTERS
returns-then-c-lt-LETTERS c = letter-opens _ _ _ _ _ _ _ _ _ c.requires.1 _ c.code_at-c.ensures (omega arith) (omega arith) _ c.letter_passes.ensures (ap not c.if-not-letter_passes.false) _ c.first_at-k.ensures _ c.failed.ensures c.if-failed.false _ c.push-then-c-lt-LETTERS.ensures

pub shape_of-notes-then-not-anchor_passes : goal.shape_of-notes-then-not-anchor_passes
shape_of-notes-then-not-anchor_passes c = omega arith

pub returns-then-not-anchor_passes : goal.returns-then-not-anchor_passes
returns-then-not-anchor_passes c = search (rules, anchor_shut)

pub entry_at-requires : goal.entry_at-requires
entry_at-requires c = (omega arith, omega arith)

pub overflow_add-opened-then-c-gt-FORK : goal.overflow_add-opened-then-c-gt-FORK
overflow_add-opened-then-c-gt-FORK c = omega arith

pub shape_of-trail-then-c-gt-FORK : goal.shape_of-trail-then-c-gt-FORK
shape_of-trail-then-c-gt-FORK c = omega arith

pub returns-then-c-gt-FORK : goal.returns-then-c-gt-FORK
returns-then-c-gt-FORK c = search (rules, enter-end)

pub overflow_add-top-2 : goal.overflow_add-top-2
overflow_add-top-2 c = omega arith

pub tried-requires-2 : goal.tried-requires-2
tried-requires-2 c = search (rules, anchor_small, anchor_inside)

pub shape_of-notes : goal.shape_of-notes
shape_of-notes c = omega arith

pub shape_of-trail : goal.shape_of-trail
shape_of-trail c = omega arith

pub returns : goal.returns
returns c = search (rules, enter-anchor)
