-- The functions `body`, `branches`, `emit`, `rounds` of places, which call each other, meet their
-- contracts. Invariants of the loops: EmitLeft, BranchesLeft, RoundsLeft. Laws: EmitLaws, LoopLaws.
use Rattle.std.proofs.Common.{◌+◌, ◌-◌, ap, arith, inl, inr, Some}
use Rattle.unrolling.proofs.EmitLaws.{letter-words, letter-done, anchor_words, anchor_done, empty-done, sequence_done, alternation_done, group-first, group-done}
use Rattle.unrolling.proofs.LoopLaws.{body-lower, left-again, left-alt, left_down, left_end, left-first, left-first_less, left-start, left-forking, left-inside, left-inside_less, left-mid, left-none, left-order, left-part_in, left-turned, left-turning, left-turning_less, others-again, others-down, others-ended, others-first, others-first_less, others-mid, others-none, others-part_in, others-single, others-single_less, rounds_copied, rounds_copy, rounds_copy_fits, rounds_copy_start, rounds_first, rounds_none, rounds_option, rounds_option_body, rounds_option_fits, rounds_option_rest, rounds_option_start, rounds_optioned, rounds_round, rounds_star, rounds_star_start, rounds_star_body, rounds_starred, rounds_start, rounds_turns}
use Rattle.unrolling.proofs.+body_branches_emit_rounds.Goals as goal

pub body-put_single-requires : goal.body-put_single-requires
body-put_single-requires t c = letter-words _ _ _ _ c.node_at-n.ensures _ _ _ _ _
    c.in-Letter.is c.requires _
    c.letter_code.ensures

pub body-put_single-requires-in-Anchor : goal.body-put_single-requires-in-Anchor
body-put_single-requires-in-Anchor t c = anchor_words _ _ _ _ c.node_at-n.ensures _ _ _ _ _
    c.in-Anchor.is c.requires _
    c.anchor_code.ensures

pub body-emit-requires : goal.body-emit-requires
body-emit-requires t c = group-first _ _ _ _ c.node_at-n.ensures _ _ _ _ c.in-Group.is
    c.requires _ c.decreases

pub body-returns-in-Letter : goal.body-returns-in-Letter
body-returns-in-Letter t c = λ h. letter-done _ _ _ _ c.node_at-n.ensures _ _ _ _ _
    c.in-Letter.is h _ c.letter_code.ensures _ _
    c.put_single.ensures

pub body-returns-in-Anchor : goal.body-returns-in-Anchor
body-returns-in-Anchor t c = λ h. anchor_done _ _ _ _ c.node_at-n.ensures _ _ _ _ _
    c.in-Anchor.is h _ c.anchor_code.ensures _ _
    c.put_single-in-Anchor.ensures

pub body-returns-in-Group : goal.body-returns-in-Group
body-returns-in-Group t c = λ h. group-done _ _ _ _ c.node_at-n.ensures _ _ _ _
    c.in-Group.is h _ _ c.emit.ensures

pub body-returns-in-Empty : goal.body-returns-in-Empty
body-returns-in-Empty t c = λ h. elim c.in-Empty.is [
  | inl e ↦ empty-done _ _ _ _ c.node_at-n.ensures _ _ _ _ e h
  | inr n ↦ elim n [
    | inl e ↦ sequence_done _ _ _ _ c.node_at-n.ensures _ _ _ _ e h
    | inr e ↦ alternation_done _ _ _ _ c.node_at-n.ensures _ _ _ _ e h
  ]
]

pub branches-returns-then-n-eq0 : goal.branches-returns-then-n-eq0
branches-returns-then-n-eq0 t c = λ h. others-none _ _ _ _ _ _ _ _ _ _ _ c.loop-o.invariant _ c.node_at-n.ensures
    c.if-n-eq0.true h

pub branches-emit-requires : goal.branches-emit-requires
branches-emit-requires t c = (
  others-single_less _ _ _ _ _ _ _ _ _ _ _ c.loop-o.invariant _
      c.node_at-n.ensures c.in_default.not-Alternation _
      c.decreases,
  others-single _ _ _ _ _ _ _ _ _ _ _ c.loop-o.invariant _
      c.node_at-n.ensures c.in_default.not-Alternation,
)

pub branches-returns-in_default : goal.branches-returns-in_default
branches-returns-in_default t c = λ h. others-ended _ _ _ _ _ _ _ _ _ _ _
    c.loop-o.invariant _
    c.node_at-n.ensures
    c.in_default.not-Alternation _ _ c.emit.ensures h

pub branches-emit-way-requires : goal.branches-emit-way-requires
branches-emit-way-requires t c = (
  others-first_less _ _ _ _ _ _ _ _ _ _ _ c.loop-o.invariant _
      c.node_at-n.ensures c.in-Alternation.is _
      c.decreases,
  others-first _ _ _ _ _ _ _ _ _ _ _ c.loop-o.invariant _
      c.node_at-n.ensures c.in-Alternation.is,
)

pub branches-loop-o-smaller : goal.branches-loop-o-smaller
branches-loop-o-smaller t c = others-down _ _ _ _ _ _ _ _ _ _ _
    c.loop-o.invariant _
    c.node_at-n.ensures
    c.in-Alternation.is _ c.places_at-from.ensures _ _
    c.emit-way.ensures

pub branches-loop-o-preserved : goal.branches-loop-o-preserved
branches-loop-o-preserved t c = others-again _ _ _ _ _ _ _ _ _ _ _
    c.loop-o.invariant _
    c.node_at-n.ensures
    c.in-Alternation.is _ c.places_at-from.ensures _ _
    c.emit-way.ensures

pub emit-overflow_add-end : goal.emit-overflow_add-end
emit-overflow_add-end t c = left_end _ _ _ _ _ _ _ _ _ _ _ c.loop-table.invariant _ c.node_at-n.ensures

pub emit-branch_fork-inside-requires : goal.emit-branch_fork-inside-requires
emit-branch_fork-inside-requires t c = left-forking _ _ _ _ _ _ _ _ _ _ _ c.loop-table.invariant _
    c.node_at-n.ensures c.in-Alternation.is

pub emit-branches-requires : goal.emit-branches-requires
emit-branches-requires t c = (
  left-inside_less _ _ _ _ _ _ _ _ _ _ _ c.loop-table.invariant _
      c.node_at-n.ensures
      c.in-Alternation.is _ _ c.branch_fork-inside.ensures _
      c.decreases,
  left-inside _ _ _ _ _ _ _ _ _ _ _ c.loop-table.invariant _
      c.node_at-n.ensures
      c.in-Alternation.is _ _ c.branch_fork-inside.ensures,
)

pub emit-returns-in-Alternation : goal.emit-returns-in-Alternation
emit-returns-in-Alternation t c = λ h. left-alt _ _ _ _ _ _ _ _ _ _ _
    c.loop-table.invariant _
    c.node_at-n.ensures
    c.in-Alternation.is _ _
    c.branch_fork-inside.ensures _ _ c.branches.ensures h

pub emit-returns-then-end-from : goal.emit-returns-then-end-from
emit-returns-then-end-from t c = λ h. left-none _ _ _ _ _ _ _ _ _ _ _ c.loop-table.invariant _
    c.node_at-n.ensures c.in_default.not-Alternation c.if-end-from.true h

pub emit-rounds-requires : goal.emit-rounds-requires
emit-rounds-requires t c = (
  left-turning_less _ _ _ _ _ _ _ _ _ _ _ c.loop-table.invariant _
      c.node_at-n.ensures
      c.in_default-sort.not-Sequence
      c.in_default.not-Alternation _ c.body_size.ensures _ c.copy_has_flag.ensures _
      c.turns_behind.ensures _
      c.decreases,
  left-turning _ _ _ _ _ _ _ _ _ _ _ c.loop-table.invariant _
      c.node_at-n.ensures
      c.in_default-sort.not-Sequence
      c.in_default.not-Alternation _ c.body_size.ensures _ c.copy_has_flag.ensures _
      c.turns_behind.ensures,
)

pub emit-returns-in_default-sort : goal.emit-returns-in_default-sort
emit-returns-in_default-sort t c = λ h. left-turned _ _ _ _ _ _ _ _ _ _ _
    c.loop-table.invariant _
    c.node_at-n.ensures
    c.in_default-sort.not-Sequence
    c.in_default.not-Alternation _
    c.body_size.ensures _
    c.copy_has_flag.ensures _ c.turns_behind.ensures _ _
    c.rounds.ensures h

pub emit-places_at-requires : goal.emit-places_at-requires
emit-places_at-requires t c = left-part_in _ _ _ _ _ _ _ _ _ _ _ c.loop-table.invariant _
    c.node_at-n.ensures c.in-Sequence.is

pub emit-overflow_add-mid : goal.emit-overflow_add-mid
emit-overflow_add-mid t c = left-mid _ _ _ _ _ _ _ _ _ _ _ c.loop-table.invariant _
    c.node_at-n.ensures c.in-Sequence.is _ c.places_at.ensures

pub emit-start-next-requires : goal.emit-start-next-requires
emit-start-next-requires t c = left-start _ _ _ _ _ _ _ _ _ _ _ c.loop-table.invariant _
    c.node_at-n.ensures c.in-Sequence.is _ c.places_at.ensures

pub emit-emit-way-requires : goal.emit-emit-way-requires
emit-emit-way-requires t c = (
  left-first_less _ _ _ _ _ _ _ _ _ _ _ c.loop-table.invariant _
      c.node_at-n.ensures
      c.in-Sequence.is _ c.places_at.ensures _ c.start-next.ensures _
      c.decreases,
  left-first _ _ _ _ _ _ _ _ _ _ _ c.loop-table.invariant _
      c.node_at-n.ensures
      c.in-Sequence.is _ c.places_at.ensures _ c.start-next.ensures,
)

pub branches-places_at-from-requires : goal.branches-places_at-from-requires
branches-places_at-from-requires t c = others-part_in _ _ _ _ _ _ _ _ _ _ _
    c.loop-o.invariant _
    c.node_at-n.ensures
    c.in-Alternation.is

pub branches-overflow_add-from : goal.branches-overflow_add-from
branches-overflow_add-from t c = others-mid _ _ _ _ _ _ _ _ _ _ _
    c.loop-o.invariant _
    c.node_at-n.ensures
    c.in-Alternation.is _ c.places_at-from.ensures

pub emit-turns_behind-requires : goal.emit-turns_behind-requires
emit-turns_behind-requires t c = left-order _ _ _ _ _ _ _ _ _ _ _ c.loop-table.invariant _
    c.node_at-n.ensures c.in_default-sort.not-Sequence
    c.in_default.not-Alternation

pub emit-loop-table-smaller : goal.emit-loop-table-smaller
emit-loop-table-smaller t c = left_down _ _ _ _ _ _ _ _ _ _ _
    c.loop-table.invariant _
    c.node_at-n.ensures
    c.in-Sequence.is _
    c.places_at.ensures _ c.start-next.ensures _ _
    c.emit-way.ensures

pub emit-loop-table-preserved : goal.emit-loop-table-preserved
emit-loop-table-preserved t c = left-again _ _ _ _ _ _ _ _ _ _ _
    c.loop-table.invariant _
    c.node_at-n.ensures
    c.in-Sequence.is _
    c.places_at.ensures _ c.start-next.ensures _ _
    c.emit-way.ensures

pub rounds-copies-init : goal.rounds-copies-init
rounds-copies-init t c = rounds_start _ _ _ _ _ _ _ _ _ _ _ _ _ c.requires

pub rounds-overflow_add-rest : goal.rounds-overflow_add-rest
rounds-overflow_add-rest t c = rounds_copy_fits _ _ _ _ _ _ _ _ _ _ _ _ _ _ _ _ _ _ c.copies.invariant (c.args.f.copies - (c.copies.counter + 1)) (omega arith)

pub rounds-start-next-requires : goal.rounds-start-next-requires
rounds-start-next-requires t c = rounds_copy_start _ _ _ _ _ _ _ _ _ _ _ _ _ _ _ _ _ _ c.copies.invariant (c.args.f.copies - (c.copies.counter + 1)) (omega arith)

pub rounds-body-way-requires : goal.rounds-body-way-requires
rounds-body-way-requires t c = (body-lower _ _ _ c.decreases, rounds_copy _ _ _ _ _ _ _ _ _ _ _ _ _ _ _ _ _ _ c.copies.invariant (c.args.f.copies - (c.copies.counter + 1)) (omega arith) _ c.start-next.ensures)

pub rounds-copies-preserved : goal.rounds-copies-preserved
rounds-copies-preserved t c = rounds_copied _ _ _ _ _ _ _ _ _ _ _ _ _ _ _ _ _ _ c.copies.invariant (c.args.f.copies - (c.copies.counter + 1)) (omega arith) _ c.start-next.ensures _ _ c.body-way.ensures

pub rounds-round_end-back-requires : goal.rounds-round_end-back-requires
rounds-round_end-back-requires t c = rounds_round _ _ _ _ _ _ _ _ _ _ _ _ _ _ _ _ _ _ c.copies.invariant (omega arith) c.in_default.is

pub rounds-overflow_add-from : goal.rounds-overflow_add-from
rounds-overflow_add-from t c = rounds_first _ _ _ _ _ _ _ _ _ _ _ _ _ _ _ _ _ _ c.copies.invariant

pub rounds-overflow_add-from-in_default : goal.rounds-overflow_add-from-in_default
rounds-overflow_add-from-in_default t c = rounds_first _ _ _ _ _ _ _ _ _ _ _ _ _ _ _ _ _ _ c.copies.invariant

pub rounds-start-copy-requires : goal.rounds-start-copy-requires
rounds-start-copy-requires t c = rounds_star_start _ _ _ _ _ _ _ _ _ _ _ _ _ _ _ _ _ _ c.copies.invariant (omega arith) c.in_default.is _ c.round_end-back.ensures

pub rounds-fork-inside-requires : goal.rounds-fork-inside-requires
rounds-fork-inside-requires t c = rounds_star _ _ _ _ _ _ _ _ _ _ _ _ _ _ _ _ _ _ c.copies.invariant (omega arith) c.in_default.is _ c.round_end-back.ensures _ c.start-copy.ensures

pub rounds-body-requires : goal.rounds-body-requires
rounds-body-requires t c = (body-lower _ _ _ c.decreases, rounds_star_body _ _ _ _ _ _ _ _ _ _ _ _ _ _ _ _ _ _ c.copies.invariant (omega arith) c.in_default.is _ c.round_end-back.ensures _ c.start-copy.ensures _ _ c.fork-inside.ensures)

pub rounds-returns-in_default : goal.rounds-returns-in_default
rounds-returns-in_default t c = λ h. rounds_starred _ _ _ _ _ _ _ _ _ _ _ _ _ _ _ _ _ _ c.copies.invariant (omega arith) c.in_default.is _ c.round_end-back.ensures _ c.start-copy.ensures _ _ c.fork-inside.ensures _ _ c.body.ensures h

pub rounds-turns-init : goal.rounds-turns-init
rounds-turns-init t c = rounds_turns _ _ _ _ _ _ _ _ _ _ _ _ _ _ _ _ _ _ c.copies.invariant (omega arith) _ c.in-Some.is

pub rounds-overflow_add-first : goal.rounds-overflow_add-first
rounds-overflow_add-first t c = rounds_first _ _ _ _ _ _ _ _ _ _ _ _ _ _ _ _ _ _ c.turns.invariant

pub rounds-start-copy-requires-in-turns : goal.rounds-start-copy-requires-in-turns
rounds-start-copy-requires-in-turns t c = rounds_option_start _ _ _ _ _ _ _ _ _ _ _ _ _ _ _ _ _ _ c.turns.invariant (omega arith) (c.in-Some.turns - (c.turns.counter + 1)) (ap Some (omega arith))

pub rounds-fork-inside-requires-in-turns : goal.rounds-fork-inside-requires-in-turns
rounds-fork-inside-requires-in-turns t c = rounds_option _ _ _ _ _ _ _ _ _ _ _ _ _ _ _ _ _ _ c.turns.invariant (omega arith) (c.in-Some.turns - (c.turns.counter + 1)) (ap Some (omega arith)) _ c.start-copy-in-turns.ensures

pub rounds-overflow_add-rest-in-turns : goal.rounds-overflow_add-rest-in-turns
rounds-overflow_add-rest-in-turns t c = rounds_option_fits _ _ _ _ _ _ _ _ _ _ _ _ _ _ _ _ _ _ c.turns.invariant (omega arith) (c.in-Some.turns - (c.turns.counter + 1)) (ap Some (omega arith))

pub rounds-start-next-requires-in-turns : goal.rounds-start-next-requires-in-turns
rounds-start-next-requires-in-turns t c = rounds_option_rest _ _ _ _ _ _ _ _ _ _ _ _ _ _ _ _ _ _ c.turns.invariant (omega arith) (c.in-Some.turns - (c.turns.counter + 1)) (ap Some (omega arith))

pub rounds-body-way-requires-in-turns : goal.rounds-body-way-requires-in-turns
rounds-body-way-requires-in-turns t c = (body-lower _ _ _ c.decreases, rounds_option_body _ _ _ _ _ _ _ _ _ _ _ _ _ _ _ _ _ _ c.turns.invariant (omega arith) (c.in-Some.turns - (c.turns.counter + 1)) (ap Some (omega arith)) _ c.start-copy-in-turns.ensures _ _ c.fork-inside-in-turns.ensures _ c.start-next-in-turns.ensures)

pub rounds-turns-preserved : goal.rounds-turns-preserved
rounds-turns-preserved t c = rounds_optioned _ _ _ _ _ _ _ _ _ _ _ _ _ _ _ _ _ _ c.turns.invariant (omega arith) (c.in-Some.turns - (c.turns.counter + 1)) (ap Some (omega arith)) _ c.start-copy-in-turns.ensures _ _ c.fork-inside-in-turns.ensures _ c.start-next-in-turns.ensures _ _ c.body-way-in-turns.ensures

pub rounds-returns : goal.rounds-returns
rounds-returns t c = λ h. rounds_none _ _ _ _ _ _ _ _ _ _ _ _ _ _ _ _ _ _ c.turns.invariant (omega arith) (ap Some (omega arith)) h
