-- The functions `branch`, `factor`, `pattern`, `primary` of pattern, which call each other, meet
-- their contracts. The measure: four times the bytes of text left, and a rank for each reader.
-- Invariants of the loops over parts: Begun. Laws: ReaderLaws, PartLaws.
use Rattle.primaries.proofs.PrimaryLaws.{before-end}
use Rattle.pattern.proofs.ReaderLaws.{factor-fails, factor-ends, primary-simple, primary-empty, primary-inner}
use Rattle.pattern.proofs.PartLaws.{begun-none, begun-chained, branch-unread, branch-whole, branch-again, pattern-unread, pattern-whole, pattern-again}
use Rattle.std.proofs.lemmas.Result.{err_from_is_err_and}
use native.Mathlib.Omega.{arith}
use borrow.Author.Rules.{rules}
use Rattle.pattern.proofs.+branch_factor_pattern_primary.Goals as goal

pub branch-loop-f-init : goal.branch-loop-f-init
branch-loop-f-init t c = begun-none _ _ _ _ _ _ _ c.requires

pub branch-returns-in_err-f : goal.branch-returns-in_err-f
branch-returns-in_err-f t c =
    let p = err_from_is_err_and c.from_residual.result c.from_residual.ensures.1 in
    rw (p.1, p.2) (branch-unread _ _ _ _ _ _ _ c.loop-f.invariant _ _ c.in_err-f.ensures)

pub branch-chain-requires : goal.branch-chain-requires
branch-chain-requires t c = begun-chained _ _ _ _ _ _ _ _ _ _ c.loop-f.invariant _ _ _ c.in_ok-f.ensures

pub branch-returns-then-ends : goal.branch-returns-then-ends
branch-returns-then-ends t c =
    branch-whole _ _ _ _ _ _ _ c.loop-f.invariant _ _ c.in_ok-f.ensures _ c.peek.ensures _ c.ends.ensures c.if-ends.true _ _ c.chain.ensures

pub branch-loop-f-preserved : goal.branch-loop-f-preserved
branch-loop-f-preserved t c = branch-again _ _ _ _ _ _ _ c.loop-f.invariant _ _ c.in_ok-f.ensures _ c.peek.ensures _ c.ends.ensures c.if-ends.false

pub factor-returns-in_err-p : goal.factor-returns-in_err-p
factor-returns-in_err-p t c =
    let p = err_from_is_err_and c.from_residual.result c.from_residual.ensures.1 in rw (p.1, p.2) (factor-fails _ _ _ _ _ _ c.in_err-p.ensures)

pub factor-returns : goal.factor-returns
factor-returns t c = factor-ends _ _ _ _ _ _ c.in_ok-p.ensures _ _ c.finish.ensures

pub pattern-loop-b-init : goal.pattern-loop-b-init
pattern-loop-b-init t c = begun-none _ _ _ _ _ _ _ c.requires

pub pattern-returns-in_err-b : goal.pattern-returns-in_err-b
pattern-returns-in_err-b t c =
    let p = err_from_is_err_and c.from_residual.result c.from_residual.ensures.1 in
    rw (p.1, p.2) (pattern-unread _ _ _ _ _ _ _ c.loop-b.invariant _ _ c.in_err-b.ensures)

pub pattern-chain-requires : goal.pattern-chain-requires
pattern-chain-requires t c = begun-chained _ _ _ _ _ _ _ _ _ _ c.loop-b.invariant _ _ _ c.in_ok-b.ensures

pub pattern-returns-then-peek-ne124 : goal.pattern-returns-then-peek-ne124
pattern-returns-then-peek-ne124 t c =
    pattern-whole _ _ _ _ _ _ _ c.loop-b.invariant _ _ c.in_ok-b.ensures _ c.peek.ensures c.if-peek-ne124.true _ _ c.chain.ensures

pub pattern-after-from-requires : goal.pattern-after-from-requires
pattern-after-from-requires t c = before-end _ _ _ _ c.peek.ensures c.if-peek-ne124.false (omega arith)

pub pattern-loop-b-preserved : goal.pattern-loop-b-preserved
pattern-loop-b-preserved t c = pattern-again _ _ _ _ _ _ _ c.loop-b.invariant _ _ c.in_ok-b.ensures _ c.peek.ensures c.if-peek-ne124.false _ c.after-from.ensures

pub primary-returns-then-peek-ne40 : goal.primary-returns-then-peek-ne40
primary-returns-then-peek-ne40 t c = search (rules, primary-simple)

pub primary-after-from-requires : goal.primary-after-from-requires
primary-after-from-requires t c = search (rules, before-end)

pub primary-empty_head-requires : goal.primary-empty_head-requires
primary-empty_head-requires t c = before-end _ _ _ _ c.peek-2.ensures c.if-peek-eq41.true (omega arith)

pub primary-returns-then-peek-eq41 : goal.primary-returns-then-peek-eq41
primary-returns-then-peek-eq41 t c = search (rules, primary-empty)

pub primary-returns : goal.primary-returns
primary-returns t c =
    primary-inner _ _ _ _ _ c.peek.ensures c.if-peek-ne40.false _ c.after-from.ensures _ c.peek-2.ensures c.requires _ _ c.pattern-p.ensures c.if-peek-eq41.false _ c.shut_group.ensures
