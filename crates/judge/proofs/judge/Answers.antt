-- `judge::judge` meets its contract. Laws: Laws. What is told of the reader's Ok stands at each goal,
-- since each has facts of a type of its own.
use Rattle.judge.proofs.Laws.{judge_deep, judge_stopped, some-node, top_at, sum_fits, more-fits, judge_loop, judge_many, judge_good}
use Rattle.std.proofs.lemmas.Result.{err_from_is_err_and}
use borrow.Author.Rules.{rules}
use native.Mathlib.Omega.{arith}
use mathlib.Core.Path.{◌≡◌}
use Rattle.std.specs.Prelude.{Ok}
use Rattle.judge.proofs.judge.Goals as goal

pub returns-then-too_deep : goal.returns-then-too_deep
returns-then-too_deep c = search (rules, judge_deep)

pub returns-in_err-p : goal.returns-in_err-p
returns-in_err-p c =
    let p = err_from_is_err_and c.from_residual.result c.from_residual.ensures.1 in
    let h = c.in_err-p.ensures.cases in
    rw (p.1, p.2) (judge_stopped _ _ _ _ c.too_deep.ensures c.if-too_deep.false _ _ c.read_text.ensures (λ q e. grind (arith, h)) (λ d e. grind (arith, h)))

pub overflow_sub-top : goal.overflow_sub-top
overflow_sub-top c =
    let h = c.in_ok-p.ensures.cases in
    let k : c.read_text.result ≡ Ok c.in_ok-p.p = grind (arith, h) in
    some-node _ _ _ _ (rw k at c.read_text.ensures) c.requires

pub nesting-nested-requires : goal.nesting-nested-requires
nesting-nested-requires c =
    let h = c.in_ok-p.ensures.cases in
    let k : c.read_text.result ≡ Ok c.in_ok-p.p = grind (arith, h) in
    top_at _ _ _ _ (rw k at c.read_text.ensures) c.requires

pub returns-then-nested-gt-MOST_NESTED : goal.returns-then-nested-gt-MOST_NESTED
returns-then-nested-gt-MOST_NESTED c =
    let h = c.in_ok-p.ensures.cases in
    let k : c.read_text.result ≡ Ok c.in_ok-p.p = grind (arith, h) in
    judge_loop _ _ _ _ (rw k at c.read_text.ensures) c.requires _ c.too_deep.ensures c.if-too_deep.false _ c.nesting-nested.ensures.0 c.if-nested-gt-MOST_NESTED.true

pub overflow_add-places : goal.overflow_add-places
overflow_add-places c =
    let h = c.in_ok-p.ensures.cases in
    let k : c.read_text.result ≡ Ok c.in_ok-p.p = grind (arith, h) in
    sum_fits _ _ _ _ (rw k at c.read_text.ensures) c.requires

pub overflow_add-places-2 : goal.overflow_add-places-2
overflow_add-places-2 c =
    let h = c.in_ok-p.ensures.cases in
    let k : c.read_text.result ≡ Ok c.in_ok-p.p = grind (arith, h) in
    more-fits _ _ _ _ (rw k at c.read_text.ensures) c.requires

pub returns-then-places-gt-MOST_PLACES : goal.returns-then-places-gt-MOST_PLACES
returns-then-places-gt-MOST_PLACES c =
    let h = c.in_ok-p.ensures.cases in
    let k : c.read_text.result ≡ Ok c.in_ok-p.p = grind (arith, h) in
    judge_many _ _ _ _ (rw k at c.read_text.ensures) c.requires _ c.too_deep.ensures c.if-too_deep.false _ c.nesting-nested.ensures.0
    c.if-nested-gt-MOST_NESTED.false c.if-places-gt-MOST_PLACES.true

pub returns : goal.returns
returns c =
    let h = c.in_ok-p.ensures.cases in
    let k : c.read_text.result ≡ Ok c.in_ok-p.p = grind (arith, h) in
    judge_good _ _ _ _ (rw k at c.read_text.ensures) c.requires _ c.too_deep.ensures c.if-too_deep.false _ c.nesting-nested.ensures.0
    c.if-nested-gt-MOST_NESTED.false c.if-places-gt-MOST_PLACES.false _ c.factor_of.ensures.0
