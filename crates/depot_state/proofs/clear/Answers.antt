-- `depot_state::clear` fills the first 771 words.
use Rattle.std.proofs.Common.{◌≡◌, ℕ, List, ◌++◌, length, take, drop, replicate, ap, ◌∙◌, arith, length-take}
use Rattle.depot_state.proofs.clear.Goals as goal

pub returns : goal.returns
returns c =
    let rest : List ℕ = drop 771 c.args.state.now in
    let count : length (take 771 c.args.state.now) ≡ 771 = simp length-take (omega arith) in
    ap (λ l. l ++ rest) (c.fill.ensures.after (λ y e. e) ∙ ap (λ n. replicate n 0) count)
