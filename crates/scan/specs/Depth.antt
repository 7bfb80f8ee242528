-- The counts of parentheses behind one more byte of a text.
use Rattle.std.specs.Prelude.{◌≡◌, ℕ, ◌+◌}
use Rattle.scan.specs.declared.Depth.{Depth}

-- the counts of parentheses behind one more byte: ( is 40, ) is 41
pub record Behind (b : ℕ) (d r : Depth) : Type 0 where
  pub open_counted : b ≡ 40 → (r.opened ≡ d.opened + 1) × (r.closed ≡ d.closed)
  pub shut_counted : b ≡ 41 → (r.opened ≡ d.opened) × (r.closed ≡ d.closed + 1)
  pub others : (b ≡ 40 → ⊥) → (b ≡ 41 → ⊥) → (r.opened ≡ d.opened) × (r.closed ≡ d.closed)
