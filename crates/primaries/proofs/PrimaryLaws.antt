-- Laws of a primary that is read: each is one way through one function.
use mathlib.Core.Path.{◌≡◌, refl, sym, ap, ◌∙◌}
use mathlib.Core.Bool.{Bool, true, false}
use mathlib.Core.List.{List}
use mathlib.Core.Logic.{◌⊎◌, inl, inr}
use Prim.Native.Nat.{ℕ, ◌+◌, ◌-◌, ◌≤◌, ◌<◌, min}
use native.Mathlib.Omega.{arith}
use lib.Dec.{eqb}
use lib.ListN.{length, drop}
use borrow.Author.Tests.{eq-eqb, ne_eqb}
use Rattle.std.specs.Prelude.{Result, Ok, Err}
use Rattle.rules.specs.Basics.{is_letter}
use Rattle.rules.specs.Reader.{peek, rest, skip_spaces, simple}
use Rattle.text_bytes.specs.declared.Broken.{Broken}
use Rattle.text_bytes.proofs.ByteLaws.{inside, rest-drop, letter-yes, letter-no}
use Rattle.nodes.specs.declared.Sort.{Sort}
use Rattle.nodes.specs.declared.Sort.TheVariants.{Letter, Anchor, Group}
use Rattle.nodes.specs.declared.Node.{Node}
use Rattle.trees.specs.Written.{plain_node, node_count, own}
use Rattle.primaries.specs.Readers.{SaysHead, HeadOn, SimpleSays, SkipTo, LeafIs, ShutIs}
use Rattle.primaries.specs.declared.Step.{Step}
use Rattle.primaries.specs.declared.Head.{Head}

-- a text that is wrong at a position
abbrev pub broken_at : ℕ → Result Head Broken
broken_at at = Err (record { at = at })

-- ---- letters and anchors

pub leaf_on : (s : List ℕ) (at c : ℕ) (r : Head) (k : Sort) (w : ℕ) → w ≤ 1 → at + 1 ≤ r.at → r.at ≤ length s → r.count ≡ c → r.node ≡ plain_node k 0 0 0 w → HeadOn s at c r
leaf_on s at c r k w hw h l e n =
    record {
      on = omega arith;
      inside = l;
      some = omega arith;
      few = omega arith;
      low = (let z : r.node.height ≡ 0 = ap (λ (x : Node). x.height) n in omega arith);
      few_places = (let z : r.node.places ≡ w = ap (λ (x : Node). x.places) n in omega arith);
      small = rw n (record { form = omega arith; low = omega arith; high = omega arith; left = omega arith; right = omega arith; height = omega arith; places = omega arith });
    }

module _ (s : List ℕ) (at c b : ℕ) (eb : b ≡ peek (drop at s)) where
  is_eq : (k : ℕ) → b ≡ k → eqb (peek (drop at s)) k ≡ true
  is_eq k e = eq-eqb (peek (drop at s)) k (sym eb ∙ e)

  is_ne : (k : ℕ) → (b ≡ k → ⊥) → eqb (peek (drop at s)) k ≡ false
  is_ne k e = ne_eqb (peek (drop at s)) k (λ x. e (eb ∙ x))

  pub anchor-here : (b ≡ 36) ⊎ (b ≡ 94) → at < length s
  anchor-here (inl e) = inside s at 36 (omega arith) (sym eb ∙ e)
  anchor-here (inr e) = inside s at 94 (omega arith) (sym eb ∙ e)

  pub letter-here : 65 ≤ b → at < length s
  letter-here l = inside s at b (omega arith) (sym eb)

  module _ (r : Head) where
    simple-caret : b ≡ 94 → LeafIs s at c (Anchor b) r → SimpleSays s at c (Ok r)
    unfolding simple SaysHead node_count own
    simple-caret e g =
        record {
          says = simp (is_eq 94 e) (record {
            rest = ap skip_spaces (rest-drop s at) ∙ sym g.skips.0;
            count = omega (arith, g.count);
            node = g.node ∙ ap (λ (x : ℕ). plain_node (Anchor x) 0 0 0 1) e;
          });
          on = leaf_on s at c r (Anchor b) 1 (omega arith) g.skips.1 g.skips.2 g.count g.node;
        }

    simple-dollar : b ≡ 36 → LeafIs s at c (Anchor b) r → SimpleSays s at c (Ok r)
    unfolding simple SaysHead node_count own
    simple-dollar e g =
        record {
          says = simp (is_ne 94 (λ x. omega arith), is_eq 36 e) (record {
            rest = ap skip_spaces (rest-drop s at) ∙ sym g.skips.0;
            count = omega (arith, g.count);
            node = g.node ∙ ap (λ (x : ℕ). plain_node (Anchor x) 0 0 0 1) e;
          });
          on = leaf_on s at c r (Anchor b) 1 (omega arith) g.skips.1 g.skips.2 g.count g.node;
        }

    pub simple-anchor : (b ≡ 36) ⊎ (b ≡ 94) → LeafIs s at c (Anchor b) r → SimpleSays s at c (Ok r)
    simple-anchor (inl e) g = simple-dollar e g
    simple-anchor (inr e) g = simple-caret e g

    pub simple-letter : (u : Bool) (d : ℕ) → 65 ≤ b → b ≤ 90 → d ≡ peek (drop (at + 1) s) → u ≡ is_letter d → u ≡ false → LeafIs s at c (Letter b) r → SimpleSays s at c (Ok r)
    unfolding simple SaysHead node_count own
    simple-letter u d l h ed eu ou g =
        record {
          says = simp (
            is_ne 94 (λ x. omega arith),
            is_ne 36 (λ x. omega arith),
            letter-yes (peek (drop at s)) (omega arith) (omega arith),
            (let z : is_letter (peek (rest (drop at s))) ≡ false = ap (λ (x : List ℕ). is_letter (peek x)) (rest-drop s at) ∙ ap is_letter (sym ed) ∙ sym eu ∙ ou in z),
          )
              (record { rest = ap skip_spaces (rest-drop s at) ∙ sym g.skips.0; count = omega (arith, g.count); node = g.node ∙ ap (λ (x : ℕ). plain_node (Letter x) 0 0 0 1) eb });
          on = leaf_on s at c r (Letter b) 1 (omega arith) g.skips.1 g.skips.2 g.count g.node;
        }

  pub simple-other : (b ≡ 94 → ⊥) → (b ≡ 36 → ⊥) → (65 ≤ b → b ≤ 90 → ⊥) → at ≤ length s → SimpleSays s at c (broken_at at)
  unfolding simple SaysHead
  simple-other e1 e2 e3 i =
      record {
        says = simp (is_ne 94 e1, is_ne 36 e2, letter-no (peek (drop at s)) (λ l h. e3 (omega arith) (omega arith))) (record { rest = refl; inside = i });
        on = tt;
      }

  pub simple-touch : (u : Bool) (d : ℕ) → 65 ≤ b → b ≤ 90 → d ≡ peek (drop (at + 1) s) → u ≡ is_letter d → u ≡ true → SimpleSays s at c (broken_at (at + 1))
  unfolding simple SaysHead
  simple-touch u d l h ed eu ou =
      let n = letter-here l in
      record {
        says = simp (
          is_ne 94 (λ x. omega arith),
          is_ne 36 (λ x. omega arith),
          letter-yes (peek (drop at s)) (omega arith) (omega arith),
          (let z : is_letter (peek (rest (drop at s))) ≡ true = ap (λ (x : List ℕ). is_letter (peek x)) (rest-drop s at) ∙ ap is_letter (sym ed) ∙ sym eu ∙ ou in z),
        ) (record { rest = rest-drop s at; inside = omega arith });
        on = tt;
      }

pub before-end : (s : List ℕ) (at b k : ℕ) → b ≡ peek (drop at s) → b ≡ k → 1 ≤ k → at < length s
before-end s at b k eb e h = inside s at k h (sym eb ∙ e)

-- ---- parentheses

module _ (s : List ℕ) (p : Step) where
  module _ (b : ℕ) (eb : b ≡ peek (drop p.at s)) where
    pub shut_open : (b ≡ 41 → ⊥) → ShutIs s p (broken_at p.at)
    shut_open nb = record { open_still = λ x. refl; shuts = λ y. absurd (nb (eb ∙ y)) }

    pub shut-whole : (to q : ℕ) (n : Node) → b ≡ 41 → SkipTo s (p.at + 1) to → q ≡ min (p.forks + p.places) 257 → n ≡ plain_node Group (p.count - 1) 0 (p.height + 1) q
        → ShutIs s p (Ok (record { at = to; count = p.count; node = n }))
    shut-whole to q n eb2 k eq en = record { open_still = λ y. absurd (y (sym eb ∙ eb2)); shuts = λ y. record { to = to; skips = k; is = rw (en, eq) refl } }
