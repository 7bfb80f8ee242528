-- Laws of parts joined, of a factor with its quantifier, and of where a branch ends: each is one
-- way through one function.
use mathlib.Core.Path.{◌≡◌, refl, sym, ap, subst, ◌∙◌}
use mathlib.Core.List.{List}
use Prim.Native.Nat.{ℕ, ◌<◌, ◌≤◌, min}
use native.Mathlib.Omega.{arith}
use lib.ListN.{drop}
use Rattle.rules.specs.Places.{round_places}
use Rattle.rules.specs.Language.{Form, star, plus, opt, exactly, at_least, at_most, between, lower, upper, InBounds}
use Rattle.rules.specs.Reader.{Marked, unmarked, broken, marked, quantifier}
use Rattle.marks.specs.Shows.{code_of, highest, high_of, Shows}
use Rattle.marks.specs.declared.Mark.{Mark}
use Rattle.text_bytes.specs.declared.Broken.{Broken}
use Rattle.std.specs.Prelude.{Ok, Err, Some, None}
use Rattle.nodes.specs.Nodes.{number_of, put_node}
use Rattle.nodes.specs.declared.Form.{Form as Kind}
use Rattle.laws.proofs.GrammarSound.{marked-in}
use Rattle.trees.proofs.RoundLaws.{form_order, rounds_eq}
use Rattle.nodes.specs.declared.Node.{Node}
use Rattle.trees.specs.Written.{rounds_of, InOrder}
use Rattle.primaries.specs.Readers.{Holding, FitsHead, step_to, FinishedAs, FactorFinished}
use Rattle.primaries.specs.declared.Step.{Step}
use Rattle.primaries.specs.declared.Head.{Head}

-- ---- finish

form_small : (f : Form) → InBounds f → (lower f ≤ 99) × (high_of f ≤ 100)
unfolding lower high_of highest upper InBounds
form_small star i = (omega arith, omega arith)
form_small plus i = (omega arith, omega arith)
form_small opt i = (omega arith, omega arith)
form_small (exactly n) i = (omega (arith, i.1), omega (arith, i.1))
form_small (at_least n) i = (omega (arith, i), omega arith)
form_small (at_most m) i = (omega arith, omega (arith, i.1))
form_small (between n m) i = (omega (arith, i.1, i.2), omega (arith, i.2))

code_small : (f : Form) → number_of (code_of f) < 32768
unfolding code_of
code_small star = omega arith
code_small plus = omega arith
code_small opt = omega arith
code_small (exactly n) = omega arith
code_small (at_least n) = omega arith
code_small (at_most m) = omega arith
code_small (between n m) = omega arith

-- a node with a quantifier that is read
abbrev pub marking : Node → Mark → ℕ → Node
marking n q places =
    record {
      sort = n.sort;
      form = q.form;
      lazy = q.lazy;
      low = q.low;
      high = q.high;
      left = n.left;
      right = n.right;
      height = n.height;
      places = places;
    }

module _ (s m : List ℕ) (p : Head) where
  pub finish_none : (t : List ℕ) (r : Step) → Shows s p.at (Ok None) (quantifier (drop p.at s))
      → (r ≡ step_to p.at p p.node.places) × (t ≡ put_node m p.count p.node) → FactorFinished s m t p (Ok r)
  unfolding Shows FinishedAs
  finish_none t r h g = record { ends = by (quantifier (drop p.at s)) h }
    where
      by : (k : Marked) → Shows s p.at (Ok None) k → FinishedAs s m t p (Ok r) k
      by unmarked h = (ap Ok g.0, g.1)
      by (broken u) h = absurd h
      by (marked f z u) h = absurd h

  pub finish_broken : (e : Broken) → Shows s p.at (Err e) (quantifier (drop p.at s)) → FactorFinished s m m p (Err e)
  unfolding Shows FinishedAs
  finish_broken e h = record { ends = by (quantifier (drop p.at s)) h }
    where
      by : (k : Marked) → Shows s p.at (Err e) k → FinishedAs s m m p (Err e) k
      by unmarked h = absurd h
      by (broken u) h = (h, refl)
      by (marked f z u) h = absurd h

  module _ (q : Mark) (h : Shows s p.at (Ok (Some q)) (quantifier (drop p.at s))) where
    pub finish_found : (t : List ℕ) (r : Step) (q2 : ℕ) → q2 ≡ min (rounds_of q.low q.high p.node.places) 257
        → (r ≡ step_to q.at p q2) × (t ≡ put_node m p.count (marking p.node q q2)) → FactorFinished s m t p (Ok r)
    unfolding Shows FinishedAs
    finish_found t r q2 eq g = record { ends = by (quantifier (drop p.at s)) refl h }
      where
        by : (k : Marked) → quantifier (drop p.at s) ≡ k → Shows s p.at (Ok (Some q)) k → FinishedAs s m t p (Ok r) k
        by unmarked d h = absurd h
        by (broken u) d h = absurd h
        by (marked f z u) d h =
            let i = h.codes in
            let e6 : q2 ≡ min (round_places (lower f) (upper f) p.node.places) 257 =
            eq ∙ ap (λ (x : ℕ). min (rounds_of x q.high p.node.places) 257) i.from ∙ ap (λ (x : ℕ). min (rounds_of (lower f) x p.node.places) 257) i.upto
            ∙ ap (λ (x : ℕ). min x 257) (rounds_eq f p.node.places (marked-in (drop p.at s) f z u d)) in
            record {
              to = q.at;
              is = ap Ok (g.0 ∙ ap (step_to q.at p) e6);
              rest = h.rest;
              on = h.on;
              inside = h.inside;
              wrote = g.1 ∙ rw (i.code, i.from, i.upto, h.lazy, e6) refl;
            }

    pub mark-holding : (q2 : ℕ) → q2 ≡ min (rounds_of q.low q.high p.node.places) 257 → FitsHead s m p → Holding m p.count (marking p.node q q2)
    unfolding Shows
    mark-holding q2 eq w = by (quantifier (drop p.at s)) refl h
      where
        by : (k : Marked) → quantifier (drop p.at s) ≡ k → Shows s p.at (Ok (Some q)) k → Holding m p.count (marking p.node q q2)
        by unmarked d h = absurd h
        by (broken u) d h = absurd h
        by (marked f z u) d h =
            let i = h.codes in
            let g = form_small f (marked-in (drop p.at s) f z u d) in
            let k = w.holding.small in
            record {
              fits = w.holding.fits;
              few = w.holding.few;
              small = record {
                form = subst (λ (k : Kind). number_of k < 32768) (sym i.code) (code_small f);
                low = omega (arith, i.from, g.0);
                high = omega (arith, i.upto, g.1);
                left = k.left;
                right = k.right;
                height = k.height;
                places = omega arith;
              };
            }

    pub mark-order : InOrder q.low q.high
    unfolding Shows
    mark-order = by (quantifier (drop p.at s)) refl h
      where
        by : (k : Marked) → quantifier (drop p.at s) ≡ k → Shows s p.at (Ok (Some q)) k → InOrder q.low q.high
        by unmarked d h = absurd h
        by (broken u) d h = absurd h
        by (marked f z u) d h = rw (h.codes.from, h.codes.upto) (form_order f (marked-in (drop p.at s) f z u d))
