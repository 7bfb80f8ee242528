-- The verdict: one law for each way through `judge`.
use mathlib.Core.Path.{◌≡◌, refl, sym, ap, ◌∙◌}
use mathlib.Core.Bool.{Bool, true, false}
use Rattle.std.specs.Prelude.{Result, Ok, Err}
use mathlib.Core.List.{List, [], ◌∷◌}
use mathlib.Core.Option.{Option, none, some}
use Prim.Native.Nat.{ℕ, ◌+◌, ◌-◌, ◌^◌, ◌≤◌, ◌<◌, min}
use native.Mathlib.Omega.{arith}
use mir.Val.{Fits as Fits-in}
use mir.Syntax.{w64}
use lib.Dec.{ltb}
use lib.ListN.{length}
use borrow.Author.Tests.{lt-ltb, le-ltb, eq-eqb, ltb-true, ltb-false}
use Rattle.rules.specs.Language.{pattern, Tree, one, more, loop_nesting}
use Rattle.rules.specs.Reader.{tree_of, stop_of}
use Rattle.laws.proofs.Stops.{stop-inside}
use Rattle.rules.specs.Places.{fork, places_of, factor_of}
use Rattle.rules.specs.Answers.{deep, no_tree, wrong, incomplete, nested_loops, too_many, P, F, first_of, offset_at}
use Rattle.primaries.specs.declared.Step.{Step}
use Rattle.primaries.specs.Readers.{Fits, Parsed, ParsedAs, TextSays}
use Rattle.trees.specs.Held.{Top, At}
use Rattle.trees.proofs.Holds.{pattern-nodes}
use Rattle.pattern.proofs.TextLaws.{text-top}
use Rattle.refusals.specs.declared.Refusal.{Refusal}
use Rattle.refusals.specs.declared.Refusal.TheVariants.{TooDeep, Broken, Nested, TooMany, Unfinished}
use Rattle.text_bytes.specs.declared.Broken.{Broken as Stop}
use Rattle.judge.specs.Judged.{text_tests, text_answer, stopped_at, Judging}
use Rattle.loops.specs.Loops.{Nesting}

-- ---- the verdict

module _ (s m0 m1 : List ℕ) where
  answer_is : (a b c d e : Bool) → deep 0 0 s ≡ a → wrong s ≡ b → incomplete s ≡ c → nested_loops (tree_of s) ≡ d → too_many (tree_of s) ≡ e
      → text_answer s ≡ first_of ((4, a) ∷ (5, b) ∷ (14, c) ∷ (6, d) ∷ (7, e) ∷ [])
  unfolding text_answer text_tests
  answer_is a b c d e e1 e2 e3 e4 e5 = rw (e1, e2, e3, e4, e5) refl

  pub judge_deep : (t : Bool) → t ≡ deep 0 0 s → t ≡ true → Judging s m0 m0 (Err TooDeep)
  unfolding first_of offset_at
  judge_deep t e o =
      record { answer = sym (answer_is true _ _ _ _ (sym e ∙ o) refl refl refl refl); offset = refl; places = tt; factor = tt; top = tt; kept = λ j l. refl; len = refl }

  module _ (d : Bool) (ed : d ≡ deep 0 0 s) (nd : d ≡ false) (p : Stop) (h : TextSays s m0 m1 (Err p)) where
    outside : no_tree (tree_of s) ≡ true
    unfolding no_tree ParsedAs
    outside = go (tree_of s) h.says
      where
        go : (x : Option (Tree pattern)) → ParsedAs s m0 m1 (Err p) x → no_tree x ≡ true
        go none q = refl
        go (some t) q = absurd q

    judge_wrong : p.at < length s → Judging s m0 m1 (Err (Broken p.at))
    unfolding first_of offset_at wrong
    judge_wrong l =
        record {
          answer = sym (answer_is false true _ _ _ (sym ed ∙ nd) (rw (outside, lt-ltb (stop_of s) (length s) (omega (arith, h.stop))) refl) refl refl refl);
          offset = h.stop;
          places = tt;
          factor = tt;
          top = tt;
          kept = h.kept;
          len = h.len;
        }

    judge_incomplete : length s ≤ p.at → Judging s m0 m1 (Err (Unfinished p.at))
    unfolding first_of offset_at wrong incomplete
    judge_incomplete l =
        let i = stop-inside s in
        let q : stop_of s ≡ length s = omega (arith, h.stop) in
        record {
          answer =
              sym (answer_is false false true _ _ (sym ed ∙ nd) (rw (outside, le-ltb (stop_of s) (length s) (omega arith)) refl)
              (rw (outside, eq-eqb (stop_of s) (length s) q) refl) refl refl);
          offset = h.stop;
          places = tt;
          factor = tt;
          top = tt;
          kept = h.kept;
          len = h.len;
        }

    judge_broken : Judging s m0 m1 (Err (stopped_at s p.at))
    judge_broken = by (ltb p.at (length s)) refl
      where
        by : (t : Bool) → ltb p.at (length s) ≡ t → Judging s m0 m1 (Err (stopped_at s p.at))
        by true e = rw e (judge_wrong (ltb-true _ _ e))
        by false e = rw e (judge_incomplete (ltb-false _ _ e))

  pub judge_stopped : (d : Bool) → d ≡ deep 0 0 s → d ≡ false → (q : Result Step Stop) (r : Refusal) → TextSays s m0 m1 q
      → ((p : Step) → q ≡ Ok p → ⊥) → ((e : Stop) → q ≡ Err e → r ≡ stopped_at s e.at) → Judging s m0 m1 (Err r)
  judge_stopped d ed nd (Ok p) r h n k = absurd (n p refl)
  judge_stopped d ed nd (Err e) r h n k = rw (k e refl) (judge_broken d ed nd e h)

  record Tree_at (p : Step) : Type 0 where
    tree : Tree pattern
    is : tree_of s ≡ some tree
    parsed : Parsed s m0 m1 p tree
    top : Top tree (p.count - 1) m1

  module _ (p : Step) (h : TextSays s m0 m1 (Ok p)) (f : Fits s 0 m0 0) where
    tree-of : Tree_at p
    unfolding ParsedAs
    tree-of = go (tree_of s) refl h.says
      where
        go : (x : Option (Tree pattern)) → tree_of s ≡ x → ParsedAs s m0 m1 (Ok p) x → Tree_at p
        go none e q = absurd q
        go (some t) e q = record { tree = t; is = e; parsed = q; top = text-top s m0 m1 p t e f h }

    pub some-node : 1 ≤ p.count
    some-node = let t = tree-of in omega (arith, t.parsed.count, pattern-nodes t.tree)

    pub top_at : At m1 (p.count - 1)
    top_at = record { tree = tree-of.tree; is = tree-of.top }

    fork-small : (t : Tree pattern) → fork t ≤ 1
    unfolding fork
    fork-small (one b) = omega arith
    fork-small (more b t) = omega arith

    -- P as it is counted
    counted : (p.forks + p.places ≤ 258) × (256 < p.forks + p.places + 1 → 256 < places_of tree-of.tree) × (p.forks + p.places + 1 ≤ 256
        → places_of tree-of.tree ≡ p.forks + p.places + 1)
    unfolding places_of
    counted =
        let t = tree-of in let a = t.parsed.forked in let b = t.parsed.placed in
        (omega (arith, fork-small t.tree), λ l. omega (arith, fork-small t.tree), λ l. omega (arith, fork-small t.tree))

    pub sum_fits : Fits-in w64 (p.forks + p.places)
    sum_fits = record { fits = omega (arith, counted.0) }

    pub more-fits : Fits-in w64 (p.forks + p.places + 1)
    more-fits = record { fits = omega (arith, counted.0) }

    module _ (d : Bool) (ed : d ≡ deep 0 0 s) (nd : d ≡ false) (l : ℕ) (hl : Nesting m1 (p.count - 1) l) where
      seen : no_tree (tree_of s) ≡ false
      unfolding no_tree
      seen = ap no_tree tree-of.is

      not-wrong : wrong s ≡ false
      unfolding wrong
      not-wrong = rw seen refl

      not-incomplete : incomplete s ≡ false
      unfolding incomplete
      not-incomplete = rw seen refl

      nest-is : l ≡ min (loop_nesting tree-of.tree) 4
      nest-is = hl tree-of.tree tree-of.top

      looped : (t : Bool) → ltb 3 (loop_nesting tree-of.tree) ≡ t → nested_loops (tree_of s) ≡ t
      unfolding nested_loops
      looped t e = ap nested_loops tree-of.is ∙ e

      deep-nest : 3 < l → nested_loops (tree_of s) ≡ true
      deep-nest g = looped true (lt-ltb 3 (loop_nesting tree-of.tree) (omega (arith, nest-is)))

      few_nest : l ≤ 3 → nested_loops (tree_of s) ≡ false
      few_nest g = looped false (le-ltb 3 (loop_nesting tree-of.tree) (omega (arith, nest-is)))

      factor-is : l ≤ 3 → (f : ℕ) → f ≡ 2 ^ l → f ≡ F (tree_of s)
      unfolding F factor_of
      factor-is g f e = let q : loop_nesting tree-of.tree ≡ l = omega (arith, nest-is) in rw (e, tree-of.is, q)

      many : (t : Bool) → ltb 256 (places_of tree-of.tree) ≡ t → too_many (tree_of s) ≡ t
      unfolding too_many P
      many t e = ap too_many tree-of.is ∙ e

      pub judge_loop : 3 < l → Judging s m0 m1 (Err Nested)
      unfolding first_of offset_at
      judge_loop ol = record {
        answer = sym (answer_is false false false true _ (sym ed ∙ nd) not-wrong not-incomplete (deep-nest ol) refl);
        offset = refl;
        places = tt;
        factor = tt;
        top = tt;
        kept = h.kept;
        len = h.len;
      }

      pub judge_many : l ≤ 3 → 256 < p.forks + p.places + 1 → Judging s m0 m1 (Err TooMany)
      unfolding first_of offset_at
      judge_many ol g =
          record {
            answer = sym (answer_is false false false false true (sym ed ∙ nd) not-wrong not-incomplete (few_nest ol) (many true (lt-ltb 256 (places_of tree-of.tree) (counted.1 g))));
            offset = refl;
            places = tt;
            factor = tt;
            top = tt;
            kept = h.kept;
            len = h.len;
          }

      pub judge_good : l ≤ 3 → p.forks + p.places + 1 ≤ 256 → (m : ℕ) → m ≡ 2 ^ l → Judging s m0 m1 (Ok (record { places = p.forks + p.places + 1; factor = m; top = p.count - 1 }))
      unfolding first_of offset_at P
      judge_good ol g m em =
          record {
            answer = sym (answer_is false false false false false (sym ed ∙ nd) not-wrong not-incomplete (few_nest ol) (many false (le-ltb 256 (places_of tree-of.tree) (omega (arith, counted.2 g)))));
            offset = refl;
            places = sym (ap P tree-of.is ∙ counted.2 g);
            factor = factor-is ol m em;
            top = λ p2 e2. text-top s m0 m1 p p2 e2 f h;
            kept = h.kept;
            len = h.len;
          }
