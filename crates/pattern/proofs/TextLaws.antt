-- Laws of reading a whole text, and the tree that the room holds then.
use mathlib.Core.Path.{◌≡◌, refl, sym, ap, ◌∙◌, subst}
use Rattle.std.specs.Prelude.{Result, Ok, Err}
use Rattle.text_bytes.specs.declared.Broken.{Broken}
use mathlib.Core.List.{List, []}
use mathlib.Core.Option.{some}
use Prim.Native.Nat.{ℕ, ◌+◌, ◌*◌, ◌-◌, ◌≤◌, ◌<◌}
use native.Mathlib.Omega.{arith}
use lib.ListN.{length, get_or, drop, length-drop}
use lib.Seq.{drop-length, drop-cons}
use Rattle.rules.specs.Language.{pattern, Tree}
use Rattle.rules.specs.Reader.{Reading, got, bad, left, skip_spaces, read, rank_of, depth, whole_tree, tree_of, stop_of}
use Rattle.trees.specs.Written.{node_count}
use Rattle.primaries.specs.Readers.{Fits, PhraseReads, SkipTo, ParsedAs, TextSays, Parsed}
use Rattle.primaries.specs.declared.Step.{Step}
use Rattle.trees.specs.Held.{Top}
use Rattle.laws.proofs.GrammarSound.{found-written}
use Rattle.laws.proofs.Bounds.{written-bounds, written-letters}
use Rattle.trees.proofs.Holds.{pattern-nodes, written_held}
use Rattle.pattern.proofs.ReaderLaws.{Read, says-bad, says-got}

-- ---- a whole text

module _ (s : List ℕ) (from : ℕ) (m0 m1 : List ℕ) (p : Result Step Broken) (k : SkipTo s 0 from) (h : PhraseReads pattern s from 0 m0 m1 p) where
  text-is : tree_of s ≡ whole_tree (read (4 * length s + 4) pattern (drop from s))
  unfolding tree_of
  text-is = ap (λ (u : List ℕ). whole_tree (read (4 * length s + 4) pattern u)) (sym k.0)

  enough : depth pattern (drop from s) ≤ 4 * length s + 4
  unfolding depth rank_of
  enough = omega (arith, length-drop from s)

  text-kept : (j : ℕ) → 16 * length s ≤ j → get_or m1 j 0 ≡ get_or m0 j 0
  text-kept j l = h.kept j (λ a b. omega arith)

  -- where reading stops, by the bytes that are left
  stop-at : (x : Reading (Tree pattern)) (j : ℕ) → read (4 * length s + 4) pattern (drop from s) ≡ x → left x ≡ drop j s → j ≤ length s → j ≡ stop_of s
  unfolding stop_of
  stop-at x j e q i =
      let a : length (left (read (4 * length s + 4) pattern (skip_spaces s))) ≡ length (drop j s) =
      ap (λ (u : List ℕ). length (left (read (4 * length s + 4) pattern u))) (sym k.0) ∙ ap (λ (r : Reading (Tree pattern)). length (left r)) e ∙ ap length q in
      omega (arith, length-drop j s)

pub text-none : (s : List ℕ) (from : ℕ) (m0 m1 : List ℕ) (e : Broken) → SkipTo s 0 from → PhraseReads pattern s from 0 m0 m1 (Err e) → TextSays s m0 m1 (Err e)
unfolding ParsedAs whole_tree left
text-none s from m0 m1 e k h =
    let x = says-bad pattern s 0 m0 m1 e _ (h.says _ (enough s from m0 m1 (Err e) k h)) in
    record {
      says = rw (text-is s from m0 m1 (Err e) k h, x.0) tt;
      stop = stop-at s from m0 m1 (Err e) k h (bad (drop e.at s)) e.at x.0 refl x.1;
      kept = text-kept s from m0 m1 (Err e) k h;
      len = h.len;
    }

module _ (s : List ℕ) (from : ℕ) (m0 m1 : List ℕ) (p : Step) (k : SkipTo s 0 from) (h : PhraseReads pattern s from 0 m0 m1 (Ok p)) where
  found : Read pattern s 0 m0 m1 p (read (4 * length s + 4) pattern (drop from s))
  found = says-got pattern s 0 m0 m1 p _ (h.says _ (enough s from m0 m1 (Ok p) k h))

  stopped : p.at ≡ stop_of s
  unfolding left
  stopped = stop-at s from m0 m1 (Ok p) k h (got found.tree (drop p.at s)) p.at found.is refl h.on.inside

  pub text-rest : (p.at ≡ length s → ⊥) → TextSays s m0 m1 (Err (record { at = p.at }))
  unfolding ParsedAs whole_tree
  text-rest n =
      let l : p.at < length s = omega (arith, h.on.inside, n) in
      record { says = rw (text-is s from m0 m1 (Ok p) k h, found.is, drop-cons s p.at 0 l) tt; stop = stopped; kept = text-kept s from m0 m1 (Ok p) k h; len = h.len }

  pub text-whole : p.at ≡ length s → TextSays s m0 m1 (Ok p)
  unfolding ParsedAs whole_tree
  text-whole e =
      let q : drop p.at s ≡ [] = ap (λ (i : ℕ). drop i s) e ∙ drop-length s in
      record {
        says = rw (text-is s from m0 m1 (Ok p) k h, found.is, q) (record {
          count = found.count ∙ (let z : 0 + node_count found.tree ≡ node_count found.tree = omega arith in z);
          few =
              (let w = h.on in let v = found.count in omega (arith, w.few, w.inside));
          high = found.high;
          placed = found.placed;
          forked = found.forked;
          wrote = found.wrote;
        });
        stop = stopped;
        kept = text-kept s from m0 m1 (Ok p) k h;
        len = h.len;
      }

-- a text's tree is held at the last node that reading it leaves
pub text-top : (text room exit : List ℕ) (r : Step) (p : Tree pattern) → tree_of text ≡ some p → Fits text 0 room 0 → TextSays text room exit (Ok r) → Top p (r.count - 1) exit
unfolding ParsedAs
text-top text room exit r p e f h =
    let d : Parsed text room exit r p = subst (ParsedAs text room exit (Ok r)) e h.says in
    let w = found-written p text e in
    let n = d.few in
    let l : 8 * (0 + node_count p) ≤ length room = omega (arith, f.fits) in
    record {
      base = 0;
      top = omega (arith, d.count, pattern-nodes p);
      held = rw d.wrote (written_held p 0 room (written-bounds w) (written-letters w) l);
      fits = omega (arith, h.len);
    }
