-- Laws of the four readers: each is one way through one reader.
use mathlib.Core.Path.{◌≡◌, refl, sym, ap, ◌∙◌, subst}
use mathlib.Core.Bool.{Bool, true, false}
use mathlib.Core.List.{List}
use Prim.Native.Nat.{ℕ, zero, suc, ◌+◌, ◌*◌, ◌-◌, ◌≤◌, max, min}
use native.Mathlib.Omega.{arith}
use lib.Dec.{eqb}
use lib.ListN.{length, get_or, drop, length-drop}
use borrow.Author.Tests.{eq-eqb, ne_eqb, eqb-true, eqb-false}
use Rattle.std.specs.Prelude.{Result, Ok, Err, MatchResult}
use Rattle.rules.specs.Basics.{is_letter}
use Rattle.text_bytes.specs.Numerals.{Stops}
use Rattle.text_bytes.specs.declared.Broken.{Broken}
use Rattle.rules.specs.Places.{round_places, fork, place_count}
use Rattle.rules.specs.Language.{Form, lower, upper, Rank, pattern, branch, factor, primary, Tree, one, more, last, next, bare, times, empty, group}
use Rattle.rules.specs.Reader.{Reading, got, bad, peek, rest, skip_spaces, Marked, unmarked, broken, marked, quantifier, branch_ends, under, alt_on, alt_with, seq_on, seq_with, times_on, times_with, closed, parted, simple, primary_on, read, rank_of, depth}
use Rattle.text_bytes.proofs.ByteLaws.{inside, rest-drop}
use Rattle.nodes.specs.Nodes.{put_node}
use Rattle.laws.proofs.GrammarSound.{pick-both}
use Rattle.laws.proofs.Counting.{cap-rounds}
use Rattle.nodes.proofs.Put.{put_other, put_length}
use Rattle.nodes.specs.declared.Sort.{Sort}
use Rattle.nodes.specs.declared.Sort.TheVariants.{Empty, Sequence, Alternation, Group}
use Rattle.nodes.specs.declared.Node.{Node}
use Rattle.trees.specs.Written.{plain_node, with_mark, node_count, height, own, written}
use Rattle.primaries.specs.Readers.{fork_of, KeptOutside, Fits, Says, On, PhraseReads, SaysHead, Wrote, HeadOn, SimpleSays, ReadsHead, step_to, FinishedMark, FinishedAs, FactorFinished, Joined, SkipTo, EmptyIs, Shut, ShutIs}
use Rattle.primaries.proofs.PrimaryLaws.{leaf_on}
use Rattle.primaries.specs.declared.Step.{Step}
use Rattle.primaries.specs.declared.Head.{Head}
use Rattle.trees.proofs.ByNode.{own-height, own-places}

at_suc : (P : ℕ → Type 0) (k : ℕ) → ((m : ℕ) → k ≤ m → P (suc m)) → (n : ℕ) → k + 1 ≤ n → P n
at_suc P k f zero h = absurd (omega arith)
at_suc P k f (suc m) h = f m (omega arith)

kept_none : (lo hi : ℕ) (s : List ℕ) → KeptOutside lo hi s s
kept_none lo hi s j h = refl

kept_wide : (lo hi lo2 hi2 : ℕ) (s t : List ℕ) → lo2 ≤ lo → hi ≤ hi2 → KeptOutside lo hi s t → KeptOutside lo2 hi2 s t
kept_wide lo hi lo2 hi2 s t l h k j f = k j (λ a b. f (omega arith) (omega arith))

kept_on : (lo hi : ℕ) (s t u : List ℕ) → KeptOutside lo hi s t → KeptOutside lo hi t u → KeptOutside lo hi s u
kept_on lo hi s t u k g j f = g j f ∙ k j f

kept_put : (s t : List ℕ) (i : ℕ) (n : Node) → t ≡ put_node s i n → KeptOutside (8 * i) (8 * i + 8) s t
kept_put s t i n e j f = ap (λ (u : List ℕ). get_or u j 0) e ∙ put_other s i j n f

-- ---- the readers' answers

pub says-bad : (k : Rank) (s : List ℕ) (c : ℕ) (m t : List ℕ) (e : Broken) (x : Reading (Tree k)) → Says k s c m t (Err e) x → (x ≡ bad (drop e.at s)) × (e.at ≤ length s)
unfolding Says
says-bad k s c m t e (bad u) h = (ap bad h.rest, h.inside)
says-bad k s c m t e (got x u) h = absurd h

pub record Read (k : Rank) (s : List ℕ) (c : ℕ) (m t : List ℕ) (r : Step) (x : Reading (Tree k)) : Type 0 where
  pub tree : Tree k
  pub is : x ≡ got tree (drop r.at s)
  pub count : r.count ≡ c + node_count tree
  pub high : r.height ≡ height tree
  pub placed : r.places ≡ min (place_count tree) 257
  pub forked : r.forks ≡ fork_of k tree
  pub wrote : t ≡ written tree c m

pub says-got : (k : Rank) (s : List ℕ) (c : ℕ) (m t : List ℕ) (r : Step) (x : Reading (Tree k)) → Says k s c m t (Ok r) x → Read k s c m t r x
unfolding Says
says-got k s c m t r (bad u) h = absurd h
says-got k s c m t r (got x u) h = record { tree = x; is = ap (got x) h.rest; count = h.count; high = h.high; placed = h.placed; forked = h.forked; wrote = h.wrote }

head_bad : (s : List ℕ) (c : ℕ) (e : Broken) (x : Reading (Tree primary)) → SaysHead s c (Err e) x → (x ≡ bad (drop e.at s)) × (e.at ≤ length s)
unfolding SaysHead
head_bad s c e (bad u) h = (ap bad h.rest, h.inside)
head_bad s c e (got x u) h = absurd h

record ReadHead (s : List ℕ) (c : ℕ) (m t : List ℕ) (r : Head) (x : Reading (Tree primary)) : Type 0 where
  tree : Tree primary
  is : x ≡ got tree (drop r.at s)
  count : r.count ≡ c + node_count tree
  node : r.node ≡ own tree c
  wrote : t ≡ written tree c m

head_got : (s : List ℕ) (c : ℕ) (m t : List ℕ) (r : Head) (x : Reading (Tree primary)) → SaysHead s c (Ok r) x → Wrote c m t x → ReadHead s c m t r x
unfolding SaysHead Wrote
head_got s c m t r (bad u) h w = absurd h
head_got s c m t r (got x u) h w = record { tree = x; is = ap (got x) h.rest; count = h.count; node = h.node; wrote = w }

abbrev room_of : List ℕ → ℕ → ℕ → ℕ
room_of s at c = 8 * (c + 2 * (length s - at))

-- an answer of no reading
no-reading : (k : Rank) (s : List ℕ) (at c : ℕ) (m t : List ℕ) (e : Broken) → KeptOutside (8 * c) (room_of s at c) m t → length t ≡ length m
    → ((n : ℕ) → 4 * length (drop at s) + rank_of k ≤ n → (read (suc n) k (drop at s) ≡ bad (drop e.at s)) × (e.at ≤ length s)) → PhraseReads k s at c m t (Err e)
unfolding depth Says
no-reading k s at c m t e kp l f =
    record {
      says = at_suc (λ n. Says k s c m t (Err e) (read n k (drop at s))) (4 * length (drop at s) + rank_of k)
          (λ n h. let d = f n h in rw d.0 (record { rest = refl; inside = d.1 }));
      on = tt;
      kept = kp;
      len = l;
    }

-- an answer of a reading
a-reading : (k : Rank) (s : List ℕ) (at c : ℕ) (m t : List ℕ) (r : Step) → On s at c r → KeptOutside (8 * c) (room_of s at c) m t → length t ≡ length m
    → ((n : ℕ) → 4 * length (drop at s) + rank_of k ≤ n → Read k s c m t r (read (suc n) k (drop at s))) → PhraseReads k s at c m t (Ok r)
unfolding depth Says
a-reading k s at c m t r o kp l f =
    record {
      says = at_suc (λ n. Says k s c m t (Ok r) (read n k (drop at s))) (4 * length (drop at s) + rank_of k)
          (λ n h. let d = f n h in rw d.is (record { rest = refl; count = d.count; high = d.high; placed = d.placed; forked = d.forked; wrote = d.wrote }));
      on = o;
      kept = kp;
      len = l;
    }

-- the room of a later reader lies in the room
later : (s : List ℕ) (at c to d : ℕ) (m t : List ℕ) → at ≤ to → to ≤ length s → c ≤ d → d ≤ c + 2 * (to - at) → KeptOutside (8 * d) (room_of s to d) m t
    → KeptOutside (8 * c) (room_of s at c) m t
later s at c to d m t h l g e k = kept_wide (8 * d) (room_of s to d) (8 * c) (room_of s at c) m t (omega arith) (omega arith) k

-- ---- two parts joined

module _ (s : List ℕ) (at c : ℕ) (m0 m1 m2 m3 : List ℕ) (a b w : Step) (to : ℕ) (k : Sort) (fk : ℕ) where
  joins_on : fk ≤ 1 → On s at c a → a.at ≤ to → On s to a.count b → Joined m2 m3 k fk a b w → On s at c w
  joins_on hf o l q j =
      let e1 : w.at ≡ b.at = ap (λ (x : Step). x.at) j.is in
      let e2 : w.count ≡ b.count + 1 = ap (λ (x : Step). x.count) j.is in
      let e3 : w.height ≡ max a.height b.height + 1 = ap (λ (x : Step). x.height) j.is in
      let e4 : w.places ≡ min (a.places + b.places) 257 = ap (λ (x : Step). x.places) j.is in
      let e5 : w.forks ≡ fk = ap (λ (x : Step). x.forks) j.is in
      record {
        on = omega (arith, o.on, q.on);
        inside = omega (arith, q.inside);
        some = omega (arith, o.some, q.some);
        few = omega (arith, o.few, q.few, o.on, q.on);
        low = omega (arith, o.low, q.low, o.some, q.some);
        few_places = omega arith;
        few_forks = omega arith;
      }

  joins_kept : On s at c a → a.at ≤ to → to ≤ length s → On s to a.count b → Joined m2 m3 k fk a b w → KeptOutside (8 * c) (room_of s at c) m0 m1
      → KeptOutside (8 * a.count) (room_of s to a.count) m1 m2 → KeptOutside (8 * c) (room_of s at c) m0 m3
  joins_kept o l i q j k1 k2 =
      kept_on (8 * c) (room_of s at c) m0 m1 m3 k1
      (kept_on (8 * c) (room_of s at c) m1 m2 m3 (later s at c to a.count m1 m2 (omega (arith, o.on)) i (omega (arith, o.some)) (omega (arith, o.few)) k2)
      (kept_wide (8 * b.count) (8 * b.count + 8) (8 * c) (room_of s at c) m2 m3 (omega (arith, o.some, q.some))
      (omega (arith, o.some, q.some, o.few, q.few, q.inside, o.on, q.on)) (kept_put m2 m3 b.count _ j.wrote)))

  joins_wrote : (v : List ℕ) (ca cb ha hb pa pb : ℕ) → a.count ≡ ca → b.count ≡ cb → a.height ≡ ha → b.height ≡ hb → a.places ≡ min pa 257 → b.places ≡ min pb 257 → m2 ≡ v
      → Joined m2 m3 k fk a b w → m3 ≡ put_node v cb (plain_node k (ca - 1) (cb - 1) (max ha hb + 1) (min (pa + pb) 257))
  joins_wrote v ca cb ha hb pa pb e1 e2 e3 e4 e6 e7 e5 j = let q : min (a.places + b.places) 257 ≡ min (pa + pb) 257 = omega arith in j.wrote ∙ rw (e1, e2, e3, e4, q, e5) refl

-- ---- pattern

module _ (n : ℕ) (u : List ℕ) where
  alt_bad : (v : List ℕ) → read n branch u ≡ bad v → read (suc n) pattern u ≡ bad v
  unfolding read alt_with
  alt_bad v e = simp e

  alt_one : (b : Tree branch) (v : List ℕ) → read n branch u ≡ got b v → (peek v ≡ 124 → ⊥) → read (suc n) pattern u ≡ got (one b) v
  unfolding read alt_with alt_on
  alt_one b v e h = simp (e, ne_eqb (peek v) 124 h)

  alt_two : (b : Tree branch) (v w : List ℕ) (x : Reading (Tree pattern)) → read n branch u ≡ got b v → peek v ≡ 124 → skip_spaces (rest v) ≡ w → read n pattern w ≡ x
      → read (suc n) pattern u ≡ under (more b) x
  unfolding read alt_with alt_on
  alt_two b v w x e h g f = simp (e, eq-eqb (peek v) 124 h, g, f)

  seq-bad : (v : List ℕ) → read n factor u ≡ bad v → read (suc n) branch u ≡ bad v
  unfolding read seq_with
  seq-bad v e = simp e

  seq-one : (f : Tree factor) (v : List ℕ) → read n factor u ≡ got f v → branch_ends (peek v) ≡ true → read (suc n) branch u ≡ got (last f) v
  unfolding read seq_with seq_on
  seq-one f v e h = simp (e, h)

  seq-two : (f : Tree factor) (v : List ℕ) (x : Reading (Tree branch)) → read n factor u ≡ got f v → branch_ends (peek v) ≡ false → read n branch v ≡ x
      → read (suc n) branch u ≡ under (next f) x
  unfolding read seq_with seq_on
  seq-two f v x e h g = simp (e, h, g)

pub pattern-fails : (s : List ℕ) (at c : ℕ) (m0 m1 : List ℕ) (e : Broken) → PhraseReads branch s at c m0 m1 (Err e) → PhraseReads pattern s at c m0 m1 (Err e)
unfolding rank_of depth
pattern-fails s at c m0 m1 e h = no-reading pattern s at c m0 m1 e h.kept h.len λ n d.
    let x = says-bad branch s c m0 m1 e _ (h.says n (omega arith)) in (alt_bad n (drop at s) _ x.0, x.1)

module _ (s : List ℕ) (at c : ℕ) (m0 m1 : List ℕ) (b : Step) (h : PhraseReads branch s at c m0 m1 (Ok b)) where
  module _ (y : ℕ) (ey : y ≡ peek (drop b.at s)) where
    pub pattern-ends : (y ≡ 124 → ⊥) → PhraseReads pattern s at c m0 m1 (Ok b)
    unfolding rank_of depth node_count height fork place_count written
    pattern-ends ny = a-reading pattern s at c m0 m1 b h.on h.kept h.len λ n d.
        let x = says-got branch s c m0 m1 b _ (h.says n (omega arith)) in
        record {
          tree = one x.tree;
          is = alt_one n (drop at s) _ _ x.is (λ z. ny (ey ∙ z));
          count = x.count;
          high = x.high;
          placed = x.placed;
          forked = x.forked;
          wrote = x.wrote;
        }

    module _ (is-bar : y ≡ 124) (from : ℕ) (k : SkipTo s (b.at + 1) from) where
      behind : skip_spaces (rest (drop b.at s)) ≡ drop from s
      behind = ap skip_spaces (rest-drop s b.at) ∙ sym k.0

      module _ (m2 : List ℕ) where
        pub pattern-more_fails : (e : Broken) → PhraseReads pattern s from b.count m1 m2 (Err e) → PhraseReads pattern s at c m0 m2 (Err e)
        unfolding rank_of depth under
        pattern-more_fails e g =
            let w = h.on in
            no-reading pattern s at c m0 m2 e
            (kept_on (8 * c) (room_of s at c) m0 m1 m2 h.kept (later s at c from b.count m1 m2 (omega (arith, w.on, k.1)) k.2 (omega (arith, w.some))
            (omega (arith, w.few, k.1)) g.kept))
            (g.len ∙ h.len) λ n d.
            let x = says-got branch s c m0 m1 b _ (h.says n (omega arith)) in
            let z = says-bad pattern s b.count m1 m2 e _ (g.says n (omega (arith, w.on, w.inside, k.1, k.2, length-drop at s, length-drop from s))) in
            (alt_two n (drop at s) _ _ (drop from s) (bad (drop e.at s)) x.is (sym ey ∙ is-bar) behind z.0, z.1)

        pub pattern-more : (r : Step) → PhraseReads pattern s from b.count m1 m2 (Ok r) → (m3 : List ℕ) (z : Step) → Joined m2 m3 Alternation 1 b r z → PhraseReads pattern s at c m0 m3 (Ok z)
        unfolding rank_of depth under node_count height fork place_count written
        pattern-more r g m3 z j =
            let w = h.on in let q = g.on in
            a-reading pattern s at c m0 m3 z (joins_on s at c m0 m1 m2 m3 b r z from Alternation 1 (omega arith) w (omega (arith, k.1)) q j)
            (joins_kept s at c m0 m1 m2 m3 b r z from Alternation 1 w (omega (arith, k.1)) k.2 q j h.kept g.kept)
            (ap length j.wrote ∙ put_length m2 r.count _ ∙ g.len ∙ h.len) λ n d.
            let x = says-got branch s c m0 m1 b _ (h.says n (omega arith)) in
            let y = says-got pattern s b.count m1 m2 r _ (g.says n (omega (arith, w.on, w.inside, k.1, k.2, length-drop at s, length-drop from s))) in
            record {
              tree = more x.tree y.tree;
              is = alt_two n (drop at s) _ _ (drop from s) _ x.is (sym ey ∙ is-bar) behind y.is
                  ∙ ap (λ (i : ℕ). got (more x.tree y.tree) (drop i s)) (sym (ap (λ (t : Step). t.at) j.is));
              count = ap (λ (t : Step). t.count) j.is ∙ (let e1 = x.count in let e2 = y.count in let e3 : r.count + 1 ≡ c + (node_count x.tree + node_count y.tree + 1) = omega arith in e3);
              high = ap (λ (t : Step). t.height) j.is ∙ ap (λ (i : ℕ). max i r.height + 1) x.high ∙ ap (λ (i : ℕ). max (height x.tree) i + 1) y.high;
              placed = ap (λ (t : Step). t.places) j.is ∙ (let e1 = x.placed in let e2 = y.placed in let e3 : min (b.places + r.places) 257 ≡ min
                  (place_count x.tree + place_count y.tree) 257 = omega arith in e3);
              forked = ap (λ (t : Step). t.forks) j.is;
              wrote = joins_wrote s at c m0 m1 m2 m3 b r z from Alternation 1 (written y.tree (c + node_count x.tree) (written x.tree c m0)) (c + node_count x.tree)
                  (c + node_count x.tree + node_count y.tree) (height x.tree) (height y.tree) (place_count x.tree) (place_count y.tree)
                  x.count (y.count ∙ ap (λ (i : ℕ). i + node_count y.tree) x.count) x.high y.high x.placed y.placed
                  (y.wrote ∙ ap (λ (i : ℕ). written y.tree i m1) x.count ∙ ap (written y.tree (c + node_count x.tree)) x.wrote) j;
            }

-- ---- branch

ended_at : (y b : ℕ) → y ≡ b → branch_ends b ≡ branch_ends y
ended_at y b e = ap branch_ends (sym e)

pub branch-fails : (s : List ℕ) (at c : ℕ) (m0 m1 : List ℕ) (e : Broken) → PhraseReads factor s at c m0 m1 (Err e) → PhraseReads branch s at c m0 m1 (Err e)
unfolding rank_of depth
branch-fails s at c m0 m1 e h = no-reading branch s at c m0 m1 e h.kept h.len λ n d.
    let x = says-bad factor s c m0 m1 e _ (h.says n (omega arith)) in (seq-bad n (drop at s) _ x.0, x.1)

module _ (s : List ℕ) (at c : ℕ) (m0 m1 : List ℕ) (b : Step) (h : PhraseReads factor s at c m0 m1 (Ok b)) where
  module _ (y : ℕ) (ey : y ≡ peek (drop b.at s)) where
    pub branch-ends : branch_ends y ≡ true → PhraseReads branch s at c m0 m1 (Ok b)
    unfolding rank_of depth node_count height fork place_count written
    branch-ends ny = a-reading branch s at c m0 m1 b h.on h.kept h.len λ n d.
        let x = says-got factor s c m0 m1 b _ (h.says n (omega arith)) in
        record {
          tree = last x.tree;
          is = seq-one n (drop at s) _ _ x.is (ended_at y _ ey ∙ ny);
          count = x.count;
          high = x.high;
          placed = x.placed;
          forked = x.forked;
          wrote = x.wrote;
        }

  module _ (m2 : List ℕ) where
    module _ (y : ℕ) (ey : y ≡ peek (drop b.at s)) (ne : branch_ends y ≡ false) where
      pub branch-more_fails : (e : Broken) → PhraseReads branch s b.at b.count m1 m2 (Err e) → PhraseReads branch s at c m0 m2 (Err e)
      unfolding rank_of depth under
      branch-more_fails e g =
          let w = h.on in
          no-reading branch s at c m0 m2 e
          (kept_on (8 * c) (room_of s at c) m0 m1 m2 h.kept (later s at c b.at b.count m1 m2 (omega (arith, w.on)) w.inside (omega (arith, w.some))
          (omega (arith, w.few)) g.kept))
          (g.len ∙ h.len) λ n d.
          let x = says-got factor s c m0 m1 b _ (h.says n (omega arith)) in
          let z = says-bad branch s b.count m1 m2 e _ (g.says n (omega (arith, w.on, w.inside, length-drop at s, length-drop b.at s))) in
          (seq-two n (drop at s) _ _ (bad (drop e.at s)) x.is (ended_at y _ ey ∙ ne) z.0, z.1)

      pub branch-more : (r : Step) → PhraseReads branch s b.at b.count m1 m2 (Ok r) → (m3 : List ℕ) (z : Step) → Joined m2 m3 Sequence 0 b r z → PhraseReads branch s at c m0 m3 (Ok z)
      unfolding rank_of depth under node_count height fork place_count written
      branch-more r g m3 z j =
          let w = h.on in let q = g.on in
          a-reading branch s at c m0 m3 z (joins_on s at c m0 m1 m2 m3 b r z b.at Sequence 0 (omega arith) w (omega arith) q j)
          (joins_kept s at c m0 m1 m2 m3 b r z b.at Sequence 0 w (omega arith) w.inside q j h.kept g.kept)
          (ap length j.wrote ∙ put_length m2 r.count _ ∙ g.len ∙ h.len) λ n d.
          let x = says-got factor s c m0 m1 b _ (h.says n (omega arith)) in
          let y = says-got branch s b.count m1 m2 r _ (g.says n (omega (arith, w.on, w.inside, length-drop at s, length-drop b.at s))) in
          record {
            tree = next x.tree y.tree;
            is = seq-two n (drop at s) _ _ _ x.is (ended_at y0 _ ey ∙ ne) y.is
                ∙ ap (λ (i : ℕ). got (next x.tree y.tree) (drop i s)) (sym (ap (λ (t : Step). t.at) j.is));
            count = ap (λ (t : Step). t.count) j.is ∙ (let e1 = x.count in let e2 = y.count in let e3 : r.count + 1 ≡ c + (node_count x.tree + node_count y.tree + 1) = omega arith in e3);
            high = ap (λ (t : Step). t.height) j.is ∙ ap (λ (i : ℕ). max i r.height + 1) x.high ∙ ap (λ (i : ℕ). max (height x.tree) i + 1) y.high;
            placed = ap (λ (t : Step). t.places) j.is ∙ (let e1 = x.placed in let e2 = y.placed in let e3 : min (b.places + r.places) 257 ≡ min
                (place_count x.tree + place_count y.tree) 257 = omega arith in e3);
            forked = ap (λ (t : Step). t.forks) j.is;
            wrote = joins_wrote s at c m0 m1 m2 m3 b r z b.at Sequence 0 (written y.tree (c + node_count x.tree) (written x.tree c m0)) (c + node_count x.tree)
                (c + node_count x.tree + node_count y.tree) (height x.tree) (height y.tree) (place_count x.tree) (place_count y.tree)
                x.count (y.count ∙ ap (λ (i : ℕ). i + node_count y.tree) x.count) x.high y.high x.placed y.placed
                (y.wrote ∙ ap (λ (i : ℕ). written y.tree i m1) x.count ∙ ap (written y.tree (c + node_count x.tree)) x.wrote) j;
          }
        where
          y0 : ℕ
          y0 = y

-- ---- factor

module _ (n : ℕ) (u : List ℕ) where
  times-bad : (v : List ℕ) → read n primary u ≡ bad v → read (suc n) factor u ≡ bad v
  unfolding read times_with
  times-bad v e = simp e

  times-got : (x : Tree primary) (v : List ℕ) (k : Marked) → read n primary u ≡ got x v → quantifier v ≡ k → read (suc n) factor u ≡ times_on x v k
  unfolding read times_with
  times-got x v k e q = simp (e, q)

pub factor-fails : (s : List ℕ) (at c : ℕ) (m0 m1 : List ℕ) (e : Broken) → ReadsHead s at c m0 m1 (Err e) → PhraseReads factor s at c m0 m1 (Err e)
unfolding rank_of depth
factor-fails s at c m0 m1 e h = no-reading factor s at c m0 m1 e h.kept h.len λ n d.
    let x = head_bad s c e _ (h.says n (omega arith)) in (times-bad n (drop at s) _ x.0, x.1)

module _ (s : List ℕ) (at c : ℕ) (m0 m1 : List ℕ) (p : Head) (h : ReadsHead s at c m0 m1 (Ok p)) where
  module _ (m2 : List ℕ) where
    put_kept : (n : Node) → m2 ≡ put_node m1 p.count n → KeptOutside (8 * c) (room_of s at c) m0 m2
    put_kept n e =
        let w = h.on in
        kept_on (8 * c) (room_of s at c) m0 m1 m2 h.kept
        (kept_wide (8 * p.count) (8 * p.count + 8) (8 * c) (room_of s at c) m1 m2 (omega (arith, w.some)) (omega (arith, w.few, w.inside, w.on))
        (kept_put m1 m2 p.count n e))

    step_on : (to n : ℕ) → n ≤ 257 → p.at ≤ to → to ≤ length s → On s at c (step_to to p n)
    step_on to n g l i =
        let w = h.on in
        record {
          on = omega (arith, w.on);
          inside = i;
          some = omega (arith, w.some);
          few = omega (arith, w.few, w.on);
          low = omega (arith, w.low);
          few_places = g;
          few_forks = omega arith;
        }

    factor-bare : quantifier (drop p.at s) ≡ unmarked → m2 ≡ put_node m1 p.count p.node → PhraseReads factor s at c m0 m2 (Ok (step_to p.at p p.node.places))
    unfolding rank_of depth node_count height place_count written times_on
    factor-bare q w =
        a-reading factor s at c m0 m2 (step_to p.at p p.node.places) (step_on p.at p.node.places h.on.few_places (omega arith) h.on.inside)
        (put_kept p.node w)
        (ap length w ∙ put_length m1 p.count p.node ∙ h.len) λ n d.
        let x = head_got s c m0 m1 p _ (h.says n (omega arith)) (h.wrote n (omega arith)) in
        record {
          tree = bare x.tree;
          is = times-got n (drop at s) _ _ unmarked x.is q;
          count = (let e1 = x.count in let e2 : p.count + 1 ≡ c + (node_count x.tree + 1) = omega arith in e2);
          high = ap (λ (y : Node). y.height) x.node ∙ own-height x.tree c;
          placed = ap (λ (y : Node). y.places) x.node ∙ own-places x.tree c;
          forked = refl;
          wrote = w ∙ ap (λ (i : ℕ). put_node m1 i p.node) x.count ∙ ap (put_node m1 (c + node_count x.tree)) x.node
              ∙ ap (λ (y : List ℕ). put_node y (c + node_count x.tree) (own x.tree c)) x.wrote;
        }

    factor-broken : (u : List ℕ) (e : Broken) → quantifier (drop p.at s) ≡ broken u → Stops s e u → m2 ≡ m1 → PhraseReads factor s at c m0 m2 (Err e)
    unfolding rank_of depth times_on
    factor-broken u e q g w =
        no-reading factor s at c m0 m2 e (subst (KeptOutside (8 * c) (room_of s at c) m0) (sym w) h.kept) (ap length w ∙ h.len) λ n d.
        let x = head_got s c m0 m1 p _ (h.says n (omega arith)) (h.wrote n (omega arith)) in
        (times-got n (drop at s) _ _ (broken u) x.is q ∙ ap bad g.rest, g.inside)

    factor-marked : (r : Result Step Broken) (f : Form) (z : Bool) (u : List ℕ) → quantifier (drop p.at s) ≡ marked f z u → (g : FinishedMark s m1 m2 p r f z u)
        → PhraseReads factor s at c m0 m2 (Ok (step_to g.to p (min (round_places (lower f) (upper f) p.node.places) 257)))
    unfolding rank_of depth node_count height place_count written times_on
    factor-marked r f z u q g =
        a-reading factor s at c m0 m2 (step_to g.to p (min (round_places (lower f) (upper f) p.node.places) 257))
        (step_on g.to (min (round_places (lower f) (upper f) p.node.places) 257) (omega arith) g.on g.inside) (put_kept (with_mark p.node f z) g.wrote)
        (ap length g.wrote ∙ put_length m1 p.count (with_mark p.node f z) ∙ h.len) λ n d.
        let x = head_got s c m0 m1 p _ (h.says n (omega arith)) (h.wrote n (omega arith)) in
        record {
          tree = times x.tree f z;
          is = times-got n (drop at s) _ _ (marked f z u) x.is q ∙ ap (got (times x.tree f z)) g.rest;
          count = (let e1 = x.count in let e2 : p.count + 1 ≡ c + (node_count x.tree + 1) = omega arith in e2);
          high = ap (λ (y : Node). y.height) x.node ∙ own-height x.tree c;
          placed = ap (λ (y : Node). min (round_places (lower f) (upper f) y.places) 257) x.node
              ∙ ap (λ (i : ℕ). min (round_places (lower f) (upper f) i) 257) (own-places x.tree c) ∙ cap-rounds (lower f) (upper f) (min (place_count x.tree) 257)
              (place_count x.tree) (omega arith);
          forked = refl;
          wrote = g.wrote ∙ ap (λ (i : ℕ). put_node m1 i (with_mark p.node f z)) x.count ∙ ap (λ (y : Node). put_node m1 (c + node_count x.tree) (with_mark y f z)) x.node
              ∙ ap (λ (y : List ℕ). put_node y (c + node_count x.tree) (with_mark (own x.tree c) f z)) x.wrote;
        }

    pub factor-ends : (r : Result Step Broken) → FactorFinished s m1 m2 p r → PhraseReads factor s at c m0 m2 r
    unfolding FinishedAs
    factor-ends r g = by r (quantifier (drop p.at s)) refl g.ends
      where
        by : (r : Result Step Broken) (k : Marked) → quantifier (drop p.at s) ≡ k → FinishedAs s m1 m2 p r k → PhraseReads factor s at c m0 m2 r
        by r unmarked q f = rw f.0 (factor-bare q f.1)
        by (Err e) (broken u) q f = factor-broken u e q f.0 f.1
        by (Ok r) (broken u) q f = absurd f.0
        by r (marked f z u) q e = rw e.is (factor-marked r f z u q e)

-- ---- primary

simple-wrote : (c : ℕ) (m s : List ℕ) → Wrote c m m (simple s)
unfolding simple Wrote written
simple-wrote c m s =
    pick-both (Wrote c m m) (eqb (peek s) 94) _ _ (λ z. refl) λ z1.
    pick-both (Wrote c m m) (eqb (peek s) 36) _ _ (λ z. refl) λ z2.
    pick-both (Wrote c m m) (is_letter (peek s)) _ _ (λ z. pick-both (Wrote c m m) (is_letter (peek (rest s))) _ _ (λ y. tt) (λ y. refl)) (λ z. tt)

module _ (n : ℕ) (u : List ℕ) where
  prim_simple : (peek u ≡ 40 → ⊥) → read (suc n) primary u ≡ simple u
  unfolding read primary_on
  prim_simple h = simp (ne_eqb (peek u) 40 h)

  prim_empty : (v : List ℕ) → peek u ≡ 40 → skip_spaces (rest u) ≡ v → peek v ≡ 41 → read (suc n) primary u ≡ got empty (skip_spaces (rest v))
  unfolding read primary_on parted
  prim_empty v h e g = simp (eq-eqb (peek u) 40 h, e, eq-eqb (peek v) 41 g)

  prim_group : (v : List ℕ) (x : Reading (Tree pattern)) → peek u ≡ 40 → skip_spaces (rest u) ≡ v → (peek v ≡ 41 → ⊥) → read n pattern v ≡ x → read (suc n) primary u ≡ closed x
  unfolding read primary_on parted
  prim_group v x h e g f = simp (eq-eqb (peek u) 40 h, e, ne_eqb (peek v) 41 g, f)

shut-got : (p : Tree pattern) (v : List ℕ) → peek v ≡ 41 → closed (got p v) ≡ got (group p) (skip_spaces (rest v))
unfolding closed
shut-got p v h = simp (eq-eqb (peek v) 41 h)

shut-bad : (p : Tree pattern) (v : List ℕ) → (peek v ≡ 41 → ⊥) → closed (got p v) ≡ bad v
unfolding closed
shut-bad p v h = simp (ne_eqb (peek v) 41 h)

-- an answer of no reading, and of a reading
no-head_reading : (s : List ℕ) (at c : ℕ) (m t : List ℕ) (e : Broken) → KeptOutside (8 * c) (room_of s at c) m t → length t ≡ length m
    → ((n : ℕ) → 4 * length (drop at s) ≤ n → (read (suc n) primary (drop at s) ≡ bad (drop e.at s)) × (e.at ≤ length s)) → ReadsHead s at c m t (Err e)
unfolding depth rank_of SaysHead Wrote
no-head_reading s at c m t e kp l f =
    record {
      says = λ n h. at_suc (λ n. SaysHead s c (Err e) (read n primary (drop at s))) (4 * length (drop at s))
          (λ n h. let d = f n h in rw d.0 (record { rest = refl; inside = d.1 })) n (omega arith);
      wrote = λ n h. at_suc (λ n. Wrote c m t (read n primary (drop at s))) (4 * length (drop at s)) (λ n h. rw (f n h).0 tt) n (omega arith);
      on = tt;
      kept = kp;
      len = l;
    }

a-head_reading : (s : List ℕ) (at c : ℕ) (m t : List ℕ) (r : Head) → HeadOn s at c r → KeptOutside (8 * c) (room_of s at c) m t → length t ≡ length m
    → ((n : ℕ) → 4 * length (drop at s) ≤ n → ReadHead s c m t r (read (suc n) primary (drop at s))) → ReadsHead s at c m t (Ok r)
unfolding depth rank_of SaysHead Wrote
a-head_reading s at c m t r o kp l f =
    record {
      says = λ n h. at_suc (λ n. SaysHead s c (Ok r) (read n primary (drop at s))) (4 * length (drop at s))
          (λ n h. let d = f n h in rw d.is (record { rest = refl; count = d.count; node = d.node })) n (omega arith);
      wrote = λ n h. at_suc (λ n. Wrote c m t (read n primary (drop at s))) (4 * length (drop at s)) (λ n h. let d = f n h in rw d.is d.wrote) n (omega arith);
      on = o;
      kept = kp;
      len = l;
    }

module _ (s : List ℕ) (at c : ℕ) (m0 : List ℕ) (b : ℕ) (eb : b ≡ peek (drop at s)) where
  pub primary-simple : (r : Result Head Broken) → (b ≡ 40 → ⊥) → SimpleSays s at c r → ReadsHead s at c m0 m0 r
  unfolding depth rank_of
  primary-simple r e h =
      record {
        says = λ n k. at_suc (λ n. SaysHead s c r (read n primary (drop at s))) (4 * length (drop at s)) (λ n k. rw (prim_simple n (drop at s) (λ x. e (eb ∙ x))) h.says) n
            (omega arith);
        wrote = λ n k. at_suc (λ n. Wrote c m0 m0 (read n primary (drop at s))) (4 * length (drop at s))
            (λ n k. rw (prim_simple n (drop at s) (λ x. e (eb ∙ x))) (simple-wrote c m0 (drop at s))) n (omega arith);
        on = h.on;
        kept = kept_none (8 * c) (room_of s at c) m0;
        len = refl;
      }

  module _ (op : b ≡ 40) (from : ℕ) (k : SkipTo s (at + 1) from) (y : ℕ) (ey : y ≡ peek (drop from s)) where
    opened : skip_spaces (rest (drop at s)) ≡ drop from s
    opened = ap skip_spaces (rest-drop s at) ∙ sym k.0

    pub primary-empty : (r : Head) → y ≡ 41 → EmptyIs s from c r → ReadsHead s at c m0 m0 (Ok r)
    unfolding node_count own written
    primary-empty r e g =
        let q = g.skips in
        a-head_reading s at c m0 m0 r (subst (HeadOn s at c) (sym g.is)
        (leaf_on s at c (record { at = g.to; count = c; node = plain_node Empty 0 0 0 0 }) Empty 0 (omega arith) (omega (arith, k.1, q.1)) q.2 refl refl))
        (kept_none (8 * c) (room_of s at c) m0) refl λ i d.
        record {
          tree = empty;
          is = prim_empty i (drop at s) (drop from s) (sym eb ∙ op) opened (sym ey ∙ e) ∙ ap (got empty) (ap skip_spaces (rest-drop s from) ∙ sym q.0)
              ∙ ap (λ (j : ℕ). got empty (drop j s)) (sym (ap (λ (x : Head). x.at) g.is));
          count = ap (λ (x : Head). x.count) g.is ∙ (let z : c ≡ c + 0 = omega arith in z);
          node = ap (λ (x : Head). x.node) g.is;
          wrote = refl;
        }

    inner_kept : (m1 : List ℕ) → KeptOutside (8 * c) (room_of s from c) m0 m1 → KeptOutside (8 * c) (room_of s at c) m0 m1
    inner_kept m1 q = kept_wide (8 * c) (room_of s from c) (8 * c) (room_of s at c) m0 m1 (omega arith) (omega (arith, k.1, k.2)) q

    deep : (n : ℕ) → 4 * length (drop at s) ≤ n → depth pattern (drop from s) ≤ n
    unfolding depth rank_of
    deep n d = let i = inside s at 40 (omega arith) (sym eb ∙ op) in omega (arith, k.1, k.2, length-drop at s, length-drop from s)

    module _ (ny : y ≡ 41 → ⊥) where
      read-inner : (n : ℕ) (x : Reading (Tree pattern)) → read n pattern (drop from s) ≡ x → read (suc n) primary (drop at s) ≡ closed x
      read-inner n x e = prim_group n (drop at s) (drop from s) x (sym eb ∙ op) opened (λ z. ny (ey ∙ z)) e

      pub group-fails : (m1 : List ℕ) (e : Broken) → PhraseReads pattern s from c m0 m1 (Err e) → ReadsHead s at c m0 m1 (Err e)
      unfolding closed
      group-fails m1 e h = no-head_reading s at c m0 m1 e (inner_kept m1 h.kept) h.len λ n d.
          let x = says-bad pattern s c m0 m1 e _ (h.says n (deep n d)) in (read-inner n _ x.0, x.1)

    module _ (f : Fits s at m0 c) (m1 : List ℕ) (p : Step) (h : PhraseReads pattern s from c m0 m1 (Ok p)) where
      module _ (ny : y ≡ 41 → ⊥) where
        group-open : (peek (drop p.at s) ≡ 41 → ⊥) → ReadsHead s at c m0 m1 (Err (record { at = p.at }))
        group-open nz = no-head_reading s at c m0 m1 (record { at = p.at }) (inner_kept m1 h.kept) h.len λ n d.
            let x = says-got pattern s c m0 m1 p _ (h.says n (deep n d)) in
            (read-inner ny n _ x.is ∙ shut-bad x.tree (drop p.at s) nz, h.on.inside)

        module _ (r : Result Head Broken) where
          group-shut : peek (drop p.at s) ≡ 41 → (q : Shut s p r)
              → ReadsHead s at c m0 m1 (Ok (record { at = q.to; count = p.count; node = plain_node Group (p.count - 1) 0 (p.height + 1) (min (p.forks + p.places) 257) }))
          unfolding node_count height own written
          group-shut e q =
              let w = h.on in
              let l = q.skips in
              a-head_reading s at c m0 m1 (record { at = q.to; count = p.count; node = plain_node Group (p.count - 1) 0 (p.height + 1) (min (p.forks + p.places) 257) })
              (record {
                on = omega (arith, w.on, k.1, l.1);
                inside = l.2;
                some = omega (arith, w.some);
                few = omega (arith, w.few, w.on, k.1, l.1);
                low = omega (arith, w.low);
                few_places = omega arith;
                small = record {
                  form = omega arith;
                  low = omega arith;
                  high = omega arith;
                  left = omega (arith, w.few, w.inside, w.on, k.1, f.small);
                  right = omega arith;
                  height = omega (arith, w.low, w.few, w.inside, w.on, k.1, f.small);
                  places = omega arith;
                };
              })
              (inner_kept m1 h.kept) h.len λ i d.
              let x = says-got pattern s c m0 m1 p _ (h.says i (deep i d)) in
              record {
                tree = group x.tree;
                is = read-inner ny i _ x.is ∙ shut-got x.tree (drop p.at s) e ∙ ap (got (group x.tree)) (ap skip_spaces (rest-drop s p.at) ∙ sym l.0);
                count = x.count;
                node = ap (λ (i : ℕ). plain_node Group (i - 1) 0 (p.height + 1) (min (p.forks + p.places) 257)) x.count
                    ∙ ap (λ (i : ℕ). plain_node Group (c + node_count x.tree - 1) 0 (i + 1) (min (p.forks + p.places) 257)) x.high
                    ∙ ap (plain_node Group (c + node_count x.tree - 1) 0 (height x.tree + 1))
                    (let e1 = x.placed in let e2 = x.forked in let e3 : min (p.forks + p.places) 257 ≡ min (fork x.tree + place_count x.tree) 257 = omega arith in e3);
                wrote = x.wrote;
              }

          pub primary-group : ShutIs s p r → ReadsHead s at c m0 m1 r
          primary-group g = on-shut (eqb (peek (drop p.at s)) 41) refl
            where
              on-shut : (t : Bool) → eqb (peek (drop p.at s)) 41 ≡ t → ReadsHead s at c m0 m1 r
              on-shut true e = let q = g.shuts (eqb-true _ _ e) in rw q.is (group-shut (eqb-true _ _ e) q)
              on-shut false e = rw (g.open_still (eqb-false _ _ e)) (group-open (eqb-false _ _ e))

    -- a group whose inside was read, or is an error
    pub primary-inner : Fits s at m0 c → (m1 : List ℕ) (p : Result Step Broken) → PhraseReads pattern s from c m0 m1 p → (y ≡ 41 → ⊥) → (r : Result Head Broken)
        → MatchResult p (λ q. ShutIs s q r) (λ e. r ≡ Err e) → ReadsHead s at c m0 m1 r
    primary-inner f m1 (Err e) h ny r g = rw g (group-fails ny m1 e h)
    primary-inner f m1 (Ok p) h ny r g = primary-group f m1 p h ny r g
