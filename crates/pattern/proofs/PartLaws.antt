-- Laws of reading the parts of a sequence or an alternation one behind the other.
use mathlib.Core.Path.{◌≡◌, refl, sym, ◌∙◌, subst}
use mathlib.Core.Bool.{Bool, true, false, false≢true}
use mathlib.Core.List.{List, [], ◌∷◌, ◌++◌}
use Rattle.std.specs.Prelude.{Ok, Err}
use Rattle.text_bytes.specs.declared.Broken.{Broken}
use Prim.Native.Nat.{ℕ, ◌+◌, ◌*◌, ◌-◌, ◌≤◌, ◌<◌, min}
use native.Mathlib.Omega.{arith}
use lib.ListN.{length, drop}
use Rattle.rules.specs.Language.{Rank, pattern, branch, factor, Tree, one, last, Written, Laid, letter_first, spaces, tokens}
use Rattle.rules.specs.Places.{place_count}
use Rattle.rules.specs.Reader.{peek, branch_ends, read, depth}
use Rattle.laws.proofs.GrammarSound.{Leads, Good, read-good}
use Rattle.laws.proofs.Bounds.{Bounds, Lettered, written-bounds, written-letters}
use Rattle.nodes.specs.Nodes.{node_at}
use Rattle.nodes.specs.declared.Sort.{Sort}
use Rattle.nodes.specs.declared.Sort.TheVariants.{Sequence, Alternation}
use Rattle.trees.specs.Written.{node_count, height}
use Rattle.primaries.specs.Readers.{Joined, KeptOutside, Fits, PhraseReads, SkipTo}
use Rattle.trees.specs.Held.{Held}
use Rattle.phrases.specs.Chain.{many, Pending, JoinedAll, Chained}
use Rattle.primaries.specs.declared.Step.{Step}
use Rattle.trees.proofs.Holds.{written_held}
use Rattle.pattern.proofs.ReaderLaws.{says-got, pattern-fails, pattern-ends, pattern-more_fails, pattern-more, branch-fails, branch-ends, branch-more_fails, branch-more}
use Rattle.phrases.proofs.ChainLaws.{pending_same}

-- a tree that is read has its bounds in order and letters from A to Z
led : (p : Tree pattern) (u v : List ℕ) → Leads u v (tokens p) → (Bounds p) × (Lettered p)
unfolding Laid letter_first spaces
led p u v h =
    let w : Written p (h.front ++ []) = record { front = 0; rest = h.front ++ []; is = refl; laid = h.laid [] [] refl (λ z. absurd (false≢true z)) } in
    (written-bounds w, written-letters w)

-- a part that is read, as a tree that the room holds
pub record PartOf (to : ℕ) (m1 : List ℕ) (f : Step) : Type 0 where
  pub tree : Tree pattern
  pub count : f.count ≡ to + node_count tree
  pub high : f.height ≡ height tree
  pub placed : f.places ≡ min (place_count tree) 257
  pub held : Held tree to m1

part-factor : (s : List ℕ) (from to : ℕ) (m m1 : List ℕ) (f : Step) → PhraseReads factor s from to m m1 (Ok f) → 8 * f.count ≤ length m → PartOf to m1 f
unfolding Good tokens Bounds Lettered Held node_count height place_count
part-factor s from to m m1 f h l =
    let n = depth factor (drop from s) in
    let x = says-got factor s to m m1 f (read n factor (drop from s)) (h.says n (omega arith)) in
    let g : Leads (drop from s) (drop f.at s) (tokens x.tree) = subst (Good (drop from s)) x.is (read-good n factor (drop from s)) in
    let b = led (one (last x.tree)) _ _ g in
    record {
      tree = one (last x.tree);
      count = x.count;
      high = x.high;
      placed = x.placed;
      held = subst (Held x.tree to) (sym x.wrote) (written_held x.tree to m b.0 b.1 (omega (arith, x.count)));
    }

part-branch : (s : List ℕ) (from to : ℕ) (m m1 : List ℕ) (f : Step) → PhraseReads branch s from to m m1 (Ok f) → 8 * f.count ≤ length m → PartOf to m1 f
unfolding Good tokens Bounds Lettered Held node_count height place_count
part-branch s from to m m1 f h l =
    let n = depth branch (drop from s) in
    let x = says-got branch s to m m1 f (read n branch (drop from s)) (h.says n (omega arith)) in
    let g : Leads (drop from s) (drop f.at s) (tokens x.tree) = subst (Good (drop from s)) x.is (read-good n branch (drop from s)) in
    let b = led (one x.tree) _ _ g in
    record {
      tree = one x.tree;
      count = x.count;
      high = x.high;
      placed = x.placed;
      held = subst (Held x.tree to) (sym x.wrote) (written_held x.tree to m b.0 b.1 (omega (arith, x.count)));
    }

node_kept : (lo hi : ℕ) (s t : List ℕ) (j : ℕ) → KeptOutside lo hi s t → 8 * j + 8 ≤ lo → node_at t j ≡ node_at s j
unfolding node_at
node_kept lo hi s t j k l =
    rw (
      k (j * 8) (λ a b. omega arith),
      k (j * 8 + 1) (λ a b. omega arith),
      k (j * 8 + 2) (λ a b. omega arith),
      k (j * 8 + 3) (λ a b. omega arith),
      k (j * 8 + 4) (λ a b. omega arith),
      k (j * 8 + 5) (λ a b. omega arith),
      k (j * 8 + 6) (λ a b. omega arith),
      k (j * 8 + 7) (λ a b. omega arith),
    ) refl

-- parts are read up to a position, and what is read there decides the whole
pub record Begun (k : Rank) (s : List ℕ) (at c : ℕ) (m0 : List ℕ) (sort : Sort) (forks from to : ℕ) (m : List ℕ) : Type 0 where
  pub parts : List (Tree pattern)
  pub pending : Pending parts c to m
  pub on : at ≤ from
  pub in_text : from ≤ length s
  pub fits : 8 * (to + many parts + 2 * (length s - from)) ≤ length m
  pub small : to + many parts + 2 * (length s - from) < 60000
  pub len : length m ≡ length m0
  pub fails : (t : List ℕ) (e : Broken) → PhraseReads k s from to m t (Err e) → PhraseReads k s at c m0 t (Err e)
  pub done : (t : List ℕ) (r : Step) → PhraseReads k s from to m t (Ok r) → (u : List ℕ) (w : Step) → JoinedAll sort forks parts to t r u w → PhraseReads k s at c m0 u (Ok w)

pub begun-none : (k : Rank) (s : List ℕ) (at c : ℕ) (m : List ℕ) (sort : Sort) (forks : ℕ) → Fits s at m c → Begun k s at c m sort forks at c m
unfolding Pending JoinedAll many
begun-none k s at c m sort forks f =
    record {
      parts = [];
      pending = refl;
      on = omega arith;
      in_text = f.in_text;
      fits = omega (arith, f.fits);
      small = omega (arith, f.small);
      len = refl;
      fails = λ t e x. x;
      done = λ t r x u w j. rw (j.0, j.1) x;
    }

module _ (k : Rank) (s : List ℕ) (at c : ℕ) (m0 : List ℕ) (sort : Sort) (forks from to : ℕ) (m : List ℕ) (g : Begun k s at c m0 sort forks from to m) where
  module _ (k2 : Rank) (m1 : List ℕ) (f : Step) (h : PhraseReads k2 s from to m m1 (Ok f)) where
    still : Pending g.parts c to m1
    still = pending_same g.parts c to m m1 (λ j l. node_kept _ _ m m1 j h.kept (omega arith)) g.pending

    pub begun-chained : Chained m1 c to f
    begun-chained =
        let w = h.on in
        record {
          parts = g.parts;
          pending = still;
          fits = omega (arith, g.fits, h.len, w.few, w.inside, w.on);
          small = omega (arith, g.small, w.few, w.inside, w.on);
          behind = omega (arith, w.some);
          low = omega (arith, w.low);
          few_places = w.few_places;
        }

    begun-done : PhraseReads k s from to m m1 (Ok f) → (u : List ℕ) (w : Step) → ((i : Chained m1 c to f) → JoinedAll sort forks i.parts to m1 f u w) → PhraseReads k s at c m0 u (Ok w)
    begun-done x u w j =
        let v = h.on in
        g.done m1 f x u w (j (record {
          parts = g.parts;
          pending = still;
          fits = omega (arith, g.fits, h.len, v.few, v.inside, v.on);
          small = omega (arith, g.small, v.few, v.inside, v.on);
          behind = omega (arith, v.some);
          low = omega (arith, v.low);
          few_places = v.few_places;
        }))

    begun_more : (p : PartOf to m1 f) (then : ℕ) → f.at ≤ then → then ≤ length s
        → ((t : List ℕ) (e : Broken) → PhraseReads k s then f.count m1 t (Err e) → PhraseReads k s from to m t (Err e))
        → ((t : List ℕ) (r : Step) → PhraseReads k s then f.count m1 t (Ok r) → (u : List ℕ) (w : Step) → Joined t u sort forks f r w → PhraseReads k s from to m u (Ok w))
        → Begun k s at c m0 sort forks then f.count m1
    unfolding Pending JoinedAll many
    begun_more p then ln li fl dn =
        let w = h.on in
        record {
          parts = p.tree ∷ g.parts;
          pending = (to, p.count, p.held, still);
          on = omega (arith, g.on, w.on);
          in_text = li;
          fits = omega (arith, g.fits, h.len, w.few, w.inside, w.on);
          small = omega (arith, g.small, w.few, w.inside, w.on);
          len = h.len ∙ g.len;
          fails = λ t e x. g.fails t e (fl t e x);
          done = λ t r x u v j.
              let q = j.2 in
              let i : Joined t j.0 sort forks f r j.1 = record { is = rw (p.high, p.placed) q.is; wrote = rw (p.high, p.placed) q.wrote } in
              g.done j.0 j.1 (dn t r x j.0 j.1 i) u v
              (subst (λ (y : ℕ). JoinedAll sort forks g.parts y j.0 j.1 u v) (let z : f.count - node_count p.tree ≡ to = omega (arith, p.count) in z) j.3);
        }

-- a branch: its parts are factors
module _ (s : List ℕ) (at c : ℕ) (m0 : List ℕ) (from to : ℕ) (m : List ℕ) (g : Begun branch s at c m0 Sequence 0 from to m) (m1 : List ℕ) where
  pub branch-unread : (e : Broken) → PhraseReads factor s from to m m1 (Err e) → PhraseReads branch s at c m0 m1 (Err e)
  branch-unread e h = g.fails m1 e (branch-fails s from to m m1 e h)

  module _ (f : Step) (h : PhraseReads factor s from to m m1 (Ok f)) (y : ℕ) (ey : y ≡ peek (drop f.at s)) (b : Bool) (eb : b ≡ branch_ends y) where
    pub branch-whole : b ≡ true → (u : List ℕ) (w : Step) → ((i : Chained m1 c to f) → JoinedAll Sequence 0 i.parts to m1 f u w) → PhraseReads branch s at c m0 u (Ok w)
    branch-whole e = begun-done branch s at c m0 Sequence 0 from to m g factor m1 f h (branch-ends s from to m m1 f h y ey (sym eb ∙ e))

    pub branch-again : b ≡ false → Begun branch s at c m0 Sequence 0 f.at f.count m1
    branch-again e =
        let w = h.on in
        begun_more branch s at c m0 Sequence 0 from to m g factor m1 f h (part-factor s from to m m1 f h (omega (arith, g.fits, w.few, w.inside, w.on))) f.at (omega arith) w.inside
        (λ t d x. branch-more_fails s from to m m1 f h t y ey (sym eb ∙ e) d x) (λ t r x u v j. branch-more s from to m m1 f h t y ey (sym eb ∙ e) r x u v j)

-- a pattern: its parts are branches
module _ (s : List ℕ) (at c : ℕ) (m0 : List ℕ) (from to : ℕ) (m : List ℕ) (g : Begun pattern s at c m0 Alternation 1 from to m) (m1 : List ℕ) where
  pub pattern-unread : (e : Broken) → PhraseReads branch s from to m m1 (Err e) → PhraseReads pattern s at c m0 m1 (Err e)
  pattern-unread e h = g.fails m1 e (pattern-fails s from to m m1 e h)

  module _ (f : Step) (h : PhraseReads branch s from to m m1 (Ok f)) (y : ℕ) (ey : y ≡ peek (drop f.at s)) where
    pub pattern-whole : (y ≡ 124 → ⊥) → (u : List ℕ) (w : Step) → ((i : Chained m1 c to f) → JoinedAll Alternation 1 i.parts to m1 f u w) → PhraseReads pattern s at c m0 u (Ok w)
    pattern-whole e = begun-done pattern s at c m0 Alternation 1 from to m g branch m1 f h (pattern-ends s from to m m1 f h y ey e)

    pub pattern-again : y ≡ 124 → (then : ℕ) → SkipTo s (f.at + 1) then → Begun pattern s at c m0 Alternation 1 then f.count m1
    pattern-again e then k =
        let w = h.on in
        begun_more pattern s at c m0 Alternation 1 from to m g branch m1 f h (part-branch s from to m m1 f h (omega (arith, g.fits, w.few, w.inside, w.on))) then (omega (arith, k.1)) k.2
        (λ t d x. pattern-more_fails s from to m m1 f h y ey e then k t d x) (λ t r x u v j. pattern-more s from to m m1 f h y ey e then k t r x u v j)
