-- Laws of joining parts from the last on.
use mathlib.Core.Path.{◌≡◌, refl, sym, ap, ◌∙◌, subst}
use mathlib.Core.List.{List, [], ◌∷◌}
use Prim.Native.Nat.{ℕ, ◌+◌, ◌*◌, ◌-◌, ◌≤◌, ◌<◌, max, min}
use native.Mathlib.Omega.{arith}
use lib.ListN.{length}
use Rattle.rules.specs.Language.{Rank, pattern, branch, factor, primary, Tree, one, more, last, next, bare, times, letter, caret, dollar, empty, group}
use Rattle.rules.specs.Places.{place_count}
use Rattle.nodes.specs.Nodes.{node_at}
use Rattle.nodes.specs.declared.Sort.{Sort}
use Rattle.nodes.specs.declared.Node.{Node}
use Rattle.nodes.proofs.Put.{node-other, put_length}
use Rattle.trees.specs.Written.{node_count, height}
use Rattle.primaries.specs.Readers.{Joins, Joined}
use Rattle.trees.specs.Held.{Held, Top, At}
use Rattle.phrases.specs.Chain.{part_at, many, Pending, JoinedAll, Chained}
use Rattle.primaries.specs.declared.Step.{Step}
use Rattle.trees.proofs.Holds.{pattern-nodes, held_same}
use Rattle.trees.proofs.ByNode.{top_height, top_places}

-- a tree is lower than it has nodes
abbrev slack : Rank → ℕ
slack pattern = 0
slack branch = 0
slack factor = 0
slack primary = 1

low_of : {k : Rank} (t : Tree k) → height t < node_count t + slack k
unfolding height node_count
low_of (one b) = low_of b
low_of (more b p) = omega (arith, low_of b, low_of p)
low_of (last f) = low_of f
low_of (next f b) = omega (arith, low_of f, low_of b)
low_of (bare x) = omega (arith, low_of x)
low_of (times x f z) = omega (arith, low_of x)
low_of (letter b) = omega arith
low_of caret = omega arith
low_of dollar = omega arith
low_of empty = omega arith
low_of (group p) = omega (arith, low_of p)

pending_low : (ps : List (Tree pattern)) (c to : ℕ) (s : List ℕ) → Pending ps c to s → c ≤ to
unfolding Pending
pending_low [] c to s h = omega (arith, h)
pending_low (p ∷ ps) c to s (lo, e, h, q) = omega (arith, e, pending_low ps c lo s q)

-- parts stay as long as their nodes are as they were
pub pending_same : (ps : List (Tree pattern)) (c to : ℕ) (s u : List ℕ) → ((j : ℕ) → j < to → node_at u j ≡ node_at s j) → Pending ps c to s → Pending ps c to u
unfolding Pending
pending_same [] c to s u f h = h
pending_same (p ∷ ps) c to s u f (lo, e, h, q) =
    (lo, e, held_same p lo s u (λ j a b. f j (omega (arith, e))) h, pending_same ps c lo s u (λ j a. f j (omega (arith, e))) q)

record NextPart (s : List ℕ) (c to : ℕ) (ps : List (Tree pattern)) : Type 0 where
  part : Tree pattern
  rest : List (Tree pattern)
  is : ps ≡ part ∷ rest
  lo : ℕ
  to_is : to ≡ lo + node_count part
  held : Held part lo s
  pending : Pending rest c lo s

next-part : (s : List ℕ) (c to : ℕ) (ps : List (Tree pattern)) → Pending ps c to s → c < to → NextPart s c to ps
unfolding Pending
next-part s c to [] h l = absurd (omega (arith, h))
next-part s c to (p ∷ ps) (lo, e, h, q) l = record { part = p; rest = ps; is = refl; lo = lo; to_is = e; held = h; pending = q }

-- what is left to join leaves what all of it leaves
pub record Going (k : Sort) (forks c to0 : ℕ) (m0 : List ℕ) (r0 : Step) (parts0 : List (Tree pattern)) (m : List ℕ) (to : ℕ) (r : Step) : Type 0 where
  pub now : Chained m c to r
  pub so : (t : List ℕ) (w : Step) → JoinedAll k forks now.parts to m r t w → JoinedAll k forks parts0 to0 m0 r0 t w

abbrev pub Goes : Sort → ℕ → ℕ → ℕ → List ℕ → Step → List ℕ → ℕ → Step → Type 0
Goes k forks c to0 m0 r0 m to r = (h : Chained m0 c to0 r0) → Going k forks c to0 m0 r0 h.parts m to r

pub going_none : (k : Sort) (forks c to : ℕ) (m : List ℕ) (r : Step) → Goes k forks c to m r m to r
going_none k forks c to m r h = record { now = h; so = λ t w j. j }

module _ (k : Sort) (forks c to0 : ℕ) (m0 : List ℕ) (r0 : Step) (m : List ℕ) (to : ℕ) (r : Step) (g : Goes k forks c to0 m0 r0 m to r) where
  pub going_all : (h : Chained m0 c to0 r0) → (c < to → ⊥) → JoinedAll k forks h.parts to0 m0 r0 m r
  unfolding JoinedAll Pending
  going_all h l = all (g h).now.parts (g h).now.pending ((g h).so m r)
    where
      all : (ps : List (Tree pattern)) → Pending ps c to m → (JoinedAll k forks ps to m r m r → JoinedAll k forks h.parts to0 m0 r0 m r) → JoinedAll k forks h.parts to0 m0 r0 m r
      all [] q f = f (refl, refl)
      all (p ∷ ps) (lo, e, d, q) f = absurd (l (omega (arith, e, pending_low ps c lo m q, pattern-nodes p)))

  module _ (h : Chained m0 c to0 r0) (l : c < to) where
    nx : NextPart m c to (g h).now.parts
    nx = next-part m c to (g h).now.parts (g h).now.pending l

    parts-many : many (g h).now.parts ≡ many nx.rest + 1
    unfolding many
    parts-many = ap many nx.is

    to_fits : 8 * to ≤ length m
    to_fits = omega (arith, (g h).now.fits, (g h).now.behind)

    nx_top : Top nx.part (to - 1) m
    nx_top = record { base = nx.lo; top = omega (arith, l, nx.to_is); held = nx.held; fits = omega (arith, nx.to_is, to_fits) }

    pub going_in : 8 * (to - 1) + 8 ≤ length m
    going_in = omega (arith, to_fits, l)

    pub going_at : At m (to - 1)
    going_at = record { tree = nx.part; is = nx_top }

    module _ (n : Node) (en : n ≡ node_at m (to - 1)) where
      part-high : n.height ≡ height nx.part
      part-high = ap (λ (y : Node). y.height) en ∙ top_height m (to - 1) nx.part nx_top

      part-places : n.places ≡ min (place_count nx.part) 257
      part-places = ap (λ (y : Node). y.places) en ∙ top_places m (to - 1) nx.part nx_top

      pub going_joins : Joins m (record { at = 0; count = to; height = n.height; places = n.places; forks = 0 }) r
      going_joins =
          let q = (g h).now in
          record {
            fits = omega (arith, q.fits, parts-many);
            few = omega (arith, q.small, parts-many);
            left = omega (arith, l);
            right = q.behind;
            low_left = omega (arith, part-high, low_of nx.part, nx.to_is, q.behind, q.small);
            low_right = omega (arith, q.low, q.small);
            few_left = omega (arith, part-places);
            few_right = q.few_places;
          }

    module _ (from : ℕ) (ef : (p : Tree pattern) → Top p (to - 1) m → from + node_count p ≡ to - 1 + 1) where
      from_is : from ≡ nx.lo
      from_is = omega (arith, ef nx.part nx_top, nx.to_is, l)

      pub going_less : from < to
      going_less = omega (arith, from_is, nx.to_is, pattern-nodes nx.part)

  pub going_more : (n : Node) (from : ℕ) (m1 : List ℕ) (r1 : Step) → c < to → n ≡ node_at m (to - 1) → ((p : Tree pattern) → Top p (to - 1) m → from + node_count p ≡ to - 1 + 1)
      → Joined m m1 k forks (record { at = 0; count = to; height = n.height; places = n.places; forks = 0 }) r r1 → Goes k forks c to0 m0 r0 m1 from r1
  unfolding JoinedAll
  going_more n from m1 r1 l en ef j h =
      let q = (g h).now in
      let x = nx h l in
      let p = x.part in
      let ei = from_is h l from ef in
      let e2 : r1.count ≡ r.count + 1 = ap (λ (y : Step). y.count) j.is in
      let e3 : r1.height ≡ max n.height r.height + 1 = ap (λ (y : Step). y.height) j.is in
      let e4 : r1.places ≡ min (n.places + r.places) 257 = ap (λ (y : Step). y.places) j.is in
      let e5 : length m1 ≡ length m = ap length j.wrote ∙ put_length m r.count _ in
      let part-is : ◌≡◌ {A = Step} (record { at = 0; count = to; height = n.height; places = n.places; forks = 0 }) (part_at p to) = rw (part-high h l n en, part-places h l n en) refl in
      record {
        now = record {
          parts = x.rest;
          pending = subst (λ (i : ℕ). Pending x.rest c i m1) (sym ei)
              (pending_same x.rest c x.lo m m1 (λ i a. ap (λ (y : List ℕ). node_at y i) j.wrote
              ∙ node-other m r.count i _ (λ e. omega (arith, x.to_is, q.behind))) x.pending);
          fits = omega (arith, q.fits, parts-many h l, e2, e5);
          small = omega (arith, q.small, parts-many h l, e2);
          behind = omega (arith, ei, x.to_is, q.behind, e2);
          low = omega (arith, e3, e2, q.low, part-high h l n en, low_of p, x.to_is, q.behind);
          few_places = omega (arith, e4);
        };
        so = λ t w i.
            (g h).so t w (subst (λ (ps : List (Tree pattern)). JoinedAll k forks ps to m r t w) (sym x.is) (
              m1,
              r1,
              subst (λ (y : Step). Joined m m1 k forks y r r1) part-is j,
              subst (λ (y : ℕ). JoinedAll k forks x.rest y m1 r1 t w)
                  (let z : from ≡ to - node_count p = omega (arith, ei, x.to_is) in z) i,
            ));
      }

pub joined_length : (m m1 z : List ℕ) (k : Sort) (f : ℕ) (a b w : Step) → Joined m m1 k f a b w → length m ≡ length z → length m1 ≡ length z
joined_length m m1 z k f a b w j e = ap length j.wrote ∙ put_length m b.count _ ∙ e
