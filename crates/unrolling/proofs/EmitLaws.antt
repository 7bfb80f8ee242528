-- Laws of the functions that unroll a tree: each is one way through one function. A part of the
-- places is put, then the rest; a part fits where the whole does; and the measure falls at each
-- call.
use mathlib.Core.Path.{◌≡◌, refl, sym, ap, ◌∙◌, subst}
use mathlib.Core.Bool.{Bool, true, false}
use mathlib.Core.List.{List, [], ◌∷◌, ◌++◌}
use mathlib.Core.Logic.{inl, inr}
use Prim.Native.Nat.{ℕ, suc, ◌+◌, ◌*◌, ◌≤◌, ◌<◌, min}
use native.Mathlib.Omega.{arith}
use mir.Val.{Fits as Fits-in}
use mir.Syntax.{w64}
use lib.Dec.{ltb}
use lib.ListN.{length, length-append}
use Rattle.std.specs.Prelude.{Option, Some, None}
use Rattle.rules.specs.Basics.{pick}
use Rattle.rules.specs.Language.{pattern, branch, factor, primary, Tree, one, more, last, next, letter, empty}
use Rattle.rules.specs.Places.{unrolled, unroll, Place, p_letter, p_caret, p_dollar, p_end, size, sizes, fork, place_count}
use Rattle.laws.proofs.Counting.{unrolled-size}
use Rattle.rules.specs.Working.{thin_place, thinned}
use Rattle.nodes.specs.Nodes.{node_at}
use Rattle.nodes.specs.declared.Sort.{Sort}
use Rattle.nodes.specs.declared.Sort.TheVariants.{Letter, Anchor, Empty, Sequence, Alternation, Group}
use Rattle.nodes.specs.declared.Node.{Node}
use Rattle.trees.specs.Held.{body, lower_of, highest_of, lazy_of, Top, At}
use Rattle.trees.proofs.ByNode.{IsAnchor, FactorAt, GroupAt, as_any, as_seq, as_alt, as_letter, as_anchor, as_empty, as_group, at_in, seq-left, seq-right, alt_left, alt_right, group-left, top_places}
use Rattle.place_words.specs.Words.{put_words, put_single, put_place, way_count, Fitting, Emitted, Single, place_words}
use Rattle.place_codes.specs.Codes.{letter_code, anchor_code, turns_behind}
use Rattle.place_codes.specs.Planes.{Low, slot, start_by, round_by}
use Rattle.place_codes.specs.declared.Plane.{Plane}
use Rattle.place_codes.specs.declared.Behind.{Behind}
use Rattle.place_codes.proofs.CodeLaws.{start-low, round_low}
use Rattle.forks.specs.PlaneCode.{used, flags_copy, plane_of}
use Rattle.forks.specs.Emitting.{choice_places, Parting, fork_places, Forking, tree_places, branch_places, body_places, turns, turn_places, Emitting, Branching, Bodying, Turning, BodySize, BodyFlag}
use Rattle.place_words.proofs.TableLaws.{fit-left, fit-right, emitted_two, emitted_none, emitted_one}
use Rattle.unrolling.proofs.CodeLaws.{tree-length, branch-length, body-length, turn_length, seq-places, branch-more, branch_one, alt_places, factor-places, factor-size, turn_copy, turn_none, turn_option, turn_star}
use Rattle.body_sizes.proofs.SizeLaws.{OnFactor}

-- ---- measures

abbrev pub alt_bit : Sort → ℕ
alt_bit (Letter b) = 0
alt_bit (Anchor b) = 0
alt_bit Empty = 0
alt_bit Sequence = 0
alt_bit Alternation = 2
alt_bit Group = 0

alt_small : (k : Sort) → alt_bit k ≤ 2
alt_small (Letter b) = omega arith
alt_small (Anchor b) = omega arith
alt_small Empty = omega arith
alt_small Sequence = omega arith
alt_small Alternation = omega arith
alt_small Group = omega arith

not-alt_bit : (k : Sort) → (k ≡ Alternation → ⊥) → alt_bit k ≡ 0
not-alt_bit (Letter b) f = refl
not-alt_bit (Anchor b) f = refl
not-alt_bit Empty f = refl
not-alt_bit Sequence f = refl
not-alt_bit Alternation f = absurd (f refl)
not-alt_bit Group f = refl

unfoldable pub emit_m : List ℕ → ℕ → ℕ
emit_m s i = 400 * (node_at s i).height + 300 + alt_bit (node_at s i).sort

unfoldable pub branch_m : List ℕ → ℕ → ℕ
branch_m s i = 400 * (node_at s i).height + 301

unfoldable pub round_m : List ℕ → ℕ → ℕ
round_m s i = 400 * (node_at s i).height + 1

unfoldable pub body_m : List ℕ → ℕ → ℕ
body_m s i = 400 * (node_at s i).height

-- ---- two parts

module _ (o : Plane) (T : List ℕ) (b w : ℕ) (k : Behind) (whole xs : List Place) (Q : ℕ → List Place) (v : ℕ) (ew : whole ≡ xs ++ Q v) (ev : v ≡ b + length xs) where
  part_left : (j : Behind) → Low j → Fitting o T b w k whole → Fitting o T b w j xs
  part_left j h f = fit-left o T b w k xs (Q v) j h (subst (Fitting o T b w k) ew f)

  module _ (T1 : List ℕ) (r : ℕ) (d : Emitted o T T1 b w r xs) where
    part_right : Fitting o T b w k whole → Fitting o T1 v r k (Q v)
    part_right f = fit-right o T b w k xs (Q v) T1 v r ev d (subst (Fitting o T b w k) ew f)

    part-both : (T2 : List ℕ) (q : ℕ) → Emitted o T1 T2 v r q (Q v) → Emitted o T T2 b w q whole
    part-both T2 q g = subst (Emitted o T T2 b w q) (sym ew) (emitted_two o T T1 T2 b w v r q xs (Q v) ev d g)

-- a list of no places is put by doing nothing
nothing_put : (o : Plane) (T : List ℕ) (b w : ℕ) (pl : List Place) → length pl ≡ 0 → Emitted o T T b w w pl
nothing_put o T b w [] e = emitted_none o T b w
nothing_put o T b w (p ∷ pl) e = absurd (omega arith)

-- ---- emit

module _ (o : Plane) (s : List ℕ) (i : ℕ) (n : Node) (en : n ≡ node_at s i) (T : List ℕ) (b w : ℕ) (k : Behind) where
  emit_at : Emitting o s i T b w k → At s i
  emit_at h = record { tree = h.tree; is = h.top }

  -- the places of the top node are those of the tree, which end by 256
  exact : (p : Tree pattern) → Top p i s → Fitting o T b w k (tree_places o p b k) → (n.places ≡ place_count p) × (b + (fork p + place_count p) ≤ 256)
  exact p t f =
      let a : n.places ≡ min (place_count p) 257 = ap (λ (y : Node). y.places) en ∙ top_places s i p t in
      let l = tree-length o p b k in
      let g = f.place in
      (omega arith, omega arith)

  pub emit_end : Emitting o s i T b w k → Fits-in w64 (b + n.places)
  emit_end h = let x = exact h.tree h.top h.fits in record { fits = omega (arith, x.0, x.1) }

  -- no places
  pub emit_none : (n.sort ≡ Alternation → ⊥) → b + n.places ≡ b → (h : Emitting o s i T b w k) → Emitted o T T b w w (tree_places o h.tree b k)
  unfolding fork
  emit_none na e h =
      let f : fork h.tree ≡ 0 = as_any s i n en (λ p. fork p ≡ 0) (λ F q. refl) (λ f b q. refl) (λ b p q. absurd (na q.sort)) h.tree h.top in
      let x = exact h.tree h.top h.fits in
      nothing_put o T b w (tree_places o h.tree b k) (omega (arith, x.0, tree-length o h.tree b k))

  -- a sequence
  module _ (e : n.sort ≡ Sequence) (m : ℕ) (em : m ≡ (node_at s n.left).places) where
    record SeqParts (nx : Behind) (p : Tree pattern) : Type 0 where
      first : Tree factor
      rest : Tree branch
      left_top : Top (one (last first)) n.left s
      right_top : Top (one rest) n.right s
      split : tree_places o p b k ≡ tree_places o (one (last first)) b nx ++ tree_places o (one rest) (b + m) k
      long : b + m ≡ b + length (tree_places o (one (last first)) b nx)
      low : b + m ≤ 256

    seq-parts : (nx : Behind) → nx ≡ start_by o (b + m) (b + n.places) k → (p : Tree pattern) → Top p i s
        → Fitting o T b w k (tree_places o p b k) → SeqParts nx p
    unfolding place_count fork
    seq-parts nx ex p t f =
        as_seq s i n en (λ p. (n.places ≡ place_count p) × (b + (fork p + place_count p) ≤ 256) → SeqParts nx p) e
        (λ f g q x.
        let d = top_places s n.left (one (last f)) q.left in
        let y = x.1 in
        let c : m ≡ place_count f = omega arith in
        let l = tree-length o (one (last f)) b nx in
        record {
          first = f;
          rest = g;
          left_top = q.left;
          right_top = q.right;
          split = seq-places o f g b k m (b + n.places) nx c (ap (λ (v : ℕ). b + v) x.0) ex;
          long = omega arith;
          low = omega arith;
        })
        p t (exact p t f)

    pub seq-left_in : Emitting o s i T b w k → 8 * n.left + 8 ≤ length s
    seq-left_in h = at_in s n.left (seq-left s i n en (node_at s i).height refl (emit_at h) e).1

    pub seq-mid : Emitting o s i T b w k → Fits-in w64 (b + m)
    seq-mid h = let x = seq-parts _ refl h.tree h.top h.fits in record { fits = omega (arith, x.low) }

    pub seq_start : Emitting o s i T b w k → (b + m ≤ 256) × Low k
    seq_start h = let x = seq-parts _ refl h.tree h.top h.fits in (x.low, h.fits.behind)

    module _ (nx : Behind) (ex : nx ≡ start_by o (b + m) (b + n.places) k) (h : Emitting o s i T b w k) where
      seq : SeqParts nx h.tree
      seq = seq-parts nx ex h.tree h.top h.fits

      first-emitting : Emitting o s n.left T b w nx
      first-emitting =
          record {
            tree = one (last seq.first);
            top = seq.left_top;
            fits = part_left o T b w k (tree_places o h.tree b k) (tree_places o (one (last seq.first)) b nx) (λ v. tree_places o (one seq.rest) v k)
                (b + m) seq.split seq.long
                nx (rw ex (start-low o (b + m) (b + n.places) k seq.low h.fits.behind)) h.fits;
          }

      pub seq-first : (u : ℕ) → emit_m s i ≡ u → (emit_m s n.left < u) × Emitting o s n.left T b w nx
      unfolding emit_m
      seq-first u eu = (omega (arith, (seq-left s i n en (node_at s i).height refl (emit_at h) e).0, alt_small (node_at s n.left).sort), first-emitting)

      module _ (T1 : List ℕ) (r : ℕ) (d : (g : Emitting o s n.left T b w nx) → Emitted o T T1 b w r (tree_places o g.tree b nx)) where
        first_done : Emitted o T T1 b w r (tree_places o (one (last seq.first)) b nx)
        unfolding first-emitting
        first_done = d first-emitting

        second-emitting : Emitting o s n.right T1 (b + m) r k
        second-emitting =
            record {
              tree = one seq.rest;
              top = seq.right_top;
              fits = part_right o T b w k (tree_places o h.tree b k) (tree_places o (one (last seq.first)) b nx) (λ v. tree_places o (one seq.rest) v k)
                  (b + m) seq.split seq.long T1 r first_done h.fits;
            }

        pub seq-second : (u : ℕ) → emit_m s i ≡ u → (emit_m s n.right < u) × Emitting o s n.right T1 (b + m) r k
        unfolding emit_m
        seq-second u eu = (omega (arith, (seq-right s i n en (node_at s i).height refl (emit_at h) e).0, alt_small (node_at s n.right).sort), second-emitting)

        pub seq-done : (T2 : List ℕ) (q : ℕ) → ((g : Emitting o s n.right T1 (b + m) r k) → Emitted o T1 T2 (b + m) r q (tree_places o g.tree (b + m) k))
            → Emitted o T T2 b w q (tree_places o h.tree b k)
        unfolding second-emitting
        seq-done T2 q g =
            part-both o T b w k (tree_places o h.tree b k) (tree_places o (one (last seq.first)) b nx) (λ v. tree_places o (one seq.rest) v k) (b + m)
            seq.split seq.long T1 r first_done T2 q (g second-emitting)

  -- an alternation
  module _ (e : n.sort ≡ Alternation) where
    record AltParts (p : Tree pattern) : Type 0 where
      split : tree_places o p b k ≡ fork_places o p b k ++ branch_places o p (b + 1) k
      room : b + 1 + sizes (unrolled p) ≤ 256

    alt_parts : (p : Tree pattern) → Top p i s → Fitting o T b w k (tree_places o p b k) → AltParts p
    unfolding place_count fork
    alt_parts p t f =
        as_alt s i n en (λ p. (n.places ≡ place_count p) × (b + (fork p + place_count p) ≤ 256) → AltParts p) e
        (λ g p q x. let y = x.1 in let z : sizes (unrolled (more g p)) ≡ place_count (more g p) = unrolled-size (more g p) in record
        { split = alt_places o g p b k; room = omega arith })
        p t (exact p t f)

    module _ (h : Emitting o s i T b w k) where
      alt : AltParts h.tree
      alt = alt_parts h.tree h.top h.fits

      one-long : b + 1 ≡ b + length (fork_places o h.tree b k)
      one-long = omega arith

      pub alt_forking : Forking o s i T b w k
      alt_forking =
          record {
            tree = h.tree;
            top = h.top;
            fits = part_left o T b w k (tree_places o h.tree b k) (fork_places o h.tree b k) (λ v. branch_places o h.tree v k) (b + 1) alt.split
                one-long k h.fits.behind h.fits;
            room = alt.room;
          }

      module _ (T1 : List ℕ) (r : ℕ) (d : (g : Forking o s i T b w k) → Emitted o T T1 b w r (fork_places o g.tree b k)) where
        fork-done : Emitted o T T1 b w r (fork_places o h.tree b k)
        unfolding alt_forking
        fork-done = d alt_forking

        inside-branching : Branching o s i T1 (b + 1) r k
        inside-branching =
            record {
              tree = h.tree;
              top = h.top;
              fits = part_right o T b w k (tree_places o h.tree b k) (fork_places o h.tree b k) (λ v. branch_places o h.tree v k) (b + 1) alt.split
                  one-long T1 r fork-done h.fits;
            }

        pub alt_inside : (u : ℕ) → emit_m s i ≡ u → (branch_m s i < u) × Branching o s i T1 (b + 1) r k
        unfolding emit_m branch_m
        alt_inside u eu = let two : alt_bit (node_at s i).sort ≡ 2 = ap alt_bit (ap (λ (y : Node). y.sort) (sym en) ∙ e) in (omega arith, inside-branching)

        pub alt_done : (T2 : List ℕ) (q : ℕ) → ((g : Branching o s i T1 (b + 1) r k) → Emitted o T1 T2 (b + 1) r q (branch_places o g.tree (b + 1) k))
            → Emitted o T T2 b w q (tree_places o h.tree b k)
        unfolding inside-branching
        alt_done T2 q g =
            part-both o T b w k (tree_places o h.tree b k) (fork_places o h.tree b k) (λ v. branch_places o h.tree v k) (b + 1) alt.split one-long T1
            r fork-done T2 q (g inside-branching)

  -- a factor
  module _ (ns : n.sort ≡ Sequence → ⊥) (na : n.sort ≡ Alternation → ⊥) where
    record FactorOf (p : Tree pattern) : Type 0 where
      of : Tree factor
      is : p ≡ one (last of)
      seen : FactorAt s n of

    factor-of : (p : Tree pattern) → Top p i s → FactorOf p
    factor-of = as_any s i n en FactorOf (λ F q. record { of = F; is = refl; seen = q }) (λ f b q. absurd (ns q.sort)) (λ b p q. absurd (na q.sort))

    pub turn_order : Emitting o s i T b w k → n.low ≤ n.high
    turn_order h = let F = factor-of h.tree h.top in F.seen.order.in_order

    module _ (c : ℕ) (hc : BodySize s i c) (empty : Bool) (he : BodyFlag o.factor s i empty) (m : Option ℕ) (em : m ≡ turns_behind n.low n.high) (h : Emitting o s i T b w k) where
      F : FactorOf h.tree
      F = factor-of h.tree h.top

      factor-top : Top (one (last F.of)) i s
      factor-top = subst (λ (p : Tree pattern). Top p i s) F.is h.top

      more-is : m ≡ turns_behind (lower_of F.of) (highest_of F.of)
      more-is = em ∙ ap (λ (v : ℕ). turns_behind v n.high) F.seen.low ∙ ap (turns_behind (lower_of F.of)) F.seen.high

      same-places : tree_places o h.tree b k ≡ turn_places o n.low m F.of b k
      same-places = ap (λ (p : Tree pattern). tree_places o p b k) F.is ∙ factor-places o F.of b k n.low m F.seen.bounds F.seen.low more-is

      factor-count : (n.places ≡ place_count F.of) × (place_count F.of ≤ 256)
      unfolding place_count
      factor-count =
          let x = exact h.tree h.top h.fits in
          let z : place_count h.tree ≡ place_count F.of = ap (λ (p : Tree pattern). place_count p) F.is in
          (x.0 ∙ z, omega (arith, x.1))

      turning : Turning o s i c n.lazy empty n.low m (b + n.places) T b w k
      turning =
          let z : size (unrolled (body F.of)) ≡ place_count (body F.of) = unrolled-size (body F.of) in
          record {
            of = F.of;
            top = factor-top;
            each = hc F.of factor-top factor-count.1 ∙ sym z;
            reluctant = F.seen.lazy;
            flags = he F.of factor-top;
            ends = ap (λ (v : ℕ). b + v) (factor-count.0 ∙ sym (factor-size o F.of b k n.low m F.seen.bounds F.seen.low more-is));
            fits = subst (Fitting o T b w k) same-places h.fits;
          }

      pub turn_first : (u : ℕ) → emit_m s i ≡ u → (round_m s i < u) × Turning o s i c n.lazy empty n.low m (b + n.places) T b w k
      unfolding emit_m round_m
      turn_first u eu = (omega arith, turning)

      pub turn_done : (T2 : List ℕ) (q : ℕ) → ((g : Turning o s i c n.lazy empty n.low m (b + n.places) T b w k)
          → Emitted o T T2 b w q (turn_places o n.low m g.of b k)) → Emitted o T T2 b w q (tree_places o h.tree b k)
      unfolding turning
      turn_done T2 q g = subst (Emitted o T T2 b w q) (sym same-places) (g turning)

pub emit_in : (o : Plane) (s : List ℕ) (i : ℕ) (T : List ℕ) (b w : ℕ) (k : Behind) → Emitting o s i T b w k → 8 * i + 8 ≤ length s
emit_in o s i T b w k h = at_in s i (record { tree = h.tree; is = h.top })

-- ---- branches

module _ (o : Plane) (s : List ℕ) (i : ℕ) (n : Node) (en : n ≡ node_at s i) (T : List ℕ) (b w : ℕ) (k : Behind) where
  branching_at : Branching o s i T b w k → At s i
  branching_at h = record { tree = h.tree; is = h.top }

  -- no places
  pub branches_none : n.places ≡ 0 → (h : Branching o s i T b w k) → Emitted o T T b w w (branch_places o h.tree b k)
  branches_none e h =
      let a : n.places ≡ min (place_count h.tree) 257 = ap (λ (y : Node). y.places) en ∙ top_places s i h.tree h.top in
      nothing_put o T b w (branch_places o h.tree b k) (omega (arith, branch-length o h.tree b k))

  module _ (e : n.sort ≡ Alternation) (m : ℕ) (em : m ≡ (node_at s n.left).places) where
    record BranchParts (p : Tree pattern) : Type 0 where
      first : Tree branch
      rest : Tree pattern
      left_top : Top (one first) n.left s
      right_top : Top rest n.right s
      split : branch_places o p b k ≡ tree_places o (one first) b k ++ branch_places o rest (b + m) k
      long : b + m ≡ b + length (tree_places o (one first) b k)
      low : b + m ≤ 256

    branch-parts : (p : Tree pattern) → Top p i s → Fitting o T b w k (branch_places o p b k) → BranchParts p
    unfolding place_count fork
    branch-parts =
        as_alt s i n en (λ p. Fitting o T b w k (branch_places o p b k) → BranchParts p) e λ g p q f.
        let d = top_places s n.left (one g) q.left in
        let y = branch-length o (more g p) b k in
        let z = f.place in
        let c : m ≡ place_count g = omega arith in
        let l = tree-length o (one g) b k in
        record {
          first = g;
          rest = p;
          left_top = q.left;
          right_top = q.right;
          split = branch-more o g p b k (b + m) (ap (λ (v : ℕ). b + v) c);
          long = omega arith;
          low = omega arith;
        }

    pub branch-left_in : Branching o s i T b w k → 8 * n.left + 8 ≤ length s
    branch-left_in h = at_in s n.left (alt_left s i n en (node_at s i).height refl (branching_at h) e).1

    pub branch-mid : Branching o s i T b w k → Fits-in w64 (b + m)
    branch-mid h = record { fits = omega (arith, (branch-parts h.tree h.top h.fits).low) }

    module _ (h : Branching o s i T b w k) where
      parts : BranchParts h.tree
      parts = branch-parts h.tree h.top h.fits

      branch-emitting : Emitting o s n.left T b w k
      branch-emitting =
          record {
            tree = one parts.first;
            top = parts.left_top;
            fits = part_left o T b w k (branch_places o h.tree b k) (tree_places o (one parts.first) b k) (λ v. branch_places o parts.rest v k)
                (b + m) parts.split parts.long
                k h.fits.behind h.fits;
          }

      pub branch-first : (u : ℕ) → branch_m s i ≡ u → (emit_m s n.left < u) × Emitting o s n.left T b w k
      unfolding emit_m branch_m
      branch-first u eu = (omega (arith, (alt_left s i n en (node_at s i).height refl (branching_at h) e).0, alt_small (node_at s n.left).sort), branch-emitting)

      module _ (T1 : List ℕ) (r : ℕ) (d : (g : Emitting o s n.left T b w k) → Emitted o T T1 b w r (tree_places o g.tree b k)) where
        branch-put : Emitted o T T1 b w r (tree_places o (one parts.first) b k)
        unfolding branch-emitting
        branch-put = d branch-emitting

        rest-branching : Branching o s n.right T1 (b + m) r k
        rest-branching =
            record {
              tree = parts.rest;
              top = parts.right_top;
              fits = part_right o T b w k (branch_places o h.tree b k) (tree_places o (one parts.first) b k) (λ v. branch_places o parts.rest v k)
                  (b + m) parts.split parts.long T1 r branch-put h.fits;
            }

        pub branch-second : (u : ℕ) → branch_m s i ≡ u → (branch_m s n.right < u) × Branching o s n.right T1 (b + m) r k
        unfolding branch_m
        branch-second u eu = (omega (arith, (alt_right s i n en (node_at s i).height refl (branching_at h) e).0), rest-branching)

        pub branch-done : (T2 : List ℕ) (q : ℕ) → ((g : Branching o s n.right T1 (b + m) r k) → Emitted o T1 T2 (b + m) r q (branch_places o g.tree (b + m) k))
            → Emitted o T T2 b w q (branch_places o h.tree b k)
        unfolding rest-branching
        branch-done T2 q g =
            part-both o T b w k (branch_places o h.tree b k) (tree_places o (one parts.first) b k) (λ v. branch_places o parts.rest v k)
            (b + m) parts.split parts.long T1 r branch-put T2 q (g rest-branching)

  module _ (e : n.sort ≡ Alternation → ⊥) where
    single : (p : Tree pattern) → Top p i s → branch_places o p b k ≡ tree_places o p b k
    single = as_any s i n en (λ p. branch_places o p b k ≡ tree_places o p b k) (λ F q. branch_one o (last F) b k)
        (λ f g q. branch_one o (next f g) b k) (λ b p q. absurd (e q.sort))

    module _ (h : Branching o s i T b w k) where
      single_emitting : Emitting o s i T b w k
      single_emitting = record { tree = h.tree; top = h.top; fits = subst (Fitting o T b w k) (single h.tree h.top) h.fits }

      pub single_first : (u : ℕ) → branch_m s i ≡ u → (emit_m s i < u) × Emitting o s i T b w k
      unfolding emit_m branch_m
      single_first u eu = (omega (arith, not-alt_bit (node_at s i).sort (λ j. e (ap (λ (y : Node). y.sort) en ∙ j))), single_emitting)

      pub single_done : (T2 : List ℕ) (q : ℕ) → ((g : Emitting o s i T b w k) → Emitted o T T2 b w q (tree_places o g.tree b k))
          → Emitted o T T2 b w q (branch_places o h.tree b k)
      unfolding single_emitting
      single_done T2 q g = subst (Emitted o T T2 b w q) (sym (single h.tree h.top)) (g single_emitting)

-- ---- rounds

module _ (o : Plane) (s : List ℕ) (i c : ℕ) (lazy empty : Bool) (n : ℕ) (m : Option ℕ) (end : ℕ) (T : List ℕ) (b w : ℕ) (k : Behind) where
  -- a body's places
  body-places : (h : Turning o s i c lazy empty n m end T b w k) (v : ℕ) (j : Behind) → length (body_places o h.of v j) ≡ c
  body-places h v j = let z : size (unrolled (body h.of)) ≡ place_count (body h.of) = unrolled-size (body h.of) in body-length o h.of v j ∙ sym z ∙ sym h.each

  -- a copy
  module _ (n2 : ℕ) (en : n ≡ suc n2) where
    module _ (nx : Behind) (ex : nx ≡ start_by o (b + c) end k) (h : Turning o s i c lazy empty n m end T b w k) where
      copy-split : turn_places o n m h.of b k ≡ body_places o h.of b nx ++ turn_places o n2 m h.of (b + c) k
      copy-split = turn_copy o h.of c b k end h.each n n2 m nx en h.ends ex

      copy-long : b + c ≡ b + length (body_places o h.of b nx)
      copy-long = ap (λ (v : ℕ). b + v) (sym (body-places h b nx))

      copy-low : b + c ≤ 256
      copy-low = let f : Fitting o T b w k (body_places o h.of b nx ++ turn_places o n2 m h.of (b + c) k) = subst (Fitting o T b w k) copy-split h.fits in
          let g = fit-left o T b w k (body_places o h.of b nx) (turn_places o n2 m h.of (b + c) k) k h.fits.behind f in omega (arith, g.place, copy-long)

      copy-bodying : Bodying o s i T b w nx
      copy-bodying =
          record {
            of = h.of;
            top = h.top;
            fits = part_left o T b w k (turn_places o n m h.of b k) (body_places o h.of b nx) (λ v. turn_places o n2 m h.of v k) (b + c) copy-split
                copy-long
                nx (rw ex (start-low o (b + c) end k copy-low h.fits.behind)) h.fits;
          }

      pub copy-first : (u : ℕ) → round_m s i ≡ u → (body_m s i < u) × Bodying o s i T b w nx
      unfolding round_m body_m
      copy-first u eu = (omega arith, copy-bodying)

      module _ (T1 : List ℕ) (r : ℕ) (d : (g : Bodying o s i T b w nx) → Emitted o T T1 b w r (body_places o g.of b nx)) where
        copy-put : Emitted o T T1 b w r (body_places o h.of b nx)
        unfolding copy-bodying
        copy-put = d copy-bodying

        pub copy-turning : Turning o s i c lazy empty n2 m end T1 (b + c) r k
        copy-turning =
            let f = part_right o T b w k (turn_places o n m h.of b k) (body_places o h.of b nx) (λ v. turn_places o n2 m h.of v k) (b + c)
            copy-split copy-long T1 r copy-put h.fits in
            let l1 = turn_length o n m h.of b k in
            let l2 = turn_length o n2 m h.of (b + c) k in
            let l3 : length (turn_places o n m h.of b k) ≡ length (body_places o h.of b nx) + length (turn_places o n2 m h.of (b + c) k) = ap
            length copy-split ∙ length-append (body_places o h.of b nx) _ in
            record {
              of = h.of;
              top = h.top;
              each = h.each;
              reluctant = h.reluctant;
              flags = h.flags;
              ends = omega (arith, h.ends, body-places h b nx);
              fits = f;
            }

        pub copy_done : (T2 : List ℕ) (q : ℕ) → ((g : Turning o s i c lazy empty n2 m end T1 (b + c) r k) → Emitted o T1 T2 (b + c) r q (turn_places o n2 m g.of (b + c) k))
            → Emitted o T T2 b w q (turn_places o n m h.of b k)
        unfolding copy-turning
        copy_done T2 q g =
            part-both o T b w k (turn_places o n m h.of b k) (body_places o h.of b nx) (λ v. turn_places o n2 m h.of v k) (b + c) copy-split
            copy-long T1 r copy-put T2 q (g copy-turning)

    pub copy-fits : Turning o s i c lazy empty n m end T b w k → Fits-in w64 (b + c)
    copy-fits h = record { fits = omega (arith, copy-low _ refl h) }

    pub copy_start : Turning o s i c lazy empty n m end T b w k → (b + c ≤ 256) × Low k
    copy_start h = (copy-low _ refl h, h.fits.behind)

  -- nothing is left
  pub none_done : n ≤ 0 → m ≡ Some 0 → (h : Turning o s i c lazy empty n m end T b w k) → Emitted o T T b w w (turn_places o n m h.of b k)
  none_done l e h =
      let z : n ≡ 0 = omega arith in
      subst (Emitted o T T b w w) (sym (ap (λ (v : ℕ). turn_places o v m h.of b k) z ∙ ap (λ (v : Option ℕ). turn_places o 0 v h.of b k) e
      ∙ turn_none o h.of c b k end h.each)) (emitted_none o T b w)

  -- the place behind a fork
  pub first_fits : Turning o s i c lazy empty n m end T b w k → Fits-in w64 (b + 1)
  first_fits h = record { fits = omega (arith, h.fits.place) }

  -- a fork, and what stands behind it
  module _ (F : Tree factor) (el : lazy ≡ lazy_of F) (co : ℕ) (Q : ℕ → List Place) (whole : List Place)
      (ew : whole ≡ choice_places o (lazy_of F) co k ++ Q (b + 1)) where
    whole-lazy : whole ≡ choice_places o lazy co k ++ Q (b + 1)
    whole-lazy = ew ∙ ap (λ (z : Bool). choice_places o z co k ++ Q (b + 1)) (sym el)

    one_more : b + 1 ≡ b + length (choice_places o lazy co k)
    one_more = omega arith

    choose : co < 65536 → Fitting o T b w k whole → Parting o T b w lazy co k
    choose l f = record { fits = part_left o T b w k whole (choice_places o lazy co k) Q (b + 1) whole-lazy one_more k f.behind f; copied = l }

    chosen : Fitting o T b w k whole → (T1 : List ℕ) (r : ℕ) → Emitted o T T1 b w r (choice_places o lazy co k) → Fitting o T1 (b + 1) r k (Q (b + 1))
    chosen f T1 r d = part_right o T b w k whole (choice_places o lazy co k) Q (b + 1) whole-lazy one_more T1 r d f

    chosen-done : (T1 T2 : List ℕ) (r q : ℕ) → Emitted o T T1 b w r (choice_places o lazy co k) → Emitted o T1 T2 (b + 1) r q (Q (b + 1)) → Emitted o T T2 b w q whole
    chosen-done T1 T2 r q d g = part-both o T b w k whole (choice_places o lazy co k) Q (b + 1) whole-lazy one_more T1 r d T2 q g

  -- places that begin with a fork leave room for it
  fork-low : (z : Bool) (co : ℕ) (ys : List Place) → Fitting o T b w k (choice_places o z co k ++ ys) → b + 1 + length ys ≤ 256
  fork-low z co ys f = omega (arith, f.place, length-append (choice_places o z co k) ys)

  -- a fork and a copy that leads back to it
  module _ (l : n ≤ 0) (e : m ≡ None) where
    all_star : (h : Turning o s i c lazy empty n m end T b w k) → turn_places o n m h.of b k ≡ turn_places o 0 None h.of b k
    all_star h = ap (λ (v : ℕ). turn_places o v m h.of b k) (let z : n ≡ 0 = omega arith in z) ∙ ap (λ (v : Option ℕ). turn_places o 0 v h.of b k) e

    star-ends : (h : Turning o s i c lazy empty n m end T b w k) → end ≡ b + size (turns 0 None (lazy_of h.of) (unrolled (body h.of)))
    star-ends h =
        h.ends ∙ ap (λ (v : ℕ). b + size (turns v m (lazy_of h.of) (unrolled (body h.of)))) (let z : n ≡ 0 = omega arith in z)
        ∙ ap (λ (v : Option ℕ). b + size (turns 0 v (lazy_of h.of) (unrolled (body h.of)))) e

    module _ (R : Behind) (er : R ≡ round_by o empty b k) (cp : Behind) (ec : cp ≡ start_by o (b + 1) end R) (h : Turning o s i c lazy empty n m end T b w k) where
      round_is : R ≡ round_by o (flags_copy o.factor (unrolled (body h.of))) b k
      round_is = er ∙ ap (λ (t : Bool). round_by o t b k) h.flags

      star-split : turn_places o n m h.of b k ≡ choice_places o (lazy_of h.of) cp.here k ++ body_places o h.of (b + 1) R
      star-split = all_star h ∙ turn_star o h.of c b k end h.each R cp (star-ends h) round_is ec

      star-low : b + 1 ≤ 256
      star-low = omega (arith, fork-low (lazy_of h.of) cp.here (body_places o h.of (b + 1) R) (subst (Fitting o T b w k) star-split h.fits))

      round_fits : Low R
      round_fits = rw er (round_low o empty b k (omega (arith, star-low)) h.fits.behind)

      copy-small : Low cp
      copy-small = rw ec (start-low o (b + 1) end R star-low round_fits)

      pub star-choose : Parting o T b w lazy cp.here k
      star-choose =
          choose h.of h.reluctant cp.here (λ v. body_places o h.of v R) (turn_places o n m h.of b k) star-split
          (omega (arith, copy-small.here)) h.fits

      module _ (T1 : List ℕ) (r : ℕ) (d : Emitted o T T1 b w r (choice_places o lazy cp.here k)) where
        star-bodying : Bodying o s i T1 (b + 1) r R
        star-bodying =
            let f = chosen h.of h.reluctant cp.here (λ v. body_places o h.of v R) (turn_places o n m h.of b k) star-split
            h.fits T1 r d in
            record {
              of = h.of;
              top = h.top;
              fits = record { long = f.long; small = f.small; place = f.place; way = f.way; behind = round_fits };
            }

        pub star-body : (u : ℕ) → round_m s i ≡ u → (body_m s i < u) × Bodying o s i T1 (b + 1) r R
        unfolding round_m body_m
        star-body u eu = (omega arith, star-bodying)

        pub star-done : (T2 : List ℕ) (q : ℕ) → ((g : Bodying o s i T1 (b + 1) r R) → Emitted o T1 T2 (b + 1) r q (body_places o g.of (b + 1) R))
            → Emitted o T T2 b w q (turn_places o n m h.of b k)
        unfolding star-bodying
        star-done T2 q g =
            chosen-done h.of h.reluctant cp.here (λ v. body_places o h.of v R) (turn_places o n m h.of b k) star-split T1
            T2 r q d (g star-bodying)

    -- what the end of a round and the start of its copy ask
    pub star-round : Turning o s i c lazy empty n m end T b w k → (b ≤ 256) × Low k
    star-round h = (omega (arith, h.fits.place), h.fits.behind)

    pub star-start : (R : Behind) → R ≡ round_by o empty b k → Turning o s i c lazy empty n m end T b w k → (b + 1 ≤ 256) × Low R
    star-start R er h = (star-low R er (start_by o (b + 1) end R) refl h, round_fits R er (start_by o (b + 1) end R) refl h)

  -- a fork and a copy, and then fewer
  module _ (l : n ≤ 0) (m2 : ℕ) (em : m ≡ Some (suc m2)) where
    all_options : (h : Turning o s i c lazy empty n m end T b w k) → turn_places o n m h.of b k ≡ turn_places o 0 (Some (suc m2)) h.of b k
    all_options h = ap (λ (v : ℕ). turn_places o v m h.of b k) (let z : n ≡ 0 = omega arith in z) ∙ ap (λ (v : Option ℕ). turn_places o 0 v h.of b k) em

    option_ends : (h : Turning o s i c lazy empty n m end T b w k) → end ≡ b + size (turns 0 (Some (suc m2)) (lazy_of h.of) (unrolled (body h.of)))
    option_ends h =
        h.ends ∙ ap (λ (v : ℕ). b + size (turns v m (lazy_of h.of) (unrolled (body h.of)))) (let z : n ≡ 0 = omega arith in z)
        ∙ ap (λ (v : Option ℕ). b + size (turns 0 v (lazy_of h.of) (unrolled (body h.of)))) em

    module _ (cp : Behind) (ec : cp ≡ start_by o (b + 1) end k) (h : Turning o s i c lazy empty n m end T b w k) where
      -- the copy and the rest, from the place v on
      behind_fork : Behind → ℕ → List Place
      behind_fork nx v = body_places o h.of v nx ++ turn_places o 0 (Some m2) h.of (v + c) k

      option_split : (nx : Behind) → nx ≡ start_by o (b + 1 + c) end k
          → turn_places o n m h.of b k ≡ choice_places o (lazy_of h.of) cp.here k ++ behind_fork nx (b + 1)
      unfolding behind_fork
      option_split nx ex = all_options h ∙ turn_option o h.of c b k end h.each m2 cp nx (option_ends h) ec ex

      option_lengths : (nx : Behind) → nx ≡ start_by o (b + 1 + c) end k
          → length (turn_places o n m h.of b k) ≡ 1 + (c + length (turn_places o 0 (Some m2) h.of (b + 1 + c) k))
      unfolding behind_fork
      option_lengths nx ex =
          ap length (option_split nx ex) ∙ length-append (choice_places o (lazy_of h.of) cp.here k) (behind_fork nx (b + 1))
          ∙ ap (λ (v : ℕ). 1 + v) (length-append (body_places o h.of (b + 1) nx) (turn_places o 0 (Some m2) h.of (b + 1 + c) k)
          ∙ ap (λ (v : ℕ). v + length (turn_places o 0 (Some m2) h.of (b + 1 + c) k)) (body-places h (b + 1) nx))

      option_low : b + 1 + c ≤ 256
      unfolding behind_fork
      option_low =
          let nx : Behind = start_by o (b + 1 + c) end k in
          let f = fork-low (lazy_of h.of) cp.here (behind_fork nx (b + 1)) (subst (Fitting o T b w k) (option_split nx refl) h.fits) in
          omega (arith, f, length-append (body_places o h.of (b + 1) nx) (turn_places o 0 (Some m2) h.of (b + 1 + c) k), body-places h (b + 1) nx)

      copy-low_entry : Low cp
      copy-low_entry = rw ec (start-low o (b + 1) end k (omega (arith, option_low)) h.fits.behind)

      pub option_choose : Parting o T b w lazy cp.here k
      option_choose =
          choose h.of h.reluctant cp.here (behind_fork (start_by o (b + 1 + c) end k))
          (turn_places o n m h.of b k) (option_split _ refl)
          (omega (arith, copy-low_entry.here)) h.fits

      module _ (T1 : List ℕ) (r : ℕ) (d : Emitted o T T1 b w r (choice_places o lazy cp.here k)) (nx : Behind) (ex : nx ≡ start_by o (b + 1 + c) end k)
        where
          inside-fits : Fitting o T1 (b + 1) r k (body_places o h.of (b + 1) nx ++ turn_places o 0 (Some m2) h.of (b + 1 + c) k)
          unfolding behind_fork
          inside-fits = chosen h.of h.reluctant cp.here (behind_fork nx) (turn_places o n m h.of b k) (option_split nx ex) h.fits
              T1 r d

          option_long : b + 1 + c ≡ b + 1 + length (body_places o h.of (b + 1) nx)
          option_long = ap (λ (v : ℕ). b + 1 + v) (sym (body-places h (b + 1) nx))

          option_bodying : Bodying o s i T1 (b + 1) r nx
          option_bodying =
              record {
                of = h.of;
                top = h.top;
                fits = fit-left o T1 (b + 1) r k (body_places o h.of (b + 1) nx) (turn_places o 0 (Some m2) h.of (b + 1 + c) k) nx
                    (rw ex (start-low o (b + 1 + c) end k option_low h.fits.behind)) inside-fits;
              }

          pub option_body : (u : ℕ) → round_m s i ≡ u → (body_m s i < u) × Bodying o s i T1 (b + 1) r nx
          unfolding round_m body_m
          option_body u eu = (omega arith, option_bodying)

          module _ (T2 : List ℕ) (q : ℕ) (g : (t : Bodying o s i T1 (b + 1) r nx) → Emitted o T1 T2 (b + 1) r q (body_places o t.of (b + 1) nx)) where
            option_put : Emitted o T1 T2 (b + 1) r q (body_places o h.of (b + 1) nx)
            unfolding option_bodying
            option_put = g option_bodying

            pub option_turning : Turning o s i c lazy empty 0 (Some m2) end T2 (b + 1 + c) q k
            option_turning =
                let f = part_right o T1 (b + 1) r k (body_places o h.of (b + 1) nx ++ turn_places o 0 (Some m2) h.of (b + 1 + c) k) (body_places o h.of (b + 1) nx)
                (λ v. turn_places o 0 (Some m2) h.of v k) (b + 1 + c) refl option_long T2 q option_put inside-fits in
                let l1 = turn_length o n m h.of b k in
                let l2 = turn_length o 0 (Some m2) h.of (b + 1 + c) k in
                let l3 = option_lengths nx ex in
                record {
                  of = h.of;
                  top = h.top;
                  each = h.each;
                  reluctant = h.reluctant;
                  flags = h.flags;
                  ends = omega (arith, h.ends, body-places h (b + 1) nx);
                  fits = f;
                }

            pub option_done : (T3 : List ℕ) (z : ℕ) → ((t : Turning o s i c lazy empty 0 (Some m2) end T2 (b + 1 + c) q k) → Emitted o T2 T3 (b + 1 + c) q z (turn_places o 0 (Some m2) t.of (b + 1 + c) k))
                → Emitted o T T3 b w z (turn_places o n m h.of b k)
            unfolding option_turning behind_fork
            option_done T3 z t =
                chosen-done h.of h.reluctant cp.here (behind_fork nx) (turn_places o n m h.of b k) (option_split nx ex) T1 T3 r z d
                (part-both o T1 (b + 1) r k (body_places o h.of (b + 1) nx ++ turn_places o 0 (Some m2) h.of (b + 1 + c) k) (body_places o h.of (b + 1) nx)
                (λ v. turn_places o 0 (Some m2) h.of v k) (b + 1 + c) refl option_long T2 q option_put T3 z (t option_turning))

    pub option_more : Turning o s i c lazy empty n m end T b w k → Fits-in w64 (b + 1 + c)
    option_more h = record { fits = omega (arith, option_low _ refl h) }

    -- what the starts of the copy and of the rest ask
    pub option_start : Turning o s i c lazy empty n m end T b w k → (b + 1 ≤ 256) × Low k
    option_start h = (omega (arith, option_low _ refl h), h.fits.behind)

    pub option_rest : Turning o s i c lazy empty n m end T b w k → (b + 1 + c ≤ 256) × Low k
    option_rest h = (option_low _ refl h, h.fits.behind)

-- ---- body

-- the one place of a letter or an anchor
simple-put : (o : Plane) (T T1 : List ℕ) (b w r : ℕ) (k : Behind) (p : Place) (v x : ℕ) → way_count p ≡ 0 → put_place T (slot o b) w p ≡ put_words T (slot o b) (place_words v x 0 0)
    → (r ≡ w) × (T1 ≡ put_single T o b (place_words v x 0 0) k.values) → Emitted o T T1 b w r (used o k p ∷ [])
unfolding used put_single put_place way_count
simple-put o T T1 b w r k p v x ew ep d = go (ltb o.flags k.values) d.1
  where
    go : (t : Bool) → T1 ≡ pick t (put_words T (slot o b) (place_words v x 0 0)) (put_words T (slot o b) (place_words 30 0 0 0)) → Emitted o T T1 b w r (pick t p p_end ∷ [])
    go true e = emitted_one o T b w p T1 r (record { is = e ∙ sym ep; way = omega (arith, d.0, ew) })
    go false e = emitted_one o T b w p_end T1 r (record { is = e; way = omega (arith, d.0) })

-- a place that is no fork is as it was
thin-single : (o : Plane) (k : Behind) (p : Place) → thin_place p ≡ p → thin_place (used o k p) ≡ used o k p
unfolding used thin_place
thin-single o k p e = go (ltb o.flags k.values)
  where
    go : (t : Bool) → thin_place (pick t p p_end) ≡ pick t p p_end
    go true = e
    go false = refl

module _ (o : Plane) (s : List ℕ) (i : ℕ) (n : Node) (en : n ≡ node_at s i) (T : List ℕ) (b w : ℕ) (k : Behind) where
  one-fits : (p : Place) → Fitting o T b w k (p ∷ []) → (v x : ℕ) → v < 65536 → x < 4096 → Single T o b v x
  one-fits p f v x l m =
      record {
        place = omega (arith, f.place);
        long = f.long b (omega arith);
        code_fits = l;
        first_fits = omega arith;
      }

  module _ (a : ℕ) (e : n.sort ≡ Letter a) (h : Bodying o s i T b w k) (v : ℕ) (ev : (v ≡ letter_code a) × (v < 65536)) where
    is-letter : body_places o h.of b k ≡ used o k (p_letter a k.set) ∷ []
    unfolding unrolled plane_of thinned thin_place
    is-letter =
        ap (λ (x : Tree primary). thinned (plane_of o (unrolled x) b k))
        (as_letter s i n en (OnFactor (λ G. body G ≡ letter a)) a e (λ G q j. j) (one (last h.of)) h.top)
        ∙ ap (λ (p : Place). p ∷ []) (thin-single o k (p_letter a k.set) refl)

    pub letter-words : Single T o b v k.set
    letter-words = one-fits (used o k (p_letter a k.set)) (subst (Fitting o T b w k) is-letter h.fits) v k.set ev.1 h.fits.behind.set

    pub letter-done : (T1 : List ℕ) (r : ℕ) → (r ≡ w) × (T1 ≡ put_single T o b (place_words v k.set 0 0) k.values) → Emitted o T T1 b w r (body_places o h.of b k)
    unfolding put_place way_count
    letter-done T1 r d =
        subst (Emitted o T T1 b w r) (sym is-letter)
        (simple-put o T T1 b w r k (p_letter a k.set) v k.set refl (sym (ap (λ (x : ℕ). put_words T (slot o b) (place_words x k.set 0 0)) ev.0)) d)

  module _ (a : ℕ) (e : n.sort ≡ Anchor a) (h : Bodying o s i T b w k) (v : ℕ) (ev : (v ≡ anchor_code a) × (v < 65536)) where
    abbrev AnchorIs : Tree factor → Type 0
    AnchorIs G = IsAnchor (body G) a

    which : IsAnchor (body h.of) a
    which = as_anchor s i n en (OnFactor AnchorIs) a e (λ G q j. j) (one (last h.of)) h.top

    record AnchorPlace : Type 0 where
      place : Place
      is : body_places o h.of b k ≡ used o k place ∷ []
      words : put_place T (slot o b) w place ≡ put_words T (slot o b) (place_words v k.here 0 0)
      ways : way_count place ≡ 0

    anchor_place : AnchorPlace
    unfolding unrolled plane_of thinned thin_place put_place way_count
    anchor_place = go which
      where
        go : IsAnchor (body h.of) a → AnchorPlace
        go (inl j) =
            record {
              place = p_caret k.here;
              is = ap (λ (x : Tree primary). thinned (plane_of o (unrolled x) b k)) j.0 ∙ ap (λ (p : Place). p ∷ []) (thin-single o k (p_caret k.here) refl);
              words = sym (ap (λ (x : ℕ). put_words T (slot o b) (place_words x k.here 0 0)) (ev.0 ∙ ap anchor_code j.1));
              ways = refl;
            }
        go (inr j) =
            record {
              place = p_dollar k.here;
              is = ap (λ (x : Tree primary). thinned (plane_of o (unrolled x) b k)) j.0 ∙ ap (λ (p : Place). p ∷ []) (thin-single o k (p_dollar k.here) refl);
              words = sym (ap (λ (x : ℕ). put_words T (slot o b) (place_words x k.here 0 0)) (ev.0 ∙ ap anchor_code j.1));
              ways = refl;
            }

    pub anchor_words : Single T o b v k.here
    anchor_words = one-fits (used o k anchor_place.place) (subst (Fitting o T b w k) anchor_place.is h.fits) v k.here ev.1 h.fits.behind.here

    pub anchor_done : (T1 : List ℕ) (r : ℕ) → (r ≡ w) × (T1 ≡ put_single T o b (place_words v k.here 0 0) k.values) → Emitted o T T1 b w r (body_places o h.of b k)
    anchor_done T1 r d =
        subst (Emitted o T T1 b w r) (sym anchor_place.is)
        (simple-put o T T1 b w r k anchor_place.place v k.here anchor_place.ways anchor_place.words d)

  pub empty-done : n.sort ≡ Empty → (h : Bodying o s i T b w k) → Emitted o T T b w w (body_places o h.of b k)
  unfolding unrolled plane_of thinned
  empty-done e h =
      subst (Emitted o T T b w w)
      (sym (ap (λ (x : Tree primary). thinned (plane_of o (unrolled x) b k)) (as_empty s i n en (OnFactor (λ G. body G ≡ empty)) e (λ G q j. j) (one (last h.of))
      h.top))) (emitted_none o T b w)

  pub sequence_done : n.sort ≡ Sequence → (h : Bodying o s i T b w k) → Emitted o T T b w w (body_places o h.of b k)
  sequence_done e h = absurd (as_seq s i n en (OnFactor (λ G. ⊥)) e (λ f b q. tt) (one (last h.of)) h.top)

  pub alternation_done : n.sort ≡ Alternation → (h : Bodying o s i T b w k) → Emitted o T T b w w (body_places o h.of b k)
  alternation_done e h = absurd (as_alt s i n en (OnFactor (λ G. ⊥)) e (λ b p q. tt) (one (last h.of)) h.top)

  module _ (e : n.sort ≡ Group) (h : Bodying o s i T b w k) where
    inner : (p : Tree pattern) × GroupAt s n h.of p
    inner = as_group s i n en (OnFactor (λ G. (p : Tree pattern) × GroupAt s n G p)) e (λ G q p g. (p, g)) (one (last h.of)) h.top

    is-group : body_places o h.of b k ≡ tree_places o inner.0 b k
    unfolding unrolled unroll
    is-group = ap (λ (x : Tree primary). thinned (plane_of o (unrolled x) b k)) inner.1.is

    group-emitting : Emitting o s n.left T b w k
    group-emitting = record { tree = inner.0; top = inner.1.inside; fits = subst (Fitting o T b w k) is-group h.fits }

    pub group-first : (u : ℕ) → body_m s i ≡ u → (emit_m s n.left < u) × Emitting o s n.left T b w k
    unfolding emit_m body_m
    group-first u eu = (
      omega (arith, (group-left s i n en (node_at s i).height refl (record { tree = one (last h.of); is = h.top }) e).0, alt_small (node_at s n.left).sort),
      group-emitting,
    )

    pub group-done : (T2 : List ℕ) (q : ℕ) → ((g : Emitting o s n.left T b w k) → Emitted o T T2 b w q (tree_places o g.tree b k))
        → Emitted o T T2 b w q (body_places o h.of b k)
    unfolding group-emitting
    group-done T2 q g = subst (Emitted o T T2 b w q) (sym is-group) (g group-emitting)
