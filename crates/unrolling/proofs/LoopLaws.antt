-- Laws of the loops over the parts of a sequence, the branches of an alternation and the rounds of
-- a factor: what is left to put is known, and putting it puts the whole. Each law is one way
-- through one turn of a loop; those of a way without its loop are in EmitLaws.
use mathlib.Core.Path.{◌≡◌, refl, ap, ◌∙◌, subst}
use mathlib.Core.Bool.{Bool}
use mathlib.Core.List.{List}
use Prim.Native.Nat.{ℕ, suc, ◌+◌, ◌*◌, ◌-◌, ◌≤◌, ◌<◌}
use native.Mathlib.Omega.{arith}
use mir.Val.{Fits as Fits-in}
use mir.Syntax.{w64}
use lib.ListN.{length}
use Rattle.std.specs.Prelude.{Option, Some, None}
use Rattle.nodes.specs.Nodes.{node_at}
use Rattle.nodes.specs.declared.Sort.TheVariants.{Sequence, Alternation}
use Rattle.nodes.specs.declared.Node.{Node}
use Rattle.place_codes.specs.Codes.{turns_behind}
use Rattle.place_codes.specs.Planes.{Low, start_by, round_by}
use Rattle.place_codes.specs.declared.Plane.{Plane}
use Rattle.place_codes.specs.declared.Behind.{Behind}
use Rattle.place_words.specs.Words.{Emitted}
use Rattle.forks.specs.Emitting.{choice_places, Parting, fork_places, Forking, tree_places, branch_places, body_places, turn_places, Emitting, Branching, Bodying, Turning, BodySize, BodyFlag}
use Rattle.unrolling.proofs.EmitLaws.{emit_m, branch_m, round_m, body_m, emit_in, emit_end, emit_none, seq-left_in, seq-mid, seq_start, seq-first, seq-second, seq-done, alt_forking, alt_inside, alt_done, turn_order, turn_first, turn_done, branches_none, branch-left_in, branch-mid, branch-first, branch-second, branch-done, single_first, single_done, first_fits, copy-first, copy-turning, copy_done, copy-fits, copy_start, none_done, star-choose, star-body, star-done, star-round, star-start, option_choose, option_body, option_turning, option_done, option_more, option_start, option_rest}

-- ---- emit

pub record EmitLeft (o : Plane) (s : List ℕ) (i : ℕ) (T0 : List ℕ) (b0 w0 : ℕ) (k : Behind) (j : ℕ) (T : List ℕ) (b w : ℕ) : Type 0 where
  pub now : Emitting o s j T b w k
  pub less : emit_m s j ≤ emit_m s i
  pub so : (h : Emitting o s i T0 b0 w0 k) (T2 : List ℕ) (q : ℕ) → ((g : Emitting o s j T b w k) → Emitted o T T2 b w q (tree_places o g.tree b k))
      → Emitted o T0 T2 b0 w0 q (tree_places o h.tree b0 k)

module _ (o : Plane) (s : List ℕ) (i : ℕ) (T0 : List ℕ) (b0 w0 : ℕ) (k : Behind) (j : ℕ) (T : List ℕ) (b w : ℕ) (L : EmitLeft o s i T0 b0 w0 k j T b w) where
  pub left_in : 8 * j + 8 ≤ length s
  left_in = emit_in o s j T b w k L.now

  module _ (n : Node) (en : n ≡ node_at s j) where
    pub left_end : Fits-in w64 (b + n.places)
    left_end = emit_end o s j n en T b w k L.now

    module _ (na : n.sort ≡ Alternation → ⊥) (e : b + n.places ≡ b) (h : Emitting o s i T0 b0 w0 k) where
      pub left-none : Emitted o T0 T b0 w0 w (tree_places o h.tree b0 k)
      left-none = L.so h T w (λ g. emit_none o s j n en T b w k na e g)

    -- an alternation
    module _ (e : n.sort ≡ Alternation) where
      pub left-forking : Forking o s j T b w k
      left-forking = alt_forking o s j n en T b w k e L.now

      module _ (T1 : List ℕ) (r : ℕ) (d : (g : Forking o s j T b w k) → Emitted o T T1 b w r (fork_places o g.tree b k)) where
        pub left-inside : Branching o s j T1 (b + 1) r k
        left-inside = (alt_inside o s j n en T b w k e L.now T1 r d _ refl).1

        pub left-inside_less : (t : ℕ) → emit_m s i ≡ t → branch_m s j < t
        left-inside_less t et = omega (arith, (alt_inside o s j n en T b w k e L.now T1 r d _ refl).0, L.less, et)

        module _ (T2 : List ℕ) (q : ℕ) (f : (g : Branching o s j T1 (b + 1) r k) → Emitted o T1 T2 (b + 1) r q (branch_places o g.tree (b + 1) k)) (h : Emitting o s i T0 b0 w0 k) where
          pub left-alt : Emitted o T0 T2 b0 w0 q (tree_places o h.tree b0 k)
          left-alt = L.so h T2 q (λ g. alt_done o s j n en T b w k e g T1 r d T2 q f)

    -- a factor
    module _ (ns : n.sort ≡ Sequence → ⊥) (na : n.sort ≡ Alternation → ⊥) where
      pub left-order : n.low ≤ n.high
      left-order = turn_order o s j n en T b w k ns na L.now

      module _ (c : ℕ) (hc : BodySize s j c) (empty : Bool) (he : BodyFlag o.factor s j empty) (m : Option ℕ) (em : m ≡ turns_behind n.low n.high) where
        pub left-turning : Turning o s j c n.lazy empty n.low m (b + n.places) T b w k
        left-turning = (turn_first o s j n en T b w k ns na c hc empty he m em L.now _ refl).1

        pub left-turning_less : (t : ℕ) → emit_m s i ≡ t → round_m s j < t
        left-turning_less t et = omega (arith, (turn_first o s j n en T b w k ns na c hc empty he m em L.now _ refl).0, L.less, et)

        module _ (T2 : List ℕ) (q : ℕ) (f : (g : Turning o s j c n.lazy empty n.low m (b + n.places) T b w k) → Emitted o T T2 b w q (turn_places o n.low m g.of b k)) (h : Emitting o s i T0 b0 w0 k)
          where
            pub left-turned : Emitted o T0 T2 b0 w0 q (tree_places o h.tree b0 k)
            left-turned = L.so h T2 q (λ g. turn_done o s j n en T b w k ns na c hc empty he m em g T2 q f)

    -- a sequence
    module _ (e : n.sort ≡ Sequence) where
      pub left-part_in : 8 * n.left + 8 ≤ length s
      left-part_in = seq-left_in o s j n en T b w k e _ refl L.now

      module _ (m : ℕ) (em : m ≡ (node_at s n.left).places) where
        pub left-mid : Fits-in w64 (b + m)
        left-mid = seq-mid o s j n en T b w k e m em L.now

        pub left-start : (b + m ≤ 256) × Low k
        left-start = seq_start o s j n en T b w k e m em L.now

        module _ (nx : Behind) (ex : nx ≡ start_by o (b + m) (b + n.places) k) where
          pub left-first : Emitting o s n.left T b w nx
          left-first = (seq-first o s j n en T b w k e m em nx ex L.now _ refl).1

          pub left-first_less : (t : ℕ) → emit_m s i ≡ t → emit_m s n.left < t
          left-first_less t et = omega (arith, (seq-first o s j n en T b w k e m em nx ex L.now _ refl).0, L.less, et)

          module _ (T1 : List ℕ) (r : ℕ) (d : (g : Emitting o s n.left T b w nx) → Emitted o T T1 b w r (tree_places o g.tree b nx)) where
            pub left_down : emit_m s n.right < emit_m s j
            left_down = (seq-second o s j n en T b w k e m em nx ex L.now T1 r d _ refl).0

            pub left-again : EmitLeft o s i T0 b0 w0 k n.right T1 (b + m) r
            left-again =
                let x = seq-second o s j n en T b w k e m em nx ex L.now T1 r d _ refl in
                record {
                  now = x.1;
                  less = omega (arith, x.0, L.less);
                  so = λ h T2 q f. L.so h T2 q (λ g. seq-done o s j n en T b w k e m em nx ex g T1 r d T2 q f);
                }

-- ---- branches

pub record BranchesLeft (o : Plane) (s : List ℕ) (i : ℕ) (T0 : List ℕ) (b0 w0 : ℕ) (k : Behind) (j : ℕ) (T : List ℕ) (b w : ℕ) : Type 0 where
  pub now : Branching o s j T b w k
  pub less : branch_m s j ≤ branch_m s i
  pub so : (h : Branching o s i T0 b0 w0 k) (T2 : List ℕ) (q : ℕ) → ((g : Branching o s j T b w k) → Emitted o T T2 b w q (branch_places o g.tree b k))
      → Emitted o T0 T2 b0 w0 q (branch_places o h.tree b0 k)

module _ (o : Plane) (s : List ℕ) (i : ℕ) (T0 : List ℕ) (b0 w0 : ℕ) (k : Behind) (j : ℕ) (T : List ℕ) (b w : ℕ) (L : BranchesLeft o s i T0 b0 w0 k j T b w) where
  module _ (n : Node) (en : n ≡ node_at s j) where
    module _ (e : n.places ≡ 0) (h : Branching o s i T0 b0 w0 k) where
      pub others-none : Emitted o T0 T b0 w0 w (branch_places o h.tree b0 k)
      others-none = L.so h T w (λ g. branches_none o s j n en T b w k e g)

    -- the last one
    module _ (e : n.sort ≡ Alternation → ⊥) where
      pub others-single : Emitting o s j T b w k
      others-single = (single_first o s j n en T b w k e L.now _ refl).1

      pub others-single_less : (t : ℕ) → branch_m s i ≡ t → emit_m s j < t
      others-single_less t et = omega (arith, (single_first o s j n en T b w k e L.now _ refl).0, L.less, et)

      module _ (T2 : List ℕ) (q : ℕ) (f : (g : Emitting o s j T b w k) → Emitted o T T2 b w q (tree_places o g.tree b k)) (h : Branching o s i T0 b0 w0 k) where
        pub others-ended : Emitted o T0 T2 b0 w0 q (branch_places o h.tree b0 k)
        others-ended = L.so h T2 q (λ g. single_done o s j n en T b w k e g T2 q f)

    -- one more
    module _ (e : n.sort ≡ Alternation) where
      pub others-first : Emitting o s n.left T b w k
      others-first = (branch-first o s j n en T b w k e _ refl L.now _ refl).1

      pub others-first_less : (t : ℕ) → branch_m s i ≡ t → emit_m s n.left < t
      others-first_less t et = omega (arith, (branch-first o s j n en T b w k e _ refl L.now _ refl).0, L.less, et)

      pub others-part_in : 8 * n.left + 8 ≤ length s
      others-part_in = branch-left_in o s j n en T b w k e _ refl L.now

      module _ (m : ℕ) (em : m ≡ (node_at s n.left).places) where
        pub others-mid : Fits-in w64 (b + m)
        others-mid = branch-mid o s j n en T b w k e m em L.now

        module _ (T1 : List ℕ) (r : ℕ) (d : (g : Emitting o s n.left T b w k) → Emitted o T T1 b w r (tree_places o g.tree b k)) where
          pub others-down : branch_m s n.right < branch_m s j
          others-down = (branch-second o s j n en T b w k e m em L.now T1 r d _ refl).0

          pub others-again : BranchesLeft o s i T0 b0 w0 k n.right T1 (b + m) r
          others-again =
              let x = branch-second o s j n en T b w k e m em L.now T1 r d _ refl in
              record {
                now = x.1;
                less = omega (arith, x.0, L.less);
                so = λ h T2 q f. L.so h T2 q (λ g. branch-done o s j n en T b w k e m em g T1 r d T2 q f);
              }

-- ---- rounds

pub record RoundsLeft (o : Plane) (s : List ℕ) (i c : ℕ) (lazy empty : Bool) (n0 : ℕ) (m0 : Option ℕ) (end : ℕ) (T0 : List ℕ) (b0 w0 : ℕ) (k : Behind) (n : ℕ) (m : Option ℕ) (T : List ℕ) (b w : ℕ) : Type 0 where
  pub now : Turning o s i c lazy empty n m end T b w k
  pub so : (h : Turning o s i c lazy empty n0 m0 end T0 b0 w0 k) (T2 : List ℕ) (q : ℕ) → ((g : Turning o s i c lazy empty n m end T b w k) → Emitted o T T2 b w q (turn_places o n m g.of b k))
      → Emitted o T0 T2 b0 w0 q (turn_places o n0 m0 h.of b0 k)

pub rounds_start : (o : Plane) (s : List ℕ) (i c : ℕ) (lazy empty : Bool) (n : ℕ) (m : Option ℕ) (end : ℕ) (T : List ℕ) (b w : ℕ) (k : Behind) → Turning o s i c lazy empty n m end T b w k → RoundsLeft o s i c lazy empty n m end T b w k (n - 0) m T b w
rounds_start o s i c lazy empty n m end T b w k h =
    let z : n ≡ n - 0 = omega arith in
    subst (λ (v : ℕ). RoundsLeft o s i c lazy empty n m end T b w k v m T b w) z (record { now = h; so = λ h T2 q f. f h })

-- a body is less than its rounds
pub body-lower : (s : List ℕ) (i t : ℕ) → round_m s i ≡ t → body_m s i < t
unfolding round_m body_m
body-lower s i t e = omega (arith, e)

module _ (o : Plane) (s : List ℕ) (i c : ℕ) (lazy empty : Bool) (n0 : ℕ) (m0 : Option ℕ) (end : ℕ) (T0 : List ℕ) (b0 w0 : ℕ) (k : Behind) (n : ℕ) (m : Option ℕ) (T : List ℕ) (b w : ℕ) (L : RoundsLeft o s i c lazy empty n0 m0 end T0 b0 w0 k n m T b w) where
  pub rounds_first : Fits-in w64 (b + 1)
  rounds_first = first_fits o s i c lazy empty n m end T b w k L.now

  -- a copy
  module _ (n2 : ℕ) (en : n ≡ suc n2) where
    pub rounds_copy_fits : Fits-in w64 (b + c)
    rounds_copy_fits = copy-fits o s i c lazy empty n m end T b w k n2 en L.now

    pub rounds_copy_start : (b + c ≤ 256) × Low k
    rounds_copy_start = copy_start o s i c lazy empty n m end T b w k n2 en L.now

    module _ (nx : Behind) (ex : nx ≡ start_by o (b + c) end k) where
      pub rounds_copy : Bodying o s i T b w nx
      rounds_copy = (copy-first o s i c lazy empty n m end T b w k n2 en nx ex L.now _ refl).1

      pub rounds_copied : (T1 : List ℕ) (r : ℕ) → ((g : Bodying o s i T b w nx) → Emitted o T T1 b w r (body_places o g.of b nx))
          → RoundsLeft o s i c lazy empty n0 m0 end T0 b0 w0 k n2 m T1 (b + c) r
      rounds_copied T1 r d =
          record {
            now = copy-turning o s i c lazy empty n m end T b w k n2 en nx ex L.now T1 r d;
            so = λ h T2 q f. L.so h T2 q (λ g. copy_done o s i c lazy empty n m end T b w k n2 en nx ex g T1 r d T2 q f);
          }

  module _ (l : n ≤ 0) where
    module _ (e : m ≡ Some 0) (h : Turning o s i c lazy empty n0 m0 end T0 b0 w0 k) where
      pub rounds_none : Emitted o T0 T b0 w0 w (turn_places o n0 m0 h.of b0 k)
      rounds_none = L.so h T w (λ g. none_done o s i c lazy empty n m end T b w k l e g)

    -- no copy is left
    pub rounds_turns : (x : ℕ) → m ≡ Some x → RoundsLeft o s i c lazy empty n0 m0 end T0 b0 w0 k 0 (Some (x - 0)) T b w
    rounds_turns x e =
        let z : n ≡ 0 = omega arith in
        let y : x ≡ x - 0 = omega arith in
        subst (λ (v : ℕ). RoundsLeft o s i c lazy empty n0 m0 end T0 b0 w0 k v (Some (x - 0)) T b w) z
        (subst (λ (v : Option ℕ). RoundsLeft o s i c lazy empty n0 m0 end T0 b0 w0 k n v T b w) (e ∙ ap Some y) L)

    -- a fork and a copy that leads back to it
    module _ (e : m ≡ None) where
      pub rounds_round : (b ≤ 256) × Low k
      rounds_round = star-round o s i c lazy empty n m end T b w k l e L.now

      module _ (R : Behind) (er : R ≡ round_by o empty b k) where
        pub rounds_star_start : (b + 1 ≤ 256) × Low R
        rounds_star_start = star-start o s i c lazy empty n m end T b w k l e R er L.now

        module _ (cp : Behind) (ec : cp ≡ start_by o (b + 1) end R) where
          pub rounds_star : Parting o T b w lazy cp.here k
          rounds_star = star-choose o s i c lazy empty n m end T b w k l e R er cp ec L.now

          module _ (T1 : List ℕ) (r : ℕ) (d : Emitted o T T1 b w r (choice_places o lazy cp.here k)) where
            pub rounds_star_body : Bodying o s i T1 (b + 1) r R
            rounds_star_body = (star-body o s i c lazy empty n m end T b w k l e R er cp ec L.now T1 r d _ refl).1

            module _ (T2 : List ℕ) (q : ℕ) (f : (g : Bodying o s i T1 (b + 1) r R) → Emitted o T1 T2 (b + 1) r q (body_places o g.of (b + 1) R)) (h : Turning o s i c lazy empty n0 m0 end T0 b0 w0 k) where
              pub rounds_starred : Emitted o T0 T2 b0 w0 q (turn_places o n0 m0 h.of b0 k)
              rounds_starred = L.so h T2 q (λ g. star-done o s i c lazy empty n m end T b w k l e R er cp ec g T1 r d T2 q f)

    -- a fork and a copy, and then fewer
    module _ (m2 : ℕ) (em : m ≡ Some (suc m2)) where
      pub rounds_option_fits : Fits-in w64 (b + 1 + c)
      rounds_option_fits = option_more o s i c lazy empty n m end T b w k l m2 em L.now

      pub rounds_option_start : (b + 1 ≤ 256) × Low k
      rounds_option_start = option_start o s i c lazy empty n m end T b w k l m2 em L.now

      pub rounds_option_rest : (b + 1 + c ≤ 256) × Low k
      rounds_option_rest = option_rest o s i c lazy empty n m end T b w k l m2 em L.now

      module _ (cp : Behind) (ec : cp ≡ start_by o (b + 1) end k) where
        pub rounds_option : Parting o T b w lazy cp.here k
        rounds_option = option_choose o s i c lazy empty n m end T b w k l m2 em cp ec L.now

        module _ (T1 : List ℕ) (r : ℕ) (d : Emitted o T T1 b w r (choice_places o lazy cp.here k)) (nx : Behind) (ex : nx ≡ start_by o (b + 1 + c) end k) where
          pub rounds_option_body : Bodying o s i T1 (b + 1) r nx
          rounds_option_body = (option_body o s i c lazy empty n m end T b w k l m2 em cp ec L.now T1 r d nx ex _ refl).1

          module _ (T2 : List ℕ) (q : ℕ) (f : (g : Bodying o s i T1 (b + 1) r nx) → Emitted o T1 T2 (b + 1) r q (body_places o g.of (b + 1) nx)) where
            pub rounds_optioned : RoundsLeft o s i c lazy empty n0 m0 end T0 b0 w0 k 0 (Some m2) T2 (b + 1 + c) q
            rounds_optioned =
                record {
                  now = option_turning o s i c lazy empty n m end T b w k l m2 em cp ec L.now T1 r d nx ex T2 q f;
                  so = λ h T3 z t. L.so h T3 z (λ g. option_done o s i c lazy empty n m end T b w k l m2 em cp ec g T1 r d nx ex T2 q f T3 z t);
                }
