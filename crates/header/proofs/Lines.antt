-- The lines of the report, piece by piece: for each piece, that there is room for it behind those
-- before it, and at the end that the whole line is written.
use mathlib.Core.Path.{◌≡◌, refl, sym, ap, ◌∙◌, subst}
use mathlib.Core.Bool.{Bool, true, false}
use mathlib.Core.List.{List, [], ◌∷◌, ◌++◌}
use Prim.Native.Nat.{ℕ, suc, ◌+◌, ◌*◌, ◌-◌, ◌^◌, ◌≤◌, ◌<◌, min}
use native.Mathlib.Nat.{suc-mul}
use native.Mathlib.Omega.{arith}
use lib.IntN.{ℤ, pos, negsuc, nat_abs}
use lib.Dec.{ltb, eqb}
use lib.ListN.{length, take, drop, length-append, length-take, length-drop, drop_of_length-le}
use lib.Seq.{get_or-drop, drop-drop, take_all, take-length, drop-length}
use mir.Syntax.{w64}
use mir.Val.{SFits, of_z, to_z}
use mir.Facts.{to_z-of_z}
use borrow.Author.Tests.{ltb-true, ltb-false, eqb-true, eqb-false, eq-eqb, ne_eqb}
use Rattle.rules.specs.Basics.{pick, bytes}
use Rattle.rules.specs.Program.{decimal, signed_decimal, labels_text, refused_text}
use Rattle.put.specs.Put.{Put}
use Rattle.header.specs.Report.{number_at, header_text, field_text, result_text, results_text, line_text, lines_text, report_text, report_room, heading}
use Rattle.put.proofs.Digits.{few_digits}
use Rattle.put.proofs.Signed.{held, number-long}
use Rattle.put.proofs.Writing.{put_long, put_both, Partly, partly_none, partly_from, partly_room, partly_more, partly_all}

-- ---- `refused N`

refused-long : (a : ℕ) → a < 2 ^ 64 → length (refused_text a) ≤ 29
unfolding refused_text bytes
refused-long a h = simp length-append (omega (arith, few_digits 19 a (omega arith)))

module _ (l : List ℕ) (at a : ℕ) (enough : at + 29 ≤ length l) (f : a < 2 ^ 64) where
  room : at + length (refused_text a) ≤ length l
  room = omega (arith, refused-long a f)

  refused-0 : Partly l at (refused_text a) l at (bytes "refused " ++ (decimal a ++ (10 ∷ [])))
  unfolding refused_text
  refused-0 = partly_none (refused_text a) (omega arith)

  pub refused_room_lem : at + length (bytes "refused ") ≤ length l
  refused_room_lem = partly_room room (bytes "refused ") (decimal a ++ (10 ∷ [])) refused-0

  module _ (m : List ℕ) (b : ℕ) (p : Put l at (bytes "refused ") m b) where
    refused-1 : Partly l at (refused_text a) m b (decimal a ++ (10 ∷ []))
    refused-1 = partly_more (bytes "refused ") (decimal a ++ (10 ∷ [])) refused-0 p

    pub refused-room_1 : b + length (decimal a) ≤ length m
    refused-room_1 = partly_room room (decimal a) (10 ∷ []) refused-1

    module _ (n : List ℕ) (d : ℕ) (q : Put m b (decimal a) n d) where
      refused-2 : Partly l at (refused_text a) n d (10 ∷ [])
      refused-2 = partly_more (decimal a) (10 ∷ []) refused-1 q

      pub refused-room_2 : d < length n
      refused-room_2 = omega (arith, partly_room room (10 ∷ []) [] refused-2)

      pub put_refusal : (o : List ℕ) (e : ℕ) → Put n d (10 ∷ []) o e → Put l at (refused_text a) o e
      put_refusal o e r = partly_all (partly_more (10 ∷ []) [] refused-2 r)

-- ---- `matches M steps S`

outcome-long : (st : Bool) → length (pick st (bytes "stopped ") (bytes "matches ")) ≡ 8
unfolding bytes
outcome-long true = refl
outcome-long false = refl

module _ (l : List ℕ) (at : ℕ) (st : Bool) (k s : ℕ) (room : at + length (header_text (heading st k s)) ≤ length l) where
  abbrev outcome : List ℕ
  outcome = pick st (bytes "stopped ") (bytes "matches ")

  abbrev rest_1 : List ℕ
  rest_1 = bytes " steps " ++ (decimal s ++ (10 ∷ []))

  header_0 : Partly l at (header_text (heading st k s)) l at (outcome ++ (decimal k ++ rest_1))
  unfolding header_text
  header_0 = partly_none (header_text (heading st k s)) (omega arith)

  pub header_room : at + 8 ≤ length l
  header_room = omega (arith, outcome-long st, partly_room room outcome (decimal k ++ rest_1) header_0)

  module _ (m1 : List ℕ) (b1 : ℕ) (p1 : Put l at (pick st (bytes "stopped ") (bytes "matches ")) m1 b1) where
    header_1 : Partly l at (header_text (heading st k s)) m1 b1 (decimal k ++ rest_1)
    header_1 = partly_more outcome (decimal k ++ rest_1) header_0 p1

    pub header_room_1 : b1 + length (decimal k) ≤ length m1
    header_room_1 = partly_room room (decimal k) rest_1 header_1

    module _ (m2 : List ℕ) (b2 : ℕ) (p2 : Put m1 b1 (decimal k) m2 b2) where
      header_2 : Partly l at (header_text (heading st k s)) m2 b2 rest_1
      header_2 = partly_more (decimal k) rest_1 header_1 p2

      pub header_room_2 : b2 + length (bytes " steps ") ≤ length m2
      header_room_2 = partly_room room (bytes " steps ") (decimal s ++ (10 ∷ [])) header_2

      module _ (m3 : List ℕ) (b3 : ℕ) (p3 : Put m2 b2 (bytes " steps ") m3 b3) where
        header_3 : Partly l at (header_text (heading st k s)) m3 b3 (decimal s ++ (10 ∷ []))
        header_3 = partly_more (bytes " steps ") (decimal s ++ (10 ∷ [])) header_2 p3

        pub header_room_3 : b3 + length (decimal s) ≤ length m3
        header_room_3 = partly_room room (decimal s) (10 ∷ []) header_3

        module _ (m4 : List ℕ) (b4 : ℕ) (p4 : Put m3 b3 (decimal s) m4 b4) where
          header_4 : Partly l at (header_text (heading st k s)) m4 b4 (10 ∷ [])
          header_4 = partly_more (decimal s) (10 ∷ []) header_3 p4

          pub header_room_4 : b4 < length m4
          header_room_4 = omega (arith, partly_room room (10 ∷ []) [] header_4)

          pub put_head : (o : List ℕ) (e : ℕ) → Put m4 b4 (10 ∷ []) o e → Put l at (header_text (heading st k s)) o e
          put_head o e p5 = partly_all (partly_more (10 ∷ []) [] header_4 p5)

-- ---- a number and one space

module _ (l : List ℕ) (at : ℕ) (n : ℤ) (room : at + length (field_text n) ≤ length l) (f : SFits w64 n) where
  field-0 : Partly l at (field_text n) l at (signed_decimal n ++ (32 ∷ []))
  unfolding field_text
  field-0 = partly_none (field_text n) (omega arith)

  pub field_room : at + length (signed_decimal (held n)) ≤ length l
  field_room = rw (to_z-of_z f) (partly_room room (signed_decimal n) (32 ∷ []) field-0)

  module _ (m : List ℕ) (b : ℕ) (p : Put l at (signed_decimal (held n)) m b) where
    field-1 : Partly l at (field_text n) m b (32 ∷ [])
    field-1 = partly_more (signed_decimal n) (32 ∷ []) field-0 (rw (to_z-of_z f) at p)

    pub field-room_1 : b < length m
    field-room_1 = omega (arith, partly_room room (32 ∷ []) [] field-1)

    pub put_number : (o : List ℕ) (e : ℕ) → Put m b (32 ∷ []) o e → Put l at (field_text n) o e
    put_number o e q = partly_all (partly_more (32 ∷ []) [] field-1 q)

-- ---- labels

no-labels : (ls : List ℕ) → length ls ≡ 0 → labels_text ls ≡ 45 ∷ []
unfolding labels_text
no-labels [] h = refl
no-labels (x ∷ ls) h = absurd (omega arith)

some-labels : (ls : List ℕ) → (length ls ≡ 0 → ⊥) → labels_text ls ≡ ls
unfolding labels_text
some-labels [] h = absurd (h refl)
some-labels (x ∷ ls) h = refl

module _ (l : List ℕ) (at : ℕ) (ls : List ℕ) where
  module _ (h : true ≡ eqb (length ls) 0) where
    none : labels_text ls ≡ 45 ∷ []
    none = no-labels ls (eqb-true (length ls) 0 (sym h))

    pub labels-none_room : at + length (labels_text ls) ≤ length l → at < length l
    labels-none_room r = omega (arith, ap length none)

    pub put_no_labels : (o : List ℕ) (e : ℕ) → Put l at (45 ∷ []) o e → Put l at (labels_text ls) o e
    put_no_labels o e p = rw none p

  module _ (h : false ≡ eqb (length ls) 0) where
    some : labels_text ls ≡ ls
    some = some-labels ls (eqb-false (length ls) 0 (sym h))

    pub labels-room : at + length (labels_text ls) ≤ length l → at + length ls ≤ length l
    labels-room r = omega (arith, ap length some)

    pub put_some_labels : (o : List ℕ) (e : ℕ) → Put l at ls o e → Put l at (labels_text ls) o e
    put_some_labels o e p = rw some p

-- ---- a measure's result: the code tests the word of 64 bits that holds the first number

is_zero : (g : ℤ) → SFits w64 g → of_z w64 g ≡ 0 → nat_abs g ≡ 0
is_zero g f h = ap nat_abs (sym (to_z-of_z f) ∙ ap (to_z w64) h)

not_zero : (g : ℤ) → (of_z w64 g ≡ 0 → ⊥) → nat_abs g ≡ 0 → ⊥
not_zero (pos n) h e = h e
not_zero (negsuc n) h e = absurd (omega arith)

module _ (l : List ℕ) (at : ℕ) (g v : ℤ) (room : at + length (result_text g v) ≤ length l) (fg : SFits w64 g) where
  module _ (h : of_z w64 g ≡ 0) where
    is-null : result_text g v ≡ bytes "null"
    unfolding result_text
    is-null = simp (eq-eqb (nat_abs g) 0 (is_zero g fg h))

    pub null_room : at + length (bytes "null") ≤ length l
    null_room = rw is-null at room

    pub put_null : (o : List ℕ) (b : ℕ) → Put l at (bytes "null") o b → Put l at (result_text g v) o b
    put_null o b p = rw is-null p

  module _ (h : of_z w64 g ≡ 0 → ⊥) (fv : SFits w64 v) where
    is_some : result_text g v ≡ signed_decimal v
    unfolding result_text
    is_some = simp (ne_eqb (nat_abs g) 0 (not_zero g h))

    pub result_room : at + length (signed_decimal (held v)) ≤ length l
    result_room = rw (to_z-of_z fv) (rw is_some at room)

    pub put_some : (o : List ℕ) (b : ℕ) → Put l at (signed_decimal (held v)) o b → Put l at (result_text g v) o b
    put_some o b p = rw is_some (rw (to_z-of_z fv) at p)

module _ (l : List ℕ) (at : ℕ) (st : Bool) (o : List ℕ) (e : ℕ) where
  pub put_stopped : st ≡ true → Put l at (bytes "stopped ") o e → Put l at (pick st (bytes "stopped ") (bytes "matches ")) o e
  put_stopped h p = rw h p

  pub put_matches : st ≡ false → Put l at (bytes "matches ") o e → Put l at (pick st (bytes "stopped ") (bytes "matches ")) o e
  put_matches h p = rw h p

-- ---- how long the pieces are

pub header_long : (st : Bool) (k s : ℕ) → k < 2 ^ 64 → s < 2 ^ 64 → length (header_text (heading st k s)) ≤ 56
unfolding header_text bytes
header_long st k s hk hs =
    simp length-append (omega (arith, outcome-long st, few_digits 19 k (omega arith), few_digits 19 s (omega arith)))

field-long : (v : ℤ) → SFits w64 v → length (field_text v) ≤ 21
unfolding field_text
field-long v f = simp length-append (omega (arith, number-long v f))

labels_long : (ls : List ℕ) → length (labels_text ls) ≤ length ls + 1
unfolding labels_text bytes
labels_long [] = omega arith
labels_long (x ∷ ls) = omega arith

result_long : (g v : ℤ) → SFits w64 v → length (result_text g v) ≤ 20
unfolding result_text bytes
result_long g v f = go (eqb (nat_abs g) 0)
  where
    go : (t : Bool) → length (pick t (bytes "null") (signed_decimal v)) ≤ 20
    go true = omega arith
    go false = number-long v f

-- ---- the results of the measures: `left` of them are left, whose numbers begin at index i

pub record Resulted (before : List ℕ) (at w : ℕ) (ns : List ℤ) (first : ℕ) (now : List ℕ) (left i behind : ℕ) : Type 0 where
  pub is : Partly before at (results_text w (drop first ns)) now behind (results_text left (drop i ns))
  pub within : i + 2 * left ≤ length ns
  pub long : length now ≡ length before
  pub room : at + 21 * w ≤ length before
  pub short : behind + 21 * left ≤ at + 21 * w

results_next : (k : ℕ) (ns : List ℤ) (i : ℕ) → 0 < k
    → results_text k (drop i ns) ≡ (32 ∷ []) ++ (result_text (number_at ns i) (number_at ns (i + 1)) ++ results_text (k - 1) (drop (i + 2) ns))
unfolding results_text
results_next k ns i h =
    let e : k ≡ suc (k - 1) = omega arith in
    let z : i + 0 ≡ i = omega arith in
    ap (λ (j : ℕ). results_text j (drop i ns)) e ∙ rw (get_or-drop i ns 0 (pos 0), get_or-drop i ns 1 (pos 0), drop-drop 2 i ns, z)

results_none : (l : List ℕ) (at w : ℕ) (ns : List ℤ) (first : ℕ) → first + 2 * w ≤ length ns → at + 21 * w ≤ length l
    → Resulted l at w ns first l w first at
results_none l at w ns first h r =
    record { is = partly_none (results_text w (drop first ns)) (omega arith); within = h; long = refl; room = r; short = omega arith }

module _ (l : List ℕ) (at w : ℕ) (ns : List ℤ) (first : ℕ) (n : List ℕ) (k i b : ℕ) (s : Resulted l at w ns first n k i b) where
  pub results_all : k ≤ 0 → Put l at (results_text w (drop first ns)) n b
  unfolding results_text
  results_all h = let e : k ≡ 0 = omega arith in partly_all (rw e at s.is)

  module _ (h : 0 < k) where
    pub results_room : b < length n
    results_room = omega (arith, s.long, s.room, s.short)

    module _ (m : List ℕ) (d : ℕ) (p : Put n b (32 ∷ []) m d) (fg : SFits w64 (number_at ns i)) (fv : SFits w64 (number_at ns (i + 1))) where
      abbrev one_result : List ℕ
      one_result = result_text (number_at ns i) (number_at ns (i + 1))

      abbrev other_results : List ℕ
      other_results = results_text (k - 1) (drop (i + 2) ns)

      read : result_text (held (number_at ns i)) (held (number_at ns (i + 1))) ≡ one_result
      read = rw (to_z-of_z fg, to_z-of_z fv)

      pub results_room_1 : d + length (result_text (held (number_at ns i)) (held (number_at ns (i + 1)))) ≤ length m
      results_room_1 =
          rw read (omega (arith, s.long, s.room, s.short, p.ends, put_long n b (32 ∷ []) m d p, result_long (number_at ns i) (number_at ns (i + 1)) fv))

      pub results_more : (o : List ℕ) (e : ℕ) → Put m d (result_text (held (number_at ns i)) (held (number_at ns (i + 1)))) o e
          → Resulted l at w ns first o (k - 1) (i + 2) e
      results_more o e q =
          let v : Put m d one_result o e = rw read at q in
          let t0 : Partly l at (results_text w (drop first ns)) n b ((32 ∷ []) ++ (one_result ++ other_results)) = rw (results_next k ns i h) at s.is in
          let t = partly_more one_result other_results (partly_more (32 ∷ []) (one_result ++ other_results) t0 p) v in
          let u = result_long (number_at ns i) (number_at ns (i + 1)) fv in
          record {
            is = t;
            within = let g = s.within in omega arith;
            long = t.long;
            room = s.room;
            short = omega (arith, s.short, p.ends, v.ends);
          }

pub results_start : (l : List ℕ) (at w : ℕ) (ns : List ℤ) (first : ℕ) → first + 2 * w ≤ length ns → at + 21 * w ≤ length l
    → Resulted l at w ns first l (w - 0) (first + 0) at
results_start l at w ns first h r =
    let a : w - 0 ≡ w = omega arith in let b : first + 0 ≡ first = omega arith in rw (a, b) (results_none l at w ns first h r)

-- the same where k of w are written
pub results_step : (l : List ℕ) (at w : ℕ) (ns : List ℤ) (first k : ℕ) (now : List ℕ) (e : ℕ)
    → Resulted l at w ns first now (w - k - 1) (first + 2 * k + 2) e → Resulted l at w ns first now (w - (k + 1)) (first + 2 * (k + 1)) e
results_step l at w ns first k now e s =
    let a : w - k - 1 ≡ w - (k + 1) = omega arith in
    let b : first + 2 * k + 2 ≡ first + 2 * (k + 1) = omega arith in
    subst (λ (i : ℕ). Resulted l at w ns first now (w - (k + 1)) i e) b (subst (λ (j : ℕ). Resulted l at w ns first now j (first + 2 * k + 2) e) a s)

-- ---- the line of a match

module _ (l : List ℕ) (at w : ℕ) (ns : List ℤ) (first : ℕ) (own : List ℕ) (room : at + (65 + 21 * w + length own) ≤ length l) (f0 : SFits w64 (number_at ns first)) where
  abbrev T : List ℕ
  T = line_text w (drop first ns) own

  abbrev left_4 : List ℕ
  left_4 = results_text w (drop (first + 3) ns) ++ (10 ∷ [])

  abbrev left_3 : List ℕ
  left_3 = labels_text own ++ left_4

  abbrev left_2 : List ℕ
  left_2 = field_text (number_at ns (first + 2)) ++ left_3

  abbrev left_1 : List ℕ
  left_1 = field_text (number_at ns (first + 1)) ++ left_2

  line-is : T ≡ field_text (number_at ns first) ++ left_1
  unfolding line_text
  line-is =
      let z : first + 0 ≡ first = omega arith in
      rw (get_or-drop first ns 0 (pos 0), get_or-drop first ns 1 (pos 0), get_or-drop first ns 2 (pos 0), drop-drop 3 first ns, z)

  line-0 : Partly l at T l at (field_text (number_at ns first) ++ left_1)
  line-0 = partly_from T (field_text (number_at ns first) ++ left_1) (sym line-is) (omega arith)

  pub line-room : at + length (field_text (held (number_at ns first))) ≤ length l
  line-room = rw (to_z-of_z f0) (omega (arith, field-long (number_at ns first) f0))

  -- the pieces written so far are short enough
  module _ (m1 : List ℕ) (b1 : ℕ) (p1 : Put l at (field_text (held (number_at ns first))) m1 b1) (f1 : SFits w64 (number_at ns (first + 1))) where
    line-1 : Partly l at T m1 b1 left_1
    line-1 = partly_more (field_text (number_at ns first)) left_1 line-0 (rw (to_z-of_z f0) at p1)

    short_1 : b1 ≤ at + 21
    short_1 = let e : b1 ≡ at + length (field_text (number_at ns first)) = rw (to_z-of_z f0) at p1.ends in omega (arith, field-long (number_at ns first) f0)

    pub line-room_1 : b1 + length (field_text (held (number_at ns (first + 1)))) ≤ length m1
    line-room_1 = rw (to_z-of_z f1) (omega (arith, short_1, line-1.long, field-long (number_at ns (first + 1)) f1))

    module _ (m2 : List ℕ) (b2 : ℕ) (p2 : Put m1 b1 (field_text (held (number_at ns (first + 1)))) m2 b2) (f2 : SFits w64 (number_at ns (first + 2))) where
      line-2 : Partly l at T m2 b2 left_2
      line-2 = partly_more (field_text (number_at ns (first + 1))) left_2 line-1 (rw (to_z-of_z f1) at p2)

      short_2 : b2 ≤ at + 42
      short_2 =
          let e : b2 ≡ b1 + length (field_text (number_at ns (first + 1))) = rw (to_z-of_z f1) at p2.ends in
          omega (arith, short_1, field-long (number_at ns (first + 1)) f1)

      pub line-room_2 : b2 + length (field_text (held (number_at ns (first + 2)))) ≤ length m2
      line-room_2 = rw (to_z-of_z f2) (omega (arith, short_2, line-2.long, field-long (number_at ns (first + 2)) f2))

      module _ (m3 : List ℕ) (b3 : ℕ) (p3 : Put m2 b2 (field_text (held (number_at ns (first + 2)))) m3 b3) where
        line-3 : Partly l at T m3 b3 left_3
        line-3 = partly_more (field_text (number_at ns (first + 2))) left_3 line-2 (rw (to_z-of_z f2) at p3)

        short_3 : b3 ≤ at + 63
        short_3 =
            let e : b3 ≡ b2 + length (field_text (number_at ns (first + 2))) = rw (to_z-of_z f2) at p3.ends in
            omega (arith, short_2, field-long (number_at ns (first + 2)) f2)

        pub line-room_3 : b3 + length (labels_text own) ≤ length m3
        line-room_3 = omega (arith, short_3, line-3.long, labels_long own)

        module _ (m4 : List ℕ) (b4 : ℕ) (p4 : Put m3 b3 (labels_text own) m4 b4) where
          line-4 : Partly l at T m4 b4 left_4
          line-4 = partly_more (labels_text own) left_4 line-3 p4

          short_4 : b4 ≤ at + (64 + length own)
          short_4 = omega (arith, short_3, p4.ends, labels_long own)

          pub line-room_4 : b4 + 21 * w ≤ length m4
          line-room_4 = omega (arith, short_4, line-4.long)

          module _ (m5 : List ℕ) (b5 : ℕ) (p5 : Put m4 b4 (results_text w (drop (first + 3) ns)) m5 b5) (s5 : b5 ≤ b4 + 21 * w) where
            line-5 : Partly l at T m5 b5 (10 ∷ [])
            line-5 = partly_more (results_text w (drop (first + 3) ns)) (10 ∷ []) line-4 p5

            pub line-room_5 : b5 < length m5
            line-room_5 = omega (arith, short_4, line-5.long)

            pub put_one_line : (o : List ℕ) (e : ℕ) → Put m5 b5 (10 ∷ []) o e → Put l at (line_text w (drop first ns) own) o e × (e ≤ at + (65 + 21 * w + length own))
            put_one_line o e p6 = (partly_all (partly_more (10 ∷ []) [] line-5 p6), omega (arith, short_4, p6.ends))

-- ---- the lines of the matches: `left` of them are left, whose numbers begin at index `first` and
-- whose labels at index `label`

pub record Lined (before : List ℕ) (at matches w : ℕ) (ns : List ℤ) (ls now : List ℕ) (left first label behind : ℕ) : Type 0 where
  pub is : Partly before at (lines_text matches w ns ls) now behind (lines_text left w (drop first ns) (drop label ls))
  pub within : first + left * (3 + 2 * w) ≤ length ns
  pub upto : label ≤ length ls
  pub long : length now ≡ length before
  pub room : behind + (22 * (left * (3 + 2 * w)) + (length ls - label)) ≤ length before

-- as many as there are, and no more
take-least : (r : ℕ) (xs : List ℕ) → take (min r (length xs)) xs ≡ take r xs
take-least r xs = go (ltb r (length xs)) refl
  where
    go : (t : Bool) → ltb r (length xs) ≡ t → take (min r (length xs)) xs ≡ take r xs
    go true e = ap (λ (j : ℕ). take j xs) (let h = ltb-true r (length xs) e in let q : min r (length xs) ≡ r = omega arith in q)
    go false e =
        let h = ltb-false r (length xs) e in
        let q : min r (length xs) ≡ length xs = omega arith in
        ap (λ (j : ℕ). take j xs) q ∙ take-length xs ∙ sym (take_all r xs h)

drop-least : (r : ℕ) (xs : List ℕ) → drop (min r (length xs)) xs ≡ drop r xs
drop-least r xs = go (ltb r (length xs)) refl
  where
    go : (t : Bool) → ltb r (length xs) ≡ t → drop (min r (length xs)) xs ≡ drop r xs
    go true e = ap (λ (j : ℕ). drop j xs) (let h = ltb-true r (length xs) e in let q : min r (length xs) ≡ r = omega arith in q)
    go false e =
        let h = ltb-false r (length xs) e in
        let q : min r (length xs) ≡ length xs = omega arith in
        ap (λ (j : ℕ). drop j xs) q ∙ drop-length xs ∙ sym (drop_of_length-le xs h)

lines_none : (l : List ℕ) (at k w : ℕ) (ns : List ℤ) (ls : List ℕ) → k * (3 + 2 * w) ≤ length ns → at + (22 * (k * (3 + 2 * w)) + length ls) ≤ length l
    → Lined l at k w ns ls l k 0 0 at
lines_none l at k w ns ls h r =
    record { is = partly_none (lines_text k w ns ls) (omega arith); within = omega arith; upto = omega arith; long = refl; room = omega arith }

-- the same where k of k0 are written
pub lines_start : (l : List ℕ) (at k w : ℕ) (ns : List ℤ) (ls : List ℕ) → k * (3 + 2 * w) ≤ length ns → at + (22 * (k * (3 + 2 * w)) + length ls) ≤ length l
    → Lined l at k w ns ls l (k - 0) (0 * (3 + 2 * w)) 0 at
lines_start l at k w ns ls h r =
    let a : k - 0 ≡ k = omega arith in let b : 0 * (3 + 2 * w) ≡ 0 = omega arith in rw (a, b) (lines_none l at k w ns ls h r)

pub lines_step : (l : List ℕ) (at k0 w : ℕ) (ns : List ℤ) (ls now : List ℕ) (k label e : ℕ)
    → Lined l at k0 w ns ls now (k0 - k - 1) (k * (3 + 2 * w) + (3 + 2 * w)) label e → Lined l at k0 w ns ls now (k0 - (k + 1)) ((k + 1) * (3 + 2 * w)) label e
lines_step l at k0 w ns ls now k label e s =
    let a : k0 - k - 1 ≡ k0 - (k + 1) = omega arith in
    let b : k * (3 + 2 * w) + (3 + 2 * w) ≡ (k + 1) * (3 + 2 * w) = omega arith in
    subst (λ (i : ℕ). Lined l at k0 w ns ls now (k0 - (k + 1)) i label e) b (subst (λ (j : ℕ). Lined l at k0 w ns ls now j (k * (3 + 2 * w) + (3 + 2 * w)) label e) a s)

module _ (l : List ℕ) (at k0 w : ℕ) (ns : List ℤ) (ls n : List ℕ) (k first label b : ℕ) (s : Lined l at k0 w ns ls n k first label b) where
  pub lines_all : k ≤ 0 → Put l at (lines_text k0 w ns ls) n b
  unfolding lines_text
  lines_all h = let e : k ≡ 0 = omega arith in partly_all (rw e at s.is)

  module _ (h : 0 < k) where
    one_less : k * (3 + 2 * w) ≡ (k - 1) * (3 + 2 * w) + (3 + 2 * w)
    one_less = let e : k ≡ suc (k - 1) = omega arith in ap (λ (j : ℕ). j * (3 + 2 * w)) e ∙ suc-mul (k - 1) (3 + 2 * w)

    pub lines_inside : first + (3 + 2 * w) ≤ length ns
    lines_inside = let g = s.within in omega (arith, one_less)

    -- r is what the size function gave of the rows taken, and own as many of the labels left
    module _ (r own : ℕ) (f : SFits w64 (number_at ns (first + 2))) (er : r ≡ nat_abs (held (number_at ns (first + 2)))) (eo : own ≡ min r (length ls - label)) where
      abbrev rows : ℕ
      rows = nat_abs (number_at ns (first + 2))

      abbrev others : List ℕ
      others = lines_text (k - 1) w (drop (first + (3 + 2 * w)) ns) (drop (label + own) ls)

      own_is : own ≡ min rows (length (drop label ls))
      own_is = eo ∙ ap (λ (j : ℕ). min j (length ls - label)) (er ∙ ap nat_abs (to_z-of_z f)) ∙ ap (min rows) (sym (length-drop label ls))

      part : take rows (drop label ls) ≡ take (label + own - label) (drop label ls)
      part =
          let q : own ≡ label + own - label = omega arith in
          sym (take-least rows (drop label ls)) ∙ ap (λ (j : ℕ). take j (drop label ls)) (sym own_is ∙ q)

      beyond : drop rows (drop label ls) ≡ drop (label + own) ls
      beyond = sym (drop-least rows (drop label ls)) ∙ ap (λ (j : ℕ). drop j (drop label ls)) (sym own_is) ∙ drop-drop own label ls

      lines_next : lines_text k w (drop first ns) (drop label ls) ≡ line_text w (drop first ns) (take (label + own - label) (drop label ls)) ++ others
      unfolding lines_text
      lines_next =
          let e : k ≡ suc (k - 1) = omega arith in
          ap (λ (j : ℕ). lines_text j w (drop first ns) (drop label ls)) e
          ∙ rw (get_or-drop first ns 2 (pos 0), drop-drop (3 + 2 * w) first ns, part, beyond)

      abbrev own_labels : List ℕ
      own_labels = take (label + own - label) (drop label ls)

      own-long : length own_labels ≡ own
      own-long = let u = s.upto in let q : length ls - label ≡ length (drop label ls) = sym (length-drop label ls) in simp (length-take, length-drop) (omega arith)

      pub lines_room : b + (65 + 21 * w + length (take (label + own - label) (drop label ls))) ≤ length n
      lines_room = omega (arith, own-long, s.room, s.long, one_less)

      pub lines_more : (o : List ℕ) (e : ℕ) → Put n b (line_text w (drop first ns) (take (label + own - label) (drop label ls))) o e
          → e ≤ b + (65 + 21 * w + length (take (label + own - label) (drop label ls))) → Lined l at k0 w ns ls o (k - 1) (first + (3 + 2 * w)) (label + own) e
      lines_more o e p short =
          let t0 : Partly l at (lines_text k0 w ns ls) n b (line_text w (drop first ns) own_labels ++ others) = rw lines_next at s.is in
          let t = partly_more (line_text w (drop first ns) own_labels) others t0 p in
          let u = s.upto in
          record {
            is = t;
            within = let g = s.within in omega (arith, one_less);
            upto = omega arith;
            long = t.long;
            room = omega (arith, own-long, s.room, one_less);
          }

-- ---- the whole report

module _ (l : List ℕ) (at : ℕ) (st : Bool) (k s w : ℕ) (ns : List ℤ) (ls : List ℕ) (fits : k * (3 + 2 * w) ≤ length ns)
    (room : at + report_room (length ns) (length ls) ≤ length l) (fk : k < 2 ^ 64) (fs : s < 2 ^ 64) where
  pub report-room : at + length (header_text (heading st k s)) ≤ length l
  report-room = omega (arith, header_long st k s fk fs)

  module _ (m : List ℕ) (b : ℕ) (p : Put l at (header_text (heading st k s)) m b) where
    pub report-room_1 : b + (22 * (k * (3 + 2 * w)) + length ls) ≤ length m
    report-room_1 = omega (arith, header_long st k s fk fs, p.ends, put_long l at (header_text (heading st k s)) m b p)

    pub put_whole : (o : List ℕ) (e : ℕ) → Put m b (lines_text k w ns ls) o e → Put l at (report_text (heading st k s) w ns ls) o e
    unfolding report_text
    put_whole o e q = put_both l at (header_text (heading st k s)) m b (lines_text k w ns ls) o e p q
