-- One law for each way through the functions of this crate: measures whose letters are known, and
-- the answer 1 to 9 from its parts.
use mathlib.Core.Path.{◌≡◌, refl, ap, ap₂, sym, subst, ◌∙◌}
use mathlib.Core.Bool.{Bool, true, false, not, ◌&&◌, ◌||◌}
use mathlib.Core.List.{List, [], ◌∷◌, ◌++◌}
use Prim.Native.Nat.{ℕ, zero, suc, ◌+◌, ◌-◌, ◌/◌, ◌≤◌, ◌<◌}
use lib.ListN.{length, take, drop, length-take, length-drop}
use native.Mathlib.Numerals.{add-one}
use native.Mathlib.Omega.{arith}
use lib.Dec.{eqb, ltb, leb}
use lib.IntN.{ℤ}
use borrow.Author.Tests.{ne_eqb, eqb-true, leb-true}
use mathlib.Core.Option.{some}
use mathlib.Core.Logic.{inl, inr}
use Rattle.std.specs.Prelude.{Result, Ok, Err}
use Rattle.refusals.specs.Refusals.{answer_of, offset_of, answer_in, offset_in}
use Rattle.refusals.specs.declared.Refusal.{Refusal}
use Rattle.refusals.specs.declared.Refusal.TheVariants.{Doubled, Foreign, BadRows}
use Rattle.refusals.proofs.Numbers.{some_answer}
use Rattle.rules.specs.Basics.{pick, in_range, is_letter, every, has, tabulate}
use Rattle.rules.specs.Query.{Measure, function_fits, cut, misplaced, unfit, doubled, columns_of, text_of, parts}
use Rattle.rules.specs.Language.{Tree, pattern, letters, Written}
use Rattle.rules.specs.Answers.{too_deep, tree_in, wrong, incomplete, nested_loops, too_many, P, F, letters_in, is_foreign, foreign, Test, first_of, refuses, query_tests, offset_at, deep, bad_rows, room_answer, room_of}
use Rattle.rules.specs.Answers as A
use Rattle.rules.specs.Rows.{table_of}
use Rattle.laws.proofs.Accepted.{tree-of, query_tests-refuse}
use Rattle.laws.proofs.Bounds.{letters-of_text}
use Rattle.laws.proofs.Choice.{clash, and_left, and_right}
use Rattle.laws.proofs.Grammar.{tree-exactly}
use Rattle.laws.proofs.FirstTrue.{all_refuse, first-before, first-after, none_true}
use Rattle.laws.proofs.Stops.{tree-there}
use Rattle.query.specs.Order.{first_answer}
use Rattle.sizes.specs.Sizes.{bad_count}
use Rattle.rules.specs.Reader.{tree_of}
use Rattle.decode.specs.declared.Parts.{Parts}
use Rattle.judge.specs.declared.Judged.{Judged}
use Rattle.judge.specs.Judged.{text_tests, text_answer, Judging}
use Rattle.reading.specs.declared.Query.{Query}
use Rattle.measure_list.specs.Measures.{MeasureFits}
use Rattle.table.specs.Measures.{measure_in, measures_in}
use Rattle.decode.specs.Layout.{Decoded}
use Rattle.decode.specs.Layout.{DecodeRoom}
use Rattle.reading.specs.Reading.{known_in, foreign_in, query_answer, JudgeRoom, JudgedParts, Space, Whole, Asked, as_room}

-- ---- letters

pub letter_free : (text : List ℕ) (l : ℕ) → l ≡ 0 → true ≡ known_in text l
unfolding known_in
letter_free text l e = rw (e)

pub letter_looked : (text : List ℕ) (l : ℕ) (r : Bool) → (l ≡ 0 → ⊥) → r ≡ has l text → r ≡ known_in text l
unfolding known_in
letter_looked text l r d e = rw (e, ne_eqb l 0 d)

-- ---- the loop over the measures

-- whether the letters of the first k measures and the one that the skip names are known
pub record Known (text measures : List ℕ) (count target k : ℕ) (known : Bool) : Type 0 where
  pub within : k ≤ count
  pub is : known ≡ (every (λ (m : Measure). known_in text m.letter) (measures_in measures 0 k) && known_in text target)

module _ {A : Type 0} (g : A → Bool) where
  every_append : (xs ys : List A) → every g (xs ++ ys) ≡ (every g xs && every g ys)
  unfolding every
  every_append [] ys = refl
  every_append (x ∷ xs) ys = go (every_append xs ys) (g x)
    where
      go : every g (xs ++ ys) ≡ (every g xs && every g ys) → (t : Bool) → (t && every g (xs ++ ys)) ≡ ((t && every g xs) && every g ys)
      go ih true = ih
      go ih false = refl

  and_one : (t : Bool) → (t && true) ≡ t
  and_one true = refl
  and_one false = refl

  -- one element more
  every_more : (f : ℕ → A) (n : ℕ) → every g (tabulate (suc n) f) ≡ (every g (tabulate n f) && g (f n))
  unfolding tabulate every
  every_more f n = every_append (tabulate n f) (f n ∷ []) ∙ ap (λ (t : Bool). every g (tabulate n f) && t) (and_one (g (f n)))

-- the last two of three may change places
swap : (a b c : Bool) → ((a && b) && c) ≡ ((a && c) && b)
swap true true true = refl
swap true true false = refl
swap true false true = refl
swap true false false = refl
swap false b c = refl

not-both : (a b : Bool) → not (a && b) ≡ (not a || not b)
not-both true b = refl
not-both false b = refl

module _ (text measures : List ℕ) (count : ℕ) where
  pub known_none : (target : ℕ) (r : Bool) → r ≡ known_in text target → Known text measures count target 0 r
  unfolding every measures_in tabulate
  known_none target r e = record { within = omega arith; is = e }

  pub known_more : (target k : ℕ) (known : Bool) (m : Measure) (r : Bool) → Known text measures count target k known → k < count → m ≡ measure_in measures 0 k → r ≡ known_in text m.letter
      → Known text measures count target (k + 1) (known && r)
  unfolding measures_in
  known_more target k known m r i h e q =
      let t : r ≡ known_in text (measure_in measures 0 k).letter = q ∙ ap (λ (m : Measure). known_in text m.letter) e in
      let g : (known && r) ≡ (every (λ (m : Measure). known_in text m.letter) (measures_in measures 0 (k + 1)) && known_in text target) =
      rw (add-one, every_more (λ (m : Measure). known_in text m.letter) (measure_in measures 0) k, i.is, t)
      (swap (every (λ (m : Measure). known_in text m.letter) (measures_in measures 0 k)) (known_in text target) (known_in text (measure_in measures 0 k).letter))
      in
      record { within = omega arith; is = g }

  pub known_all : (target k : ℕ) (known : Bool) → Known text measures count target k known → count ≤ k → not known ≡ foreign_in text measures count target
  unfolding foreign_in
  known_all target k known i h =
      let e : count ≡ k = omega (arith, i.within) in
      rw (e, i.is) (not-both (every (λ (m : Measure). known_in text m.letter) (measures_in measures 0 k)) (known_in text target))

-- ---- the answer from its parts

-- the tests for answers 1 to 3, those for 4 to 9 and 14, and among them those behind the text's
abbrev first_tests : List ℕ → List Test
first_tests s = (1, cut s) ∷ (2, misplaced s) ∷ (3, unfit s) ∷ []

abbrev later_tests : List ℕ → List Test
later_tests s =
    (4, too_deep s)
    ∷ (5, wrong (text_of s))
    ∷ (14, incomplete (text_of s))
    ∷ (6, nested_loops (tree_in s))
    ∷ (7, too_many (tree_in s))
    ∷ (8, doubled s)
    ∷ (9, foreign s)
    ∷ []

abbrev parts_tests : List ℕ → List Test
parts_tests s = (8, doubled s) ∷ (9, foreign s) ∷ []

-- with no answer 1 to 3, the answer is the first of the later ones
later : (s : List ℕ) → first_answer s ≡ 0 → query_answer s ≡ first_of (later_tests s)
unfolding query_answer query_tests first_answer first_of all_refuse every refuses
later s e = first-after (first_tests s) (later_tests s) refl e

-- an answer 1 to 3 is the query's, and has no offset
first-is : (s : List ℕ) → (first_answer s ≡ 0 → ⊥) → first_answer s ≡ query_answer s
unfolding query_answer query_tests first_answer first_of
first-is s d = sym (first-before (first_tests s) (later_tests s) d)

first-offset : (s t : List ℕ) → offset_at t (first_answer s) ≡ 0
unfolding first_answer offset_at
first-offset s t = go (cut s) (misplaced s) (unfit s)
  where
    go : (a b c : Bool) → offset_at t (pick a 1 (pick b 2 (pick c 3 0))) ≡ 0
    go true b c = refl
    go false true c = refl
    go false false true = refl
    go false false false = refl

-- by the pattern's answer: where there is one it is the query's, and where it is 0 DEFINEs and
-- measures decide
by-text : (s : List ℕ) → first_answer s ≡ 0 → (text_answer (text_of s) ≡ 0 → ⊥) → text_answer (text_of s) ≡ query_answer s
unfolding text_answer text_tests too_deep tree_in
by-text s e d = sym (later s e ∙ first-before (text_tests (text_of s)) (parts_tests s) d)

text-refuses : (t : List ℕ) → all_refuse (text_tests t) ≡ true
unfolding text_tests all_refuse every refuses
text-refuses t = refl

by_parts : (s : List ℕ) → first_answer s ≡ 0 → text_answer (text_of s) ≡ 0 → query_answer s ≡ pick (doubled s) 8 (pick (foreign s) 9 0)
unfolding text_answer text_tests too_deep tree_in first_of
by_parts s e d = later s e ∙ first-after (text_tests (text_of s)) (parts_tests s) (text-refuses (text_of s)) d

-- a text whose answer is 0 has a tree
has_tree : (s : List ℕ) → text_answer (text_of s) ≡ 0 → (p : Tree pattern) × (tree_in s ≡ some p)
unfolding text_answer text_tests tree_in
has_tree s d =
    let no = none_true (text_tests (text_of s)) (text-refuses (text_of s)) d in
    tree-of (tree_in s) (tree-there (text_of s) (no 1) (no 2))

-- ---- measures' letters

module _ {A : Type 0} (g h : A → Bool) where
  -- two tests that agree on the first n
  every-same : (f : ℕ → A) (n : ℕ) → ((k : ℕ) → k < n → g (f k) ≡ h (f k)) → every g (tabulate n f) ≡ every h (tabulate n f)
  unfolding tabulate every
  every-same f zero e = refl
  every-same f (suc n) e =
      let a : every g (tabulate n f) ≡ every h (tabulate n f) = every-same f n (λ k l. e k (omega arith)) in
      let b : g (f n) ≡ h (f n) = e n (omega arith) in
      every_more g f n ∙ ap₂ ◌&&◌ a b ∙ sym (every_more h f n)

-- a measure's letter is 0 or a letter
letter-fits : (columns f l c : ℕ) → function_fits columns f l c ≡ true → (eqb l 0 || is_letter l) ≡ true
unfolding function_fits
letter-fits columns f l c e =
    and_left (eqb l 0 || is_letter l) (ltb c columns && (not (eqb f 1) || eqb c 0)) (and_right (in_range 1 7 f) ((eqb l 0 || is_letter l) && (ltb c columns && (not (eqb f 1) || eqb c 0))) e)

-- for such a letter, standing in the pattern is standing in its text
letter-known : (p : Tree pattern) (text : List ℕ) (l : ℕ) → Written p text → (eqb l 0 || is_letter l) ≡ true → (eqb l 0 || has l (letters p)) ≡ known_in text l
unfolding known_in
letter-known p text l w e = rw (letters-of_text w l) (go (eqb l 0) (is_letter l) (has l text) e)
  where
    go : (a b c : Bool) → (a || b) ≡ true → (a || (b && c)) ≡ (a || c)
    go true b c q = refl
    go false true c q = refl
    go false false c q = clash q

twice-not : (t : Bool) → not (not t) ≡ t
twice-not true = refl
twice-not false = refl

-- one letter by the text
foreign-one : (s : List ℕ) (p : Tree pattern) → tree_in s ≡ some p → (l : ℕ) → (eqb l 0 || is_letter l) ≡ true → is_foreign s l ≡ not (known_in (text_of s) l)
unfolding is_foreign letters_in tree_in
foreign-one s p e l h = rw e (ap not (letter-known p (text_of s) l ((tree-exactly (text_of s) p).0 e) h))

-- answer 9 by the text
pub foreign-is : (s measures : List ℕ) (count columns target : ℕ) (p : Tree pattern) → tree_in s ≡ some p → ((k : ℕ) → k < count → MeasureFits columns (measure_in measures 0 k))
    → measures_in measures 0 count ≡ (parts s).measures → target ≡ (parts s).skip_letter → (eqb target 0 || is_letter target) ≡ true → foreign s ≡ foreign_in (text_of s) measures count target
unfolding foreign foreign_in measures_in
foreign-is s measures count columns target p e f q g h =
    let one : (l : ℕ) → (eqb l 0 || is_letter l) ≡ true → not (is_foreign s l) ≡ known_in (text_of s) l = λ l i. ap not (foreign-one s p e l i) ∙ twice-not (known_in (text_of s) l) in
    rw (← q, ← g) (ap₂ (λ (a b : Bool). not a || b) (every-same (λ (m : Measure). not (is_foreign s m.letter)) (λ (m : Measure). known_in (text_of s) m.letter) (measure_in measures 0) count
    (λ k l. one (measure_in measures 0 k).letter (letter-fits columns (measure_in measures 0 k).function (measure_in measures 0 k).letter (measure_in measures 0 k).column (f k l))))
    (foreign-one s p e target h))

-- ---- judging the parts

-- the letter that the skip names is a byte
pub target_byte : (s room measures : List ℕ) (p : Parts) → JudgeRoom s room measures p → p.target < 256
unfolding is_letter in_range
target_byte s room measures p j = by (eqb p.target 0) refl j.lettered
  where
    by : (t : Bool) → eqb p.target 0 ≡ t → (t || is_letter p.target) ≡ true → p.target < 256
    by true d e = let z = eqb-true p.target 0 d in omega arith
    by false d e = let z = leb-true p.target 90 (and_right (leb 65 p.target) (leb p.target 90) e) in omega arith

module _ (s room room' measures : List ℕ) (p : Parts) (j : JudgeRoom s room measures p) (e : ℕ) (w : Result Judged Refusal) (i : e ≡ p.start + p.len)
    (g : Judging (take (e - p.start) (drop p.start s)) room room' w) where
  the_text : take (e - p.start) (drop p.start s) ≡ text_of s
  the_text = let q : e - p.start ≡ p.len = omega arith in ap (λ (k : ℕ). take k (drop p.start s)) q ∙ j.text

  the_answer : answer_in w ≡ text_answer (text_of s)
  the_answer = g.answer ∙ ap text_answer the_text

  the_offset : offset_in w ≡ offset_at (text_of s) (answer_in w)
  the_offset = g.offset ∙ ap (λ (t : List ℕ). offset_at t (answer_in w)) the_text

  refused-is : (e : Refusal) → answer_of e ≡ query_answer s → offset_of e ≡ offset_at (text_of s) (answer_of e) → JudgedParts s room' measures p (Err e)
  refused-is e q o = record { answer = q; offset = o; good = tt }

  -- answers 4 to 7 and 14
  pub text_answers : (f : Refusal) → w ≡ Err f → JudgedParts s room' measures p (Err f)
  text_answers f q =
      let a : answer_of f ≡ text_answer (text_of s) = sym (ap answer_in q) ∙ the_answer in
      let k : offset_of f ≡ offset_at (text_of s) (answer_of f) = sym (ap offset_in q) ∙ the_offset ∙ ap (λ (x : Result Judged Refusal). offset_at (text_of s) (answer_in x)) q in
      refused-is f (a ∙ by-text s j.clean (λ z. some_answer f (a ∙ z))) k

  module _ (v : Judged) (z : w ≡ Ok v) where
    no-text_answer : 0 ≡ text_answer (text_of s)
    no-text_answer = sym (ap answer_in z) ∙ the_answer

    parts-answer : query_answer s ≡ pick (doubled s) 8 (pick (foreign s) 9 0)
    parts-answer = by_parts s j.clean (sym no-text_answer)

    -- answer 8
    pub defines_answer : p.twice ≡ true → JudgedParts s room' measures p (Err Doubled)
    unfolding offset_at
    defines_answer d = refused-is Doubled (sym (parts-answer ∙ ap (λ (u : Bool). pick u 8 (pick (foreign s) 9 0)) (sym j.doubled ∙ d))) refl

    tree_is : (t : Tree pattern) × (tree_in s ≡ some t)
    tree_is = has_tree s (sym no-text_answer)

    foreign-by : foreign s ≡ foreign_in (take (e - p.start) (drop p.start s)) measures p.measures p.target
    foreign-by =
        foreign-is s measures p.measures p.columns p.target tree_is.0 tree_is.1 j.fit j.measured j.target j.lettered
        ∙ ap (λ (t : List ℕ). foreign_in t measures p.measures p.target) (sym the_text)

    both : (u : Bool) → p.twice ≡ false → u ≡ foreign_in (take (e - p.start) (drop p.start s)) measures p.measures p.target → query_answer s ≡ pick u 9 0
    both u d f = parts-answer ∙ ap (λ (x : Bool). pick x 8 (pick (foreign s) 9 0)) (sym j.doubled ∙ d) ∙ ap (λ (x : Bool). pick x 9 0) (foreign-by ∙ sym f)

    -- answer 9
    pub letters_answer : (u : Bool) → p.twice ≡ false → u ≡ foreign_in (take (e - p.start) (drop p.start s)) measures p.measures p.target → u ≡ true
        → JudgedParts s room' measures p (Err Foreign)
    unfolding offset_at
    letters_answer u d f y = refused-is Foreign (sym (both u d f ∙ ap (λ (x : Bool). pick x 9 0) y)) refl

    good : Judging (take (e - p.start) (drop p.start s)) room room' (Ok v)
    good = subst (Judging (take (e - p.start) (drop p.start s)) room room') z g

    -- none of them
    pub no_answer : (u : Bool) → p.twice ≡ false → u ≡ foreign_in (take (e - p.start) (drop p.start s)) measures p.measures p.target → u ≡ false
        → JudgedParts s room' measures p (Ok (record { places = v.places; factor = v.factor; top = v.top; columns = p.columns; skip = p.skip; target = p.target; measures = p.measures; letters = p.letters }))
    unfolding tree_in offset_at
    no_answer u d f y =
        record {
          answer = sym (both u d f ∙ ap (λ (x : Bool). pick x 9 0) y);
          offset = refl;
          good =
              record {
                tree = tree_is.0;
                is = tree_is.1;
                places = good.places ∙ ap (λ (t : List ℕ). P (tree_of t)) the_text;
                factor = good.factor ∙ ap (λ (t : List ℕ). F (tree_of t)) the_text;
                top = good.top tree_is.0 (ap tree_of the_text ∙ tree_is.1);
                columns = refl;
                skip = refl;
                target = refl;
                measured = refl;
                letters = refl;
              };
        }

-- what the proof of `judge_parts` cites
pub ruleset judges = (target_byte, text_answers, defines_answer, letters_answer, no_answer)

-- ---- reading a query

abbrev first_by : Bool → Bool → Bool → ℕ
first_by a b c = pick a 1 (pick b 2 (pick c 3 0))

-- an answer 1 to 3 is 3 where it is neither 1 nor 2
pub third : (s : List ℕ) → (first_answer s ≡ 0 → ⊥) → (first_answer s ≡ 1 → ⊥) → (first_answer s ≡ 2 → ⊥) → first_answer s ≡ 3
unfolding first_answer
third s = go (cut s) (misplaced s) (unfit s)
  where
    go : (a b c : Bool) → (first_by a b c ≡ 0 → ⊥) → (first_by a b c ≡ 1 → ⊥) → (first_by a b c ≡ 2 → ⊥) → first_by a b c ≡ 3
    go true b c x y z = absurd (y refl)
    go false true c x y z = absurd (z refl)
    go false false true x y z = refl
    go false false false x y z = absurd (x refl)

module _ (s measures₀ : List ℕ) where
  -- answers 1 to 3
  pub first_answers : (room defines measures : List ℕ) (e : Refusal) → answer_of e ≡ first_answer s → offset_of e ≡ 0 → Asked s measures₀ room defines measures (Err e)
  first_answers room defines measures e a o =
      record {
        answer = a ∙ first-is s (λ z. some_answer e (a ∙ z));
        offset = o ∙ sym (ap (offset_at (text_of s)) a ∙ first-offset s (text_of s));
        good = tt;
      }

  -- what decoding asks
  pub may_decode : (room : List ℕ) → Space s room measures₀ → first_answer s ≡ 0 → DecodeRoom s measures₀
  may_decode room p z = record { clean = z; long = p.long }

  -- and judging
  pub may_judge : (room defines measures : List ℕ) (p : Parts)
      → Decoded s measures₀ defines measures p → Space s room measures₀ → first_answer s ≡ 0 → JudgeRoom s room measures p
  unfolding parts
  may_judge room defines measures p d sp z =
      record {
        clean = z;
        text = d.text;
        inside = d.inside;
        short = d.short;
        few = d.few;
        fit = d.fit;
        measured = d.measured;
        target = d.target;
        lettered = d.lettered;
        doubled = d.doubled;
        space = let i = d.inside in let q : length (text_of s) ≡ p.len = ap length (sym d.text) ∙ simp (length-take, length-drop) (omega arith) in omega (arith, sp.nodes.enough z);
      }

  -- all of them
  pub all_answers : (room defines measures : List ℕ) (p : Parts) (r : Result Query Refusal)
      → Decoded s measures₀ defines measures p → JudgedParts s room measures p r
      → Asked s measures₀ room defines measures r
  all_answers room defines measures p (Ok q) d g = record { answer = g.answer; offset = g.offset; good = record { parts = p; decoded = d; good = g.good } }
  all_answers room defines measures p (Err e) d g = record { answer = g.answer; offset = g.offset; good = tt }

pub ruleset reads = (first_answers, may_decode, may_judge, all_answers)

-- ---- how much to lend

-- the room's answer by the query's and the rows'
room-refused : (q : List ℕ) (bad : Bool) → (query_answer q ≡ 0 → ⊥) → room_answer q bad ≡ query_answer q
unfolding room_answer query_answer
room-refused q bad d = first-before (query_tests q) ((10, bad) ∷ []) d

room-by_rows : (q : List ℕ) (bad : Bool) → query_answer q ≡ 0 → room_answer q bad ≡ pick bad 10 0
unfolding room_answer query_answer first_of
room-by_rows q bad e = first-after (query_tests q) ((10, bad) ∷ []) (query_tests-refuse q) e

module _ (q : List ℕ) (rows : List ℤ) where
  abbrev refused_room : ℕ → A.Room
  refused_room n = record { answer = n; places = 0; rows = 0; offset = offset_at (text_of q) n; factor = 0 }

  room-not : (n : ℕ) → (n ≡ 0 → ⊥) → room_answer q (bad_rows q rows) ≡ n → refused_room n ≡ room_of q rows
  unfolding room_of
  room-not n d e = rw (e, ne_eqb n 0 d)

module _ (q measures₀ room defines measures : List ℕ) (rows : List ℤ) where
  pub query_refuses : (e : Refusal) → Asked q measures₀ room defines measures (Err e) → as_room (Err e) ≡ room_of q rows
  query_refuses e a =
      ap (λ (k : ℕ). record { answer = answer_of e; places = 0; rows = 0; offset = k; factor = 0 }) a.offset
      ∙ room-not q rows (answer_of e) (some_answer e) (room-refused q (bad_rows q rows) (λ z. some_answer e (a.answer ∙ z)) ∙ sym a.answer)

  module _ (r : Query) (a : Asked q measures₀ room defines measures (Ok r)) where
    abbrev whole : Whole q measures₀ room defines measures r
    whole = a.good

    the_columns : r.columns ≡ columns_of q
    unfolding parts
    the_columns = whole.good.columns ∙ whole.decoded.columns

    pub some_column : 1 ≤ r.columns
    some_column = omega (arith, whole.decoded.some, whole.good.columns)

    rows-answer : room_answer q (bad_rows q rows) ≡ pick (bad_rows q rows) 10 0
    rows-answer = room-by_rows q (bad_rows q rows) (sym a.answer)

    -- answer 10 by numbers
    pub bad-rows : bad_rows q rows ≡ bad_count (length rows) r.columns
    unfolding bad_rows bad_count table_of
    bad-rows = rw (← the_columns)

    pub rows_refused : (e : Refusal) → (bad_count (length rows) r.columns ≡ true) × (e ≡ BadRows) → as_room (Err e) ≡ room_of q rows
    unfolding offset_at
    rows_refused e h = rw (h.1) (room-not q rows 10 (λ e. omega arith) (rows-answer ∙ ap (λ (b : Bool). pick b 10 0) (bad-rows ∙ h.0)))

    pub room_given : (n : ℕ) → (bad_count (length rows) r.columns ≡ false) × (n ≡ length rows / r.columns)
        → as_room (Ok (record { places = r.places; rows = n; factor = r.factor })) ≡ room_of q rows
    unfolding table_of room_of
    room_given n h =
        let x : room_answer q (bad_rows q rows) ≡ 0 = rows-answer ∙ ap (λ (b : Bool). pick b 10 0) (bad-rows ∙ h.0) in
        rw (x, h.1, ← the_columns, ← whole.good.places, ← whole.good.factor)

pub ruleset sizes = (query_refuses, some_column, rows_refused, room_given)
