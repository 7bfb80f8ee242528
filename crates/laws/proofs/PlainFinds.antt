-- What plain backtracking finds behind a part of a pattern: the first of its derivations, in the
-- order of preferment, behind which the search goes on to a success. `Finds R L T t` says so of an
-- unrolled part t at any place and with any flags, for any language: its derivations, what they
-- read (R), their order (L) and the pairs that they go through (T). It is proved for sequences,
-- branches, forks and rounds; proofs/GreatestDerivation puts them together. A loop needs no rank:
-- failure is by induction on the other derivation's rounds, success by induction on the length of
-- the path found.
use mathlib.Core.Path.{◌≡◌, refl, ap, sym, ◌∙◌, subst}
use mathlib.Core.List.{List, [], ◌∷◌, ◌++◌, map, append_assoc, append-nil}
use mathlib.Core.Bool.{Bool, true, false, true≢false, false≢true}
use mathlib.Core.Logic.{◌⊎◌, inl, inr, ⊎_elim}
use mathlib.Core.Option.{Option, none, some}
use Prim.Native.Nat.{ℕ, zero, suc, ◌+◌, ◌-◌, ◌%◌, ◌≤◌, ◌<◌, zero-le, suc-le-suc, ◌^◌, max}
use native.Mathlib.Nat.{le_trans, le_of_suc-le-suc, not-suc-le-zero}
use native.Mathlib.Omega.{arith}
use lib.ListN.{length, get_or, length-append}
use Rattle.rules.specs.Places.{Unrolled, u_seq, u_alt, u_star, Branches, u_nil, u_cons, copies, options, behind, size, sizes, start_of, starts_of, code, codes, ways_in_turn, Place, p_letter, p_caret, p_dollar, p_fork, p_end, skips, nest, nests, full, state_at, round_end, Flagged, flagged, spread}
use Rattle.rules.specs.Preferment.{InTurn, Either, FirstBranch, Lexicographic, RoundByRound, empty_ends, empty_ends_in}
use Rattle.rules.specs.Readings.{Within}
use Rattle.rules.specs.Search.{labels, label_of}
use Rattle.rules.specs.Walk.{Ways, pair_at, pass_if, ways_at, pair_ways, or_next, first_of, onto, plain_by}
use Rattle.laws.proofs.DerivationPath.{Route, Routes, LoopRuns, OptionRuns, BehindRuns, CopyRuns, ForkRuns, took, took-none, took-rows, took_lt, took-then, le_cases}
use Rattle.laws.proofs.Rank.{At, at_left, at_right, at_head, at_tail, code-length, no_place}
use lib.Dec.{ltb}
use lib.Pow.{pow_pos, ones_lt}
use borrow.Author.Tests.{lt-ltb, le-ltb, ltb-true}
use Rattle.rules.specs.Language.{deeper}
use Rattle.laws.proofs.Level.{and-true, nest-low, nest-here, nest-inner, wider}
use Rattle.laws.proofs.WholePattern.{node-ways, node-label}

-- ---- a language

-- `R e i j w`: e reads the rows i to j with the labels w
abbrev pub Reading : Type 0 → Type 1
Reading A = A → ℕ → ℕ → List ℕ → Type 0

-- `L d e`: d is preferred to e
abbrev pub Order : Type 0 → Type 1
Order A = A → A → Type 0

-- a derivation settles how many rows it takes
abbrev pub Taking : {A : Type 0} → Reading A → (A → List ℕ) → Type 0
Taking {A} R word = (e : A) (i j : ℕ) (w : List ℕ) → R e i j w → j ≡ i + length (word e)

-- no reading goes back
abbrev pub Onward : {A : Type 0} → Reading A → Type 0
Onward {A} R = (e : A) (i j : ℕ) (w : List ℕ) → R e i j w → i ≤ j

-- ---- what is found

-- p is the path from position i through the best derivation, to position `to`, and on from there,
-- where κ says what is found behind a derivation that ends at a position; behind every better one
-- nothing is found
pub record Win (pl : List Place) (κ : ℕ → Option (List ℕ)) {A : Type 0} (R : Reading A) (L : Order A) (T : Route A) (i : ℕ) (p : List ℕ) : Type 0 where
  pub best : A
  pub to : ℕ
  pub front : List ℕ
  pub rest : List ℕ
  pub reads : R best i to (labels pl front)
  pub runs : T best to front
  pub goes : κ to ≡ some rest
  pub is : p ≡ front ++ rest
  pub first : (e : A) (j : ℕ) (w : List ℕ) → R e i j w → L e best → κ j ≡ none

-- what is said of the outcome at the first place of a part
abbrev pub Post : List Place → (ℕ → Option (List ℕ)) → {A : Type 0} → Reading A → Order A → Route A → ℕ → Option (List ℕ) → Type 0
Post pl κ {A} R L T i none = (e : A) (j : ℕ) (w : List ℕ) → R e i j w → κ j ≡ none
Post pl κ R L T i (some p) = Win pl κ R L T i p

-- one part, then another
abbrev pub Then : {A B : Type 0} → Reading A → Reading B → Reading (A × B)
Then R S d i k w = (j : ℕ) × (u : List ℕ) × (v : List ℕ) × (R d.0 i j u) × (S d.1 j k v) × (w ≡ u ++ v)

abbrev pub ThenRuns : {A B : Type 0} → Route A → (ℕ → Route B) → Route (A × B)
ThenRuns T U d j p = (x : ℕ) × (u : List ℕ) × (v : List ℕ) × (T d.0 x u) × (U x d.1 j v) × (p ≡ u ++ v)

-- the first branch or the others
abbrev pub Or : {A B : Type 0} → Reading A → Reading B → Reading (A ⊎ B)
Or R S d i j w = Either (λ x. R x i j w) (λ x. S x i j w) d

abbrev pub OrRuns : {A B : Type 0} → Route A → Route B → Route (A ⊎ B)
OrRuns T U d j p = Either (λ x. T x j p) (λ x. U x j p) d

-- q is no longer than the path found
abbrev Under : List ℕ → Option (List ℕ) → Type 0
Under q none = ⊥
Under q (some p) = length q ≤ length p

-- what comes of a fork whose two ways come to these
abbrev in_order : Bool → Option (List ℕ) → Option (List ℕ) → Option (List ℕ)
in_order false copy leave = or_next copy (λ _. or_next leave (λ _. none))
in_order true copy leave = or_next leave (λ _. or_next copy (λ _. none))

next-none : (o : Option (List ℕ)) → or_next o (λ _. none) ≡ o
next-none none = refl
next-none (some p) = refl

abbrev Shorter : ℕ → Option (List ℕ) → Type 0
Shorter m none = Unit {0}
Shorter m (some p) = length p ≤ m

in_order-none : (lazy : Bool) (x : ℕ) (copy leave : Option (List ℕ)) → onto x (in_order lazy copy leave) ≡ none → (copy ≡ none) × (leave ≡ none)
in_order-none lazy x none none e = (refl, refl)
in_order-none false x none (some q) e = let z : ◌≡◌ {A = ℕ} 0 1 = cc in absurd (omega arith)
in_order-none false x (some p) l e = let z : ◌≡◌ {A = ℕ} 0 1 = cc in absurd (omega arith)
in_order-none true x none (some q) e = let z : ◌≡◌ {A = ℕ} 0 1 = cc in absurd (omega arith)
in_order-none true x (some p) none e = let z : ◌≡◌ {A = ℕ} 0 1 = cc in absurd (omega arith)
in_order-none true x (some p) (some q) e = let z : ◌≡◌ {A = ℕ} 0 1 = cc in absurd (omega arith)

onto-shorter : (x m : ℕ) (o : Option (List ℕ)) (p : List ℕ) → onto x o ≡ some p → length p ≤ suc m → Shorter m o
onto-shorter x m none p e h = tt
onto-shorter x m (some q) p e h = let d : x ∷ q ≡ p = cc in omega (arith, ap length d)

onto-long : (x : ℕ) (o : Option (List ℕ)) (p : List ℕ) → onto x o ≡ some p → 0 < length p
onto-long x none p e = let z : ◌≡◌ {A = ℕ} 0 1 = cc in absurd (omega arith)
onto-long x (some q) p e = let d : x ∷ q ≡ p = cc in omega (arith, ap length d)

pub labels_append : (pl : List Place) (xs ys : List ℕ) → labels pl (xs ++ ys) ≡ labels pl xs ++ labels pl ys
unfolding labels
labels_append pl [] ys = refl
labels_append pl (x ∷ xs) ys = rw (labels_append pl xs ys) (go (get_or pl (x % length pl) (p_fork [])))
  where
    go : (q : Place) → label_of q (labels pl xs ++ labels pl ys) ≡ label_of q (labels pl xs) ++ labels pl ys
    go (p_letter c k) = refl
    go (p_caret k) = refl
    go (p_dollar k) = refl
    go (p_fork ks) = refl
    go p_end = refl

-- ---- what follows from what is found, whatever the places

module _ (pl : List Place) (κ : ℕ → Option (List ℕ)) where
  pub post_by : {A : Type 0} (R : Reading A) (L : Order A) (T : Route A) (i : ℕ) (o o' : Option (List ℕ)) → o ≡ o' → Post pl κ R L T i o → Post pl κ R L T i o'
  post_by R L T i o o' e c = subst (λ (z : Option (List ℕ)). Post pl κ R L T i z) e c

  -- what is found behind told by another function, where it is the same
  pub post_behind : (μ : ℕ → Option (List ℕ)) {A : Type 0} (R : Reading A) (L : Order A) (T : Route A) (i : ℕ) → ((e : A) (j : ℕ) (w : List ℕ) → R e i j w → μ j ≡ κ j)
      → (o : Option (List ℕ)) → Post pl μ R L T i o → Post pl κ R L T i o
  post_behind μ R L T i h none c = λ e j w r. sym (h e j w r) ∙ c e j w r
  post_behind μ R L T i h (some p) c =
      record {
        best = c.best;
        to = c.to;
        front = c.front;
        rest = c.rest;
        reads = c.reads;
        runs = c.runs;
        goes = sym (h c.best c.to (labels pl c.front) c.reads) ∙ c.goes;
        is = c.is;
        first = λ e j w r l. sym (h e j w r) ∙ c.first e j w r l;
      }

  -- one pair more in front, with nothing said
  lead : {A : Type 0} (R : Reading A) (L : Order A) (T T' : Route A) (i x : ℕ) → ((d : A) (j : ℕ) (p : List ℕ) → T d j p → T' d j (x ∷ p))
      → ((xs : List ℕ) → labels pl (x ∷ xs) ≡ labels pl xs) → (o : Option (List ℕ)) → Post pl κ R L T i o → Post pl κ R L T' i (onto x o)
  lead R L T T' i x on l none c = c
  lead R L T T' i x on l (some p) c =
      record {
        best = c.best;
        to = c.to;
        front = x ∷ c.front;
        rest = c.rest;
        reads = rw (l c.front) c.reads;
        runs = on c.best c.to c.front c.runs;
        goes = c.goes;
        is = ap (λ (z : List ℕ). x ∷ z) c.is;
        first = c.first;
      }

  -- a language with one derivation, which reads no place
  pub pass_by : {A : Type 0} (R : Reading A) (L : Order A) (T : Route A) (i : ℕ) (d : A) → R d i i [] → T d i []
      → ((e : A) (j : ℕ) (w : List ℕ) → R e i j w → (j ≡ i) × (L e d → ⊥)) → (o : Option (List ℕ)) → κ i ≡ o → Post pl κ R L T i o
  unfolding labels
  pass_by R L T i d r s u none e = λ x j w z. rw (u x j w z).0 e
  pass_by R L T i d r s u (some p) e =
      record { best = d; to = i; front = []; rest = p; reads = r; runs = s; goes = e; is = refl; first = λ x j w z l. absurd ((u x j w z).1 l) }

  -- the first of two branches that leads to a success
  either : {A B : Type 0} (R : Reading A) (L : Order A) (S : Reading B) (M : Order B) (T : Route A) (U : Route B) (i : ℕ) (o o' : Option (List ℕ))
      → Post pl κ R L T i o → Post pl κ S M U i o' → Post pl κ (Or R S) (FirstBranch L M) (OrRuns T U) i (or_next o (λ _. o'))
  unfolding FirstBranch
  either {A} {B} R L S M T U i none none c d = λ e. go e
    where
      go : (e : A ⊎ B) (j : ℕ) (w : List ℕ) → Or R S e i j w → κ j ≡ none
      go (inl x) j w r = c x j w r
      go (inr x) j w r = d x j w r
  either {A} {B} R L S M T U i none (some q) c d =
      record { best = inr d.best; to = d.to; front = d.front; rest = d.rest; reads = d.reads; runs = d.runs; goes = d.goes; is = d.is; first = λ e. go e }
    where
      go : (e : A ⊎ B) (j : ℕ) (w : List ℕ) → Or R S e i j w → FirstBranch L M e (inr d.best) → κ j ≡ none
      go (inl x) j w r l = c x j w r
      go (inr x) j w r l = d.first x j w r l
  either {A} {B} R L S M T U i (some p) o' c d =
      record { best = inl c.best; to = c.to; front = c.front; rest = c.rest; reads = c.reads; runs = c.runs; goes = c.goes; is = c.is; first = λ e. go e }
    where
      go : (e : A ⊎ B) (j : ℕ) (w : List ℕ) → Or R S e i j w → FirstBranch L M e (inl c.best) → κ j ≡ none
      go (inl x) j w r l = c.first x j w r l
      go (inr x) j w r l = absurd l

  -- one part behind another; μ says what is found behind the first
  in_sequence : {A B : Type 0} (R : Reading A) (L : Order A) (S : Reading B) (M : Order B) (T : Route A) (U : ℕ → Route B) (word : A → List ℕ) → Taking R word
      → (i : ℕ) (μ : ℕ → Option (List ℕ)) (o : Option (List ℕ)) → Post pl μ R L T i o
      → ((e : A) (j : ℕ) (w : List ℕ) → R e i j w → μ j ≡ none → Post pl κ S M (U j) j none)
      → ((e : A) (j : ℕ) (w : List ℕ) → R e i j w → (q : List ℕ) → μ j ≡ some q → Under q o → Win pl κ S M (U j) j q)
      → Post pl κ (Then R S) (Lexicographic L M) (ThenRuns T U) i o
  unfolding Lexicographic
  in_sequence R L S M T U word tk i μ none c nones somes =
      λ e j w r. nones e.0 r.0 r.1 r.3 (c e.0 r.0 r.1 r.3) e.1 j r.2 r.4
  in_sequence {A} {B} R L S M T U word tk i μ (some p) c nones somes =
      record {
        best = (c.best, z.best);
        to = z.to;
        front = c.front ++ z.front;
        rest = z.rest;
        reads = (c.to, labels pl c.front, labels pl z.front, c.reads, z.reads, labels_append pl c.front z.front);
        runs = (c.to, c.front, z.front, c.runs, z.runs, refl {a = c.front ++ z.front});
        goes = z.goes;
        is = c.is ∙ ap (λ (l : List ℕ). c.front ++ l) z.is ∙ sym (append_assoc c.front z.front z.rest);
        first = better;
      }
    where
      z : Win pl κ S M (U c.to) c.to c.rest
      z = somes c.best c.to (labels pl c.front) c.reads c.rest c.goes (omega (arith, simp length-append at (ap length c.is)))

      better : (e : A × B) (j : ℕ) (w : List ℕ) → Then R S e i j w → Lexicographic L M e (c.best, z.best) → κ j ≡ none
      better e j w r l =
          ⊎_elim
          (λ (s : L e.0 c.best).
          nones e.0 r.0 r.1 r.3 (c.first e.0 r.0 r.1 r.3 s) e.1 j r.2 r.4)
          (λ (s : (e.0 ≡ c.best) × M e.1 z.best).
          let same : r.0 ≡ c.to = tk e.0 i r.0 r.1 r.3 ∙ ap (λ (x : A). i + length (word x)) s.0 ∙ sym (tk c.best i c.to (labels pl c.front) c.reads) in
          z.first e.1 j r.2 (subst (λ (x : ℕ). S e.1 x j r.2) same r.4) s.1)
          l

  -- one language for another
  pub instead : {A B : Type 0} (R : Reading A) (L : Order A) (S : Reading B) (M : Order B) (T : Route A) (g : B → A) (i : ℕ)
      → ((b : B) (j : ℕ) (w : List ℕ) → S b i j w → R (g b) i j w) → ((a : A) (j : ℕ) (w : List ℕ) → R a i j w → (b : B) × (S b i j w) × (g b ≡ a))
      → ((b b' : B) → M b b' → L (g b) (g b'))
      → (o : Option (List ℕ)) → Post pl κ R L T i o → Post pl κ S M (λ b j p. T (g b) j p) i o
  instead R L S M T g i from to less none c = λ e j w s. c (g e) j w (from e j w s)
  instead {A} R L S M T g i from to less (some p) c =
      let z = to c.best c.to (labels pl c.front) c.reads in
      record {
        best = z.0;
        to = c.to;
        front = c.front;
        rest = c.rest;
        reads = z.1;
        runs = subst (λ (x : A). T x c.to c.front) (sym z.2) c.runs;
        goes = c.goes;
        is = c.is;
        first = λ e j w s l. c.first (g e) j w (from e j w s) (subst (λ (x : A). L (g e) x) z.2 (less e z.0 l));
      }

  -- ---- rounds

  -- Q' is a language of lists, whose first round is in R and whose others are in Q
  module _ {A : Type 0} (R : Reading A) (L : Order A) (Q Q' : Reading (List A)) (i : ℕ)
      (out : (d : A) (ds : List A) (j : ℕ) (w : List ℕ) → Q' (d ∷ ds) i j w → Then R Q (d, ds) i j w)
      (into : (d : A) (ds : List A) (j : ℕ) (w : List ℕ) → Then R Q (d, ds) i j w → Q' (d ∷ ds) i j w)
      (T : Route (A × List A)) (T' : Route (List A)) (on : (d : A) (ds : List A) (j : ℕ) (p : List ℕ) → T (d, ds) j p → T' (d ∷ ds) j p) where
    -- said of a first round and the others, and of the whole list
    abbrev Parted : Bool → Option (List ℕ) → Type 0
    Parted lazy o = Post pl κ (Then R Q) (Lexicographic L (RoundByRound lazy L)) T i o

    abbrev Listed : Bool → Option (List ℕ) → Type 0
    Listed lazy o = Post pl κ Q' (RoundByRound lazy L) T' i o

    round_none : (lazy : Bool) → ((j : ℕ) (w : List ℕ) → Q' [] i j w → κ j ≡ none) → Parted lazy none → Listed lazy none
    round_none lazy nil c = λ e. go e
      where
        go : (e : List A) (j : ℕ) (w : List ℕ) → Q' e i j w → κ j ≡ none
        go [] j w r = nil j w r
        go (d ∷ ds) j w r = c (d, ds) j w (out d ds j w r)

    round_some : (lazy : Bool) (p : List ℕ) → ((j : ℕ) (w : List ℕ) → Q' [] i j w → lazy ≡ true → κ j ≡ none) → Parted lazy (some p) → Listed lazy (some p)
    unfolding RoundByRound Lexicographic
    round_some lazy p nil c =
        record {
          best = c.best.0 ∷ c.best.1;
          to = c.to;
          front = c.front;
          rest = c.rest;
          reads = into c.best.0 c.best.1 c.to (labels pl c.front) c.reads;
          runs = on c.best.0 c.best.1 c.to c.front c.runs;
          goes = c.goes;
          is = c.is;
          first = λ e. go e;
        }
      where
        go : (e : List A) (j : ℕ) (w : List ℕ) → Q' e i j w → RoundByRound lazy L e (c.best.0 ∷ c.best.1) → κ j ≡ none
        go [] j w r l = nil j w r l
        go (d ∷ ds) j w r l = c.first (d, ds) j w (out d ds j w r) l

    -- one round that must be
    one-round : (lazy : Bool) → ((j : ℕ) (w : List ℕ) → Q' [] i j w → ⊥) → (o : Option (List ℕ)) → Parted lazy o → Listed lazy o
    one-round lazy nil none c = round_none lazy (λ j w r. absurd (nil j w r)) c
    one-round lazy nil (some p) c = round_some lazy p (λ j w r l. absurd (nil j w r)) c

    -- a fork before a round
    module _ (nil-in : Q' [] i i []) (nil-out : (j : ℕ) (w : List ℕ) → Q' [] i j w → j ≡ i) (stay : T' [] i []) where
      -- neither the copy nor leaving leads to a success
      neither : (lazy : Bool) → κ i ≡ none → Parted lazy none → Listed lazy none
      neither lazy e c = round_none lazy (λ j w r. rw (nil-out j w r) e) c

      -- the copy is taken
      taken : (lazy : Bool) (p : List ℕ) → (lazy ≡ true → κ i ≡ none) → Parted lazy (some p) → Listed lazy (some p)
      taken lazy p h c = round_some lazy p (λ j w r l. rw (nil-out j w r) (h l)) c

      -- the copy is left out
      left_out : (lazy : Bool) (q : List ℕ) → κ i ≡ some q → (lazy ≡ false → Parted lazy none) → Listed lazy (some q)
      unfolding RoundByRound labels
      left_out lazy q e h = record { best = []; to = i; front = []; rest = q; reads = nil-in; runs = stay; goes = e; is = refl; first = λ e. go e }
        where
          go : (e : List A) (j : ℕ) (w : List ℕ) → Q' e i j w → RoundByRound lazy L e [] → κ j ≡ none
          go [] j w r l = absurd l
          go (d ∷ ds) j w r l = h l (d, ds) j w (out d ds j w r)

      -- G: what is known of a path found, for the copy's own sake
      by-fork : (lazy : Bool) (G : Option (List ℕ) → Type 0) (copy leave : Option (List ℕ)) → G none → (G copy → Parted lazy copy) → κ i ≡ leave
          → G (in_order lazy copy leave) → Listed lazy (in_order lazy copy leave)
      by-fork false G none none g c e r = neither false e (c g)
      by-fork false G none (some q) g c e r = left_out false q e (λ _. c g)
      by-fork false G (some p) leave g c e r = taken false p (λ h. absurd (false≢true h)) (c r)
      by-fork true G copy (some q) g c e r = left_out true q e (λ h. absurd (true≢false h))
      by-fork true G none none g c e r = neither true e (c g)
      by-fork true G (some p) none g c e r = taken true p (λ _. e) (c r)

-- ---- over places with flags

module _ (F : ℕ) (Q : List Flagged) (holds : ℕ → ℕ → Bool) (n : ℕ) (f : ℕ → Option (List ℕ)) (down : (x : ℕ) → f x ≡ plain_by (pair_ways holds n (spread F Q) x) f x) where
  abbrev pl : List Place
  pl = spread F Q

  -- the pair of a place with flags at a position
  abbrev pair : ℕ → ℕ → ℕ
  pair i s = pair_at (length pl) i s

  -- what is found from k on behind a part with d flags around it that was entered at i with the
  -- flags φ
  abbrev pub Behind : (ℕ → ℕ) → ℕ → ℕ → ℕ → ℕ → Option (List ℕ)
  Behind k d φ i j = f (pair j (k (took d φ i j)))

  -- a language with one derivation, which reads one place: b leads to the place with flags s if c
  -- is true
  pub through : {A : Type 0} (R : Reading A) (L : Order A) (T : Route A) (κ : ℕ → Option (List ℕ)) (i j b φ d s : ℕ) (p : ℕ → Place) (c : Bool) (e : A) → b < length Q → φ < 2 ^ d → 2 ^ d ≤ F
      → get_or Q b no_place ≡ flagged d p → ways_at holds n (length pl) (p φ) i ≡ pass_if c (pair j s) → κ j ≡ f (pair j s)
      → (c ≡ true → R e i j (label_of (p φ) [])) → T e j (pair i (state_at F b φ) ∷ []) → ((e' : A) (j' : ℕ) (w : List ℕ) → R e' i j' w → (c ≡ true) × (j' ≡ j) × (L e' e → ⊥))
      → Post pl κ R L T i (f (pair i (state_at F b φ)))
  unfolding plain_by first_of labels
  through {A} R L T κ i j b φ d s p c e h v w q y k r t u =
      post_by pl κ R L T i (plain_by (pass_if c (pair j s)) f (pair i (state_at F b φ))) (f (pair i (state_at F b φ)))
      (sym (down (pair i (state_at F b φ)) ∙ ap (λ (z : Ways). plain_by z f (pair i (state_at F b φ))) (node-ways F Q b φ d p h v w q holds n i ∙ y))) (go c r u (f (pair j s)) refl)
    where
      go : (c : Bool) → (c ≡ true → R e i j (label_of (p φ) [])) → ((e' : A) (j' : ℕ) (w : List ℕ) → R e' i j' w → (c ≡ true) × (j' ≡ j) × (L e' e → ⊥))
          → (o : Option (List ℕ)) → f (pair j s) ≡ o → Post pl κ R L T i (plain_by (pass_if c (pair j s)) f (pair i (state_at F b φ)))
      go false r u o g = λ x j' w z. absurd (false≢true (u x j' w z).0)
      go true r u none g = rw g (λ x j' w z. rw (u x j' w z).1 (k ∙ g))
      go true r u (some path) g =
          rw g
          record {
            best = e;
            to = j;
            front = pair i (state_at F b φ) ∷ [];
            rest = path;
            reads = rw (node-label F Q b φ d p h v w q i []) (r refl);
            runs = t;
            goes = k ∙ g;
            is = refl;
            first = λ x j' w z l. absurd ((u x j' w z).2 l);
          }

  -- what a fork finds
  fork-is : (i b φ d : ℕ) (ks : ℕ → List ℕ) → b < length Q → φ < 2 ^ d → 2 ^ d ≤ F → get_or Q b no_place ≡ flagged d (λ φ. p_fork (ks φ))
      → f (pair i (state_at F b φ)) ≡ onto (pair i (state_at F b φ)) (first_of f (map (λ k. pair i k) (ks φ)))
  unfolding plain_by ways_at
  fork-is i b φ d ks h v w e =
      down (pair i (state_at F b φ)) ∙ ap (λ (z : Ways). plain_by z f (pair i (state_at F b φ))) (node-ways F Q b φ d (λ φ. p_fork (ks φ)) h v w e holds n i)

  ways-is : (i : ℕ) (lazy : Bool) (x y : ℕ) → first_of f (map (λ k. pair i k) (ways_in_turn lazy x y)) ≡ in_order lazy (f (pair i x)) (f (pair i y))
  unfolding first_of
  ways-is i false x y = refl
  ways-is i true x y = refl

  fork-post : {A : Type 0} (R : Reading A) (L : Order A) (T T' : Route A) (κ : ℕ → Option (List ℕ)) (i b φ d : ℕ) (ks : ℕ → List ℕ)
      → ((e : A) (j : ℕ) (p : List ℕ) → T e j p → T' e j (pair i (state_at F b φ) ∷ p)) → b < length Q → φ < 2 ^ d → 2 ^ d ≤ F → get_or Q b no_place ≡ flagged d (λ φ. p_fork (ks φ))
      → Post pl κ R L T i (first_of f (map (λ k. pair i k) (ks φ))) → Post pl κ R L T' i (f (pair i (state_at F b φ)))
  fork-post R L T T' κ i b φ d ks on h v w e c =
      post_by pl κ R L T' i (onto (pair i (state_at F b φ)) (first_of f (map (λ k. pair i k) (ks φ)))) (f (pair i (state_at F b φ))) (sym (fork-is i b φ d ks h v w e))
      (lead pl κ R L T T' i (pair i (state_at F b φ)) on (λ xs. node-label F Q b φ d (λ φ. p_fork (ks φ)) h v w e i xs) (first_of f (map (λ k. pair i k) (ks φ))) c)

  -- ---- a part of a pattern that stands at b, with d flags around it and k behind it

  abbrev pub Finds : {A : Type 0} → Reading A → Order A → Routes A → Unrolled → Type 0
  Finds R L T t = (d b : ℕ) (k : ℕ → ℕ) → At Q b (code F t d b k) → b + size t ≤ length Q → 2 ^ (d + nest t) ≤ F → (i φ : ℕ) → φ < 2 ^ d
      → Post pl (Behind k d φ i) R L (T d b i φ) i (f (pair i (start_of F t b k φ)))

  abbrev pub FindsOne : {A : Type 0} → Reading A → Order A → Routes A → Branches → Type 0
  FindsOne R L T ts = (d b : ℕ) (k : ℕ → ℕ) → At Q b (codes F ts d b k) → b + sizes ts ≤ length Q → 2 ^ (d + nests ts) ≤ F → (i φ : ℕ) → φ < 2 ^ d
      → Post pl (Behind k d φ i) R L (T d b i φ) i (first_of f (map (λ k. pair i k) (starts_of F ts b k φ)))

  -- one branch alone
  pub finds_one : {A : Type 0} (R : Reading A) (L : Order A) (T : Routes A) (t : Unrolled) → Finds R L T t → FindsOne R L T (u_cons t u_nil)
  unfolding codes starts_of sizes first_of nests
  finds_one R L T t x d b k a hb hf i φ v =
      post_by pl (Behind k d φ i) R L (T d b i φ) i (f (pair i (start_of F t b k φ))) (or_next (f (pair i (start_of F t b k φ))) (λ _. none)) (sym (next-none (f (pair i (start_of F t b k φ)))))
      (x d b k (at_left Q b (code F t d b k) [] a) (omega arith) (nest-low F d (max (nest t) 0) (nest t) hf (omega arith)) i φ v)

  pub finds_only : {A : Type 0} (R : Reading A) (L : Order A) (T : Routes A) (t : Unrolled) → FindsOne R L T (u_cons t u_nil) → Finds R L T t
  unfolding codes starts_of sizes first_of nests
  finds_only R L T t x d b k a hb hf i φ v =
      post_by pl (Behind k d φ i) R L (T d b i φ) i (or_next (f (pair i (start_of F t b k φ))) (λ _. none)) (f (pair i (start_of F t b k φ))) (next-none (f (pair i (start_of F t b k φ))))
      (x d b k (rw append-nil a) (omega arith) (nest-low F d (nest t) (max (nest t) 0) hf (omega arith)) i φ v)

  -- one branch before others
  pub finds_first : {A B : Type 0} (R : Reading A) (L : Order A) (S : Reading B) (M : Order B)
      (T : Routes A) (U : Routes B) (t : Unrolled) (ts : Branches) → Finds R L T t → FindsOne S M U ts
      → FindsOne (Or R S) (FirstBranch L M) (λ d b i φ. OrRuns (T d b i φ) (U d (b + size t) i φ)) (u_cons t ts)
  unfolding codes starts_of sizes first_of nests
  finds_first R L S M T U t ts x y d b k a hb hf i φ v =
      either pl (Behind k d φ i) R L S M (T d b i φ) (U d (b + size t) i φ) i (f (pair i (start_of F t b k φ))) (first_of f (map (λ k. pair i k) (starts_of F ts (b + size t) k φ)))
      (x d b k (at_left Q b (code F t d b k) (codes F ts d (b + size t) k) a) (omega arith) (nest-low F d (max (nest t) (nests ts)) (nest t) hf (omega arith)) i φ v)
      (y d (b + size t) k (rw (code-length F t d b k) at (at_right Q b (code F t d b k) (codes F ts d (b + size t) k) a)) (omega arith)
      (nest-low F d (max (nest t) (nests ts)) (nests ts) hf (omega arith)) i φ v)

  -- branches behind their fork
  pub finds_alt : {A : Type 0} (R : Reading A) (L : Order A) (T : Routes A) (ts : Branches)
      → FindsOne R L T ts → Finds R L (ForkRuns T F (length pl) 1) (u_alt ts)
  unfolding code start_of size ForkRuns nest
  finds_alt R L T ts x d b k a hb hf i φ v =
      fork-post R L (T d (suc b) i φ) (ForkRuns T F (length pl) 1 d b i φ) (Behind k d φ i) i b φ d (starts_of F ts (suc b) k) (λ e j p r. (p, r, refl)) (omega arith) v (nest-here F d (nests ts) hf)
      (at_head Q b _ _ no_place a) (x d (suc b) k (at_tail Q b _ _ a) (omega arith) hf i φ v)

  pub finds_seq : {A B : Type 0} (R : Reading A) (L : Order A) (S : Reading B) (M : Order B)
      (T : Routes A) (U : Routes B) (s t : Unrolled) (word : A → List ℕ) → Taking R word → Onward S
      → Finds R L T s → Finds S M U t → Finds (Then R S) (Lexicographic L M) (λ d b i φ. ThenRuns (T d b i φ) (λ x. U d (b + size s) x (took d φ i x))) (u_seq s t)
  unfolding code start_of size nest
  finds_seq R L S M T U s t word tk on x y d b k a hb hf i φ v =
      in_sequence pl (Behind k d φ i) R L S M (T d b i φ) (λ x. U d (b + size s) x (took d φ i x)) word tk i (Behind m d φ i) (f (pair i (start_of F s b m φ)))
      (x d b m (at_left Q b (code F s d b m) (code F t d (b + size s) k) a) (omega arith) (nest-low F d (max (nest s) (nest t)) (nest s) hf (omega arith)) i φ v)
      (λ e j w r z. post_by pl (Behind k d φ i) S M (U d (b + size s) j (took d φ i j)) j (f (pair j (m (took d φ i j)))) none z (next j (omega (arith, tk e i j w r))))
      (λ e j w r q z _. post_by pl (Behind k d φ i) S M (U d (b + size s) j (took d φ i j)) j (f (pair j (m (took d φ i j)))) (some q) z (next j (omega (arith, tk e i j w r))))
    where
      m : ℕ → ℕ
      m = start_of F t (b + size s) k

      next : (j : ℕ) → i ≤ j → Post pl (Behind k d φ i) S M (U d (b + size s) j (took d φ i j)) j (f (pair j (m (took d φ i j))))
      next j h =
          post_behind pl (Behind k d φ i) (Behind k d (took d φ i j) j) S M (U d (b + size s) j (took d φ i j)) j
          (λ e x w r. ap (λ (ψ : ℕ). f (pair x (k ψ))) (took-then d φ i j x h (on e j x w r))) (f (pair j (m (took d φ i j))))
          (y d (b + size s) k (rw (code-length F s d b m) at (at_right Q b (code F s d b m) (code F t d (b + size s) k) a)) (omega arith)
          (nest-low F d (max (nest s) (nest t)) (nest t) hf (omega arith)) j (took d φ i j) (took_lt d φ i j v))

  -- ---- rounds of one body

  module _ {A : Type 0} (R : Reading A) (L : Order A) (T : Routes A) (lazy : Bool) (t : Unrolled) (word : A → List ℕ) (tk : Taking R word)
      (moves : skips t ≡ false → (e : A) → 0 < length (word e)) (body : Finds R L T t) where
    abbrev Prefer : Order (List A)
    Prefer = RoundByRound lazy L

    forward : Onward R
    forward e i j w r = omega (arith, tk e i j w r)

    turn_forward : Onward (InTurn R)
    unfolding InTurn
    turn_forward [] i j w r = omega (arith, r.0)
    turn_forward (e ∷ es) i j w r = le_trans (forward e i r.0 r.1 r.3) (turn_forward es r.0 j r.2 r.4)

    abbrev UpTo : ℕ → Reading (List A)
    UpTo m ds i j w = (length ds ≤ m) × InTurn R ds i j w

    -- what is said of a round behind its fork, without the fork
    abbrev Ahead : Route (A × List A) → ℕ → Route (List A)
    Ahead U i [] j p = (j ≡ i) × (p ≡ [])
    Ahead U i (e ∷ es) j p = U (e, es) j p

    abbrev Opt : ℕ → Routes (List A)
    Opt m d b i φ = OptionRuns T F (length pl) (size t) m d b i φ

    -- nothing taken, nothing changed
    behind-same : (k : ℕ → ℕ) (d φ i : ℕ) → Behind k d φ i i ≡ f (pair i (k φ))
    behind-same k d φ i = ap (λ (ψ : ℕ). f (pair i (k ψ))) (took-none d φ i i refl)

    finds_options : (m : ℕ) → Finds (UpTo m) Prefer (Opt m) (options m lazy t)
    unfolding options code start_of size InTurn RoundByRound OptionRuns nest
    finds_options zero d b k a hb hf i φ v = pass_by pl (Behind k d φ i) (UpTo 0) Prefer (Opt 0 d b i φ) i [] (zero-le, (refl, refl)) (refl, refl) (λ e. go e) (f (pair i (k φ))) (behind-same k d φ i)
      where
        go : (e : List A) (j : ℕ) (w : List ℕ) → UpTo 0 e i j w → (j ≡ i) × (Prefer e [] → ⊥)
        go [] j w r = (r.1.0, λ l. l)
        go (e ∷ es) j w r = absurd (not-suc-le-zero r.0)
    finds_options (suc m) d b k a hb hf i φ v =
        let c : ℕ → ℕ = start_of F (u_seq t (options m lazy t)) (suc b) k in
        let U : Route (A × List A) = ThenRuns (T d (suc b) i φ) (λ x. Opt m d (suc b + size t) x (took d φ i x)) in
        fork-post (UpTo (suc m)) Prefer (Ahead U i) (Opt (suc m) d b i φ) (Behind k d φ i) i b φ d (λ φ. ways_in_turn lazy (c φ) (k φ)) (λ es. on es) (omega arith) v
        (nest-here F d (nest (u_seq t (options m lazy t))) hf) (at_head Q b _ _ no_place a)
        (post_by pl (Behind k d φ i) (UpTo (suc m)) Prefer (Ahead U i) i (in_order lazy (f (pair i (c φ))) (f (pair i (k φ)))) _ (sym (ways-is i lazy (c φ) (k φ)))
        (by-fork pl (Behind k d φ i) R L (UpTo m) (UpTo (suc m)) i (λ e es j w r. (r.1.0, r.1.1, r.1.2, r.1.3, (le_of_suc-le-suc r.0, r.1.4), r.1.5))
        (λ e es j w r. (suc-le-suc r.4.0, (r.0, r.1, r.2, r.3, r.4.1, r.5))) U (Ahead U i) (λ e es j p r. r)
        (zero-le, (refl, refl)) (λ j w r. r.1.0) (refl, refl) lazy (λ _. Unit {0}) (f (pair i (c φ))) (f (pair i (k φ))) tt
        (λ _. finds_seq R L (UpTo m) Prefer T (Opt m) t (options m lazy t) word tk (λ es i j w r. turn_forward es i j w r.1) body (finds_options m) d (suc b) k (at_tail Q b _ _ a) (omega arith) hf i φ v)
        (behind-same k d φ i) tt))
      where
        on : (es : List A) (j : ℕ) (p : List ℕ) → Ahead (ThenRuns (T d (suc b) i φ) (λ x. Opt m d (suc b + size t) x (took d φ i x))) i es j p → Opt (suc m) d b i φ es j (pair i (state_at F b φ) ∷ p)
        on [] j p r = (r.0, ap (λ (z : List ℕ). pair i (state_at F b φ) ∷ z) r.1)
        on (e ∷ es) j p r = (r.0, r.1, r.2, r.3, r.4, ap (λ (z : List ℕ). pair i (state_at F b φ) ∷ z) r.5)

    -- ---- an unbounded part: every round but the last takes a row

    abbrev Turns : Reading (List A)
    Turns [] i j w = (j ≡ i) × (w ≡ [])
    Turns (e ∷ es) i k w = (j : ℕ) × (u : List ℕ) × (v : List ℕ) × (R e i j u) × (Turns es j k v × (j ≡ i → es ≡ [])) × (w ≡ u ++ v)

    turns-forward : Onward Turns
    turns-forward [] i j w r = omega (arith, r.0)
    turns-forward (e ∷ es) i j w r = le_trans (forward e i r.0 r.1 r.3) (turns-forward es r.0 j r.2 r.4.0)

    -- behind a first round from i
    abbrev Rest : ℕ → Reading (List A)
    Rest i es j k v = Turns es j k v × (j ≡ i → es ≡ [])

    -- a loop, whose fork is b; s: its body can take no row
    module _ (s : Bool) (takes : s ≡ false → (e : A) → 0 < length (word e)) (d b : ℕ) (k : ℕ → ℕ) (hb : b < length Q) (hf : 2 ^ d ≤ F)
        (q : get_or Q b no_place ≡ flagged d (λ φ. p_fork (ways_in_turn lazy (start_of F t (suc b) (round_end F s d b k) φ) (k φ))))
        (round : (i φ : ℕ) → φ < 2 ^ d
        → Post pl (Behind (round_end F s d b k) (deeper s d) φ i) R L (T (deeper s d) (suc b) i φ) i (f (pair i (start_of F t (suc b) (round_end F s d b k) φ)))) where
      abbrev copy_at : ℕ → ℕ → Option (List ℕ)
      copy_at i φ = f (pair i (start_of F t (suc b) (round_end F s d b k) φ))

      abbrev fork_at : ℕ → ℕ → Option (List ℕ)
      fork_at i φ = f (pair i (state_at F b φ))

      abbrev leave_at : ℕ → ℕ → Option (List ℕ)
      leave_at i φ = f (pair i (k φ))

      loop_is : (i φ : ℕ) → φ < 2 ^ d → fork_at i φ ≡ onto (pair i (state_at F b φ)) (in_order lazy (copy_at i φ) (leave_at i φ))
      loop_is i φ v =
          fork-is i b φ d (λ φ. ways_in_turn lazy (start_of F t (suc b) (round_end F s d b k) φ) (k φ)) hb v hf q
          ∙ ap (onto (pair i (state_at F b φ))) (ways-is i lazy (start_of F t (suc b) (round_end F s d b k) φ) (k φ))

      -- behind a round that has taken rows stands the fork, all flags set
      after-rows : (i j φ : ℕ) → i < j → Behind (round_end F s d b k) (deeper s d) φ i j ≡ fork_at j (full d)
      after-rows i j φ h = ap (λ (z : ℕ). f (pair j z)) (go s)
        where
          go : (s : Bool) → round_end F s d b k (took (deeper s d) φ i j) ≡ state_at F b (full d)
          go false = rw (took-rows d φ i j h)
          go true =
              let p = pow_pos d in
              let l : 2 ^ d ≤ full (suc d) = omega arith in
              let e : full (suc d) - 2 ^ d ≡ full d = omega arith in
              rw (took-rows (suc d) φ i j h, le-ltb (full (suc d)) (2 ^ d) l, e)

      -- behind a round that has taken none stands what is behind the loop; its body can take no row
      after_none : (e : A) (i j φ : ℕ) (w : List ℕ) → φ < 2 ^ d → R e i j w → j ≡ i → Behind (round_end F s d b k) (deeper s d) φ i j ≡ leave_at j φ
      after_none e i j φ w v r z = ap (λ (y : ℕ). f (pair j y)) (go s takes)
        where
          go : (s : Bool) → (s ≡ false → (e : A) → 0 < length (word e)) → round_end F s d b k (took (deeper s d) φ i j) ≡ k φ
          go false m = let y = m refl e in let x = tk e i j w r in absurd (omega arith)
          go true m = rw (took-none (suc d) φ i j z, lt-ltb φ (2 ^ d) v)

      -- what is found behind the loop, from a later position on
      later : (i j x φ : ℕ) → i < j → j ≤ x → Behind k d (full d) j x ≡ Behind k d φ i x
      later i j x φ h l = ap (λ (ψ : ℕ). f (pair x (k ψ))) (ap (λ (ψ : ℕ). took d ψ j x) (sym (took-rows d φ i j h)) ∙ took-then d φ i j x (omega arith) l)

      here : (k' : ℕ → ℕ) (φ i j : ℕ) → j ≡ i → Behind k' d φ i j ≡ f (pair j (k' φ))
      here k' φ i j e = ap (λ (ψ : ℕ). f (pair j (k' ψ))) (took-none d φ i j e)

      -- nothing is found behind the fork
      star-none : (es : List A) (i φ : ℕ) → φ < 2 ^ d → fork_at i φ ≡ none → (j : ℕ) (w : List ℕ) → Turns es i j w → Behind k d φ i j ≡ none
      star-none [] i φ v g j w r =
          here k φ i j r.0 ∙ ap (λ (x : ℕ). leave_at x φ) r.0 ∙ (in_order-none lazy (pair i (state_at F b φ)) (copy_at i φ) (leave_at i φ) (sym (loop_is i φ v) ∙ g)).1
      star-none (e ∷ es) i φ v g j w r = go (λ h z. star-none es r.0 (full d) (ones_lt d) z j r.2 r.4.0) (le_cases i r.0 (forward e i r.0 r.1 r.3))
        where
          copy : Behind (round_end F s d b k) (deeper s d) φ i r.0 ≡ none
          copy =
              let c : copy_at i φ ≡ none = (in_order-none lazy (pair i (state_at F b φ)) (copy_at i φ) (leave_at i φ) (sym (loop_is i φ v) ∙ g)).0 in
              let z : Post pl (Behind (round_end F s d b k) (deeper s d) φ i) R L (T (deeper s d) (suc b) i φ) i none =
              post_by pl (Behind (round_end F s d b k) (deeper s d) φ i) R L (T (deeper s d) (suc b) i φ) i (copy_at i φ) none c (round i φ v) in
              z e r.0 r.1 r.3

          go : (i < r.0 → fork_at r.0 (full d) ≡ none → Behind k d (full d) r.0 j ≡ none) → (r.0 ≡ i) ⊎ (i < r.0) → Behind k d φ i j ≡ none
          go ih (inl z) =
              let l : Turns [] r.0 j r.2 = subst (λ (ds : List A). Turns ds r.0 j r.2) (r.4.1 z) r.4.0 in
              let y : j ≡ i = l.0 ∙ z in
              here k φ i j y ∙ ap (λ (x : ℕ). leave_at x φ) l.0 ∙ sym (after_none e i r.0 φ r.1 v r.3 z) ∙ copy
          go ih (inr h) =
              sym (later i r.0 j φ h (turns-forward es r.0 j r.2 r.4.0)) ∙ ih h (sym (after-rows i r.0 φ h) ∙ copy)

      abbrev Loop : ℕ → ℕ → Route (List A)
      Loop i φ = LoopRuns T F (length pl) s d b i φ

      -- behind a first round from i to x
      abbrev LoopRest : ℕ → ℕ → Route (List A)
      LoopRest i x es j v = ((i < x) × Loop x (full d) es j v) ⊎ ((x ≡ i) × (j ≡ i) × (v ≡ []))

      abbrev Around : ℕ → ℕ → Route (A × List A)
      Around i φ = ThenRuns (T (deeper s d) (suc b) i φ) (LoopRest i)

      around : (i φ : ℕ) (es : List A) (j : ℕ) (p : List ℕ) → Ahead (Around i φ) i es j p → Loop i φ es j (pair i (state_at F b φ) ∷ p)
      unfolding LoopRuns
      around i φ [] j p r = (r.0, ap (λ (z : List ℕ). pair i (state_at F b φ) ∷ z) r.1)
      around i φ (e ∷ es) j p r = (r.0, r.1, r.2, r.3, r.4, ap (λ (z : List ℕ). pair i (state_at F b φ) ∷ z) r.5)

      abbrev Succeeds : ℕ → Type 0
      Succeeds m = (i φ : ℕ) → φ < 2 ^ d → (p : List ℕ) → length p ≤ m → fork_at i φ ≡ some p → Win pl (Behind k d φ i) Turns Prefer (Loop i φ) i p

      -- behind a first round: the loop goes on, or is left
      rest-none : (i φ : ℕ) → φ < 2 ^ d → (e : A) (j : ℕ) (w : List ℕ) → R e i j w → Behind (round_end F s d b k) (deeper s d) φ i j ≡ none
          → Post pl (Behind k d φ i) (Rest i) Prefer (LoopRest i j) j none
      rest-none i φ v e j w r g = go (le_cases i j (forward e i j w r))
        where
          go : (j ≡ i) ⊎ (i < j) → Post pl (Behind k d φ i) (Rest i) Prefer (LoopRest i j) j none
          go (inl z) = λ es x u l.
              let m : Turns [] j x u = subst (λ (ds : List A). Turns ds j x u) (l.1 z) l.0 in
              here k φ i x (m.0 ∙ z) ∙ ap (λ (x : ℕ). leave_at x φ) m.0 ∙ sym (after_none e i j φ w v r z) ∙ g
          go (inr h) = λ es x u l.
              sym (later i j x φ h (turns-forward es j x u l.0)) ∙ star-none es j (full d) (ones_lt d) (sym (after-rows i j φ h) ∙ g) x u l.0

      rest_some : (m i φ : ℕ) → φ < 2 ^ d → Succeeds m → (e : A) (j : ℕ) (w : List ℕ) → R e i j w → (p : List ℕ) → length p ≤ m
          → Behind (round_end F s d b k) (deeper s d) φ i j ≡ some p → Win pl (Behind k d φ i) (Rest i) Prefer (LoopRest i j) j p
      unfolding RoundByRound labels
      rest_some m i φ v ih e j w r p l g = go (le_cases i j (forward e i j w r))
        where
          nothing-before : (j ≡ i) → (es : List A) (x : ℕ) (u : List ℕ) → Rest i es j x u → Prefer es [] → Behind k d φ i x ≡ none
          nothing-before z [] x u y o = absurd o
          nothing-before z (c ∷ es) x u y o = let n : c ∷ es ≡ [] = y.1 z in let bad : ◌≡◌ {A = ℕ} 1 0 = ap (λ (ds : List A). pick-nil ds) n in absurd (omega arith)
            where
              pick-nil : List A → ℕ
              pick-nil [] = 0
              pick-nil (c ∷ cs) = 1

          go : (j ≡ i) ⊎ (i < j) → Win pl (Behind k d φ i) (Rest i) Prefer (LoopRest i j) j p
          go (inl z) =
              record {
                best = [];
                to = j;
                front = [];
                rest = p;
                reads = ((refl, refl), λ _. refl);
                runs = inr (z, z, refl);
                goes = here k φ i j z ∙ sym (after_none e i j φ w v r z) ∙ g;
                is = refl;
                first = λ es x u y o. nothing-before z es x u y o;
              }
          go (inr h) =
              let y = ih j (full d) (ones_lt d) p l (sym (after-rows i j φ h) ∙ g) in
              record {
                best = y.best;
                to = y.to;
                front = y.front;
                rest = y.rest;
                reads = (y.reads, λ z. absurd (omega arith));
                runs = inl (h, y.runs);
                goes = sym (later i j y.to φ h (turns-forward y.best j y.to (labels pl y.front) y.reads)) ∙ y.goes;
                is = y.is;
                first = λ es x u z o. sym (later i j x φ h (turns-forward es j x u z.0)) ∙ y.first es x u z.0 o;
              }

      -- m bounds the path
      star-some : (m : ℕ) → Succeeds m
      star-some zero i φ v p h g = absurd (omega (arith, onto-long (pair i (state_at F b φ)) (in_order lazy (copy_at i φ) (leave_at i φ)) p (sym (loop_is i φ v) ∙ g)))
      star-some (suc m) i φ v p h g =
          post_by pl κ Turns Prefer (Loop i φ) i (fork_at i φ) (some p) g
          (fork-post Turns Prefer (Ahead (Around i φ) i) (Loop i φ) κ i b φ d (λ φ. ways_in_turn lazy (start_of F t (suc b) (round_end F s d b k) φ) (k φ)) (around i φ) hb v hf q
          (post_by pl κ Turns Prefer (Ahead (Around i φ) i) i (in_order lazy (copy_at i φ) (leave_at i φ)) _ (sym (ways-is i lazy (start_of F t (suc b) (round_end F s d b k) φ) (k φ)))
          (by-fork pl κ R L (Rest i) Turns i (λ e es j w r. r) (λ e es j w r. r) (Around i φ) (Ahead (Around i φ) i) (λ e es j p r. r)
          (refl, refl) (λ j w r. r.0) (refl, refl) lazy (Shorter m) (copy_at i φ) (leave_at i φ) tt (λ z. rest (star-some m) (copy_at i φ) refl z) (here k φ i i refl)
          (onto-shorter (pair i (state_at F b φ)) m (in_order lazy (copy_at i φ) (leave_at i φ)) p (sym (loop_is i φ v) ∙ g) h))))
        where
          κ : ℕ → Option (List ℕ)
          κ = Behind k d φ i

          short : (y : List ℕ) (o : Option (List ℕ)) → Shorter m o → Under y o → length y ≤ m
          short y none z u = absurd u
          short y (some p) z u = le_trans u z

          rest : Succeeds m → (o : Option (List ℕ)) → copy_at i φ ≡ o → Shorter m o → Post pl κ (Then R (Rest i)) (Lexicographic L Prefer) (Around i φ) i o
          rest ih o c z =
              in_sequence pl κ R L (Rest i) Prefer (T (deeper s d) (suc b) i φ) (LoopRest i) word tk i (Behind (round_end F s d b k) (deeper s d) φ i) o
              (post_by pl (Behind (round_end F s d b k) (deeper s d) φ i) R L (T (deeper s d) (suc b) i φ) i (copy_at i φ) o c (round i φ v))
              (λ e j w r y. rest-none i φ v e j w r y) (λ e j w r y x u. rest_some m i φ v ih e j w r y (short y o z u) x)

    finds_star : Finds Turns Prefer (λ d b i φ. LoopRuns T F (length pl) (skips t) d b i φ) (u_star lazy t)
    unfolding code start_of size nest
    finds_star d b k a hb hf i φ v = go (f (pair i (state_at F b φ))) refl
      where
        low : 2 ^ d ≤ F
        low = nest-here F d (deeper (skips t) (nest t)) hf

        head : get_or Q b no_place ≡ flagged d (λ φ. p_fork (ways_in_turn lazy (start_of F t (suc b) (round_end F (skips t) d b k) φ) (k φ)))
        head = at_head Q b _ _ no_place a

        inner : (i φ : ℕ) → φ < 2 ^ d
            → Post pl (Behind (round_end F (skips t) d b k) (deeper (skips t) d) φ i) R L (T (deeper (skips t) d) (suc b) i φ) i (f (pair i (start_of F t (suc b) (round_end F (skips t) d b k) φ)))
        inner i φ v = body (deeper (skips t) d) (suc b) (round_end F (skips t) d b k) (at_tail Q b _ _ a) (omega arith) (nest-inner F (skips t) d (nest t) hf) i φ (wider (skips t) d φ v)

        go : (o : Option (List ℕ)) → f (pair i (state_at F b φ)) ≡ o → Post pl (Behind k d φ i) Turns Prefer (LoopRuns T F (length pl) (skips t) d b i φ) i o
        go none g = λ es j w r. star-none (skips t) moves d b k (omega arith) low head inner es i φ v g j w r
        go (some p) g = star-some (skips t) moves d b k (omega arith) low head inner (length p) i φ v p (omega arith) g

    -- ---- required rounds, then others

    abbrev Copied : Reading (List A) → ℕ → Reading (List A)
    Copied Z zero es i j w = Z es i j w
    Copied Z (suc m) [] i j w = ⊥
    Copied Z (suc m) (e ∷ es) i k w = (j : ℕ) × (u : List ℕ) × (v : List ℕ) × (R e i j u) × (Copied Z m es j k v) × (w ≡ u ++ v)

    copied_forward : (Z : Reading (List A)) → Onward Z → (m : ℕ) → Onward (Copied Z m)
    copied_forward Z on zero es i j w r = on es i j w r
    copied_forward Z on (suc m) [] i j w r = absurd r
    copied_forward Z on (suc m) (e ∷ es) i j w r = le_trans (forward e i r.0 r.1 r.3) (copied_forward Z on m es r.0 j r.2 r.4)

    finds_copies : (r : Unrolled) (Z : Reading (List A)) → Onward Z → (U : Routes (List A)) → Finds Z Prefer U r → (m : ℕ)
        → Finds (Copied Z m) Prefer (CopyRuns T (size t) U m) (copies m t r)
    unfolding copies CopyRuns
    finds_copies r Z on U x zero d b k a hb hf i φ v = x d b k a hb hf i φ v
    finds_copies r Z on U x (suc m) d b k a hb hf i φ v =
        one-round pl (Behind k d φ i) R L (Copied Z m) (Copied Z (suc m)) i (λ e es j w s. s) (λ e es j w s. s)
        (ThenRuns (T d b i φ) (λ x. CopyRuns T (size t) U m d (b + size t) x (took d φ i x))) (CopyRuns T (size t) U (suc m) d b i φ) (λ e es j p s. s)
        lazy (λ j w s. s) (f (pair i (start_of F (u_seq t (copies m t r)) b k φ)))
        (finds_seq R L (Copied Z m) Prefer T (CopyRuns T (size t) U m) t (copies m t r) word tk (copied_forward Z on m) body (finds_copies r Z on U x m) d b k a hb hf i φ v)

    -- ---- the languages told by the numbers of rounds, and by the rule for rounds that take no row

    -- a round that takes no row ends the repetition: so all but the last take one
    turns-to : (es : List A) (i j : ℕ) (w : List ℕ) → Turns es i j w → (empty_ends word 0 es ≡ true) × InTurn R es i j w
    unfolding empty_ends InTurn
    turns-to [] i j w r = (refl, r)
    turns-to (e ∷ []) i j w r = (refl, (r.0, r.1, r.2, r.3, r.4.0, r.5))
    turns-to (e ∷ c ∷ es) i j w r =
        let y = turns-to (c ∷ es) r.0 j r.2 r.4.0 in
        let m : 0 < length (word e) = some-row (length (word e)) refl in
        (rw (lt-ltb 0 (length (word e)) m) y.0, (r.0, r.1, r.2, r.3, y.1, r.5))
      where
        some-row : (n : ℕ) → length (word e) ≡ n → 0 < length (word e)
        some-row zero z = let q = tk e i r.0 r.1 r.3 in let bad = ap length (r.4.1 (omega arith)) in absurd (omega arith)
        some-row (suc n) z = omega arith

    turns-from : (es : List A) (i j : ℕ) (w : List ℕ) → empty_ends word 0 es ≡ true → InTurn R es i j w → Turns es i j w
    unfolding empty_ends InTurn
    turns-from [] i j w h r = r
    turns-from (e ∷ []) i j w h r = (r.0, r.1, r.2, r.3, (r.4, λ _. refl), r.5)
    turns-from (e ∷ c ∷ es) i j w h r =
        let g = and-true (ltb 0 (length (word e))) (empty_ends word 0 (c ∷ es)) h in
        let m = ltb-true 0 (length (word e)) g.0 in
        let q = tk e i r.0 r.1 r.3 in
        (r.0, r.1, r.2, r.3, (turns-from (c ∷ es) r.0 j r.2 g.1 r.4, λ z. absurd (omega arith)), r.5)

    many-to : (lo : ℕ) (es : List A) (i j : ℕ) (w : List ℕ) → Copied Turns lo es i j w → (lo ≤ length es) × (empty_ends word lo es ≡ true) × InTurn R es i j w
    unfolding empty_ends InTurn
    many-to zero es i j w r = let y = turns-to es i j w r in (zero-le, y.0, y.1)
    many-to (suc lo) [] i j w r = absurd r
    many-to (suc lo) (e ∷ es) i j w r = let y = many-to lo es r.0 j r.2 r.4 in (suc-le-suc y.0, y.1, (r.0, r.1, r.2, r.3, y.2, r.5))

    many-from : (lo : ℕ) (es : List A) (i j : ℕ) (w : List ℕ) → lo ≤ length es → empty_ends word lo es ≡ true → InTurn R es i j w → Copied Turns lo es i j w
    unfolding empty_ends InTurn
    many-from zero es i j w l h r = turns-from es i j w h r
    many-from (suc lo) [] i j w l h r = absurd (not-suc-le-zero l)
    many-from (suc lo) (e ∷ es) i j w l h r = (r.0, r.1, r.2, r.3, many-from lo es r.0 j r.2 (le_of_suc-le-suc l) h r.4, r.5)

    few_to : (lo m : ℕ) (es : List A) (i j : ℕ) (w : List ℕ) → Copied (UpTo m) lo es i j w → (lo ≤ length es) × (length es ≤ lo + m) × InTurn R es i j w
    unfolding InTurn
    few_to zero m es i j w r = (zero-le, omega (arith, r.0), r.1)
    few_to (suc lo) m [] i j w r = absurd r
    few_to (suc lo) m (e ∷ es) i j w r = let y = few_to lo m es r.0 j r.2 r.4 in (suc-le-suc y.0, omega (arith, y.1), (r.0, r.1, r.2, r.3, y.2, r.5))

    few_from : (lo m : ℕ) (es : List A) (i j : ℕ) (w : List ℕ) → lo ≤ length es → length es ≤ lo + m → InTurn R es i j w → Copied (UpTo m) lo es i j w
    unfolding InTurn
    few_from zero m es i j w l h r = (omega arith, r)
    few_from (suc lo) m [] i j w l h r = absurd (not-suc-le-zero l)
    few_from (suc lo) m (e ∷ es) i j w l h r = (r.0, r.1, r.2, r.3, few_from lo m es r.0 j r.2 (le_of_suc-le-suc l) (omega arith) r.4, r.5)

    -- lo to hi rounds
    pub finds_rounds : (lo : ℕ) (hi : Option ℕ) → Within lo hi
        → Finds {A = (es : List A) × ((lo ≤ length es) × Within (length es) hi)} (λ e i j w. (empty_ends_in hi word lo e.0 ≡ true) × InTurn R e.0 i j w)
        (λ e g. RoundByRound lazy L e.0 g.0)
        (λ d b i φ e j p. CopyRuns T (size t) (BehindRuns T F (length pl) (skips t) (size t) hi lo) lo d b i φ e.0 j p) (copies lo t (behind hi lo lazy t))
    unfolding behind BehindRuns empty_ends_in
    finds_rounds lo none h d b k a hb hf i φ v =
        instead pl (Behind k d φ i) (Copied Turns lo) Prefer (λ e i j w. (empty_ends word lo e.0 ≡ true) × InTurn R e.0 i j w) (λ e g. RoundByRound lazy L e.0 g.0)
        (CopyRuns T (size t) (λ d b i φ. LoopRuns T F (length pl) (skips t) d b i φ) lo d b i φ) (λ e. e.0) i
        (λ e j w s. many-from lo e.0 i j w e.1.0 s.0 s.1)
        (λ es j w s. let y = many-to lo es i j w s in ((es, (y.0, tt)), (y.1, y.2), refl)) (λ e g l. l) (f (pair i (start_of F (copies lo t (u_star lazy t)) b k φ)))
        (finds_copies (u_star lazy t) Turns turns-forward (λ d b i φ. LoopRuns T F (length pl) (skips t) d b i φ) finds_star lo d b k a hb hf i φ v)
    finds_rounds lo (some hi) h d b k a hb hf i φ v =
        instead pl (Behind k d φ i) (Copied (UpTo (hi - lo)) lo) Prefer (λ e i j w. (true ≡ true) × InTurn R e.0 i j w) (λ e g. RoundByRound lazy L e.0 g.0)
        (CopyRuns T (size t) (Opt (hi - lo)) lo d b i φ) (λ e. e.0) i
        (λ e j w s. few_from lo (hi - lo) e.0 i j w e.1.0 (let z = e.1.1 in omega arith) s.1)
        (λ es j w s. let y = few_to lo (hi - lo) es i j w s in ((es, (y.0, let z = y.1 in omega arith)), (refl, y.2), refl)) (λ e g l. l)
        (f (pair i (start_of F (copies lo t (options (hi - lo) lazy t)) b k φ)))
        (finds_copies (options (hi - lo) lazy t) (UpTo (hi - lo)) (λ es i j w r. turn_forward es i j w r.1) (Opt (hi - lo)) (finds_options (hi - lo)) lo d b k a hb hf i φ v)
