-- At most two steps for each pair, where the search goes on past the last row (document 01: the
-- steps are at most 2P(n+1)).
use mathlib.Core.Path.{◌≡◌, refl, ap, sym, ◌∙◌}
use mathlib.Core.List.{List, [], ◌∷◌, ◌++◌}
use mathlib.Core.Bool.{Bool, true, false, not}
use mathlib.Core.Logic.{◌≢◌}
use mathlib.Core.Option.{Option, none, some}
use Prim.Native.Nat.{ℕ, zero, suc, ◌+◌, ◌*◌, ◌≤◌, ◌<◌, max, suc-le-suc}
use native.Mathlib.Nat.{le_trans}
use native.Mathlib.Omega.{arith}
use lib.ListN.{length, length-append}
use lib.Dec.{ltb, eqb}
use borrow.Author.Tests.{ltb-true, eqb-true, eqb-false, not-true}
use Rattle.rules.specs.Search.{path_pairs, Match, done, Finished, Plan, ended, below, on_answer, sweep, found_in, walk_at, plainly, plain_at, last_of, on_match, stand_at}
use Rattle.rules.specs.Walk.{IsPath, here, there, Ways, try, Halting, count_true, or_next, first_of, onto, plain, plain_by, as_kept}
use Rattle.laws.proofs.Plain.{plain-path, plain_down, Sound}
use Rattle.laws.proofs.Swept.{Counted, Unhalting, closed, sweep-finished, finished_open, walk-sure, walk-follows_plain, walk-counted}
use Rattle.laws.proofs.Walk.{All-map, All-append, All-at, Apart, room, out-of_not_in}
use Rattle.rules.specs.Working.{All, Falls, Out}

-- ---- a pair that has a path does not fail

first_of-fails : (f : ℕ → Option (List ℕ)) (ys : List ℕ) → first_of f ys ≡ none → All (λ y. f y ≡ none) ys
unfolding first_of
first_of-fails f [] e = tt
first_of-fails f (y ∷ ys) e = go (first_of-fails f ys) (f y) refl e
  where
    go : (first_of f ys ≡ none → All (λ y. f y ≡ none) ys) → (o : Option (List ℕ)) → f y ≡ o → or_next o (λ _. first_of f ys) ≡ none → (f y ≡ none) × All (λ y. f y ≡ none) ys
    go ih none d e' = (d, ih e')
    go ih (some p) d e' = let z : ◌≡◌ {A = ℕ} 0 1 = cc in absurd (omega arith)

onto-none : (x : ℕ) (o : Option (List ℕ)) → onto x o ≡ none → o ≡ none
onto-none x none e = refl
onto-none x (some p) e = let z : ◌≡◌ {A = ℕ} 0 1 = cc in absurd (omega arith)

module _ (ways : ℕ → Ways) (ρ : ℕ → ℕ) (N : ℕ) (falls : Falls ways ρ N) (K : ℕ) (top : (x : ℕ) → ρ x < K) where
  pub plain-complete : {x : ℕ} {p : List ℕ} → IsPath ways x p → plain ways K x ≢ none
  unfolding plain_by
  plain-complete {x} (here e) d = let z : ◌≡◌ {A = ℕ} 0 1 = (let q : some (x ∷ []) ≡ none = sym (rw e at (plain_down ways ρ N falls K top x)) ∙ d in cc) in omega arith
  plain-complete {x} (there {ys = ys} e m h) d =
      let q : onto x (first_of (plain ways K) ys) ≡ none = sym (rw e at (plain_down ways ρ N falls K top x)) ∙ d in
      plain-complete h (All-at (λ y. plain ways K y ≡ none) m (first_of-fails (plain ways K) ys (onto-none x (first_of (plain ways K) ys) q)))

-- ---- what holds along a path

-- no way leads back to an earlier position
abbrev pub Onward : (ℕ → Ways) → (ℕ → ℕ) → Type 0
Onward ways pos = (x : ℕ) (ys : List ℕ) → ways x ≡ try ys → All (λ y. pos x ≤ pos y) ys

module _ (ways : ℕ → Ways) (ρ : ℕ → ℕ) (N : ℕ) (falls : Falls ways ρ N) where
  path_below : {x : ℕ} {p : List ℕ} → IsPath ways x p → All (λ z. ρ z ≤ ρ x) p
  path_below (here e) = (omega arith, tt)
  path_below {x} (there {y = y} {ys = ys} {p = p} e m h) =
      let d = All-at (λ y. (ρ y < ρ x) × (x < N → y < N)) m (falls x ys e) in
      (omega arith, All-map (λ z (r : ρ z ≤ ρ y). omega arith) p (path_below h))

  pub path_apart : {x : ℕ} {p : List ℕ} → IsPath ways x p → Apart p
  path_apart (here e) = (tt, tt)
  path_apart {x} (there {y = y} {ys = ys} {p = p} e m h) =
      let d = All-at (λ y. (ρ y < ρ x) × (x < N → y < N)) m (falls x ys e) in
      (All-map {Q = λ z. z ≢ x} (λ z (r : ρ z ≤ ρ y) (q : z ≡ x). let c : ρ z ≡ ρ x = ap ρ q in omega arith) p (path_below h), path_apart h)

  pub path_pairs_lem : {x : ℕ} {p : List ℕ} → x < N → IsPath ways x p → All (λ z. z < N) p
  path_pairs_lem lt (here e) = (lt, tt)
  path_pairs_lem {x} lt (there {ys = ys} e m h) = (lt, path_pairs_lem ((All-at (λ y. (ρ y < ρ x) × (x < N → y < N)) m (falls x ys e)).1 lt) h)

  pub path_lives : (K : ℕ) → ((x : ℕ) → ρ x < K) → {x : ℕ} {p : List ℕ} → IsPath ways x p → All (λ z. plain ways K z ≢ none) p
  path_lives K top (here e) = (plain-complete ways ρ N falls K top (here e), tt)
  path_lives K top (there e m h) = (plain-complete ways ρ N falls K top (there e m h), path_lives K top h)

-- what holds of a pair and of all that it leads to holds along a path
pub path_closed : (ways : ℕ → Ways) (Q : ℕ → Type 0) → ((x : ℕ) (ys : List ℕ) → ways x ≡ try ys → Q x → All Q ys) → {x : ℕ} {p : List ℕ} → Q x → IsPath ways x p → All Q p
path_closed ways Q cl q (here e) = (q, tt)
path_closed ways Q cl {x} q (there {ys = ys} e m h) = (q, path_closed ways Q cl (All-at Q m (cl x ys e q)) h)

-- what is said to come before a path does not matter for its last pair
pub last-same : {ways : ℕ → Ways} {x : ℕ} {p : List ℕ} (a b : ℕ) → IsPath ways x p → last_of a p ≡ last_of b p
last-same a b (here e) = refl
last-same a b (there e m h) = refl

module _ (ways : ℕ → Ways) (pos : ℕ → ℕ) (onward : Onward ways pos) where
  pub path_from : {x : ℕ} {p : List ℕ} → IsPath ways x p → All (λ z. pos x ≤ pos z) p
  path_from (here e) = (omega arith, tt)
  path_from {x} (there {y = y} {ys = ys} {p = p} e m h) =
      let d = All-at (λ y. pos x ≤ pos y) m (onward x ys e) in
      (omega arith, All-map (λ z (r : pos y ≤ pos z). omega arith) p (path_from h))

  last-from : {x : ℕ} {p : List ℕ} (a : ℕ) → IsPath ways x p → pos x ≤ pos (last_of a p)
  last-from a (here e) = omega arith
  last-from {x} a (there {y = y} {ys = ys} {p = p} e m h) =
      let d = All-at (λ y. pos x ≤ pos y) m (onward x ys e) in
      let i : pos y ≤ pos (last_of x p) = last-from x h in
      omega arith

  pub path_upto : {x : ℕ} {p : List ℕ} (a : ℕ) → IsPath ways x p → All (λ z. pos z ≤ pos (last_of a p)) p
  path_upto a (here e) = (omega arith, tt)
  path_upto {x} a (there {y = y} {ys = ys} {p = p} e m h) =
      let d = All-at (λ y. pos x ≤ pos y) m (onward x ys e) in
      let i : pos y ≤ pos (last_of x p) = last-from x h in
      (omega arith, path_upto x h)

-- ---- a part of a list

abbrev keep : Bool → ℕ → List ℕ → List ℕ
keep true x xs = x ∷ xs
keep false x xs = xs

unfoldable part : (ℕ → Bool) → List ℕ → List ℕ
part q [] = []
part q (x ∷ xs) = keep (q x) x (part q xs)

part-all : (q : ℕ → Bool) (P : ℕ → Type 0) (xs : List ℕ) → All P xs → All (λ z. P z × (q z ≡ true)) (part q xs)
unfolding part
part-all q P [] a = tt
part-all q P (x ∷ xs) a = go (part-all q P xs a.1) (q x) refl
  where
    go : All (λ z. P z × (q z ≡ true)) (part q xs) → (t : Bool) → q x ≡ t → All (λ z. P z × (q z ≡ true)) (keep t x (part q xs))
    go ih true e = ((a.0, e), ih)
    go ih false e = ih

part_apart : (q : ℕ → Bool) (xs : List ℕ) → Apart xs → Apart (part q xs)
unfolding part
part_apart q [] a = tt
part_apart q (x ∷ xs) a = go (part_apart q xs a.1) (q x)
  where
    go : Apart (part q xs) → (t : Bool) → Apart (keep t x (part q xs))
    go ih true = (All-map {Q = λ z. z ≢ x} (λ z (h : (z ≢ x) × (q z ≡ true)). h.0) (part q xs) (part-all q (λ z. z ≢ x) xs a.0), ih)
    go ih false = ih

part_length : (q : ℕ → Bool) (xs : List ℕ) → length (part q xs) + length (part (λ z. not (q z)) xs) ≡ length xs
unfolding part
part_length q [] = refl
part_length q (x ∷ xs) = go (part_length q xs) (q x)
  where
    go : length (part q xs) + length (part (λ z. not (q z)) xs) ≡ length xs → (t : Bool) → length (keep t x (part q xs)) + length (keep (not t) x (part (λ z. not (q z)) xs)) ≡ suc (length xs)
    go ih true = omega arith
    go ih false = omega arith

-- two lists at different positions
apart_append : (pos : ℕ → ℕ) (c : ℕ) (xs ys : List ℕ) → Apart xs → Apart ys → All (λ z. pos z < c) xs → All (λ z. c ≤ pos z) ys → Apart (xs ++ ys)
apart_append pos c [] ys a b h i = b
apart_append pos c (x ∷ xs) ys a b h i = (
  All-append (λ z. z ≢ x) xs ys a.0 (All-map {Q = λ z. z ≢ x} (λ z (r : c ≤ pos z) (e : z ≡ x). let q : pos z ≡ pos x = ap pos e in omega arith) ys i),
  apart_append pos c xs ys a.1 b h.1 i,
)

-- ---- the matches of a search, one behind the other

-- each match is what plain backtracking finds at its start, and the next one starts at some j
-- behind its start and not before its end
abbrev pub Spaced : (ℕ → Ways) → ℕ → (ℕ → ℕ) → (ℕ → ℕ) → Plan → ℕ → List Match → Type 0
Spaced ways K first pos plan i [] = Unit {0}
Spaced ways K first pos plan i (m ∷ ms) =
    (i ≤ m.start) × (m.start < plan.n) × (plain ways K (first m.start) ≡ some m.path)
    × ((j : ℕ) × (pos (last_of 0 m.path) ≤ j) × (m.start < j) × Spaced ways K first pos plan j ms)

module _ (ways : ℕ → Ways) (K : ℕ) (first pos : ℕ → ℕ) (plan : Plan) (past : (i : ℕ) (p : List ℕ) (j : ℕ) → plan.next i p ≡ some j → (pos (last_of 0 p) ≤ j) × (i < j)) where
  spaced_from : (i j : ℕ) → i ≤ j → (ms : List Match) → Spaced ways K first pos plan j ms → Spaced ways K first pos plan i ms
  spaced_from i j h [] a = tt
  spaced_from i j h (m ∷ ms) a = (le_trans h a.0, a.1, a.2, a.3)

  pub plain-spaced : (k i m l : ℕ) (st : Unit {0}) → Spaced ways K first pos plan i (found_in (sweep (plain_at ways K first) (closed plan) k (stand_at i m l) st))
  unfolding sweep
  plain-spaced zero i m l st = tt
  plain-spaced (suc k) i m l st = go (plain-spaced k) (ltb i plan.n) refl
    where
      alone : (p : List ℕ) → (j : ℕ) × (pos (last_of 0 p) ≤ j) × (i < j) × Spaced ways K first pos plan j []
      alone p = (max (pos (last_of 0 p)) (suc i), omega arith, omega arith, tt)

      fit : ((i m l : ℕ) (st : Unit {0}) → Spaced ways K first pos plan i (found_in (sweep (plain_at ways K first) (closed plan) k (stand_at i m l) st)))
          → i < plan.n → (p : List ℕ) → plain ways K (first i) ≡ some p → (o : Option ℕ) → plan.next i p ≡ o → (t : Bool)
          → Spaced ways K first pos plan i (found_in (on_match t o (record { start = i; path = p }) st (λ j. sweep (plain_at ways K first) (closed plan) k (stand_at j (suc m) (l + plan.rows p)) st)))
      fit ih h p e o d false = (omega arith, h, e, alone p)
      fit ih h p e none d true = (omega arith, h, e, alone p)
      fit ih h p e (some j) d true = let c = past i p j d in (omega arith, h, e, (j, c.0, c.1, ih j (suc m) (l + plan.rows p) st))

      on : ((i m l : ℕ) (st : Unit {0}) → Spaced ways K first pos plan i (found_in (sweep (plain_at ways K first) (closed plan) k (stand_at i m l) st)))
          → i < plan.n → (o : Option (List ℕ)) → plain ways K (first i) ≡ o
          → Spaced ways K first pos plan i (found_in (on_answer (closed plan) (sweep (plain_at ways K first) (closed plan) k) (stand_at i m l) (plainly o) st))
      on ih h none e = spaced_from i (suc i) (omega arith) (found_in (sweep (plain_at ways K first) (closed plan) k (stand_at (suc i) m l) st)) (ih (suc i) m l st)
      on ih h (some p) e = fit ih h p e (plan.next i p) refl (plan.fits m l p)

      go : ((i m l : ℕ) (st : Unit {0}) → Spaced ways K first pos plan i (found_in (sweep (plain_at ways K first) (closed plan) k (stand_at i m l) st)))
          → (t : Bool) → ltb i plan.n ≡ t
          → Spaced ways K first pos plan i (found_in (below t (ended done st) (λ _. on_answer (closed plan) (sweep (plain_at ways K first) (closed plan) k) (stand_at i m l) (plainly (plain ways K (first i))) st)))
      go ih false e = tt
      go ih true e = on ih (ltb-true i plan.n e) (plain ways K (first i)) refl

-- ---- heads and tails: the pairs of a path at its start's position, and the others

abbrev head_of : (ℕ → ℕ) → Match → List ℕ
head_of pos m = part (λ z. eqb (pos z) m.start) m.path

abbrev tail_of : (ℕ → ℕ) → Match → List ℕ
tail_of pos m = part (λ z. not (eqb (pos z) m.start)) m.path

abbrev joined : (Match → List ℕ) → List Match → List ℕ
joined f [] = []
joined f (m ∷ ms) = f m ++ joined f ms

joined-total : (pos : ℕ → ℕ) (ms : List Match) → length (joined (head_of pos) ms) + length (joined (tail_of pos) ms) ≡ path_pairs ms
joined-total pos [] = refl
joined-total pos (m ∷ ms) =
    let ih = joined-total pos ms in
    let c = part_length (λ z. eqb (pos z) m.start) m.path in
    simp length-append (omega arith)

-- pairs from a position on, none twice, none failed
record From (pos : ℕ → ℕ) (b : ℕ) (F : List Bool) (xs : List ℕ) : Type 0 where
  apart : Apart xs
  from : All (λ z. b ≤ pos z) xs
  out : All (Out F) xs
  pairs : All (λ z. z < length F) xs

from-append : (pos : ℕ → ℕ) (b c : ℕ) (F : List Bool) (xs ys : List ℕ) → b ≤ c → From pos b F xs → All (λ z. pos z < c) xs → From pos c F ys → From pos b F (xs ++ ys)
from-append pos b c F xs ys h f u g =
    record {
      apart = apart_append pos c xs ys f.apart g.apart u g.from;
      from = All-append _ xs ys f.from (All-map (λ z (r : c ≤ pos z). le_trans h r) ys g.from);
      out = All-append _ xs ys f.out g.out;
      pairs = All-append _ xs ys f.pairs g.pairs;
    }

from-down : (pos : ℕ → ℕ) (b c : ℕ) (F : List Bool) (xs : List ℕ) → c ≤ b → From pos b F xs → From pos c F xs
from-down pos b c F xs h f = record { apart = f.apart; from = All-map (λ z (r : b ≤ pos z). le_trans h r) xs f.from; out = f.out; pairs = f.pairs }

from-part : (pos : ℕ → ℕ) (b : ℕ) (F : List Bool) (q : ℕ → Bool) (xs : List ℕ) → From pos b F xs → From pos b F (part q xs)
from-part pos b F q xs f =
    record {
      apart = part_apart q xs f.apart;
      from = All-map (λ z (r : (b ≤ pos z) × (q z ≡ true)). r.0) (part q xs) (part-all q _ xs f.from);
      out = All-map {Q = Out F} (λ z (r : Out F z × (q z ≡ true)). r.0) (part q xs) (part-all q (Out F) xs f.out);
      pairs = All-map (λ z (r : (z < length F) × (q z ≡ true)). r.0) (part q xs) (part-all q _ xs f.pairs);
    }

module _ (ways : ℕ → Ways) (ρ : ℕ → ℕ) (N : ℕ) (falls : Falls ways ρ N) (K : ℕ) (top : (x : ℕ) → ρ x < K) (pos : ℕ → ℕ) (onward : Onward ways pos)
    (first : ℕ → ℕ) (plan : Plan) (starts : (i : ℕ) → i < plan.n → (first i < N) × (pos (first i) ≡ i))
    (past : (i : ℕ) (p : List ℕ) (j : ℕ) → plan.next i p ≡ some j → (pos (last_of 0 p) ≤ j) × (i < j)) where
  path_ok : (F : List Bool) → length F ≡ N → Sound ways K F → (i : ℕ) (p : List ℕ) → i < plan.n → plain ways K (first i) ≡ some p → From pos i F p
  path_ok F len h i p lt e =
      let w = plain-path ways K (first i) p e in
      let st = starts i lt in
      record {
        apart = path_apart ways ρ N falls w;
        from = rw st.1 at (path_from ways pos onward w);
        out = All-map {Q = Out F} (λ z (r : plain ways K z ≢ none). out-of_not_in F z (λ j. r (h z j))) p (path_lives ways ρ N falls K top w);
        pairs = rw len (path_pairs_lem ways ρ N falls st.0 w);
      }

  heads_ok : (F : List Bool) → length F ≡ N → Sound ways K F → (i : ℕ) (ms : List Match) → Spaced ways K first pos plan i ms → From pos i F (joined (head_of pos) ms)
  heads_ok F len h i [] a = record { apart = tt; from = tt; out = tt; pairs = tt }
  heads_ok F len h i (m ∷ ms) a =
      let q : ℕ → Bool = λ z. eqb (pos z) m.start in
      let f : From pos m.start F m.path = path_ok F len h m.start m.path a.1 a.2 in
      let nx = a.3 in
      from-down pos m.start i F (joined (head_of pos) (m ∷ ms)) a.0
      (from-append pos m.start nx.0 F (head_of pos m) (joined (head_of pos) ms) (omega arith)
      (from-part pos m.start F q m.path f)
      (All-map (λ z (r : (m.start ≤ pos z) × (q z ≡ true)). let s = eqb-true (pos z) m.start r.1 in omega arith) (head_of pos m) (part-all q _ m.path f.from))
      (heads_ok F len h nx.0 ms nx.3))

  tails_ok : (F : List Bool) → length F ≡ N → Sound ways K F → (i : ℕ) (ms : List Match) → Spaced ways K first pos plan i ms → From pos (suc i) F (joined (tail_of pos) ms)
  tails_ok F len h i [] a = record { apart = tt; from = tt; out = tt; pairs = tt }
  tails_ok F len h i (m ∷ ms) a =
      let q : ℕ → Bool = λ z. not (eqb (pos z) m.start) in
      let f : From pos m.start F m.path = path_ok F len h m.start m.path a.1 a.2 in
      let g : From pos m.start F (tail_of pos m) = from-part pos m.start F q m.path f in
      let nx = a.3 in
      let w = plain-path ways K (first m.start) m.path a.2 in
      from-down pos (suc m.start) (suc i) F (joined (tail_of pos) (m ∷ ms)) (suc-le-suc a.0)
      (from-append pos (suc m.start) (suc nx.0) F (tail_of pos m) (joined (tail_of pos) ms) (omega arith)
      (record {
        apart = g.apart;
        from = All-map (λ z (r : (m.start ≤ pos z) × (q z ≡ true)). later (pos z) m.start r.0 r.1) (tail_of pos m) (part-all q _ m.path f.from);
        out = g.out;
        pairs = g.pairs;
      })
      (All-map (λ z (r : (pos z ≤ pos (last_of 0 m.path)) × (q z ≡ true)). omega arith) (tail_of pos m) (part-all q _ m.path (path_upto ways pos onward 0 w)))
      (tails_ok F len h nx.0 ms nx.3))
    where
      later : (x b : ℕ) → b ≤ x → not (eqb x b) ≡ true → b < x
      later x b l e = let c : x ≢ b = eqb-false x b (not-true (eqb x b) e) in omega arith

  -- the steps of a search that begins with no failed pair and that nothing halts
  pub two-each : (w : Halting) → Unhalting w → plan.more ≡ false → (k i m l : ℕ) (F : List Bool) → length F ≡ N → Sound ways K F → count_true F ≡ 0
      → (sweep (walk_at w ways K first) plan k (stand_at i m l) (as_kept F 0)).state.steps ≤ 2 * N
  two-each w calm last k i m l F len h none_yet =
      let r = sweep (walk_at w ways K first) plan k (stand_at i m l) (as_kept F 0) in
      let c : Counted N (as_kept F 0) r = walk-counted w ways ρ N falls K top first plan (λ i h. (starts i h).0) k i m l (as_kept F 0) len in
      let fin : Finished r.end = sweep-finished (walk_at w ways K first) (walk-sure w calm ways K first) plan last k i m l (as_kept F 0) in
      let a = walk-follows_plain w ways ρ N falls K top first plan k i m l (as_kept F 0) h in
      let G : List Bool = r.state.failed in
      let same : found_in (sweep (plain_at ways K first) (closed plan) k (stand_at i m l) tt) ≡ found_in r = rw ((a.whole fin).0, (a.whole fin).1) in
      let sp : Spaced ways K first pos plan i (found_in r) = rw same at (plain-spaced ways K first pos plan past k i m l tt) in
      let hd = heads_ok G c.len a.state i (found_in r) sp in
      let tl = tails_ok G c.len a.state i (found_in r) sp in
      let hr = room (joined (head_of pos) (found_in r)) G hd.apart hd.out hd.pairs in
      let tr = room (joined (tail_of pos) (found_in r)) G tl.apart tl.out tl.pairs in
      omega (arith, c.sum, c.len, hr, tr, joined-total pos (found_in r), none_yet, ap length (finished_open r.end fin))
