-- Rules: document 01, "Places and preferment", its third to fifth paragraphs, with R-2, R-11 and
-- R-13. Where attempts begin, how the search goes on behind a match, and the two whole searches, by
-- the counted walk and by plain backtracking, which take starts, write matches and answer by the
-- same rules.
use Rattle.std.specs.Prelude.{List, [], ◌∷◌, ◌++◌, map, Bool, true, false, not, ◌&&◌, ℕ, zero, suc, ◌+◌, length, get_or, replicate, ltb, leb, eqb}
use Rattle.std.proofs.Math.Option.{Option, none, some}
use Rattle.rules.specs.Basics.{pick}
use Rattle.rules.specs.Places.{Place, p_letter, p_caret, p_dollar, p_fork, p_end}
use Rattle.rules.specs.Walk.{Ways, pairs, position_of, place_of, first_at, pair_ways, plain, Halt, out_of_rows, Halting, Kept, as_kept, Outcome, found, failed, halted, tried, inside}

-- ---- matches

-- a match: the row of its start, and its path
pub record Match : Type 0 where
  pub start : ℕ
  pub path : List ℕ

-- the labels of its rows: the letters of the letter places on its path
abbrev pub label_of : Place → List ℕ → List ℕ
label_of (p_letter c k) ls = c ∷ ls
label_of (p_caret k) ls = ls
label_of (p_dollar k) ls = ls
label_of (p_fork ks) ls = ls
label_of p_end ls = ls

unfoldable pub labels : List Place → List ℕ → List ℕ
labels pl [] = []
labels pl (x ∷ p) = label_of (get_or pl (place_of (length pl) x) (p_fork [])) (labels pl p)

-- how a search ends: done; at a match that does not fit whole; behind a match that is written and
-- names no start to go on at; or unfinished, since it halted in the attempt at this start, with
-- these pairs still open (none where the attempt has not begun)
pub data End (M : Type 0) : Type 0 where
  done : End M
  full : M → End M
  stuck : End M
  unfinished : Halt → ℕ → List ℕ → End M

-- the start and the labels of a match, of each match, and of the match at which a search ends
abbrev pub shown_one : List Place → Match → ℕ × List ℕ
shown_one pl m = (m.start, labels pl m.path)

abbrev pub shown : List Place → List Match → List (ℕ × List ℕ)
shown pl ms = map (shown_one pl) ms

abbrev pub shown_end : List Place → End Match → End (ℕ × List ℕ)
shown_end pl done = done
shown_end pl (full m) = full (shown_one pl m)
shown_end pl stuck = stuck
shown_end pl (unfinished h i p) = unfinished h i p

-- the position at which a path ends, behind the last row of its match
abbrev pub last_of : ℕ → List ℕ → ℕ
last_of x [] = x
last_of x (y ∷ ys) = last_of y ys

abbrev pub end_of : ℕ → List ℕ → ℕ
end_of P p = position_of P (last_of 0 p)

-- ---- starts

-- the skip mode: past the last row (0), to the next row (1), to the first or to the last row with a
-- letter (2 and 3, R-2)
pub data Skip : Type 0 where
  past_last : Skip
  to_next : Skip
  to_first : ℕ → Skip
  to_last : ℕ → Skip

-- which of the labels is the first, or the last, that is the letter c, counted from 0
abbrev pub one_on : Option ℕ → Option ℕ
one_on none = none
one_on (some k) = some (suc k)

abbrev pub last_or : Option ℕ → Bool → Option ℕ
last_or (some k) here = some (suc k)
last_or none true = some 0
last_or none false = none

unfoldable pub first_with : ℕ → List ℕ → Option ℕ
first_with c [] = none
first_with c (x ∷ w) = pick (eqb x c) (some 0) (one_on (first_with c w))

unfoldable pub last_with : ℕ → List ℕ → Option ℕ
last_with c [] = none
last_with c (x ∷ w) = last_or (last_with c w) (eqb x c)

-- At a labelled row of the match at i with these labels: one row on after an empty match; no start
-- where the letter labels no row, or the match's first row.
abbrev pub labelled_start : ℕ → List ℕ → Option ℕ → Option ℕ
labelled_start i [] k = some (suc i)
labelled_start i (x ∷ w) none = none
labelled_start i (x ∷ w) (some zero) = none
labelled_start i (x ∷ w) (some (suc k)) = some (i + suc k)

-- After an empty match the next start is one row on. After a match of the rows i to j, not j
-- itself, with the labels w it is, by skip mode, the row behind its last row, one past its first,
-- or its first or last row with a letter; none where there is no such row behind its first.
unfoldable pub next_start : Skip → ℕ → ℕ → List ℕ → Option ℕ
unfolding first_with last_with
next_start past_last i j w = some (pick (ltb i j) j (suc i))
next_start to_next i j w = some (suc i)
next_start (to_first c) i j w = labelled_start i w (first_with c w)
next_start (to_last c) i j w = labelled_start i w (last_with c w)

-- how a search goes on: the number of rows, whether more may come, the next start behind a path
-- found at a start, the rows of a path, and whether its match fits behind so many matches with so
-- many labels
pub record Plan : Type 0 where
  pub n : ℕ
  pub more : Bool
  pub next : ℕ → List ℕ → Option ℕ
  pub rows : List ℕ → ℕ
  pub fits : ℕ → ℕ → List ℕ → Bool

-- where a search stands: the row of the next start, and how many matches, with how many labels, are
-- written
pub record Standing : Type 0 where
  pub start : ℕ
  pub matches : ℕ
  pub labels : ℕ

abbrev pub stand_at : ℕ → ℕ → ℕ → Standing
stand_at i m l = record { start = i; matches = m; labels = l }

-- what a search comes to: the matches written, how it ends, and what the attempts kept
pub record Swept (S : Type 0) : Type 0 where
  pub matches : List Match
  pub end : End Match
  pub state : S

-- what comes of an attempt: a match, by its path; none; or a halt, with the pairs still open
pub data Attempted : Type 0 where
  hit : List ℕ → Attempted
  miss : Attempted
  halts : Halt → List ℕ → Attempted

-- no row is there to start at: the search is done, or it waits where more rows may come
abbrev pub no_start : Bool → ℕ → End Match
no_start false i = done
no_start true i = unfinished out_of_rows i []

-- after a miss the next start is one row on; behind a match, by its path p, that is written it is
-- the row j that the match names
abbrev pub one_row_on : Standing → Standing
one_row_on at = stand_at (suc at.start) at.matches at.labels

abbrev pub behind_match : Plan → Standing → List ℕ → ℕ → Standing
behind_match plan at p j = stand_at j (suc at.matches) (at.labels + plan.rows p)

module _ {S : Type 0} where
  abbrev pub ended : End Match → S → Swept S
  ended e st = record { matches = []; end = e; state = st }

  abbrev pub below : Bool → Swept S → (Unit {0} → Swept S) → Swept S
  below false out go = out
  below true out go = go tt

  abbrev pub with_match : Match → Swept S → Swept S
  with_match m r = record { matches = m ∷ r.matches; end = r.end; state = r.state }

  -- A match, by whether it fits and by the next start that it names. One that does not fit whole
  -- ends the search, and no later, smaller match is tried; one that names no next start is written,
  -- and ends the search; any other is written, and the search goes on at the start that it names.
  abbrev pub on_match : Bool → Option ℕ → Match → S → (ℕ → Swept S) → Swept S
  on_match false next m st go = ended (full m) st
  on_match true none m st go = with_match m (ended stuck st)
  on_match true (some j) m st go = with_match m (go j)

  -- Behind an attempt: after a miss the search goes on, one row on; where the attempt halts, the
  -- search is unfinished; a match is as `on_match` says.
  abbrev pub on_answer : Plan → (Standing → S → Swept S) → Standing → Attempted → S → Swept S
  on_answer plan on at miss st = on (one_row_on at) st
  on_answer plan on at (halts h p) st = ended (unfinished h at.start p) st
  on_answer plan on at (hit p) st =
      on_match (plan.fits at.matches at.labels p) (plan.next at.start p) (record { start = at.start; path = p }) st (λ j. on (behind_match plan at p j) st)

  -- The search from where it stands on. Attempts begin at rows below n only: where no row is left to
  -- start at, the search ends; else it makes an attempt, and goes on behind it. k bounds the number
  -- of attempts; the law `sweep-enough` (crates/laws, Fuel) says that n is enough.
  unfoldable pub sweep : (ℕ → S → Attempted × S) → Plan → ℕ → Standing → S → Swept S
  sweep attempt plan zero at st = ended (no_start plan.more at.start) st
  sweep attempt plan (suc k) at st =
      below (ltb at.start plan.n) (ended (no_start plan.more at.start) st)
      (λ _. let r = attempt at.start st in on_answer plan (sweep attempt plan k) at r.0 r.1)

-- ---- attempts

-- by the counted walk, which keeps its failed pairs and its steps through one whole search
abbrev pub answered : Outcome → Attempted × Kept
answered (found p kept) = (hit p, kept)
answered (failed kept) = (miss, kept)
answered (halted h p kept) = (halts h p, kept)

-- an attempt tries the pair of the first place and the start
module _ (h : Halting) (ways : ℕ → Ways) where
  abbrev pub walk_at : ℕ → (ℕ → ℕ) → ℕ → Kept → Attempted × Kept
  walk_at K first i kept = answered (tried h (inside h ways K) kept (first i))

-- plain backtracking keeps nothing, and never halts
abbrev pub plainly : Option (List ℕ) → Attempted
plainly none = miss
plainly (some p) = hit p

abbrev pub plain_at : (ℕ → Ways) → ℕ → (ℕ → ℕ) → ℕ → Unit {0} → Attempted × Unit {0}
plain_at ways K first i st = (plainly (plain ways K (first i)), tt)

-- The preferred match at a start is the first success of plain backtracking.
abbrev pub plain_from : (ℕ → ℕ → Bool) → ℕ → List Place → ℕ → Option (List ℕ)
plain_from holds n pl i = plain (pair_ways holds n pl) (pairs (length pl) n) (first_at (length pl) i)

-- ---- the two searches

-- On what terms a search runs (document 02): the largest number of rows there may be, by which the
-- pairs are kept account of; whether more rows may come behind those present (R-11); and the number
-- of steps allowed, where one is named (R-13).
pub record Terms : Type 0 where
  pub largest : ℕ
  pub more : Bool
  pub allowance : Option ℕ

-- document 01's: all n rows are there, and any number of steps is allowed; and the same with an
-- allowance
abbrev pub within : Option ℕ → ℕ → Terms
within a n = record { largest = n; more = false; allowance = a }

abbrev pub whole : ℕ → Terms
whole n = within none n

-- no step is left of the allowance
abbrev pub spent_of : Option ℕ → ℕ → Bool
spent_of none s = false
spent_of (some a) s = leb a s

-- a letter place asks for a row
abbrev pub asks_row : Place → Bool
asks_row (p_letter c k) = true
asks_row (p_caret k) = false
asks_row (p_dollar k) = false
asks_row (p_fork ks) = false
asks_row p_end = false

-- with n rows present the walk halts just before an entry that would pass the allowance, and where,
-- of rows that may come, a letter place asks for one that is not yet present
unfoldable pub halting_of : Terms → List Place → ℕ → Halting
halting_of terms pl n =
    record {
      spent = spent_of terms.allowance;
      waits = λ x. terms.more && (asks_row (get_or pl (place_of (length pl) x) (p_fork [])) && not (ltb (position_of (length pl) x) n));
    }

unfoldable pub plan_of : List Place → ℕ → Bool → Skip → (ℕ → ℕ → List ℕ → Bool) → Plan
unfolding labels next_start
plan_of pl n more skip fits =
    record {
      n = n;
      more = more;
      next = λ i p. next_start skip i (end_of (length pl) p) (labels pl p);
      rows = λ p. length (labels pl p);
      fits = λ m l p. fits m l (labels pl p);
    }

-- what is searched: the number of rows; whether letter c holds at row i, `holds c i`; the places; the
-- skip mode; and whether a match with the labels w fits behind m matches with l labels, `fits m l w`
pub record Sought : Type 0 where
  pub holds : ℕ → ℕ → Bool
  pub n : ℕ
  pub places : List Place
  pub skip : Skip
  pub fits : ℕ → ℕ → List ℕ → Bool

abbrev pub seek : (ℕ → ℕ → Bool) → ℕ → List Place → Skip → (ℕ → ℕ → List ℕ → Bool) → Sought
seek holds n pl skip fits = record { holds = holds; n = n; places = pl; skip = skip; fits = fits }

-- `walk-search_enough` and `plain-search_enough` (crates/laws, Fuel) say that larger bounds on depth
-- and attempts change neither search. In both the first start is row 0.

-- by the counted walk: at first no pair has failed, and the count of steps is 0
unfoldable pub walk_search : Terms → Sought → Swept Kept
unfolding plan_of pair_ways halting_of inside sweep
walk_search terms sought =
    let n = sought.n in
    let pl = sought.places in
    let N = pairs (length pl) terms.largest in
    sweep (walk_at (halting_of terms pl n) (pair_ways sought.holds n pl) N (first_at (length pl))) (plan_of pl n terms.more sought.skip sought.fits) n (stand_at 0 0 0)
    (as_kept (replicate N false) 0)

-- by plain backtracking, on the rows present
unfoldable pub plain_search : Sought → Swept (Unit {0})
unfolding plan_of pair_ways plain sweep
plain_search sought =
    let n = sought.n in
    let pl = sought.places in
    let N = pairs (length pl) n in
    sweep (plain_at (pair_ways sought.holds n pl) N (first_at (length pl))) (plan_of pl n false sought.skip sought.fits) n (stand_at 0 0 0) tt

-- all matches found: those written, and the one that does not fit
abbrev pub full_of : End Match → List Match
full_of done = []
full_of (full m) = m ∷ []
full_of stuck = []
full_of (unfinished h i p) = []

abbrev pub found_in : {S : Type 0} → Swept S → List Match
found_in r = r.matches ++ full_of r.end

-- the pairs on all paths found, path by path; a pair on two paths counts twice
abbrev pub path_pairs : List Match → ℕ
path_pairs [] = 0
path_pairs (m ∷ ms) = length m.path + path_pairs ms

-- the search has not halted
abbrev pub Finished : {M : Type 0} → End M → Type 0
Finished done = Unit {0}
Finished (full m) = Unit {0}
Finished stuck = Unit {0}
Finished (unfinished h i p) = ⊥

-- the pairs still open where a search is unfinished
abbrev pub open_of : End Match → List ℕ
open_of done = []
open_of (full m) = []
open_of stuck = []
open_of (unfinished h i p) = p
