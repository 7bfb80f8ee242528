-- What is read back from a report's buffers (specs/Entries) is what was written: the entries of the
-- matches, in order, whatever lies behind them.
use mathlib.Core.Path.{◌≡◌, refl, ap, ◌∙◌}
use mathlib.Core.List.{List, [], ◌∷◌, ◌++◌, append_assoc}
use Prim.Native.Nat.{ℕ, suc, ◌+◌, ◌*◌}
use native.Mathlib.Omega.{arith}
use lib.IntN.{ℤ}
use lib.ListN.{length, drop}
use lib.Seq.{take_at, drop_at}
use Rattle.rules.specs.Basics.{wrote}
use Rattle.rules.specs.Rows.{Table}
use Rattle.rules.specs.Query.{Measure}
use Rattle.rules.specs.Places.{Place}
use Rattle.rules.specs.Search.{Match, labels, shown}
use Rattle.rules.specs.Report.{measure_numbers, match_numbers, numbers_of, labels_of}
use Rattle.rules.specs.Entries.{Reported, read_back, reported_one, reported_all}
use Rattle.laws.proofs.Limits.{match-long}

-- one match at the front
entry_read : (t : Table) (ms : List Measure) (k row : ℕ) (w : List ℕ) (m : ℕ) (rest : List ℤ) (rest' : List ℕ)
    → read_back (length ms) (suc m) (match_numbers t ms k row w ++ rest) (w ++ rest') ≡ reported_one t ms (row, w) ∷ read_back (length ms) m rest rest'
unfolding read_back match_numbers reported_one
entry_read t ms k row w m rest rest' =
    let l : length (measure_numbers t row w ms) ≡ 2 * length ms = omega (arith, match-long t ms k row w) in
    let a = take_at (measure_numbers t row w ms) rest (2 * length ms) l in
    let b = drop_at (match_numbers t ms k row w) rest (3 + 2 * length ms) (match-long t ms k row w) in
    rw (a, b, take_at w rest' (length w) refl, drop_at w rest' (length w) refl)

none_read : (c : ℕ) (rest : List ℤ) (rest' : List ℕ) → read_back c 0 rest rest' ≡ []
unfolding read_back
none_read c rest rest' = refl

-- the entries at the front of the numbers and labels of these matches, whatever comes behind
pub entries-read : (t : Table) (ms : List Measure) (pl : List Place) (k : ℕ) (xs : List Match) (rest : List ℤ) (rest' : List ℕ)
    → read_back (length ms) (length xs) (numbers_of t ms pl k xs ++ rest) (labels_of pl xs ++ rest') ≡ reported_all t ms (shown pl xs)
unfolding numbers_of labels_of
entries-read t ms pl k [] rest rest' = none_read (length ms) rest rest'
entries-read t ms pl k (x ∷ xs) rest rest' =
    let w = labels pl x.path in
    rw (append_assoc (match_numbers t ms (suc k) x.start w) (numbers_of t ms pl (suc k) xs) rest, append_assoc w (labels_of pl xs) rest')
    (entry_read t ms (suc k) x.start w (length xs) (numbers_of t ms pl (suc k) xs ++ rest) (labels_of pl xs ++ rest')
    ∙ ap (λ (es : List Reported). reported_one t ms (x.start, w) ∷ es) (entries-read t ms pl (suc k) xs rest rest'))

-- what lies behind what was written at the front of a buffer is unchanged
pub behind-wrote : {A : Type 0} (l vs : List A) (k : ℕ) → length vs ≡ k → drop k (wrote l 0 vs) ≡ drop k l
unfolding wrote
behind-wrote l vs k e =
    let z : 0 + length vs ≡ k = omega arith in
    drop_at vs (drop (0 + length vs) l) k e ∙ ap (λ (i : ℕ). drop i l) z
