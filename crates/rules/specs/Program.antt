-- Rules: document 01, the last paragraph of "Report". What the program prints, as a function from
-- the bytes of standard input to the bytes of standard output.
use Rattle.std.specs.Prelude.{not, ◌||◌, List, [], ◌∷◌, ◌++◌, ℕ, zero, suc, ◌+◌, ◌*◌, ◌-◌, ◌/◌, ◌%◌, ltb, eqb, ℤ, pos, negsuc, length, take, drop}
use Rattle.std.proofs.Math.Option.{Option, none, some}
use Rattle.rules.specs.Basics.{pick, tabulate, le16, le32, signed32, bytes}
use Rattle.rules.specs.Rows.{Table}
use Rattle.rules.specs.Query.{Measure}
use Rattle.rules.specs.Search.{Match, Swept, labels}
use Rattle.rules.specs.Report.{measured}
use Rattle.rules.specs.Answers.{bad_rows, room_answer, pairs_of, Task, task_of, walked, stopped}
use Rattle.rules.specs.Walk.{Kept}

-- ---- numbers in decimal

-- the digits of a number without leading zero, 0 is 48; at most k of them
unfoldable pub digits_of : ℕ → ℕ → List ℕ
digits_of zero n = []
digits_of (suc k) n = pick (ltb n 10) ((48 + n) ∷ []) (digits_of k (n / 10) ++ ((48 + n % 10) ∷ []))

-- all digits of a number: a number below 10 ^ 20, as every number here is, has at most 20, and any
-- number has no more than one more than itself. The law `decimal-is` (crates/laws, Decimal) says
-- that the two bounds give the same, and `decimal-value` that the digits spell the number.
unfoldable pub decimal : ℕ → List ℕ
unfolding digits_of
decimal n = digits_of (pick (ltb n 100000000000000000000) 20 (suc n)) n

-- a number below 0 has a minus (45) in front
unfoldable pub signed_decimal : ℤ → List ℕ
unfolding decimal
signed_decimal (pos n) = decimal n
signed_decimal (negsuc n) = 45 ∷ decimal (suc n)

-- ---- lines

-- `-` for no labels, `null` for a null measure
unfoldable pub labels_text : List ℕ → List ℕ
unfolding bytes
labels_text [] = bytes "-"
labels_text (l ∷ ls) = l ∷ ls

unfoldable pub measure_text : Option ℤ → List ℕ
unfolding bytes signed_decimal
measure_text none = bytes "null"
measure_text (some v) = signed_decimal v

-- per measure one space (32) and its text
unfoldable pub measures_text : Table → ℕ → List ℕ → List Measure → List ℕ
unfolding measure_text measured
measures_text t row ls [] = []
measures_text t row ls (m ∷ ms) = 32 ∷ (measure_text (measured t row ls m) ++ measures_text t row ls ms)

-- a match's line: the number, the first row, the rows taken, the labels and the measures, parted by
-- one space; every line ends in one line feed (10)
unfoldable pub match_line : Table → List Measure → ℕ → ℕ → List ℕ → List ℕ
unfolding decimal labels_text measures_text
match_line t ms k row ls =
    decimal k ++ (32 ∷ (decimal row ++ (32 ∷ (decimal (length ls) ++ (32 ∷ (labels_text ls ++ (measures_text t row ls ms ++ (10 ∷ []))))))))

unfoldable pub match_lines : Task → ℕ → List Match → List ℕ
unfolding match_line labels
match_lines t k [] = []
match_lines t k (x ∷ xs) = match_line t.table t.measures (suc k) x.start (labels t.places x.path) ++ match_lines t (suc k) xs

-- `matches M steps S` where the search is done, `stopped M steps S` where it is stopped
unfoldable pub header_line : Swept Kept → List ℕ
unfolding bytes decimal stopped
header_line r =
    pick (stopped r) (bytes "stopped ") (bytes "matches ") ++ (decimal (length r.matches) ++ (bytes " steps " ++ (decimal r.state.steps ++ (10 ∷ []))))

unfoldable pub search_text : Task → Swept Kept → List ℕ
unfolding header_line match_lines
search_text t r = header_line r ++ match_lines t 0 r.matches

unfoldable pub refused_text : ℕ → List ℕ
unfolding bytes decimal
refused_text a = bytes "refused " ++ (decimal a ++ (10 ∷ []))

unfoldable pub too_large : List ℕ
unfolding bytes
too_large = bytes "too large\n"

-- ---- the program

-- the rows: signed numbers of 4 bytes each
unfoldable pub rows_of : List ℕ → List ℤ
unfolding tabulate le32 signed32
rows_of r = tabulate (length r / 4) (λ k. signed32 (le32 r (4 * k)))

-- Answers 1 to 10, where row bytes that are no multiple of 4 are a 10; then more than 16,000 pairs
-- are too large; then the search, with 8,192 report numbers and 65,536 label bytes lent.
unfoldable pub printed_for : List ℕ → List ℕ → List ℕ
unfolding refused_text too_large search_text room_answer bad_rows pairs_of task_of walked rows_of
printed_for q r =
    let a = room_answer q (not (eqb (length r % 4) 0) || bad_rows q (rows_of r)) in
    pick (ltb 0 a) (refused_text a)
    (pick (ltb 16000 (pairs_of q (rows_of r))) too_large
    (search_text (task_of q (rows_of r)) (walked (task_of q (rows_of r)) 8192 65536)))

-- In this order: a missing or cut length is a 1; a length above 4,096 is too large; fewer query
-- bytes than the length are a 1; more than 32,768 row bytes are too large.
unfoldable pub printed : List ℕ → List ℕ
unfolding printed_for le16
printed s =
    pick (ltb (length s) 2) (refused_text 1)
    (pick (ltb 4096 (le16 s 0)) too_large
    (pick (ltb (length s) (2 + le16 s 0)) (refused_text 1)
    (pick (ltb 32768 (length s - (2 + le16 s 0))) too_large
    (printed_for (take (le16 s 0) (drop 2 s)) (drop (2 + le16 s 0) s)))))
