-- The text of a report as a function of what the search leaves: its counts, the report's numbers
-- and its labels. The law `report-printed` (proofs/Printed) says that for the numbers and labels of
-- any matches this is the text that document 01 asks for.
use Rattle.std.specs.Prelude.{Bool, List, [], ◌∷◌, ◌++◌, ℕ, zero, suc, ◌+◌, ◌*◌, eqb, ℤ, pos, nat_abs, get_or, take, drop}
use Rattle.rules.specs.Basics.{pick, bytes}
use Rattle.rules.specs.Program.{decimal, signed_decimal, labels_text}

-- entry i of the numbers
abbrev pub number_at : List ℤ → ℕ → ℤ
number_at ns i = get_or ns i (pos 0)

-- what a report's first line says: whether the search stopped, the matches and the steps
pub record Heading : Type 0 where
  pub stopped : Bool
  pub matches : ℕ
  pub steps : ℕ

abbrev pub heading : Bool → ℕ → ℕ → Heading
heading stopped m steps = record { stopped = stopped; matches = m; steps = steps }

-- `matches M steps S`, or `stopped M steps S`
unfoldable pub header_text : Heading → List ℕ
unfolding bytes decimal
header_text h = pick h.stopped (bytes "stopped ") (bytes "matches ") ++ (decimal h.matches ++ (bytes " steps " ++ (decimal h.steps ++ (10 ∷ []))))

-- a measure's two numbers: 0 and 0 for null, else 1 and the result
unfoldable pub result_text : ℤ → ℤ → List ℕ
unfolding bytes signed_decimal
result_text given v = pick (eqb (nat_abs given) 0) (bytes "null") (signed_decimal v)

-- those of w measures, each with one space (32) in front
unfoldable pub results_text : ℕ → List ℤ → List ℕ
unfolding result_text
results_text zero ns = []
results_text (suc w) ns = 32 ∷ (result_text (number_at ns 0) (number_at ns 1) ++ results_text w (drop 2 ns))

-- a number and one space
unfoldable pub field_text : ℤ → List ℕ
unfolding signed_decimal
field_text v = signed_decimal v ++ (32 ∷ [])

-- the line of a match, from its numbers and its labels
unfoldable pub line_text : ℕ → List ℤ → List ℕ → List ℕ
unfolding field_text labels_text results_text
line_text w ns own =
    field_text (number_at ns 0) ++ (field_text (number_at ns 1) ++ (field_text (number_at ns 2) ++ (labels_text own ++ (results_text w (drop 3 ns) ++ (10 ∷ [])))))

-- the lines of m matches: each has 3 and 2 for each measure of the numbers, and as many of the
-- labels as it has rows
unfoldable pub lines_text : ℕ → ℕ → List ℤ → List ℕ → List ℕ
unfolding line_text
lines_text zero w ns ls = []
lines_text (suc m) w ns ls =
    line_text w ns (take (nat_abs (number_at ns 2)) ls) ++ lines_text m w (drop (3 + 2 * w) ns) (drop (nat_abs (number_at ns 2)) ls)

-- the whole text, with w measures
unfoldable pub report_text : Heading → ℕ → List ℤ → List ℕ → List ℕ
unfolding header_text lines_text
report_text h w ns ls = header_text h ++ lines_text h.matches w ns ls

-- Room that is enough for the text, for so many numbers and labels: a header has at most 56 bytes,
-- and a line at most 22 for each of its numbers and one for each of its labels.
abbrev pub report_room : ℕ → ℕ → ℕ
report_room numbers labels = 60 + 22 * numbers + labels
