-- Worked cases: document 01, "Bench sheet". W1 to W12 as one table, and some easy slips behind them.
-- The statement that the definitions agree with every line is `sheet-holds` (proofs/Bench).
use Rattle.std.specs.Prelude.{Bool, true, false, ◌&&◌, List, [], ◌∷◌, ◌++◌, ℕ, ◌/◌, ◌%◌, eqb, ℤ, pos, negsuc, length, take, replicate}
use Rattle.std.proofs.Math.Option.{Option, none, some}
use Prim.Native.String.{String}
use Rattle.std.specs.Int.Signed.{le_z}
use Rattle.rules.specs.Basics.{bytes}
use Rattle.rules.specs.Search.{labels, shown}
use Rattle.rules.specs.Preferment.{Shown}
use Rattle.rules.specs.Report.{bytes_for}
use Rattle.rules.specs.Answers.{tree_in, P, pairs_of, Buffers, task_of, walk_of, search_of, F}
use Rattle.rules.specs.Program.{printed}

-- ---- queries and rows

-- a record of a body of fewer than 256 bytes; and a query of one column: its pattern, its DEFINEs,
-- its skip mode, its measures
abbrev pub record_bytes : ℕ → List ℕ → List ℕ
record_bytes kind body = length body ∷ 0 ∷ kind ∷ 0 ∷ body

abbrev pub asks : String → List ℕ → ℕ → List ℕ → List ℕ
unfolding bytes
asks text defines mode measures = record_bytes 1 (1 ∷ 0 ∷ []) ++ (record_bytes 2 (bytes text) ++ (defines ++ (record_bytes 4 (mode ∷ 0 ∷ []) ++ measures)))

-- W1's query with COUNT(A) and LAST(B, column 0), as the sheet's bytes
unfoldable pub w1 : List ℕ
w1 =
    0x02 ∷ 0x00 ∷ 0x01 ∷ 0x00 ∷ 0x01 ∷ 0x00
    ∷ 0x04 ∷ 0x00 ∷ 0x02 ∷ 0x00 ∷ 0x41 ∷ 0x2B ∷ 0x20 ∷ 0x42
    ∷ 0x0E ∷ 0x00 ∷ 0x03 ∷ 0x00 ∷ 0x41 ∷ 0x01 ∷ 0x00 ∷ 0x00 ∷ 0x05 ∷ 0x01 ∷ 0x00 ∷ 0xFF ∷ 0x00 ∷ 0x00 ∷ 0x00 ∷ 0x00 ∷ 0x00 ∷ 0x00
    ∷ 0x0E ∷ 0x00 ∷ 0x03 ∷ 0x00 ∷ 0x42 ∷ 0x01 ∷ 0x00 ∷ 0x00 ∷ 0x03 ∷ 0x01 ∷ 0x00 ∷ 0xFF ∷ 0x00 ∷ 0x00 ∷ 0x00 ∷ 0x00 ∷ 0x00 ∷ 0x00
    ∷ 0x02 ∷ 0x00 ∷ 0x04 ∷ 0x00 ∷ 0x00 ∷ 0x00
    ∷ 0x04 ∷ 0x00 ∷ 0x05 ∷ 0x00 ∷ 0x01 ∷ 0x41 ∷ 0x00 ∷ 0x00
    ∷ 0x04 ∷ 0x00 ∷ 0x05 ∷ 0x00 ∷ 0x06 ∷ 0x42 ∷ 0x00 ∷ 0x00
    ∷ []

-- DEFINE A above 0: column 0 of this row (offset 0), greater (5), the constant (0) 0
abbrev pub above_zero : List ℕ
above_zero = record_bytes 3 (0x41 ∷ 1 ∷ 0 ∷ 0 ∷ 5 ∷ 0 ∷ 0 ∷ 0 ∷ 0 ∷ 0 ∷ 0 ∷ 0 ∷ 0 ∷ 0 ∷ [])

-- DEFINE A unequal (2) to PREV
abbrev pub unequal_prev : List ℕ
unequal_prev = record_bytes 3 (0x41 ∷ 1 ∷ 0 ∷ 0 ∷ 2 ∷ 1 ∷ 0 ∷ 0xFF ∷ 0 ∷ 0 ∷ 0 ∷ 0 ∷ 0 ∷ 0 ∷ [])

-- X is one column 100, 110, 120, 115, 130
abbrev pub X : List ℤ
X = pos 100 ∷ pos 110 ∷ pos 120 ∷ pos 115 ∷ pos 130 ∷ []

abbrev pub low : List ℤ
low = pos 1 ∷ pos 1 ∷ pos 0 ∷ []

-- n rows of which only the number counts
abbrev pub any : ℕ → List ℤ
any n = replicate n (pos 0)

-- ---- the sheet

-- a line: a query and rows; the answer, P, R-3's factor F, and the first row and labels of each
-- match; the steps, the report numbers and the printed lines where the sheet gives them
pub record Line : Type 0 where
  pub query : List ℕ
  pub rows : List ℤ
  pub answer : ℕ
  pub places : ℕ
  pub factor : ℕ
  pub matches : List Shown
  pub steps : Option ℕ
  pub numbers : Option (List ℤ)
  pub output : Option (List ℕ)

-- a line of an accepted query, with its steps; one whose steps the sheet does not give; and one of
-- a refused query
abbrev pub line : List ℕ → List ℤ → ℕ → List Shown → ℕ → Line
line q rows p ms s = record { query = q; rows = rows; answer = 0; places = p; factor = 1; matches = ms; steps = some s; numbers = none; output = none }

abbrev pub unstepped : List ℕ → List ℤ → ℕ → List Shown → Line
unstepped q rows p ms = record { query = q; rows = rows; answer = 0; places = p; factor = 1; matches = ms; steps = none; numbers = none; output = none }

abbrev pub refused_line : List ℕ → ℕ → ℕ → Line
refused_line q p a = record { query = q; rows = []; answer = a; places = p; factor = 1; matches = []; steps = some 0; numbers = none; output = none }

-- the same line with another factor, and with another answer
abbrev pub with_factor : ℕ → Line → Line
with_factor f l =
    record {
      query = l.query;
      rows = l.rows;
      answer = l.answer;
      places = l.places;
      factor = f;
      matches = l.matches;
      steps = l.steps;
      numbers = l.numbers;
      output = l.output;
    }

abbrev pub answering : ℕ → Line → Line
answering a l =
    record {
      query = l.query;
      rows = l.rows;
      answer = a;
      places = l.places;
      factor = l.factor;
      matches = l.matches;
      steps = l.steps;
      numbers = l.numbers;
      output = l.output;
    }

-- a match at a row with labels
abbrev pub at : ℕ → String → Shown
unfolding bytes
at row ls = (row, bytes ls)

unfoldable pub sheet : List Line
unfolding w1 bytes
sheet =
    -- W1: `A+ B`, A above PREV, B below PREV, on X, mode 0
    record {
      query = w1;
      rows = X;
      answer = 0;
      places = 5;
      factor = 1;
      matches = at 1 "AAB" ∷ [];
      steps = some 12;
      numbers = some (pos 1 ∷ pos 1 ∷ pos 3 ∷ pos 1 ∷ pos 2 ∷ pos 1 ∷ pos 115 ∷ []);
      output = some (bytes "matches 1 steps 12\n1 1 3 AAB 2 115\n");
    }
    -- W2: the same with n = 0
    ∷ line w1 [] 5 [] 0
    -- W3 and W4: `A*` and `A*?`, A above 0, on 1, 1, 0
    ∷ line (asks "A*" above_zero 0 []) low 3 (at 0 "AA" ∷ at 2 "" ∷ []) 9
    ∷ line (asks "A*?" above_zero 0 []) low 3 (at 0 "" ∷ at 1 "" ∷ at 2 "" ∷ []) 6
    -- W5: free letters, n = 2
    ∷ unstepped (asks "B A | A B" [] 0 []) (any 2) 6 (at 0 "BA" ∷ [])
    -- W6: free letters, n = 3, both skip modes
    ∷ line (asks "A A" [] 0 []) (any 3) 3 (at 0 "AA" ∷ []) 5
    ∷ line (asks "A A" [] 1 []) (any 3) 3 (at 0 "AA" ∷ at 1 "AA" ∷ []) 8
    -- W7: n = 2
    ∷ unstepped (asks "A $" [] 0 []) (any 2) 3 (at 1 "A" ∷ [])
    -- W8 accepted, W9 refused
    ∷ unstepped (asks "(A{51}){5}" [] 0 []) [] 256 []
    ∷ refused_line (asks "(A{16}){16}" [] 0 []) 257 7
    -- W10 with R-3: `(A*)*` accepted, P 4 and F 2; `(A?){3}` accepted
    ∷ with_factor 2 (line (asks "(A*)*" [] 0 []) [] 4 [] 0)
    -- and `(A??)*` on a row where A holds gives an empty match
    ∷ with_factor 2 (line (asks "(A??)*" [] 0 []) (any 1) 4 (at 0 "" ∷ []) 3)
    ∷ unstepped (asks "(A?){3}" [] 0 []) [] 7 []
    -- W11
    ∷ unstepped (asks "(A+)+" [] 0 []) [] 8 []
    -- W12: `A` in 8 parentheses accepted, in 9 refused
    ∷ unstepped (asks "((((((((A))))))))" [] 0 []) [] 2 []
    ∷ refused_line (asks "(((((((((A)))))))))" [] 0 []) 2 4
    -- beyond the sheet, easy slips: the preferred match is not the longest
    ∷ unstepped (asks "A | A B" [] 0 []) (any 2) 5 (at 0 "A" ∷ at 1 "A" ∷ [])
    -- a pair on the path of a match has not failed: with skip to next row it is entered again
    ∷ line (asks "A*" [] 1 []) (any 2) 3 (at 0 "AA" ∷ at 1 "A" ∷ []) 11
    -- COUNT of no rows is 0, and LAST of no rows is null
    ∷ record {
      query = asks "A | B" [] 0 (record_bytes 5 (1 ∷ 0x42 ∷ 0 ∷ 0 ∷ []) ++ record_bytes 5 (6 ∷ 0x42 ∷ 0 ∷ 0 ∷ []));
      rows = any 1;
      answer = 0;
      places = 4;
      factor = 1;
      matches = at 0 "A" ∷ [];
      steps = none;
      numbers = some (pos 1 ∷ pos 0 ∷ pos 1 ∷ pos 1 ∷ pos 0 ∷ pos 0 ∷ pos 0 ∷ []);
      output = none;
    }
    -- unequal does not hold where PREV has no row
    ∷ unstepped (asks "A" unequal_prev 0 []) X 2 (at 1 "A" ∷ at 2 "A" ∷ at 3 "A" ∷ at 4 "A" ∷ [])
    -- leaving at any fork goes straight behind the whole factor: fork, A, END
    ∷ line (asks "A{,3}" above_zero 0 []) (any 1) 7 (at 0 "" ∷ []) 3
    -- no space stands inside a token, and two letters do not touch
    ∷ refused_line (asks "A{ 1}" [] 0 []) 0 5
    ∷ refused_line (asks "AB" [] 0 []) 0 5
    -- a parenthesis closed before any is opened counts: at most 8 are open here
    ∷ refused_line (asks ")(((((((((" [] 0 []) 0 5
    ∷ refused_line (asks ")((((((((((" [] 0 []) 0 4
    ∷ []

-- ---- what agreeing with a line is

abbrev pub same : {A : Type 0} → (A → A → Bool) → List A → List A → Bool
same eq [] [] = true
same eq [] (y ∷ ys) = false
same eq (x ∷ xs) [] = false
same eq (x ∷ xs) (y ∷ ys) = eq x y && same eq xs ys

-- where the sheet gives it
abbrev pub if_given : {A : Type 0} → (A → Bool) → Option A → Bool
if_given f none = true
if_given f (some x) = f x

abbrev pub equal_z : ℤ → ℤ → Bool
equal_z a b = le_z a b && le_z b a

abbrev pub same_match : Shown → Shown → Bool
same_match a b = eqb a.0 b.0 && same eqb a.1 b.1

-- buffers that are just enough for the notes and the trail, and more than enough for the report
abbrev pub enough : List ℕ → List ℤ → Buffers
unfolding pairs_of bytes_for
enough q rows =
    record { notes = replicate (bytes_for (pairs_of q rows)) 255; trail = replicate (pairs_of q rows) 9; numbers = replicate 40 (pos 9); labels = replicate 40 9 }

-- a number below 2 ^ 31 that is not negative, in 4 bytes; and the standard input of a query and
-- rows
abbrev pub four_bytes : ℤ → List ℕ
four_bytes (pos n) = n % 256 ∷ n / 256 % 256 ∷ n / 65536 % 256 ∷ n / 16777216 ∷ []
four_bytes (negsuc n) = []

abbrev pub row_bytes : List ℤ → List ℕ
row_bytes [] = []
row_bytes (x ∷ xs) = four_bytes x ++ row_bytes xs

abbrev pub standard_input : List ℕ → List ℤ → List ℕ
standard_input q rows = length q % 256 ∷ length q / 256 ∷ (q ++ row_bytes rows)

-- the definitions give what the line says
unfoldable pub agrees : Line → Bool
unfolding search_of walk_of task_of tree_in P F printed labels
agrees l =
    let lent = enough l.query l.rows in
    let after = search_of l.query l.rows lent in
    eqb after.result.answer l.answer
    && (eqb (P (tree_in l.query)) l.places
    && (eqb (F (tree_in l.query)) l.factor
    && (same same_match (shown (task_of l.query l.rows).places (walk_of l.query l.rows lent).matches) l.matches
    && (if_given (eqb after.result.steps) l.steps
    && (if_given (λ ns. same equal_z (take (length ns) after.buffers.numbers) ns) l.numbers
    && if_given (same eqb (printed (standard_input l.query l.rows))) l.output)))))
