-- The rows of a measure by the labels of a match: how many, the first and the last of them.
use Rattle.std.specs.Prelude.{◌≡◌, Bool, true, false, ◌||◌, List, ℕ, ◌+◌, ◌≤◌, ◌<◌, eqb, length, get_or}
use Rattle.std.specs.List.{count_by}
use Rattle.std.specs.declared.option.Option.{Option}
use Rattle.std.specs.declared.option.Option.TheVariants.{Some, None}

-- a row with this label is one of the rows of a measure with this letter; letter 0 is for all rows
abbrev pub is_of : ℕ → ℕ → Bool
is_of letter label = eqb letter 0 || eqb label letter

-- how many they are
abbrev pub count_of : ℕ → List ℕ → ℕ
count_of letter ls = count_by (is_of letter) ls

-- none of them lies from index i to below index j
abbrev pub NoneIn : ℕ → List ℕ → ℕ → ℕ → Type 0
NoneIn letter ls i j = (k : ℕ) → i ≤ k → k < j → is_of letter (get_or ls k 0) ≡ false

-- index i is the first of them
pub record FirstAt (letter : ℕ) (ls : List ℕ) (i : ℕ) : Type 0 where
  pub inside : i < length ls
  pub of_letter : is_of letter (get_or ls i 0) ≡ true
  pub none_before : NoneIn letter ls 0 i

abbrev pub IsFirst : ℕ → List ℕ → Option ℕ → Type 0
IsFirst letter ls None = NoneIn letter ls 0 (length ls)
IsFirst letter ls (Some i) = FirstAt letter ls i

-- index i is the last of them
pub record LastAt (letter : ℕ) (ls : List ℕ) (i : ℕ) : Type 0 where
  pub inside : i < length ls
  pub of_letter : is_of letter (get_or ls i 0) ≡ true
  pub none_behind : NoneIn letter ls (i + 1) (length ls)

abbrev pub IsLast : ℕ → List ℕ → Option ℕ → Type 0
IsLast letter ls None = NoneIn letter ls 0 (length ls)
IsLast letter ls (Some i) = LastAt letter ls i
