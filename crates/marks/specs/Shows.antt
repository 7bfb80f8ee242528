-- What the answers of the readers of quantifiers say of the reading function's.
use Rattle.std.specs.Prelude.{◌≡◌, Bool, true, false, List, ℕ, ◌≤◌, ◌<◌, length, drop, Option, Some, None, Result, Ok, Err}
use Rattle.std.proofs.Math.Option.{Option as Upper, none, some}
use Rattle.rules.specs.Language.{Form, star, plus, opt, exactly, at_least, at_most, between, lower, upper}
use Rattle.rules.specs.Reader.{bounded, Marked, unmarked, broken, marked}
use Rattle.text_bytes.specs.Numerals.{Stops}
use Rattle.text_bytes.specs.declared.Broken.{Broken}
use Rattle.nodes.specs.declared.Form.{Form as Kind}
use Rattle.nodes.specs.declared.Form.TheVariants.{Star, Plus, Opt, Exactly, AtLeast, AtMost, Between}
use Rattle.marks.specs.declared.Mark.{Mark}

-- a form without its bounds
unfoldable pub code_of : Form → Kind
code_of star = Star
code_of plus = Plus
code_of opt = Opt
code_of (exactly n) = Exactly
code_of (at_least n) = AtLeast
code_of (at_most m) = AtMost
code_of (between n m) = Between

-- an upper bound as a number: 100 for none
unfoldable pub highest : Upper ℕ → ℕ
highest none = 100
highest (some m) = m

unfoldable pub high_of : Form → ℕ
unfolding highest upper
high_of f = highest (upper f)

pub record Codes (f : Form) (form : Kind) (low high : ℕ) : Type 0 where
  pub code : form ≡ code_of f
  pub from : low ≡ lower f
  pub upto : high ≡ high_of f

-- a form's bounds are in order exactly if the upper one is not 0
pub record bounded_by (f : Form) (low high : ℕ) : Type 0 where
  pub none : high < 1 → bounded f ≡ false
  pub fine : 1 ≤ high → low ≤ high → bounded f ≡ true

pub record ShowsMark (s : List ℕ) (at : ℕ) (r : Mark) (f : Form) (z : Bool) (u : List ℕ) : Type 0 where
  pub codes : Codes f r.form r.low r.high
  pub lazy : r.lazy ≡ z
  pub rest : u ≡ drop r.at s
  pub on : at ≤ r.at
  pub inside : r.at ≤ length s

-- an answer, with a quantifier or none, or an error, says what is read
unfoldable pub Shows : List ℕ → ℕ → Result (Option Mark) Broken → Marked → Type 0
Shows s at (Ok None) unmarked = Unit {0}
Shows s at (Err e) (broken u) = Stops s e u
Shows s at (Ok (Some r)) (marked f z u) = ShowsMark s at r f z u
Shows s at (Ok None) (broken u) = ⊥
Shows s at (Ok None) (marked f z u) = ⊥
Shows s at (Err e) unmarked = ⊥
Shows s at (Err e) (marked f z u) = ⊥
Shows s at (Ok (Some r)) unmarked = ⊥
Shows s at (Ok (Some r)) (broken u) = ⊥

-- the same of an answer where a quantifier has begun
unfoldable pub Shown : List ℕ → ℕ → Result Mark Broken → Marked → Type 0
Shown s at r unmarked = ⊥
Shown s at (Err e) (broken u) = Stops s e u
Shown s at (Ok r) (marked f z u) = ShowsMark s at r f z u
Shown s at (Err e) (marked f z u) = ⊥
Shown s at (Ok r) (broken u) = ⊥
