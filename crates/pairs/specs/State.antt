-- What holds of notes, trail and walk while an attempt goes on, what a part of it comes to, and
-- what an attempt asks and leaves.
use Rattle.std.specs.Prelude.{◌≡◌, Bool, true, false, ◌⊎◌, ℕ, zero, suc, ◌+◌, ◌-◌, ◌*◌, ◌/◌, ◌%◌, ◌≤◌, ◌<◌, eqb, length, get_or}
use mathlib.Core.List.{List, [], ◌∷◌, reverse_aux}
use Rattle.rules.specs.Basics.{pick}
use Rattle.rules.specs.Places.{Place, p_letter, p_caret, p_dollar, p_fork, p_end}
use Rattle.rules.specs.Report.{bit_at}
use Rattle.rules.specs.Walk.{Halting, out_of_steps, Outcome, halted, enter_unless, inside, count_true, Kept, as_kept, tried}
use Rattle.rules.specs.Working.{All, Open, bits_of, resume}
use Rattle.pairs.specs.declared.Walk.{Walk}
use Rattle.pairs.specs.Layout.{Layout, P, N, Sized, Legal, second, left_from, graph_of, passes_by, waits_by}
use Rattle.table.specs.Table.{ways_of, place_at, code_at, count_at}
use Rattle.pairs.specs.Step.{place_in, row_in, way_in, pair_in, stack, pair_of, before, result_by}

-- the rows that a place takes
abbrev pub takes : Place → ℕ
takes (p_letter c k) = 1
takes (p_caret k) = 0
takes (p_dollar k) = 0
takes (p_fork ks) = 0
takes p_end = 0

-- the pair y is one position behind x where the place of x takes a row, or else at the same
unfoldable pub Onto : Layout → ℕ → ℕ → Type 0
unfolding place_at
Onto T x y = y / P T ≡ x / P T + takes (place_at T.words (x % P T))

-- each open pair led to the one above it
abbrev pub Linked : Layout → List ℕ → Type 0
Linked T [] = Unit {0}
Linked T (x ∷ []) = Unit {0}
Linked T (x ∷ (y ∷ ys)) = Onto T y x × Linked T (y ∷ ys)

-- the pair x passes
unfoldable pub Passing : Layout → (ℕ → ℕ → Bool) → ℕ → ℕ → Type 0
unfolding passes_by
Passing T holds n x = passes_by holds n (code_at T.words (x % P T)) (x / P T) ≡ true

-- no pair waits that passes
abbrev pub Quiet : Halting → Layout → (ℕ → ℕ → Bool) → ℕ → Type 0
Quiet H T holds n = (x : ℕ) → Passing T holds n x → H.waits x ≡ false

-- what the walk relies on of that which halts it: below the steps allowed it may go on, and a pair
-- waits exactly where it asks for a row that is not yet there
pub record Fair (H : Halting) (T : Layout) (more : Bool) (n : ℕ) : Type 0 where
  pub spends : (s : ℕ) → s < T.limit → H.spent s ≡ false
  pub waits : (x : ℕ) → H.waits x ≡ waits_by more n (code_at T.words (x % P T)) (x / P T)

-- there is room on the trail for all pairs, or for as many as there are steps left
abbrev pub Roomy : Layout → ℕ → List ℕ → ℕ → ℕ → Type 0
Roomy T n trail top steps = (N T n ≤ length trail) ⊎ ((top + T.limit ≤ length trail + steps) × (steps ≤ T.limit))

-- a number of the trail: its place is one, and its way lies behind the first way of a fork
pub record Word (T : Layout) (e : ℕ) : Type 0 where
  pub place : place_in e < P T
  pub some : 0 < way_in e → 0 < second T (place_in e)
  pub behind : 0 < way_in e → second T (place_in e) ≤ way_in e
  pub before : 0 < way_in e → way_in e < count_at T.words (place_in e)

-- the walk stands at the pair that e stands for
pub record Spot (P : ℕ) (w : Walk) (e : ℕ) : Type 0 where
  pub place : place_in e ≡ w.place
  pub row : row_in e ≡ w.row
  pub base : w.base ≡ w.row * P

-- the trail's first `top` numbers are pairs each of which led to the next, and the walk stands at
-- the last of them
pub record OnPath (T : Layout) (trail : List ℕ) (w : Walk) : Type 0 where
  pub sized : Sized T
  pub room : w.top ≤ length trail
  pub words : (k : ℕ) → k < w.top → Word T (get_or trail k 0)
  pub linked : Linked T (stack (P T) trail w.top)
  pub spot : 0 < w.top → Spot (P T) w (get_or trail (w.top - 1) 0)

-- the row of the pairs to which the pair of e leads, and the pair of its way m
unfoldable pub row_from : Layout → ℕ → ℕ
row_from T e = row_in e + takes (place_at T.words (place_in e))

unfoldable pub way_at : Layout → ℕ → ℕ → ℕ
way_at T e m = row_from T e * P T + get_or (ways_of T.words (place_in e)) m 0

-- how many ways the pair of e has tried, where all but those from its next way on are
unfoldable pub reach : Layout → ℕ → ℕ
reach T e = suc (left_from T (place_in e) (second T (place_in e))) - left_from T (place_in e) (way_in e)

-- the pair of e, which is no END, has tried its ways before the next one: each has failed, but for
-- the pair y
pub record Led (T : Layout) (notes : List ℕ) (e y : ℕ) : Type 0 where
  pub going : code_at T.words (place_in e) ≤ 29
  pub tried : (m : ℕ) → m < reach T e → (way_at T e m ≡ y → ⊥) → bit_at notes (way_at T e m) ≡ true

-- all of them have failed
pub record Stuck (T : Layout) (notes : List ℕ) (e : ℕ) : Type 0 where
  pub going : code_at T.words (place_in e) ≤ 29
  pub tried : (m : ℕ) → m < reach T e → bit_at notes (way_at T e m) ≡ true

-- the open pairs have not failed, each led to the one above it, all pass, and the ways of each
-- before the one that led on have failed; the steps cannot run over
pub record Good (T : Layout) (holds : ℕ → ℕ → Bool) (n : ℕ) (notes trail : List ℕ) (w : Walk) : Type 0 where
  pub legal : Legal T holds n
  pub noted : N T n ≤ 8 * length notes
  pub trailed : Roomy T n trail w.top w.steps
  pub opened : Open legal.ρ (N T n) (bits_of notes (N T n)) (stack (P T) trail w.top)
  pub linked : Linked T (stack (P T) trail w.top)
  pub passing : All (Passing T holds n) (stack (P T) trail w.top)
  pub words : (k : ℕ) → k < w.top → Word T (get_or trail k 0)
  pub led : (k : ℕ) → suc k < w.top → Led T notes (get_or trail k 0) (pair_in (P T) (get_or trail (suc k) 0))
  pub steps : w.steps + N T n < 18446744073709551616 + (count_true (bits_of notes (N T n)) + w.top)

-- the pair of place q at a row is the next to be entered: it has not failed, and the last open pair
-- leads to it
pub record Next (T : Layout) (holds : ℕ → ℕ → Bool) (n : ℕ) (notes trail : List ℕ) (w : Walk) (q row base : ℕ) : Type 0 where
  pub good : Good T holds n notes trail w
  pub place : q < P T
  pub base_is : base ≡ row * P T
  pub opened : Open good.legal.ρ (N T n) (bits_of notes (N T n)) ((base + q) ∷ stack (P T) trail w.top)
  pub linked : Linked T ((base + q) ∷ stack (P T) trail w.top)
  pub led : 0 < w.top → Led T notes (get_or trail (w.top - 1) 0) (base + q)

-- the walk stands at END, which is on top
pub record Ends (T : Layout) (trail : List ℕ) (w : Walk) : Type 0 where
  pub spot : Spot (P T) w (get_or trail (w.top - 1) 0)
  pub end : 29 < code_at T.words w.place

-- the walk's pair is the next to be entered, or it is END, or the ways that the last open pair has
-- tried have failed; it does not wait
pub record Stands (T : Layout) (holds : ℕ → ℕ → Bool) (n : ℕ) (notes trail : List ℕ) (w : Walk) : Type 0 where
  pub next : w.status ≡ 1 → Next T holds n notes trail w w.place w.row w.base
  pub stuck : (w.status ≡ 1 → ⊥) → (w.status ≡ 2 → ⊥) → 0 < w.top → Stuck T notes (get_or trail (w.top - 1) 0)
  pub ends : w.status ≡ 2 → Ends T trail w
  pub known : w.status ≤ 2

-- how much is left to do: pairs to enter and leave; and the ways that the last open pair has left
unfoldable pub left : ℕ → List ℕ → Walk → ℕ
left N notes w = 2 * (N - count_true (bits_of notes N)) - w.top

unfoldable pub rest_at : Layout → List ℕ → ℕ → ℕ
rest_at T trail zero = 0
rest_at T trail (suc t) = left_from T (place_in (get_or trail t 0)) (way_in (get_or trail t 0))

abbrev pub rest : Layout → List ℕ → Walk → ℕ
rest T trail w = rest_at T trail w.top

-- what the open pairs come to by the recursive walk
unfoldable pub resumed : Halting → Layout → (ℕ → ℕ → Bool) → ℕ → List ℕ → List ℕ → Walk → Outcome
resumed H T holds n notes trail w = resume H (graph_of T holds n) (N T n) (stack (P T) trail w.top) (as_kept (bits_of notes (N T n)) w.steps)

-- what they come to once the pair x is entered
unfoldable pub entering : Halting → Layout → (ℕ → ℕ → Bool) → ℕ → List ℕ → List ℕ → Walk → ℕ → Outcome
entering H T holds n notes trail w x = resume H (graph_of T holds n) (N T n) (x ∷ stack (P T) trail w.top) (as_kept (bits_of notes (N T n)) (suc w.steps))

-- what they come to where the pair x is the next to be entered: where no step is left, the walk
-- halts with them
unfoldable pub facing : Halting → Layout → (ℕ → ℕ → Bool) → ℕ → List ℕ → List ℕ → Walk → ℕ → Outcome
unfolding entering
facing H T holds n notes trail w x =
    pick (H.spent w.steps) (halted out_of_steps (reverse_aux (stack (P T) trail w.top) []) (as_kept (bits_of notes (N T n)) w.steps)) (entering H T holds n notes trail w x)

-- what the state comes to
unfoldable pub comes : Halting → Layout → (ℕ → ℕ → Bool) → ℕ → List ℕ → List ℕ → Walk → Outcome
unfolding resumed facing
comes H T holds n notes trail w = pick (eqb w.status 1) (facing H T holds n notes trail w (pair_of w)) (resumed H T holds n notes trail w)

-- the walk has come from the buffers n₁ and t₁ to this state, which comes to the outcome R; nothing
-- beyond the pairs is changed
pub record Reached (H : Halting) (T : Layout) (holds : ℕ → ℕ → Bool) (n : ℕ) (n₁ t₁ : List ℕ) (R : Outcome) (notes trail : List ℕ) (w : Walk) : Type 0 where
  pub good : Good T holds n notes trail w
  pub stands : Stands T holds n notes trail w
  pub same : comes H T holds n notes trail w ≡ R
  pub notes_long : length notes ≡ length n₁
  pub trail_long : length trail ≡ length t₁
  pub notes_beyond : (z : ℕ) → N T n ≤ z → bit_at notes z ≡ bit_at n₁ z
  pub trail_beyond : (k : ℕ) → N T n ≤ k → get_or trail k 0 ≡ get_or t₁ k 0

-- a state of the walk
pub record State (T : Layout) (holds : ℕ → ℕ → Bool) (n : ℕ) (notes trail : List ℕ) (w : Walk) : Type 0 where
  pub good : Good T holds n notes trail w
  pub stands : Stands T holds n notes trail w

-- a pair is to be entered
pub record Goes (T : Layout) (holds : ℕ → ℕ → Bool) (n : ℕ) (notes trail : List ℕ) (w : Walk) : Type 0 where
  pub state : State T holds n notes trail w
  pub down : w.status ≡ 1

-- no pair is to be entered, and END is not open
pub record Idle (T : Layout) (holds : ℕ → ℕ → Bool) (n : ℕ) (notes trail : List ℕ) (w : Walk) : Type 0 where
  pub state : State T holds n notes trail w
  pub down : w.status ≡ 1 → ⊥
  pub found : w.status ≡ 2 → ⊥

-- and a pair is open
pub record Backs (T : Layout) (holds : ℕ → ℕ → Bool) (n : ℕ) (notes trail : List ℕ) (w : Walk) : Type 0 where
  pub idle : Idle T holds n notes trail w
  pub going : 0 < w.top

-- both, whatever letters hold, and wherever the walk halts, if no pair waits that passes: going
-- back does not ask
pub record Idling (T : Layout) (n : ℕ) (notes trail : List ℕ) (w : Walk) : Type 0 where
  pub halting : Halting
  pub holds : ℕ → ℕ → Bool
  pub quiet : Quiet halting T holds n
  pub idle : Idle T holds n notes trail w

pub record Backing (T : Layout) (n : ℕ) (notes trail : List ℕ) (w : Walk) : Type 0 where
  pub halting : Halting
  pub holds : ℕ → ℕ → Bool
  pub quiet : Quiet halting T holds n
  pub backs : Backs T holds n notes trail w

-- a pair is to be entered, or none is open
pub record Moves (T : Layout) (holds : ℕ → ℕ → Bool) (n : ℕ) (notes trail : List ℕ) (w : Walk) : Type 0 where
  pub state : State T holds n notes trail w
  pub still : (w.status ≡ 1 → ⊥) → w.top ≡ 0

-- a pair was entered: the state comes to what it came to before, and less is left
pub record Onward (H : Halting) (T : Layout) (holds : ℕ → ℕ → Bool) (n : ℕ) (n₁ t₁ : List ℕ) (w₁ : Walk) (notes trail : List ℕ) (w : Walk) : Type 0 where
  pub reached : Reached H T holds n n₁ t₁ (comes H T holds n n₁ t₁ w₁) notes trail w
  pub less : left (N T n) notes w < left (N T n) n₁ w₁

-- the last open pair went on to its next way or failed: less is left, or else one way less
pub record Backward (H : Halting) (T : Layout) (holds : ℕ → ℕ → Bool) (n : ℕ) (n₁ t₁ : List ℕ) (w₁ : Walk) (notes trail : List ℕ) (w : Walk) : Type 0 where
  pub reached : Reached H T holds n n₁ t₁ (comes H T holds n n₁ t₁ w₁) notes trail w
  pub found : w.status ≡ 2 → ⊥
  pub less : left (N T n) notes w ≤ left (N T n) n₁ w₁
  pub fewer : left (N T n) notes w ≡ left (N T n) n₁ w₁ → rest T trail w < rest T t₁ w₁

-- where the walk waits, its pair does, and the step of its entry was left
pub record Waited (H : Halting) (T : Layout) (w : Walk) : Type 0 where
  pub some : 0 < w.steps
  pub left : w.steps ≤ T.limit
  pub waits : H.waits (pair_of w) ≡ true

-- all pairs were entered that were to be entered in turn, or no step is left, or one waits
pub record Descended (H : Halting) (T : Layout) (holds : ℕ → ℕ → Bool) (n : ℕ) (n₁ t₁ : List ℕ) (w₁ : Walk) (notes trail : List ℕ) (w : Walk) : Type 0 where
  pub reached : Reached H T holds n n₁ t₁ (comes H T holds n n₁ t₁ w₁) notes trail (before w)
  pub less : (w.status ≡ 1 → ⊥) → (w.status ≡ 3 → ⊥) → left (N T n) notes w < left (N T n) n₁ w₁
  pub down : w.status ≡ 1 → T.limit ≤ w.steps
  pub waited : w.status ≡ 3 → Waited H T w

-- back until a pair is to be entered or none is open
pub record Retreated (H : Halting) (T : Layout) (holds : ℕ → ℕ → Bool) (n : ℕ) (n₁ t₁ : List ℕ) (w₁ : Walk) (notes trail : List ℕ) (w : Walk) : Type 0 where
  pub reached : Reached H T holds n n₁ t₁ (comes H T holds n n₁ t₁ w₁) notes trail w
  pub less : left (N T n) notes w ≤ left (N T n) n₁ w₁
  pub still : (w.status ≡ 1 → ⊥) → w.top ≡ 0

-- the walk is over: no pair is open, or END is on top, or a pair is to be entered and no step is
-- left, or one waits
pub record Over (H : Halting) (T : Layout) (trail : List ℕ) (w : Walk) : Type 0 where
  pub down : w.status ≡ 1 → T.limit ≤ w.steps
  pub waited : w.status ≡ 3 → Waited H T w
  pub last : (w.status ≡ 1 → ⊥) → (w.status ≡ 3 → ⊥) → 0 < w.top → Ends T trail w

pub record Ran (H : Halting) (T : Layout) (holds : ℕ → ℕ → Bool) (n : ℕ) (n₁ t₁ : List ℕ) (w₁ : Walk) (notes trail : List ℕ) (w : Walk) : Type 0 where
  pub reached : Reached H T holds n n₁ t₁ (comes H T holds n n₁ t₁ w₁) notes trail (before w)
  pub over : Over H T trail w

-- what an attempt at row i asks, with s steps before it
pub record Ready (T : Layout) (holds : ℕ → ℕ → Bool) (n : ℕ) (notes trail : List ℕ) (i s : ℕ) : Type 0 where
  pub legal : Legal T holds n
  pub noted : N T n ≤ 8 * length notes
  pub trailed : Roomy T n trail 0 s
  pub row : i < n
  pub steps : s + N T n < 18446744073709551616

-- an attempt at row i by the definition, with the failed pairs F and s steps before it: it tries
-- the pair of the first place and the start
abbrev pub attempt_by : Halting → Layout → (ℕ → ℕ → Bool) → ℕ → List Bool → ℕ → ℕ → Outcome
attempt_by H T holds n F s i = enter_unless (get_or F (i * P T) false) (H.spent s) (inside H (graph_of T holds n) (N T n)) (as_kept F s) (i * P T)

-- what an attempt leaves: its result is the definition's; with a path, the trail's first `top`
-- numbers are the path and the walk is at END; where it has halted, they are the open pairs, and no
-- step is left, or one more pair waits
pub record Done (H : Halting) (T : Layout) (holds : ℕ → ℕ → Bool) (n : ℕ) (n₁ t₁ : List ℕ) (i s : ℕ) (notes trail : List ℕ) (w : Walk) : Type 0 where
  pub same : attempt_by H T holds n (bits_of n₁ (N T n)) s i ≡ result_by (P T) trail (bits_of notes (N T n)) w
  pub reached : Reached H T holds n n₁ t₁ (attempt_by H T holds n (bits_of n₁ (N T n)) s i) notes trail (before w)
  pub over : Over H T trail w
