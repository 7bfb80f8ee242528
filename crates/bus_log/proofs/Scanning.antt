-- The two passes over the log, from its end: for an event that is not known, and for the last
-- refusal.
use Rattle.std.proofs.Common.{◌≡◌, ℕ, suc, ◌+◌, ◌*◌, ◌-◌, ◌/◌, ◌≤◌, ◌<◌, Bool, true, false, not, List, length, get_or, ℤ, pos, Some, None, refl, sym, ap, ◌∙◌, arith, w32, to_z, of_z}
use Rattle.std.specs.Prelude.{Option}
use Rattle.std.specs.Option.{is_some}
use Rattle.std.specs.Int.Signed.{mag}
use mir.Facts.{to_z-of_z}
use Rattle.rules.specs.Rows.{table_of, entry}
use Rattle.bus_log.specs.declared.Event.{Event}
use Rattle.bus_log.specs.declared.Event.TheVariants.{Refused}
use Rattle.bus_log.specs.Log.{log_of, event_of, is_event, is_known, some_below, last_below, unreadable, last_refusal}
use Rattle.bus_log.proofs.Events.{known, event-refused, event_other, event_none}

-- ---- an event read from the rows

module _ (rows : List ℤ) (i : ℕ) where
  pub event_there : (r : Option Event) → mag (get_or rows (i * 4 + 1) (pos 0)) < 2147483648
      → r ≡ event_of (to_z w32 (of_z w32 (get_or rows (i * 4 + 1) (pos 0)))) → r ≡ event_of (entry (log_of rows) i 1)
  unfolding log_of table_of entry
  event_there r f e = rw (to_z-of_z {w = w32} (record { sfits = f })) at e

  pub refusal : (r : Option Event) → r ≡ event_of (entry (log_of rows) i 1) → r ≡ Some Refused → true ≡ is_event (log_of rows) 2 i
  unfolding is_event
  refusal r e h = event-refused (entry (log_of rows) i 1) (sym e ∙ h)

  pub other_event : (r : Option Event) (f : Event) → r ≡ event_of (entry (log_of rows) i 1) → r ≡ Some f → (f ≡ Refused → ⊥) → false ≡ is_event (log_of rows) 2 i
  unfolding is_event
  other_event r f e h d = event_other (entry (log_of rows) i 1) f (sym e ∙ h) d

  pub none_there : (r : Option Event) → r ≡ event_of (entry (log_of rows) i 1) → r ≡ None → false ≡ is_event (log_of rows) 2 i
  unfolding is_event
  none_there r e h = event_none (entry (log_of rows) i 1) (sym e ∙ h)

-- ---- the rows from i on have been looked at

-- all their events are known; none is a refusal
module _ (rows : List ℤ) where
  abbrev pub Known : ℕ → Type 0
  Known i = unreadable (log_of rows) ≡ some_below i (λ j. not (is_known (log_of rows) j))

  abbrev pub Unrefused : ℕ → Type 0
  Unrefused i = last_refusal (log_of rows) ≡ last_below i (λ j. is_event (log_of rows) 2 j)

  pub known_start : Known (length rows / 4)
  unfolding unreadable log_of
  known_start = refl

  pub unrefused_start : Unrefused (length rows / 4)
  unfolding last_refusal log_of
  unrefused_start = refl

  module _ (i : ℕ) (h : 0 < i) where
    one_less : i ≡ suc (i - 1)
    one_less = omega arith

    known_here : (r : Option Event) → r ≡ event_of (entry (log_of rows) (i - 1) 1) → is_some r ≡ is_known (log_of rows) (i - 1)
    unfolding is_known is_event
    known_here r e = ap is_some e ∙ known (entry (log_of rows) (i - 1) 1)

    pub known_more : (r : Option Event) → Known i → r ≡ event_of (entry (log_of rows) (i - 1) 1) → is_some r ≡ true → Known (i - 1)
    unfolding some_below
    known_more r k e q =
        let z : some_below (suc (i - 1)) (λ j. not (is_known (log_of rows) j)) ≡ some_below (i - 1) (λ j. not (is_known (log_of rows) j)) =
        rw (← known_here r e, q)
        in
        k ∙ ap (λ (m : ℕ). some_below m (λ j. not (is_known (log_of rows) j))) one_less ∙ z

    pub known-not : (r : Option Event) → Known i → r ≡ event_of (entry (log_of rows) (i - 1) 1) → is_some r ≡ false → true ≡ unreadable (log_of rows)
    unfolding some_below
    known-not r k e q =
        let z : some_below (suc (i - 1)) (λ j. not (is_known (log_of rows) j)) ≡ true = rw (← known_here r e, q) in
        sym (k ∙ ap (λ (m : ℕ). some_below m (λ j. not (is_known (log_of rows) j))) one_less ∙ z)

    pub unrefused_more : (r : Bool) → Unrefused i → r ≡ is_event (log_of rows) 2 (i - 1) → r ≡ false → Unrefused (i - 1)
    unfolding last_below
    unrefused_more r k e q =
        let z : last_below (suc (i - 1)) (λ j. is_event (log_of rows) 2 j) ≡ last_below (i - 1) (λ j. is_event (log_of rows) 2 j) = rw (← e, q) in
        k ∙ ap (λ (m : ℕ). last_below m (λ j. is_event (log_of rows) 2 j)) one_less ∙ z

    pub refused-here : (r : Bool) → Unrefused i → r ≡ is_event (log_of rows) 2 (i - 1) → r ≡ true → Some (i - 1) ≡ last_refusal (log_of rows)
    unfolding last_below
    refused-here r k e q =
        let z : last_below (suc (i - 1)) (λ j. is_event (log_of rows) 2 j) ≡ Some (i - 1) = rw (← e, q) in
        sym (k ∙ ap (λ (m : ℕ). last_below m (λ j. is_event (log_of rows) 2 j)) one_less ∙ z)

  pub all_known : (i : ℕ) → Known i → i ≤ 0 → false ≡ unreadable (log_of rows)
  unfolding some_below
  all_known i k h = let z : i ≡ 0 = omega arith in sym (k ∙ rw z)

  pub none-refused : (i : ℕ) → Unrefused i → i ≤ 0 → None ≡ last_refusal (log_of rows)
  unfolding last_below
  none-refused i k h = let z : i ≡ 0 = omega arith in sym (k ∙ rw z)
