-- The loop over the starts: its numbers stay within their bounds, whatever the buffers hold.
use mathlib.Core.Path.{◌≡◌, refl, sym, ap, ◌∙◌, subst}
use mathlib.Core.List.{List}
use mathlib.Core.Bool.{Bool, true, false}
use mathlib.Core.Logic.{◌⊎◌, inl, inr, ⊎_elim}
use mathlib.Core.Option.{Option, none, some}
use Prim.Native.Nat.{ℕ, suc, ◌+◌, ◌-◌, ◌*◌, ◌≤◌, ◌<◌}
use native.Mathlib.Nat.{suc-mul, mul-le-mul, mul-le-mul_right}
use native.Mathlib.Omega.{arith}
use lib.IntN.{ℤ}
use lib.ListN.{length}
use Rattle.rules.specs.Answers.{halt_answer}
use Rattle.rules.specs.Report.{lent_room, fits}
use Rattle.rules.specs.Search.{Attempted, hit, miss, halts, labels, end_of}
use Rattle.rules.specs.Walk.{Halt, out_of_steps, out_of_rows, Kept}
use Rattle.laws.proofs.Appended.{length-wrote_at, fits-room}
use Rattle.laws.proofs.Limits.{match-long}
use Rattle.rules.specs.Working.{bits_of}
use Rattle.laws.proofs.Starts.{next-on}
use Rattle.pairs.specs.Layout.{N, most_pairs}
use Rattle.matches.specs.declared.Sweep.{Sweep}
use Rattle.matches.specs.declared.Task.{Task}
use Rattle.matches.specs.Asked.{Asked, pl, width, asked_of}
use Rattle.matches.specs.Found.{swept, swept_at, swept_on, next_at, Quiet, Written, ToldBy, Told, Visits, attempt_at, Visited, Searches}
use Rattle.sweep.specs.Searched.{Sound, Beyond}

abbrev M : Asked → ℕ
M A = N A.layout A.n

-- ---- the numbers stay within their bounds, whatever the buffers hold

module _ (W : List ℕ) (rows : List ℤ) (task : Task) (notes trail : List ℕ) (numbers : List ℤ) (labs : List ℕ) (i : Sweep) (h : Sound W rows task notes trail labs i) (lt : i.row < task.size.rows) where
  abbrev A : Asked
  A = asked_of W rows task

  steps_fit : i.steps + M A < 18446744073709551616
  steps_fit =
      let s = h.searches.legal.small in
      let r = h.searches.measured.few_rows in
      let a : suc i.row * M A ≤ A.n * M A = mul-le-mul_right (M A) lt in
      let b : A.n * M A ≤ 4096 * most_pairs = mul-le-mul r (let z : M A ≤ most_pairs = omega arith in z) in
      let c : suc i.row * M A ≡ i.row * M A + M A = suc-mul i.row (M A) in
      let d = h.steps in
      omega arith

  pub sound_visits : Visits W rows task notes trail labs i
  sound_visits = record { searches = h.searches; row = lt; steps = steps_fit; few = h.few; labels = h.labels }

  module _ (notes' trail' : List ℕ) (numbers' : List ℤ) (labs' : List ℕ) (r : Sweep) (v : Visited A notes notes' trail trail' numbers numbers' labs labs' i r) where
    abbrev att : Attempted × Kept
    att = attempt_at A (bits_of notes (M A)) i.steps i.row

    searches_on : Searches W rows task notes' trail'
    searches_on =
        record {
          letters = h.searches.letters;
          measured = h.searches.measured;
          legal = h.searches.legal;
          noted = rw v.notes_long h.searches.noted;
          trailed = rw v.trail_long h.searches.trailed;
        }

    by_row : (s j : ℕ) → s ≤ i.steps + M A → suc i.row ≤ j → s ≤ 4611686018427387904 + j * M A
    by_row s j ls l =
        let a : suc i.row * M A ≤ j * M A = mul-le-mul_right (M A) l in
        let c : suc i.row * M A ≡ i.row * M A + M A = suc-mul i.row (M A) in
        let d = h.steps in
        omega arith

    -- what holds of it where it goes on, and of the lengths in any case
    record Keeps (q : Sweep) : Type 0 where
      sound : q.end ≡ 0 → Sound W rows task notes' trail' labs' q
      rises : q.end ≡ 0 → i.row < q.row
      numbers_long : length numbers' ≡ length numbers
      labels_long : length labs' ≡ length labs

    abbrev On : ℕ → ℕ → ℕ → ℕ → Type 0
    On row m l s = (m ≤ row) × (l ≤ length labs') × (s ≤ i.steps + M A) × (suc i.row ≤ row)

    on-sound : (end row m l s o : ℕ) → On row m l s → Sound W rows task notes' trail' labs' (record { end = end; row = row; matches = m; labels = l; steps = s; opened = o })
    on-sound end row m l s o a = record { searches = searches_on; few = a.0; labels = a.1; steps = by_row s row a.2 a.3 }

    quiet_keeps : (to : Sweep) → Quiet numbers numbers' labs labs' r to → ((to.end ≡ 0 → ⊥) ⊎ On to.row to.matches to.labels to.steps) → Keeps r
    quiet_keeps to q o =
        subst Keeps (sym q.sweep_is) (record {
          sound = λ e. ⊎_elim (λ (f : to.end ≡ 0 → ⊥). absurd (f e)) (λ (a : On to.row to.matches to.labels to.steps). on-sound to.end to.row to.matches to.labels to.steps to.opened a) o;
          rises = λ e. ⊎_elim (λ (f : to.end ≡ 0 → ⊥). absurd (f e)) (λ (a : On to.row to.matches to.labels to.steps). a.3) o;
          numbers_long = ap length q.numbers_is;
          labels_long = ap length q.labels_is;
        })

    module _ (p : List ℕ) (s : ℕ) (ls : s ≤ i.steps + M A) (eb : fits (lent_room (length numbers) (length labs) A.measures) i.matches i.labels (labels (pl A) p) ≡ true) where
      fr : (i.matches * width A + width A ≤ length numbers) × (i.labels + length (labels (pl A) p) ≤ length labs)
      fr = fits-room (length numbers) (length labs) A.measures i.matches i.labels (labels (pl A) p) eb

      written_keeps : (x : Option ℕ) → next_at A i.row p ≡ x
          → Written A p i numbers numbers' labs labs' r (swept_on x A.n (i.matches + 1) (i.labels + length (labels (pl A) p)) s) → Keeps r
      written_keeps x ex q = subst Keeps (sym q.sweep_is) (go x ex)
        where
          nums : length numbers' ≡ length numbers
          nums =
              rw q.numbers_is (length-wrote_at numbers (i.matches * width A) _
              (let f = fr.0 in let l = match-long A.rows A.measures (i.matches + 1) i.row (labels (pl A) p) in omega arith))

          labs-long : length labs' ≡ length labs
          labs-long = rw q.labels_is (length-wrote_at labs i.labels (labels (pl A) p) fr.1)

          go : (x : Option ℕ) → next_at A i.row p ≡ x → Keeps (swept_on x A.n (i.matches + 1) (i.labels + length (labels (pl A) p)) s)
          go none ex = record { sound = λ e. absurd (let z : ◌≡◌ {A = ℕ} 15 0 = e in omega arith); rises = λ e. absurd (let z : ◌≡◌ {A = ℕ} 15 0 = e in omega arith); numbers_long = nums; labels_long = labs-long }
          go (some nx) ex =
              let u : i.row < nx = next-on A.skip i.row (end_of (length (pl A)) p) (labels (pl A) p) nx ex in
              let f = h.few in
              let b = fr.1 in
              let c = labs-long in
              record {
                sound = λ _. on-sound 0 nx (i.matches + 1) (i.labels + length (labels (pl A) p)) s 0 (omega arith, omega arith, ls, u);
                rises = λ _. u;
                numbers_long = nums;
                labels_long = labs-long;
              }

    by-fit : (p : List ℕ) (s : ℕ) → s ≤ i.steps + M A → (b : Bool) → fits (lent_room (length numbers) (length labs) A.measures) i.matches i.labels (labels (pl A) p) ≡ b
        → ToldBy b A p i s numbers numbers' labs labs' r → Keeps r
    by-fit p s ls true eb q = written_keeps p s ls eb (next_at A i.row p) refl q
    by-fit p s ls false eb q = quiet_keeps (swept 13 A.n i.matches i.labels s) q (inl (λ (e : ◌≡◌ {A = ℕ} 13 0). omega arith))

    halt_some : (w : Halt) → halt_answer w ≡ 0 → ⊥
    unfolding halt_answer
    halt_some out_of_steps e = let z : ◌≡◌ {A = ℕ} 16 0 = e in omega arith
    halt_some out_of_rows e = let z : ◌≡◌ {A = ℕ} 23 0 = e in omega arith

    by-att : (o : Attempted) (s : ℕ) → s ≤ i.steps + M A → Told A o i s numbers numbers' labs labs' r → Keeps r
    by-att miss s ls q =
        let f = h.few in
        let l = h.labels in
        let k = ap length q.labels_is in
        quiet_keeps (swept 0 (i.row + 1) i.matches i.labels s) q (inr (omega arith, omega arith, ls, omega arith))
    by-att (halts w p) s ls q = quiet_keeps (swept_at w p i.row i.matches i.labels s) q (inl (halt_some w))
    by-att (hit p) s ls q = by-fit p s ls (fits (lent_room (length numbers) (length labs) A.measures) i.matches i.labels (labels (pl A) p)) refl q

    keeps : Keeps r
    keeps = by-att att.0 att.1.steps v.more v.told

    pub sound_more : r.end ≡ 0 → Sound W rows task notes' trail' labs' r
    sound_more e = keeps.sound e

    pub sound_less : r.end ≡ 0 → A.n - r.row < A.n - i.row
    sound_less e = let u = keeps.rises e in omega arith

    pub sound_numbers : length numbers' ≡ length numbers
    sound_numbers = keeps.numbers_long

    pub sound_labels : length labs' ≡ length labs
    sound_labels = keeps.labels_long

-- ---- nothing beyond the pairs is changed

pub beyond-none : (k : ℕ) (n₁ t₁ : List ℕ) → Beyond k n₁ t₁ n₁ t₁
beyond-none k n₁ t₁ = record { notes_long = refl; trail_long = refl; notes_beyond = λ z l. refl; trail_beyond = λ z l. refl }

pub beyond-more : (A : Asked) (n₁ t₁ notes trail notes' trail' : List ℕ) (numbers numbers' : List ℤ) (labs labs' : List ℕ) (i r : Sweep) → Beyond (M A) n₁ t₁ notes trail
    → Visited A notes notes' trail trail' numbers numbers' labs labs' i r → Beyond (M A) n₁ t₁ notes' trail'
beyond-more A n₁ t₁ notes trail notes' trail' numbers numbers' labs labs' i r h v =
    record {
      notes_long = v.notes_long ∙ h.notes_long;
      trail_long = v.trail_long ∙ h.trail_long;
      notes_beyond = λ z l. v.notes_beyond z l ∙ h.notes_beyond z l;
      trail_beyond = λ z l. v.trail_beyond z l ∙ h.trail_beyond z l;
    }
