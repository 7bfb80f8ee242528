-- Zeros written; and the whole search, from the buffers as they were lent to what the report says
-- of them.
use mathlib.Core.Path.{◌≡◌, refl, sym, ap, ◌∙◌}
use mathlib.Core.List.{List, [], ◌∷◌, ◌++◌}
use mathlib.Core.Bool.{Bool, false}
use Prim.Native.Nat.{ℕ, zero, suc, ◌+◌, ◌-◌, ◌*◌, ◌/◌, ◌%◌, ◌≤◌, ◌<◌}
use native.Mathlib.Decide.{dec_lt}
use native.Mathlib.Omega.{arith}
use lib.IntN.{ℤ}
use lib.ListN.{length, get_or, drop, replicate, length-append, length-replicate, get_or-replicate, get_or-eq_default}
use lib.Seq.{ext_get_or}
use Rattle.rules.specs.Basics.{wrote}
use Rattle.rules.specs.Report.{bytes_for, bit_of, bit_at, zeros}
use Rattle.laws.proofs.Appended.{length-wrote_at}
use Rattle.laws.proofs.Lists.{front_wrote, beyond-wrote}
use Rattle.laws.proofs.Notes.{bits_of-at, bits_from-length}
use Rattle.rules.specs.Working.{bits_of}
use Rattle.laws.proofs.NotesWritten.{wrote-over, notes_written}
use Rattle.pairs.specs.Layout.{N, most_pairs}
use Rattle.matches.specs.declared.Sweep.{Sweep}
use Rattle.matches.specs.declared.Task.{Task}
use Rattle.matches.specs.Found.{Searches}
use Rattle.matches.specs.Asked.{Asked, search_of, asked_of}
use Rattle.sweep.specs.Searched.{Sound, Came, Searched, Measures, WentOn, gapped, Answered}
use Rattle.sweep.proofs.Sofar.{so_first}

-- ---- zeros

pub zeros-long : (k : ℕ) → length (zeros k) ≡ k
unfolding zeros
zeros-long k = length-replicate k 0

-- the first numbers of a list, filled with zeros
pub zeros_put : (s zs : List ℕ) (n k : ℕ) → n ≤ length s → zs ≡ replicate n 0 → n ≡ k → zs ++ drop n s ≡ wrote s 0 (zeros k)
unfolding wrote zeros
zeros_put s zs n k h e q = let z : 0 + n ≡ n = omega arith in rw (e, ← q, length-replicate {A = ℕ} n 0, z) refl

-- ---- the search from a start on

drop-same : (k : ℕ) (a b : List ℕ) → length a ≡ length b → ((i : ℕ) → k ≤ i → get_or a i 0 ≡ get_or b i 0) → drop k a ≡ drop k b
drop-same zero a b e f = ext_get_or 0 a b e (λ i l. f i (omega arith))
drop-same (suc k) [] [] e f = refl
drop-same (suc k) [] (y ∷ b) e f = absurd (let z : ◌≡◌ {A = ℕ} 0 (suc (length b)) = e in omega arith)
drop-same (suc k) (x ∷ a) [] e f = absurd (let z : ◌≡◌ {A = ℕ} (suc (length a)) 0 = e in omega arith)
drop-same (suc k) (x ∷ a) (y ∷ b) e f = drop-same k a b (let z : ◌≡◌ {A = ℕ} (suc (length a)) (suc (length b)) = e in omega arith) (λ i l. f (suc i) (omega arith))

module _ (W : List ℕ) (rows : List ℤ) (task : Task) (n₁ t₁ : List ℕ) (numbers₁ : List ℤ) (labs₁ : List ℕ) (i : Sweep) (m : Measures W task n₁ t₁)
    (notes trail : List ℕ) (numbers : List ℤ) (labs : List ℕ) (r : Sweep) (d : Searched W rows task n₁ t₁ numbers₁ labs₁ i notes trail numbers labs r) where
  pub words_fit : task.pairs ≤ length trail
  words_fit = rw d.beyond.trail_long m.trailed

  pub went-waits : r.end ≡ 23 → WentOn W rows task n₁ t₁ numbers₁ labs₁ i notes trail numbers labs r
  went-waits e =
      let l = m.more in
      record {
        notes_long = d.beyond.notes_long;
        notes_beyond = d.beyond.notes_beyond;
        trailed = record {
          zeroed = λ f. absurd (f e);
          trail_long = d.beyond.trail_long;
          trail_beyond = drop-same task.pairs trail t₁ d.beyond.trail_long (λ k h. d.beyond.trail_beyond k (omega arith));
        };
        came = d.came;
      }

  pub went_on : (trail' : List ℕ) → trail' ≡ wrote trail 0 (zeros task.pairs) → WentOn W rows task n₁ t₁ numbers₁ labs₁ i notes trail' numbers labs r
  went_on trail' et =
      let e : trail' ≡ wrote t₁ 0 (zeros task.pairs) = et ∙ wrote-over 0 trail t₁ (zeros task.pairs) d.beyond.trail_long (rw (zeros-long task.pairs) m.trailed) beyond in
      let k : length trail' ≡ length t₁ = rw e (length-wrote_at t₁ 0 (zeros task.pairs) (let a = zeros-long task.pairs in let b = m.trailed in omega arith)) in
      record {
        notes_long = d.beyond.notes_long;
        notes_beyond = d.beyond.notes_beyond;
        trailed = record {
          zeroed = λ _. e;
          trail_long = k;
          trail_beyond = drop-same task.pairs trail' t₁ k (λ j h. ap (λ (s : List ℕ). get_or s j 0) e ∙ beyond-wrote t₁ (zeros task.pairs) j 0 (rw (zeros-long task.pairs) h));
        };
        came = d.came;
      }
    where
      beyond : (k : ℕ) → length (zeros task.pairs) ≤ k → get_or trail k 0 ≡ get_or t₁ k 0
      beyond k h = let l = m.more in let z = zeros-long task.pairs in d.beyond.trail_beyond k (omega arith)

-- ---- the search

bit-zero : (k : ℕ) → bit_of k 0 ≡ 0
unfolding bit_of
bit-zero zero = refl
bit-zero (suc k) = bit-zero k

bits_zero : (notes : List ℕ) (z : ℕ) → get_or notes (z / 8) 0 ≡ 0 → bit_at notes z ≡ false
unfolding bit_at
bits_zero notes z e = rw (e, bit-zero (z % 8))

bits_same : (a b : List ℕ) (z : ℕ) → get_or a (z / 8) 0 ≡ get_or b (z / 8) 0 → bit_at a z ≡ bit_at b z
unfolding bit_at
bits_same a b z e = rw e

-- the failed pairs, with those of rows that are not there
gap-long : (pairs : ℕ) (F : List Bool) → length F ≤ pairs → length (gapped pairs F) ≡ pairs
gap-long pairs F h = length-append F (replicate (pairs - length F) false) ∙ rw (length-replicate (pairs - length F) false) (omega arith)

none-at : (k x : ℕ) → get_or (replicate k false) x false ≡ false
none-at zero x = refl
none-at (suc k) zero = refl
none-at (suc k) (suc x) = none-at k x

gap_at : (F : List Bool) (k x : ℕ) → get_or (F ++ replicate k false) x false ≡ get_or F x false
gap_at [] k x = none-at k x
gap_at (b ∷ F) k zero = refl
gap_at (b ∷ F) k (suc x) = gap_at F k x

module _ (W : List ℕ) (rows : List ℤ) (task : Task) (n₀ t₀ : List ℕ) (h : Searches W rows task n₀ t₀) (m : Measures W task n₀ t₀) where
  abbrev A : Asked
  A = asked_of W rows task

  abbrev M : ℕ
  M = N A.layout A.n

  abbrev B : ℕ
  B = bytes_for task.pairs

  pub pairs-fit : task.pairs + 7 < most_pairs + 7
  pairs-fit = let a = m.small in omega arith

  pub bytes_fit : (task.pairs + 7) / 8 ≤ length n₀
  bytes_fit = let b = m.noted in omega arith

  module _ (n₁ : List ℕ) (e₁ : n₁ ≡ wrote n₀ 0 (zeros ((task.pairs + 7) / 8))) where
    e₁' : n₁ ≡ wrote n₀ 0 (zeros B)
    unfolding bytes_for
    e₁' = e₁

    room₀ : B ≤ length n₀
    unfolding bytes_for
    room₀ = bytes_fit

    long₁ : length n₁ ≡ length n₀
    long₁ = rw e₁' (length-wrote_at n₀ 0 (zeros B) (let a = zeros-long B in let b = room₀ in omega arith))

    zero_bit : (z : ℕ) → z / 8 < B → bit_at n₁ z ≡ false
    unfolding zeros
    zero_bit z l =
        bits_zero n₁ z (ap (λ (s : List ℕ). get_or s (z / 8) 0) e₁' ∙ front_wrote n₀ (zeros B) (z / 8) 0 (rw (zeros-long B) l) ∙ get_or-replicate B (z / 8) 0 0 l)

    same_bit : (z : ℕ) → B ≤ z / 8 → bit_at n₁ z ≡ bit_at n₀ z
    same_bit z l = bits_same n₁ n₀ z (ap (λ (s : List ℕ). get_or s (z / 8) 0) e₁' ∙ beyond-wrote n₀ (zeros B) (z / 8) 0 (rw (zeros-long B) l))

    none-failed : bits_of n₁ M ≡ replicate M false
    unfolding bytes_for
    none-failed =
        ext_get_or false (bits_of n₁ M) (replicate M false) (bits_from-length n₁ M 0 ∙ sym (length-replicate M false))
        (λ k l. let g : k < M = rw (bits_from-length n₁ M 0) at l in let b = m.more in bits_of-at n₁ M k g ∙ zero_bit k (omega arith) ∙ sym (get_or-replicate M k false false g))

    pub cleared-sound : (labs : List ℕ) → Sound W rows task n₁ t₀ labs (record { end = 0; row = 0; matches = 0; labels = 0; steps = 0; opened = 0 })
    cleared-sound labs =
        record {
          searches = record { letters = h.letters; measured = h.measured; legal = h.legal; noted = rw long₁ h.noted; trailed = h.trailed };
          few = omega arith;
          labels = omega arith;
          steps = omega arith;
        }

    pub cleared-measures : Measures W task n₁ t₀
    cleared-measures = record { more = m.more; small = m.small; noted = rw long₁ m.noted; trailed = m.trailed }

    pub search_done : (num₀ : List ℤ) (lab₀ notes trail : List ℕ) (numbers : List ℤ) (labs : List ℕ) (r : Sweep)
        → ((k : ℕ) → get_or notes k 0 < 256) → ((k : ℕ) → get_or n₀ k 0 < 256)
        → WentOn W rows task n₁ t₀ num₀ lab₀ (record { end = 0; row = 0; matches = 0; labels = 0; steps = 0; opened = 0 }) notes trail numbers labs r
        → Answered W rows task n₀ t₀ num₀ lab₀ notes trail numbers labs r
    unfolding bytes_for
    search_done num₀ lab₀ notes trail numbers labs r bs bs₀ d =
        record {
          reported = came.reported;
          notes_is = notes_written n₀ notes G (d.notes_long ∙ long₁) (rw G-long room₀) bs bs₀ bits
              (λ x l. d.notes_beyond x (let g = G-long in let b = m.more in omega arith) ∙ same_bit x (let g = G-long in omega arith));
          trailed = d.trailed;
        }
      where
        came : Came A num₀ lab₀ (search_of A (length num₀) (length lab₀)) notes numbers labs r
        came = d.came num₀ lab₀ (search_of A (length num₀) (length lab₀)) (so_first W rows task n₁ num₀ lab₀ none-failed)

        F : List Bool
        F = (search_of A (length num₀) (length lab₀)).state.failed

        G : List Bool
        G = gapped task.pairs F

        F-long : length F ≡ M
        F-long = sym (ap length came.kept) ∙ bits_from-length notes M 0

        G-long : length G ≡ task.pairs
        G-long = gap-long task.pairs F (rw F-long m.more)

        bits : (x : ℕ) → x < 8 * bytes_for (length G) → bit_at notes x ≡ get_or G x false
        bits x l = elim (dec_lt x M) [
          | yes g ↦ sym (bits_of-at notes M x g) ∙ ap (λ (K : List Bool). get_or K x false) came.kept ∙ sym (gap_at F (task.pairs - length F) x)
          | no g ↦
              d.notes_beyond x (omega arith) ∙ zero_bit x (let k = G-long in omega arith)
              ∙ sym (gap_at F (task.pairs - length F) x ∙ get_or-eq_default F false (let k = F-long in let g : length F ≤ x = omega arith in g))
        ]
