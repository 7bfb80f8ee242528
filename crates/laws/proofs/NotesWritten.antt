-- Notes by their bytes: numbers of 8 bits with the same bits are the same, so notes whose bits say
-- which pairs have failed, and which are unchanged beyond them, are those of the report. And
-- buffers that differ only where they are written over.
use mathlib.Core.Path.{◌≡◌, refl, sym, ◌∙◌}
use mathlib.Core.Bool.{Bool, true, false}
use mathlib.Core.List.{List}
use Prim.Native.Nat.{ℕ, zero, suc, ◌+◌, ◌*◌, ◌/◌, ◌%◌, ◌^◌, ◌≤◌, ◌<◌}
use native.Mathlib.Decide.{dec_lt}
use native.Mathlib.Omega.{arith}
use lib.Dec.{eqb}
use lib.ListN.{length, get_or}
use lib.Seq.{ext_get_or}
use borrow.Author.Tests.{eqb-true, eqb-false}
use Rattle.rules.specs.Basics.{wrote}
use Rattle.rules.specs.Report.{bytes_for, bit_of, bit_at, weigh, notes_of}
use Rattle.laws.proofs.Lists.{get_d_tabulate, length-wrote, front_wrote, beyond-wrote}
use Rattle.laws.proofs.Noted.{weigh-small, length-notes, noted}
use Rattle.laws.proofs.Notes.{bit_of-small}

-- the same bits, the same number
same_bits : (k a b : ℕ) → a < 2 ^ k → b < 2 ^ k → ((j : ℕ) → j < k → bit_of j a ≡ bit_of j b) → a ≡ b
unfolding bit_of
same_bits zero a b h g e = omega arith
same_bits (suc k) a b h g e =
    let r : a / 2 ≡ b / 2 = same_bits k (a / 2) (b / 2) (omega arith) (omega arith) (λ j l. e (suc j) (omega arith)) in
    let z : a % 2 ≡ b % 2 = e 0 (omega arith) in
    omega arith

digit-same : (x y : ℕ) → x < 2 → y < 2 → eqb x 1 ≡ eqb y 1 → x ≡ y
digit-same x y h g e = go (eqb y 1) refl
  where
    go : (t : Bool) → eqb y 1 ≡ t → x ≡ y
    go true d = let a = eqb-true x 1 (e ∙ d) in let b = eqb-true y 1 d in omega arith
    go false d = let a = eqb-false x 1 (e ∙ d) in let b = eqb-false y 1 d in omega arith

-- the same bits in byte k, the same byte
same_byte : (s t : List ℕ) (k : ℕ) → get_or s k 0 < 256 → get_or t k 0 < 256 → ((j : ℕ) → j < 8 → bit_at s (8 * k + j) ≡ bit_at t (8 * k + j)) → get_or s k 0 ≡ get_or t k 0
unfolding bit_at
same_byte s t k h g e = same_bits 8 (get_or s k 0) (get_or t k 0) h g (λ j l. at j l)
  where
    at : (j : ℕ) → j < 8 → bit_of j (get_or s k 0) ≡ bit_of j (get_or t k 0)
    at j l =
        let d : (8 * k + j) / 8 ≡ k = omega arith in
        let m : (8 * k + j) % 8 ≡ j = omega arith in
        digit-same (bit_of j (get_or s k 0)) (bit_of j (get_or t k 0)) (bit_of-small j (get_or s k 0)) (bit_of-small j (get_or t k 0)) (rw (d, m) at (e j l))

-- buffers that are equal from the end of what is written on
pub wrote-over : {A : Type 0} (d : A) (a b vs : List A) → length a ≡ length b → length vs ≤ length b → ((k : ℕ) → length vs ≤ k → get_or a k d ≡ get_or b k d) → wrote a 0 vs ≡ wrote b 0 vs
wrote-over d a b vs e l s =
    ext_get_or d (wrote a 0 vs) (wrote b 0 vs) (length-wrote a vs (rw e l) ∙ e ∙ sym (length-wrote b vs l))
    (λ k h. elim (dec_lt k (length vs)) [
      | yes g ↦ front_wrote a vs k d g ∙ sym (front_wrote b vs k d g)
      | no g ↦ beyond-wrote a vs k d (omega arith) ∙ s k (omega arith) ∙ sym (beyond-wrote b vs k d (omega arith))
    ])

module _ (n₀ notes : List ℕ) (F : List Bool) (e : length notes ≡ length n₀) (room : bytes_for (length F) ≤ length n₀)
    (bytes : (k : ℕ) → get_or notes k 0 < 256) (bytes₀ : (k : ℕ) → get_or n₀ k 0 < 256)
    (bits : (x : ℕ) → x < 8 * bytes_for (length F) → bit_at notes x ≡ get_or F x false)
    (beyond : (x : ℕ) → 8 * bytes_for (length F) ≤ x → bit_at notes x ≡ bit_at n₀ x) where
  byte_small : (k : ℕ) → k < bytes_for (length F) → get_or (notes_of F) k 0 < 256
  unfolding notes_of
  byte_small k h = rw (get_d_tabulate (bytes_for (length F)) (λ b. weigh 8 (λ j. get_or F (8 * b + j) false)) k 0 h) (weigh-small (λ j. get_or F (8 * k + j) false) 8)

  -- the notes are those of the failed pairs F, and beyond as they were
  pub notes_written : notes ≡ wrote n₀ 0 (notes_of F)
  notes_written =
      ext_get_or 0 notes (wrote n₀ 0 (notes_of F)) (e ∙ sym (length-wrote n₀ (notes_of F) (rw (length-notes F) room)))
      (λ k h. elim (dec_lt k (bytes_for (length F))) [
        | yes l ↦ same_byte notes (notes_of F) k (bytes k) (byte_small k l) (λ j m. bits (8 * k + j) (omega arith) ∙ sym (noted F (8 * k + j) (omega arith)))
            ∙ sym (front_wrote n₀ (notes_of F) k 0 (rw (length-notes F) l))
        | no l ↦ same_byte notes n₀ k (bytes k) (bytes₀ k) (λ j m. beyond (8 * k + j) (omega arith))
            ∙ sym (beyond-wrote n₀ (notes_of F) k 0 (rw (length-notes F) (omega arith)))
      ])
