-- What is handed on is what `run` wrote, of the bytes that were read: one law for each way the
-- program ends, and one that the bytes read decide what is printed of all that the reader had.
use Rattle.std.proofs.Common.{◌≡◌, ℕ, ◌≤◌, ◌<◌, List, [], ◌++◌, length, take, refl, ap, ◌∙◌, arith, take_all, append-nil, length-take, zero-add, le_refl}
use native.Mathlib.Decide.{dec_lt}
use Rattle.std.proofs.Math.Seq.{take-append_seam}
use Rattle.std.specs.Prelude.{Option, Some, None, IsNone, IfSome, ◌↔◌}
use Rattle.std.specs.Io.KnownBytes.{Appends, Consumes, IsAtEnd}
use Rattle.rules.specs.Basics.{wrote}
use Rattle.rules.specs.Program.{printed}
use Rattle.input.specs.Input.{most_read}
use Rattle.run.specs.Run.{ProgramRan}
use Rattle.streams.specs.declared.Ended.{Ended}
use Rattle.streams.specs.declared.Ended.TheVariants.{Entire, Cut, Unread}
use Rattle.streams.specs.Streams.{Read, Prints, HandsOn}

-- the text of the input s is the first `end` bytes of m
module _ (s l m : List ℕ) (end : ℕ) (r : ProgramRan s l m end) where
  count : end ≡ length (printed s)
  count = r.text.ends ∙ zero-add (length (printed s))

  pub text-is : take end m ≡ printed s
  unfolding wrote
  text-is = rw (count, r.text.holds) (take-append_seam (printed s) _)

  whole-input : Read s (length s)
  whole-input = record { long = refl; enough = r.enough }

  -- the calls of `write` took so many bytes of the text
  module _ {E : Type 0} (error : Option E) (taken : ℕ) (told : IsNone error ↔ (taken ≡ length (take end m))) (w : taken ≤ length (take end m)) where
    pub prints-cut : (reason : E) → error ≡ Some reason → Prints s (Cut (length s) taken)
    prints-cut reason e =
        let long : length (take end m) ≡ length (printed s) = ap length text-is in
        let short : taken ≡ length (take end m) → ⊥ = λ h. let n = rw e at told.1 h in absurd (cc n) in
        (whole-input, omega arith)

    all : error ≡ None → taken ≡ length (printed s)
    all e = told.0 (rw e refl) ∙ ap length text-is

    pub prints-entire : error ≡ None → Prints s (Entire (length s) taken)
    prints-entire e = (whole-input, all e)

    module _ (old new : Option (List ℕ)) (bytes : Appends old new (take taken (take end m))) where
      pub hands-cut : Appends old new (take taken (printed s))
      hands-cut = rw text-is at bytes

      pub hands-entire : error ≡ None → Appends old new (printed s)
      hands-entire e = rw (all e, take_all (length (printed s)) (printed s) (le_refl _)) at hands-cut

-- ---- the bytes read decide

-- t is the whole of an input, of which s was read
handed_on : (old new : Option (List ℕ)) (s t : List ℕ) (r : Ended) → Prints s r → take most_read t ≡ s → HandsOn old new s r → HandsOn old new t r
handed_on old new s t (Entire read written) p e h = rw (p.0.enough t e) h
handed_on old new s t (Cut read written) p e h = rw (p.0.enough t e) h
handed_on old new s t Unread p e h = absurd p

-- what was read of a reader's bytes, into a buffer of k bytes, is their front, and all of them
-- where the buffer is not full
front : (k : ℕ) (xs ys buf : List ℕ) (n : ℕ) → length buf ≡ k → n ≤ length buf → xs ≡ take n buf ++ ys → (n < length buf → ys ≡ []) → take k xs ≡ take n buf
front k xs ys buf n long within e end =
    elim (dec_lt n (length buf)) [
      | yes h ↦ rw (e, end h, append-nil (take n buf)) (take_all k (take n buf) (simp length-take (omega arith)))
      | no h ↦
          let all : k ≡ length (take n buf) = simp length-take (omega arith) in
          rw e (ap (λ (i : ℕ). take i (take n buf ++ ys)) all ∙ take-append_seam (take n buf) ys)
    ]

pub handed_all : (a b old new : Option (List ℕ)) (buf : List ℕ) (n : ℕ) (r : Ended) → length buf ≡ most_read → n ≤ length buf
    → Consumes a b (take n buf) → (n < length buf → IsAtEnd b) → Prints (take n buf) r → HandsOn old new (take n buf) r
    → IfSome a (λ xs. HandsOn old new xs r)
handed_all None b old new buf n r long within read end p h = tt
handed_all (Some xs) None old new buf n r long within read end p h = absurd read
handed_all (Some xs) (Some ys) old new buf n r long within read end p h = handed_on old new (take n buf) xs r p (front most_read xs ys buf n long within read end) h
