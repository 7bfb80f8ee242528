-- One record read: `read_at` by the ways through `record_at`, and what a let-else learns of the
-- record and of the records behind it.
use mathlib.Core.Path.{◌≡◌, refl, sym, ap, ◌∙◌}
use mathlib.Core.Bool.{Bool, true, false}
use mathlib.Core.List.{List, [], ◌∷◌}
use Prim.Native.Nat.{ℕ, ◌+◌, ◌-◌, ◌≤◌, ◌<◌}
use native.Mathlib.Omega.{arith}
use lib.ListN.{length, get_or, get_or-eq_default}
use borrow.Author.Tests.{lt-ltb, le-ltb}
use Rattle.records.specs.declared.Read.{Read}
use Rattle.records.specs.declared.Read.TheVariants.{Record as whole, Cut}
use Rattle.records.specs.declared.Record.{Record as Whole}
use Rattle.rules.specs.Basics.{pick, le16}
use Rattle.rules.specs.Query.{Record, whole_at, record_at, next_at, field, cut}
use Rattle.records.specs.Read.{records_at, record_of, read_at}
use Rattle.records.proofs.Records.{behind_at, whole-yes, whole-short, whole-past, within, records-more, records-none, behind_more, cut-is}

module _ (s : List ℕ) (at : ℕ) where
  pub cut-header : at < length s → length s - at < 4 → Cut ≡ read_at s at
  unfolding read_at
  cut-header h g = simp (whole-short s at (omega arith))

  pub cut-body : 4 ≤ length s - at → length s - (at + 4) < le16 s at → Cut ≡ read_at s at
  unfolding read_at
  cut-body h g = simp (whole-past s at (omega arith) (omega arith))

  pub is_whole : (k l : ℕ) → k ≡ le16 s (at + 2) → l ≡ le16 s at → at < length s → 4 ≤ length s - at → l ≤ length s - (at + 4)
      → whole (record { kind = k; start = at + 4; len = l; next = at + 4 + l }) ≡ read_at s at
  unfolding read_at next_at
  is_whole k l ek el h g b = rw (ek, el) (simp (whole-yes s at (omega arith) (let b' : le16 s at ≤ length s - (at + 4) = rw el at b in omega arith)))

-- what the record read at an index is
pub record Found (s : List ℕ) (at : ℕ) (x : Whole) : Type 0 where
  pub is : whole_at s at ≡ true
  pub that : record_at s at ≡ record_of x.kind x.start x.len
  pub behind : next_at s at ≡ x.next
  pub on : at + 4 ≤ x.next
  pub inside : x.next ≤ length s
  pub body : x.start + x.len ≡ x.next

module _ (s : List ℕ) (at : ℕ) where
  abbrev there : Bool → Read
  there t = pick t (whole (record { kind = le16 s (at + 2); start = at + 4; len = le16 s at; next = next_at s at })) Cut

  by_whole : (t : Bool) → whole_at s at ≡ t → (x : Whole) → whole x ≡ there t → Found s at x
  unfolding record_at next_at
  by_whole true e x q =
      let w = within s at e in
      let e1 : x.kind ≡ le16 s (at + 2) = cc in
      let e2 : x.start ≡ at + 4 = cc in
      let e3 : x.len ≡ le16 s at = cc in
      let e4 : x.next ≡ at + 4 + le16 s at = cc in
      record { is = e; that = cc; behind = sym e4; on = omega arith; inside = omega arith; body = omega arith }
  by_whole false e x q = absurd (cc)

  pub found : (x : Whole) → whole x ≡ read_at s at → Found s at x
  unfolding read_at
  found x q = by_whole (whole_at s at) refl x q

  not-whole : (t : Bool) → whole_at s at ≡ t → Cut ≡ there t → whole_at s at ≡ false
  not-whole false e q = e
  not-whole true e q = absurd (cc)

  pub cut-there : Cut ≡ read_at s at → whole_at s at ≡ false
  unfolding read_at
  cut-there q = not-whole (whole_at s at) refl q

-- ---- the records from an index on, by what was read there

module _ (s : List ℕ) (at : ℕ) where
  pub read_more : (x : Whole) → whole x ≡ read_at s at → records_at s at ≡ record_of x.kind x.start x.len ∷ records_at s x.next
  read_more x e =
      let f = found s at x e in
      records-more s at f.is ∙ ap (λ (y : Record). y ∷ records_at s (next_at s at)) f.that ∙ ap (λ (m : ℕ). record_of x.kind x.start x.len ∷ records_at s m) f.behind

  pub read-cut : Cut ≡ read_at s at → records_at s at ≡ []
  read-cut e = records-none s at (cut-there s at e)

  -- the bytes left fall
  pub fewer : (x : Whole) → at < length s → whole x ≡ read_at s at → length s - x.next < length s - at
  fewer x h e = let f = found s at x e in omega arith

  pub body-inside : (x : Whole) → whole x ≡ read_at s at → x.start + x.len ≤ length s
  body-inside x e = let f = found s at x e in omega arith

-- ---- answer 1: the index is one that the walk over the records comes to

pub record Along (s : List ℕ) (at : ℕ) : Type 0 where
  pub upto : at ≤ length s
  pub same : behind_at s at ≡ behind_at s 0

pub along_none : (s : List ℕ) → Along s 0
along_none s = record { upto = omega arith; same = refl }

pub along_more : (s : List ℕ) (at : ℕ) (x : Whole) → Along s at → whole x ≡ read_at s at → Along s x.next
along_more s at x h e =
    let f = found s at x e in
    record { upto = f.inside; same = ap (behind_at s) (sym f.behind) ∙ sym (behind_more s at f.is) ∙ h.same }

pub along_cut : (s : List ℕ) (at : ℕ) → Along s at → at < length s → Cut ≡ read_at s at → cut s ≡ true
along_cut s at h l e = sym (cut-is s at h.same (cut-there s at e)) ∙ lt-ltb _ _ l

pub along_all : (s : List ℕ) (at : ℕ) → Along s at → length s ≤ at → cut s ≡ false
along_all s at h l = sym (cut-is s at h.same (whole-short s at (omega arith))) ∙ le-ltb _ _ l

-- ---- bytes

-- where there is no byte the default stands
pub no_byte : (s : List ℕ) (at : ℕ) → length s ≤ at → 0 ≡ get_or s at 0
no_byte s at h = sym (get_or-eq_default s 0 h)

pub field-first : (s : List ℕ) (k b l : ℕ) → field s (record_of k b l) 0 ≡ get_or s b 0
unfolding field
field-first s k b l = ap (λ (i : ℕ). get_or s i 0) (let e : b + 0 ≡ b = omega arith in e)
