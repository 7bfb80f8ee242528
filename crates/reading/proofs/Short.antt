-- The length of the pattern's text: in a query with no answer 1 to 3 the first record has 6 bytes,
-- and behind it stands the second, the text. So its length is in bytes 6 and 7 (`text-length`), and
-- a room for the tree is large enough by it.
use mathlib.Core.Path.{◌≡◌, refl, ap, sym, ◌∙◌}
use mathlib.Core.Bool.{true, false}
use mathlib.Core.List.{List}
use Prim.Native.Nat.{ℕ, ◌+◌, ◌*◌, ◌≤◌, ◌<◌}
use native.Mathlib.Omega.{arith}
use lib.Dec.{leb}
use lib.ListN.{length, get_or, length-take, length-drop}
use borrow.Author.Tests.{leb-true, le-leb, lt-leb}
use Rattle.rules.specs.Basics.{le16}
use Rattle.rules.specs.Query.{whole_at, next_at, columns_of, text_of}
use Rattle.laws.proofs.Choice.{decided, and_right}
use Rattle.records.specs.Read.{read_at}
use Rattle.query.specs.Order.{first_answer}
use Rattle.query.specs.declared.Stage.TheVariants.{Shape}
use Rattle.records.specs.declared.Read.TheVariants.{Record as whole, Cut}
use Rattle.records.specs.declared.Record.{Record as Whole}
use Rattle.query.proofs.Going.{at-start, this_fits, shape_next, shape_says}
use Rattle.decode.proofs.Together.{first-whole, second-whole, head_is}
use Rattle.decode.specs.Steps.{HeadOf}
use Rattle.reading.specs.Reading.{Nodes, text_length, short_text}

-- the record that the bytes at an index say
read : List ℕ → ℕ → Whole
read s at = record { kind = le16 s (at + 2); start = at + 4; len = le16 s at; next = at + 4 + le16 s at }

-- what is not cut is read whole
whole-at : (s : List ℕ) (at : ℕ) → (Cut ≡ read_at s at → ⊥) → whole (read s at) ≡ read_at s at
unfolding read read_at next_at
whole-at s at f = decided (whole_at s at) (λ t. simp t) (λ t. absurd (f (simp t)))

module _ (s : List ℕ) (clean : first_answer s ≡ 0) where
  first : whole (read s 0) ≡ read_at s 0
  first = whole-at s 0 (first-whole s clean)

  -- the first record has 6 bytes
  six : (read s 0).next ≡ 6
  unfolding read
  six =
      let k : le16 s 2 ≡ 1 = (shape_next s 0 (read s 0) first (at-start s clean)).0 in
      let l = (shape_says s (columns_of s) (le16 s 2) 4 (le16 s 0) (this_fits s Shape 0 (at-start s clean) (read s 0) first) k).0 in
      omega arith

  second : whole (read s 6) ≡ read_at s (read s 0).next
  second =
      let e = ap (read_at s) (sym six) in
      whole-at s 6 (λ n. second-whole s clean (read s 0) first (n ∙ e)) ∙ e

  head : HeadOf s (record { columns = get_or s 4 0; start = 10; len = le16 s 6; next = 10 + le16 s 6 })
  unfolding read
  head = head_is s clean (read s 0) first (read s 6) second (get_or s 4 0) refl

  pub text-length : length (text_of s) ≡ text_length s
  unfolding text_length
  text-length = let i = head.inside in ap length (sym head.text) ∙ simp (length-take, length-drop) (omega arith)

  text-at_most : length (text_of s) ≤ 256
  unfolding text_length
  text-at_most = omega (arith, text-length, head.short)

-- ---- room for the tree of every query, and of one whose text is short

pub all_nodes : (s : List ℕ) → Nodes s 4096
all_nodes s = record { enough = λ e. omega (arith, text-at_most s e) }

pub short_nodes : (s : List ℕ) → short_text s ≡ true → Nodes s 256
unfolding short_text
short_nodes s e =
    let h : text_length s ≤ 16 = leb-true (text_length s) 16 (and_right (leb 8 (length s)) (leb (text_length s) 16) e) in
    record { enough = λ z. omega (arith, text-length s z) }

pub ruleset nodes = (all_nodes, short_nodes)

-- ---- the ways through `text_is_short`

module _ (s : List ℕ) where
  pub no_length : length s < 8 → false ≡ short_text s
  unfolding short_text
  no_length h = simp (lt-leb 8 (length s) h)

  pub long_text : 8 ≤ length s → (get_or s 7 0 ≡ 0 → ⊥) → false ≡ short_text s
  unfolding short_text text_length le16
  long_text h d = let z : 16 < get_or s 6 0 + get_or s 7 0 * 256 = omega arith in simp (le-leb 8 (length s) h, lt-leb _ _ z)

  pub by-low_byte : 8 ≤ length s → get_or s 7 0 ≡ 0 → leb (get_or s 6 0) 16 ≡ short_text s
  unfolding short_text text_length le16
  by-low_byte h e = let z : get_or s 6 0 + get_or s 7 0 * 256 ≡ get_or s 6 0 = omega arith in simp (le-leb 8 (length s) h, z)
