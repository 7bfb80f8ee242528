-- The program's input by its lengths alone: document 01's last paragraph of "Report", up to the
-- answers, and what each case of the answer prints.
use Rattle.std.specs.Prelude.{List, ℕ, ◌+◌, ◌-◌, ltb, length, take, drop}
use Rattle.rules.specs.Basics.{pick, le16}
use Rattle.rules.specs.Program.{refused_text, too_large, printed_for}
use Rattle.input.specs.declared.Input.{Input}
use Rattle.input.specs.declared.Input.TheVariants.{Refused, TooLarge, Go}

-- In this order: a missing or cut length is a 1; a length above 4,096 is too large; fewer query
-- bytes than the length are a 1; more than 32,768 row bytes are too large.
unfoldable pub input_of : List ℕ → Input
unfolding le16
input_of s =
    pick (ltb (length s) 2) (Refused 1)
    (pick (ltb 4096 (le16 s 0)) TooLarge
    (pick (ltb (length s) (2 + le16 s 0)) (Refused 1)
    (pick (ltb 32768 (length s - (2 + le16 s 0))) TooLarge
    (Go (2 + le16 s 0)))))

-- The first so many bytes of an input decide what is printed of it (proofs/Inputs,
-- `prefix_decides`): a length, the longest query, the most row bytes, and one more.
abbrev pub most_read : ℕ
most_read = 36867

-- what the program prints in each case; the law `printed-input` (proofs/Inputs) says that this of
-- `input_of` is `printed`
unfoldable pub printed_input : Input → List ℕ → List ℕ
unfolding refused_text too_large printed_for
printed_input (Refused a) s = refused_text a
printed_input TooLarge s = too_large
printed_input (Go rows) s = printed_for (take (rows - 2) (drop 2 s)) (drop rows s)
