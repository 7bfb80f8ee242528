-- No rule. Words that every other file uses: choosing by a test, tests over lists, little-endian
-- numbers, two's complement, and a list written into a buffer.
use Rattle.std.specs.Prelude.{◌≡◌, Bool, true, false, ◌&&◌, ◌||◌, List, [], ◌∷◌, ◌++◌, ℕ, zero, suc, ◌+◌, ◌*◌, ◌-◌, ltb, leb, eqb, ℤ, pos, negsuc, length, get_or, take, drop}
use Prim.Native.Char.{code}
use Prim.Native.String.{String, [] as []ˢ, ◌∷◌ as ◌∷ˢ◌}

-- the first where the test is true, else the second
abbrev pub pick : {A : Type 0} → Bool → A → A → A
pick true a b = a
pick false a b = b

-- lo ≤ x ≤ hi
unfoldable pub in_range : ℕ → ℕ → ℕ → Bool
in_range lo hi x = leb lo x && leb x hi

-- letters are the bytes A (65) to Z (90)
unfoldable pub is_letter : ℕ → Bool
unfolding in_range
is_letter b = in_range 65 90 b

-- the test is true of every element
unfoldable pub every : {A : Type 0} → (A → Bool) → List A → Bool
every f [] = true
every f (x ∷ xs) = f x && every f xs

-- the test is true of every number below n
unfoldable pub every_below : ℕ → (ℕ → Bool) → Bool
every_below zero f = true
every_below (suc n) f = every_below n f && f n

-- the second list begins with the first
abbrev pub Begins : {A : Type 0} → List A → List A → Type 0
Begins {A} xs ys = (zs : List A) × (ys ≡ xs ++ zs)

-- f 0, f 1, .. f (n - 1)
unfoldable pub tabulate : {A : Type 0} → ℕ → (ℕ → A) → List A
tabulate zero f = []
tabulate (suc n) f = tabulate n f ++ (f n ∷ [])

-- the number stands in the list
unfoldable pub has : ℕ → List ℕ → Bool
has x [] = false
has x (y ∷ ys) = eqb y x || has x ys

-- some number stands in the list twice
unfoldable pub repeats : List ℕ → Bool
unfolding has
repeats [] = false
repeats (x ∷ xs) = has x xs || repeats xs

-- x in front of a list where the test is true
abbrev pub keep : {A : Type 0} → Bool → A → List A → List A
keep true x xs = x ∷ xs
keep false x xs = xs

-- the number in two bytes, and in four, from an index on; the lowest byte comes first
unfoldable pub le16 : List ℕ → ℕ → ℕ
le16 s at = get_or s at 0 + get_or s (at + 1) 0 * 256

unfoldable pub le32 : List ℕ → ℕ → ℕ
le32 s at = get_or s at 0 + get_or s (at + 1) 0 * 256 + get_or s (at + 2) 0 * 65536 + get_or s (at + 3) 0 * 16777216

-- a byte, and a word of 32 bits, as a signed number in two's complement
unfoldable pub signed8 : ℕ → ℤ
signed8 b = pick (ltb b 128) (pos b) (negsuc (255 - b))

unfoldable pub signed32 : ℕ → ℤ
signed32 w = pick (ltb w 2147483648) (pos w) (negsuc (4294967295 - w))

-- the bytes of a text of ASCII characters
unfoldable pub bytes : String → List ℕ
bytes []ˢ = []
bytes (c ∷ˢ s) = code c ∷ bytes s

-- a buffer with vs from an index on, and all else as it was
unfoldable pub wrote : {A : Type 0} → List A → ℕ → List A → List A
wrote l at vs = take at l ++ (vs ++ drop (at + length vs) l)
