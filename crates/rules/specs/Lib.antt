-- The definitions: what a reader must believe. docs/RULES.md has the same rules as sentences, and
-- docs/ARCHITECTURE.md says which file holds which of them. They are meant to be read from the
-- first module to the last. Each file's head says first what it is: rules, with their section of
-- the papers; demands; worked cases; or no rule. Whoever reads the rules alone stops before those.
--
-- How to read them.
--   f : A → B → C          f takes an A and a B and gives a C; the lines below say which, by cases
--   f x y, λ x. e          f of x and y; the function that takes x to e
--   data, record           a data type lists the ways to make a value, a record its fields;
--                          r.field reads one, record { field = e; } makes a value
--   (x : A) → B            for every x of A
--   (x : A) × B            some x of A with B; p.0 and p.1 (and .2 ..) are the parts of p
--   A ⊎ B, A → ⊥, A ↔ B    A or B; not A; A exactly if B
--   a ≡ b                  a equals b
--   [], x ∷ xs, xs ++ ys   the list of nothing; x in front of xs; one list behind the other
--   getD xs i d            item i of xs, counted from 0, or d where xs has none
--   set xs i x             xs with x as its item i; take, drop, length are as everywhere
--   ℕ, suc n, n - m        numbers from 0 on; n and one; 0 where m is larger than n
--   ℤ, pos n, negsuc n     whole numbers: n, and -n - 1
--   ltb, leb, eqb          the tests <, ≤ and = on numbers, which give true or false
--   none, some a           no value, or the value a (Option)
--   pick t a b             a where the test t is true, else b
--   module _ (x : A) where what stands indented below is over any x of A and does not repeat it;
--                          elsewhere x is its first argument
-- A recursion that needs a bound on its depth takes that bound as an argument, and a law named
-- beside it says that it is enough. `use` says where names come from. `pub`, `abbrev`, `unfoldable`,
-- `unfolding` and what stands in { } behind a name tell the checker what it may look into or find by
-- itself; they mean nothing.
--
-- words that all of them use
pub mod Basics
-- the rules, in the papers' order
pub mod Rows
pub mod Query
pub mod Language
pub mod Places
pub mod Readings
pub mod Walk
pub mod Search
pub mod Preferment
pub mod Report
pub mod Answers
pub mod Lots
pub mod Program
-- the demands
pub mod Entries
pub mod Demands
pub mod LotDemands
-- worked cases, run on the rules
pub mod Bench
pub mod Samples
-- no rules: a tree computed from its text, where clause 6.2.7 differs, and words for proofs
pub mod Reader
pub mod Clause627
pub mod Working
