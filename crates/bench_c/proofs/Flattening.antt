-- What crates/prepared and crates/search promise, told by flat numbers.
use mathlib.Core.Path.{◌≡◌, refl}
use mathlib.Core.List.{List}
use mathlib.Core.Option.{some}
use Prim.Native.Nat.{ℕ}
use native.Mathlib.Omega.{arith}
use lib.IntN.{ℤ}
use Rattle.std.specs.Prelude.{Ok, Err, Some, None}
use Rattle.refusals.specs.Refusals.{answer_of, offset_of}
use Rattle.refusals.specs.declared.Refusal.{Refusal}
use Rattle.refusals.proofs.Numbers.{some_answer, few_answers}
use Rattle.rules.specs.Answers.{Memory}
use Rattle.outcome.specs.Results.{lent, memory, refusal}
use Rattle.prepared.specs.Ready as R
use Rattle.prepared.specs.declared.Prepared as P
use Rattle.search.specs.Promise.{Promised}
use Rattle.search.specs.Runs as S
use Rattle.search.proofs.Answering.{query_refused}
use Rattle.bench_c.specs.Flat.{refused_prepared, numbers_of, Given, PreparedAs, Runs}
use Rattle.bench_c.specs.declared.Prepared.{Prepared}

-- ---- preparing

module _ (q T T' : List ℕ) where
  pub no_room : R.PreparedAs q T T' None → (p : Prepared) → p ≡ refused_prepared 255 0 → PreparedAs q T T' p
  no_room h p e = rw e (record { given = λ d. absurd (d refl); no_room = λ _. h.told; len = h.len })

  pub refuses : (e : Refusal) → R.PreparedAs q T T' (Some (Err e)) → (a k : ℕ) → a ≡ answer_of e → k ≡ offset_of e → (p : Prepared) → p ≡ refused_prepared a k → PreparedAs q T T' p
  refuses e h a k ea ek p ep =
      rw (ep, ea, ek) (record {
        given = λ _. record { refused = λ _. (h.told.told.answer, h.told.told.offset); ready = λ z. absurd (some_answer e z) };
        no_room = λ z. absurd (let l = few_answers e in omega arith);
        len = h.len;
      })

  pub prepares : (n : P.Prepared) → R.PreparedAs q T T' (Some (Ok n))
      → PreparedAs q T T' (record { answer = 0; offset = 0; places = n.places; columns = n.columns; count = n.count; skip = n.skip; target = n.target })
  prepares n h =
      record {
        given = λ _. record { refused = λ d. absurd (d refl); ready = λ _. h.told.told };
        no_room = λ z. absurd (omega arith);
        len = h.len;
      }

pub ruleset tells = (no_room, refuses, prepares)

-- ---- running

module _ (T : List ℕ) (p : Prepared) where
  pub may_run : Runs T p → p.answer ≡ 0 → S.Runs T (Ok (numbers_of p))
  may_run a z = record { query = a.query; given = record { told = a.given.ready z } }

  module _ (rows : List ℤ) (notes trail : List ℕ) (numbers : List ℤ) (labels : List ℕ) (al : ℕ) where
    pub own_answer : (p.answer ≡ 0 → ⊥) → (q : List ℕ) → Given q T p
        → Promised (some al) q rows (lent notes trail numbers labels) (memory (refusal p.answer p.offset) notes trail numbers labels)
    own_answer d q g = query_refused al q rows notes trail numbers labels p.answer p.offset (g.refused d).0 (g.refused d).1 d (refusal p.answer p.offset) refl

    pub has_run : p.answer ≡ 0 → (m : Memory)
        → ((q : List ℕ) → R.Given q T (Ok (numbers_of p)) → Promised (some al) q rows (lent notes trail numbers labels) m)
        → (q : List ℕ) → Given q T p → Promised (some al) q rows (lent notes trail numbers labels) m
    has_run z m e q g = e q (record { told = g.ready z })

pub ruleset runs = (may_run, has_run)
