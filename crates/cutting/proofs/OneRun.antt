-- Whatever lots the rows are cut into, the last call returns and reports what the one run does
-- (`as_one_run`): calls one behind the other are a `Lead` of the rules.
use mathlib.Core.Path.{◌≡◌, refl, ap, sym, ◌∙◌, subst}
use mathlib.Core.Bool.{Bool, true, false}
use mathlib.Core.List.{List, [], ◌∷◌}
use Prim.Native.Nat.{ℕ, zero, suc, ◌+◌, ◌*◌, ◌≤◌, ◌<◌}
use native.Mathlib.Nat.{mul-le-mul, not-suc-le-zero, le_of_suc-le-suc}
use native.Mathlib.Omega.{arith}
use lib.Dec.{eqb}
use lib.IntN.{ℤ}
use lib.ListN.{length, take}
use borrow.Author.Tests.{eqb-true}
use Rattle.rules.specs.Basics.{pick}
use Rattle.rules.specs.Query.{columns_of, text_of}
use Rattle.rules.specs.Answers.{Buffers, Memory, offset_at, refused}
use Rattle.rules.specs.Lots.{Named, Progress, begun, present_rows, begin_answer, stays, call_refusal, lot_memory, Called, unchanged, Arrived, arrived, call_of, Leaves}
use Rattle.rules.specs.LotDemands.{Lot, Later, start, Lead, Lots}
use Rattle.laws.proofs.LotLaws.{lots}
use Rattle.laws.proofs.Lots.{call-well}
use Rattle.lots.specs.declared.Feed.{Feed}
use Rattle.lots.specs.Feeds.{new_feed}
use Rattle.calls.specs.Calls.{Before, After, Allowance, Stands, taken_up, Made, Calls}
use Rattle.calls.proofs.Standing.{begin_stands}
use Rattle.cutting.specs.Cutting.{First, into, Follow, AsOneRun}

-- the first of the first rows
take-first : {X : Type 0} (a b : ℕ) (l : List X) → a ≤ b → take a (take b l) ≡ take a l
take-first zero b l h = refl
take-first (suc a) zero l h = absurd (not-suc-le-zero h)
take-first (suc a) (suc b) [] h = refl
take-first (suc a) (suc b) (x ∷ l) h = ap (λ (v : List _). x ∷ v) (take-first a b l (le_of_suc-le-suc h))

-- what holds of the rows kept and of those of a call that is taken up holds behind the call
behind : (s : Named) (p : Progress) (rows₁ rows : List ℤ) (n : ℕ) (last : Bool) (b : Buffers) (Has : List ℤ → ℕ → Type 0) → Has rows₁ p.present → (call_refusal s p rows n ≡ 0 → Has rows n)
    → Has (pick (taken_up s p rows n) rows rows₁) (call_of s p (arrived rows n) last b).progress.present
unfolding call_of taken_up refused
behind s p rows₁ rows n last b Has x y = go (stays p.result.answer) p.ended (eqb (call_refusal s p rows n) 0) refl
  where
    next : Called
    next = record {
      progress = record { present = n; ended = last; result = (lot_memory s rows n last).result };
      memory = lot_memory s rows n last;
    }

    no : Called
    no = unchanged p (refused (call_refusal s p rows n) (offset_at (text_of s.query) (call_refusal s p rows n)) b)

    go : (a d e : Bool) → eqb (call_refusal s p rows n) 0 ≡ e
        → Has (pick (pick a false (pick d false e)) rows rows₁) (pick {A = Called} a (unchanged p (record { result = p.result; buffers = b })) (pick d (unchanged p (refused 21 0 b)) (pick e next no))).progress.present
    go true d e h = x
    go false true e h = x
    go false false false h = x
    go false false true h = y (eqb-true (call_refusal s p rows n) 0 h)

module _ (s : Named) (begins : begin_answer s ≡ 0) (rows : List ℤ) (n : ℕ) where
  abbrev q : List ℕ
  q = s.query

  -- a later lot of the same table
  later_of : (rows₁ lot : List ℤ) (m k : ℕ) → First q rows n rows₁ m → First q rows n lot k → m ≤ k → Later s rows₁ lot m k
  unfolding present_rows
  later_of rows₁ lot m k f g l =
      let h : m * columns_of q ≤ k * columns_of q = mul-le-mul l (let z : columns_of q ≤ columns_of q = omega arith in z) in
      record {
        more = l;
        same = f.1 ∙ sym (take-first (m * columns_of q) (k * columns_of q) rows h) ∙ ap (take (m * columns_of q)) (sym g.1) ∙ take-first (m * columns_of q) (k * columns_of q) lot h;
      }

  -- calls that follow one another are a lead, and what is kept then stands for its end
  record Led (p : Progress) (m : Memory) (cs : List Arrived) (f' : Feed) (b' : Buffers) : Type 0 where
    to : Called
    lead : Lead s (arrived rows n) (record { progress = p; memory = m }) cs to
    kept : List ℤ
    stands : Stands s to.progress kept f' b'
    first : First q rows n kept to.progress.present
    buffers : to.memory.buffers ≡ b'

  led : (cs : List Arrived) (p : Progress) (rows₁ : List ℤ) (f : Feed) (m : Memory) (f' : Feed) (b' : Buffers) → Stands s p rows₁ f m.buffers → First q rows n rows₁ p.present
      → Follow q rows n f m.buffers cs f' b' → Led p m cs f' b'
  unfolding Follow Lead Calls
  led [] p rows₁ f m f' b' st fi e =
      record {
        to = record { progress = p; memory = m };
        lead = refl;
        kept = rows₁;
        stands = subst (λ (x : Feed). Stands s p rows₁ x b') e.0 (subst (λ (x : Buffers). Stands s p rows₁ f x) e.1 st);
        first = fi;
        buffers = e.1;
      }
  led (c ∷ cs) p rows₁ f m f' b' st fi e =
      let o : After = e.1.0 in
      let made : Made s p rows₁ (into q f m.buffers c.rows c.present false) o = e.1.1.0 s p rows₁ refl st (λ z. later_of rows₁ c.rows p.present c.present fi e.0 (call-well s p c.rows c.present z).2) in
      let next : Progress = (call_of s p (arrived c.rows c.present) false m.buffers).progress in
      let g : First q rows n (pick (taken_up s p c.rows c.present) c.rows rows₁) next.present = behind s p rows₁ c.rows c.present false m.buffers (First q rows n) fi (λ _. e.0) in
      let r = led cs next (pick (taken_up s p c.rows c.present) c.rows rows₁) o.feed o.memory f' b' made.stands g e.1.1.1 in
      record {
        to = r.to;
        lead = (λ z. record { more = e.0.0; same = e.0.1 }, (o.memory, (made.leaves, r.lead)));
        kept = r.kept;
        stands = r.stands;
        first = r.first;
        buffers = r.buffers;
      }

  pub as_one_run : Lot s rows n → (a : ℕ) → Allowance s.allowance a → (cs : List Arrived) (f : Feed) (b : Buffers) → Follow q rows n (new_feed s.largest a) s.lent cs f b
      → (o : After) → Calls (into q f b rows n true) o → AsOneRun s rows n o.memory
  unfolding Calls present_rows
  as_one_run lot a al cs f b follow o call =
      let r = led cs begun rows (new_feed s.largest a) (start s).memory f b (begin_stands s a al rows) (omega arith, refl) follow in
      let k : Called = r.to in
      let st : Stands s k.progress r.kept f b = r.stands in
      let made : Made s k.progress r.kept (into q f b rows n true) o =
      call s k.progress r.kept refl st (λ z. later_of r.kept rows k.progress.present n r.first (omega arith, refl) r.first.0) in
      let l : Leaves s (call_of s k.progress (arrived rows n) true k.memory.buffers).memory o.memory = subst (λ (x : Buffers). Leaves s (call_of s k.progress (arrived rows n) true x).memory o.memory) (sym r.buffers) made.leaves in
      let w : o.memory ≡ lot_memory s rows n true = (lots s begins).cutting cs rows n k o.memory lot r.lead l in
      let one = (lots s begins).one_run rows n lot in
      record {
        whole = w;
        result = ap (λ (m : Memory). m.result) w ∙ one.result;
        numbers = ap (λ (m : Memory). m.buffers.numbers) w ∙ one.numbers;
        labels = ap (λ (m : Memory). m.buffers.labels) w ∙ one.label_bytes;
      }
