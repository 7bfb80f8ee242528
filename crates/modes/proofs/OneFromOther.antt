-- Request R-9: with room for both, the report in skip mode 0 is the choice (`chosen` of
-- specs/Chosen) from the report in skip mode 1 of the same query, labels and measures included. It
-- rests on what the search promises of what two calls return and leave.
use mathlib.Core.Path.{◌≡◌, refl, sym, ap, ap₂, ◌∙◌, fun_ext}
use mathlib.Core.Bool.{Bool, true, false}
use mathlib.Core.List.{List, [], ◌∷◌}
use mathlib.Core.Logic.{inl}
use mathlib.Core.Option.{Option, some}
use Prim.Native.Nat.{ℕ, suc, ◌+◌, ◌≤◌, ◌<◌}
use native.Mathlib.Omega.{arith}
use lib.Dec.{ltb, eqb}
use lib.IntN.{ℤ}
use lib.ListN.{length}
use borrow.Author.Tests.{ltb-true, ltb-false, lt-ltb, le-ltb, ne_eqb}
use Rattle.rules.specs.Basics.{pick}
use Rattle.rules.specs.Rows.{Table}
use Rattle.rules.specs.Query.{Measure, text_of, parts}
use Rattle.rules.specs.Language.{Tree, pattern, Written}
use Rattle.rules.specs.Readings.{row_sets}
use Rattle.rules.specs.Preferment.{Preferred, NoneParses, Reports, finished, unmatched, matched, setting}
use Rattle.rules.specs.Search.{done, past_last, to_next, next_start, stand_at}
use Rattle.rules.specs.Report.{lent_room, fits}
use Rattle.rules.specs.Answers.{task_of, skip_of, letter_holds, Buffers, Memory, refusal}
use Rattle.rules.specs.Entries.{Reported, reported_in, reported_one, reported_all}
use Rattle.rules.specs.Demands.{Demands}
use Rattle.laws.proofs.Accepted.{granted_when}
use Rattle.laws.proofs.DerivationReadings.{parses_word}
use Rattle.laws.proofs.FirstDemand.{unrefused_by}
use Rattle.laws.proofs.Grammar.{one_tree}
use Rattle.laws.proofs.GreatestDerivation.{greatest_same}
use Rattle.modes.specs.Chosen.{start_behind, chosen_from, chosen, in_mode, OneFromOther}
use Rattle.modes.proofs.Done.{written, told}
use Rattle.modes.proofs.SkipByte.{SameButSkip, same-but_skip, mode_set}

-- ---- a preferred match ends as many rows behind its start as it has labels

ends_behind : {p : Tree pattern} {holds : ℕ → ℕ → Bool} {n i j : ℕ} {w : List ℕ} → Preferred (row_sets n holds) p i j w → j ≡ i + length w
ends_behind {p} {holds} {n} {i} {j} {w} x = let s = parses_word holds n p x.derivation i j w x.parses in rw s.labels s.rows

-- the next start behind it, past its last row
abbrev past : ℕ → ℕ → ℕ
past i j = pick (ltb i j) j (suc i)

past-on : (i j : ℕ) → suc i ≤ past i j
past-on i j = go (ltb i j) refl
  where
    go : (t : Bool) → ltb i j ≡ t → suc i ≤ pick t j (suc i)
    go true e = ltb-true i j e
    go false e = omega arith

behind-is : (t : Table) (ms : List Measure) (i j : ℕ) (w : List ℕ) → j ≡ i + length w → past i j ≡ start_behind (reported_one t ms (i, w))
unfolding start_behind reported_one
behind-is t ms i j w e = rw e (go w)
  where
    go : (w : List ℕ) → pick (ltb i (i + length w)) (i + length w) (suc i) ≡ pick (eqb (length w) 0) (suc i) (i + length w)
    go [] = rw (le-ltb i (i + 0) (omega arith))
    go (c ∷ w) = rw (lt-ltb i (i + suc (length w)) (omega arith), ne_eqb (suc (length w)) 0 (λ e. omega arith))

some_is : {a b : ℕ} → ◌≡◌ {A = Option ℕ} (some a) (some b) → a ≡ b
some_is e = cc

past_next : (i j : ℕ) (w : List ℕ) (k : ℕ) → next_start past_last i j w ≡ some k → past i j ≡ k
unfolding next_start
past_next i j w k e = some_is e

one-next : (i j : ℕ) (w : List ℕ) (k : ℕ) → next_start to_next i j w ≡ some k → suc i ≡ k
unfolding next_start
one-next i j w k e = some_is e

-- ---- the two reports

module _ (p : Tree pattern) (holds : ℕ → ℕ → Bool) (n : ℕ) (room : ℕ → ℕ → List ℕ → Bool) where
  -- what mode 0 still writes from row i on, behind m matches with l labels, where it ends as done
  abbrev Past : ℕ → ℕ → ℕ → List (ℕ × List ℕ) → Type 0
  Past i m l ms = Reports (setting p (row_sets n holds) past_last room) (stand_at i m l) ms done

  past_end : {i m l : ℕ} {ms : List (ℕ × List ℕ)} → n ≤ i → Past i m l ms → ms ≡ []
  past_end h (finished f) = refl
  past_end h (unmatched lt x r) = absurd (omega arith)
  past_end h (matched lt x b d r) = absurd (omega arith)

  past-none : {i m l : ℕ} {ms : List (ℕ × List ℕ)} → i < n → NoneParses (row_sets n holds) p i → Past i m l ms → Past (suc i) m l ms
  past-none h u (finished f) = absurd (omega arith)
  past-none h u (unmatched lt x r) = r
  past-none h u (matched {j = j} {w = w} lt x b d r) = absurd (u x.derivation j w x.parses)

  -- a match at i is written, and the rest from its next start on
  pub record Took (i j m l : ℕ) (w : List ℕ) (ms : List (ℕ × List ℕ)) : Type 0 where
    pub rest : List (ℕ × List ℕ)
    pub is : ms ≡ (i, w) ∷ rest
    pub goes : Past (past i j) (suc m) (l + length w) rest

  past-match : {i j m l : ℕ} {w : List ℕ} {ms : List (ℕ × List ℕ)} → i < n → Preferred (row_sets n holds) p i j w → Past i m l ms → Took i j m l w ms
  past-match h y (finished f) = absurd (omega arith)
  past-match {j = j} {w = w} h y (unmatched lt x r) = absurd (x y.derivation j w y.parses)
  past-match {i = i} {j = j} {m = m} {l = l} {w = w} h y (matched {j = j'} {k = k} {w = v} {ms = rest} lt x b d r) =
      let s = greatest_same y x in
      let e : past i j ≡ k = ap (past i) s.0 ∙ past_next i j' v k d in
      record { rest = rest; is = rw s.1; goes = rw (e, s.1) r }

module _ (p : Tree pattern) (holds : ℕ → ℕ → Bool) (n : ℕ) (room room' : ℕ → ℕ → List ℕ → Bool) (t : Table) (measures : List Measure) where
  abbrev Each : ℕ → ℕ → ℕ → List (ℕ × List ℕ) → Type 0
  Each i m l ms = Reports (setting p (row_sets n holds) to_next room') (stand_at i m l) ms done

  -- what mode 1 still writes starts at row k or behind it, so choosing may begin anywhere up to k
  from-before : {k m l : ℕ} {ms : List (ℕ × List ℕ)} → Each k m l ms → (i : ℕ) → i ≤ k → chosen_from i (reported_all t measures ms) ≡ chosen_from k (reported_all t measures ms)
  unfolding chosen_from reported_one
  from-before (finished f) i h = refl
  from-before {k = k} (unmatched lt x r) i h = from-before r i (omega arith) ∙ sym (from-before r k (omega arith))
  from-before {k = k} (matched lt x b d r) i h = rw (le-ltb k i (omega arith), le-ltb k k (omega arith))

  -- Mode 1 stands at row i' and still writes ms'. Where mode 0 stands at row i' or behind it, what
  -- it still writes is chosen from ms'.
  abbrev Chooses : ℕ → List (ℕ × List ℕ) → Type 0
  Chooses i' ms' = (i m l : ℕ) (ms : List (ℕ × List ℕ)) → i' ≤ i → Past p holds n room i m l ms → reported_all t measures ms ≡ chosen_from i (reported_all t measures ms')

  chosen-from : {i' m' l' : ℕ} {ms' : List (ℕ × List ℕ)} → Each i' m' l' ms' → Chooses i' ms'
  unfolding chosen_from reported_one
  chosen-from (finished f) i m l ms h s = ap (reported_all t measures) (past_end p holds n room (omega arith) s)
  chosen-from {i' = i'} (unmatched {ms = ms'} lt x r) i m l ms h s = go (λ i m l ms h s. chosen-from r i m l ms h s) (ltb i' i) refl
    where
      go : Chooses (suc i') ms' → (b : Bool) → ltb i' i ≡ b → reported_all t measures ms ≡ chosen_from i (reported_all t measures ms')
      go ih true e = ih i m l ms (ltb-true i' i e) s
      go ih false e =
          let q : i ≡ i' = omega (arith, ltb-false i' i e) in
          let s₁ : Past p holds n room i' m l ms = rw q at s in
          rw q (ih (suc i') m l ms (omega arith) (past-none p holds n room lt x s₁) ∙ sym (from-before r i' (omega arith)))
  chosen-from {i' = i'} (matched {j = j} {k = k} {w = w} {ms = ms'} lt x b d r) i m l ms h s = go (λ i m l ms h s. chosen-from r i m l ms h s) (ltb i' i) refl
    where
      on : suc i' ≡ k
      on = one-next i' j w k d

      go : Chooses k ms' → (b : Bool) → ltb i' i ≡ b
          → reported_all t measures ms ≡ pick b (chosen_from i (reported_all t measures ms')) (reported_one t measures (i', w) ∷ chosen_from (start_behind (reported_one t measures (i', w))) (reported_all t measures ms'))
      go ih true e = ih i m l ms (omega (arith, on, ltb-true i' i e)) s
      go ih false e =
          let q : i ≡ i' = omega (arith, ltb-false i' i e) in
          let s₁ : Past p holds n room i' m l ms = rw q at s in
          let u = past-match p holds n room lt x s₁ in
          let y = ih (past i' j) (suc m) (l + length w) u.rest (omega (arith, on, past-on i' j)) u.goes in
          let z : past i' j ≡ start_behind (reported_one t measures (i', w)) = behind-is t measures i' j w (ends_behind x) in
          rw u.is (ap (λ (es : List Reported). reported_one t measures (i', w) ∷ es) (y ∙ ap (λ (row : ℕ). chosen_from row (reported_all t measures ms')) z))

-- ---- for inputs

-- the same query asks for the same table, the same letters and the same measures
module _ (q q' : List ℕ) (rows : List ℤ) (same : SameButSkip q q') where
  same-table : (task_of q' rows).table ≡ (task_of q rows).table
  unfolding task_of
  same-table = rw same.columns

  same-holds : letter_holds (task_of q' rows) ≡ letter_holds (task_of q rows)
  unfolding letter_holds task_of
  same-holds = fun_ext (λ c. fun_ext (λ i. rw (same.columns, same.condition c)))

  same-measured : (task_of q' rows).measures ≡ (task_of q rows).measures
  unfolding task_of
  same-measured = same.measures

mode_0 : (q : List ℕ) (rows : List ℤ) → (parts q).skip ≡ 0 → (task_of q rows).skip ≡ past_last
unfolding task_of skip_of
mode_0 q rows e = rw e

mode_1 : (q : List ℕ) (rows : List ℤ) → (parts q).skip ≡ 1 → (task_of q rows).skip ≡ to_next
unfolding task_of skip_of
mode_1 q rows e = rw e

-- two searches of a query that differs in its skip mode alone
module _ (a a' : Option ℕ) (q q' : List ℕ) (rows : List ℤ) (before before' : Buffers) (after after' : Memory) (same : SameButSkip q q') (m : (parts q).skip ≡ 0) (m' : (parts q').skip ≡ 1)
    (y : Demands a q rows before after) (y' : Demands a' q' rows before' after') (z : after.result.answer ≡ 0) (z' : after'.result.answer ≡ 0) where
  from-demands : reported_in q after ≡ chosen (reported_in q' after')
  unfolding chosen
  from-demands =
      let t = task_of q rows in
      let t' = task_of q' rows in
      let w' : Written y'.tree (text_of q) = rw (← same.text) y'.written in
      let r = told a q rows before after y z refl refl refl (mode_0 q rows m) in
      let r' = told a' q' rows before' after' y' z' (one_tree w' y.written) (same-holds q q' rows same) (ap (λ (x : Table). x.n) (same-table q q' rows same)) (mode_1 q' rows m') in
      let c = chosen-from y.tree (letter_holds t) t.table.n (fits (lent_room (length before.numbers) (length before.labels) t.measures)) (fits (lent_room (length before'.numbers) (length before'.labels) t'.measures)) t.table t.measures r' 0 0 0 _ (omega arith) r in
      let s : reported_all t.table t.measures (written a' q' rows before' after' y' z') ≡ reported_all t'.table t'.measures (written a' q' rows before' after' y' z') =
      ap₂ (λ (x : Table) (ms : List Measure). reported_all x ms (written a' q' rows before' after' y' z')) (sym (same-table q q' rows same)) (sym (same-measured q q' rows same)) in
      y.reported ∙ c ∙ ap (chosen_from 0) (s ∙ sym y'.reported)

-- ---- what is promised

pub one-from_other : OneFromOther
one-from_other a a' q rows before before' after after' m p p' z z' =
    let none : refusal q rows before ≡ 0 = unrefused_by a q rows before (inl (sym p.demand1.answer ∙ z)) in
    let g = granted_when q rows before none in
    from-demands a a' q (in_mode 1 q) rows before before' after after' (same-but_skip q 1 g.ordered g.fitting) m (mode_set q 1 g.ordered g.fitting) (p.demands (inl z)) (p'.demands (inl z')) z z'
