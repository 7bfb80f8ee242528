-- What a search that is done has written, told by preferment: the promise's report, with the matches
-- of the walk and the end done.
use mathlib.Core.Path.{◌≡◌, refl, sym, ap, ◌∙◌}
use mathlib.Core.Bool.{Bool}
use mathlib.Core.List.{List}
use mathlib.Core.Option.{Option}
use Prim.Native.Nat.{ℕ}
use native.Mathlib.Omega.{arith}
use lib.IntN.{ℤ}
use lib.ListN.{length}
use Rattle.rules.specs.Language.{Tree, pattern}
use Rattle.rules.specs.Readings.{row_sets}
use Rattle.rules.specs.Preferment.{Reports, setting}
use Rattle.rules.specs.Walk.{out_of_steps, out_of_rows}
use Rattle.rules.specs.Search.{Match, End, done, full, stuck, unfinished, Skip, shown, shown_end, stand_at}
use Rattle.rules.specs.Report.{lent_room, fits}
use Rattle.rules.specs.Answers.{task_of, letter_holds, Buffers, Memory, halt_answer, end_answer, walk_within}
use Rattle.rules.specs.Demands.{Demands}

-- a search that is done is so by its end
is-done : (e : End Match) → 0 ≡ end_answer e → e ≡ done
unfolding end_answer halt_answer
is-done done z = refl
is-done (full m) z = absurd (omega arith)
is-done stuck z = absurd (omega arith)
is-done (unfinished out_of_steps i p) z = absurd (omega arith)
is-done (unfinished out_of_rows i p) z = absurd (omega arith)

-- a report stays one where its pattern, letters, number of rows, mode, matches and end are replaced
-- by equal ones
carried : {p p' : Tree pattern} {holds holds' : ℕ → ℕ → Bool} {n n' : ℕ} {skip skip' : Skip} {room : ℕ → ℕ → List ℕ → Bool} {ms ms' : List (ℕ × List ℕ)} {end end' : End (ℕ × List ℕ)}
    → p ≡ p' → holds ≡ holds' → n ≡ n' → skip ≡ skip' → ms ≡ ms' → end ≡ end' → Reports (setting p (row_sets n holds) skip room) (stand_at 0 0 0) ms end → Reports (setting p' (row_sets n' holds') skip' room) (stand_at 0 0 0) ms' end'
carried a b c d e f r = rw (a, b, c, d, e, f) at r

-- the matches that a done search has written, told by preferment
module _ (a : Option ℕ) (q : List ℕ) (rows : List ℤ) (before : Buffers) (after : Memory) (y : Demands a q rows before after) (z : after.result.answer ≡ 0) where
  abbrev pub written : List (ℕ × List ℕ)
  written = shown (task_of q rows).places (walk_within a q rows before).matches

  pub ends : (walk_within a q rows before).end ≡ done
  ends = is-done (walk_within a q rows before).end (sym z ∙ y.ended)

  pub told : {p : Tree pattern} {holds : ℕ → ℕ → Bool} {n : ℕ} {skip : Skip} → y.tree ≡ p → letter_holds (task_of q rows) ≡ holds → (task_of q rows).table.n ≡ n → (task_of q rows).skip ≡ skip
      → Reports (setting p (row_sets n holds) skip (fits (lent_room (length before.numbers) (length before.labels) (task_of q rows).measures))) (stand_at 0 0 0) written done
  told e h n s =
      let f = y.demand2.holds_all (y.not_halted (λ x. let w : ◌≡◌ {A = ℕ} 0 16 = sym z ∙ x in absurd (omega arith))) in
      carried e h n s (sym f.0) (sym f.1 ∙ ap (shown_end (task_of q rows).places) ends) y.demand2.report
