-- Each match of a search, the one that does not fit included, has a path from its start to END.
use mathlib.Core.Path.{◌≡◌, refl, sym, ap, ◌∙◌}
use mathlib.Core.Bool.{Bool, true, false}
use mathlib.Core.List.{List, [], ◌∷◌, ◌++◌, Memᴰ}
use mathlib.Core.Logic.{◌⊎◌, inl, inr}
use mathlib.Core.Option.{Option, none, some}
use Prim.Native.Nat.{ℕ, zero, suc, ◌+◌}
use native.Mathlib.Omega.{arith}
use lib.Dec.{ltb}
use lib.ListN.{length}
use Rattle.rules.specs.Basics.{Begins}
use Rattle.rules.specs.Places.{Place}
use Rattle.rules.specs.Walk.{pairs, first_at, pair_ways, plain, IsPath}
use Rattle.rules.specs.Search.{Match, End, done, full, stuck, unfinished, Finished, Skip, Attempted, hit, miss, halts, Swept, Plan, plan_of, ended, no_start, below, on_answer, sweep, plainly, plain_at, plain_search, full_of, found_in, on_match, seek, stand_at}
use Rattle.laws.proofs.Plain.{plain-path}

-- ---- what holds of each path that an attempt finds holds of each match found

module _ {S : Type 0} (att : ℕ → S → Attempted × S) (plan : Plan) (Q : Match → Type 0) (h : (i : ℕ) (st : S) (p : List ℕ) → (att i st).0 ≡ hit p → Q (record { start = i; path = p })) where
  abbrev Each : Swept S → Type 0
  Each r = (x : Match) → Memᴰ x (found_in r) → Q x

  one : (m : Match) → Q m → (x : Match) → x ≡ m → Q x
  one m q x e = rw e q

  first-or : (m : Match) (xs : List Match) → Q m → ((x : Match) → Memᴰ x xs → Q x) → (x : Match) → Memᴰ x (m ∷ xs) → Q x
  first-or m xs q g x k = go (mathlib.Core.List.Memᴰ.cases_cons k)
    where
      go : (x ≡ m) ⊎ Memᴰ x xs → Q x
      go (inl e) = one m q x e
      go (inr y) = g x y

  none_in : (x : Match) → Memᴰ x [] → Q x
  none_in x k = absurd (mathlib.Core.List.Memᴰ.not-nil k)

  no_start_lem : (b : Bool) (i : ℕ) (st : S) → Each (ended (no_start b i) st)
  no_start_lem true i st = none_in
  no_start_lem false i st = none_in

  pub sweep-each : (k i m l : ℕ) (st : S) → Each (sweep att plan k (stand_at i m l) st)
  unfolding sweep
  sweep-each zero i m l st = no_start_lem plan.more i st
  sweep-each (suc k) i m l st = start (sweep-each k) (ltb i plan.n)
    where
      fit : ((i m l : ℕ) (st : S) → Each (sweep att plan k (stand_at i m l) st)) → (p : List ℕ) → Q (record { start = i; path = p }) → (su : S) (o : Option ℕ) (t : Bool)
          → Each (on_match t o (record { start = i; path = p }) su (λ j. sweep att plan k (stand_at j (suc m) (l + plan.rows p)) su))
      fit ih p q su o false = first-or (record { start = i; path = p }) [] q none_in
      fit ih p q su none true = first-or (record { start = i; path = p }) [] q none_in
      fit ih p q su (some j) true = first-or (record { start = i; path = p }) (found_in (sweep att plan k (stand_at j (suc m) (l + plan.rows p)) su)) q (ih j (suc m) (l + plan.rows p) su)

      on : ((i m l : ℕ) (st : S) → Each (sweep att plan k (stand_at i m l) st)) → (o : Attempted) → (att i st).0 ≡ o → (su : S) → Each (on_answer plan (sweep att plan k) (stand_at i m l) o su)
      on ih miss e su = ih (suc i) m l su
      on ih (halts w p) e su = none_in
      on ih (hit p) e su = fit ih p (h i st p e) su (plan.next i p) (plan.fits m l p)

      start : ((i m l : ℕ) (st : S) → Each (sweep att plan k (stand_at i m l) st)) → (t : Bool)
          → Each (below t (ended (no_start plan.more i) st) (λ _. on_answer plan (sweep att plan k) (stand_at i m l) (att i st).0 (att i st).1))
      start ih false = no_start_lem plan.more i st
      start ih true = on ih (att i st).0 refl (att i st).1

-- ---- so of plain backtracking

module _ (holds : ℕ → ℕ → Bool) (n : ℕ) (pl : List Place) where
  abbrev pub Path : Match → Type 0
  Path m = IsPath (pair_ways holds n pl) (first_at (length pl) m.start) m.path

  some-hit : (o : Option (List ℕ)) (p : List ℕ) → plainly o ≡ hit p → o ≡ some p
  some-hit none p e = let z : ◌≡◌ {A = ℕ} 0 1 = cc in absurd (omega arith)
  some-hit (some q) p e = cc

  pub plain-each : (skip : Skip) (fits : ℕ → ℕ → List ℕ → Bool) (x : Match) → Memᴰ x (found_in (plain_search (seek holds n pl skip fits))) → Path x
  unfolding plain_search
  plain-each skip fits =
      sweep-each (plain_at (pair_ways holds n pl) (pairs (length pl) n) (first_at (length pl))) (plan_of pl n false skip fits) Path
      (λ i st p e. plain-path (pair_ways holds n pl) (pairs (length pl) n) (first_at (length pl) i) p (some-hit (plain (pair_ways holds n pl) (pairs (length pl) n) (first_at (length pl) i)) p e)) n 0 0 0 tt

-- ---- and of a search that follows it

module _ {S T : Type 0} (Q : Match → Type 0) (r : Swept S) (b : Swept T) (begins : Begins r.matches b.matches) (whole : Finished r.end → (r.matches ≡ b.matches) × (r.end ≡ b.end))
    (each : (x : Match) → Memᴰ x (found_in b) → Q x) where
  in_front : (x : Match) (ys : List Match) → Begins r.matches ys → Memᴰ x r.matches → Memᴰ x ys
  in_front x ys (zs, e) k = rw e (mathlib.Core.List.Memᴰ.append_left zs k)

  at-end : (x : Match) (e : End Match) → r.end ≡ e → Memᴰ x (full_of e) → Q x
  at-end x done e k = absurd (mathlib.Core.List.Memᴰ.not-nil k)
  at-end x stuck e k = absurd (mathlib.Core.List.Memᴰ.not-nil k)
  at-end x (unfinished h i p) e k = absurd (mathlib.Core.List.Memᴰ.not-nil k)
  at-end x (full m) e k =
      let f : Finished r.end = rw e tt in
      let g : b.end ≡ full m = sym (whole f).1 ∙ e in
      let y : Memᴰ x (full_of b.end) = rw g k in
      each x (mathlib.Core.List.Memᴰ.append_right b.matches y)

  pub follows_each : (x : Match) → Memᴰ x (found_in r) → Q x
  follows_each x k = go (mathlib.Core.List.Memᴰ.append_cases r.matches k)
    where
      go : Memᴰ x r.matches ⊎ Memᴰ x (full_of r.end) → Q x
      go (inl y) = each x (mathlib.Core.List.Memᴰ.append_left (full_of b.end) (in_front x b.matches begins y))
      go (inr y) = at-end x r.end refl y
