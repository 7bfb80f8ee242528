-- The table told from the reports, one report more: a report that is done counts each of its
-- matches one up in its cell, any other changes no cell and is appended to the list.
use mathlib.Core.Path.{◌≡◌, refl, sym, ap, ◌∙◌, fun_ext}
use mathlib.Core.Bool.{Bool, true, false, ◌&&◌, true≢false}
use mathlib.Core.List.{List, [], ◌∷◌, ◌++◌, map, append-nil}
use Prim.Native.Nat.{ℕ, suc, ◌+◌, ◌*◌, ◌-◌, ◌≤◌, ◌<◌}
use native.Mathlib.Omega.{arith}
use lib.Dec.{eqb, leb}
use lib.IntN.{ℤ, pos, negsuc, nat_abs}
use lib.ListN.{length, get_or, set, length-set, get_or-append}
use lib.Seq.{get_or-set_same, get_or-set_other, set-append_left, ext_get_or}
use borrow.Author.Tests.{lt-ltb, leb-true, eqb-true, eqb-false, eq-eqb, ne_eqb}
use Rattle.rules.specs.Basics.{pick, tabulate, wrote}
use Rattle.rules.specs.Rows.{Table, entry}
use Rattle.rules.specs.Working.{All}
use Rattle.rules.specs.Entries.{Reported}
use Rattle.laws.proofs.Appended.{wrote_on}
use Rattle.laws.proofs.Choice.{and_left, and_right}
use Rattle.laws.proofs.Lists.{length-tabulate, get_d_tabulate}
use Rattle.tally.specs.declared.NamedColumns.{NamedColumns}
use Rattle.tally.specs.Table.{DepotReport, known, cell_of, match_cell, occurs, belonging, counted, cells, listed}
use Rattle.tally.specs.Counting.{one_more, up, all_up}
use Rattle.tally.proofs.Reading.{up-long}

-- ---- one report more

pub counted-on : (w : NamedColumns) (c : ℕ) (rs : List DepotReport) (r : DepotReport) → counted w c (rs ++ (r ∷ [])) ≡ counted w c rs + belonging w c r
unfolding counted
counted-on w c [] r = omega arith
counted-on w c (x ∷ rs) r = omega (arith, counted-on w c rs r)

pub listed-on : (k : ℕ) (rs : List DepotReport) (r : DepotReport) → listed k (rs ++ (r ∷ [])) ≡ listed k rs ++ pick (eqb r.answer 0) [] (suc (k + length rs) ∷ r.answer ∷ [])
unfolding listed
listed-on k [] r = go (eqb r.answer 0)
  where
    go : (t : Bool) → pick t [] (suc k ∷ r.answer ∷ []) ≡ pick t [] (suc (k + 0) ∷ r.answer ∷ [])
    go true = refl
    go false = let z : k + 0 ≡ k = omega arith in rw z
listed-on k (x ∷ rs) r = go (listed-on (suc k) rs r) (eqb x.answer 0)
  where
    z : suc k + length rs ≡ k + suc (length rs)
    z = omega arith

    go : listed (suc k) (rs ++ (r ∷ [])) ≡ listed (suc k) rs ++ pick (eqb r.answer 0) [] (suc (suc k + length rs) ∷ r.answer ∷ []) → (t : Bool)
        → pick t (listed (suc k) (rs ++ (r ∷ []))) (suc k ∷ x.answer ∷ listed (suc k) (rs ++ (r ∷ [])))
        ≡ pick t (listed (suc k) rs) (suc k ∷ x.answer ∷ listed (suc k) rs) ++ pick (eqb r.answer 0) [] (suc (k + suc (length rs)) ∷ r.answer ∷ [])
    go ih true = rw (← z) ih
    go ih false = rw (← z) (ap (λ (l : List ℕ). suc k ∷ x.answer ∷ l) ih)

-- ---- the cells

tabulate-same : (n : ℕ) (f g : ℕ → ℕ) → ((k : ℕ) → f k ≡ g k) → tabulate n f ≡ tabulate n g
tabulate-same n f g e = ap (tabulate n) (fun_ext e)

pub refused_none : (w : NamedColumns) (c : ℕ) (r : DepotReport) → (r.answer ≡ 0 → ⊥) → belonging w c r ≡ 0
unfolding belonging
refused_none w c r d = rw (ne_eqb r.answer 0 d)

pub done_all : (w : NamedColumns) (c : ℕ) (r : DepotReport) → r.answer ≡ 0 → belonging w c r ≡ occurs c (map (match_cell w r.rows) r.matches)
unfolding belonging
done_all w c r z = rw (eq-eqb r.answer 0 z)

pub cells-refused : (w : NamedColumns) (rs : List DepotReport) (r : DepotReport) → (r.answer ≡ 0 → ⊥) → cells w (rs ++ (r ∷ [])) ≡ cells w rs
unfolding cells
cells-refused w rs r d = tabulate-same 769 (λ c. counted w c (rs ++ (r ∷ []))) (λ c. counted w c rs) (λ c. omega (arith, counted-on w c rs r, refused_none w c r d))

-- one more in a table of counts
module _ (n c : ℕ) (f : ℕ → ℕ) (h : c < n) (room : f c < 18446744073709551615) where
  one_up : ℕ → ℕ
  one_up k = f k + pick (eqb c k) 1 0

  more : one_more (f c) ≡ f c + 1
  unfolding one_more
  more = rw (lt-ltb (f c) 18446744073709551615 room)

  entry-up : (k : ℕ) → k < n → (t : Bool) → eqb c k ≡ t → get_or (set (tabulate n f) c (f c + 1)) k 0 ≡ f k + pick t 1 0
  entry-up k l true e =
      let z : c ≡ k = eqb-true c k e in
      rw (← z) (get_or-set_same (tabulate n f) c (f c + 1) 0 (rw (length-tabulate n f) h))
  entry-up k l false e =
      let z : f k + 0 ≡ f k = omega arith in
      get_or-set_other (tabulate n f) c k (f c + 1) 0 (λ q. eqb-false c k e (sym q)) ∙ get_d_tabulate n f k 0 l ∙ sym z

  up-table : up (tabulate n f) c ≡ tabulate n one_up
  unfolding up one_up
  up-table =
      rw (get_d_tabulate n f c 0 h, more)
      (ext_get_or 0 (set (tabulate n f) c (f c + 1)) (tabulate n one_up) (length-set (tabulate n f) c (f c + 1) ∙ length-tabulate n f ∙ sym (length-tabulate n one_up)) at)
    where
      at : (k : ℕ) → k < length (set (tabulate n f) c (f c + 1)) → get_or (set (tabulate n f) c (f c + 1)) k 0 ≡ get_or (tabulate n one_up) k 0
      at k l =
          let l₁ : k < n = omega (arith, length-set (tabulate n f) c (f c + 1), length-tabulate n f) in
          entry-up k l₁ (eqb c k) refl ∙ sym (get_d_tabulate n one_up k 0 l₁)

-- a cell is one of the 769
cell_below : (d m : ℤ) → known d m ≡ true → nat_abs d * 12 + (nat_abs m - 1) < 769
unfolding known
cell_below (pos d) (pos m) e =
    let x = and_left (leb 0 d && leb d 63) (leb 1 m && leb m 12) e in
    let y = and_right (leb 0 d && leb d 63) (leb 1 m && leb m 12) e in
    omega (arith, leb-true d 63 (and_right (leb 0 d) (leb d 63) x), leb-true m 12 (and_right (leb 1 m) (leb m 12) y))
cell_below (pos d) (negsuc m) e = absurd (true≢false (sym (and_right (leb 0 d && leb d 63) false e)))
cell_below (negsuc d) m e = absurd (true≢false (sym e))

cell_there : (d m : ℤ) → cell_of d m < 769
unfolding cell_of
cell_there d m = go (known d m) (cell_below d m)
  where
    go : (t : Bool) → (t ≡ true → nat_abs d * 12 + (nat_abs m - 1) < 769) → pick t (nat_abs d * 12 + (nat_abs m - 1)) 768 < 769
    go true h = h refl
    go false h = omega arith

abbrev pub Cells : List ℕ → Type 0
Cells cs = All (λ c. c < 769) cs

pub match-cells : (w : NamedColumns) (t : Table) (es : List Reported) → Cells (map (match_cell w t) es)
unfolding match_cell
match-cells w t [] = tt
match-cells w t (e ∷ es) = (cell_there (entry t e.first w.depot) (entry t e.first w.month), match-cells w t es)

pub occurs-few : (c : ℕ) (cs : List ℕ) → occurs c cs ≤ length cs
unfolding occurs
occurs-few c [] = omega arith
occurs-few c (x ∷ cs) = go (eqb x c) (occurs-few c cs)
  where
    go : (t : Bool) → occurs c cs ≤ length cs → pick t 1 0 + occurs c cs ≤ suc (length cs)
    go true h = omega arith
    go false h = omega arith

-- cells counted one after the other
all_up_lem : (f : ℕ → ℕ) (cs : List ℕ) → Cells cs → ((c : ℕ) → f c + length cs < 18446744073709551615) → all_up (tabulate 769 f) cs ≡ tabulate 769 (λ c. f c + occurs c cs)
unfolding all_up occurs one_up
all_up_lem f [] b room = tabulate-same 769 f (λ c. f c + 0) (λ c. let z : f c + 0 ≡ f c = omega arith in sym z)
all_up_lem f (x ∷ cs) (b, bs) room =
    let r : f x < 18446744073709551615 = omega (arith, room x) in
    rw (up-table 769 x f b r)
    (all_up_lem (one_up 769 x f b r) cs bs (λ c. less c (eqb x c))
    ∙ tabulate-same 769 (λ c. one_up 769 x f b r c + occurs c cs) (λ c. f c + (pick (eqb x c) 1 0 + occurs c cs)) (λ c. omega arith))
  where
    less : (c : ℕ) (t : Bool) → f c + pick t 1 0 + length cs < 18446744073709551615
    less c true = omega (arith, room c)
    less c false = omega (arith, room c)

pub cells-done : (w : NamedColumns) (rs : List DepotReport) (r : DepotReport) → r.answer ≡ 0 → ((c : ℕ) → counted w c rs + length r.matches < 18446744073709551615)
    → all_up (cells w rs) (map (match_cell w r.rows) r.matches) ≡ cells w (rs ++ (r ∷ []))
unfolding cells
cells-done w rs r z room =
    let cs : List ℕ = map (match_cell w r.rows) r.matches in
    all_up_lem (λ c. counted w c rs) cs (match-cells w r.rows r.matches) (λ c. rw (map-long r.matches) (room c))
    ∙ tabulate-same 769 (λ c. counted w c rs + occurs c cs) (λ c. counted w c (rs ++ (r ∷ []))) (λ c. omega (arith, counted-on w c rs r, done_all w c r z))
  where
    map-long : (es : List Reported) → length (map (match_cell w r.rows) es) ≡ length es
    map-long [] = refl
    map-long (e ∷ es) = ap suc (map-long es)

-- how many cells there are
pub cells-long : (w : NamedColumns) (rs : List DepotReport) → length (cells w rs) ≡ 769
unfolding cells
cells-long w rs = length-tabulate 769 (λ c. counted w c rs)

-- counts with something behind them
pub all_up-front : (xs ys cs : List ℕ) → All (λ c. c < length xs) cs → all_up (xs ++ ys) cs ≡ all_up xs cs ++ ys
unfolding all_up up
all_up-front xs ys [] b = refl
all_up-front xs ys (c ∷ cs) (b, bs) =
    ap (λ (l : List ℕ). all_up l cs) (ap (λ (k : ℕ). set (xs ++ ys) c (one_more k)) (get_or-append xs ys 0 c b) ∙ set-append_left xs ys c (one_more (get_or xs c 0)) b)
    ∙ all_up-front (up xs c) ys cs (longer cs bs)
  where
    longer : (cs : List ℕ) → All (λ c. c < length xs) cs → All (λ d. d < length (up xs c)) cs
    longer [] a = tt
    longer (d ∷ ds) (a, as₁) = (rw (up-long xs c) a, longer ds as₁)

-- ---- the list

-- an entry written behind those of the reports so far is the list with this report
pub list_on : (list : List ℕ) (rs : List DepotReport) (r : DepotReport) → (r.answer ≡ 0 → ⊥) → length (listed 0 rs) ≤ length list
    → wrote (wrote list 0 (listed 0 rs)) (length (listed 0 rs)) (suc (length rs) ∷ r.answer ∷ []) ≡ wrote list 0 (listed 0 (rs ++ (r ∷ [])))
list_on list rs r d h =
    let two : List ℕ = suc (length rs) ∷ r.answer ∷ [] in
    let z : listed 0 (rs ++ (r ∷ [])) ≡ listed 0 rs ++ (suc (0 + length rs) ∷ r.answer ∷ []) = listed-on 0 rs r ∙ rw (ne_eqb r.answer 0 d) in
    let e : 0 + length (listed 0 rs) ≡ length (listed 0 rs) = omega arith in
    let f : 0 + length rs ≡ length rs = omega arith in
    let w : wrote (wrote list 0 (listed 0 rs)) (0 + length (listed 0 rs)) two ≡ wrote list 0 (listed 0 rs ++ two) = wrote_on list 0 (listed 0 rs) (omega arith) two in
    rw (z, f) (rw e at w)

pub listed-done : (rs : List DepotReport) (r : DepotReport) → r.answer ≡ 0 → listed 0 (rs ++ (r ∷ [])) ≡ listed 0 rs
listed-done rs r z = listed-on 0 rs r ∙ rw (eq-eqb r.answer 0 z) (append-nil (listed 0 rs))
