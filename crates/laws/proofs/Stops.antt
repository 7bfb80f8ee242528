-- Where a text is wrong (request R-1). The readers stop where the definitions of specs/Language
-- say: `wrong-exactly` and `incomplete-exactly`; the tests for answers 5 and 14 exclude each other,
-- and one of them is true exactly if the text has no tree (`wrong-or_incomplete`, `tree-there`);
-- and so a search that answers 5 or 14 tells where the query's text is wrong or that it could go on
-- (`answered-5`, `answered-14`).
use mathlib.Core.Path.{◌≡◌, refl, sym, ap, ◌∙◌, subst}
use mathlib.Core.Bool.{Bool, true, false, ◌&&◌, ◌||◌, true≢false, and-eq-true_iff}
use mathlib.Core.List.{List, [], ◌∷◌, ◌++◌, append_assoc, append-nil}
use mathlib.Core.Logic.{◌↔◌}
use mathlib.Core.Option.{Option, none, some}
use Prim.Native.Nat.{ℕ, ◌+◌, ◌*◌, ◌≤◌, ◌<◌}
use native.Mathlib.Omega.{arith}
use lib.Dec.{eqb, ltb}
use lib.IntN.{ℤ}
use lib.ListN.{length, take, drop, take-append-drop, length-append}
use lib.Seq.{take-append-le, take-append-add, take-length}
use borrow.Author.Tests.{lt-ltb, ltb-false, ltb-true, eq-eqb, eqb-true, eqb-false, lt-leb}
use Rattle.rules.specs.Basics.{pick}
use Rattle.rules.specs.Language.{Tree, pattern, Written, BeginsText, WrongAt, Unfinished}
use Rattle.rules.specs.Reader.{Reading, got, bad, left, skip_spaces, read, depth, rank_of, whole_tree, tree_of, stop_of}
use Rattle.rules.specs.Query.{text_of}
use Rattle.rules.specs.Answers.{no_tree, wrong, incomplete, offset_at, bad_rows, Buffers, short_notes, short_trail, end_answer, Test, query_tests, refusal, answer_by, refuses, refused, walk_within, answer_within, search_within}
use Rattle.laws.proofs.GrammarSound.{read-begins, found-written}
use Rattle.laws.proofs.GrammarComplete.{written-found}
use Rattle.laws.proofs.Depth.{skip_shorter, read-enough, tree-by_depth}
use Rattle.laws.proofs.FirstTrue.{end-accepted, applies, given-applies}
use Rattle.laws.proofs.Ahead.{other, other-on, other-skip, Same, read_same}

-- the beginning of what begins a text of the language does so too
pub begins-front : (a b : List ℕ) → BeginsText (a ++ b) → BeginsText a
unfolding BeginsText
begins-front a b h = (b ++ h.0, h.1, subst (Written h.1) (append_assoc a b h.0) h.2)

-- a text of the language begins one
pub written-begins : (p : Tree pattern) (s : List ℕ) → Written p s → BeginsText s
unfolding BeginsText
written-begins p s h = ([], p, subst (Written p) (sym (append-nil s)) h)

-- ---- bytes that are exchanged

other-end : (m : ℕ) (v s : List ℕ) → length s ≤ m → other m v s ≡ v
unfolding other
other-end m v [] h = refl
other-end m v (b ∷ s) h = rw (lt-leb m (length s) (omega arith))

other-is : (b : ℕ) (w u v : List ℕ) → other (length u) v (w ++ (b ∷ u)) ≡ w ++ (b ∷ v)
other-is b [] u v = other-on (length u) v b u (omega arith) ∙ ap (λ (x : List ℕ). b ∷ x) (other-end (length u) v u (omega arith))
other-is b (c ∷ w) u v = other-on (length u) v c (w ++ (b ∷ u)) (rw (length-append w (b ∷ u)) (omega arith)) ∙ ap (λ (x : List ℕ). c ∷ x) (other-is b w u v)

-- ---- no text of the language begins with what is read and the byte at which reading stops

module _ (text w : List ℕ) (b : ℕ) (u : List ℕ) (e : text ≡ w ++ (b ∷ u)) (l : left (read (4 * length text + 4) pattern (skip_spaces text)) ≡ b ∷ u) (v : List ℕ) where
  abbrev t : List ℕ
  t = w ++ (b ∷ v)

  abbrev N : ℕ
  N = 4 * length text + 4 + (4 * length t + 4)

  at-depth : read (4 * length text + 4) pattern (skip_spaces text) ≡ read N pattern (skip_spaces text)
  unfolding depth rank_of
  at-depth = read-enough (4 * length text + 4) N pattern (skip_spaces text) (omega (arith, skip_shorter text)) (omega (arith, skip_shorter text))

  exchanged : other (length u) v text ≡ t
  exchanged = ap (other (length u) v) e ∙ other-is b w u v

  -- with the byte b the readers stop at it, whatever follows
  stops_too : (r : Reading (Tree pattern)) → left r ≡ b ∷ u → Same (length u) v (skip_spaces text) r (read N pattern (other (length u) v (skip_spaces text))) → whole_tree (read N pattern (skip_spaces t)) ≡ none
  unfolding Same left whole_tree
  stops_too (bad x) q h =
      let k = h (rw q (omega arith)) in
      ap (λ (y : List ℕ). whole_tree (read N pattern (skip_spaces y))) (sym exchanged) ∙ rw (other-skip (length u) v text k.0, k.1) refl
  stops_too (got p x) q h =
      let k = h (rw q (omega arith)) in
      let z : other (length u) v x ≡ b ∷ other (length u) v u = ap (other (length u) v) q ∙ other-on (length u) v b u (omega arith) in
      ap (λ (y : List ℕ). whole_tree (read N pattern (skip_spaces y))) (sym exchanged) ∙ rw (other-skip (length u) v text k.0, k.1, z) refl

  pub no-tree : tree_of t ≡ none
  unfolding depth rank_of
  no-tree =
      tree-by_depth N t (omega (arith, skip_shorter t))
      ∙ stops_too (read N pattern (skip_spaces text)) (ap left (sym at-depth) ∙ l) (read_same (length u) v N pattern (skip_spaces text))

-- ---- where reading stops

-- what is read of a text, up to where reading stops
record Stopped (text : List ℕ) : Type 0 where
  front : List ℕ
  is : text ≡ front ++ left (read (4 * length text + 4) pattern (skip_spaces text))
  begun : BeginsText front
  stop : stop_of text ≡ length front

stopped : (text : List ℕ) → Stopped text
unfolding stop_of
stopped text =
    let k = read-begins (4 * length text + 4) text in
    let n : length text ≡ length k.0 + length (left (read (4 * length text + 4) pattern (skip_spaces text))) = ap length k.1 ∙ length-append k.0 _ in
    record { front = k.0; is = k.1; begun = k.2; stop = omega arith }

pub stop-inside : (text : List ℕ) → stop_of text ≤ length text
unfolding stop_of
stop-inside text = omega arith

-- up to there, every beginning of the text begins a text of the language
pub stop-begins : (text : List ℕ) (j : ℕ) → j ≤ stop_of text → BeginsText (take j text)
stop-begins text j h =
    let k = stopped text in
    let i : take j text ≡ take j k.front = ap (take j) k.is ∙ take-append-le j k.front _ (omega (arith, k.stop)) in
    subst BeginsText (sym i) (begins-front (take j k.front) (drop j k.front) (subst BeginsText (sym (take-append-drop j k.front)) k.begun))

-- and with the byte there, none
pub stop-ends : (text : List ℕ) → stop_of text < length text → BeginsText (take (stop_of text + 1) text) → ⊥
unfolding BeginsText
stop-ends text h g = go (left (read (4 * length text + 4) pattern (skip_spaces text))) refl
  where
    go : (x : List ℕ) → left (read (4 * length text + 4) pattern (skip_spaces text)) ≡ x → ⊥
    go [] e =
        let k = stopped text in
        let n : length text ≡ length k.front + 0 = ap length (k.is ∙ ap (λ (x : List ℕ). k.front ++ x) e) ∙ length-append k.front [] in
        omega (arith, k.stop)
    go (b ∷ u) e =
        let k = stopped text in
        let c : text ≡ k.front ++ (b ∷ u) = k.is ∙ ap (λ (x : List ℕ). k.front ++ x) e in
        let i : take (stop_of text + 1) text ≡ k.front ++ (b ∷ []) =
        ap (λ (n : ℕ). take (n + 1) text) k.stop ∙ ap (take (length k.front + 1)) c ∙ take-append-add k.front (b ∷ u) 1 in
        let w : Written g.1 (k.front ++ (b ∷ g.0)) =
        subst (Written g.1) (ap (λ (x : List ℕ). x ++ g.0) i ∙ append_assoc k.front (b ∷ []) g.0) g.2 in
        let f = written-found g.1 (k.front ++ (b ∷ g.0)) w in
        let n = no-tree text k.front b u c e g.0 in
        let z : ◌≡◌ {A = ℕ} 0 1 = cc in omega arith

-- ---- the tests for answers 5 and 14

no-tree_is : (x : Option (Tree pattern)) → no_tree x ≡ true → x ≡ none
unfolding no_tree
no-tree_is none e = refl
no-tree_is (some p) e = absurd (true≢false (sym e))

no-tree_of : (text : List ℕ) → ((p : Tree pattern) → Written p text → ⊥) → no_tree (tree_of text) ≡ true
unfolding no_tree
no-tree_of text f = go (tree_of text) refl
  where
    go : (x : Option (Tree pattern)) → tree_of text ≡ x → no_tree x ≡ true
    go none e = refl
    go (some p) e = absurd (f p (found-written p text e))

not_written : (text : List ℕ) → no_tree (tree_of text) ≡ true → (p : Tree pattern) → Written p text → ⊥
not_written text e p w =
    let f = written-found p text w in let n = no-tree_is (tree_of text) e in
    let z : ◌≡◌ {A = ℕ} 0 1 = cc in omega arith

-- Answer 5 and its offset: the text is wrong at byte k exactly if the test is true and k is where
-- reading stops
pub wrong-exactly : (text : List ℕ) (k : ℕ) → ((wrong text ≡ true) × (stop_of text ≡ k)) ↔ WrongAt text k
unfolding wrong
wrong-exactly text k = (there, back)
  where
    there : (wrong text ≡ true) × (stop_of text ≡ k) → WrongAt text k
    there h =
        let t = (and-eq-true_iff (no_tree (tree_of text)) (ltb (stop_of text) (length text))).0 h.0 in
        let l = ltb-true (stop_of text) (length text) t.1 in
        subst (WrongAt text) h.1 (record { inside = l; begins = stop-begins text; ends = stop-ends text l })

    back : WrongAt text k → (wrong text ≡ true) × (stop_of text ≡ k)
    back h =
        let a : stop_of text < k → ⊥ = λ l. stop-ends text (omega (arith, h.inside)) (h.begins (stop_of text + 1) (omega arith)) in
        let b : k < stop_of text → ⊥ = λ l. h.ends (stop-begins text (k + 1) (omega arith)) in
        let q : stop_of text ≡ k = omega (arith, a, b) in
        let l : stop_of text < length text = omega (arith, h.inside) in
        let n : no_tree (tree_of text) ≡ true = no-tree_of text λ p w.
        h.ends (begins-front (take (k + 1) text) (drop (k + 1) text) (subst BeginsText (sym (take-append-drop (k + 1) text)) (written-begins p text w))) in
        (rw (n, lt-ltb (stop_of text) (length text) l) refl, q)

-- Answer 14: the text ends but could go on exactly if the test is true
pub incomplete-exactly : (text : List ℕ) → (incomplete text ≡ true) ↔ Unfinished text
unfolding incomplete
incomplete-exactly text = (there, back)
  where
    there : incomplete text ≡ true → Unfinished text
    there h =
        let t = (and-eq-true_iff (no_tree (tree_of text)) (eqb (stop_of text) (length text))).0 h in
        let l = eqb-true (stop_of text) (length text) t.1 in
        record { begins = subst BeginsText (take-length text) (stop-begins text (length text) (omega arith)); outside = not_written text t.0 }

    back : Unfinished text → incomplete text ≡ true
    back h =
        let a : stop_of text < length text → ⊥ = λ l. stop-ends text l
        (begins-front (take (stop_of text + 1) text) (drop (stop_of text + 1) text) (subst BeginsText (sym (take-append-drop (stop_of text + 1) text)) h.begins)) in
        let q : stop_of text ≡ length text = omega (arith, a, stop-inside text) in
        rw (no-tree_of text h.outside, eq-eqb (stop_of text) (length text) q) refl

-- they exclude each other, and one of them is true exactly if the text has no tree
pub wrong-or_incomplete : (text : List ℕ) → wrong text ≡ true → incomplete text ≡ true → ⊥
unfolding wrong incomplete
wrong-or_incomplete text a b =
    let l = ltb-true (stop_of text) (length text) ((and-eq-true_iff (no_tree (tree_of text)) (ltb (stop_of text) (length text))).0 a).1 in
    let e = eqb-true (stop_of text) (length text) ((and-eq-true_iff (no_tree (tree_of text)) (eqb (stop_of text) (length text))).0 b).1 in
    omega arith

pub tree-there : (text : List ℕ) → wrong text ≡ false → incomplete text ≡ false → no_tree (tree_of text) ≡ false
unfolding wrong incomplete
tree-there text a b = go (no_tree (tree_of text)) a b
  where
    go : (t : Bool) → (t && ltb (stop_of text) (length text)) ≡ false → (t && eqb (stop_of text) (length text)) ≡ false → t ≡ false
    go false c d = refl
    go true c d = absurd (eqb-false (stop_of text) (length text) d (let l = ltb-false (stop_of text) (length text) c in let k = stop-inside text in omega arith))

-- ---- what a search tells, within an allowance of steps or without one

module _ (a : Option ℕ) (q : List ℕ) (rows : List ℤ) (lent : Buffers) where
  -- the tests of all refusals, in their order
  abbrev tests : List Test
  tests = query_tests q ++ ((10, bad_rows q rows) ∷ (11, short_notes q rows lent) ∷ (12, short_trail q rows lent) ∷ [])

  -- an answer that refuses is none of the search's end
  pub refusal_is : (k : ℕ) → refuses k ≡ true → answer_within a q rows lent ≡ k → refusal q rows lent ≡ k
  unfolding answer_within answer_by
  refusal_is k t e = go (eqb (refusal q rows lent) 0) e
    where
      go : (b : Bool) → pick b (end_answer (walk_within a q rows lent).end) (refusal q rows lent) ≡ k → refusal q rows lent ≡ k
      go true d = absurd (true≢false (sym t ∙ ap refuses (sym d) ∙ end-accepted (walk_within a q rows lent).end))
      go false d = d

  only-left : (b : Bool) → (b || false) ≡ true → b ≡ true
  only-left true e = refl
  only-left false e = e

  -- the offset that a refusal returns
  offset_is : (k : ℕ) → refuses k ≡ true → answer_within a q rows lent ≡ k → (search_within a q rows lent).result.offset ≡ offset_at (text_of q) k
  unfolding search_within refused
  offset_is k t e = rw (e, t) refl

  -- answer 5: the query's text is wrong at the offset returned
  pub answered-5 : answer_within a q rows lent ≡ 5 → WrongAt (text_of q) (search_within a q rows lent).result.offset
  unfolding refusal query_tests applies refuses offset_at
  answered-5 e =
      let t : wrong (text_of q) ≡ true = only-left (wrong (text_of q)) (given-applies tests 5 (λ z. omega arith) (refusal_is 5 refl e)) in
      (wrong-exactly (text_of q) (search_within a q rows lent).result.offset).0 (t, sym (offset_is 5 refl e))

  -- answer 14: it could go on, and its length is returned
  pub answered-14 : answer_within a q rows lent ≡ 14 → Unfinished (text_of q) × ((search_within a q rows lent).result.offset ≡ length (text_of q))
  unfolding refusal query_tests applies refuses offset_at incomplete
  answered-14 e =
      let t : incomplete (text_of q) ≡ true = only-left (incomplete (text_of q)) (given-applies tests 14 (λ z. omega arith) (refusal_is 14 refl e)) in
      let s = (and-eq-true_iff (no_tree (tree_of (text_of q))) (eqb (stop_of (text_of q)) (length (text_of q)))).0 t in
      ((incomplete-exactly (text_of q)).0 t, offset_is 14 refl e ∙ eqb-true (stop_of (text_of q)) (length (text_of q)) s.1)
