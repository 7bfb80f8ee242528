-- Writing: four words are the number again, and nine words are what the query's comparison says.
use Rattle.std.proofs.Common.{◌≡◌, ℕ, ◌+◌, ◌*◌, ◌/◌, ◌%◌, ◌<◌, ◌≤◌, List, length, get_or, set, ap, ◌∙◌, arith, length-set, get_or-set_other, get_or-set_same}
use Rattle.table.specs.Tests.{word64, raised, raised_word, tested_by, low_of, width_of}
use Rattle.interval_words.specs.Interval.{written_number, Word64Put, NineRoom, NinePut, IntervalPut}
use Rattle.interval_words.proofs.First.{word64-same}

-- ---- four words

four-whole : (x a b c d : ℕ) → a ≡ x % 65536 → b ≡ x / 65536 % 65536 → c ≡ x / 4294967296 % 65536 → d ≡ x / 281474976710656 →
    a + b * 65536 + c * 4294967296 + d * 281474976710656 ≡ x
four-whole x a b c d ea eb ec ed = omega arith

module _ (T : List ℕ) (at a b c d : ℕ) where
  abbrev s1 : List ℕ
  s1 = set T at a

  abbrev s2 : List ℕ
  s2 = set s1 (at + 1) b

  abbrev s3 : List ℕ
  s3 = set s2 (at + 2) c

  abbrev s4 : List ℕ
  s4 = set s3 (at + 3) d

  four-other : (j : ℕ) → (at ≤ j → j < at + 4 → ⊥) → get_or s4 j 0 ≡ get_or T j 0
  four-other j h =
      get_or-set_other s3 (at + 3) j d 0 (λ q. h (omega arith) (omega arith))
      ∙ get_or-set_other s2 (at + 2) j c 0 (λ q. h (omega arith) (omega arith))
      ∙ get_or-set_other s1 (at + 1) j b 0 (λ q. h (omega arith) (omega arith))
      ∙ get_or-set_other T at j a 0 (λ q. h (omega arith) (omega arith))

  module _ (room : at + 4 ≤ length T) where
    four-0 : get_or s4 at 0 ≡ a
    four-0 =
        get_or-set_other s3 (at + 3) at d 0 (λ q. omega arith) ∙ get_or-set_other s2 (at + 2) at c 0 (λ q. omega arith)
        ∙ get_or-set_other s1 (at + 1) at b 0 (λ q. omega arith) ∙ get_or-set_same T at a 0 (omega arith)

    four-1 : get_or s4 (at + 1) 0 ≡ b
    four-1 =
        get_or-set_other s3 (at + 3) (at + 1) d 0 (λ q. omega arith) ∙ get_or-set_other s2 (at + 2) (at + 1) c 0 (λ q. omega arith)
        ∙ get_or-set_same s1 (at + 1) b 0 (simp length-set (omega arith))

    four-2 : get_or s4 (at + 2) 0 ≡ c
    four-2 =
        get_or-set_other s3 (at + 3) (at + 2) d 0 (λ q. omega arith) ∙ get_or-set_same s2 (at + 2) c 0 (simp length-set (omega arith))

    four-3 : get_or s4 (at + 3) 0 ≡ d
    four-3 = get_or-set_same s3 (at + 3) d 0 (simp length-set (omega arith))

    four_is : (x : ℕ) → a ≡ x % 65536 → b ≡ x / 65536 % 65536 → c ≡ x / 4294967296 % 65536 → d ≡ x / 281474976710656 → word64 s4 at ≡ x
    unfolding word64
    four_is x ea eb ec ed =
        four-whole x (get_or s4 at 0) (get_or s4 (at + 1) 0) (get_or s4 (at + 2) 0) (get_or s4 (at + 3) 0) (four-0 ∙ ea) (four-1 ∙ eb) (four-2 ∙ ec) (four-3 ∙ ed)

    pub four-put : (x : ℕ) → a ≡ x % 65536 → b ≡ x / 65536 % 65536 → c ≡ x / 4294967296 % 65536 → d ≡ x / 281474976710656 → Word64Put T s4 at x
    four-put x ea eb ec ed = record { len = simp length-set; is = four_is x ea eb ec ed; kept = four-other }

-- ---- nine words

pub nine_long : (T : List ℕ) (i kind : ℕ) (T₁ : List ℕ) (j low : ℕ) (T₂ : List ℕ) (k width : ℕ) → Word64Put (set T i kind) T₁ j low → Word64Put T₁ T₂ k width → length T₂ ≡ length T
nine_long T i kind T₁ j low T₂ k width first second = second.len ∙ first.len ∙ length-set T i kind

module _ (T : List ℕ) (at kind : ℕ) (h : NineRoom T at kind) where
  -- one word is put, whichever it is: then there is room for the others
  module _ (i word : ℕ) where
    pub low-room : at + 8 + 4 ≤ length (set T i word)
    low-room = simp length-set (let r = h.room in omega arith)

    pub width_room : (T₁ : List ℕ) (low : ℕ) → Word64Put (set T i word) T₁ (at + 8) low → at + 12 + 4 ≤ length T₁
    width_room T₁ low first = let r = h.room in let e = first.len ∙ length-set T i word in omega arith

  -- it is the right kind
  module _ (T₁ : List ℕ) (low : ℕ) (first : Word64Put (set T (at + 7) kind) T₁ (at + 8) low) where
    module _ (T₂ : List ℕ) (width : ℕ) (second : Word64Put T₁ T₂ (at + 12) width) where
      pub nine_put : NinePut T T₂ at kind low width
      nine_put = record {
        len = nine_long T (at + 7) kind T₁ (at + 8) low T₂ (at + 12) width first second;
        kind_is =
            second.kept (at + 7) (λ a b. omega arith)
            ∙ first.kept (at + 7) (λ a b. omega arith)
            ∙ get_or-set_same T (at + 7) kind 0 (let r = h.room in omega arith);
        low_is = word64-same T₁ T₂ (at + 8) (λ j a b. second.kept j (λ c d. omega arith)) ∙ first.is;
        width_is = second.is;
        kept = λ j f.
            second.kept j (λ a b. f (omega arith) (omega arith))
            ∙ first.kept j (λ a b. f (omega arith) (omega arith))
            ∙ get_or-set_other T (at + 7) j kind 0 (λ q. f (omega arith) (omega arith));
      }

-- ---- those of a comparison

module _ (s : List ℕ) (p : ℕ) (T T' : List ℕ) (at op right kind x first low width : ℕ) (e-op : op ≡ get_or s (p + 2) 0) (e-right : right ≡ get_or s (p + 3) 0) (e-kind : kind ≡ tested_by right)
    (e-x : x ≡ raised (written_number s p)) (e-first : first ≡ low_of op x) (e-low : (low + 8589934592) % 18446744073709551616 ≡ first) (e-width : width ≡ width_of op x)
    (put : NinePut T T' at kind low width) where
  pub interval_put : IntervalPut s p T T' at
  unfolding raised_word
  interval_put = record {
    len = put.len;
    kind_is = put.kind_is ∙ e-kind ∙ ap tested_by e-right;
    low_is = ap raised_word put.low_is ∙ e-low ∙ e-first ∙ ap (λ (o : ℕ). low_of o x) e-op ∙ ap (low_of (get_or s (p + 2) 0)) e-x;
    width_is = put.width_is ∙ e-width ∙ ap (λ (o : ℕ). width_of o x) e-op ∙ ap (width_of (get_or s (p + 2) 0)) e-x;
    kept = put.kept;
  }
