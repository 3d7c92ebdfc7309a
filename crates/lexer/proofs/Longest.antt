-- Tokens are read by longest match: `token_at` answers the token that stands first, the end of the text, or what is no token, as Spelling says
-- it apart from any way of reading. Assumes nothing.
use mathlib.Core.Path.{◌≡◌, refl, ap, sym, ◌∙◌, subst}
use mathlib.Core.List.{List, [], ◌∷◌}
use mathlib.Core.Bool.{Bool, true, false}
use Prim.Native.Nat.{ℕ, ◌+◌, ◌≤◌, ◌<◌}
use native.Mathlib.Omega.{arith}
use lib.ListN.{length, get_or}
use lib.Dec.{eqb, ltb}
use native.Mathlib.Nat.{le_refl}
use borrow.Author.Tests.{eqb-true, eq-eqb, ltb-true, ltb-false, lt-ltb, le-ltb}
use mathlib.Core.Logic.{◌⊎◌, inl, inr}
use Rattle.lexer.specs.Bytes.{part, same_bytes}
use Rattle.lexer.specs.Token.{Kind, kind_number, unknown, ending, name, previous, digits, is, TokenRead, token, fault}
use Rattle.lexer.specs.Lexer.{is_space, is_digit, is_letter, is_alphanumeric, run_end, word_of, pair_of, sign_of, read_of, sign_at, word_at, digits_at, previous_at, token_of, token_past, token_at}
use Rattle.lexer.specs.Spelling.{AllBytes, IsWord, SpellsName, Spelling, TokenFrom, Separated, FirstRead, a_token, the_end, no_token_lem, ReadsTokens}
use Rattle.lexer.proofs.Laws.{cond_prop, second_byte, letter_in_run, run_out, run_stop, run_from, run_within, run_some}
use Rattle.lexer.proofs.Same.{same_kind}
use Rattle.lexer.proofs.Values.{part_none, part_cons}
use Rattle.lexer.proofs.Spellings.{word-name, name_word, word_spelled, part_all, run_word, run_digits, in_text_lem, sign_spelled, pair_spelled, part_one, part_two, digit_letter, one_kind}
use Rattle.lexer.proofs.Begins.{clash, run_through, in_run, run_over, Begins, letters, numerals, underscore, one_byte, two_bytes, begins, no_previous}

name_name : is name name ≡ true
unfolding is kind_number
name_name = refl

-- a letter, and a digit, is no `_`
underscore_no_letter : is_letter 95 ≡ false
unfolding is_letter
underscore_no_letter = refl

underscore_no_digit : is_digit 95 ≡ false
unfolding is_digit
underscore_no_digit = refl

no_underscore : (p : ℕ → Bool) → p 95 ≡ false → (b : ℕ) → p b ≡ true → eqb b 95 ≡ false
no_underscore p f b e = go (eqb b 95) refl
  where
    go : (t : Bool) → eqb b 95 ≡ t → eqb b 95 ≡ false
    go true t = absurd (clash (ap p (sym (eqb-true b 95 t)) ∙ e) f)
    go false t = t

letter_underscore : (b : ℕ) → is_letter b ≡ true → eqb b 95 ≡ false
letter_underscore b e = no_underscore is_letter underscore_no_letter b e

digit_underscore : (b : ℕ) → is_digit b ≡ true → eqb b 95 ≡ false
digit_underscore b e = no_underscore is_digit underscore_no_digit b e

-- ---- the token that is read at s, where the text goes on

abbrev ReadFrom : List ℕ → ℕ → TokenRead → Type 0
ReadFrom text s (token k t n) = (t ≡ s) × TokenFrom text s n k
ReadFrom text s (fault p) = (p ≡ s) × ((k : Kind) (n : ℕ) → TokenFrom text s n k → ⊥)

module _ (text : List ℕ) (s : ℕ) (l : s < length text) where
  abbrev a : ℕ
  a = get_or text s 0

  abbrev a2 : ℕ
  a2 = get_or text (s + 1) 0

  -- a run of letters and digits reaches as far as anything that spells a token from its first letter
  reached : (p : ℕ) → p < length text → is_letter (get_or text p 0) ≡ true → (m : ℕ) (j : Kind) → run_end is_alphanumeric text p < m → m ≤ length text → Spelling j (part text p m) → ⊥
  reached p g e m j h i sp = by (begins text p m (omega (arith, run_from is_alphanumeric text p)) i j sp)
    where
      by : Begins text p m → ⊥
      by (letters f r) = omega arith
      by (numerals f r) = clash e (digit_letter _ f)
      by (underscore f r) = clash (eq-eqb _ 95 f) (letter_underscore _ e)
      by (one_byte f g2 u r k) = clash e f
      by (two_bytes f g2 u r k) = clash e f

  read_word : is_letter a ≡ true → ReadFrom text s (word_at text s)
  unfolding word_at
  read_word e =
      let n = run_end is_alphanumeric text s in
      let some : s < n = run_some is_alphanumeric text s l (letter_in_run a e) in
      let in-n : n ≤ length text = run_within is_alphanumeric text s (omega arith) in
      let sp = word_spelled (part text s n) (run_word text s l e) in (
        refl,
        record {
          some_bytes = some;
          within = in-n;
          spells = sp;
          longest = reached s l e;
          longest_name = λ q m j h i x. no_previous text s n some in-n (word_of (part text s n)) sp (letter_underscore a e) q;
        },
      )

  read_digits : is_digit a ≡ true → ReadFrom text s (digits_at text s)
  unfolding digits_at
  read_digits e =
      let n = run_end is_digit text s in
      let some : s < n = run_some is_digit text s l e in
      let in-n : n ≤ length text = run_within is_digit text s (omega arith) in
      let sp = run_digits text s l e in (
        refl,
        record {
          some_bytes = some;
          within = in-n;
          spells = sp;
          longest = λ m j h i x. by m h (begins text s m (omega arith) i j x);
          longest_name = λ q m j h i x. no_previous text s n some in-n digits sp (digit_underscore a e) q;
        },
      )
    where
      by : (m : ℕ) → run_end is_digit text s < m → Begins text s m → ⊥
      by m h (letters f r) = clash f (digit_letter _ e)
      by m h (numerals f r) = omega arith
      by m h (underscore f r) = clash (eq-eqb _ 95 f) (digit_underscore _ e)
      by m h (one_byte f g u r k) = clash e g
      by m h (two_bytes f g u r k) = clash e g

  -- `_` at s: with a name directly behind it, before a word of the grammar, before anything else
  module _ (u : eqb a 95 ≡ true) where
    abbrev e : ℕ
    e = run_end is_alphanumeric text (s + 1)

    -- what spells a token from there is `_` and a name
    named : (m : ℕ) → s < m → m ≤ length text → (j : Kind) → Spelling j (part text s m) → SpellsName (part text (s + 1) m)
    named m h i j sp = by (begins text s m h i j sp)
      where
        by : Begins text s m → SpellsName (part text (s + 1) m)
        by (letters f r) = absurd (clash u (letter_underscore _ f))
        by (numerals f r) = absurd (clash u (digit_underscore _ f))
        by (underscore f r) = r
        by (one_byte f g v r k) = absurd (clash u v)
        by (two_bytes f g v r k) = absurd (clash u v)

    -- so it has a letter behind the `_`, and is within the run
    name_letter : (m : ℕ) → s < m → m ≤ length text → SpellsName (part text (s + 1) m) → (is_letter a2 ≡ true) × (s + 1 < m) × (m ≤ e)
    name_letter m h i w = go (ltb (s + 1) m) refl
      where
        go : (t : Bool) → ltb (s + 1) m ≡ t → (is_letter a2 ≡ true) × (s + 1 < m) × (m ≤ e)
        go true t =
            let q = ltb-true (s + 1) m t in
            let p = part_cons text (s + 1) m q i in
            let v : (is_letter a2 ≡ true) × AllBytes is_alphanumeric (part text (s + 1 + 1) m) = subst IsWord p w.is_word in
            let all : AllBytes is_alphanumeric (part text (s + 1) m) = rw p (letter_in_run a2 v.0, v.1) in
            (v.0, q, in_run is_alphanumeric text (s + 1) m (omega arith) i all)
        go false t =
            let q = ltb-false (s + 1) m t in
            let z : part text (s + 1) m ≡ [] = part_none text (s + 1) m q in
            absurd (subst IsWord z w.is_word)

    no_name : is_letter a2 ≡ false → (k : Kind) (n : ℕ) → TokenFrom text s n k → ⊥
    no_name f k n t = let r = name_letter n t.some_bytes t.within (named n t.some_bytes t.within k t.spells) in clash r.0 f

    -- a token there is a previous value, whose name is no word
    before_word : is_letter a2 ≡ true → is (word_of (part text (s + 1) e)) name ≡ false → (k : Kind) (n : ℕ) → TokenFrom text s n k → ⊥
    before_word f g k n t = go (ltb n e) refl
      where
        w : SpellsName (part text (s + 1) n)
        w = named n t.some_bytes t.within k t.spells

        in_e : e ≤ length text
        in_e = run_within is_alphanumeric text (s + 1) (omega arith)

        i : s + 1 < length text
        i = in_text_lem text (s + 1) f

        whole : Spelling (word_of (part text (s + 1) e)) (part text (s + 1) e)
        whole = word_spelled (part text (s + 1) e) (run_word text (s + 1) i f)

        is_previous : k ≡ previous
        is_previous = one_kind k previous (part text s n) t.spells (record { rest = part text (s + 1) n; is_cons = part_cons text s n t.some_bytes t.within ∙ ap (λ (x : ℕ). x ∷ part text (s + 1) n) (eqb-true a 95 u); is_name = w })

        go : (q : Bool) → ltb n e ≡ q → ⊥
        go true q = t.longest_name is_previous e (word_of (part text (s + 1) e)) (ltb-true n e q) in_e whole
        go false q =
            let r = name_letter n t.some_bytes t.within w in
            let x : n ≡ e = omega (arith, ltb-false n e q, r.2) in
            let y : word_of (part text (s + 1) e) ≡ name = subst (λ (z : ℕ). word_of (part text (s + 1) z) ≡ name) x (word-name (part text (s + 1) n) w.no_word) in
            clash (ap (λ (z : Kind). is z name) y ∙ name_name) g

    before_name : is_letter a2 ≡ true → is (word_of (part text (s + 1) e)) name ≡ true → TokenFrom text s e previous
    before_name f g =
        let i = in_text_lem text (s + 1) f in
        let some : s + 1 < e = run_some is_alphanumeric text (s + 1) i (letter_in_run a2 f) in
        let in_e : e ≤ length text = run_within is_alphanumeric text (s + 1) (omega arith) in
        record {
          some_bytes = omega arith;
          within = in_e;
          spells = record {
            rest = part text (s + 1) e;
            is_cons = part_cons text s e (omega arith) in_e ∙ ap (λ (x : ℕ). x ∷ part text (s + 1) e) (eqb-true a 95 u);
            is_name = record { is_word = run_word text (s + 1) i f; no_word = name_word (part text (s + 1) e) (same_kind _ _ g) };
          };
          longest = λ m j h k sp. let r = name_letter m (omega arith) k (named m (omega arith) k j sp) in omega (arith, r.2);
          longest_name = λ q m j h k sp. reached (s + 1) i f m j h k sp;
        }

    read_previous : ReadFrom text s (previous_at text s)
    unfolding previous_at
    read_previous =
        cond_prop (ReadFrom text s) (is_letter a2) _ _
        (λ f. cond_prop (ReadFrom text s) (is (word_of (part text (s + 1) e)) name) _ _ (λ g. (refl, before_name f g)) (λ g. (refl, before_word f g)))
        (λ f. (refl, no_name f))

  -- ---- a sign

  module _ (f : is_letter a ≡ false) (g : is_digit a ≡ false) (u : eqb a 95 ≡ false) where
    -- what spells a token from there is a sign
    ends : (m : ℕ) → s < m → m ≤ length text → (j : Kind) → Spelling j (part text s m) → ((m ≡ s + 1) × (is (sign_of a) unknown ≡ false)) ⊎ ((m ≡ s + 2) × (is (pair_of a a2) unknown ≡ false))
    ends m h i j sp = by (begins text s m h i j sp)
      where
        by : Begins text s m → ((m ≡ s + 1) × (is (sign_of a) unknown ≡ false)) ⊎ ((m ≡ s + 2) × (is (pair_of a a2) unknown ≡ false))
        by (letters x r) = absurd (clash x f)
        by (numerals x r) = absurd (clash x g)
        by (underscore x r) = absurd (clash (eq-eqb _ 95 x) u)
        by (one_byte x y z r k) = inl (r, k)
        by (two_bytes x y z r k) = inr (r, k)

    two_token : is (pair_of a a2) unknown ≡ false → TokenFrom text s (s + 2) (pair_of a a2)
    two_token k =
        let in-n : s + 2 ≤ length text = second_byte text s a k l in
        let sp : Spelling (pair_of a a2) (part text s (s + 2)) = rw (part_two text s in-n) (pair_spelled a a2 k) in
        record {
          some_bytes = omega arith;
          within = in-n;
          spells = sp;
          longest = λ m j h i x. past m h (ends m (omega arith) i j x);
          longest_name = λ q m j h i x. no_previous text s (s + 2) (omega arith) in-n (pair_of a a2) sp u q;
        }
      where
        past : (m : ℕ) → s + 2 < m → ((m ≡ s + 1) × (is (sign_of a) unknown ≡ false)) ⊎ ((m ≡ s + 2) × (is (pair_of a a2) unknown ≡ false)) → ⊥
        past m h (inl r) = omega (arith, r.0)
        past m h (inr r) = omega (arith, r.0)

    one_token : is (pair_of a a2) unknown ≡ true → is (sign_of a) unknown ≡ false → TokenFrom text s (s + 1) (sign_of a)
    one_token n k =
        let in-n : s + 1 ≤ length text = omega arith in
        let sp : Spelling (sign_of a) (part text s (s + 1)) = rw (part_one text s in-n) (sign_spelled a k) in
        record {
          some_bytes = omega arith;
          within = in-n;
          spells = sp;
          longest = λ m j h i x. past m h (ends m (omega arith) i j x);
          longest_name = λ q m j h i x. no_previous text s (s + 1) (omega arith) in-n (sign_of a) sp u q;
        }
      where
        past : (m : ℕ) → s + 1 < m → ((m ≡ s + 1) × (is (sign_of a) unknown ≡ false)) ⊎ ((m ≡ s + 2) × (is (pair_of a a2) unknown ≡ false)) → ⊥
        past m h (inl r) = omega (arith, r.0)
        past m h (inr r) = clash n r.1

    no_sign : is (pair_of a a2) unknown ≡ true → is (sign_of a) unknown ≡ true → (k : Kind) (n : ℕ) → TokenFrom text s n k → ⊥
    no_sign x y k n t = by (ends n t.some_bytes t.within k t.spells)
      where
        by : ((n ≡ s + 1) × (is (sign_of a) unknown ≡ false)) ⊎ ((n ≡ s + 2) × (is (pair_of a a2) unknown ≡ false)) → ⊥
        by (inl r) = clash y r.1
        by (inr r) = clash x r.1

    read_sign : ReadFrom text s (sign_at a a2 s)
    unfolding sign_at read_of
    read_sign =
        cond_prop (ReadFrom text s) (is (pair_of a a2) unknown) _ _
        (λ x. cond_prop (ReadFrom text s) (is (sign_of a) unknown) _ _ (λ y. (refl, no_sign x y)) (λ y. (refl, one_token x y)))
        (λ x. (refl, two_token x))

  read_from : ReadFrom text s (token_of text s a)
  unfolding token_of
  read_from =
      cond_prop (ReadFrom text s) (is_letter a) _ _ read_word
      (λ f. cond_prop (ReadFrom text s) (is_digit a) _ _ read_digits
      (λ g. cond_prop (ReadFrom text s) (eqb a 95) _ _ read_previous (λ u. read_sign f g u)))

-- ---- the claim

-- no token begins with a byte that separates
abbrev NoStart : ℕ → ℕ → Type 0
NoStart b c = (is_letter b ≡ false) × (is_digit b ≡ false) × (eqb b 95 ≡ false) × (is (sign_of b) unknown ≡ true) × (is (pair_of b c) unknown ≡ true)

no_start : (c : ℕ) → NoStart 32 c × NoStart 9 c × NoStart 10 c × NoStart 13 c
unfolding is_letter is_digit sign_of pair_of same_bytes is kind_number
no_start c = ((refl, refl, refl, refl, refl), (refl, refl, refl, refl, refl), (refl, refl, refl, refl, refl), (refl, refl, refl, refl, refl))

space_start : (b c : ℕ) → is_space b ≡ true → NoStart b c
unfolding is_space
space_start b c =
    cond_prop P (eqb b 32) _ _ (λ e h. at 32 e (no_start c).0)
    (λ n. cond_prop P (eqb b 9) _ _ (λ e h. at 9 e (no_start c).1)
    (λ n. cond_prop P (eqb b 10) _ _ (λ e h. at 10 e (no_start c).2)
    (λ n h. at 13 h (no_start c).3)))
  where
    P : Bool → Type 0
    P t = t ≡ true → NoStart b c

    at : (v : ℕ) → eqb b v ≡ true → NoStart v c → NoStart b c
    at v e h = subst (λ (x : ℕ). NoStart x c) (sym (eqb-true b v e)) h

module _ (text : List ℕ) where
  token_no_space : (s n : ℕ) (k : Kind) → TokenFrom text s n k → is_space (get_or text s 0) ≡ false
  token_no_space s n k t = go (is_space (get_or text s 0)) refl
    where
      by : NoStart (get_or text s 0) (get_or text (s + 1) 0) → Begins text s n → ⊥
      by z (letters f r) = clash f z.0
      by z (numerals f r) = clash f z.1
      by z (underscore f r) = clash (eq-eqb _ 95 f) z.2
      by z (one_byte x y v r h) = clash z.3 h
      by z (two_bytes x y v r h) = clash z.4 h

      go : (u : Bool) → is_space (get_or text s 0) ≡ u → is_space (get_or text s 0) ≡ false
      go true e = absurd (by (space_start (get_or text s 0) (get_or text (s + 1) 0) e) (begins text s n t.some_bytes t.within k t.spells))
      go false e = e

  -- one token stands at a place
  pub one_token_from : (s n m : ℕ) (k j : Kind) → TokenFrom text s n k → TokenFrom text s m j → (n ≡ m) × (k ≡ j)
  one_token_from s n m k j t u = (e, one_kind k j (part text s n) t.spells (subst (λ (x : ℕ). Spelling j (part text s x)) (sym e) u.spells))
    where
      less : (q : Bool) → ltb n m ≡ q → m ≤ n
      less true q = absurd (t.longest m j (ltb-true n m q) u.within u.spells)
      less false q = ltb-false n m q

      more : (q : Bool) → ltb m n ≡ q → n ≤ m
      more true q = absurd (u.longest n k (ltb-true m n q) t.within t.spells)
      more false q = ltb-false m n q

      e : n ≡ m
      e = omega (arith, less (ltb n m) refl, more (ltb m n) refl)

  -- the space before what is first ends there
  ends_at : (a s : ℕ) → Separated text a s → run_end is_space text s ≡ s → run_end is_space text a ≡ s
  ends_at a s sep e = run_through is_space text a s sep.ordered sep.within sep.spaces ∙ e

  past_read : (a s : ℕ) → run_end is_space text a ≡ s → s < length text → token_at text a ≡ token_of text s (get_or text s 0)
  unfolding token_at token_past
  past_read a s e l = rw (e, lt-ltb s (length text) l)

  past_end : (a : ℕ) → run_end is_space text a ≡ length text → token_at text a ≡ token ending (length text) (length text)
  unfolding token_at token_past
  past_end a e = rw (e, le-ltb (length text) (length text) (le_refl (length text)))

  module _ (a : ℕ) where
    only : (r : TokenRead) → FirstRead text a r → token_at text a ≡ r
    only r (a_token k s n sep t) =
        let l : s < length text = omega (arith, t.some_bytes, t.within) in
        past_read a s (ends_at a s sep (run_stop is_space text s l (token_no_space s n k t))) l ∙ same (token_of text s (get_or text s 0)) (read_from text s l)
      where
        same : (x : TokenRead) → ReadFrom text s x → x ≡ token k s n
        same (token j p m) h =
            let q = one_token_from s n m k j t h.1 in
            rw (h.0, q.0, q.1)
        same (fault p) h = absurd (h.1 k n t)
    only r (the_end sep) = past_end a (ends_at a (length text) sep (run_out is_space text (length text) (le_refl (length text))))
    only r (no_token_lem s sep l f none) =
        past_read a s (ends_at a s sep (run_stop is_space text s l f)) l ∙ same (token_of text s (get_or text s 0)) (read_from text s l)
      where
        same : (x : TokenRead) → ReadFrom text s x → x ≡ fault s
        same (token j p m) h = absurd (none j m h.1)
        same (fault p) h = ap fault h.0

    module _ (h : a ≤ length text) where
      separated : Separated text a (run_end is_space text a)
      separated = record { ordered = run_from is_space text a; within = run_within is_space text a h; spaces = part_all is_space text a }

      reads : FirstRead text a (token_at text a)
      unfolding token_at token_past
      reads = cond_prop (FirstRead text a) (ltb (run_end is_space text a) (length text)) _ _ (λ t. inside (ltb-true _ _ t)) (λ t. outside (ltb-false _ _ t))
        where
          found : (s : ℕ) → Separated text a s → s < length text → is_space (get_or text s 0) ≡ false → (x : TokenRead) → ReadFrom text s x → FirstRead text a x
          found s sep l f (token k p n) r = subst (λ (q : ℕ). FirstRead text a (token k q n)) (sym r.0) (a_token k s n sep r.1)
          found s sep l f (fault p) r = subst (λ (q : ℕ). FirstRead text a (fault q)) (sym r.0) (no_token_lem s sep l f r.1)

          inside : run_end is_space text a < length text → FirstRead text a (token_of text (run_end is_space text a) (get_or text (run_end is_space text a) 0))
          inside l =
              found (run_end is_space text a) separated l (run_over is_space text (length text) a (omega arith) l)
              (token_of text (run_end is_space text a) (get_or text (run_end is_space text a) 0)) (read_from text (run_end is_space text a) l)

          outside : length text ≤ run_end is_space text a → FirstRead text a (token ending (run_end is_space text a) (run_end is_space text a))
          outside l =
              let e : length text ≡ run_end is_space text a = omega (arith, separated.within) in
              subst (λ (q : ℕ). FirstRead text a (token ending q q)) e (the_end (subst (Separated text a) (sym e) separated))

-- what is read is what stands there, and nothing else does
pub tokens_exactly : ReadsTokens
tokens_exactly = record { reads = λ text a h. reads text a h; only = λ text a r f. only text a r f }
