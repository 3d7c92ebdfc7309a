-- Two texts whose first `size` bytes are the same: a token of the one that ends before that stands in the other. Assumes nothing.
use mathlib.Core.Path.{◌≡◌, refl, ap, sym, ◌∙◌}
use mathlib.Core.List.{List}
use mathlib.Core.Bool.{Bool, true, false, cond}
use Prim.Native.Nat.{ℕ, zero, suc, ◌+◌, ◌-◌, ◌≤◌, ◌<◌}
use native.Mathlib.Omega.{arith}
use lib.ListN.{length, get_or, take, drop}
use lib.Seq.{get_or-take}
use lib.Dec.{ltb, eqb}
use borrow.Author.Tests.{lt-ltb, ltb-true, ltb-false}
use Rattle.lexer.specs.Bytes.{part}
use Rattle.lexer.specs.Token.{Kind, ending, name, is, TokenRead, token, fault}
use Rattle.lexer.specs.Token as T
use Rattle.lexer.specs.Lexer.{is_space, is_digit, is_letter, is_alphanumeric, run_end, word_of, word_at, digits_at, previous_at, token_of, token_past, token_at}
use Rattle.lexer.proofs.Laws.{run_stop, run_step, run_from, token_at_moved}
use Rattle.lexer.proofs.Same.{same_kind}
use Rattle.lexer.proofs.Repeated.{part_cut}
use Rattle.lexer.proofs.Spellings.{end_place}
use Rattle.faults.proofs.Reaching.{read_start, starts_past, not_ending}

module _ (text twin : List ℕ) (size : ℕ) (in_text_lem : size ≤ length text) (in_twin : size ≤ length twin) (same : take size text ≡ take size twin) where
  byte_same : (i : ℕ) → i < size → get_or text i 0 ≡ get_or twin i 0
  byte_same i h = sym (get_or-take size text i 0 h) ∙ ap (λ (l : List ℕ). get_or l i 0) same ∙ get_or-take size twin i 0 h

  pub part_same : (s n : ℕ) → n ≤ size → part text s n ≡ part twin s n
  part_same s n h = go (ltb n s) refl
    where
      go : (t : Bool) → ltb n s ≡ t → part text s n ≡ part twin s n
      go true t = let l = ltb-true n s t in let e : n - s ≡ 0 = omega arith in rw e
      go false t =
          let l = ltb-false n s t in
          let e : s + (n - s) ≤ size = omega arith in
          part_cut text s (n - s) size e (omega arith) ∙ ap (λ (x : List ℕ). drop s (take (s + (n - s)) x)) same ∙ sym (part_cut twin s (n - s) size e (omega arith))

  -- ---- runs

  module _ (P : ℕ → Bool) where
    run_on_lem : (more i j : ℕ) → size ≤ i + more → run_end P text i ≡ j → j < size → run_end P twin i ≡ j
    run_on_lem zero i j h e l = absurd (omega (arith, run_from P text i))
    run_on_lem (suc more) i j h e l = go (P (get_or text i 0)) refl (λ f. run_on_lem more (i + 1) j (omega arith) f l)
      where
        i<size : i < size
        i<size = omega (arith, run_from P text i)

        go : (t : Bool) → P (get_or text i 0) ≡ t → (run_end P text (i + 1) ≡ j → run_end P twin (i + 1) ≡ j) → run_end P twin i ≡ j
        go true t ih = run_step P twin i (omega (arith, i<size)) (ap P (sym (byte_same i i<size)) ∙ t) ∙ ih (sym (run_step P text i (omega (arith, i<size)) t) ∙ e)
        go false t ih = run_stop P twin i (omega (arith, i<size)) (ap P (sym (byte_same i i<size)) ∙ t) ∙ sym (run_stop P text i (omega (arith, i<size)) t) ∙ e

    pub run_same : (i j : ℕ) → run_end P text i ≡ j → j < size → run_end P twin i ≡ j
    run_same i j e l = run_on_lem size i j (omega arith) e l

  -- ---- tokens

  -- what is a token that ends before `size` there is the same here
  abbrev Stays : TokenRead → TokenRead → Type 0
  Stays r q = (k : Kind) (s n : ℕ) → r ≡ token k s n → n < size → q ≡ token k s n

  cond_stays : (t : Bool) (a b c d : TokenRead) → (t ≡ true → Stays a c) → (t ≡ false → Stays b d) → Stays (cond t a b) (cond t c d)
  cond_stays true a b c d f g = f refl
  cond_stays false a b c d f g = g refl

  module _ (s : ℕ) (in_both : s + 1 < size) where
    word_stays : Stays (word_at text s) (word_at twin s)
    unfolding word_at
    word_stays k s2 n e l =
        let f : run_end is_alphanumeric text s ≡ n = cc in
        let g = run_same is_alphanumeric s n f l in
        rw g (ap (λ (w : List ℕ). token (word_of w) s n) (sym (part_same s n (omega arith))) ∙ (rw f at e))

    digits_stay : Stays (digits_at text s) (digits_at twin s)
    unfolding digits_at
    digits_stay k s2 n e l =
        let f : run_end is_digit text s ≡ n = cc in
        let g = run_same is_digit s n f l in
        rw g (rw f at e)

    no_token_lem : {A : Type 0} (p : ℕ) (k : Kind) (s n : ℕ) → fault p ≡ token k s n → A
    no_token_lem p k s n e = let z : ◌≡◌ {A = ℕ} 0 1 = cc in absurd (omega arith)

    previous_stays : Stays (previous_at text s) (previous_at twin s)
    unfolding previous_at
    previous_stays =
        let E = run_end is_alphanumeric text (s + 1) in
        let c = byte_same (s + 1) in_both in
        rw (← c)
        (cond_stays (is_letter (get_or text (s + 1) 0)) _ _ _ _
        (λ t k s2 n e l. named (is (word_of (part text (s + 1) (run_end is_alphanumeric text (s + 1)))) name) refl k s2 n e l)
        (λ t k s2 n e l. no_token_lem s k s2 n e))
      where
        named : (t : Bool) → is (word_of (part text (s + 1) (run_end is_alphanumeric text (s + 1)))) name ≡ t → (k : Kind) (s2 n : ℕ)
            → cond t (token T.previous s (run_end is_alphanumeric text (s + 1))) (fault s) ≡ token k s2 n → n < size
            → cond (is (word_of (part twin (s + 1) (run_end is_alphanumeric twin (s + 1)))) name) (token T.previous s (run_end is_alphanumeric twin (s + 1))) (fault s) ≡ token k s2 n
        named false t k s2 n e l = no_token_lem s k s2 n e
        named true t k s2 n e l =
            let f : run_end is_alphanumeric text (s + 1) ≡ n = cc in
            let g = run_same is_alphanumeric (s + 1) n f l in
            let w : is (word_of (part twin (s + 1) n)) name ≡ true = ap (λ (x : List ℕ). is (word_of x) name) (sym (part_same (s + 1) n (omega arith))) ∙ (rw f at t) in
            rw (g, w) (rw f at e)

    of_stays : Stays (token_of text s (get_or text s 0)) (token_of twin s (get_or twin s 0))
    unfolding token_of
    of_stays =
        let b = get_or text s 0 in
        rw (← (byte_same s (omega arith)), ← (byte_same (s + 1) in_both))
        (cond_stays (is_letter b) _ _ _ _ (λ t. word_stays)
        (λ t. cond_stays (is_digit b) _ _ _ _ (λ t. digits_stay)
        (λ t. cond_stays (eqb b 95) _ _ _ _ (λ t. previous_stays) (λ t k s2 n e l. e))))

  -- a token that ends before `size` has a byte
  pub some_byte : (a : ℕ) (k : Kind) (s n : ℕ) → a ≤ length text → token_at text a ≡ token k s n → n < size → s < n
  some_byte a k s n h e l = go (is k ending) refl
    where
      go : (t : Bool) → is k ending ≡ t → s < n
      go true t = let p = end_place text a s n h (e ∙ ap (λ (x : Kind). token x s n) (same_kind k ending t)) in absurd (omega (arith, p.1))
      go false t = (token_at_moved text a k s n h e).3 (not_ending k t)

  pub token_stays : (a : ℕ) (k : Kind) (s n : ℕ) → a ≤ length text → token_at text a ≡ token k s n → n < size → token_at twin a ≡ token k s n
  unfolding token_at token_past
  token_stays a k s n h e l =
      let b = some_byte a k s n h e l in
      let f : run_end is_space text a ≡ s = sym (starts_past text a) ∙ ap read_start e in
      let g = run_same is_space a s f (omega arith) in
      let e2 : token_of text s (get_or text s 0) ≡ token k s n = rw (f, lt-ltb s (length text) (omega arith)) at e in
      rw (g, lt-ltb s (length twin) (omega arith)) (of_stays s (omega arith) k s n e2 l)

  -- what is read at p in both is read from every place from which only space comes before p
  pub read_stays : (a : ℕ) (r : TokenRead) → token_at text a ≡ r → read_start r < size → token_at twin (read_start r) ≡ r → token_at twin a ≡ r
  unfolding token_at
  read_stays a r e l q =
      let f : run_end is_space text a ≡ read_start r = sym (starts_past text a) ∙ ap read_start e in
      let g = run_same is_space a (read_start r) f l in
      let i : run_end is_space twin (read_start r) ≡ read_start r = sym (starts_past twin (read_start r)) ∙ ap read_start q in
      rw g (rw i at q)
