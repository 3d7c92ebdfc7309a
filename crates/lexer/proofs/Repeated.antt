-- Bytes that stand a second time in a text, up to a `]`, are the same tokens there: no token goes on over a `]`. Assumes nothing.
use mathlib.Core.Path.{◌≡◌, refl, ap, sym, ◌∙◌}
use mathlib.Core.List.{List}
use mathlib.Core.Bool.{Bool, true, false, cond}
use Prim.Native.Nat.{ℕ, zero, suc, ◌+◌, ◌-◌, ◌≤◌, ◌<◌}
use native.Mathlib.Omega.{arith}
use lib.ListN.{length, get_or, take, drop, length-take, length-drop}
use lib.Seq.{get_or-take, get_or-drop, take-take, drop-drop, take-add, drop_at}
use lib.Dec.{eqb, ltb}
use borrow.Author.Tests.{lt-ltb, ltb-true, ltb-false, eqb-true, eqb-false}
use Rattle.lexer.specs.Bytes.{part, same_bytes}
use Rattle.lexer.specs.Token.{Kind, kind_number, unknown, name, is, TokenRead, token, fault}
use Rattle.lexer.specs.Lexer.{is_space, is_digit, is_letter, is_alphanumeric, run_end, word_of, pair_of, sign_of, read_of, sign_at, word_at, digits_at, previous_at, token_of, token_past, token_at}
use Rattle.lexer.proofs.Laws.{run_stop, run_step}

-- a part of a list that is cut off behind it
pub part_cut : (l : List ℕ) (j m size : ℕ) → j + m ≤ size → j ≤ length l → take m (drop j l) ≡ drop j (take (j + m) (take size l))
part_cut l j m size h i =
    let n : length (take j l) ≡ j = omega (arith, length-take j l) in
    sym (ap (λ (x : List ℕ). drop j x) (take-take (j + m) size l h ∙ take-add j m l) ∙ drop_at (take j l) (take m (drop j l)) j n)

-- a `]` ends every run, and begins no sign of two bytes
alphanumeric_ends : is_alphanumeric 93 ≡ false
unfolding is_alphanumeric is_letter is_digit
alphanumeric_ends = refl

digit-ends : is_digit 93 ≡ false
unfolding is_digit
digit-ends = refl

space-ends : is_space 93 ≡ false
unfolding is_space
space-ends = refl

no-pair : (b : ℕ) → is (pair_of 93 b) unknown ≡ true
unfolding pair_of is kind_number same_bytes
no-pair b = refl

-- the bytes from f on stand once more from g on, up to a `]` that is `last` bytes behind
module _ (text : List ℕ) (f g last : ℕ) (in_f : f + last < length text) (in_g : g + last < length text) (same : take (last + 1) (drop f text) ≡ take (last + 1) (drop g text)) (closed : get_or text (f + last) 0 ≡ 93) where
  byte_twice : (i : ℕ) → i ≤ last → get_or text (g + i) 0 ≡ get_or text (f + i) 0
  byte_twice i h = sym (get_or-drop g text i 0) ∙ sym (get_or-take (last + 1) (drop g text) i 0 (omega arith)) ∙ ap (λ (l : List ℕ). get_or l i 0) (sym same) ∙ get_or-take (last + 1) (drop f text) i 0 (omega arith) ∙ get_or-drop f text i 0

  pub part_twice : (j k : ℕ) → j ≤ k → k ≤ last + 1 → part text (g + j) (g + k) ≡ part text (f + j) (f + k)
  part_twice j k h i =
      let eg : g + k - (g + j) ≡ k - j = omega arith in
      let ef : f + k - (f + j) ≡ k - j = omega arith in
      let room : j + (k - j) ≤ last + 1 = omega arith in
      rw (eg, ef, ← drop-drop j g text, ← drop-drop j f text)
      (part_cut (drop g text) j (k - j) (last + 1) room (omega (arith, length-drop g text))
      ∙ ap (λ (l : List ℕ). drop j (take (j + (k - j)) l)) (sym same)
      ∙ sym (part_cut (drop f text) j (k - j) (last + 1) room (omega (arith, length-drop f text))))

  -- ---- runs

  record RunTwice (p : ℕ → Bool) (i : ℕ) : Type 0 where
    stop : ℕ
    after : i ≤ stop
    before : stop ≤ last
    first : run_end p text (f + i) ≡ f + stop
    second : run_end p text (g + i) ≡ g + stop

  -- a run that a `]` ends
  module _ (p : ℕ → Bool) (ends : p 93 ≡ false) where
    run_ends : (i : ℕ) → i ≤ last → p (get_or text (f + i) 0) ≡ false → RunTwice p i
    run_ends i h e = record {
      stop = i;
      after = omega arith;
      before = h;
      first = run_stop p text (f + i) (omega arith) e;
      second = run_stop p text (g + i) (omega arith) (ap p (byte_twice i h) ∙ e);
    }

    run_goes : (i : ℕ) → i < last → p (get_or text (f + i) 0) ≡ true → RunTwice p (i + 1) → RunTwice p i
    run_goes i h e r =
        let af : f + i + 1 ≡ f + (i + 1) = omega arith in
        let ag : g + i + 1 ≡ g + (i + 1) = omega arith in
        record {
          stop = r.stop;
          after = omega (arith, r.after);
          before = r.before;
          first = run_step p text (f + i) (omega arith) e ∙ ap (run_end p text) af ∙ r.first;
          second = run_step p text (g + i) (omega arith) (ap p (byte_twice i (omega arith)) ∙ e) ∙ ap (run_end p text) ag ∙ r.second;
        }

    run_from_here : (left i : ℕ) → i + left ≡ last → RunTwice p i
    run_from_here zero i h = let e : i ≡ last = omega arith in run_ends i (omega arith) (rw (e, closed) ends)
    run_from_here (suc left) i h = go (p (get_or text (f + i) 0)) refl (run_from_here left (i + 1) (omega arith))
      where
        go : (t : Bool) → p (get_or text (f + i) 0) ≡ t → RunTwice p (i + 1) → RunTwice p i
        go true e r = run_goes i (omega arith) e r
        go false e r = run_ends i (omega arith) e

    run_twice : (i : ℕ) → i ≤ last → RunTwice p i
    run_twice i h = run_from_here (last - i) i (omega arith)

  -- ---- tokens

  -- what is read there is what is read here, as far behind g as behind f
  abbrev pub behind : ℕ → ℕ
  behind n = g + (n - f)

  abbrev pub moved : TokenRead → TokenRead
  moved (token k s n) = token k (behind s) (behind n)
  moved (fault p) = fault (behind p)

  behind_at_lem : (i : ℕ) → behind (f + i) ≡ g + i
  behind_at_lem i = let e : f + i - f ≡ i = omega arith in ap (λ (x : ℕ). g + x) e

  token_here : (k k' : Kind) (i n : ℕ) → k' ≡ k → token k' (g + i) (g + n) ≡ moved (token k (f + i) (f + n))
  token_here k k' i n e = rw (e, behind_at_lem i, behind_at_lem n)

  fault_here : (i : ℕ) → fault (g + i) ≡ moved (fault (f + i))
  fault_here i = rw (behind_at_lem i)

  -- both choose by the same test
  chosen : (t : Bool) (a b a' b' : TokenRead) → (t ≡ true → a' ≡ moved a) → (t ≡ false → b' ≡ moved b) → cond t a' b' ≡ moved (cond t a b)
  chosen true a b a' b' p q = p refl
  chosen false a b a' b' p q = q refl

  module _ (i : ℕ) (h : i ≤ last) where
    word_twice : word_at text (g + i) ≡ moved (word_at text (f + i))
    unfolding word_at
    word_twice =
        let r = run_twice is_alphanumeric alphanumeric_ends i h in
        rw (r.first, r.second) (token_here _ _ i r.stop (ap word_of (part_twice i r.stop r.after (omega (arith, r.before)))))

    digits_twice : digits_at text (g + i) ≡ moved (digits_at text (f + i))
    unfolding digits_at
    digits_twice = let r = run_twice is_digit digit-ends i h in rw (r.first, r.second) (token_here _ _ i r.stop refl)

    -- a byte that is no `]` has another behind it
    more : (get_or text (f + i) 0 ≡ 93 → ⊥) → i < last
    more n = go (ltb i last) refl
      where
        go : (t : Bool) → ltb i last ≡ t → i < last
        go true e = ltb-true i last e
        go false e = let d : i ≡ last = omega (arith, ltb-false i last e) in absurd (n (rw d closed))

    next_f : f + i + 1 ≡ f + (i + 1)
    next_f = omega arith

    next_g : g + i + 1 ≡ g + (i + 1)
    next_g = omega arith

    previous_twice : i < last → previous_at text (g + i) ≡ moved (previous_at text (f + i))
    unfolding previous_at
    previous_twice m =
        let r = run_twice is_alphanumeric alphanumeric_ends (i + 1) (omega arith) in
        rw (next_f, next_g, r.first, r.second, byte_twice (i + 1) (omega arith), part_twice (i + 1) r.stop r.after (omega (arith, r.before)))
        (chosen (is_letter (get_or text (f + (i + 1)) 0)) _ _ _ _
        (λ e. chosen (is (word_of (part text (f + (i + 1)) (f + r.stop))) name) _ _ _ _ (λ e2. token_here _ _ i r.stop refl) (λ e2. fault_here i)) (λ e. fault_here i))

    -- the second byte counts only where the first is no `]`
    sign_twice : sign_at (get_or text (f + i) 0) (get_or text (g + i + 1) 0) (g + i) ≡ moved (sign_at (get_or text (f + i) 0) (get_or text (f + i + 1) 0) (f + i))
    unfolding sign_at read_of
    sign_twice = go (eqb (get_or text (f + i) 0) 93) refl
      where
        one : (a : ℕ) → cond (is (sign_of a) unknown) (fault (g + i)) (token (sign_of a) (g + i) (g + i + 1)) ≡ moved (cond (is (sign_of a) unknown) (fault (f + i)) (token (sign_of a) (f + i) (f + i + 1)))
        one a = rw (next_f, next_g) (chosen (is (sign_of a) unknown) _ _ _ _ (λ e. fault_here i) (λ e. token_here _ _ i (i + 1) refl))

        two_f : f + i + 2 ≡ f + (i + 2)
        two_f = omega arith

        two_g : g + i + 2 ≡ g + (i + 2)
        two_g = omega arith

        go : (t : Bool) → eqb (get_or text (f + i) 0) 93 ≡ t → sign_at (get_or text (f + i) 0) (get_or text (g + i + 1) 0) (g + i) ≡ moved (sign_at (get_or text (f + i) 0) (get_or text (f + i + 1) 0) (f + i))
        go true e = rw (eqb-true (get_or text (f + i) 0) 93 e, no-pair (get_or text (g + i + 1) 0), no-pair (get_or text (f + i + 1) 0)) (one 93)
        go false e =
            let m = more (eqb-false (get_or text (f + i) 0) 93 e) in
            let b : get_or text (g + i + 1) 0 ≡ get_or text (f + i + 1) 0 = ap (λ (x : ℕ). get_or text x 0) next_g ∙ byte_twice (i + 1) (omega arith) ∙ ap (λ (x : ℕ). get_or text x 0) (sym next_f) in
            rw b (chosen (is (pair_of (get_or text (f + i) 0) (get_or text (f + i + 1) 0)) unknown) _ _ _ _ (λ u. one (get_or text (f + i) 0)) (λ u. rw (two_f, two_g) (token_here _ _ i (i + 2) refl)))

    of_twice : token_of text (g + i) (get_or text (g + i) 0) ≡ moved (token_of text (f + i) (get_or text (f + i) 0))
    unfolding token_of
    of_twice =
        let b = get_or text (f + i) 0 in
        rw (byte_twice i h)
        (chosen (is_letter b) _ _ _ _ (λ e. word_twice)
        (λ n1. chosen (is_digit b) _ _ _ _ (λ e. digits_twice)
        (λ n2. chosen (eqb b 95) _ _ _ _ (λ e. previous_twice (more (λ (q : b ≡ 93). let z = eqb-true b 95 e in absurd (omega arith)))) (λ n3. sign_twice))))

  past_twice : (i : ℕ) → i ≤ last → token_past text (g + i) ≡ moved (token_past text (f + i))
  unfolding token_past
  past_twice i h = rw (lt-ltb (g + i) (length text) (omega arith), lt-ltb (f + i) (length text) (omega arith)) (of_twice i h)

  pub token_twice : (i : ℕ) → i ≤ last → token_at text (g + i) ≡ moved (token_at text (f + i))
  unfolding token_at
  token_twice i h = let r = run_twice is_space space-ends i h in rw (r.first, r.second) (past_twice r.stop r.before)
