-- Before the end of a text each token takes the reader on. Assumes nothing.
use mathlib.Core.Path.{◌≡◌, subst}
use mathlib.Core.List.{List}
use Prim.Native.Nat.{ℕ, ◌+◌, ◌≤◌, ◌<◌}
use native.Mathlib.Omega.{arith}
use lib.Dec.{eqb, ltb}
use lib.ListN.{length, get_or}
use borrow.Author.Tests.{ltb-true, ltb-false}
use Rattle.lexer.specs.Bytes.{part}
use Rattle.lexer.specs.Token.{Kind, name, unknown, is, TokenRead, token, fault}
use Rattle.lexer.specs.Lexer.{is_space, is_digit, is_letter, is_alphanumeric, run_end, word_of, pair_of, sign_of, read_of, sign_at, word_at, digits_at, previous_at, token_of, token_past, token_at}
use Rattle.lexer.proofs.Laws.{cond_prop, run_from, run_some, letter_in_run}

-- a token ends after s
abbrev Beyond : ℕ → TokenRead → Type 0
Beyond s (token k t n) = s < n
Beyond s (fault p) = Unit {0}

module _ (text : List ℕ) (s : ℕ) (l : s < length text) where
  sign_beyond : (a b : ℕ) → Beyond s (sign_at a b s)
  unfolding sign_at read_of
  sign_beyond a b =
      cond_prop (Beyond s) (is (pair_of a b) unknown) _ _
      (λ e. cond_prop (Beyond s) (is (sign_of a) unknown) _ _ (λ f. tt) (λ f. omega arith)) (λ e. omega arith)

  previous_beyond : Beyond s (previous_at text s)
  unfolding previous_at
  previous_beyond =
      let f : s + 1 ≤ run_end is_alphanumeric text (s + 1) = run_from is_alphanumeric text (s + 1) in
      cond_prop (Beyond s) (is_letter (get_or text (s + 1) 0)) _ _
      (λ e. cond_prop (Beyond s) (is (word_of (part text (s + 1) (run_end is_alphanumeric text (s + 1)))) name) _ _ (λ g. omega arith) (λ g. tt))
      (λ e. tt)

  of_beyond : Beyond s (token_of text s (get_or text s 0))
  unfolding token_of word_at digits_at
  of_beyond =
      let b = get_or text s 0 in
      cond_prop (Beyond s) (is_letter b) _ _ (λ e. run_some is_alphanumeric text s l (letter_in_run b e))
      (λ n1. cond_prop (Beyond s) (is_digit b) _ _ (λ e. run_some is_digit text s l e)
      (λ n2. cond_prop (Beyond s) (eqb b 95) _ _ (λ e. previous_beyond) (λ n3. sign_beyond b (get_or text (s + 1) 0))))

beyond_from : (at s : ℕ) (r : TokenRead) → at ≤ s → Beyond s r → Beyond at r
beyond_from at s (token k t n) h b = omega arith
beyond_from at s (fault p) h b = tt

token_beyond : (text : List ℕ) (at : ℕ) → at < length text → Beyond at (token_at text at)
unfolding token_at token_past
token_beyond text at h =
    let s = run_end is_space text at in
    let f : at ≤ s = run_from is_space text at in
    cond_prop (Beyond at) (ltb s (length text)) _ _
    (λ e. beyond_from at s (token_of text s (get_or text s 0)) f (of_beyond text s (ltb-true _ _ e)))
    (λ e. omega (arith, ltb-false s (length text) e))

pub progress : (text : List ℕ) (at : ℕ) (k : Kind) (s n : ℕ) → at < length text → token_at text at ≡ token k s n → at < n
progress text at k s n h e = subst (Beyond at) e (token_beyond text at h)
