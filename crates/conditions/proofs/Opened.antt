-- What opens an atom, `~` or `[`: its byte tells it, since no other token begins with it. Assumes nothing.
use mathlib.Core.Path.{◌≡◌, refl, ap, sym, ◌∙◌, subst}
use mathlib.Core.List.{List, [], ◌∷◌}
use mathlib.Core.Bool.{Bool, true, false}
use Prim.Native.Nat.{ℕ, ◌+◌, ◌^◌, ◌≤◌, ◌<◌}
use native.Mathlib.Omega.{arith}
use lib.ListN.{length, get_or, get_or-eq_default}
use lib.Dec.{eqb, leb, ltb}
use borrow.Author.Tests.{lt-ltb, leb-true, leb-false}
use Rattle.lexer.specs.Bytes.{part, same_bytes}
use Rattle.lexer.specs.Token.{Kind, kind_number, name, unknown, ending, open_square, tilde, is, TokenRead, token, fault}
use Rattle.lexer.specs.Lexer.{is_space, is_digit, is_letter, is_alphanumeric, run_end, word_of, pair_of, sign_of, read_of, sign_at, word_at, digits_at, previous_at, token_of, token_past, token_at}
use Rattle.lexer.specs.Spelling.{Spelling}
use Rattle.lexer.proofs.Laws.{cond_prop, run_from, run_within, token_at_moved}
use Rattle.lexer.proofs.Same.{same_kind}
use Rattle.lexer.proofs.Spellings.{token_spelled}
use Rattle.lexer.proofs.Values.{part_cons}
use Rattle.expressions.specs.Inner.Steps.{Room}

-- a token begins at s
abbrev Begun : ℕ → TokenRead → Type 0
Begun s (token k m n) = m ≡ s
Begun s (fault p) = Unit {0}

of_begun : (text : List ℕ) (s b : ℕ) → Begun s (token_of text s b)
unfolding token_of word_at digits_at previous_at sign_at read_of
of_begun text s b =
    let c = get_or text (s + 1) 0 in
    cond_prop (Begun s) (is_letter b) _ _ (λ e. refl)
    (λ e. cond_prop (Begun s) (is_digit b) _ _ (λ e. refl)
    (λ e. cond_prop (Begun s) (eqb b 95) _ _
    (λ e. cond_prop (Begun s) (is_letter c) _ _ (λ e. cond_prop (Begun s) (is (word_of (part text (s + 1) (run_end is_alphanumeric text (s + 1)))) name) _ _ (λ e. refl) (λ e. tt)) (λ e. tt))
    (λ e. cond_prop (Begun s) (is (pair_of b c) unknown) _ _ (λ e. cond_prop (Begun s) (is (sign_of b) unknown) _ _ (λ e. tt) (λ e. refl)) (λ e. refl))))

token_begun : (text : List ℕ) (at : ℕ) → Begun (run_end is_space text at) (token_at text at)
unfolding token_at token_past
token_begun text at =
    let s = run_end is_space text at in
    cond_prop (Begun s) (ltb s (length text)) _ _ (λ e. of_begun text s (get_or text s 0)) (λ e. refl)

module _ (text : List ℕ) (at s : ℕ) (hs : s ≡ run_end is_space text at) where
  -- a byte other than 0 is in the text
  in_text_lem : (b : ℕ) → b ≡ get_or text s 0 → (b ≡ 0 → ⊥) → s < length text
  in_text_lem b e z = go (leb (length text) s) refl
    where
      go : (t : Bool) → leb (length text) s ≡ t → s < length text
      go true f = absurd (z (e ∙ get_or-eq_default text 0 (leb-true _ _ f)))
      go false f = leb-false _ _ f

  by_byte : (b : ℕ) → b ≡ get_or text s 0 → (b ≡ 0 → ⊥) → token_at text at ≡ token_of text s b
  unfolding token_at token_past
  by_byte b e z = rw (← hs, lt-ltb _ _ (in_text_lem b e z), e)

  pub tilde_at : (b : ℕ) → b ≡ get_or text s 0 → b ≡ 126 → token_at text at ≡ token tilde s (s + 1)
  unfolding token_of sign_at read_of pair_of sign_of same_bytes is_letter is_digit is kind_number
  tilde_at b e i = by_byte 126 (sym i ∙ e) (λ z. omega arith)

  pub square_at : (b : ℕ) → b ≡ get_or text s 0 → b ≡ 91 → token_at text at ≡ token open_square s (s + 1)
  unfolding token_of sign_at read_of pair_of sign_of same_bytes is_letter is_digit is kind_number
  square_at b e i = by_byte 91 (sym i ∙ e) (λ z. omega arith)

  pub opened_fits : {to : ℕ} → Room text at to → s + 1 < 2 ^ 64
  opened_fits r =
      let f : s ≤ length text = rw hs (run_within is_space text at r.within) in
      omega (arith, r.short)

  -- behind that byte
  opened_room : {to : ℕ} (b : ℕ) → b ≡ get_or text s 0 → (b ≡ 0 → ⊥) → Room text at to → Room text (s + 1) to
  opened_room b e z r =
      let i = in_text_lem b e z in
      let f : at ≤ s = rw hs (run_from is_space text at) in
      record { short = r.short; within = omega arith; room = omega arith }

  pub tilde_room : {to : ℕ} (b : ℕ) → b ≡ get_or text s 0 → b ≡ 126 → Room text at to → Room text (s + 1) to
  tilde_room b e i = opened_room b e (λ z. omega arith)

  pub square_room : {to : ℕ} (b : ℕ) → b ≡ get_or text s 0 → b ≡ 91 → Room text at to → Room text (s + 1) to
  square_room b e i = opened_room b e (λ z. omega arith)

  -- a kind that only the byte d spells is not that of a token that begins with another
  module _ (b : ℕ) (e : b ≡ get_or text s 0) (h : at ≤ length text) (k : Kind) (m n : ℕ) (q : token_at text at ≡ token k m n) where
    other_kind : (w : Kind) (d : ℕ) → ((v : List ℕ) → Spelling w v → v ≡ d ∷ []) → (w ≡ ending → ⊥) → (b ≡ d → ⊥) → is k w ≡ false
    other_kind w d sp f g = go (is k w) refl
      where
        go : (t : Bool) → is k w ≡ t → t ≡ false
        go false i = refl
        go true i =
            let j : k ≡ w = same_kind k w i in
            let mv = token_at_moved text at k m n h q in
            let l : m < n = mv.3 (λ y. f (sym j ∙ y)) in
            let v : part text m n ≡ d ∷ [] = sp (part text m n) (subst (λ (x : Kind). Spelling x (part text m n)) j (token_spelled text at k m n h l q)) in
            let c : get_or text m 0 ∷ part text (m + 1) n ≡ d ∷ [] = sym (part_cons text m n l mv.2) ∙ v in
            let c0 : get_or text m 0 ≡ d = cc in
            let ms : m ≡ s = subst (Begun (run_end is_space text at)) q (token_begun text at) ∙ sym hs in
            absurd (g (e ∙ (ap (λ (x : ℕ). get_or text x 0) (sym ms) ∙ c0)))

    pub no_tilde : (b ≡ 126 → ⊥) → is k tilde ≡ false
    unfolding kind_number
    no_tilde g = other_kind tilde 126 (λ v h. h) (λ z. let y : ◌≡◌ {A = ℕ} 21 1 = ap kind_number z in omega arith) g

    pub no_square : (b ≡ 91 → ⊥) → is k open_square ≡ false
    unfolding kind_number
    no_square g = other_kind open_square 91 (λ v h. h) (λ z. let y : ◌≡◌ {A = ℕ} 19 1 = ap kind_number z in omega arith) g
