-- Words of the grammar by their number of bytes, and by the table of their kinds. Assumes nothing.
use mathlib.Core.Path.{◌≡◌, sym, ◌∙◌}
use mathlib.Core.List.{List, ◌∷◌}
use mathlib.Core.Bool.{Bool, true, false, cond}
use Prim.Native.Nat.{ℕ}
use native.Mathlib.Omega.{arith}
use lib.ListN.{length}
use Rattle.lexer.specs.Token.{Kind, other_case, spelling_of}
use Rattle.lexer.specs.Bytes.{bytes, same_bytes}
use Rattle.lexer.specs.Lexer.{same_name, kind_in, grammar_word}
use Rattle.lexer.proofs.Laws.{choice_itself}
use Rattle.lexer.proofs.Same.{name_length}

module _ (w : List ℕ) where
  not_1 : (length w ≡ 1 → ⊥) → (same_name w (bytes "G") ≡ false) × (same_name w (bytes "X") ≡ false)
  not_1 f = (name_length w (bytes "G") f, name_length w (bytes "X") f)

  not_2 : (length w ≡ 2 → ⊥) → (same_name w (bytes "GX") ≡ false) × (same_name w (bytes "of") ≡ false)
  not_2 f = (name_length w (bytes "GX") f, name_length w (bytes "of") f)

  not_3 : (length w ≡ 3 → ⊥) → (same_name w (bytes "var") ≡ false) × (same_name w (bytes "mod") ≡ false)
  not_3 f = (name_length w (bytes "var") f, name_length w (bytes "mod") f)

  not_4 : (length w ≡ 4 → ⊥) → same_name w (bytes "init") ≡ false
  not_4 f = name_length w (bytes "init") f

  not_5 : (length w ≡ 5 → ⊥) → (same_name w (bytes "input") ≡ false) × (same_name w (bytes "watch") ≡ false) × (same_name w (bytes "timer") ≡ false) × (same_name w (bytes "limit") ≡ false)
  not_5 f = (name_length w (bytes "input") f, name_length w (bytes "watch") f, name_length w (bytes "timer") f, name_length w (bytes "limit") f)

  pub words_5 : length w ≡ 5 → grammar_word w ≡ cond (same_name w (bytes "input")) true (cond (same_name w (bytes "watch")) true (cond (same_name w (bytes "timer")) true (same_name w (bytes "limit"))))
  unfolding grammar_word
  words_5 e =
      let a = not_1 (λ z. omega arith) in
      let b = not_2 (λ z. omega arith) in
      let d = not_3 (λ z. omega arith) in
      let f = not_4 (λ z. omega arith) in
      rw (d.0, f, d.1, b.0, a.0, a.1, b.1, choice_itself (same_name w (bytes "limit")))

  pub words_3 : length w ≡ 3 → grammar_word w ≡ cond (same_name w (bytes "var")) true (same_name w (bytes "mod"))
  unfolding grammar_word
  words_3 e =
      let a = not_1 (λ z. omega arith) in
      let b = not_2 (λ z. omega arith) in
      let f = not_4 (λ z. omega arith) in
      let g = not_5 (λ z. omega arith) in
      rw (g.0, f, b.0, g.1, a.0, a.1, g.2, b.1, g.3, choice_itself (same_name w (bytes "mod")))

  pub words_1 : length w ≡ 1 → grammar_word w ≡ cond (same_name w (bytes "G")) true (same_name w (bytes "X"))
  unfolding grammar_word
  words_1 e =
      let b = not_2 (λ z. omega arith) in
      let d = not_3 (λ z. omega arith) in
      let f = not_4 (λ z. omega arith) in
      let g = not_5 (λ z. omega arith) in
      rw (g.0, d.0, f, d.1, b.0, g.1, g.2, b.1, g.3, choice_itself (same_name w (bytes "X")))

  pub words_2 : length w ≡ 2 → grammar_word w ≡ cond (same_name w (bytes "GX")) true (same_name w (bytes "of"))
  unfolding grammar_word
  words_2 e =
      let a = not_1 (λ z. omega arith) in
      let d = not_3 (λ z. omega arith) in
      let f = not_4 (λ z. omega arith) in
      let g = not_5 (λ z. omega arith) in
      rw (g.0, d.0, f, d.1, g.1, a.0, a.1, g.2, g.3, choice_itself (same_name w (bytes "of")))

  pub words_4 : length w ≡ 4 → grammar_word w ≡ same_name w (bytes "init")
  unfolding grammar_word
  words_4 e =
      let a = not_1 (λ z. omega arith) in
      let b = not_2 (λ z. omega arith) in
      let d = not_3 (λ z. omega arith) in
      let g = not_5 (λ z. omega arith) in
      rw (g.0, d.0, d.1, b.0, g.1, a.0, a.1, g.2, b.1, g.3, choice_itself (same_name w (bytes "init")))

  pub words_none : (length w ≡ 5 → ⊥) → (length w ≡ 3 → ⊥) → (length w ≡ 1 → ⊥) → (length w ≡ 2 → ⊥) → (length w ≡ 4 → ⊥) → grammar_word w ≡ false
  unfolding grammar_word
  words_none f5 f3 f1 f2 f4 =
      let a = not_1 f1 in
      let b = not_2 f2 in
      let d = not_3 f3 in
      let f = not_4 f4 in
      let g = not_5 f5 in
      rw (g.0, d.0, f, d.1, b.0, g.1, a.0, a.1, g.2, b.1, g.3)

-- ---- by the table: t says whether w is the spelling of its first kind

module _ (k : Kind) (ks : List Kind) (w : List ℕ) {t : Bool} (e : t ≡ same_bytes w (spelling_of k)) where
  pub kind_here : t ≡ true → kind_in (k ∷ ks) w other_case ≡ k
  kind_here f = rw (sym e ∙ f)

  pub kind_later : t ≡ false → kind_in (k ∷ ks) w other_case ≡ kind_in ks w other_case
  kind_later f = rw (sym e ∙ f)
