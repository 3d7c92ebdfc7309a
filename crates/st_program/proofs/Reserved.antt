-- A name of a text that is no word of Structured Text is an identifier there, and so is every previous value's name. Assumes nothing.
use mathlib.Core.Path.{◌≡◌, refl, sym, subst}
use mathlib.Core.Bool.{Bool, true, false, ◌||◌, false≢true}
use mathlib.Core.List.{[], ◌∷◌}
use Rattle.lexer.specs.Bytes.{bytes, same_bytes, capital, capitals}
use Rattle.lexer.specs.Lexer.{is_letter, is_digit, is_alphanumeric, same_name}
use Rattle.lexer.specs.Spelling.{IsWord}
use Rattle.lexer.proofs.Capitals.{word_capitals}
use Rattle.lexer.proofs.Same.{same_name_lem}
use Rattle.grammar.specs.Derivation.{IsName}
use Rattle.st.specs.Syntax.{Identifier}
use Rattle.st.specs.Reading.{is_any, keywords, is_identifier}
use Rattle.st.specs.Meaning.{previous_name}
use Rattle.st.proofs.Lexed.{NameWord}
use Rattle.st.proofs.Words.{letter_part, alphanumeric_parts, word_produced, underscore_produced, identifier_word}
use Rattle.st_program.specs.Written.{is_st_word}

-- the same as a word that it cannot be
never_same : (w v : Identifier) → (capitals w ≡ capitals v → ⊥) → same_name w v ≡ false
never_same w v f = by (same_name w v) refl where
  by : (t : Bool) → same_name w v ≡ t → t ≡ false
  by true e = absurd (f (same_name_lem w v e))
  by false e = refl

-- no name holds a `_`
no_underscore : (w v : Identifier) → IsWord w → (IsWord (capitals v) → ⊥) → same_name w v ≡ false
no_underscore w v h f = never_same w v (λ e. f (subst IsWord e (word_capitals w h)))

no_var_input : (w : Identifier) → IsWord w → same_name w (bytes "VAR_INPUT") ≡ false
unfolding capitals capital is_alphanumeric is_letter is_digit
no_var_input w h = no_underscore w (bytes "VAR_INPUT") h (λ g. false≢true g.1.1.1.0)

no_end_var : (w : Identifier) → IsWord w → same_name w (bytes "END_VAR") ≡ false
unfolding capitals capital is_alphanumeric is_letter is_digit
no_end_var w h = no_underscore w (bytes "END_VAR") h (λ g. false≢true g.1.1.1.0)

no_end_if : (w : Identifier) → IsWord w → same_name w (bytes "END_IF") ≡ false
unfolding capitals capital is_alphanumeric is_letter is_digit
no_end_if w h = no_underscore w (bytes "END_IF") h (λ g. false≢true g.1.1.1.0)

-- VAR and MOD are words of the grammar
no_var : (w : Identifier) → IsName w → same_name w (bytes "VAR") ≡ false
unfolding capitals capital
no_var w h = never_same w (bytes "VAR") (λ e. h.no_word.1.0 e)

no_mod : (w : Identifier) → IsName w → same_name w (bytes "MOD") ≡ false
unfolding capitals capital
no_mod w h = never_same w (bytes "MOD") (λ e. h.no_word.1.1.1.0 e)

-- none of twelve, of which seven are told
none_of : (v i ev d f t e ei a o n m : Bool) → v ≡ false → i ≡ false → ev ≡ false → ei ≡ false → m ≡ false
    → (f || (t || (e || (d || (a || (o || (n || false))))))) ≡ false
    → (v || (i || (ev || (d || (f || (t || (e || (ei || (a || (o || (n || (m || false)))))))))))) ≡ false
none_of v i ev d f t e ei a o n m hv hi hev hei hm h = rw (hv, hi, hev, hei, hm) (by f t e d h) where
  by : (f t e d : Bool) → (f || (t || (e || (d || (a || (o || (n || false))))))) ≡ false → (d || (f || (t || (e || (a || (o || (n || false))))))) ≡ false
  by true t e d h = absurd (false≢true (sym h))
  by false true e d h = absurd (false≢true (sym h))
  by false false true d h = absurd (false≢true (sym h))
  by false false false true h = absurd (false≢true (sym h))
  by false false false false h = h

keywords_none : (w : Identifier) → IsName w → is_st_word w ≡ false → is_any keywords w ≡ false
unfolding is_st_word
keywords_none w h e =
    none_of (same_name w (bytes "VAR")) (same_name w (bytes "VAR_INPUT")) (same_name w (bytes "END_VAR")) (same_name w (bytes "DINT")) (same_name w (bytes "IF")) (same_name w (bytes "THEN")) (same_name w (bytes "ELSIF"))
    (same_name w (bytes "END_IF")) (same_name w (bytes "AND")) (same_name w (bytes "OR")) (same_name w (bytes "NOT")) (same_name w (bytes "MOD"))
    (no_var w h) (no_var_input w h.is_word) (no_end_var w h.is_word) (no_end_if w h.is_word) (no_mod w h) e

pub name_word : (w : Identifier) → IsName w → is_st_word w ≡ false → NameWord w
unfolding is_identifier
name_word [] h e = absurd h.is_word
name_word (a ∷ l) h e = identifier_word a l (alphanumeric_parts l h.is_word.1) (rw (word_produced (a ∷ l) h.is_word, keywords_none (a ∷ l) h e))

-- no keyword begins with `_`
underscore_none : (w : Identifier) → is_any keywords (previous_name w) ≡ false
unfolding same_name same_bytes capitals capital
underscore_none w = refl

pub previous_word : (w : Identifier) → IsName w → NameWord (previous_name w)
unfolding is_identifier
previous_word [] h = absurd h.is_word
previous_word (a ∷ l) h =
    identifier_word 95 (a ∷ l) (letter_part a h.is_word.0, alphanumeric_parts l h.is_word.1) (rw (underscore_produced (a ∷ l) h.is_word, underscore_none (a ∷ l)))
