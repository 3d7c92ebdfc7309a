-- Words are one lexeme each. Assumes nothing.
use Prim.Native.Nat.{ℕ}
use mathlib.Core.Path.{◌≡◌, refl, sym, ap, ◌∙◌}
use mathlib.Core.Bool.{Bool, true, false, cond, false≢true}
use mathlib.Core.List.{List, [], ◌∷◌, ◌++◌, append-nil, append_assoc}
use lib.Dec.{eqb}
use borrow.Author.Tests.{eqb-true}
use Rattle.lexer.specs.Bytes.{bytes}
use Rattle.lexer.specs.Lexer.{is_space, same_name, value_of}
use Rattle.trace_text.specs.Output.{unsigned_decimal}
use Rattle.st.specs.Reading.{is_part, joins, lexemes_from, is_identifier, is_number}

abbrev pub Parts : List ℕ → Type 0
Parts [] = Unit {0}
Parts (b ∷ l) = (is_part b ≡ true) × Parts l

-- what follows does not go on a word
abbrev pub Clear : List ℕ → Type 0
Clear [] = Unit {0}
Clear (b ∷ l) = is_part b ≡ false

part_no_space : (b : ℕ) → is_part b ≡ true → is_space b ≡ false
unfolding is_space
part_no_space b e = by (eqb b 32) (eqb b 9) (eqb b 10) (eqb b 13) (not_at 32 refl) (not_at 9 refl) (not_at 10 refl) (not_at 13 refl) where
  not_at : (n : ℕ) → is_part n ≡ false → eqb b n ≡ true → ⊥
  not_at n f h = false≢true (sym f ∙ ap is_part (sym (eqb-true b n h)) ∙ e)

  by : (s t u v : Bool) → (s ≡ true → ⊥) → (t ≡ true → ⊥) → (u ≡ true → ⊥) → (v ≡ true → ⊥) → cond s true (cond t true (cond u true v)) ≡ false
  by true t u v f g h i = absurd (f refl)
  by false true u v f g h i = absurd (g refl)
  by false false true v f g h i = absurd (h refl)
  by false false false true f g h i = absurd (i refl)
  by false false false false f g h i = refl

joins_part : (a : ℕ) (o : List ℕ) (b : ℕ) → is_part a ≡ true → joins (a ∷ o) b ≡ is_part b
joins_part a [] b e = rw e
joins_part a (c ∷ o) b e = rw e

goes_on_lem : (a : ℕ) (o w rest : List ℕ) → is_part a ≡ true → Parts w → Clear rest → lexemes_from (a ∷ o) (w ++ rest) ≡ (a ∷ (o ++ w)) ∷ lexemes_from [] rest
unfolding lexemes_from
goes_on_lem a o [] [] e p c = ap (λ (x : List ℕ). (a ∷ x) ∷ []) (sym (append-nil o))
goes_on_lem a o [] (b ∷ l) e p c = rw (joins_part a o b e, c) (ap (λ (x : List ℕ). (a ∷ x) ∷ lexemes_from (cond (is_space b) [] (b ∷ [])) l) (sym (append-nil o)))
goes_on_lem a o (b ∷ w) rest e p c =
    rw (joins_part a o b e, p.0)
    (goes_on_lem a (o ++ b ∷ []) w rest e p.1 c ∙ ap (λ (x : List ℕ). (a ∷ x) ∷ lexemes_from [] rest) (append_assoc o (b ∷ []) w))

-- a word is one token
pub word_token : (a : ℕ) (w rest : List ℕ) → is_part a ≡ true → Parts w → Clear rest → lexemes_from [] ((a ∷ w) ++ rest) ≡ (a ∷ w) ∷ lexemes_from [] rest
unfolding lexemes_from
word_token a w rest e p c = rw (part_no_space a e) (goes_on_lem a [] w rest e p c)

-- ---- what is asked of a word: one token, which begins nothing else
pub record Word (w : List ℕ) : Type 0 where
  pub head : ℕ
  pub tail : List ℕ
  pub is : w ≡ head ∷ tail
  pub first : is_part head ≡ true
  pub rest : Parts tail

pub word_read : (w rest : List ℕ) → Word w → Clear rest → lexemes_from [] (w ++ rest) ≡ w ∷ lexemes_from [] rest
word_read w rest h c = rw h.is (word_token h.head h.tail rest h.first h.rest c)

-- a word that is neither bracket nor sign nor NOT
pub record Plain (w : List ℕ) : Type 0 where
  pub word : Word w
  pub no_bracket : same_name w (bytes "(") ≡ false
  pub no_minus : same_name w (bytes "-") ≡ false
  pub no_not : same_name w (bytes "NOT") ≡ false

pub record Numeral (n : ℕ) : Type 0 where
  pub plain : Plain (unsigned_decimal n)
  pub digits : is_number (unsigned_decimal n) ≡ true
  pub value : value_of (unsigned_decimal n) ≡ n

pub record NameWord (w : List ℕ) : Type 0 where
  pub plain : Plain w
  pub no_number : is_number w ≡ false
  pub no_if : same_name w (bytes "IF") ≡ false
  pub no_end : same_name w (bytes "END_VAR") ≡ false
  pub name : is_identifier w ≡ true
