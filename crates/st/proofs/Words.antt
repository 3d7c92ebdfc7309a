-- The decimals and identifiers that are printed are words that read back. Assumes nothing.
use Prim.Native.Nat.{ℕ, ◌≤◌, ◌<◌, ◌-◌}
use native.Mathlib.Omega.{arith}
use mathlib.Core.Path.{◌≡◌, refl, sym, ap, ◌∙◌}
use mathlib.Core.Bool.{Bool, true, false, not, ◌&&◌, ◌||◌, cond, false≢true}
use mathlib.Core.List.{List, [], ◌∷◌}
use lib.Dec.{eqb, leb, ltb}
use lib.ListN.{length}
use borrow.Author.Tests.{ne_eqb, eqb-true, leb-true, ltb-true, not-true}
use Rattle.arith.proofs.Basics.{and_both}
use Rattle.lexer.specs.Bytes.{bytes, same_bytes, capital, capitals}
use Rattle.lexer.specs.Lexer.{is_digit, is_letter, is_alphanumeric, same_name}
use Rattle.lexer.specs.Spelling.{AllBytes, IsWord}
use Rattle.trace_text.specs.Row.{all_digits}
use Rattle.trace_text.specs.Output.{unsigned_decimal}
use Rattle.trace_text.proofs.Printing.{reads}
use Rattle.st.specs.Reading.{is_part, is_any, keywords, is_repetition, is_produced, is_identifier}
use Rattle.st.proofs.Lexed.{Parts, Numeral, NameWord}

-- ---- bytes

between : (m b n : ℕ) → (leb m b && ltb b n) ≡ true → (m ≤ b) × (b < n)
between m b n e = let h = and_both (leb m b) (ltb b n) e in (leb-true m b h.0, ltb-true b n h.1)

-- a byte of these is a part
part_small : (s t u v : Bool) → s ≡ true → (s || (t || (u || v))) ≡ true
part_small s t u v e = rw e

part_large : (s t u v : Bool) → t ≡ true → (s || (t || (u || v))) ≡ true
part_large true t u v e = refl
part_large false t u v e = rw e

part_digit : (s t u v : Bool) → u ≡ true → (s || (t || (u || v))) ≡ true
part_digit true t u v e = refl
part_digit false true u v e = refl
part_digit false false u v e = rw e

digit_part : (b : ℕ) → is_digit b ≡ true → is_part b ≡ true
unfolding is_digit
digit_part b e = part_digit (leb 97 b && ltb b 123) (leb 65 b && ltb b 91) (leb 48 b && ltb b 58) (eqb b 95) e

pub letter_part : (b : ℕ) → is_letter b ≡ true → is_part b ≡ true
unfolding is_letter
letter_part b e = by (leb 65 b && ltb b 91) refl e where
  by : (t : Bool) → (leb 65 b && ltb b 91) ≡ t → cond t true (leb 97 b && ltb b 123) ≡ true → is_part b ≡ true
  by true t e = part_large (leb 97 b && ltb b 123) (leb 65 b && ltb b 91) (leb 48 b && ltb b 58) (eqb b 95) t
  by false t e = part_small (leb 97 b && ltb b 123) (leb 65 b && ltb b 91) (leb 48 b && ltb b 58) (eqb b 95) e

pub alphanumeric_part : (b : ℕ) → is_alphanumeric b ≡ true → is_part b ≡ true
unfolding is_alphanumeric
alphanumeric_part b e = by (is_letter b) refl e where
  by : (t : Bool) → is_letter b ≡ t → cond t true (is_digit b) ≡ true → is_part b ≡ true
  by true t e = letter_part b t
  by false t e = digit_part b e

pub alphanumeric_parts : (l : List ℕ) → AllBytes is_alphanumeric l → Parts l
alphanumeric_parts [] h = tt
alphanumeric_parts (b ∷ l) h = (alphanumeric_part b h.0, alphanumeric_parts l h.1)

-- ---- signs

-- a capital of a byte stands no lower than 65 or at the byte
capital_at : (b n : ℕ) → n < 65 → capital b ≡ n → b ≡ n
unfolding capital
capital_at b n h e = by (leb 97 b && ltb b 123) refl e where
  by : (t : Bool) → (leb 97 b && ltb b 123) ≡ t → cond t (b - 32) b ≡ n → b ≡ n
  by true t e = let g = between 97 b 123 t in absurd (omega arith)
  by false t e = e

-- a word that begins with a part is no sign of one byte
no_sign : (b : ℕ) (l : List ℕ) (n : ℕ) → is_part b ≡ true → is_part n ≡ false → n < 65 → capital n ≡ n → same_name (b ∷ l) (n ∷ []) ≡ false
unfolding same_name same_bytes capitals
no_sign b l n p q h c = rw (c, ne_eqb (capital b) n (λ e. false≢true (sym q ∙ ap is_part (sym (capital_at b n h e)) ∙ p)))

no_open : (b : ℕ) (l : List ℕ) → is_part b ≡ true → same_name (b ∷ l) (bytes "(") ≡ false
unfolding capital
no_open b l p = no_sign b l 40 p refl (omega arith) refl

no_minus : (b : ℕ) (l : List ℕ) → is_part b ≡ true → same_name (b ∷ l) (bytes "-") ≡ false
unfolding capital
no_minus b l p = no_sign b l 45 p refl (omega arith) refl

-- ---- decimals

digits_parts : (l : List ℕ) → all_digits l ≡ true → Parts l
digits_parts [] e = tt
digits_parts (b ∷ l) e = let h = and_both (is_digit b) (all_digits l) e in (digit_part b h.0, digits_parts l h.1)

-- a digit is no capital N
no_not : (b : ℕ) (l : List ℕ) → is_digit b ≡ true → same_name (b ∷ l) (bytes "NOT") ≡ false
unfolding same_name same_bytes capitals capital is_digit
no_not b l e = let h = between 48 b 58 e in rw (ne_eqb (capital b) 78 (λ q. by (leb 97 b && ltb b 123) refl h.0 h.1 q)) where
  by : (t : Bool) → (leb 97 b && ltb b 123) ≡ t → 48 ≤ b → b < 58 → cond t (b - 32) b ≡ 78 → ⊥
  by true t l h e = let g = between 97 b 123 t in omega arith
  by false t l h e = omega arith

pub numeral : (n : ℕ) → Numeral n
numeral n = by (unsigned_decimal n) refl (reads n).digits (reads n).some_digits where
  by : (w : List ℕ) → unsigned_decimal n ≡ w → all_digits w ≡ true → 1 ≤ length w → Numeral n
  by [] q e h = absurd (omega arith)
  by (b ∷ l) q e h =
      let d = and_both (is_digit b) (all_digits l) e in
      let p = digit_part b d.0 in
      record {
        plain = record {
          word = record { head = b; tail = l; is = q; first = p; rest = digits_parts l d.1 };
          no_bracket = rw q (no_open b l p);
          no_minus = rw q (no_minus b l p);
          no_not = rw q (no_not b l d.0);
        };
        digits = rw q e;
        value = (reads n).value;
      }

-- ---- identifiers

neither : (s t : Bool) → (s || t) ≡ false → (s ≡ false) × (t ≡ false)
neither true t e = absurd (false≢true (sym e))
neither false t e = (refl, e)

-- the first byte of an identifier is a part, and no digit
begins_word : (a : ℕ) → (is_letter a || eqb a 95) ≡ true → (is_part a ≡ true) × (is_digit a ≡ false)
unfolding is_letter is_digit
begins_word a e = by (leb 65 a && ltb a 91) refl (leb 97 a && ltb a 123) refl (eqb a 95) refl e where
  far : 58 ≤ a → (leb 48 a && ltb a 58) ≡ false
  far h = go (leb 48 a && ltb a 58) refl where
    go : (t : Bool) → (leb 48 a && ltb a 58) ≡ t → t ≡ false
    go true t = let g = between 48 a 58 t in absurd (omega arith)
    go false t = refl

  by : (s : Bool) → (leb 65 a && ltb a 91) ≡ s → (t : Bool) → (leb 97 a && ltb a 123) ≡ t → (u : Bool) → eqb a 95 ≡ u → (cond s true t || u) ≡ true → (is_part a ≡ true) × ((leb 48 a && ltb a 58) ≡ false)
  by true s t et u eu e = let g = between 65 a 91 s in (part_large (leb 97 a && ltb a 123) (leb 65 a && ltb a 91) (leb 48 a && ltb a 58) (eqb a 95) s, far (omega arith))
  by false s true et u eu e = let g = between 97 a 123 et in (part_small (leb 97 a && ltb a 123) (leb 65 a && ltb a 91) (leb 48 a && ltb a 58) (eqb a 95) et, far (omega arith))
  by false s false et true eu e = let g = eqb-true a 95 eu in (rw g, far (omega arith))
  by false s false et false eu e = absurd (false≢true e)

produced_begins : (a : ℕ) (l : List ℕ) → is_produced (a ∷ l) ≡ true → (is_letter a || eqb a 95) ≡ true
produced_begins a [] e = rw e
produced_begins a (b ∷ l) e = by (is_letter a) (is_repetition (b ∷ l)) (eqb a 95) (is_alphanumeric b && is_repetition l) e where
  by : (s t u v : Bool) → ((s && t) || (u && v)) ≡ true → (s || u) ≡ true
  by true t u v e = refl
  by false t true v e = refl
  by false t false v e = absurd (false≢true e)

-- letters and digits repeat
pub alphanumeric_repetition : (l : List ℕ) → AllBytes is_alphanumeric l → is_repetition l ≡ true
alphanumeric_repetition [] h = refl
alphanumeric_repetition (a ∷ []) h = h.0
alphanumeric_repetition (a ∷ b ∷ l) h = rw (h.0, alphanumeric_repetition (b ∷ l) h.1)

-- a letter, then letters and digits; `_` before such a word
pub word_produced : (w : List ℕ) → IsWord w → is_produced w ≡ true
word_produced [] h = absurd h
word_produced (a ∷ []) h = h.0
word_produced (a ∷ b ∷ l) h = rw (h.0, alphanumeric_repetition (b ∷ l) h.1)

pub underscore_produced : (w : List ℕ) → IsWord w → is_produced (95 ∷ w) ≡ true
unfolding is_letter is_alphanumeric
underscore_produced [] h = absurd h
underscore_produced (a ∷ l) h = rw (h.0, alphanumeric_repetition l h.1)

pub identifier_word : (a : ℕ) (l : List ℕ) → Parts l → is_identifier (a ∷ l) ≡ true → NameWord (a ∷ l)
unfolding is_identifier
identifier_word a l h e =
    let x = and_both (is_produced (a ∷ l)) (not (is_any keywords (a ∷ l))) e in
    let b = begins_word a (produced_begins a l x.0) in
    let k₀ = neither (same_name (a ∷ l) (bytes "VAR")) _ (not-true (is_any keywords (a ∷ l)) x.1) in
    let k₁ = neither (same_name (a ∷ l) (bytes "VAR_INPUT")) _ k₀.1 in
    let k₂ = neither (same_name (a ∷ l) (bytes "END_VAR")) _ k₁.1 in
    let k₃ = neither (same_name (a ∷ l) (bytes "DINT")) _ k₂.1 in
    let k₄ = neither (same_name (a ∷ l) (bytes "IF")) _ k₃.1 in
    let k₅ = neither (same_name (a ∷ l) (bytes "THEN")) _ k₄.1 in
    let k₆ = neither (same_name (a ∷ l) (bytes "ELSIF")) _ k₅.1 in
    let k₇ = neither (same_name (a ∷ l) (bytes "END_IF")) _ k₆.1 in
    let k₈ = neither (same_name (a ∷ l) (bytes "AND")) _ k₇.1 in
    let k₉ = neither (same_name (a ∷ l) (bytes "OR")) _ k₈.1 in
    let k = neither (same_name (a ∷ l) (bytes "NOT")) _ k₉.1 in
    record {
      plain = record {
        word = record { head = a; tail = l; is = refl; first = b.0; rest = h };
        no_bracket = no_open a l b.0;
        no_minus = no_minus a l b.0;
        no_not = k.0;
      };
      no_number = rw b.1;
      no_if = k₄.0;
      no_end = k₂.0;
      name = e;
    }
