-- Small and capital letters: what depends on capitals only, and what capitals leave alone. Assumes nothing.
use mathlib.Core.Path.{◌≡◌, refl, ap, ap₂, sym, ◌∙◌}
use mathlib.Core.List.{List, [], ◌∷◌}
use mathlib.Core.Bool.{Bool, true, false, ◌&&◌, cond}
use Prim.Native.Nat.{ℕ, suc, ◌-◌, ◌≤◌, ◌<◌}
use native.Mathlib.Omega.{arith}
use lib.ListN.{length}
use lib.Dec.{leb, ltb}
use borrow.Author.Tests.{leb-true, leb-false, ltb-true, ltb-false, lt-ltb, le-ltb, le-leb}
use Rattle.lexer.specs.Bytes.{capital, capitals}
use Rattle.lexer.specs.Lexer.{is_digit, is_letter, is_alphanumeric}
use Rattle.lexer.specs.Spelling.{AllBytes, IsWord}

-- ---- one byte

capital_prop : (P : ℕ → Type 0) (b : ℕ) → (97 ≤ b → b < 123 → P (b - 32)) → (b < 97 → P b) → (123 ≤ b → P b) → P (capital b)
unfolding capital
capital_prop P b f g h = go (leb 97 b) refl (ltb b 123) refl
  where
    go : (t : Bool) → leb 97 b ≡ t → (u : Bool) → ltb b 123 ≡ u → P (cond (t && u) (b - 32) b)
    go true t true u = f (leb-true 97 b t) (ltb-true b 123 u)
    go true t false u = h (ltb-false b 123 u)
    go false t u v = g (leb-false 97 b t)

-- a byte before the small letters stays
pub capital_low : (b : ℕ) → b < 97 → capital b ≡ b
capital_low b l = capital_prop (λ (c : ℕ). c ≡ b) b (λ h m. absurd (omega arith)) (λ h. refl) (λ h. absurd (omega arith))

capital_high : (b : ℕ) → 123 ≤ b → capital b ≡ b
capital_high b l = capital_prop (λ (c : ℕ). c ≡ b) b (λ h m. absurd (omega arith)) (λ h. refl) (λ h. refl)

capital_twice : (b : ℕ) → capital (capital b) ≡ capital b
capital_twice b = capital_prop (λ (c : ℕ). capital c ≡ c) b (λ h m. capital_low (b - 32) (omega arith)) (λ h. capital_low b h) (λ h. capital_high b h)

a_letter : (b : ℕ) → 65 ≤ b → b < 91 → is_letter b ≡ true
unfolding is_letter
a_letter b h l = rw (le-leb 65 b h, lt-ltb b 91 l)

small_letter : (b : ℕ) → 97 ≤ b → b < 123 → is_letter b ≡ true
unfolding is_letter
small_letter b h l = rw (le-leb 65 b (omega arith), le-ltb b 91 (omega arith), le-leb 97 b h, lt-ltb b 123 l)

letter_capital : (b : ℕ) → is_letter (capital b) ≡ is_letter b
letter_capital b = capital_prop (λ (c : ℕ). is_letter c ≡ is_letter b) b (λ h l. a_letter (b - 32) (omega arith) (omega arith) ∙ sym (small_letter b h l)) (λ h. refl) (λ h. refl)

no_digit : (b : ℕ) → 58 ≤ b → is_digit b ≡ false
unfolding is_digit
no_digit b h = rw (le-leb 48 b (omega arith), le-ltb b 58 h)

digit_capital : (b : ℕ) → is_digit (capital b) ≡ is_digit b
digit_capital b = capital_prop (λ (c : ℕ). is_digit c ≡ is_digit b) b (λ h l. no_digit (b - 32) (omega arith) ∙ sym (no_digit b (omega arith))) (λ h. refl) (λ h. refl)

alphanumeric_capital : (b : ℕ) → is_alphanumeric (capital b) ≡ is_alphanumeric b
unfolding is_alphanumeric
alphanumeric_capital b = rw (letter_capital b, digit_capital b)

digit_low : (b : ℕ) → is_digit b ≡ true → b < 58
unfolding is_digit
digit_low b e = go (leb 48 b) (ltb b 58) refl e
  where
    go : (t u : Bool) → ltb b 58 ≡ u → t && u ≡ true → b < 58
    go true true u h = ltb-true b 58 u
    go true false u h = let z : ◌≡◌ {A = ℕ} 0 1 = cc in absurd (omega arith)
    go false t u h = let z : ◌≡◌ {A = ℕ} 0 1 = cc in absurd (omega arith)

-- ---- bytes

pub length_capitals : (w : List ℕ) → length (capitals w) ≡ length w
unfolding capitals
length_capitals [] = refl
length_capitals (b ∷ w) = ap suc (length_capitals w)

pub capitals_twice : (w : List ℕ) → capitals (capitals w) ≡ capitals w
unfolding capitals
capitals_twice [] = refl
capitals_twice (b ∷ w) = ap₂ (λ (x : ℕ) (l : List ℕ). x ∷ l) (capital_twice b) (capitals_twice w)

alphanumeric_capitals : (w : List ℕ) → AllBytes is_alphanumeric w → AllBytes is_alphanumeric (capitals w)
unfolding capitals
alphanumeric_capitals [] h = tt
alphanumeric_capitals (b ∷ w) h = (alphanumeric_capital b ∙ h.0, alphanumeric_capitals w h.1)

pub word_capitals : (w : List ℕ) → IsWord w → IsWord (capitals w)
unfolding capitals
word_capitals [] h = absurd h
word_capitals (b ∷ w) h = (letter_capital b ∙ h.0, alphanumeric_capitals w h.1)

pub digits_capitals : (w : List ℕ) → AllBytes is_digit w → capitals w ≡ w
unfolding capitals
digits_capitals [] h = refl
digits_capitals (b ∷ w) h = ap₂ (λ (x : ℕ) (l : List ℕ). x ∷ l) (capital_low b (omega (arith, digit_low b h.0))) (digits_capitals w h.1)
