-- Numbers in a field: what is a number, and what is none whatever follows. Assumes nothing.
use mathlib.Core.Path.{◌≡◌, refl, sym, ◌∙◌}
use mathlib.Core.Bool.{Bool, true, false, ◌&&◌, false≢true}
use mathlib.Core.List.{List, [], ◌∷◌, ◌++◌}
use mathlib.Core.Option.{none, some}
use Prim.Native.Nat.{ℕ, zero, suc, ◌+◌, ◌*◌, ◌%◌, ◌≤◌, ◌<◌}
use native.Mathlib.Omega.{arith}
use lib.Dec.{leb, ltb}
use borrow.Author.Tests.{le-leb, lt-leb, ne_eqb, leb-true, ltb-true}
use Rattle.arith.specs.Values.{is_int32}
use Rattle.arith.proofs.Basics.{and_both}
use Rattle.arith.proofs.Laws.{same_bool}
use Rattle.lexer.specs.Lexer.{is_digit, value_of, value_on}
use Rattle.lexer.proofs.Values.{value_grows}
use Rattle.trace_text.specs.Row.{all_digits, within32, number_of}
use Rattle.trace_text.specs.Inner.Stages.{signed, in_word32}

-- ---- digits

pub all_append : (xs ys : List ℕ) → all_digits (xs ++ ys) ≡ (all_digits xs && all_digits ys)
all_append [] ys = refl
all_append (x ∷ xs) ys = by (is_digit x) (all_append xs ys) where
  by : (t : Bool) → all_digits (xs ++ ys) ≡ (all_digits xs && all_digits ys) → (t && all_digits (xs ++ ys)) ≡ ((t && all_digits xs) && all_digits ys)
  by true e = e
  by false e = refl

first_digit : (d : ℕ) (ds : List ℕ) → all_digits (d ∷ ds) ≡ true → is_digit d ≡ true
first_digit d ds e = (and_both (is_digit d) (all_digits ds) e).0

-- a digit is no `-`
digit_no_minus : (d : ℕ) → is_digit d ≡ true → d ≡ 45 → ⊥
unfolding is_digit
digit_no_minus d e m = false≢true (rw m at e)

-- and its low four bits are its value
pub digit_low : (b : ℕ) → is_digit b ≡ true → b % 16 ≤ 9
unfolding is_digit
digit_low b e =
    let p = and_both (leb 48 b) (ltb b 58) e in
    omega (arith, leb-true 48 b p.0, ltb-true b 58 p.1)

pub value_append : (xs ys : List ℕ) (v : ℕ) → value_on (xs ++ ys) v ≡ value_on ys (value_on xs v)
unfolding value_on
value_append [] ys v = refl
value_append (x ∷ xs) ys v = value_append xs ys (10 * v + x % 16)

-- ---- a field: `-` or nothing, then digits

abbrev pub signs : Bool → List ℕ → List ℕ
signs true field = 45 ∷ field
signs false field = field

pub signs_append : (negative : Bool) (xs ys : List ℕ) → signs negative xs ++ ys ≡ signs negative (xs ++ ys)
signs_append true xs ys = refl
signs_append false xs ys = refl

-- digits are the number
pub number_signs : (negative : Bool) (d : ℕ) (ds : List ℕ) → all_digits (d ∷ ds) ≡ true
    → number_of (signs negative (d ∷ ds)) ≡ within32 (signed negative (value_of (d ∷ ds)))
unfolding number_of
number_signs true d ds e = rw e
number_signs false d ds e = rw (ne_eqb d 45 (digit_no_minus d (first_digit d ds e)), e)

-- what has another byte is none
pub none_signs : (negative : Bool) (d : ℕ) (ds : List ℕ) → is_digit d ≡ true → all_digits (d ∷ ds) ≡ false → number_of (signs negative (d ∷ ds)) ≡ none
unfolding number_of
none_signs true d ds f e = rw e
none_signs false d ds f e = rw (ne_eqb d 45 (digit_no_minus d f), e)

pub none_first : (b : ℕ) (field : List ℕ) → (b ≡ 45 → ⊥) → is_digit b ≡ false → number_of (b ∷ field) ≡ none
unfolding number_of
none_first b field m e = rw (ne_eqb b 45 m, e)

pub none_minus : (b : ℕ) (field : List ℕ) → is_digit b ≡ false → number_of (45 ∷ b ∷ field) ≡ none
unfolding number_of
none_minus b field e = rw e

pub none-empty : number_of [] ≡ none
unfolding number_of
none-empty = refl

pub none-lone : number_of (45 ∷ []) ≡ none
unfolding number_of
none-lone = refl

-- ---- the range

-- two tests that agree
leb-same : (a b c d : ℕ) → (a ≤ b → c ≤ d) → (c ≤ d → a ≤ b) → leb a b ≡ leb c d
leb-same a b c d p q = same_bool (leb a b) (leb c d) (λ e. le-leb c d (p (leb-true a b e))) (λ e. le-leb a b (q (leb-true c d e)))

pub range_is : (negative : Bool) (v : ℕ) → in_word32 negative v ≡ is_int32 (signed negative v)
range_is false v = refl
range_is true zero = refl
range_is true (suc v) = by (leb v 2147483647) (leb-same (suc v) 2147483648 v 2147483647 (λ h. omega arith) (λ h. omega arith)) where
  by : (t : Bool) → leb (suc v) 2147483648 ≡ t → leb (suc v) 2147483648 ≡ (t && true)
  by true e = e
  by false e = e

pub number_in : (negative : Bool) (d : ℕ) (ds : List ℕ) → all_digits (d ∷ ds) ≡ true → in_word32 negative (value_of (d ∷ ds)) ≡ true
    → number_of (signs negative (d ∷ ds)) ≡ some (signed negative (value_of (d ∷ ds)))
number_in negative d ds e r = number_signs negative d ds e ∙ (rw (sym (range_is negative (value_of (d ∷ ds))) ∙ r))

pub number_out : (negative : Bool) (d : ℕ) (ds : List ℕ) → all_digits (d ∷ ds) ≡ true → in_word32 negative (value_of (d ∷ ds)) ≡ false
    → number_of (signs negative (d ∷ ds)) ≡ none
number_out negative d ds e r = number_signs negative d ds e ∙ (rw (sym (range_is negative (value_of (d ∷ ds))) ∙ r))

pub out_of_range : (negative : Bool) (v : ℕ) → 2147483648 < v → in_word32 negative v ≡ false
out_of_range true v h = lt-leb v 2147483648 h
out_of_range false v h = lt-leb v 2147483647 (omega arith)

-- a further digit of a number over 214748364 makes it none, whatever follows
pub none_large : (negative : Bool) (d : ℕ) (ds : List ℕ) (b : ℕ) (field : List ℕ) → all_digits (d ∷ ds) ≡ true → 214748364 < value_of (d ∷ ds)
    → number_of (signs negative (d ∷ ds) ++ b ∷ field) ≡ none
unfolding value_of value_on
none_large negative d ds b field e h = rw (signs_append negative (d ∷ ds) (b ∷ field)) (by (all_digits (d ∷ (ds ++ b ∷ field))) refl) where
  grown : 2147483648 < value_of (d ∷ (ds ++ b ∷ field))
  grown = let g = value_grows field (10 * value_on ds (10 * 0 + d % 16) + b % 16) in rw (value_append ds (b ∷ field) (10 * 0 + d % 16)) (omega arith)

  by : (t : Bool) → all_digits (d ∷ (ds ++ b ∷ field)) ≡ t → number_of (signs negative (d ∷ (ds ++ b ∷ field))) ≡ none
  by true f = number_out negative d (ds ++ b ∷ field) f (out_of_range negative _ grown)
  by false f = none_signs negative d (ds ++ b ∷ field) (first_digit d ds e) f

-- a byte that is no digit, likewise
pub none_byte : (negative : Bool) (d : ℕ) (ds : List ℕ) (b : ℕ) (field : List ℕ) → all_digits (d ∷ ds) ≡ true → is_digit b ≡ false
    → number_of (signs negative (d ∷ ds) ++ b ∷ field) ≡ none
none_byte negative d ds b field e f =
    rw (signs_append negative (d ∷ ds) (b ∷ field))
    (none_signs negative d (ds ++ b ∷ field) (first_digit d ds e) (all_append (d ∷ ds) (b ∷ field) ∙ (rw (e, f))))
