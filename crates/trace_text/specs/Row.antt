-- The row of a line. Document 01, "Latches to try", second paragraph: decimals, `-` allowed, with single spaces; a line that isn't
-- so, or has a number outside 32 bits, has the wrong length. Assumes nothing.
use Rattle.std.specs.Prelude.{ℕ, suc, Bool, true, ◌&&◌, cond, List, [], ◌∷◌, eqb, leb, ℤ, pos, neg_ℤ, length, replicate}
use Rattle.std.proofs.Math.Option.{Option, none, some}
use Rattle.limits.specs.Limits.{name_limit}
use Rattle.arith.specs.Values.{is_int32}
use Rattle.lexer.specs.Lexer.{is_digit, value_of}
use Rattle.trace_text.specs.Input.{before}

-- what follows a result; nothing stays nothing
infixl 20 ◌and_if◌
abbrev pub ◌and_if◌ : {A B : Type 0} → Option A → (A → Option B) → Option B
some a and_if f = f a
none and_if f = none

-- ---- decimals, `-` allowed

abbrev pub all_digits : List ℕ → Bool
all_digits [] = true
all_digits (b ∷ field) = is_digit b && all_digits field

-- the value of digits, at least one
abbrev pub digits_value : List ℕ → Option ℕ
digits_value [] = none
digits_value (b ∷ field) = cond (all_digits (b ∷ field)) (some (value_of (b ∷ field))) none

-- a number outside 32 bits is none
abbrev pub within32 : ℤ → Option ℤ
within32 z = cond (is_int32 z) (some z) none

unfoldable pub number_of : List ℕ → Option ℤ
number_of [] = none
number_of (b ∷ field) =
    cond (eqb b 45) (digits_value field and_if λ v. within32 (neg_ℤ (pos v))) (digits_value (b ∷ field) and_if λ v. within32 (pos v))

-- ---- with single spaces: a field before each space, and one behind the last

unfoldable pub fields_of : List ℕ → List (List ℕ)
fields_of [] = [] ∷ []
fields_of (b ∷ line) = let more = fields_of line in cond (eqb b 32) ([] ∷ more) (before b more)

-- all fields are numbers
unfoldable pub numbers_of : List (List ℕ) → Option (List ℤ)
numbers_of [] = some []
numbers_of (field ∷ fields) = number_of field and_if λ z. numbers_of fields and_if λ zs. some (z ∷ zs)

-- The row of a line, if it is one. An empty line is a row of no numbers.
unfoldable pub row_of : List ℕ → Option (List ℤ)
row_of [] = some []
row_of (b ∷ line) = numbers_of (fields_of (b ∷ line))

-- ---- what scan is handed. No image has over 64 inputs: a row of 65 numbers has the wrong length, so that 12 is scan's own answer.

unfoldable pub long_row : List ℤ
long_row = replicate (suc name_limit) (pos 0)

abbrev pub handed : Option (List ℤ) → List ℤ
handed none = long_row
handed (some row) = cond (leb (length row) name_limit) row long_row

unfoldable pub handed_of : List ℕ → List ℤ
handed_of line = handed (row_of line)
