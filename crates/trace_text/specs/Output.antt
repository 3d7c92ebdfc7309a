-- What the trace program prints. Document 01, "Latches to try", second paragraph and the printed example. Assumes nothing.
use Rattle.std.specs.Prelude.{cond, ℕ, zero, suc, ◌+◌, ◌/◌, ◌%◌, min, ◌≡◌, List, [], ◌∷◌, ◌++◌, map, ltb, ℤ, pos, negsuc, length}
use Rattle.std.proofs.lemmas.List.Edits.{sets}
use Rattle.lexer.specs.Bytes.{bytes}

-- ---- decimals, the shortest, `-` for negative numbers

-- at most k + 1 digits: those of n / 10, then the last. (A number n has no more than n + 1 digits.)
unfoldable pub digits_up_to : ℕ → ℕ → List ℕ
digits_up_to zero n = (48 + n % 10) ∷ []
digits_up_to (suc k) n =
    let more = digits_up_to k (n / 10) ++ (48 + n % 10) ∷ [] in
    cond (ltb n 10) ((48 + n) ∷ []) more

unfoldable pub unsigned_decimal : ℕ → List ℕ
unsigned_decimal n = digits_up_to n n

-- negsuc n is −n − 1
unfoldable pub decimal_of : ℤ → List ℕ
decimal_of (pos n) = unsigned_decimal n
decimal_of (negsuc n) = 45 ∷ unsigned_decimal (n + 1)

-- ---- lines: fields with single spaces, LF

abbrev pub spaced : List (List ℕ) → List ℕ
spaced [] = []
spaced (field ∷ fields) = 32 ∷ (field ++ spaced fields)

abbrev pub line_of : List ℕ → List (List ℕ) → List ℕ
line_of first more = first ++ (spaced more ++ (10 ∷ []))

-- A refused text prints `refused K at P`.
unfoldable pub refused_line : ℕ → ℕ → List ℕ
refused_line number place = line_of (bytes "refused") (unsigned_decimal number ∷ bytes "at" ∷ unsigned_decimal place ∷ [])

-- `scan`, the names in declared order, `result`
unfoldable pub head_line : List (List ℕ) → List ℕ
head_line names = line_of (bytes "scan") (names ++ (bytes "result" ∷ []))

-- Fields: row number (0 the start), values of the state after the row in declared order (for a refused row, those it found),
-- refusal or 0.
unfoldable pub row_line : ℕ → List ℤ → ℕ → List ℕ
row_line number values refusal = line_of (unsigned_decimal number) (map decimal_of values ++ (unsigned_decimal refusal ∷ []))

-- ---- a buffer into which bytes were put from a place on: as far as there is room, and the place behind them, at most its end
pub record Put (before : List ℕ) (at : ℕ) (put : List ℕ) (after : List ℕ) (behind : ℕ) : Type 0 where
  pub memory : after ≡ sets before at put
  pub place : behind ≡ min (at + length put) (length before)
