-- Standard input of the trace program. Document 01, "Latches to try", second paragraph, its first two sentences. Assumes nothing.
use Rattle.std.specs.Prelude.{ℕ, Bool, cond, List, [], ◌∷◌, ◌++◌, map, eqb}
use Rattle.lexer.specs.Bytes.{bytes, same_bytes}

-- ---- lines, each with the LF that ends it; nothing after the last LF is no line

-- a byte before the first part
abbrev pub before : ℕ → List (List ℕ) → List (List ℕ)
before b [] = (b ∷ []) ∷ []
before b (part ∷ parts) = (b ∷ part) ∷ parts

unfoldable pub lines_of : List ℕ → List (List ℕ)
lines_of [] = []
lines_of (b ∷ input) = let more = lines_of input in cond (eqb b 10) ((10 ∷ []) ∷ more) (before b more)

-- a line without its line end: the bytes before the first LF
unfoldable pub bare : List ℕ → List ℕ
bare [] = []
bare (b ∷ line) = let more = bare line in cond (eqb b 10) [] (b ∷ more)

-- a line that is just `#`
unfoldable pub is_hash_line : List ℕ → Bool
is_hash_line line = same_bytes (bare line) (bytes "#")

-- ---- the trace program reads the text (all bytes before the first line that is just `#`, line end included), that line `#`

unfoldable pub text_in : List (List ℕ) → List ℕ
text_in [] = []
text_in (line ∷ lines) = let more = line ++ text_in lines in cond (is_hash_line line) [] more

unfoldable pub text_of : List ℕ → List ℕ
text_of input = text_in (lines_of input)

-- ---- then one row a line (nothing after the last LF is no line). Without a `#` line there are no rows.

unfoldable pub rows_in : List (List ℕ) → List (List ℕ)
rows_in [] = []
rows_in (line ∷ lines) = let more = rows_in lines in cond (is_hash_line line) (map bare lines) more

unfoldable pub row_lines : List ℕ → List (List ℕ)
row_lines input = rows_in (lines_of input)
