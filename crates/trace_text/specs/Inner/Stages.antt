-- The state that the reader of standard input carries from byte to byte. Shapes for contracts of single steps; proofs/ shows that a
-- whole input, and a whole line, come to what Input and Row say. Assumes nothing.
use Rattle.std.specs.Prelude.{ℕ, suc, ◌+◌, ◌*◌, ◌%◌, Bool, true, false, ◌&&◌, cond, List, [], ◌∷◌, ◌++◌, eqb, leb, ltb, ℤ, pos, neg_ℤ, take}
use Rattle.std.proofs.lemmas.List.Edits.{sets}
use Rattle.limits.specs.Limits.{name_limit}
use Rattle.lexer.specs.Lexer.{is_digit}
use Rattle.trace_text.specs.Row.{long_row}
use Rattle.trace_text.specs.declared.Stage.{Stage}
use Rattle.trace_text.specs.declared.Stage.TheVariants.{LineStart, InLine, Hash, Rows}
use Rattle.trace_text.specs.declared.Line.{Line}
use Rattle.trace_text.specs.declared.Line.TheVariants.{Start, Wanted, Minus, Number, NoRow}

-- ---- the text and the rows

-- the stage after a byte in a line of the text
abbrev pub text_stage : ℕ → Stage
text_stage b = cond (eqb b 10) LineStart InLine

unfoldable pub stage_after : Stage → ℕ → Stage
stage_after LineStart b = cond (eqb b 35) Hash (text_stage b)
stage_after InLine b = text_stage b
stage_after Hash b = cond (eqb b 10) Rows InLine
stage_after Rows b = Rows

-- the bytes that are then known to belong to the text: a `#` that begins a line is held back until the byte behind it is seen
unfoldable pub text_after : Stage → ℕ → List ℕ
text_after LineStart b = cond (eqb b 35) [] (b ∷ [])
text_after InLine b = b ∷ []
text_after Hash b = cond (eqb b 10) [] (35 ∷ b ∷ [])
text_after Rows b = []

unfoldable pub stage_over : Stage → List ℕ → Stage
stage_over stage [] = stage
stage_over stage (b ∷ input) = stage_over (stage_after stage b) input

unfoldable pub text_over : Stage → List ℕ → List ℕ
text_over stage [] = []
text_over stage (b ∷ input) = text_after stage b ++ text_over (stage_after stage b) input

abbrev pub is_rows : Stage → Bool
is_rows LineStart = false
is_rows InLine = false
is_rows Hash = false
is_rows Rows = true

-- how many bytes come before the rows
unfoldable pub bytes_before : Stage → List ℕ → ℕ
bytes_before stage [] = 0
bytes_before stage (b ∷ input) = let more = suc (bytes_before (stage_after stage b) input) in cond (is_rows stage) 0 more

-- ---- one line

-- a number with the digit d more; one that is too large for 32 bits whatever follows makes the line no row
unfoldable pub longer_by : ℕ → Bool → ℕ → ℕ → Line
longer_by n negative v d = cond (leb v 214748364) (Number n negative (10 * v + d)) NoRow

unfoldable pub digit_after : ℕ → Bool → ℕ → ℕ → Line
digit_after n negative v b = cond (is_digit b) (longer_by n negative v (b % 16)) NoRow

unfoldable pub number_begins : ℕ → ℕ → Line
number_begins n b = cond (eqb b 45) (Minus n) (digit_after n false 0 b)

abbrev pub signed : Bool → ℕ → ℤ
signed true v = neg_ℤ (pos v)
signed false v = pos v

-- a number that is in the 32-bit signed range
abbrev pub in_word32 : Bool → ℕ → Bool
in_word32 true v = leb v 2147483648
in_word32 false v = leb v 2147483647

-- the n + 1st number of the line is whole, and counts
abbrev pub counts : ℕ → Bool → ℕ → Bool
counts n negative v = in_word32 negative v && ltb n name_limit

-- the cells then
unfoldable pub cells_end : ℕ → Bool → ℕ → List ℤ → List ℤ
cells_end n negative v cells = cond (counts n negative v) (sets cells n (signed negative v ∷ [])) cells

unfoldable pub line_after : Line → ℕ → Line
line_after Start b = number_begins 0 b
line_after (Wanted n) b = number_begins n b
line_after (Minus n) b = digit_after n true 0 b
line_after (Number n negative v) b = cond (eqb b 32) (cond (counts n negative v) (Wanted (n + 1)) NoRow) (digit_after n negative v b)
line_after NoRow b = NoRow

unfoldable pub cells_after : Line → List ℤ → ℕ → List ℤ
cells_after Start cells b = cells
cells_after (Wanted n) cells b = cells
cells_after (Minus n) cells b = cells
cells_after (Number n negative v) cells b = cond (eqb b 32) (cells_end n negative v cells) cells
cells_after NoRow cells b = cells

-- where the line ends: how many numbers scan is handed, and the cells that hold them
unfoldable pub count_of : Line → ℕ
count_of Start = 0
count_of (Wanted n) = suc name_limit
count_of (Minus n) = suc name_limit
count_of (Number n negative v) = cond (counts n negative v) (n + 1) (suc name_limit)
count_of NoRow = suc name_limit

unfoldable pub cells_of : Line → List ℤ → List ℤ
cells_of Start cells = cells
cells_of (Wanted n) cells = sets cells 0 long_row
cells_of (Minus n) cells = sets cells 0 long_row
cells_of (Number n negative v) cells = cond (counts n negative v) (cells_end n negative v cells) (sets cells 0 long_row)
cells_of NoRow cells = sets cells 0 long_row

-- the row that is handed to scan: the first of the cells
abbrev pub handed_row : Line → List ℤ → List ℤ
handed_row line cells = take (count_of line) (cells_of line cells)

-- a byte of the line was read
abbrev pub is_begun : Line → Bool
is_begun Start = false
is_begun (Wanted n) = true
is_begun (Minus n) = true
is_begun (Number n negative v) = true
is_begun NoRow = true
