-- The trace program while it is fed its input in parts: where it stands between two bytes, and what a byte and the end put out. The
-- contracts of the crate cite these; the law `whole` (proofs/Whole) says that any sequence of calls comes to `printed`. Assumes nothing.
use Rattle.std.specs.Prelude.{ℕ, suc, ◌+◌, ◌-◌, cond, List, [], ◌∷◌, ◌++◌, eqb, ltb, ℤ, length, take}
use Rattle.limits.specs.Answer.{Answer, accepted, refused}
use Rattle.semantics.specs.Program.{Program}
use Rattle.semantics.specs.Formula.{State}
use Rattle.semantics.specs.Rows.{starts_of}
use Rattle.bytecode.specs.Translation.{image_of}
use Rattle.grammar.specs.Parse.{program_of}
use Rattle.scan.specs.Services.{AfterScan, scan_of}
use Rattle.correctness.specs.TraceCorrect.{verdict_of}
use Rattle.trace_text.specs.Output.{row_line}
use Rattle.trace_text.specs.declared.Stage.{Stage}
use Rattle.trace_text.specs.declared.Stage.TheVariants as G
use Rattle.trace_text.specs.declared.Line.{Line}
use Rattle.trace_text.specs.declared.Line.TheVariants as L
use Rattle.trace_text.specs.Inner.Stages.{stage_after, text_after, bytes_before, line_after, cells_after, cells_of, handed_row, is_begun}
use Rattle.tracer.specs.declared.Tracer.{Tracer}
use Rattle.tracer.specs.declared.Tracer.TheVariants as T
use Rattle.tracer.specs.Printed.{refusal_of, printed_values, opening}

-- one byte more than a text may have, so that a longer one is seen to be
abbrev pub text_room : ℕ
text_room = 32769

-- a line, and the head with the start's line, have fewer bytes
abbrev pub line_room : ℕ
line_room = 2048

-- ---- where the program stands

pub data Session : Type 0 where
  -- in the text: the bytes known to belong to it, as far as there is room
  in_text : Stage → List ℕ → List ℤ → Session
  -- in the rows: the image, the count of names, the state, the line begun with the cells for its numbers, and the number of the last row
  in_rows : List ℕ → ℕ → State → Line → List ℤ → ℕ → Session
  -- the text was refused: what follows is passed over
  passed_over : Session

abbrev pub if_text : Stage → List ℕ → List ℤ → Session → Session
if_text G.LineStart text cells s = in_text G.LineStart text cells
if_text G.InLine text cells s = in_text G.InLine text cells
if_text G.Hash text cells s = in_text G.Hash text cells
if_text G.Rows text cells s = s

-- of the memory that the program keeps
abbrev pub session_of : Tracer → List ℕ → List ℕ → State → List ℤ → Session
session_of (T.Text stage n) text image s cells = if_text stage (take n text) cells passed_over
session_of (T.Rows size names width line number) text image s cells = in_rows (take size image) names (take width s) line cells number

-- ---- one byte

-- behind the line `#`
abbrev pub behind_text : Answer Program → List ℤ → Session
behind_text (refused number place) cells = passed_over
behind_text (accepted p) cells = in_rows (image_of p) (length p.names) (starts_of p) L.Start cells 0

abbrev pub if_rows : Stage → List ℕ → List ℕ
if_rows G.LineStart out = []
if_rows G.InLine out = []
if_rows G.Hash out = []
if_rows G.Rows out = out

-- Row numbers are counted in 64 bits.
unfoldable pub next_number : ℕ → ℕ
next_number n = cond (ltb n 18446744073709551615) (n + 1) n

-- the line of a row that was scanned, for so many names
abbrev pub scan_line : ℕ → ℕ → AfterScan → List ℕ
scan_line names number a = row_line number (printed_values names a.state) (refusal_of (verdict_of a.answer))

-- the text with what a byte adds to it
abbrev pub longer_text : Stage → List ℕ → ℕ → List ℕ
longer_text stage text b = take text_room (text ++ text_after stage b)

unfoldable pub after : Session → ℕ → Session
after (in_text stage text cells) b =
    let all = longer_text stage text b in
    if_text (stage_after stage b) all cells (behind_text (program_of all) cells)
after (in_rows image names s line cells n) b =
    let a = scan_of image s (handed_row line cells) in
    cond (eqb b 10) (in_rows image names a.state L.Start (cells_of line cells) (next_number n)) (in_rows image names s (line_after line b) (cells_after line cells b) n)
after passed_over b = passed_over

-- the bytes put out
unfoldable pub put_by : Session → ℕ → List ℕ
put_by (in_text stage text cells) b = if_rows (stage_after stage b) (opening (program_of (longer_text stage text b)))
put_by (in_rows image names s line cells n) b = cond (eqb b 10) (scan_line names (next_number n) (scan_of image s (handed_row line cells))) []
put_by passed_over b = []

-- ---- bytes, and the end of the input

unfoldable pub fed_over : Session → List ℕ → Session
fed_over s [] = s
fed_over s (b ∷ bytes) = fed_over (after s b) bytes

unfoldable pub put_over : Session → List ℕ → List ℕ
put_over s [] = []
put_over s (b ∷ bytes) = put_by s b ++ put_over (after s b) bytes

-- a text without the line `#` is printed without rows; a last line without LF is a row
unfoldable pub at_end : Session → List ℕ
at_end (in_text stage text cells) = opening (program_of text)
at_end (in_rows image names s line cells n) = cond (is_begun line) (scan_line names (next_number n) (scan_of image s (handed_row line cells))) []
at_end passed_over = []

-- ---- how many bytes a call takes: in the text, as far as the rows; in the rows, as far as there is room for another line

unfoldable pub taken_with : ℕ → Session → List ℕ → ℕ
taken_with room s [] = 0
taken_with room s (b ∷ bytes) = let more = suc (taken_with (room - length (put_by s b)) (after s b) bytes) in cond (ltb room line_room) 0 more

unfoldable pub taken_of : ℕ → Session → List ℕ → ℕ
taken_of room (in_text stage text cells) bytes = bytes_before stage bytes
taken_of room (in_rows image names s line cells n) bytes = taken_with room (in_rows image names s line cells n) bytes
taken_of room passed_over bytes = length bytes
