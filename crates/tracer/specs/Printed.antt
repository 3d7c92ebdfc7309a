-- The whole trace program: the bytes that it prints for the bytes that it reads. Document 01, "Latches to try", second paragraph; document 02, A.7.
-- The rows' answers are those of the plain scan, so no image is spoken of. Assumes nothing.
use Rattle.std.specs.Prelude.{ℕ, ◌+◌, List, [], ◌∷◌, ◌++◌, map, ℤ, length, take}
use Rattle.limits.specs.Answer.{Answer, accepted, refused}
use Rattle.arith.specs.Values.{Outcome, ok, refusal}
use Rattle.semantics.specs.Program.{Program}
use Rattle.semantics.specs.Formula.{State}
use Rattle.semantics.specs.Rows.{Reply, reference_replies, starts_of}
use Rattle.grammar.specs.Parse.{program_of}
use Rattle.grammar.specs.Spelled.{names_of}
use Rattle.trace_text.specs.Input.{text_of, row_lines}
use Rattle.trace_text.specs.Row.{handed_of}
use Rattle.trace_text.specs.Output.{head_line, row_line, refused_line}

-- refusal or 0
abbrev pub refusal_of : Outcome (Unit {0}) → ℕ
refusal_of (ok u) = 0
refusal_of (refusal number) = number

-- The trace program doesn't print elapsed time: of a state, the values of so many names.
abbrev pub printed_values : ℕ → State → List ℤ
printed_values names s = take names s

-- A refused text prints `refused K at P`. Else the head with the names in declared order, then row number 0, the start.
abbrev pub opening : Answer Program → List ℕ
opening (refused number place) = refused_line number place
opening (accepted p) = head_line (names_of p) ++ row_line 0 (printed_values (length p.names) (starts_of p)) 0

-- The rows, numbered from n on: values of the state after the row (for a refused row, those it found), refusal or 0.
abbrev pub reply_lines : ℕ → ℕ → List Reply → List ℕ
reply_lines names n [] = []
reply_lines names n (r ∷ rs) = row_line n (printed_values names r.state) (refusal_of r.verdict) ++ reply_lines names (n + 1) rs

-- Every line is a row, and counts. A refused text prints none.
abbrev pub closing : Answer Program → List (List ℤ) → List ℕ
closing (refused number place) rows = []
closing (accepted p) rows = reply_lines (length p.names) 1 (reference_replies p (starts_of p) rows)

-- The trace program reads the text, the line `#`, then one row a line; a line that isn't so has the wrong length. Without a `#` line
-- there are no rows.
unfoldable pub printed : List ℕ → List ℕ
printed input =
    let text = program_of (text_of input) in
    opening text ++ closing text (map handed_of (row_lines input))
