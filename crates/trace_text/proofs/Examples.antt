-- Worked examples of the trace program's input and output, as one table under one statement: what the definitions give is what the
-- table says. Document 01, "Latches to try", second paragraph, and its open points as docs/DECISIONS.md reads them. Assumes nothing.
use mathlib.Core.Path.{◌≡◌, refl}
use mathlib.Core.List.{List, [], ◌∷◌, map}
use mathlib.Core.Option.{Option, none, some}
use Prim.Native.Nat.{ℕ}
use Prim.Native.String.{String}
use lib.IntN.{ℤ, pos, negsuc}
use lib.ListN.{length}
use Rattle.lexer.specs.Bytes.{bytes, same_bytes}
use Rattle.lexer.specs.Lexer.{is_digit, value_on, value_of}
use Rattle.trace_text.specs.Input.{lines_of, bare, is_hash_line, text_in, text_of, rows_in, row_lines}
use Rattle.trace_text.specs.Row.{number_of, fields_of, numbers_of, row_of, long_row, handed_of}
use Rattle.trace_text.specs.Output.{digits_up_to, unsigned_decimal, decimal_of, refused_line, head_line, row_line}

-- what is asked of the definitions
pub data Question : Type 0 where
  input : String → Question  -- standard input: its text and its rows
  line : String → Question  -- a line: the row that it is
  handing : String → Question  -- a line: how many numbers scan is handed
  head : List String → Question  -- names: the head
  row : ℕ → List ℤ → ℕ → Question  -- row number, values, refusal: the line
  refusal : ℕ → ℕ → Question  -- number and place: the line

pub data Answer : Type 0 where
  parts : List ℕ → List (List ℕ) → Answer
  numbers : Option (List ℤ) → Answer
  count : ℕ → Answer
  printed : List ℕ → Answer

pub answer_of : Question → Answer
answer_of (input given) = parts (text_of (bytes given)) (row_lines (bytes given))
answer_of (line given) = numbers (row_of (bytes given))
answer_of (handing given) = count (length (handed_of (bytes given)))
answer_of (head names) = printed (head_line (map bytes names))
answer_of (row number values refused) = printed (row_line number values refused)
answer_of (refusal number place) = printed (refused_line number place)

pub record Example : Type 0 where
  pub asked : Question
  pub answer : Answer

abbrev pub splits : String → String → List String → Example
splits given text rows = record { asked = input given; answer = parts (bytes text) (map bytes rows) }

abbrev pub is_row : String → List ℤ → Example
is_row given zs = record { asked = line given; answer = numbers (some zs) }

abbrev pub is_none : String → Example
is_none given = record { asked = line given; answer = numbers none }

abbrev pub hands : String → ℕ → Example
hands given n = record { asked = handing given; answer = count n }

abbrev pub prints : Question → String → Example
prints asked text = record { asked = asked; answer = printed (bytes text) }

pub examples : List Example
examples =
    -- P1: the line end before the `#` line belongs to the text
    splits "var v 0..1;\n#" "var v 0..1;\n" []
    ∷ prints (refusal 6 12) "refused 6 at 12\n"
    -- P2: an empty line is a row of no numbers; decimals
    ∷ is_row "" []
    ∷ is_row "01" (pos 1 ∷ [])
    ∷ is_row "-0" (pos 0 ∷ [])
    ∷ is_row "-007" (negsuc 6 ∷ [])
    ∷ is_row "1 -2 3" (pos 1 ∷ negsuc 1 ∷ pos 3 ∷ [])
    ∷ is_row "2147483647 -2147483648" (pos 2147483647 ∷ negsuc 2147483647 ∷ [])
    ∷ is_row "0000000000000000000000000000000005" (pos 5 ∷ [])
    ∷ is_none "+1"
    ∷ is_none "1 "
    ∷ is_none " 1"
    ∷ is_none " "
    ∷ is_none "1  2"
    ∷ is_none "1\t2"
    ∷ is_none "1\r"
    ∷ is_none "-"
    ∷ is_none "--1"
    ∷ is_none "- 1"
    ∷ is_none "1-"
    ∷ is_none "1\0"
    ∷ is_none "x"
    ∷ is_none "2147483648"
    ∷ is_none "-2147483649"
    ∷ is_none "1 99999999999999999999999999999999999999999"
    -- a line that is no row, or of over 64 numbers, is handed over as a row of 65
    ∷ hands "1 2 3" 3
    ∷ hands "" 0
    ∷ hands "1  2" 65
    ∷ hands "1 1 1 1 1 1 1 1 1 1 1 1 1 1 1 1 1 1 1 1 1 1 1 1 1 1 1 1 1 1 1 1 1 1 1 1 1 1 1 1 1 1 1 1 1 1 1 1 1 1 1 1 1 1 1 1 1 1 1 1 1 1 1 1" 64
    ∷ hands "1 1 1 1 1 1 1 1 1 1 1 1 1 1 1 1 1 1 1 1 1 1 1 1 1 1 1 1 1 1 1 1 1 1 1 1 1 1 1 1 1 1 1 1 1 1 1 1 1 1 1 1 1 1 1 1 1 1 1 1 1 1 1 1 1" 65
    ∷ hands "1 1 1 1 1 1 1 1 1 1 1 1 1 1 1 1 1 1 1 1 1 1 1 1 1 1 1 1 1 1 1 1 1 1 1 1 1 1 1 1 1 1 1 1 1 1 1 1 1 1 1 1 1 1 1 1 1 1 1 1 1 1 1 1 1 1" 65
    -- P3: `#` as the last line without LF is the `#` line; `#` with CR and ` #` are text; a second `#` line is a row
    ∷ splits "a\n#" "a\n" []
    ∷ splits "#" "" []
    ∷ splits "#\n" "" []
    ∷ splits "#\r\n1\n" "#\r\n1\n" []
    ∷ splits "a\n #\n1\n" "a\n #\n1\n" []
    ∷ splits "##\n1\n" "##\n1\n" []
    ∷ splits "a\n#\n#\n1\n" "a\n" ("#" ∷ "1" ∷ [])
    ∷ is_none "#"
    -- P4: every line counts; nothing after the last LF is no line; without a `#` line there are no rows
    ∷ splits "\n#\n1\n\n2" "\n" ("1" ∷ "" ∷ "2" ∷ [])
    ∷ splits "a\n#\n1 2\n\n" "a\n" ("1 2" ∷ "" ∷ [])
    ∷ splits "a\nb" "a\nb" []
    ∷ splits "" "" []
    ∷ prints (head []) "scan result\n"
    -- the printed example: rows 1, 1, 2, 0
    ∷ prints (head ("go" ∷ "run" ∷ [])) "scan go run result\n"
    ∷ prints (row 0 (pos 0 ∷ pos 0 ∷ []) 0) "0 0 0 0\n"
    ∷ prints (row 1 (pos 1 ∷ pos 1 ∷ []) 0) "1 1 1 0\n"
    ∷ prints (row 2 (pos 1 ∷ pos 1 ∷ []) 0) "2 1 1 0\n"
    ∷ prints (row 3 (pos 1 ∷ pos 1 ∷ []) 13) "3 1 1 13\n"
    ∷ prints (row 4 (pos 0 ∷ pos 0 ∷ []) 0) "4 0 0 0\n"
    -- negative and large numbers; no names
    ∷ prints (row 18446744073709551615 (negsuc 9 ∷ negsuc 2147483647 ∷ pos 2147483647 ∷ []) 12) "18446744073709551615 -10 -2147483648 2147483647 12\n"
    ∷ prints (row 10 [] 0) "10 0\n"
    ∷ []

-- the definitions give what the table says
pub examples_hold : map (λ (e : Example). answer_of e.asked) examples ≡ map (λ (e : Example). e.answer) examples
unfolding examples answer_of same_bytes is_digit value_on value_of lines_of bare is_hash_line text_in text_of rows_in row_lines number_of fields_of numbers_of row_of long_row handed_of digits_up_to unsigned_decimal decimal_of refused_line head_line row_line
examples_hold = refl
