-- Worked runs of the whole trace program, as one table under one statement. Document 01, "Latches to try", second paragraph: its printed
-- example first; document 02, A.2, A.7. Assumes nothing.
use Prim.Native.String.{String}
use mathlib.Core.Path.{◌≡◌, refl}
use mathlib.Core.List.{List, [], ◌∷◌, map}
use Rattle.arith.specs.Values.{arithmetic, negation, compares}
use Rattle.semantics.specs.Program.{within, is_binary}
use Rattle.semantics.specs.Shape.{elapsed, due, timed}
use Rattle.semantics.specs.ReferenceScan.{moves, picked, new_value, reference_scan}
use Rattle.lexer.specs.Bytes.{bytes, same_bytes, capital, capitals}
use Rattle.lexer.specs.Token.{kind_number, is}
use Rattle.lexer.specs.Lexer.{is_space, is_digit, is_letter, is_alphanumeric, run_on, run_end, same_name, grammar_word, exact_word, word_of, over_long, pair_of, sign_of, read_of, sign_at, word_at, digits_at, previous_at, token_of, token_past, token_at, same_spelling, same_token, value_on, value_of}
use Rattle.lexer.specs.Names.{id_from, id_of}
use Rattle.grammar.specs.Parsed.{expected, phrase, followed, rest, chain}
use Rattle.grammar.specs.Expressions.{with_id, current_at, previous_value_at, constant_at as literalAt, primary, negative, factor, product_of, sum_of, term, expression, bracket, whole_expression}
use Rattle.grammar.specs.Conditions.{comparison_by, compared, comparison_at, opposite, inverted, atom, connect, and_of, or_of, conjunction, condition, square, whole_condition, listed}
use Rattle.grammar.specs.Timers.{is_watchable, watched_at, limit_at, timer_declaration, timers_from}
use Rattle.grammar.specs.Declarations.{in_range, signed_digits as signedLiteralAt, bound_at, new_name, start_at, declaration, declarations_from, declarations}
use Rattle.grammar.specs.Rules.{case_at, cases_from, list_from, plain_list, part_from, kind_at, parts_from, first_found, agreeing_list, function_at, change_at, pair_at, formula_at, formulas, rule_at, rules_from}
use Rattle.grammar.specs.Watches.{watches_from}
use Rattle.grammar.specs.Parse.{end_at, program, parse, program_of}
use Rattle.trace_text.specs.Input.{lines_of, bare, is_hash_line, text_in, text_of, rows_in, row_lines}
use Rattle.trace_text.specs.Row.{number_of, fields_of, numbers_of, row_of, long_row, handed_of}
use Rattle.trace_text.specs.Output.{digits_up_to, unsigned_decimal, decimal_of, refused_line, head_line, row_line}
use Rattle.tracer.specs.Printed.{printed}

-- standard input and standard output
pub record Example : Type 0 where
  pub reads : String
  pub writes : String

abbrev pub prints : String → String → Example
prints input output = record { reads = input; writes = output }

pub examples : List Example
examples =
    prints "input go 0..1; var run 0..1;\nrun: GX(~(run = _run) -> [_run = 0 & go = 1] & run = (1) | [_run = 1 & go = 0] & run = (0));\nrun: GX(run = _run -> ~([_run = 0 & go = 1] | [_run = 1 & go = 0]));\n#\n1\n1\n2\n0\n"
    "scan go run result\n0 0 0 0\n1 1 1 0\n2 1 1 0\n3 1 1 13\n4 0 0 0\n"
    -- names in other letter cases: the declared spelling is printed (document 02, A.2)
    ∷ prints "input Go 0..1; var run 0..1; RUN: GX(~(Run = _rUn) -> [_RUN = 0 & GO = 1] & ruN = (go)); run: GX(run = _run -> ~([_run = 0 & go = 1]));\n#\n1\n" "scan Go run result\n0 0 0 0\n1 1 1 0\n"
    -- a refused text prints no rows; the line end before the `#` line belongs to it
    ∷ prints "var v 0..1;\n#\n0\n" "refused 6 at 12\n"
    -- without a `#` line there are no rows
    ∷ prints "var v 0..1; v: GX(v = (1));\n1\n" "refused 2 at 28\n"
    ∷ prints "var v 0..1; v: GX(v = (1));\n" "scan v result\n0 0 0\n"
    -- no names; an empty line is a row
    ∷ prints "" "scan result\n0 0\n"
    ∷ prints "#\n\n1\n" "scan result\n0 0\n1 0\n2 12\n"
    -- every line counts, one that is no row and a last one without LF too
    ∷ prints "input i 0..9;\n#\nx\n-1\n7" "scan i result\n0 0 0\n1 0 12\n2 0 13\n3 7 0\n"
    -- a row ends with its milliseconds; the elapsed time is not printed (document 02, A.7)
    ∷ prints "input In 0..1; var W 0..1; timer Q of W limit 5000; W: GX(W = (In));\n#\n1 100\n1 4999\n1 1\n1\n1 -1\n0 100\n" "scan In W Q result\n0 0 0 0 0\n1 1 1 0 0\n2 1 1 0 0\n3 1 1 1 0\n4 1 1 1 12\n5 1 1 1 13\n6 0 0 0 0\n"
    ∷ []

-- the definition gives what the table says
pub examples_hold : map (λ (e : Example). printed (bytes e.reads)) examples ≡ map (λ (e : Example). bytes e.writes) examples
unfolding examples same_bytes kind_number is is_space is_digit is_letter is_alphanumeric run_on run_end capital capitals same_name grammar_word exact_word word_of over_long pair_of sign_of read_of sign_at word_at digits_at previous_at token_of token_past token_at same_spelling same_token value_on value_of expected phrase followed rest chain id_from id_of with_id current_at previous_value_at literalAt primary negative factor product_of sum_of term expression bracket whole_expression comparison_by compared comparison_at opposite inverted atom connect and_of or_of conjunction condition square whole_condition listed in_range signedLiteralAt bound_at new_name start_at declaration declarations_from declarations is_binary is_watchable watched_at limit_at timer_declaration timers_from case_at cases_from list_from plain_list part_from kind_at parts_from first_found agreeing_list function_at change_at pair_at formula_at formulas rule_at rules_from watches_from end_at program parse program_of elapsed due timed within moves picked new_value reference_scan arithmetic negation compares lines_of bare is_hash_line text_in text_of rows_in row_lines number_of fields_of numbers_of row_of long_row handed_of digits_up_to unsigned_decimal decimal_of refused_line head_line row_line printed
examples_hold = refl
