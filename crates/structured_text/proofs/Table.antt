-- The worked outputs hold, by computation. Assumes nothing.
use mathlib.Core.Path.{refl}
use Rattle.grammar.specs.Watches.{watches_from}
use Rattle.grammar.specs.Parse.{end_at, program, parse, program_of}
use Rattle.grammar.specs.Rules.{case_at, cases_from, list_from, plain_list, part_from, kind_at, parts_from, first_found, agreeing_list, function_at, change_at, pair_at, formula_at, formulas, rule_at, rules_from}
use Rattle.semantics.specs.Program.{is_binary}
use Rattle.grammar.specs.Timers.{is_watchable, watched_at, limit_at, timer_declaration, timers_from}
use Rattle.grammar.specs.Declarations.{in_range, signed_digits as signedLiteralAt, bound_at, new_name, start_at, declaration, declarations_from, declarations}
use Rattle.grammar.specs.Conditions.{comparison_by, compared, comparison_at, opposite, inverted, atom, connect, and_of, or_of, conjunction, condition, square, whole_condition, listed}
use Rattle.lexer.specs.Names.{id_from, id_of}
use Rattle.grammar.specs.Expressions.{with_id, current_at, previous_value_at, constant_at as literalAt, primary, negative, factor, product_of, sum_of, term, expression, bracket, whole_expression}
use Rattle.grammar.specs.Parsed.{expected, phrase, followed, rest, chain}
use Rattle.lexer.specs.Lexer.{is_space, is_digit, is_letter, is_alphanumeric, run_on, run_end, same_name, grammar_word, exact_word, word_of, over_long, pair_of, sign_of, read_of, sign_at, word_at, digits_at, previous_at, token_of, token_past, token_at, same_spelling, same_token, value_on, value_of}
use Rattle.lexer.specs.Token.{kind_number, is}
use Rattle.lexer.specs.Bytes.{same_bytes, capital, capitals}
use Rattle.trace_text.specs.Output.{digits_up_to, unsigned_decimal, decimal_of}
use Rattle.st.specs.Printed.{expression_printed, later_branches, statement_printed, statements_printed, declarations_printed, section_printed, program_printed}
use Rattle.st_program.specs.Written.{expression_in_st, condition_in_st, rule_in_st, program_in_st, st_bytes, is_st_word, has_st}
use Rattle.structured_text.specs.Services.{reserved_from, reserved_place, structured_text_of}
use Rattle.structured_text.specs.Examples.{OutputsHold, output_examples}

pub outputs_hold : OutputsHold output_examples
unfolding same_bytes kind_number is is_space is_digit is_letter is_alphanumeric run_on run_end capital capitals same_name grammar_word exact_word word_of over_long pair_of sign_of read_of sign_at word_at digits_at previous_at token_of token_past token_at same_spelling same_token value_on value_of expected phrase followed rest chain id_from id_of with_id current_at previous_value_at literalAt primary negative factor product_of sum_of term expression bracket whole_expression comparison_by compared comparison_at opposite inverted atom connect and_of or_of conjunction condition square whole_condition listed in_range signedLiteralAt bound_at new_name start_at declaration declarations_from declarations is_binary is_watchable watched_at limit_at timer_declaration timers_from case_at cases_from list_from plain_list part_from kind_at parts_from first_found agreeing_list function_at change_at pair_at formula_at formulas rule_at rules_from watches_from end_at program parse program_of digits_up_to unsigned_decimal decimal_of expression_printed later_branches statement_printed statements_printed declarations_printed section_printed program_printed expression_in_st condition_in_st rule_in_st program_in_st st_bytes is_st_word has_st reserved_from reserved_place structured_text_of
outputs_hold = (refl, (refl, (refl, (refl, (refl, (refl, (refl, (refl, (refl, (refl, (refl, (refl, (refl, (refl, (refl, (refl, (refl, tt)))))))))))))))))
