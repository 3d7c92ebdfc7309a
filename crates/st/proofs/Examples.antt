-- The worked cycles and identifiers. Assumes nothing.
use mathlib.Core.Path.{refl}
use Rattle.lexer.specs.Bytes.{same_bytes, capital, capitals}
use Rattle.lexer.specs.Lexer.{is_space, is_digit, is_letter, is_alphanumeric, same_name, value_on, value_of}
use Rattle.st.specs.Reading.{lexemes_from, is_identifier, onward, leveled, read_primary, read_unary, read_expression, read_branches, read_statement, read_statements, read_declarations, read_section, program_read}
use Rattle.st.specs.Meaning.{value_in, holding, given_row, is_input, evaluate, first_true, run_statements, cycle_leaves}
use Rattle.st.specs.Examples.{CyclesHold, cycle_examples, IdentifiersHold, identifier_examples}

pub cycles_hold : CyclesHold cycle_examples
unfolding cycle_leaves program_read read_section read_declarations read_statements read_statement read_branches read_expression read_unary read_primary leveled onward lexemes_from is_identifier same_name same_bytes capitals capital is_space is_digit is_letter is_alphanumeric value_on value_of run_statements first_true evaluate value_in holding given_row is_input
cycles_hold = (refl, (refl, (refl, (refl, (refl, (refl, (refl, (refl, (refl, (refl, (refl, (refl, (refl, (refl, tt))))))))))))))

pub identifiers_hold : IdentifiersHold identifier_examples
unfolding program_read read_section read_declarations read_statements read_statement read_branches lexemes_from is_identifier same_name same_bytes capitals capital is_space is_digit is_letter is_alphanumeric value_on value_of
identifiers_hold = (refl, (refl, (refl, (refl, (refl, (refl, (refl, (refl, (refl, (refl, (refl, tt)))))))))))
