-- The names from `i` on hold the answer.
use Rattle.std.proofs.Common.{◌≡◌, drop}
use Rattle.lexer.specs.Names.{table_names}
use Rattle.st_program.specs.Written.{none_st_word}
use Rattle.structured_text.proofs.reserved.has_st.Given as goal

abbrev pub invariant-loop-i : goal.invariant-loop-i
invariant-loop-i l = none_st_word (drop l.i (table_names l.text l.starts l.ends l.count)) ≡ none_st_word (table_names l.text l.starts l.ends l.count)
