-- The lines from `i` on are put.
use Rattle.std.proofs.Common.{map, drop}
use Rattle.lexer.specs.Names.{table_names}
use Rattle.st.specs.Printed.{statements_printed}
use Rattle.st_program.specs.Written.{saving_line}
use Rattle.st_writer.specs.Inner.Fronts.{Fronts}
use Rattle.st_sections.proofs.savings_before.Given as goal

abbrev pub invariant-loop-i : goal.invariant-loop-i
invariant-loop-i l = Fronts (statements_printed (map saving_line (drop l.i (table_names l.text l.starts l.ends l.count)))) l.initial.out l.out l.to l.place
