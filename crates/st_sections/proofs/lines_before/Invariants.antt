-- The lines from `i` on are put.
use Rattle.std.proofs.Common.{map, take, drop}
use Rattle.lexer.specs.Names.{table_names}
use Rattle.st_writer.specs.Inner.Fronts.{Fronts}
use Rattle.st_sections.specs.Inner.Lines.{declarations_of, line_for, lines_printed}
use Rattle.st_sections.proofs.lines_before.Given as goal

abbrev pub invariant-loop-i : goal.invariant-loop-i
invariant-loop-i l =
    Fronts (lines_printed (map (line_for l.previous) (drop l.i (take l.inputs (declarations_of (table_names l.text l.starts l.ends l.count) l.values))))) l.initial.out l.out l.to l.place
