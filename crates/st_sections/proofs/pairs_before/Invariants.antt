-- The lines from `i` on are put.
use Rattle.std.proofs.Common.{◌≤◌, drop}
use Rattle.lexer.specs.Names.{table_names}
use Rattle.st_writer.specs.Inner.Fronts.{Fronts}
use Rattle.st_sections.specs.Inner.Lines.{declarations_of, with_previous, lines_printed}
use Rattle.st_sections.proofs.pairs_before.Given as goal

abbrev pub invariant-loop-i : goal.invariant-loop-i
invariant-loop-i l =
    (l.first ≤ l.i)
    × Fronts (lines_printed (with_previous (drop l.i (declarations_of (table_names l.text l.starts l.ends l.count) l.values)))) l.initial.out l.out l.to l.place
