-- The names that are left, put from here, make the whole.
use Rattle.std.proofs.Common.{length, drop, take, map}
use Rattle.std.specs.List.{zip}
use Rattle.lexer.specs.Names.{table_names}
use Rattle.trace_text.specs.Output.{spaced}
use Rattle.trace_text.proofs.Puts.{Putting}
use Rattle.trace_text.proofs.Printing.{spelled}
use Rattle.trace_text.proofs.print.put_names.Given as goal

abbrev pub invariant-loop-start : goal.invariant-loop-start
invariant-loop-start l =
    Putting l.initial.out l.initial.place (spaced (table_names l.text l.starts l.ends l.count)) l.out l.place
    (spaced (map (spelled l.text) (drop (length l.yielded) (take l.count (zip l.starts l.ends)))))
