-- The names from `i` on hold the answer.
use Rattle.std.proofs.Common.{◌≡◌, ◌-◌, drop}
use Rattle.lexer.specs.Names.{table_names, id_from, id_of}
use Rattle.lexer.proofs.find.Given as goal

abbrev pub invariant-loop-i : goal.invariant-loop-i
invariant-loop-i l =
    id_from (table_names l.text (drop l.i l.starts) (drop l.i l.ends) (l.count - l.i)) l.spelled l.i ≡ id_of (table_names l.text l.starts l.ends l.count) l.spelled
