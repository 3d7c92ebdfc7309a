-- The run that goes on from `i` ends where the whole does.
use Rattle.std.proofs.Common.{◌≡◌}
use Rattle.lexer.specs.Lexer.{run_end}
use Rattle.lexer.specs.Inner.Classes.{member}
use Rattle.lexer.proofs.classes.run.Given as goal

abbrev pub invariant-loop-i : goal.invariant-loop-i
invariant-loop-i l = run_end (member l.class) l.text l.i ≡ run_end (member l.class) l.text l.at
