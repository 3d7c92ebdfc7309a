-- From `i` on the names are the same.
use Rattle.std.proofs.Common.{◌≡◌, drop, true}
use Rattle.lexer.specs.Lexer.{same_name}
use Rattle.lexer.proofs.classes.same_capitals.Given as goal

abbrev pub invariant-loop-i : goal.invariant-loop-i
invariant-loop-i l = same_name (drop l.i l.a) (drop l.i l.b) ≡ true
