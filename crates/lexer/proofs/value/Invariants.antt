-- The value so far, with the digits left, makes the whole.
use Rattle.std.proofs.Common.{◌≡◌, ◌<◌, drop}
use Rattle.lexer.specs.Lexer.{value_on, value_of}
use Rattle.lexer.proofs.value.Given as goal

abbrev pub invariant-loop-b : goal.invariant-loop-b
invariant-loop-b l = (l.v < 4294967296) × (value_on (drop l.b-index l.part) l.v ≡ value_of l.part)
