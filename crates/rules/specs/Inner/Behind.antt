-- What is told behind the rules of a text: the names then known, and the token there. Assumes nothing.
use Rattle.std.specs.Prelude.{ℕ, Bool, List}
use Rattle.arith.specs.Inner.Flags.{flags_of}
use Rattle.semantics.specs.Program.{Timer}
use Rattle.lexer.specs.Token.{kind_number}
use Rattle.lexer.specs.declared.Place.{Place}
use Rattle.grammar.specs.Rules.{Ruled}
use Rattle.grammar.specs.Inner.Bytes.{bytes_r}
use Rattle.expressions.specs.Inner.Steps.{Followed}

-- the code of the rules
abbrev pub code_of_rules : List Timer → Followed Ruled → List ℕ
code_of_rules ts x = bytes_r ts x.part.rules

-- the number told has a bit for each of so many names
abbrev pub ruled_told : ℕ → Place → List Bool × ℕ × ℕ × ℕ
ruled_told count x = (flags_of count x.number, x.kind, x.start, x.end)

abbrev pub ruled_behind : Followed Ruled → List Bool × ℕ × ℕ × ℕ
ruled_behind x = (x.part.known, kind_number x.kind, x.start, x.end)
