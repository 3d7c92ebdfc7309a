-- The names in use, as a program holds them: a table of the parts of the text that spell them, their count, and a bit for each of
-- them. Assumes nothing.
use Rattle.std.specs.Prelude.{ℕ, ◌≤◌, List}
use Rattle.limits.specs.Limits.{name_limit}
use Rattle.arith.specs.Inner.Flags.{flags_of}
use Rattle.lexer.specs.Names.{table_names, Table}
use Rattle.grammar.specs.Expressions.{Scope}
use Rattle.expressions.specs.declared.scope.Names.{Names}

-- bit i of `known` tells whether the current value of the name with id i may be used
abbrev pub scope_of : List ℕ → List ℕ → List ℕ → Names → Scope
scope_of text starts ends names =
    record { text = text; names = table_names text starts ends names.count; known = flags_of names.count names.known }

-- the table holds the names, and there are no more of them than a text may declare
pub record Declared (starts ends : List ℕ) (names : Names) : Type 0 where
  pub table : Table starts ends names.count
  pub few : names.count ≤ name_limit
