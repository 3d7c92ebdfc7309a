-- The clock service: what it answers and leaves in the row lent to it, for every text, table, minute and row. Document 02, A.1, A.7. Assumes
-- nothing.
use Rattle.std.specs.Prelude.{ℕ, Bool, true, false, List, eqb, ℤ, length, take, set}
use Rattle.std.proofs.Math.Option.{Option, none, some}
use Prim.Native.String.{String}
use Rattle.limits.specs.Limits.{wrong_length, broken_table, minute_out_of_limit}
use Rattle.limits.specs.Answer.{Answer, accepted, refused}
use Rattle.lexer.specs.Bytes.{bytes}
use Rattle.lexer.specs.Names.{id_of}
use Rattle.semantics.specs.Program.{Program}
use Rattle.semantics.specs.Shape.{shape_of, row_length}
use Rattle.grammar.specs.Declarations.{spellings}
use Rattle.grammar.specs.Parse.{program_of}
use Rattle.clock.specs.Clock.{Entry, entries_of, is_minute, is_table, local_at, day_of, minute_of, again_of}

-- the answer, filled or a refusal; and the row left
pub record AfterFill : Type 0 where
  pub answer : Answer (Unit {0})
  pub row : List ℤ

-- the spellings of the inputs, whose ids are the first; a variable is not filled
abbrev pub inputs_of : Program → List (List ℕ)
inputs_of p = take p.inputs (spellings p.names)

-- a value at an input's id, where it is declared. All other values of the row stay.
abbrev pub filled_at : Option ℕ → ℤ → List ℤ → List ℤ
filled_at none z row = row
filled_at (some id) z row = set row id z

abbrev pub named : List (List ℕ) → String → ℤ → List ℤ → List ℤ
named inputs w z row = filled_at (id_of inputs (bytes w)) z row

-- The inputs of these names, where declared, are filled: `day`, `minute` and `again`.
unfoldable pub row_filled : List (List ℕ) → List Entry → ℤ → List ℤ → List ℤ
row_filled inputs t u row =
    named inputs "again" (again_of t u) (named inputs "minute" (minute_of (local_at t u)) (named inputs "day" (day_of (local_at t u)) row))

-- Every refusal leaves the row as found.
abbrev pub refused_fill : ℕ → ℕ → List ℤ → AfterFill
refused_fill number place row = record { answer = refused number place; row = row }

abbrev pub tested_fill : Bool → ℕ → List ℤ → AfterFill → AfterFill
tested_fill true k row r = r
tested_fill false k row r = refused_fill k 0 row

-- Errors: those of the text given, then 19, 20, 12. (The place of these three is 0: document 02 leaves it open.)
abbrev pub filled : Answer Program → List ℤ → ℤ → List ℤ → AfterFill
filled (refused number place) table utc row = refused_fill number place row
filled (accepted p) table utc row =
    tested_fill (is_table table) broken_table row
    (tested_fill (is_minute utc) minute_out_of_limit row
    (tested_fill (eqb (length row) (row_length (shape_of p))) wrong_length row
    (record { answer = accepted tt; row = row_filled (inputs_of p) (entries_of table) utc row })))

unfoldable pub fill_of : List ℕ → List ℤ → ℤ → List ℤ → AfterFill
fill_of text table utc row = filled (program_of text) table utc row
