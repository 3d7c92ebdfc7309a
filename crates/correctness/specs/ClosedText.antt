-- A closed profile, said of the plain scan. Document 02, A.10. Assumes nothing.
use Rattle.std.specs.Prelude.{ℕ, ◌≡◌, List, [], ◌∷◌, T, ℤ, length}
use Rattle.limits.specs.Answer.{accepted}
use Rattle.arith.specs.Values.{ok}
use Rattle.semantics.specs.Program.{Program}
use Rattle.semantics.specs.Formula.{State}
use Rattle.semantics.specs.Shape.{shape_of, row_length, row_in_range}
use Rattle.semantics.specs.ReferenceScan.{reference_scan}
use Rattle.semantics.specs.Rows.{Reply, reference_replies, starts_of, InRanges}
use Rattle.grammar.specs.Parse.{program_of}

-- a row that the plain scan answers neither 12 nor 13 for
pub record RowInRanges (p : Program) (row : List ℤ) : Type 0 where
  pub size : length row ≡ row_length (shape_of p)
  pub ranges : T (row_in_range (shape_of p) row)

abbrev pub RowsInRanges : Program → List (List ℤ) → Type 0
RowsInRanges p [] = Unit {0}
RowsInRanges p (r ∷ rs) = RowInRanges p r × RowsInRanges p rs

abbrev pub NoneRefused : List Reply → Type 0
NoneRefused [] = Unit {0}
NoneRefused (a ∷ more) = (a.verdict ≡ ok tt) × NoneRefused more

-- A rule set that can never stop in service: the plain scan refuses no in-range row in an in-range state, and so none of any list of
-- in-range rows from the declared starts.
pub record NeverStops (text : List ℕ) : Type 0 where
  pub program : Program
  pub parsed : program_of text ≡ accepted program
  pub scans : (s : State) (row : List ℤ) → InRanges program s → RowInRanges program row → (t : State) × (reference_scan program s row ≡ ok t)
  pub runs : (rows : List (List ℤ)) → RowsInRanges program rows → NoneRefused (reference_replies program (starts_of program) rows)
