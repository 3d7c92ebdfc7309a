-- The tests of a scan before its code, as one definition. Document 01, "Who can cause which refusal"; document 02, A.7. Assumes nothing.
use Rattle.std.specs.Prelude.{Bool, true, false, ◌&&◌, List, ℕ, eqb, ℤ, length}
use Rattle.limits.specs.Limits.{wrong_length, state_out_of_range, input_out_of_range}
use Rattle.limits.specs.Answer.{Answer, accepted, refused}
use Rattle.semantics.specs.Formula.{State}
use Rattle.semantics.specs.Shape.{Shape, state_length, row_length, state_in_range, row_in_range}
use Rattle.bytecode.specs.Check.{check_of}
use Rattle.bytecode.specs.Parts.{shape_in}

-- the place of 12, 18 and 13 is 0
abbrev pub tested_before : Bool → ℕ → Answer (Unit {0}) → Answer (Unit {0})
tested_before true number a = a
tested_before false number a = refused number 0

-- Check, start and scan test 9, then 11. Start and scan then test 12; scan goes on with 18, 13.
abbrev pub may_scan : Answer (Unit {0}) → Shape → State → List ℤ → Answer (Unit {0})
may_scan (refused number place) k found row = refused number place
may_scan (accepted u) k found row =
    tested_before (eqb (length found) (state_length k) && eqb (length row) (row_length k)) wrong_length
    (tested_before (state_in_range k found) state_out_of_range
    (tested_before (row_in_range k row) input_out_of_range
    (accepted tt)))

unfoldable pub before_code : List ℕ → State → List ℤ → Answer (Unit {0})
before_code image found row = may_scan (check_of image) (shape_in image) found row
