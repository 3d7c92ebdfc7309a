-- Start and scan on bytes: what they answer and leave in the memory lent to them, for every input. Document 01, "Who can cause
-- which refusal"; document 02, A.7. Assumes nothing.
use Rattle.std.specs.Prelude.{Bool, true, false, ◌&&◌, cond, List, [], ◌∷◌, ℕ, eqb, ℤ, length, take}
use Rattle.limits.specs.Limits.{wrong_length, state_out_of_range, input_out_of_range}
use Rattle.limits.specs.Answer.{Answer, accepted, refused}
use Rattle.arith.specs.Values.{Outcome, ok, refusal}
use Rattle.semantics.specs.Formula.{State}
use Rattle.semantics.specs.Shape.{Shape, state_length, row_length, starting_state, state_in_range, row_in_range, setting_of}
use Rattle.semantics.specs.ReferenceScan.{with_inputs}
use Rattle.bytecode.specs.Check.{check_of}
use Rattle.bytecode.specs.Parts.{shape_in, code_of}
use Rattle.machine.specs.Step.{Machine, machine}
use Rattle.machine.specs.Runs.{Ran, run}

-- ---- start

-- what a start answers, and the state left
pub record AfterStart : Type 0 where
  pub answer : Answer (Unit {0})
  pub state : State

-- Start tests 9, then 11, then 12 (place 0); its success writes the declared starts. Every refusal leaves the state as found.
abbrev pub started : Answer (Unit {0}) → Shape → State → AfterStart
started (refused number place) k found = record { answer = refused number place; state = found }
started (accepted u) k found =
    cond (eqb (length found) (state_length k))
    (record { answer = accepted tt; state = starting_state k })
    (record { answer = refused wrong_length 0; state = found })

unfoldable pub start_of : List ℕ → State → AfterStart
start_of image found = started (check_of image) (shape_in image) found

-- ---- scan

-- what a scan answers, the steps, and the state left
pub record AfterScan : Type 0 where
  pub answer : Answer (Unit {0})
  pub steps : ℕ
  pub state : State

-- Every refusal leaves the state as found. The place of 12 to 18 is 0; the steps before the code are 0.
abbrev pub refused_scan : ℕ → ℕ → ℕ → State → AfterScan
refused_scan number place n found = record { answer = refused number place; steps = n; state = found }

-- A refused scan reports the steps up to and including the refusing instruction; success writes the state.
abbrev pub finished : State → ℕ → Outcome Machine → AfterScan
finished found n (ok (machine b c vs t)) = record { answer = accepted tt; steps = n; state = t }
finished found n (refusal k) = refused_scan k 0 n found

-- the run of the code: nothing held; previous values are those of the state found, inputs included
abbrev pub run_of : List ℕ → State → List ℤ → Ran
run_of image found row =
    run (setting_of (shape_in image) row) found (code_of image) (length (code_of image)) 0 0
    (machine false false [] (with_inputs found (take (shape_in image).inputs row)))

unfoldable pub scan_code : List ℕ → State → List ℤ → AfterScan
scan_code image found row = finished found (run_of image found row).steps (run_of image found row).last

abbrev pub tested_scan : Bool → ℕ → State → AfterScan → AfterScan
tested_scan true k found r = r
tested_scan false k found r = refused_scan k 0 0 found

-- Check, start and scan test 9, then 11. Start and scan then test 12; scan goes on with 18, 13, then the code.
abbrev pub scanned : Answer (Unit {0}) → Shape → List ℕ → State → List ℤ → AfterScan
scanned (refused number place) k image found row = refused_scan number place 0 found
scanned (accepted u) k image found row =
    tested_scan (eqb (length found) (state_length k) && eqb (length row) (row_length k)) wrong_length found
    (tested_scan (state_in_range k found) state_out_of_range found
    (tested_scan (row_in_range k row) input_out_of_range found
    (scan_code image found row)))

unfoldable pub scan_of : List ℕ → State → List ℤ → AfterScan
scan_of image found row = scanned (check_of image) (shape_in image) image found row

-- Scan is called once for each row, with the image written and the state as start or the scan before left it.
abbrev pub scans_of : List ℕ → State → List (List ℤ) → List AfterScan
scans_of image s [] = []
scans_of image s (r ∷ rs) = let a = scan_of image s r in a ∷ scans_of image a.state rs
