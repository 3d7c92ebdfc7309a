-- The steps of an accepted scan are the instructions of its image. Assumes nothing.
use Prim.Native.Nat.{ℕ}
use native.Mathlib.Omega.{arith}
use mathlib.Core.Path.{◌≡◌, refl, ◌∙◌}
use mathlib.Core.Bool.{Bool, true, false, ◌&&◌}
use mathlib.Core.List.{List, []}
use lib.Dec.{eqb}
use lib.IntN.{ℤ}
use lib.ListN.{length, take}
use Rattle.limits.specs.Answer.{Answer, accepted, refused}
use Rattle.arith.specs.Values.{Outcome, ok, refusal}
use Rattle.semantics.specs.Formula.{State}
use Rattle.semantics.specs.ReferenceScan.{with_inputs}
use Rattle.bytecode.specs.Check.{check_of}
use Rattle.bytecode.specs.Parts.{code_of, instructions_in, shape_in}
use Rattle.bytecode.proofs.Walk.{refused≢accepted}
use Rattle.machine.specs.Step.{Machine, machine}
use Rattle.semantics.specs.Shape.{state_length, row_length, state_in_range, row_in_range, setting_of}
use Rattle.machine.proofs.Laws.{run_steps}
use Rattle.scan.specs.Services.{AfterScan, finished, run_of, scan_code, tested_scan, scanned, scan_of}

abbrev StepsIf : ℕ → AfterScan → Type 0
StepsIf n a = a.answer ≡ accepted tt → a.steps ≡ n

steps_tested : (n : ℕ) (b : Bool) (k : ℕ) (s : State) (r : AfterScan) → StepsIf n r → StepsIf n (tested_scan b k s r)
steps_tested n true k s r h = h
steps_tested n false k s r h = refused≢accepted tt k 0

steps_finished : (n : ℕ) (s : State) (k : ℕ) (o : Outcome Machine) → ((m : Machine) → o ≡ ok m → k ≡ n) → StepsIf n (finished s k o)
steps_finished n s k (ok (machine b c vs t)) h e = h (machine b c vs t) refl
steps_finished n s k (refusal j) h e = refused≢accepted tt j 0 e

code_steps : (image : List ℕ) (s : State) (row : List ℤ) → StepsIf (instructions_in image) (scan_code image s row)
unfolding instructions_in scan_code
code_steps image s row = steps_finished _ s _ (run_of image s row).last λ m e.
    run_steps (setting_of (shape_in image) row) s (code_of image) (length (code_of image)) 0 0 (machine false false [] (with_inputs s (take (shape_in image).inputs row))) m e
    ∙ omega arith

pub scan_steps_lem : (image : List ℕ) (s : State) (row : List ℤ) → (scan_of image s row).answer ≡ accepted tt → (scan_of image s row).steps ≡ instructions_in image
unfolding scan_of
scan_steps_lem image s row = go (check_of image)
  where
    go : (a : Answer (Unit {0})) → StepsIf (instructions_in image) (scanned a (shape_in image) image s row)
    go (refused number place) = refused≢accepted tt number place
    go (accepted u) =
        steps_tested _ (eqb (length s) (state_length (shape_in image)) && eqb (length row) (row_length (shape_in image))) 12 s _
        (steps_tested _ (state_in_range (shape_in image) s) 18 s _
        (steps_tested _ (row_in_range (shape_in image) row) 13 s _ (code_steps image s row)))
