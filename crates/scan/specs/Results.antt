-- What the answers of start and scan stand for: document 01's number, place and steps. Assumes nothing.
use Rattle.std.specs.Prelude.{ℕ, ◌≤◌, Result, Ok, Err}
use Rattle.limits.specs.Answer.{Answer, accepted, refused}
use Rattle.limits.specs.Refusals.{refusal_place, stands_for}
use Rattle.limits.specs.declared.Refusal.{Refusal}
use Rattle.semantics.specs.Formula.{State}
use Rattle.scan.specs.declared.Scanned.{Scanned}
use Rattle.scan.specs.Services.{AfterStart, AfterScan}
use Rattle.scan.specs.declared.Scanned.TheVariants as R

-- the answer with the state that is left
abbrev pub after_start : Result (Unit {0}) Refusal → State → AfterStart
after_start r left = record { answer = stands_for r; state = left }

-- `Done` holds the steps, `Refused` the number, the place and the steps.
abbrev pub scan_answer : Scanned → Answer (Unit {0})
scan_answer (R.Done n) = accepted tt
scan_answer (R.Refused number place n) = refused number place

abbrev pub scan_steps : Scanned → ℕ
scan_steps (R.Done n) = n
scan_steps (R.Refused number place n) = n

abbrev pub after_scan : Scanned → State → AfterScan
after_scan r left = record { answer = scan_answer r; steps = scan_steps r; state = left }

-- ---- how large these numbers are, which the C functions pack into 64 bits

abbrev pub StartedWithin : ℕ → Result (Unit {0}) Refusal → Type 0
StartedWithin most (Ok _) = Unit {0}
StartedWithin most (Err e) = refusal_place e ≤ most

abbrev pub ScannedWithin : ℕ → Scanned → Type 0
ScannedWithin most (R.Done n) = n ≤ most
ScannedWithin most (R.Refused number place n) = (place ≤ most) × (n ≤ most)
