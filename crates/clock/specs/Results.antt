-- What the answer of the clock service stands for: the documents' number and place. Assumes nothing.
use Rattle.std.specs.Prelude.{◌≤◌, List, ℤ, Result, Ok, Err}
use Rattle.limits.specs.Limits.{text_limit}
use Rattle.limits.specs.declared.Refusal.{Refusal}
use Rattle.limits.specs.Refusals.{refusal_place, stands_for}
use Rattle.clock.specs.Services.{AfterFill}

-- the answer with the row that is left
abbrev pub after_fill : Result (Unit {0}) Refusal → List ℤ → AfterFill
after_fill r left = record { answer = stands_for r; row = left }

-- how large the place is, which the C functions pack into 64 bits
abbrev pub FilledWithin : Result (Unit {0}) Refusal → Type 0
FilledWithin (Ok u) = Unit {0}
FilledWithin (Err e) = refusal_place e ≤ text_limit
