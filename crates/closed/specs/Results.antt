-- What the answers of the closed profile stand for. Assumes nothing.
use Rattle.std.specs.Prelude.{◌≤◌, List, ℤ, Result, Ok, Err}
use Rattle.limits.specs.Limits.{combination_limit}
use Rattle.limits.specs.Refusals.{refusal_place, stands_for}
use Rattle.limits.specs.declared.Refusal.{Refusal}
use Rattle.closed.specs.Closed.{AfterClosed, leaves}
use Rattle.closed.specs.declared.Profile.{Profile}

abbrev pub after_closing : Result (Unit {0}) Refusal → List ℤ → List ℤ → AfterClosed
after_closing r state row = leaves (stands_for r) state row

abbrev pub profile_of : Profile → AfterClosed
profile_of r = after_closing r.answer r.state r.row

-- how large the place is, which the C functions pack into 64 bits: one of an image, or the scans done
abbrev pub ClosingWithin : Result (Unit {0}) Refusal → Type 0
ClosingWithin (Ok _) = Unit {0}
ClosingWithin (Err e) = refusal_place e ≤ combination_limit
