-- What the answer of watch stands for: how many watches there are, or a refusal's number and place. Assumes nothing.
use Rattle.std.specs.Prelude.{ℕ, ◌≤◌, List, ℤ, Result, Ok, Err}
use Rattle.limits.specs.Limits.{text_limit, watch_limit}
use Rattle.limits.specs.declared.Refusal.{Refusal}
use Rattle.limits.specs.Refusals.{refusal_place, stands_for}
use Rattle.watch.specs.Services.{AfterWatch}

-- the answer with the report that is left
abbrev pub after_watch : Result ℕ Refusal → List ℤ → AfterWatch
after_watch r left = record { answer = stands_for r; report = left }

-- how large these numbers are, which the C functions pack into 64 bits
abbrev pub WatchedWithin : Result ℕ Refusal → Type 0
WatchedWithin (Ok n) = n ≤ watch_limit
WatchedWithin (Err e) = refusal_place e ≤ text_limit
