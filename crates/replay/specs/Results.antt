-- What the answer of replay stands for: the image's length, or the number and place of a refusal. Assumes nothing.
use Rattle.std.specs.Prelude.{ℕ, ◌≤◌, List, ℤ, Result, Ok, Err}
use Rattle.limits.specs.Limits.{image_limit}
use Rattle.limits.specs.declared.Refusal.{Refusal}
use Rattle.limits.specs.Refusals.{refusal_place, stands_for}
use Rattle.semantics.specs.Formula.{State}
use Rattle.replay.specs.Replay.{Lent, AfterReplay, ShownIf}

abbrev pub lent : List ℕ → State → List ℕ → List ℕ → List ℤ → Lent
lent image s numbers steps trace = record { image = image; state = s; numbers = numbers; steps = steps; trace = trace }

-- the answer with the memory that is left
abbrev pub after_replay : Result ℕ Refusal → Lent → AfterReplay
after_replay r left = record { answer = stands_for r; left = left }

-- where the answer is no refusal, demand 3 holds of what stands in memory
abbrev pub ShownBy : Result ℕ Refusal → List ℕ → List ℤ → List ℕ → Lent → Lent → Type 0
ShownBy r = ShownIf (stands_for r)

-- how large these numbers are, which the C function packs into 64 bits
abbrev pub ReplayedWithin : Result ℕ Refusal → Type 0
ReplayedWithin (Ok n) = n ≤ image_limit
ReplayedWithin (Err e) = refusal_place e ≤ image_limit
