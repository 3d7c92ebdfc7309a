-- Instructions that a run passes over: auxiliary definitions for proofs. Assumes nothing.
use Rattle.std.specs.Prelude.{◌≡◌, Bool, true, false, List, ℕ, ◌+◌, ◌-◌, ◌≤◌, ◌<◌, ℤ, Option, Some, None}
use Rattle.limits.specs.Limits.{broken_image}
use Rattle.arith.specs.Values.{refusal}
use Rattle.semantics.specs.Shape.{Setting}
use Rattle.leb128.specs.Numbers.{Read, got, nothing}
use Rattle.machine.specs.Runs.{ran, run}
use Rattle.machine.specs.Inner.Memory.{machine_of}
use Rattle.machine.specs.Inner.Dispatch.{registers}

-- whether instructions are still passed over, the place behind those that were, and how many they are; or the first is broken
abbrev pub Passing : Type 0
Passing = Option (Bool × ℕ × ℕ)

-- one instruction, with its operand read
abbrev pub over_of : Bool → Read ℕ → Passing
over_of p (got n next) = Some (p, next, 1)
over_of p nothing = None

-- n instructions from a place on lead to another, whatever is held and the memory holds; p: whether those behind are passed over too
abbrev pub OverTo : List ℕ → ℕ → ℕ → Bool → ℕ → Type 0
OverTo code from n p at = (ns : Setting) (prev vals cur : List ℤ) (h : ℕ) (c : Bool) (budget done : ℕ) → n ≤ budget
    → run ns prev code budget from done (machine_of (registers h c true) vals cur) ≡ run ns prev code (budget - n) at (done + n) (machine_of (registers h c p) vals cur)

-- the instruction at a place is broken
abbrev pub BrokenOver : List ℕ → ℕ → Type 0
BrokenOver code at = (ns : Setting) (prev vals cur : List ℤ) (h : ℕ) (c : Bool) (budget done : ℕ) → 0 < budget
    → run ns prev code budget at done (machine_of (registers h c true) vals cur) ≡ ran (done + 1) at (refusal broken_image)

-- at most so many
abbrev pub PassedBy : List ℕ → ℕ → ℕ → Passing → Type 0
PassedBy code at most (Some (p, next, n)) = (1 ≤ n) × (n ≤ most) × OverTo code at n p next
PassedBy code at most None = BrokenOver code at

abbrev pub BeyondBy : List ℕ → ℕ → Option ℕ → Type 0
BeyondBy code at (Some next) = OverTo code at 1 true next
BeyondBy code at None = Unit {0}

-- where instructions are passed over; else none is
abbrev pub FirstBy : List ℕ → ℕ → Bool → ℕ → Passing → Type 0
FirstBy code at true most r = PassedBy code at most r
FirstBy code at false most (Some (p, next, n)) = (p ≡ false) × (next ≡ at) × (n ≡ 0)
FirstBy code at false most None = ⊥
