-- What the walk and the machine do together on one instruction, and over the code: auxiliary definitions for proofs. Assumes nothing.
use Rattle.std.specs.Prelude.{◌≡◌, Bool, true, false, not, cond, List, [], ℕ, ◌+◌, ◌≤◌, ℤ, length, get_or, Some, None}
use Rattle.std.proofs.Math.Option.{none, some}
use Rattle.limits.specs.Limits.{stack_limit, broken_image}
use Rattle.limits.specs.Answer.{accepted, refused}
use Rattle.arith.specs.Values.{ok, refusal}
use Rattle.semantics.specs.Program.{Range, known_first}
use Rattle.semantics.specs.Shape.{Setting}
use Rattle.leb128.specs.Numbers.{got}
use Rattle.bytecode.specs.Instructions.{Instruction, fetch_one}
use Rattle.bytecode.specs.Check.{known, advance, check_code}
use Rattle.bytecode.specs.Inner.Timers.{NoTimers}
use Rattle.checker.specs.declared.advance.Walk.{Walk}
use Rattle.checker.specs.declared.Verdict.TheVariants as J
use Rattle.checker.specs.Inner.Walk.{Advanced, known_of, open_of, Small}
use Rattle.checker.specs.Results.{Judges, BreaksUnlessTimed}
use Rattle.machine.specs.declared.Registers.{Registers}
use Rattle.machine.specs.declared.Stepped.{Stepped}
use Rattle.machine.specs.declared.Stepped.TheVariants as S
use Rattle.machine.specs.Step.{machine, is_pick, step}
use Rattle.machine.specs.Runs.{ran, run}
use Rattle.machine.specs.Inner.Memory.{machine_of, RangesIn, OneEach}
use Rattle.fused.specs.declared.Progress.{Progress}
use Rattle.fused.specs.declared.Moved.{Moved}
use Rattle.fused.specs.declared.Moved.TheVariants as M
use Rattle.fused.specs.declared.Ended.{Ended}
use Rattle.fused.specs.declared.Ended.TheVariants as E

-- the machine's registers: as many values as the walk knows of, none while instructions are passed over
abbrev pub registers_of : Progress → Registers
registers_of b = record { held = cond b.passing 0 b.walk.held; picked = b.picked; passing = b.passing }

-- ---- one instruction

-- an instruction that is passed over: only the walk moves
abbrev pub passed_over : Progress → ℕ → Bool → Advanced → Moved
passed_over b next passing (Some k) = M.On (record { walk = k; at = next; picked = b.picked; passing = passing })
passed_over b next passing None = M.Broken

-- the walk behind an instruction, and how the machine's step ended
abbrev pub moved_of : Walk → ℕ → Stepped → Moved
moved_of k next (S.Next t) = M.On (record { walk = k; at = next; picked = t.picked; passing = t.passing })
moved_of k next (S.Refused number) = M.Refused (record { walk = k; at = next; picked = false; passing = false }) number

-- the walk's numbers are small and speak of the names at hand; the memory fits; what is passed over stands behind an open gate
pub record Ready (low high prev cur vals : List ℤ) (b : Progress) : Type 0 where
  pub small : Small b.walk
  pub sized : b.walk.names ≡ length low
  pub room : stack_limit ≤ length vals
  pub named : OneEach low high prev cur
  pub opened : b.passing ≡ true → open_of b.walk.gate ≡ true

-- the instruction at hand breaks soundness, if it is no timer
abbrev pub BreaksAt : List ℕ → Progress → Type 0
BreaksAt code b = BreaksUnlessTimed code b.at (known_of b.walk)

-- the walk lets the instruction at a place pass, with another behind it
pub record Strides (code : List ℕ) (w : Walk) (at : ℕ) (k : Walk) (next : ℕ) : Type 0 where
  pub instruction : Instruction
  pub fetched : fetch_one code at ≡ got instruction next
  pub inside : next ≤ length code
  pub advanced : advance instruction (known_of w) ≡ some (known_of k)
  pub small : Small k

-- the instruction at hand is passed over: the walk moves, and passing over ends at a pick
pub record Passes (code : List ℕ) (b k : Progress) : Type 0 where
  pub stride : Strides code b.walk b.at k.walk k.at
  pub same_picked : k.picked ≡ b.picked
  pub passing_is : k.passing ≡ not (is_pick stride.instruction)

abbrev pub PassesBy : List ℕ → Progress → Moved → Type 0
PassesBy code b (M.On k) = Passes code b k
PassesBy code b (M.Refused k number) = ⊥
PassesBy code b M.Broken = BreaksAt code b

-- the walk moves, and the machine does the instruction, passed over or not
pub record Moves (code : List ℕ) (low high prev : List ℤ) (b : Progress) (vals cur vals₁ cur₁ : List ℤ) (k : Progress) : Type 0 where
  pub stride : Strides code b.walk b.at k.walk k.at
  pub acted : (ns : Setting) → RangesIn ns.ranges low high → step ns prev stride.instruction (machine_of (registers_of b) vals cur) ≡ ok (machine_of (registers_of k) vals₁ cur₁)
  pub opened : k.passing ≡ true → open_of k.walk.gate ≡ true

-- the walk moves, and the machine refuses the instruction
pub record Refuses (code : List ℕ) (low high prev : List ℤ) (b : Progress) (vals cur : List ℤ) (k : Progress) (number : ℕ) : Type 0 where
  pub stride : Strides code b.walk b.at k.walk k.at
  pub acted : (ns : Setting) → RangesIn ns.ranges low high → step ns prev stride.instruction (machine_of (registers_of b) vals cur) ≡ refusal number

abbrev pub MovesBy : List ℕ → List ℤ → List ℤ → List ℤ → Progress → List ℤ → List ℤ → List ℤ → List ℤ → Moved → Type 0
MovesBy code low high prev b vals cur vals₁ cur₁ (M.On k) = Moves code low high prev b vals cur vals₁ cur₁ k
MovesBy code low high prev b vals cur vals₁ cur₁ (M.Refused k number) = Refuses code low high prev b vals cur k number
MovesBy code low high prev b vals cur vals₁ cur₁ M.Broken = BreaksAt code b

-- ---- the whole code

-- a refusal of the machine stands where the rest of the code is sound; of a code with timers nothing is said
abbrev pub RefusedBy : List ℕ → ℕ → Walk → ℕ → ℕ → Ended → Type 0
RefusedBy code behind w number steps (E.Done n) = ⊥
RefusedBy code behind w number steps (E.Refused m n) = (m ≡ number) × (n ≡ steps) × Judges code behind (known_of w) J.Sound
RefusedBy code behind w number steps (E.Broken at) = Judges code behind (known_of w) (J.Broken at) × (at ≤ length code)
RefusedBy code behind w number steps E.Timed = Unit {0}

-- the code breaks at this place, or has a timer there
abbrev pub BrokenBy : List ℕ → ℕ → Ended → Type 0
BrokenBy code at (E.Done n) = ⊥
BrokenBy code at (E.Refused m n) = ⊥
BrokenBy code at (E.Broken place) = (place ≡ at) × (get_or code at 0 ≡ 23 → ⊥)
BrokenBy code at E.Timed = Unit {0}

-- the walk finds the code sound
abbrev pub CheckedCode : List ℕ → ℕ → ℕ → Type 0
CheckedCode code inputs names = (ns : List Range) (base : ℕ) → check_code ns base code (length code) 0 none (known [] false none (known_first inputs names)) ≡ accepted tt

-- the walk finds it broken at a place
abbrev pub BrokenCode : List ℕ → ℕ → ℕ → ℕ → Type 0
BrokenCode code inputs names at = (ns : List Range) (base : ℕ) → check_code ns base code (length code) 0 none (known [] false none (known_first inputs names)) ≡ refused broken_image (base + at)

-- sound code without timers, and its run succeeds after n steps and leaves these current values
pub record Succeeds (code : List ℕ) (low high prev : List ℤ) (inputs : ℕ) (cur cur₁ : List ℤ) (n : ℕ) : Type 0 where
  pub sound : CheckedCode code inputs (length low)
  pub untimed : NoTimers code 0
  pub place : ℕ
  pub passing : Bool
  pub picked : Bool
  pub held : List ℤ
  pub went : (ns : Setting) → RangesIn ns.ranges low high → run ns prev code (length code) 0 0 (machine false false [] cur) ≡ ran n place (ok (machine passing picked held cur₁))
  pub within : n ≤ length code

-- sound code without timers, and its run is refused at the step n
pub record Fails (code : List ℕ) (low high prev : List ℤ) (inputs : ℕ) (cur : List ℤ) (number n : ℕ) : Type 0 where
  pub sound : CheckedCode code inputs (length low)
  pub untimed : NoTimers code 0
  pub place : ℕ
  pub went : (ns : Setting) → RangesIn ns.ranges low high → run ns prev code (length code) 0 0 (machine false false [] cur) ≡ ran n place (refusal number)
  pub within : n ≤ length code

abbrev pub RunBy : List ℕ → List ℤ → List ℤ → List ℤ → ℕ → List ℤ → List ℤ → Ended → Type 0
RunBy code low high prev inputs cur cur₁ (E.Done n) = Succeeds code low high prev inputs cur cur₁ n
RunBy code low high prev inputs cur cur₁ (E.Refused number n) = Fails code low high prev inputs cur number n
RunBy code low high prev inputs cur cur₁ (E.Broken at) = BrokenCode code inputs (length low) at × (at ≤ length code)
RunBy code low high prev inputs cur cur₁ E.Timed = Unit {0}
