-- Instructions that a run does at once, and what it is then left with: auxiliary definitions for proofs. Assumes nothing.
use Rattle.std.specs.Prelude.{◌≡◌, Bool, false, List, ℕ, ◌+◌, ◌-◌, ◌≤◌, ◌<◌, ℤ, length, get_or, Option, Some, None}
use Rattle.limits.specs.Limits.{stack_limit, broken_image}
use Rattle.arith.specs.Values.{refusal, Comparison, compares}
use Rattle.semantics.specs.Shape.{Setting}
use Rattle.leb128.specs.Numbers.{got, unzigzag}
use Rattle.bytecode.specs.Instructions.{Instruction, constant, comparison, fetch_one}
use Rattle.machine.specs.declared.Registers.{Registers}
use Rattle.machine.specs.declared.Stepped.{Stepped}
use Rattle.machine.specs.declared.Stepped.TheVariants as S
use Rattle.machine.specs.declared.dispatch.Dispatched.{Dispatched}
use Rattle.machine.specs.declared.dispatch.Dispatched.TheVariants as D
use Rattle.machine.specs.declared.Executed.{Executed}
use Rattle.machine.specs.Step.{push, perform}
use Rattle.machine.specs.Runs.{ran, run, resume}
use Rattle.machine.specs.Inner.Memory.{machine_of, step_outcome, Few}

abbrev pub registers : ℕ → Bool → Bool → Registers
registers h c p = record { held = h; picked = c; passing = p }

-- ---- what one instruction leads to

-- done, with this place behind it
abbrev pub dispatched_of : ℕ → Stepped → Dispatched
dispatched_of next (S.Next t) = D.On t.held t.picked t.passing next 1
dispatched_of next (S.Refused number) = D.Refused number

-- ---- what is done, in every setting of a kind

-- n instructions from a place on, at most so many: the run goes on behind them
pub record Continues (code : List ℕ) (settings : Setting → Type 0) (prev : List ℤ) (at : ℕ) (m : Registers) (vals cur vals₁ cur₁ : List ℤ) (most : ℕ) (k : Registers) (next n : ℕ) : Type 0 where
  pub few : k.held ≤ stack_limit
  pub some_done : 1 ≤ n
  pub no_more : n ≤ most
  pub goes : (ns : Setting) (budget done : ℕ) → settings ns → n ≤ budget
      → run ns prev code budget at done (machine_of m vals cur) ≡ run ns prev code (budget - n) next (done + n) (machine_of k vals₁ cur₁)

-- the instruction at a place is refused
abbrev pub Stops : List ℕ → (Setting → Type 0) → List ℤ → ℕ → Registers → List ℤ → List ℤ → ℕ → Type 0
Stops code settings prev at m vals cur number = (ns : Setting) (budget done : ℕ) → settings ns → 0 < budget
    → run ns prev code budget at done (machine_of m vals cur) ≡ ran (done + 1) at (refusal number)

-- a timer that is not passed over; nothing moved
pub record AtTimer (code : List ℕ) (at : ℕ) (m : Registers) (vals cur vals₁ cur₁ : List ℤ) : Type 0 where
  pub byte : get_or code at 0 ≡ 23
  pub acting : m.passing ≡ false
  pub values : vals₁ ≡ vals
  pub state : cur₁ ≡ cur

abbrev pub DispatchedBy : List ℕ → (Setting → Type 0) → List ℤ → ℕ → Registers → List ℤ → List ℤ → List ℤ → List ℤ → ℕ → Dispatched → Type 0
DispatchedBy code settings prev at m vals cur vals₁ cur₁ most (D.On h c p next n) = Continues code settings prev at m vals cur vals₁ cur₁ most (registers h c p) next n
DispatchedBy code settings prev at m vals cur vals₁ cur₁ most (D.Refused number) = Stops code settings prev at m vals cur number
DispatchedBy code settings prev at m vals cur vals₁ cur₁ most D.Timed = AtTimer code at m vals cur vals₁ cur₁

-- a timer at work, and the place behind it: only current values move
abbrev pub WorkedBy : List ℕ → (Setting → Type 0) → List ℤ → ℕ → Registers → List ℤ → List ℤ → List ℤ → Option ℕ → Type 0
WorkedBy code settings prev at m vals cur cur₁ (Some next) = Continues code settings prev at m vals cur vals cur₁ 1 m next 1
WorkedBy code settings prev at m vals cur cur₁ None = Stops code settings prev at m vals cur broken_image

-- ---- a run up to a timer

abbrev pub resting_at : ℕ → ℕ → Registers → Executed
resting_at n place k = record { steps = n; place = place; last = S.Next k }

-- refused by the instruction at a place
abbrev pub refused_at : ℕ → ℕ → ℕ → Executed
refused_at n place number = record { steps = n; place = place; last = S.Refused number }

-- a run that is neither at its end nor refused stands at a timer that is not passed over, in a state with elapsed times
abbrev pub RestsAt : List ℕ → List ℤ → ℕ → ℕ → ℕ → Stepped → Type 0
RestsAt code prev names left place (S.Next k) =
    0 < left → place < length code → (get_or code place 0 ≡ 23) × (k.passing ≡ false) × (names < length prev)
RestsAt code prev names left place (S.Refused number) = Unit {0}

-- what a run did, and where it rests; what is left to do makes the whole
pub record RanTo (code : List ℕ) (settings : Setting → Type 0) (prev vals cur : List ℤ) (names from budget : ℕ) (m : Registers) (r : Executed) (vals₁ cur₁ : List ℤ) : Type 0 where
  pub few : Few r.last
  pub within : r.steps ≤ budget
  pub rests : RestsAt code prev names (budget - r.steps) r.place r.last
  pub goes : (ns : Setting) (done : ℕ) → settings ns
      → run ns prev code budget from done (machine_of m vals cur) ≡ resume ns prev code (budget - r.steps) (step_outcome r.last vals₁ cur₁) r.place (done + r.steps)

-- ---- three instructions at once

-- An instruction that puts x on top, a constant and a comparison; there is room for both values.
pub record Comparing (code : List ℕ) (prev cur : List ℤ) (at held left : ℕ) (found : Bool) : Type 0 where
  pub loading : Instruction
  pub x : ℤ
  pub operand : ℕ
  pub relation : Comparison
  pub first : fetch_one code at ≡ got loading (at + 2)
  pub second : fetch_one code (at + 2) ≡ got (constant (unzigzag operand)) (at + 4)
  pub third : fetch_one code (at + 4) ≡ got (comparison relation) (at + 5)
  pub inside : at + 5 ≤ length code
  pub room : held + 2 ≤ stack_limit
  pub enough : 3 ≤ left
  pub loaded : (ns : Setting) (c : Bool) (vs : List ℤ) → length ns.ranges ≡ length prev → perform ns prev loading c vs cur ≡ push x c vs cur
  pub finds : found ≡ compares relation x (unzigzag operand)

abbrev pub LookaheadBy : List ℕ → List ℤ → List ℤ → ℕ → ℕ → ℕ → Option Bool → Type 0
LookaheadBy code prev cur at held left (Some found) = Comparing code prev cur at held left found
LookaheadBy code prev cur at held left None = Unit {0}
