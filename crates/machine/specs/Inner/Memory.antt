-- What the memory lent to the running machine and its answers stand for. Assumes nothing.
use Rattle.std.specs.Prelude.{◌≡◌, List, map, ℕ, ◌≤◌, ℤ, length}
use Rattle.std.proofs.Math.Option.{Option, none, some}
use Rattle.limits.specs.Limits.{stack_limit, broken_image}
use Rattle.arith.specs.Values.{Outcome, ok, refusal}
use Rattle.arith.specs.Inner.Flags.{flags_of}
use Rattle.semantics.specs.Program.{Range}
use Rattle.semantics.specs.Formula.{State}
use Rattle.semantics.specs.Shape.{Setting}
use Rattle.bytecode.specs.Instructions.{Instruction}
use Rattle.machine.specs.declared.Registers.{Registers}
use Rattle.machine.specs.declared.Timing.{Timing}
use Rattle.machine.specs.declared.Stepped.{Stepped}
use Rattle.machine.specs.declared.Stepped.TheVariants.{Next, Refused}
use Rattle.machine.specs.declared.Executed.{Executed}
use Rattle.machine.specs.Step.{Machine, machine, step}
use Rattle.machine.specs.Runs.{Ran, ran}
unfoldable pub use Rattle.machine.specs.Held.{held_of}

-- the machine that registers, values held and current values stand for
abbrev pub machine_of : Registers → List ℤ → State → Machine
machine_of m vals t = machine m.passing m.picked (held_of vals m.held) t

-- `Refused` holds the number of the refusal.
abbrev pub step_outcome : Stepped → List ℤ → State → Outcome Machine
step_outcome (Next m) vals t = ok (machine_of m vals t)
step_outcome (Refused k) vals t = refusal k

-- One instruction, given its code byte and its operand as `instruction_of` reads them: a code byte that is not listed is 11.
abbrev pub stepped : Setting → State → Option Instruction → Machine → Outcome Machine
stepped ns s none m = refusal broken_image
stepped ns s (some i) m = step ns s i m

abbrev pub ran_of : Executed → List ℤ → State → Ran
ran_of r vals t = ran r.steps r.place (step_outcome r.last vals t)

-- ranges whose bounds stand in two lists, one by one
pub record RangesIn (ns : List Range) (low high : List ℤ) : Type 0 where
  pub lows : map (λ n. n.low) ns ≡ low
  pub highs : map (λ n. n.high) ns ≡ high

-- which names are timers, as the bits of a number, and the milliseconds of the row
pub record TimingIn (ns : Setting) (timing : Timing) : Type 0 where
  pub flags : ns.timers ≡ flags_of timing.names timing.timers
  pub time : ns.millis ≡ timing.millis

-- the settings that lent memory stands for
pub record SettingIn (low high : List ℤ) (timing : Timing) (ns : Setting) : Type 0 where
  pub ranged : RangesIn ns.ranges low high
  pub timed : TimingIn ns timing

-- the settings whose ranges lent memory stands for; and those of so many names, whatever their timers and milliseconds
abbrev pub RangedIn : List ℤ → List ℤ → Setting → Type 0
RangedIn low high ns = RangesIn ns.ranges low high

pub record NamedIn (low high : List ℤ) (names : ℕ) (ns : Setting) : Type 0 where
  pub ranged : RangesIn ns.ranges low high
  pub named : length ns.timers ≡ names

-- room for 40 values, and not more held
pub record Stack (m : Registers) (vals : List ℤ) : Type 0 where
  pub few : m.held ≤ stack_limit
  pub room : stack_limit ≤ length vals

-- what is held stays within the limit
abbrev pub Few : Stepped → Type 0
Few (Next m) = m.held ≤ stack_limit
Few (Refused k) = Unit {0}

-- a low, a high, a previous and a current value of each number of the state
pub record OneEach (low high prev cur : List ℤ) : Type 0 where
  pub highs : length high ≡ length low
  pub previous : length prev ≡ length low
  pub current : length cur ≡ length low
