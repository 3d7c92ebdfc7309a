-- The machine's instructions in groups, as the running code works them: auxiliary definitions for proofs. Assumes nothing.
use Rattle.std.specs.Prelude.{◌≡◌, Bool, false, ◌&&◌, ◌||◌, cond, List, ◌∷◌, ℕ, eqb, ltb, ℤ, length}
use Rattle.std.proofs.Math.Option.{Option, none, some}
use Rattle.limits.specs.Limits.{broken_image}
use Rattle.arith.specs.Values.{Outcome, ok, refusal, compares}
use Rattle.semantics.specs.Formula.{State, at}
use Rattle.semantics.specs.Shape.{Setting}
use Rattle.bytecode.specs.Instructions.{Instruction, comparison_of}
use Rattle.machine.specs.declared.Registers.{Registers}
use Rattle.machine.specs.declared.Stepped.{Stepped}
use Rattle.machine.specs.Step.{Machine, machine, bit, yes, push, pop, perform}
use Rattle.machine.specs.Inner.Memory.{held_of, step_outcome}

-- an instruction that leaves the current values alone
abbrev pub OnStack : Instruction → Registers → List ℤ → Stepped → List ℤ → Type 0
OnStack i m vals r left = (ns : Setting) (s t : State) → step_outcome r left t ≡ perform ns s i m.picked (held_of vals m.held) t

-- current and previous: a value of a list, by id
abbrev pub loaded : List ℤ → ℕ → Bool → List ℤ → State → Outcome Machine
loaded from i c vs t = cond (ltb i (length from)) (push (at from i) c vs t) (refusal broken_image)

-- codes 10 to 15, 17 and 18: a yes-no of two values
unfoldable pub truth_of : ℕ → ℤ → ℤ → Bool
truth_of code a b = cond (eqb code 17) (yes a && yes b) (cond (eqb code 18) (yes a || yes b) (compares (comparison_of code) a b))

abbrev pub related : (ℤ → ℤ → Bool) → Bool → List ℤ → State → Outcome Machine
related f c vs t = pop vs λ b vs₁. pop vs₁ λ a vs₂. ok (machine false c (bit (f a b) ∷ vs₂) t)

-- a timer at work, or broken
abbrev pub worked : Bool → Bool → List ℤ → State → Outcome Machine
worked r c vs t = cond r (ok (machine false c vs t)) (refusal broken_image)

module _ (ns : Setting) (s : State) where
  -- what a code byte and its operand do: no instruction is 11
  abbrev pub performed : Option Instruction → Bool → List ℤ → State → Outcome Machine
  performed none c vs t = refusal broken_image
  performed (some i) c vs t = perform ns s i c vs t
