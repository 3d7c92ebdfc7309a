-- A run of at most so many instructions, from any place of the code. Document 01, "The image" and "Who can cause which refusal".
-- Assumes nothing.
use Rattle.std.specs.Prelude.{ℕ, zero, suc, ◌+◌, cond, List, ltb, length}
use Rattle.limits.specs.Limits.{broken_image}
use Rattle.arith.specs.Values.{Outcome, ok, refusal}
use Rattle.semantics.specs.Formula.{State}
use Rattle.semantics.specs.Shape.{Setting}
use Rattle.leb128.specs.Numbers.{Read, got, nothing}
use Rattle.bytecode.specs.Instructions.{Instruction, fetch}
use Rattle.machine.specs.Step.{Machine, step}

-- the steps done so far, up to and including the refusing instruction; the place reached; the machine there, or the refusal
pub record Ran : Type 0 where
  pub steps : ℕ
  pub place : ℕ
  pub last : Outcome Machine

abbrev pub ran : ℕ → ℕ → Outcome Machine → Ran
ran n at o = record { steps = n; place = at; last = o }

-- go on after a step that was done at a place
abbrev pub after_step : Outcome Machine → ℕ → ℕ → (Machine → Ran) → Ran
after_step (ok m) n at more = more m
after_step (refusal k) n at more = ran n at (refusal k)

abbrev pub after_fetch : Read Instruction → ℕ → ℕ → (Instruction → ℕ → Ran) → Ran
after_fetch nothing n at more = ran n at (refusal broken_image)
after_fetch (got i next) n at more = more i next

-- what a scan of a row works with, the previous values, the code
module _ (ns : Setting) (s : State) (code : List ℕ) where
  -- at most `budget` instructions from a place on, n steps done before
  abbrev pub run : ℕ → ℕ → ℕ → Machine → Ran
  run zero at n m = ran n at (ok m)
  run (suc budget) at n m =
      cond (ltb at (length code))
      (after_fetch (fetch code at) (n + 1) at λ i next. after_step (step ns s i m) (n + 1) at λ m₁. run budget next (n + 1) m₁)
      (ran n at (ok m))

  -- go on with a further budget where a run stopped
  abbrev pub resume : ℕ → Outcome Machine → ℕ → ℕ → Ran
  resume budget (ok m) at n = run budget at n m
  resume budget (refusal k) at n = ran n at (refusal k)
