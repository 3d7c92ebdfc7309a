-- The outer loop: what is left to do makes the whole run (Loop.Going); the inner loop keeps it. The measure is the budget left: a turn of the outer loop
-- passes something over, or its inner loop does something. Assumes nothing.
use Rattle.std.proofs.Common.{◌≡◌, ◌-◌, ◌≤◌, ◌<◌, ◌⊎◌, List, ℤ}
use Rattle.machine.specs.declared.Registers.{Registers}
use Rattle.machine.specs.Inner.Memory.{RangedIn}
use Rattle.machine.specs.Inner.Dispatch.{registers}
use Rattle.machine.proofs.Loop.{Going}
use Rattle.machine.proofs.run_untimed.Given as goal

-- from where the inner loop begins: it goes on, or whether instructions are passed over is as it was
abbrev pub invariant-loop-done-2 : goal.invariant-loop-done-2
invariant-loop-done-2 l =
    let i = l.initial in
    (i.done ≤ l.done) × ((i.done < l.done) ⊎ (l.passing ≡ i.passing))
    × ((cur₁ vals₁ : List ℤ) (m : Registers) → Going l.code (RangedIn l.low l.high) l.low l.high l.prev cur₁ vals₁ l.from l.budget m i.cur i.vals (registers i.held i.picked i.passing) i.at i.done
    → Going l.code (RangedIn l.low l.high) l.low l.high l.prev cur₁ vals₁ l.from l.budget m l.cur l.vals (registers l.held l.picked l.passing) l.at l.done)

abbrev pub decreases-loop-done-2 : goal.decreases-loop-done-2
decreases-loop-done-2 l = l.budget - l.done

abbrev pub invariant-loop-done : goal.invariant-loop-done
invariant-loop-done l =
    let i = l.initial in
    Going l.code (RangedIn l.low l.high) l.low l.high l.prev i.cur i.vals l.from l.budget (registers i.held i.picked i.passing) l.cur l.vals (registers l.held l.picked l.passing) l.at l.done

abbrev pub decreases-loop-done : goal.decreases-loop-done
decreases-loop-done l = l.budget - l.done
