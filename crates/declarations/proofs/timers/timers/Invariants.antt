-- The loop's invariant: with the names and timers declared so far, what is left makes the whole. The measure is the number of names that
-- may still follow. Assumes nothing.
use Prim.Native.Nat.{◌-◌}
use Rattle.declarations.proofs.TimerLoop.{TimersTurning}
use Rattle.declarations.proofs.timers.timers.Given as goal

abbrev pub invariant-loop-token : goal.invariant-loop-token
invariant-loop-token l = TimersTurning l.text l.inputs l.count l.at l.to l.initial.out l.initial.starts l.initial.ends l.initial.watched l.initial.limits l.starts l.ends l.watched l.limits l.out l.a l.known l.t

abbrev pub decreases-loop-token : goal.decreases-loop-token
decreases-loop-token l = 65 - l.known
