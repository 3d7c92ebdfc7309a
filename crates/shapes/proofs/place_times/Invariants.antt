-- What is left to place makes the whole.
use Rattle.shapes.proofs.Placing.{Placing}
use Rattle.shapes.proofs.place_times.Given as goal

abbrev pub invariant-loop-i : goal.invariant-loop-i
invariant-loop-i l = Placing l.limits l.initial.low l.initial.high l.i l.low l.high l.t.size l.t.timers
