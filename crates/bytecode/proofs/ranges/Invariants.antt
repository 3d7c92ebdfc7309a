-- What is left of the ranges makes the whole header and the three lists. Assumes nothing.
use Rattle.bytecode.proofs.Heading.{Heading}
use Rattle.bytecode.proofs.ranges.Given as goal

abbrev pub invariant-loop-i : goal.invariant-loop-i
invariant-loop-i l = Heading l.image l.inputs l.names l.first l.i l.place l.initial.low l.initial.high l.initial.start l.low l.high l.start
