-- The first condition's answer is carried, and what is left to walk decides.
use Rattle.evaluation.proofs.Walking.{Pairs}
use Rattle.evaluation.proofs.walk_paired.Given as goal

abbrev pub invariant-loop-n : goal.invariant-loop-n
invariant-loop-n l = Pairs l.first l.later l.trace l.names l.places l.initial.vals l.vals l.a l.n l.before l.at
