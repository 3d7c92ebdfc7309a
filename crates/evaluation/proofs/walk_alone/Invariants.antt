-- What is left to walk decides.
use Rattle.evaluation.proofs.Walking.{Alone}
use Rattle.evaluation.proofs.walk_alone.Given as goal

abbrev pub invariant-loop-n : goal.invariant-loop-n
invariant-loop-n l = Alone l.code l.trace l.names l.places l.initial.vals l.vals l.n l.before l.at
