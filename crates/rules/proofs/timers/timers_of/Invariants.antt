-- The timers before the one at hand are put.
use Rattle.rules.proofs.Putting.{Putting}
use Rattle.rules.proofs.timers.timers_of.Given as goal

abbrev pub invariant-loop-id : goal.invariant-loop-id
invariant-loop-id l = Putting l.watched l.limits l.first l.v l.count l.initial.known l.to l.initial.out l.out l.known l.t l.id
