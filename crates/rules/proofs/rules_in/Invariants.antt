-- What was read and written so far. The measure is the number of variables without a rule.
use Rattle.arith.specs.Inner.Flags.{flags_of}
use Rattle.grammar.proofs.ConverseRules.{unruled}
use Rattle.rules.specs.Inner.Timers.{timers_in}
use Rattle.rules.proofs.Ruling.{Ruling}
use Rattle.rules.proofs.rules_in.Given as goal

abbrev pub invariant-loop-token : goal.invariant-loop-token
invariant-loop-token l = Ruling (timers_in l.watched l.limits l.first l.count) l.text l.starts l.ends l.count l.initial.known l.at l.to l.initial.out l.out l.known l.a l.t

abbrev pub decreases-loop-token : goal.decreases-loop-token
decreases-loop-token l = unruled (flags_of l.count l.known)
