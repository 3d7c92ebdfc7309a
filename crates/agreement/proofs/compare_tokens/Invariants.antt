-- What is left of the tokens makes the whole. The measure is what is left of the part; every token takes it on.
use Prim.Native.Nat.{◌-◌}
use Rattle.agreement.proofs.Parts.{Matching}
use Rattle.agreement.proofs.compare_tokens.Given as goal

abbrev pub invariant-loop-a : goal.invariant-loop-a
invariant-loop-a l = Matching l.text l.from l.to l.at l.a l.b

abbrev pub decreases-loop-a : goal.decreases-loop-a
decreases-loop-a l = l.to - l.a
