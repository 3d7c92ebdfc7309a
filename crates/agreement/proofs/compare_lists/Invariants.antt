-- what is left of the conditions makes the whole
use Rattle.agreement.proofs.Parts.{Comparing}
use Rattle.agreement.proofs.compare_lists.Given as goal

abbrev pub invariant-loop-i : goal.invariant-loop-i
invariant-loop-i l = Comparing l.text l.from l.to l.count l.at l.i l.a
