-- the list is what is left of it after the conditions read
use Rattle.expressions.specs.Inner.Scopes.{scope_of}
use Rattle.cases.proofs.Listing.{Listing}
use Rattle.cases.proofs.plain_list.Given as goal

abbrev pub invariant-loop-bracket : goal.invariant-loop-bracket
invariant-loop-bracket l = Listing (scope_of l.text l.starts l.ends l.names) l.at l.a l.left

abbrev pub decreases-loop-bracket : goal.decreases-loop-bracket
decreases-loop-bracket l = l.left
