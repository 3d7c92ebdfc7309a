-- The measure of each function of the cycle: five for each bracket left to open, and the function's rank. The loops' invariant is `Turn`.
use Rattle.std.proofs.Common.{◌+◌, ◌*◌, ◌-◌, length}
use Rattle.grammar.specs.Conditions.{connect, and_of, or_of}
use Rattle.grammar.specs.Inner.Bytes.{bytes_c}
use Rattle.expressions.specs.Inner.Scopes.{scope_of}
use Rattle.expressions.proofs.Chain.{Turn}
use Rattle.conditions.specs.Inner.Readers.{atom_in, conjunction_in}
use Rattle.conditions.proofs.+atom_condition_conjunction_inverted_square.Given as goal

abbrev pub decreases-atom : goal.decreases-atom
decreases-atom l = 5 * l.left + 2

abbrev pub decreases-condition : goal.decreases-condition
decreases-condition l = 5 * l.left + 4

abbrev pub decreases-conjunction : goal.decreases-conjunction
decreases-conjunction l = 5 * l.left + 3

abbrev pub decreases-inverted : goal.decreases-inverted
decreases-inverted l = 5 * l.left + 1

abbrev pub decreases-square : goal.decreases-square
decreases-square l = 5 * l.left

abbrev pub invariant-condition-loop-behind : goal.invariant-condition-loop-behind
invariant-condition-loop-behind l =
    Turn bytes_c connect or_of (conjunction_in l.left (scope_of l.text l.starts l.ends l.names)) l.text l.at l.to l.initial.out l.a l.t l.code l.out

abbrev pub decreases-condition-loop-behind : goal.decreases-condition-loop-behind
decreases-condition-loop-behind l = length l.text - l.a

abbrev pub invariant-conjunction-loop-behind : goal.invariant-conjunction-loop-behind
invariant-conjunction-loop-behind l =
    Turn bytes_c connect and_of (atom_in l.left (scope_of l.text l.starts l.ends l.names)) l.text l.at l.to l.initial.out l.a l.t l.code l.out

abbrev pub decreases-conjunction-loop-behind : goal.decreases-conjunction-loop-behind
decreases-conjunction-loop-behind l = length l.text - l.a
