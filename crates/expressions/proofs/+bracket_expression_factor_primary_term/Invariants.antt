-- The measure of each function of the cycle: five for each bracket left to open, and the function's rank. The loops' invariant is `Turn`.
use Rattle.std.proofs.Common.{◌+◌, ◌*◌, ◌-◌, length}
use Rattle.semantics.specs.Program.{operation}
use Rattle.grammar.specs.Expressions.{product_of, sum_of}
use Rattle.grammar.specs.Inner.Bytes.{bytes_e}
use Rattle.expressions.specs.Inner.Scopes.{scope_of}
use Rattle.expressions.specs.Inner.Readers.{factor_in, term_in}
use Rattle.expressions.proofs.Chain.{Turn}
use Rattle.expressions.proofs.+bracket_expression_factor_primary_term.Given as goal

abbrev pub decreases-bracket : goal.decreases-bracket
decreases-bracket l = 5 * l.left

abbrev pub decreases-expression : goal.decreases-expression
decreases-expression l = 5 * l.left + 4

abbrev pub decreases-factor : goal.decreases-factor
decreases-factor l = 5 * l.left + 2

abbrev pub decreases-primary : goal.decreases-primary
decreases-primary l = 5 * l.left + 1

abbrev pub decreases-term : goal.decreases-term
decreases-term l = 5 * l.left + 3

abbrev pub invariant-expression-loop-behind : goal.invariant-expression-loop-behind
invariant-expression-loop-behind l =
    Turn bytes_e operation sum_of (term_in l.left (scope_of l.text l.starts l.ends l.names)) l.text l.at l.to l.initial.out l.a l.t l.code l.out

abbrev pub decreases-expression-loop-behind : goal.decreases-expression-loop-behind
decreases-expression-loop-behind l = length l.text - l.a

abbrev pub invariant-term-loop-behind : goal.invariant-term-loop-behind
invariant-term-loop-behind l =
    Turn bytes_e operation product_of (factor_in l.left (scope_of l.text l.starts l.ends l.names)) l.text l.at l.to l.initial.out l.a l.t l.code l.out

abbrev pub decreases-term-loop-behind : goal.decreases-term-loop-behind
decreases-term-loop-behind l = length l.text - l.a
