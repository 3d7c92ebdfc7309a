-- The cycle of `expression`, `term`, `factor`, `primary` and `bracket`: an operand, then operators and operands, by the laws of Chain; the
-- others by the token at hand.
use Rattle.std.proofs.Common.{rules, arith}
use Rattle.limits.proofs.Exits.{handed_on}
use Rattle.lexer.specs.Token.{kind_number}
use Rattle.grammar.specs.Expressions.{term, expression}
use Rattle.expressions.proofs.Chain.{turn_first, turn_room, turn_refused, turn_fits, turn_done, turn_less, turn_more}
use Rattle.expressions.proofs.Steps.{refuses, refused_now, same_part, room_fits, room_next, token_fits, ahead_fault, operand_stands, operand_room}
use Rattle.expressions.proofs.Ways.{sums, products, factor_grows, term_grows, bracket_none, bracket_closes, factor_fault, operand-fault, factor_refuses, factor_accepts, primary_fits, primary_number, primary_current, primary_previous, primary_bracket, primary_none}
use Rattle.expressions.proofs.+bracket_expression_factor_primary_term.Goals as goal

pub expression-loop-behind-init : goal.expression-loop-behind-init
expression-loop-behind-init t c = search (turn_first sums, term_grows)

pub expression-term-requires : goal.expression-term-requires
expression-term-requires t c = search (turn_room sums, arith)

pub expression-returns-in_err-behind : goal.expression-returns-in_err-behind
unfolding expression
expression-returns-in_err-behind t c =
    rw (handed_on c.from_residual.ensures c.in_err-behind.was) (turn_refused sums _ _ c.loop-behind.invariant c.term.ensures c.in_err-behind.was)

pub expression-put_operator-requires : goal.expression-put_operator-requires
expression-put_operator-requires t c = turn_fits sums _ _ c.loop-behind.invariant c.term.ensures c.in_ok-behind.was

pub expression-returns-then-code-eq0 : goal.expression-returns-then-code-eq0
unfolding expression
expression-returns-then-code-eq0 t c = turn_done sums _ _ c.loop-behind.invariant c.term.ensures c.in_ok-behind.was c.put_operator.ensures c.sum_code-code.ensures c.if-code-eq0.true

pub expression-loop-behind-smaller : goal.expression-loop-behind-smaller
expression-loop-behind-smaller t c = turn_less sums _ _ c.loop-behind.invariant c.term.ensures c.in_ok-behind.was c.put_operator.ensures c.sum_code-code.ensures c.if-code-eq0.false

pub expression-loop-behind-preserved : goal.expression-loop-behind-preserved
expression-loop-behind-preserved t c = turn_more sums _ _ c.loop-behind.invariant c.term.ensures c.in_ok-behind.was c.put_operator.ensures c.sum_code-code.ensures c.if-code-eq0.false

pub term-loop-behind-init : goal.term-loop-behind-init
term-loop-behind-init t c = search (turn_first products, factor_grows)

pub term-factor-requires : goal.term-factor-requires
term-factor-requires t c = search (turn_room products, arith)

pub term-returns-in_err-behind : goal.term-returns-in_err-behind
unfolding term
term-returns-in_err-behind t c =
    rw (handed_on c.from_residual.ensures c.in_err-behind.was) (turn_refused products _ _ c.loop-behind.invariant c.factor.ensures c.in_err-behind.was)

pub term-put_operator-requires : goal.term-put_operator-requires
term-put_operator-requires t c = turn_fits products _ _ c.loop-behind.invariant c.factor.ensures c.in_ok-behind.was

pub term-returns-then-code-eq0 : goal.term-returns-then-code-eq0
unfolding term
term-returns-then-code-eq0 t c = turn_done products _ _ c.loop-behind.invariant c.factor.ensures c.in_ok-behind.was c.put_operator.ensures c.product_code-code.ensures c.if-code-eq0.true

pub term-loop-behind-smaller : goal.term-loop-behind-smaller
term-loop-behind-smaller t c = turn_less products _ _ c.loop-behind.invariant c.factor.ensures c.in_ok-behind.was c.put_operator.ensures c.product_code-code.ensures c.if-code-eq0.false

pub term-loop-behind-preserved : goal.term-loop-behind-preserved
term-loop-behind-preserved t c = turn_more products _ _ c.loop-behind.invariant c.factor.ensures c.in_ok-behind.was c.put_operator.ensures c.product_code-code.ensures c.if-code-eq0.false

pub factor-returns-in_default : goal.factor-returns-in_default
factor-returns-in_default t c = ahead_fault _ _ _ c.in_default.is c.ahead-read.ensures (factor_fault _ _ _ _ _ _)

pub factor-returns-in_default-second : goal.factor-returns-in_default-second
factor-returns-in_default-second t c = operand-fault _ _ _ _ _ _ _ c.in-Ok.is c.ahead-read.ensures c.behind_minus-second.ensures c.in_default-second.is

pub factor-primary-requires : goal.factor-primary-requires
factor-primary-requires t c = (
  search arith,
  (
    c.requires.declared,
    (
      operand_room _ _ _ c.in-Ok.is c.ahead-read.ensures c.behind_minus-second.ensures c.in-Ok-second.is c.requires.room,
      operand_stands _ _ _ c.in-Ok.is c.ahead-read.ensures c.behind_minus-second.ensures c.in-Ok-second.is,
    ),
  ),
)

pub factor-returns-in_err-behind : goal.factor-returns-in_err-behind
factor-returns-in_err-behind t c =
    rw (handed_on c.from_residual.ensures c.in_err-behind.was)
    (factor_refuses _ _ _ _ _ _ _ c.in-Ok.is c.ahead-read.ensures c.behind_minus-second.ensures c.in-Ok-second.is c.primary.ensures c.in_err-behind.was)

pub factor-put_operator-requires : goal.factor-put_operator-requires
factor-put_operator-requires t c =
    primary_fits _ _ _ _ _ c.in_ok-behind.was c.primary.ensures c.requires.declared
    (operand_room _ _ _ c.in-Ok.is c.ahead-read.ensures c.behind_minus-second.ensures c.in-Ok-second.is c.requires.room)

pub factor-returns : goal.factor-returns
factor-returns t c =
    factor_accepts _ _ _ _ _ _ _ c.in-Ok.is c.ahead-read.ensures c.behind_minus-second.ensures c.in-Ok-second.is c.primary.ensures c.in_ok-behind.was c.minus_code.ensures c.put_operator.ensures

pub primary-returns-then-here-eq-DIGITS : goal.primary-returns-then-here-eq-DIGITS
unfolding kind_number
primary-returns-then-here-eq-DIGITS t c = search (same_part, primary_number)

pub primary-returns-then-here-eq-NAME : goal.primary-returns-then-here-eq-NAME
unfolding kind_number
primary-returns-then-here-eq-NAME t c = search (same_part, primary_current)

pub primary-previous-requires-clause-start_bound :
    goal.primary-previous-requires-clause-start_bound
unfolding kind_number
primary-previous-requires-clause-start_bound t c = search (room_fits, token_fits)

pub primary-returns-then-here-eq-PREVIOUS : goal.primary-returns-then-here-eq-PREVIOUS
unfolding kind_number
primary-returns-then-here-eq-PREVIOUS t c = search (same_part, primary_previous)

pub primary-bracket-requires : goal.primary-bracket-requires
unfolding kind_number
primary-bracket-requires t c = search (arith, room_next)

pub primary-returns-then-here-eq-OPEN_ROUND : goal.primary-returns-then-here-eq-OPEN_ROUND
unfolding kind_number
primary-returns-then-here-eq-OPEN_ROUND t c = let asks = c.requires in search (same_part, primary_bracket)

pub primary-returns : goal.primary-returns
unfolding kind_number
primary-returns t c = search (refuses, refused_now, primary_none)

pub bracket-returns-then-left-eq0 : goal.bracket-returns-then-left-eq0
unfolding kind_number
bracket-returns-then-left-eq0 t c = search (refuses, refused_now, bracket_none)

pub bracket-returns : goal.bracket-returns
unfolding kind_number
bracket-returns t c = search bracket_closes
