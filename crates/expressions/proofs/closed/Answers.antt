use Rattle.limits.proofs.Exits.{refused_as}
use Rattle.expressions.proofs.Steps.{closed_at, unclosed_at}
use Rattle.expressions.proofs.closed.Goals as goal

pub returns-in_err-behind : goal.returns-in_err-behind
returns-in_err-behind c = rw (refused_as c.from_residual.ensures, c.in_err-behind.was)

pub returns-then-behind-kind : goal.returns-then-behind-kind
returns-then-behind-kind c = closed_at _ _ c.in_ok-behind.was c.if-behind-kind.true c.ahead.ensures

pub returns : goal.returns
returns c = unclosed_at _ _ c.in_ok-behind.was c.if-behind-kind.false
