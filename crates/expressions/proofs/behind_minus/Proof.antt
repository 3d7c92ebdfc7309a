-- `expressions::behind_minus` meets its contract. Assumes nothing.
use borrow.Author.Rules.{rules}
use Rattle.lexer.specs.Token.{kind_number}
use Rattle.expressions.proofs.Steps.{behind_sign, behind_none}
use Rattle.expressions.proofs.behind_minus.Statement.{statement}
use Rattle.expressions.proofs.behind_minus.Tie as tie

returns : tie.Need-returns-then-here-eq-MINUS
unfolding kind_number
returns c = behind_sign _ _ _ c.if-here-eq-MINUS.true c.ahead.ensures

returns-2 : tie.Need-returns
unfolding kind_number
returns-2 c = behind_none _ _ _ c.if-here-eq-MINUS.false

pub behind_minus_spec : {M : Type 1} → statement M
behind_minus_spec = tie.close (tie.spec (λ c κs. search rules) returns returns-2)
