-- `expressions::put_operator` meets its contract. Assumes nothing.
use borrow.Author.Rules.{rules}
use Rattle.expressions.proofs.Chain.{no_operator, one_operator}
use Rattle.expressions.proofs.put_operator.Statement.{statement}
use Rattle.expressions.proofs.put_operator.Tie as tie

returns-2 : tie.Need-returns
returns-2 c = one_operator _ _ c.if-code-eq0.false c.put_byte.ensures

pub put_operator_spec : {M : Type 1} → statement M
put_operator_spec = tie.close (tie.spec (λ c. no_operator _ c.if-code-eq0.true) (λ c κs. search rules) (λ c. search rules) returns-2)
