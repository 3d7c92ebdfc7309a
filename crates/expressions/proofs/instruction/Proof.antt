-- `expressions::instruction` meets its contract. Assumes nothing.
use borrow.Author.Rules.{rules}
use Rattle.expressions.proofs.Ways.{written}
use Rattle.expressions.proofs.instruction.Statement.{statement}
use Rattle.expressions.proofs.instruction.Tie as tie

returns : tie.Need-returns
returns c = written c.put_instruction-u.ensures c.ahead.ensures

pub instruction_spec : {M : Type 1} → statement M
instruction_spec = tie.close (tie.spec (λ c κs. search rules) (λ c κs. search rules) (λ c. search rules) returns)
