-- `conditions::listed` meets its contract. Assumes nothing.
use borrow.Author.Rules.{rules}
use Rattle.lexer.specs.Token.{kind_number, close_square}
use Rattle.expressions.proofs.Steps.{answers, same_part, closed_parses}
use Rattle.conditions.proofs.Ways.{listed_is}
use Rattle.conditions.proofs.listed.Statement.{statement}
use Rattle.conditions.proofs.listed.Tie as tie

returns : tie.Need-returns
unfolding kind_number
returns c = same_part (listed_is _ _) (answers c.closed.ensures (closed_parses close_square _ c.whole_condition-inner.ensures))

pub listed_spec : {M : Type 1} → statement M
listed_spec = tie.close (tie.spec (λ c κs. search rules) (λ c κs. search rules) (λ c. search rules) returns)
