-- `lexer::same_name` meets its contract. Assumes nothing.
use borrow.Author.Rules.{rules}
use Rattle.lexer.proofs.same_name.Statement.{statement}
use Rattle.lexer.proofs.same_name.Tie as tie

pub same_name_spec : {M : Type 1} → statement M
same_name_spec = tie.close (tie.spec (λ c κs. search rules) (λ c. c.same_capitals.ensures))
