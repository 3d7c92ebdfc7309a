-- `phrases::formula_closing` meets its contract. Assumes nothing.
use borrow.Author.Rules.{rules}
use Rattle.lexer.specs.Results.{kind_of}
use Rattle.phrases.proofs.formula_closing.Statement.{statement}
use Rattle.phrases.proofs.formula_closing.Tie as tie

returns : tie.Need-returns
unfolding kind_of
returns c = c.two_signs.ensures

pub formula_closing_spec : {M : Type 1} → statement M
formula_closing_spec = tie.close (tie.spec (λ c κs. search rules) returns)
