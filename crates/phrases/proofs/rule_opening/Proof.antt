-- `phrases::rule_opening` meets its contract. Assumes nothing.
use borrow.Author.Rules.{rules}
use Rattle.lexer.specs.Results.{kind_of}
use Rattle.phrases.proofs.rule_opening.Statement.{statement}
use Rattle.phrases.proofs.rule_opening.Tie as tie

returns : tie.Need-returns
unfolding kind_of
returns c = c.three_signs.ensures

pub rule_opening_spec : {M : Type 1} → statement M
rule_opening_spec = tie.close (tie.spec (λ c κs. search rules) returns)
