-- `lexer::sign_at` meets its contract. Assumes nothing.
use mathlib.Core.Path.{◌∙◌}
use borrow.Author.Rules.{rules}
use Rattle.lexer.proofs.Tokens.{sign_two, sign_one, sign_none}
use Rattle.lexer.proofs.sign_at.Statement.{statement}
use Rattle.lexer.proofs.sign_at.Tie as tie

returns : tie.Need-returns-then-two-ne-UNKNOWN
returns c = c.token.ensures ∙ sign_two _ _ _ _ c.pair-two.ensures c.if-two-ne-UNKNOWN.true

returns-2 : tie.Need-returns-then-one-ne-UNKNOWN
returns-2 c = c.token-then-one-ne-UNKNOWN.ensures ∙ sign_one _ _ _ _ c.pair-two.ensures c.if-two-ne-UNKNOWN.false _ c.sign-one.ensures c.if-one-ne-UNKNOWN.true

returns-3 : tie.Need-returns
returns-3 c = sign_none _ _ _ _ c.pair-two.ensures c.if-two-ne-UNKNOWN.false _ c.sign-one.ensures c.if-one-ne-UNKNOWN.false

pub sign_at_spec : {M : Type 1} → statement M
sign_at_spec =
    tie.close
    (tie.spec (λ c κs. search rules) (λ c. search rules) (λ c κs. search rules) returns (λ c κs. search rules) (λ c. search rules) (λ c κs. search rules) returns-2 returns-3)
