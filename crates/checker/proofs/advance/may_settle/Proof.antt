-- `checker::advance::may_settle` meets its contract. Assumes nothing.
use mathlib.Core.Path.{sym}
use Rattle.checker.proofs.Steps.{opened_level, opened_other}
use borrow.Author.Rules.{rules}
use Rattle.checker.proofs.advance.may_settle.Statement.{statement}
use Rattle.checker.proofs.advance.may_settle.Tie as tie

returns-2 : tie.Need-returns
returns-2 c = sym (opened_other _ _ c.if-w-id.false)

pub may_settle_spec : {M : Type 1} → statement M
may_settle_spec = tie.close (tie.spec (λ c. search rules) (λ c. search rules) (λ c. sym (opened_level _ _ c.if-w-id.true)) (λ c. search rules) (λ c. search rules) returns-2)
