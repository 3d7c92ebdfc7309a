-- `checker::ahead::operation_ahead` meets its contract: only the last way out says yes. Assumes nothing.
use mathlib.Core.Bool.{false≢true}
use native.Mathlib.Omega.{arith}
use borrow.Author.Tests.{eqb-true}
use borrow.Author.Rules.{rules}
use Rattle.checker.proofs.Stretching.{operation_leads}
use Rattle.checker.proofs.ahead.operation_ahead.Statement.{statement}
use Rattle.checker.proofs.ahead.operation_ahead.Tie as tie

returns-8 : tie.Need-returns
returns-8 c =
    λ e. operation_leads c.args.code.now c.args.at c.args.w c.requires.0 c.if-code-at-ne1.false c.if-code-at.false c.if-op-lt4.false (omega (arith, c.if-op-gt8.false)) (omega (arith, c.if-code-at-gt127.false)) (omega (arith, c.if-w-eq0.false)) (omega (arith, c.if-w.false)) (eqb-true _ _ e)

pub operation_ahead_spec : {M : Type 1} → statement M
operation_ahead_spec =
    tie.close
    (tie.spec (λ c. search rules) (λ c e. absurd (false≢true e)) (λ c. search rules) (λ c e. absurd (false≢true e)) (λ c. search rules) (λ c. search rules) (λ c e. absurd (false≢true e))
    (λ c e. absurd (false≢true e)) (λ c. search rules) (λ c. search rules) (λ c e. absurd (false≢true e)) (λ c e. absurd (false≢true e)) (λ c e. absurd (false≢true e)) returns-8)
