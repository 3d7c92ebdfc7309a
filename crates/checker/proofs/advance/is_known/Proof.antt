-- `checker::advance::is_known` meets its contract. Assumes nothing.
use mathlib.Core.Path.{sym, ◌∙◌}
use borrow.Author.Rules.{rules}
use Rattle.arith.proofs.Flags.{flag_at, flag_out}
use Rattle.checker.proofs.advance.is_known.Statement.{statement}
use Rattle.checker.proofs.advance.is_known.Tie as tie

returns-2 : tie.Need-returns
returns-2 c = c.bit.ensures ∙ sym (flag_at _ _ _ c.if-w-id.false)

pub is_known_spec : {M : Type 1} → statement M
is_known_spec = tie.close (tie.spec (λ c. sym (flag_out _ _ _ c.if-w-id.true)) (λ c κs. search rules) returns-2)
