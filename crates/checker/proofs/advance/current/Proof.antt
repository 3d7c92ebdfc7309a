-- `checker::advance::current` meets its contract. Assumes nothing.
use mathlib.Core.Path.{sym, ◌∙◌}
use Rattle.checker.specs.Inner.Walk.{pushed}
use borrow.Author.Rules.{rules}
use Rattle.checker.proofs.advance.current.Statement.{statement}
use Rattle.checker.proofs.advance.current.Tie as tie

returns : tie.Need-returns-then-is_known
unfolding pushed
returns c = (rw (sym c.is_known.ensures ∙ c.if-is_known.true) c.push.ensures.0, c.push.ensures.1)

returns-2 : tie.Need-returns
returns-2 c = (rw (sym c.is_known.ensures ∙ c.if-is_known.false), tt)

pub current_spec : {M : Type 1} → statement M
current_spec = tie.close (tie.spec (λ c κs. search rules) (λ c κs. search rules) returns returns-2)
