-- `st_writer::statements::pick_at` meets its contract. Assumes nothing.
use borrow.Author.Rules.{rules}
use borrow.Author.Tests.{ne_eqb}
use mathlib.Core.Path.{sym, ap, ◌∙◌}
use Rattle.st_writer.proofs.Listed.{pick_none, pick_is}
use Rattle.st_writer.specs.Inner.Statements.{is_pick_code}
use Rattle.st_writer.proofs.statements.pick_at.Statement.{statement}
use Rattle.st_writer.proofs.statements.pick_at.Tie as tie

returns-2 : tie.Need-returns-in-20
returns-2 c = sym (pick_is _ _ c.if-code-at.false ∙ ap is_pick_code c.in-20.is)

returns-3 : tie.Need-returns-in-24
returns-3 c = sym (pick_is _ _ c.if-code-at.false ∙ ap is_pick_code c.in-24.is)

returns-4 : tie.Need-returns-in-25
returns-4 c = sym (pick_is _ _ c.if-code-at.false ∙ ap is_pick_code c.in-25.is)

returns-5 : tie.Need-returns-in_default
returns-5 c = sym (pick_is _ _ c.if-code-at.false ∙ rw (ne_eqb _ _ c.in_default.in_default-own.rest.0.0.1, ne_eqb _ _ c.in_default.in_default-own.rest.0.1, ne_eqb _ _ c.in_default.in_default-own.rest.1))

pub pick_at_spec : {M : Type 1} → statement M
pick_at_spec = tie.close (tie.spec (λ c. pick_none _ _ c.if-code-at.true) (λ c. search rules) returns-2 returns-3 returns-4 returns-5)
