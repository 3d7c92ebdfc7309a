-- `st_writer::statements::case` meets its contract. Assumes nothing.
use borrow.Author.Rules.{rules}
use native.Mathlib.Omega.{arith}
use mathlib.Core.Path.{◌∙◌}
use Rattle.st_writer.proofs.Listed.{case_short, case_put}
use Rattle.st_writer.proofs.statements.case.Statement.{statement}
use Rattle.st_writer.proofs.statements.case.Tie as tie

assignment-requires : tie.Need-assignment-body-requires
assignment-requires c κs = (c.requires.0, omega (arith, c.requires.1))

same_length : tie.Need-shape_of-out-then-code-gate
same_length c = c.bytes_before-then.ensures.same ∙ c.assignment-body.ensures.1.same

returns : tie.Need-returns-then-code-gate
returns c = let a = c.assignment-body.ensures in ((omega (arith, a.0.0), a.0.1), case_short _ _ _ _ _ _ _ _ _ _ c.if-code-gate.true c.bytes_before-then.ensures.same a.1)

operand-requires : tie.Need-operand-requires
operand-requires c κs = (c.requires.0, omega (arith, c.if-code-gate.false))

same-length-2 : tie.Need-shape_of-out
same-length-2 c = c.operand.ensures.1.same ∙ c.bytes_before-then.ensures.same ∙ c.assignment-body.ensures.1.same

returns-2 : tie.Need-returns
returns-2 c = let a = c.assignment-body.ensures in let o = c.operand.ensures in ((omega (arith, a.0.0, o.0.0), o.0.1), case_put _ _ _ _ _ _ _ _ _ _ _ _ _ a.1 c.bytes_before-then.ensures o.1)

pub case_spec : {M : Type 1} → statement M
case_spec =
    tie.close
    (tie.spec (λ c. search rules) assignment-requires (λ c. search rules) same_length returns (λ c. search rules) operand-requires same-length-2 returns-2)
