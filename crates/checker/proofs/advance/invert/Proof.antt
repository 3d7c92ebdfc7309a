-- `checker::advance::invert` meets its contract. Assumes nothing.
use mathlib.Core.Path.{ap, ◌∙◌}
use Rattle.checker.specs.Inner.Walk.{open_of}
use Rattle.checker.proofs.Steps.{outside_no, open_yes}
use borrow.Author.Rules.{rules}
use Rattle.checker.proofs.advance.invert.Statement.{statement}
use Rattle.checker.proofs.advance.invert.Tie as tie

returns : tie.Need-returns-then-w-ne0
returns c = (rw (open_yes c.args.w.gate c.if-w-ne0.true), tt)

returns-2 : tie.Need-returns
returns-2 c = (c.keep.ensures.0 ∙ outside_no (open_of c.args.w.gate) _ (ap open_of c.if-w-ne0.false), c.keep.ensures.1)

pub invert_spec : {M : Type 1} → statement M
invert_spec = tie.close (tie.spec returns (λ c κs. search rules) returns-2)
