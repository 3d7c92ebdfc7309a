-- `checker::advance::holds_only` meets its contract. Assumes nothing.
use mathlib.Core.Path.{sym}
use Rattle.checker.specs.Inner.Walk.{sort_of}
use Rattle.checker.proofs.Steps.{only_other, only_one}
use Rattle.checker.proofs.advance.holds_only.Statement.{statement}
use Rattle.checker.proofs.advance.holds_only.Tie as tie

returns : tie.Need-returns-then-w-ne1
returns c =
    let a = c.args in
    sym (only_other (sort_of a.sort) a.w.held a.w.sorts c.if-w-ne1.true)

returns-2 : tie.Need-returns
returns-2 c =
    let a = c.args in
    rw c.if-w-ne1.false (sym (only_one a.w.sorts a.sort c.requires))

pub holds_only_spec : {M : Type 1} → statement M
holds_only_spec = tie.close (tie.spec returns returns-2)
