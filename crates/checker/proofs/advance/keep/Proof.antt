-- `checker::advance::keep` meets its contract. Assumes nothing.
use mathlib.Core.Path.{sym}
use Rattle.checker.proofs.Steps.{kept_none, kept_other, kept_same}
use Rattle.checker.proofs.advance.keep.Statement.{statement}
use Rattle.checker.proofs.advance.keep.Tie as tie

returns : tie.Need-returns-then-w-eq0
returns c =
    let a = c.args in
    (sym (kept_none a.w a.sort c.if-w-eq0.true), tt)

returns-2 : tie.Need-returns-then-w-sort
returns-2 c =
    let a = c.args in
    (sym (kept_other a.w a.sort c.requires.1 c.if-w-eq0.false c.if-w-sort.true), tt)

returns-3 : tie.Need-returns
returns-3 c =
    let a = c.args in
    (sym (kept_same a.w a.sort c.if-w-eq0.false c.if-w-sort.false), c.requires.0)

pub keep_spec : {M : Type 1} → statement M
keep_spec = tie.close (tie.spec returns returns-2 returns-3)
