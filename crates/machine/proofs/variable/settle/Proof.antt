-- `machine::variable::settle` meets its contract. The ways are the laws of Changes. Assumes nothing.
use borrow.Author.Rules.{rules}
use mir.Val.{SFits}
use mir.Syntax.{w32}
use mir.Facts.{to_z-of_z}
use Rattle.machine.proofs.Changes.{settle_undeclared, settle_picked, settle_kept}
use Rattle.semantics.specs.Formula.{at}
use Rattle.machine.proofs.variable.settle.Statement.{statement}
use Rattle.machine.proofs.variable.settle.Tie as tie

returns : tie.Need-returns-then-prev-i
returns c =
    let a = c.args in
    (λ ns vs e. settle_undeclared ns a.prev.now vs a.m.held a.id a.cur.now e a.m.picked c.if-prev-i.true, search rules)

returns-2 : tie.Need-returns-then-m
returns-2 c =
    let a = c.args in
    (λ ns vs e. settle_picked ns a.prev.now vs a.m.held a.id a.cur.now e a.m.picked c.if-prev-i.false c.if-m.true, c.requires.0)

returns-3 : tie.Need-returns
returns-3 c =
    let a = c.args in
    let f : SFits w32 (at a.prev.now a.id) = record { sfits = c.cur-1.given } in
    (λ ns vs e. rw (to_z-of_z f) (settle_kept ns a.prev.now vs a.m.held a.id a.cur.now e a.m.picked c.if-prev-i.false c.if-m.false), c.requires.0)

pub settle_spec : {M : Type 1} → statement M
settle_spec =
    tie.close
    (tie.spec returns returns-2 (λ c. search rules) (λ c. search rules) (λ c. search rules) (λ c. search rules) (λ c. search rules)
    returns-3)
