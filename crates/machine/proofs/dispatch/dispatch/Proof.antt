-- `machine::dispatch::dispatch` meets its contract. Assumes nothing.
use mathlib.Core.Path.{sym, subst, ◌∙◌}
use mathlib.Core.Bool.{false}
use native.Mathlib.Omega.{arith}
use mir.Val.{SFits}
use mir.Syntax.{w32}
use mir.Facts.{to_z-of_z}
use Rattle.machine.specs.Inner.Memory.{RangedIn}
use Rattle.machine.specs.Inner.Dispatch.{registers, LookaheadBy}
use Rattle.machine.proofs.Changes.{names_length}
use Rattle.machine.proofs.Dispatching.{with_more, comparison_done}
use borrow.Author.Rules.{rules}
use Rattle.machine.proofs.dispatch.dispatch.Statement.{statement}
use Rattle.machine.proofs.dispatch.dispatch.Tie as tie

comparison-at-requires : tie.Need-comparison_at-requires
comparison-at-requires c κs = (c.requires.0.0, c.requires.0.1, c.requires.1.current ∙ sym c.requires.1.previous)

returns : tie.Need-returns-in_default
returns c =
    let a = c.args in
    with_more a.code.now (RangedIn a.low.now a.high.now) a.prev.now a.at (registers a.held a.picked false) a.vals.now a.cur.now _ _ a.left c.requires.0.3 c.dispatch_one.result c.dispatch_one.ensures

slice-set-from-vals : tie.Need-bounds-vals-held
slice-set-from-vals c =
    let a = c.args in
    let s = subst (λ x. LookaheadBy a.code.now a.prev.now a.cur.now a.at a.held a.left x) c.in-Some.is c.comparison_at.ensures in
    omega (arith, s.room, c.requires.0.2)

returns-2 : tie.Need-returns
returns-2 c =
    let a = c.args in
    let s = subst (λ x. LookaheadBy a.code.now a.prev.now a.cur.now a.at a.held a.left x) c.in-Some.is c.comparison_at.ensures in
    let fv : SFits w32 c.bit_of.result = search rules in
    rw (to_z-of_z fv) (comparison_done a.code.now (RangedIn a.low.now a.high.now) a.prev.now a.at a.held a.picked a.vals.now a.cur.now a.left _ s (λ ns q. names_length ns.ranges a.low.now a.high.now q ∙ sym c.requires.1.previous) c.requires.0.2 c.bit_of.result c.bit_of.ensures)

pub dispatch_spec : {M : Type 1} → statement M
dispatch_spec =
    tie.close
    (tie.spec comparison-at-requires (λ c. search rules) (λ c. search rules) (λ c κs. search rules) (λ c. search rules) (λ c. search rules) returns
    (λ c κs. search rules) (λ c. search rules) slice-set-from-vals (λ c. search rules) (λ c. search rules) (λ c. search rules) (λ c. search rules) returns-2)
