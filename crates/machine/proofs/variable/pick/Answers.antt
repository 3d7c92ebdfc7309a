-- A value on the side wanted of the previous one is assigned.
use Rattle.std.proofs.Common.{◌≡◌, ◌<◌, ◌-◌, ℤ, Bool, length, arith, rules, sym, ◌∙◌}
use mir.Syntax.{w32}
use mir.Val.{SFits, to_z, of_z}
use mir.Facts.{to_z-of_z}
use Rattle.semantics.specs.Program.{Side}
use Rattle.semantics.specs.Formula.{at}
use Rattle.semantics.specs.ReferenceScan.{moves}
use Rattle.machine.specs.Inner.Sides.{pick_side}
use Rattle.machine.proofs.Changes.{pick_refused, pick_moved}
use Rattle.machine.proofs.Stack.{pop_none}
use Rattle.machine.proofs.variable.pick.Goals as goal

-- `moves` is asked of the values' bits
asked : (side : Side) (p v : ℤ) → SFits w32 p → SFits w32 v → {t : Bool} → moves side (to_z w32 (of_z w32 p)) (to_z w32 (of_z w32 v)) ≡ t → moves side p v ≡ t
asked side p v fp fv e = rw (to_z-of_z fp, to_z-of_z fv) at e

pub returns-then-n-eq0-clause-cur_after : goal.returns-then-n-eq0-clause-cur_after
returns-then-n-eq0-clause-cur_after c = λ ns r. pop_none c.args.vals.now c.args.m.held _ c.if-n-eq0.true

pub returns-then-not-moves-clause-cur_after : goal.returns-then-not-moves-clause-cur_after
returns-then-not-moves-clause-cur_after c = λ ns r.
    let a = c.args in
    let h : a.id < length a.low.now = omega (arith, c.requires.one_each.previous) in
    rw c.stays.ensures
    (pick_refused ns a.low.now a.high.now r a.prev.now a.vals.now a.m.held a.m.picked a.cur.now a.id c.if-n-eq0.false h (pick_side a.side)
    (asked (pick_side a.side) (at a.prev.now a.id) (at a.vals.now (a.m.held - 1)) (search rules) (search rules) (sym c.moves.ensures ∙ c.if-not-moves.true)))

pub returns-clause-cur_after : goal.returns-clause-cur_after
returns-clause-cur_after c = λ ns r.
    let a = c.args in
    let h : a.id < length a.low.now = omega (arith, c.requires.one_each.previous) in
    c.assign.ensures.cur_after ns a.prev.now r ∙
    pick_moved ns a.low.now a.high.now r a.prev.now a.vals.now a.m.held a.m.picked a.cur.now a.id c.if-n-eq0.false h (pick_side a.side)
    (asked (pick_side a.side) (at a.prev.now a.id) (at a.vals.now (a.m.held - 1)) (search rules) (search rules) (sym c.moves.ensures ∙ c.if-not-moves.false))
