-- `fused::act::act_ahead` meets its contract: the instructions that stand ahead together go as many steps as they are. Assumes nothing.
use mathlib.Core.Path.{refl}
use native.Mathlib.Omega.{arith}
use mir.Val.{SFits}
use mir.Syntax.{w32}
use mir.Facts.{to_z-of_z}
use Rattle.checker.proofs.Bits.{below_40}
use Rattle.fused.proofs.Leaping.{pair_leaps}
use borrow.Author.Rules.{rules}
use Rattle.fused.proofs.act.act_ahead.Goals as goal

pub bounds-vals-h : goal.bounds-vals-h
bounds-vals-h c =
    let a = c.args in
    let s = c.in-Some.ensures in
    omega (arith, s.room, c.requires.ready.room)

pub overflow_mul-k : goal.overflow_mul-k
overflow_mul-k c = record { fits = omega (arith, below_40 _ _ c.requires.ready.small.few_held c.requires.ready.small.sorts_low) }

pub overflow_add-k-2 : goal.overflow_add-k-2
overflow_add-k-2 c =
    let a = c.args in
    let s = c.in-Some.ensures in
    record { fits = omega (arith, s.made.sort_low, below_40 _ _ c.requires.ready.small.few_held c.requires.ready.small.sorts_low) }

pub returns : goal.returns
returns c =
    let a = c.args in
    let v = c.in-Some.v in
    let s = c.in-Some.ensures in
    let fv : SFits w32 v = search rules in
    rw (to_z-of_z fv) (refl, pair_leaps a.code.now c.requires.ready c.requires.at_in_bounds.1 v _ s)
