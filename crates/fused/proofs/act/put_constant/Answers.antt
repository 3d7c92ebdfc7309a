-- `fused::act::put_constant` meets its contract: the constant is put on top, then what stands behind it is done. Assumes nothing.
use mathlib.Core.Path.{refl}
use native.Mathlib.Omega.{arith}
use mir.Facts.{to_z-of_z}
use Rattle.fused.proofs.Fusing.{goes_ready}
use Rattle.fused.proofs.Acting.{once_on, once_none, then_acts, then_stays}
use Rattle.fused.proofs.act.put_constant.Goals as goal

pub returns-in_err-p : goal.returns-in_err-p
returns-in_err-p c low high prev cur h =
    let p = rw (to_z-of_z c.ranges.v) at c.put.ensures.put_by in
    rw c.from_residual.ensures (once_none _ _ _ _ _ _ _ _ c.put.result (p c.args.code.now low high prev cur h) c.in_err-p.was)

pub returns-then-code-p : goal.returns-then-code-p
returns-then-code-p c low high prev cur h =
    let p = rw (to_z-of_z c.ranges.v) at c.put.ensures.put_by in
    once_on _ _ _ _ _ _ _ _ c.put.result (p c.args.code.now low high prev cur h) _ _ c.in_ok-p.was

pub work-requires : goal.work-requires
work-requires c = (c.in_ok-p.ensures.small_on, c.if-code-p.false, omega (arith, c.put.auto.vals, c.requires.1))

pub returns-in_default : goal.returns-in_default
returns-in_default c low high prev cur h =
    let p = rw (to_z-of_z c.ranges.v) at c.put.ensures.put_by in
    let o = once_on _ _ _ _ _ _ _ _ c.put.result (p c.args.code.now low high prev cur h) _ _ c.in_ok-p.was in
    let r = goes_ready 1 _ _ _ _ _ _ o.1 h.at_hand.ready c.put.auto.vals refl in
    then_stays c.in_ok-p.p c.work.result o (c.work.ensures low high prev cur r o.0) c.in_default.is

pub returns : goal.returns
returns c low high prev cur h =
    let p = rw (to_z-of_z c.ranges.v) at c.put.ensures.put_by in
    let o = once_on _ _ _ _ _ _ _ _ c.put.result (p c.args.code.now low high prev cur h) _ _ c.in_ok-p.was in
    let r = goes_ready 1 _ _ _ _ _ _ o.1 h.at_hand.ready c.put.auto.vals refl in
    then_acts c.in_ok-p.p c.in-Some.q _ c.work.result o c.put.auto.vals (c.work.ensures low high prev cur r o.0) c.in-Some.is
