use Rattle.std.proofs.Common.{◌≡◌, ◌-◌, suc, true, false, pos, get_or, subst, rules, arith}
use lib.Signed.{lt_z}
use mir.Val.{SFits}
use mir.Syntax.{w32}
use Rattle.arith.proofs.Laws.{same32}
use Rattle.closed.proofs.Whole.{next_fits}
use Rattle.closed.proofs.Turning.{Turning, turning_stops, turning_goes}
use Rattle.closed.proofs.next.Goals as goal

pub returns-then-values-k : goal.returns-then-values-k
returns-then-values-k c ns r =
    let k = c.loop-k.k - 1 in
    let fv : SFits w32 (get_or c.loop-k.values k (pos 0)) = search rules in
    let fh : SFits w32 (get_or c.args.high.now k (pos 0)) = search rules in
    let below : lt_z (get_or c.loop-k.values k (pos 0)) (get_or c.args.high.now k (pos 0)) ≡ true = rw (same32 fv, same32 fh) at c.if-values-k.true in
    let turned : Turning ns c.args.values.now c.loop-k.values (suc k) = subst (Turning ns c.args.values.now c.loop-k.values) (omega (arith, c.loop-k-test.true)) (c.loop-k.invariant ns r) in
    turning_stops ns _ _ c.args.values.now c.loop-k.values k r turned (omega arith) (omega arith) _ below (rw (same32 fv) (same32 (next_fits fv fh below)))

pub loop-k-preserved : goal.loop-k-preserved
loop-k-preserved c ns r =
    let k = c.loop-k.k - 1 in
    let fv : SFits w32 (get_or c.loop-k.values k (pos 0)) = search rules in
    let fh : SFits w32 (get_or c.args.high.now k (pos 0)) = search rules in
    let fl : SFits w32 (get_or c.args.low.now k (pos 0)) = search rules in
    let reached : lt_z (get_or c.loop-k.values k (pos 0)) (get_or c.args.high.now k (pos 0)) ≡ false = rw (same32 fv, same32 fh) at c.if-values-k.false in
    let turned : Turning ns c.args.values.now c.loop-k.values (suc k) = subst (Turning ns c.args.values.now c.loop-k.values) (omega (arith, c.loop-k-test.true)) (c.loop-k.invariant ns r) in
    turning_goes ns _ _ c.args.values.now c.loop-k.values k r turned (omega arith) (omega arith) _ reached (same32 fl)
