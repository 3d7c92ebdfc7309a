use Rattle.std.proofs.Common.{arith}
use Rattle.rules.proofs.Putting.{putting_first, putting_near, putting_more}
use Rattle.rules.proofs.timers.timers_of.Goals as goal

pub loop-id-init : goal.loop-id-init
loop-id-init c = putting_first _ _ _ _ _ _ _ _

pub timer_of-one-requires-clause-id_lt_count : goal.timer_of-one-requires-clause-id_lt_count
timer_of-one-requires-clause-id_lt_count c =
    let p = c.requires.count_le_name_limit in
    (c.loop-id-test.true, p.0, p.1, omega (arith, p.2, putting_near _ _ _ _ _ _ _ _ c.loop-id.invariant p.1 p.0))

pub loop-id-preserved : goal.loop-id-preserved
loop-id-preserved c = putting_more _ _ _ _ _ _ _ _ c.loop-id.invariant c.loop-id-test.true c.timer_of-one.ensures c.timer_of-one.auto.out
