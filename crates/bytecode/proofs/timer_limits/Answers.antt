-- Assumes nothing.
use Rattle.bytecode.proofs.Limiting.{limiting_begins, limiting_ends, limiting_passes}
use Rattle.bytecode.proofs.timer_limits.Goals as goal

pub loop-at-init : goal.loop-at-init
loop-at-init c = limiting_begins _ _

pub loop-at-preserved-in-Some-Instruction : goal.loop-at-preserved-in-Some-Instruction
loop-at-preserved-in-Some-Instruction c =
    let a = c.in-Some-Instruction in
    let e = rw a.field-0-is at a.ensures.result_value in
    let b = rw a.field-0-is at a.ensures.fetched_within in
    rw a.next-is (limiting_passes c.loop-at.invariant c.loop-at-test.true _ _ _ e b)

pub returns : goal.returns
returns c = limiting_ends c.loop-at.invariant c.loop-at-test.false
