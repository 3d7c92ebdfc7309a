-- Assumes nothing.
use Rattle.bytecode.specs.Instructions.{instruction_of}
use Rattle.st_writer.proofs.Copied.{copy_starts, copy_broken, copy_timer, copy_goes, copy_ends}
use Rattle.st_writer.proofs.mirror.Goals as goal

pub loop-at-init : goal.loop-at-init
loop-at-init c = copy_starts _ _

pub loop-at-preserved : goal.loop-at-preserved
loop-at-preserved c =
    let a = c.in-Some-Instruction in
    let e = rw a.field-0-is at a.ensures.result_value in
    rw a.next-is (copy_goes _ _ _ (instruction_of a.field-0-0 a.field-0-1) _ _ _ _ _ c.loop-at-test.true e c.loop-at.invariant (rw a.next-is at c.bytes_before-to.ensures))

pub returns-in-Some-Timer : goal.returns-in-Some-Timer
returns-in-Some-Timer c =
    let a = c.in-Some-Timer in
    let e = rw a.field-0-is at a.ensures.result_value in
    λ p t z e₁. absurd (copy_timer _ _ _ _ _ _ _ _ _ c.loop-at-test.true e c.loop-at.invariant p t z e₁)

pub returns-in-None : goal.returns-in-None
returns-in-None c = λ p t z e. absurd (copy_broken _ _ _ _ _ c.loop-at-test.true c.in-None.ensures.result_value c.loop-at.invariant p t z e)

pub returns : goal.returns
returns c = λ p t z e. copy_ends _ _ _ _ _ c.loop-at-test.false c.requires c.loop-at.invariant p t z e
