-- An instruction of one operand at most, or a timer. Assumes nothing.
use Rattle.std.proofs.Common.{ap, sym, ◌∙◌}
use Rattle.bytecode.specs.Instructions.{decoded}
use Rattle.checker.proofs.Timing.{plain_turns, timer_turns}
use Rattle.checker.proofs.timed.turn.Goals as goal

pub returns-in-Instruction : goal.returns-in-Instruction
returns-in-Instruction c =
    let i = c.in-Instruction in
    let b = rw i.is at c.in_ok-byte.ensures.fetched_within in
    let e = sym (rw i.is at c.in_ok-byte.ensures.result_value) ∙ ap (λ o. decoded o i.next) b.listed in
    plain_turns c.args.code.now c.args.at c.args.w c.args.last c.args.low.now c.args.high.now c.args.start.now c.requires.1 i.next b.behind b.inside _ _
    b.instruction b.listed e c.plain.result c.plain.ensures

pub returns-in-Timer : goal.returns-in-Timer
returns-in-Timer c =
    let i = c.in-Timer in
    let b = rw i.is at c.in_ok-byte.ensures.fetched_within in
    timer_turns c.args.code.now c.args.at c.args.w c.args.last c.args.low.now c.args.high.now c.args.start.now c.requires.1 i.next b.behind b.inside _ _ _
    (sym (rw i.is at c.in_ok-byte.ensures.result_value)) c.timer.result c.timer.ensures
