-- Assumes nothing.
use Rattle.std.proofs.Common.{sym, ◌∙◌, false}
use Rattle.machine.specs.Inner.Memory.{held_of, SettingIn}
use Rattle.machine.specs.Inner.Dispatch.{registers}
use Rattle.machine.proofs.Changes.{names_length}
use Rattle.machine.proofs.Dispatching.{none_stops, timer_done_lem, timer_broken}
use Rattle.machine.proofs.Fetches.{timer_only}
use Rattle.machine.proofs.timer.run.Goals as goal

pub returns-in_err-t : goal.returns-in_err-t
returns-in_err-t c =
    let a = c.args in
    rw c.from_residual.ensures
    (λ held picked low high vals few sized. none_stops a.code.now (SettingIn low high a.timing) a.prev.now a.at (registers held picked false) vals a.cur.now
    c.requires.0 (sym c.in_err-t.ensures.result_value))

pub returns-then-work : goal.returns-then-work
returns-then-work c =
    let a = c.args in
    let i = c.in-Timer in
    let e = sym (rw i.is at c.in_ok-t.ensures.result_value) in
    λ held picked low high vals few sized. timer_done_lem a.code.now (SettingIn low high a.timing) a.prev.now a.at held picked vals a.cur.now few c.requires.0
    i.t i.w i.n i.next e c.work.result _
    (λ ns q. c.work.ensures ns picked (held_of vals held) (names_length ns.ranges low high q.ranged ∙ sized) q.timed) c.if-work.true

pub returns-else-work : goal.returns-else-work
returns-else-work c =
    let a = c.args in
    let i = c.in-Timer in
    let e = sym (rw i.is at c.in_ok-t.ensures.result_value) in
    λ held picked low high vals few sized. timer_broken a.code.now (SettingIn low high a.timing) a.prev.now a.at held picked vals a.cur.now few c.requires.0
    i.t i.w i.n i.next e c.work.result _
    (λ ns q. c.work.ensures ns picked (held_of vals held) (names_length ns.ranges low high q.ranged ∙ sized) q.timed) c.if-work.false

pub returns-in-Instruction : goal.returns-in-Instruction
returns-in-Instruction c =
    let a = c.args in
    let e = rw c.in-Instruction.is at c.in_ok-t.ensures.result_value in
    λ held picked low high vals few sized. none_stops a.code.now (SettingIn low high a.timing) a.prev.now a.at (registers held picked false) vals a.cur.now
    c.requires.0 (timer_only a.code.now a.at c.requires.1 _ _ _ e)
