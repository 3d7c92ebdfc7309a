-- Assumes nothing.
use Rattle.std.proofs.Common.{sym, ◌∙◌, ◌+◌, arith}
use Rattle.bytecode.proofs.Fetching.{timer_first, timer_second, timer_third, timer_read, timer_fetched}
use Rattle.machine.proofs.PassingOver.{broken_over, timer_over}
use Rattle.machine.proofs.timer.pass.Goals as goal

pub returns-in_err-second : goal.returns-in_err-second
returns-in_err-second c =
    let p = c.requires in
    rw c.from_residual.ensures (broken_over _ _ p.0 (timer_fetched _ _ p.1 ∙ timer_first _ _ (sym c.in_err-second.ensures)))

pub returns-in_err-third : goal.returns-in_err-third
returns-in_err-third c =
    let p = c.requires in
    rw c.from_residual-in_err-third.ensures
    (broken_over _ _ p.0 (timer_fetched _ _ p.1 ∙ timer_second _ _ _ _ (sym c.in_ok-second.ensures) (sym c.in_err-third.ensures)))

pub returns-in_err-next : goal.returns-in_err-next
returns-in_err-next c =
    let p = c.requires in
    rw c.from_residual-in_err-next.ensures
    (broken_over _ _ p.0 (timer_fetched _ _ p.1 ∙ timer_third _ _ _ _ (sym c.in_ok-second.ensures) _ _ (sym c.in_ok-third.ensures) (sym c.in_err-next.ensures)))

pub returns : goal.returns
returns c =
    let a = c.args in
    let p = c.requires in (
      omega arith,
      omega arith,
      timer_over a.code.now a.at p.0 _ _ _ _
          (timer_fetched a.code.now a.at p.1 ∙ timer_read a.code.now (a.at + 1) _ _ (sym c.in_ok-second.ensures) _ _ (sym c.in_ok-third.ensures) _ _ (sym c.in_ok-next.ensures)),
    )
