-- Each way out is one of the ways in which the operands of a 23 are read. Assumes nothing.
use Rattle.std.proofs.Common.{sym, arith}
use Rattle.bytecode.proofs.Fetching.{number_within, timer_first, timer_second, timer_third, timer_read}
use Rattle.bytecode.proofs.timer_at.Goals as goal

pub returns-in_err-t-clause-result_value : goal.returns-in_err-t-clause-result_value
returns-in_err-t-clause-result_value c = rw c.from_residual.ensures (sym (timer_first _ _ (sym c.in_err-t.ensures)))

pub returns-in_err-w-clause-result_value : goal.returns-in_err-w-clause-result_value
returns-in_err-w-clause-result_value c =
    rw c.from_residual-in_err-w.ensures (sym (timer_second _ _ _ _ (sym c.in_ok-t.ensures) (sym c.in_err-w.ensures)))

pub returns-in_err-n-clause-result_value : goal.returns-in_err-n-clause-result_value
returns-in_err-n-clause-result_value c =
    rw c.from_residual-in_err-n.ensures (sym (timer_third _ _ _ _ (sym c.in_ok-t.ensures) _ _ (sym c.in_ok-w.ensures) (sym c.in_err-n.ensures)))

pub returns-clause-result_value : goal.returns-clause-result_value
returns-clause-result_value c = sym (timer_read _ _ _ _ (sym c.in_ok-t.ensures) _ _ (sym c.in_ok-w.ensures) _ _ (sym c.in_ok-n.ensures))

pub returns-clause-operands_within : goal.returns-clause-operands_within
returns-clause-operands_within c =
    let a = number_within _ _ _ _ (sym c.in_ok-t.ensures) in
    let b = number_within _ _ _ _ (sym c.in_ok-w.ensures) in
    let d = number_within _ _ _ _ (sym c.in_ok-n.ensures) in
    record { id = a.operand; watched = b.operand; limit = d.operand; behind = omega (arith, a.behind, b.behind, d.behind); inside = d.inside }
