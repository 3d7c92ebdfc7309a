-- The state and the inputs, then the milliseconds (Tests).
use Rattle.std.proofs.Common.{rules, sym, ap, ◌∙◌, true, false, pos, get_or}
use lib.Signed.{non_neg}
use mir.Val.{SFits}
use mir.Syntax.{w32}
use Rattle.std.proofs.lemmas.Result.{err_from_is_err_and}
use Rattle.limits.specs.Refusals.{refusal_number, refusal_place, judged_by}
use Rattle.arith.proofs.Signs.{at_pos, at_neg}
use Rattle.semantics.specs.Shape.{cells}
use Rattle.before.proofs.Tests.{timed_refused, timed_tested}
use Rattle.before.proofs.before_timed.Goals as goal

pub returns-in_err-tested-clause-result_value : goal.returns-in_err-tested-clause-result_value
returns-in_err-tested-clause-result_value c = λ k x.
    let p = err_from_is_err_and c.from_residual.result c.from_residual.ensures.1 in
    let e = c.in_err-tested.field-0.0 in
    rw (p.1, p.2) (timed_refused x c.args.state.now c.args.row.now c.requires.fitting_memory.lows c.requires.row_len.1 c.requires.row_len.0 (refusal_number e) (refusal_place e) (sym (c.before_ranges.ensures.result_value (cells k) x.ranges) ∙ ap judged_by c.in_err-tested.was))

pub returns-then-time-ge0-clause-result_value : goal.returns-then-time-ge0-clause-result_value
returns-then-time-ge0-clause-result_value c = λ k x.
    let f : SFits w32 (get_or c.args.row.now c.args.m.inputs (pos 0)) = search rules in
    timed_tested x c.args.state.now c.args.row.now c.requires.fitting_memory.lows c.requires.row_len.1 c.requires.row_len.0 true (ap non_neg (at_pos f c.if-time-ge0.true)) (sym (c.before_ranges.ensures.result_value (cells k) x.ranges) ∙ ap judged_by c.in_ok-tested.was)

pub returns-clause-result_value : goal.returns-clause-result_value
returns-clause-result_value c = λ k x.
    let f : SFits w32 (get_or c.args.row.now c.args.m.inputs (pos 0)) = search rules in
    timed_tested x c.args.state.now c.args.row.now c.requires.fitting_memory.lows c.requires.row_len.1 c.requires.row_len.0 false (ap non_neg (at_neg f c.if-time-ge0.false)) (sym (c.before_ranges.ensures.result_value (cells k) x.ranges) ∙ ap judged_by c.in_ok-tested.was)
