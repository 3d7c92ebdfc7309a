use Rattle.std.proofs.Common.{sym, ap, ◌∙◌}
use Rattle.limits.specs.Refusals.{refusal_number, refusal_place, judged_by}
use Rattle.scan.proofs.Images.{scan_refused}
use Rattle.scan.proofs.after_check.Goals as goal

pub returns-in-Err-clause-state_after : goal.returns-in-Err-clause-state_after
returns-in-Err-clause-state_after c = λ h.
    rw c.refused.ensures (scan_refused c.args.image.now c.args.state.now c.args.row.now (refusal_number c.in-Err.broken) (refusal_place c.in-Err.broken) (sym (ap judged_by c.in-Err.is) ∙ c.survey.ensures.result_value))
