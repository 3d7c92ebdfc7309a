-- The header again, and the walk over timers.
use mathlib.Core.Path.{sym, ap, ◌∙◌}
use Rattle.std.proofs.lemmas.Result.{err_from_is_err_and}
use Rattle.leb128.proofs.Stores.{rest_of}
use Rattle.limits.specs.Refusals.{stands_for}
use Rattle.checker.proofs.Checking.{broken_header, timed_walked}
use Rattle.checker.proofs.timed.survey_ranges.Goals as goal

pub returns-in_err-walk-in-Ok-clause-result_value : goal.returns-in_err-walk-in-Ok-clause-result_value
returns-in_err-walk-in-Ok-clause-result_value c =
    let h = c.in-Ok.ensures.so in
    let w = rw (rest_of c.args.image.now c.in-Ok.place) at c.walk.ensures.result_value in
    let p = err_from_is_err_and c.from_residual.result c.from_residual.ensures.1 in
    rw (p.1, p.2) (sym (ap stands_for c.in_err-walk-in-Ok.was) ∙ timed_walked c.args.image.now h c.requires.low_len.0 c.requires.low_len.1 c.requires.low_len.2 c.requires.image_len_bound c.walk.result w)

pub returns-in-Err-clause-result_value : goal.returns-in-Err-clause-result_value
returns-in-Err-clause-result_value c = broken_header _ c.requires.image_len_bound _ c.in-Err.ensures.so.0

pub returns-in_ok-walk-in-Ok-clause-result_value : goal.returns-in_ok-walk-in-Ok-clause-result_value
returns-in_ok-walk-in-Ok-clause-result_value c =
    let h = c.in-Ok.ensures.so in
    let w = rw (rest_of c.args.image.now c.in-Ok.place) at c.walk.ensures.result_value in
    sym (ap stands_for c.in_ok-walk-in-Ok.was) ∙ timed_walked c.args.image.now h c.requires.low_len.0 c.requires.low_len.1 c.requires.low_len.2 c.requires.image_len_bound c.walk.result w
