-- The counts and ranges, then the code. Assumes nothing.
use Rattle.checker.proofs.Checking.{too_long_lem, broken_header}
use Rattle.checker.proofs.survey.Goals as goal

pub survey_code-requires : goal.survey_code-requires
survey_code-requires c =
    let h = c.in-Ok.ensures.so in
    record { short = c.if-image-gt-IMAGE_LIMIT.false; ranges = h.ranges; read = h.read; many = h.many; extends = h.extends }

pub returns-then-image-gt-IMAGE_LIMIT-clause-result_value : goal.returns-then-image-gt-IMAGE_LIMIT-clause-result_value
returns-then-image-gt-IMAGE_LIMIT-clause-result_value c = too_long_lem _ c.if-image-gt-IMAGE_LIMIT.true

pub returns-in-Err-clause-result_value : goal.returns-in-Err-clause-result_value
returns-in-Err-clause-result_value c = broken_header _ c.if-image-gt-IMAGE_LIMIT.false _ c.in-Err.ensures.so.0
