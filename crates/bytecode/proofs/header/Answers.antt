-- The counts, then the ranges. Assumes nothing.
use Rattle.std.proofs.Common.{sym}
use Rattle.std.proofs.lemmas.Result.{err_from_is_err_and}
use Rattle.bytecode.specs.Check.{check_header}
use Rattle.bytecode.proofs.header.Goals as goal

pub returns-in_err-inputs : goal.returns-in_err-inputs
unfolding check_header
returns-in_err-inputs c =
    let p = err_from_is_err_and c.from_residual.result c.from_residual.ensures.1 in
    record { so = rw (p.1, p.2) (rw (sym c.in_err-inputs.ensures.result_value), c.in_err-inputs.ensures.counted_within) }

pub returns : goal.returns
unfolding check_header
returns c = rw (sym c.in_ok-inputs.ensures.result_value) c.ranges-2.ensures
