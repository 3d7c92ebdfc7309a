use Rattle.std.proofs.Common.{ℕ, List, ◌++◌, ap}
use Rattle.st_writer.proofs.Laws.{fronts_then, as_front}
use Rattle.trace_text.proofs.SignedDecimals.{printed, printed_below}
use Rattle.st_sections.proofs.signed_before.Goals as goal

pub returns-then-z-ge0 : goal.returns-then-z-ge0
returns-then-z-ge0 c =
    as_front (λ l. ap (λ (k : List ℕ). k ++ l) (printed c.args.z c.ranges.z c.unsigned_abs.ensures.value c.from.ensures c.if-z-ge0.true)) c.decimal_before-digits.ensures

pub returns : goal.returns
returns c =
    as_front (λ l. ap (λ (k : List ℕ). k ++ l) (printed_below c.args.z c.ranges.z c.unsigned_abs.ensures.value c.from.ensures c.if-z-ge0.false))
    (fronts_then c.decimal_before-digits.ensures c.byte_before.ensures)
