use Rattle.std.proofs.Common.{ℕ, ◌%◌, sym, ap, ◌∙◌}
use Rattle.trace_text.specs.Inner.Stages.{longer_by, digit_after}
use Rattle.trace_text.proofs.Decimals.{digit_low}
use Rattle.trace_text.proofs.digit.Goals as goal

pub returns-then-not-is_digit : goal.returns-then-not-is_digit
unfolding digit_after
returns-then-not-is_digit c = rw (sym c.is_digit.ensures ∙ c.if-not-is_digit.true)

pub longer-requires : goal.longer-requires
longer-requires c = rw c.from.ensures (digit_low _ (sym c.is_digit.ensures ∙ c.if-not-is_digit.false))

pub returns : goal.returns
unfolding digit_after
returns c =
    rw (sym c.is_digit.ensures ∙ c.if-not-is_digit.false)
    (c.longer.ensures ∙ ap (λ (x : ℕ). longer_by c.args.n c.args.negative c.args.v (x % 16)) c.from.ensures)
