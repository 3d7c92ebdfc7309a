-- A timer suits and keeps soundness, or does not. Assumes nothing.
use Rattle.std.proofs.Common.{refl, sym, ◌∙◌}
use Rattle.checker.proofs.Timing.{last_timer}
use Rattle.checker.proofs.timed.timer.Goals as goal

pub returns-in_err-k : goal.returns-in_err-k
returns-in_err-k c =
    rw c.from_residual.ensures
    (λ ns before s b at k. rw (sym (c.suits.ensures ns before s b) ∙ c.if-not-suits.false, sym (c.in_err-k.ensures.by_index c.args.v c.args.n)))

pub returns : goal.returns
returns c = (
  λ ns before s b. sym (c.suits.ensures ns before s b) ∙ c.if-not-suits.false,
  sym (c.in_ok-k.ensures.by_index c.args.v c.args.n),
  c.in_ok-k.ensures.small_after,
  last_timer c.args.t c.args.v c.args.n,
  refl,
)
