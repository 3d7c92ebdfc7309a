-- Assumes nothing.
use Rattle.std.proofs.Common.{sym, ◌∙◌}
use Rattle.checker.proofs.Timing.{timing_begins, timing_goes, timing_breaks, timing_ends}
use Rattle.checker.proofs.timed.walk.Goals as goal

pub loop-at-init : goal.loop-at-init
loop-at-init c = rw c.initial-w.ensures (timing_begins _ _ _ _ _ _ c.requires.0 c.requires.1)

pub returns-in_default-clause-result_value : goal.returns-in_default-clause-result_value
returns-in_default-clause-result_value c = timing_breaks c.loop-at.invariant c.loop-at-test.true c.in_default.ensures

pub loop-at-preserved : goal.loop-at-preserved
loop-at-preserved c = timing_goes c.loop-at.invariant c.loop-at-test.true _ _ _ c.in-Some.ensures

pub returns-then-complete-clause-result_value : goal.returns-then-complete-clause-result_value
returns-then-complete-clause-result_value c = timing_ends c.loop-at.invariant c.loop-at-test.false _ (sym c.complete.ensures ∙ c.if-complete.true)

pub returns-clause-result_value : goal.returns-clause-result_value
returns-clause-result_value c = timing_ends c.loop-at.invariant c.loop-at-test.false _ (sym c.complete.ensures ∙ c.if-complete.false)
