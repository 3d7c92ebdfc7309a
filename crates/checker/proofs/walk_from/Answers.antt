-- Assumes nothing.
use Rattle.std.proofs.Common.{sym, ◌∙◌, length, arith}
use Rattle.checker.specs.declared.Verdict.TheVariants as J
use Rattle.checker.proofs.Walking.{walks_here, walks_on, judges_on, judges_complete, judges_missing}
use Rattle.checker.proofs.Stretching.{stretch_walks, stretch_onward}
use Rattle.checker.proofs.walk_from.Goals as goal

pub loop-at-init : goal.loop-at-init
loop-at-init c = record { small = c.requires; walks = walks_here _ _ _ }

pub returns-in_default-clause-judges : goal.returns-in_default-clause-judges
returns-in_default-clause-judges c =
    judges_on _ _ _ _ _ (J.Broken c.loop-at.at) c.loop-at.invariant.walks (c.in_default.ensures c.if-code-at-eq-TIMER.false)

pub loop-at-smaller : goal.loop-at-smaller
loop-at-smaller c = omega (arith, stretch_onward c.in-Some.ensures, c.loop-at-test.true)

pub loop-at-preserved : goal.loop-at-preserved
loop-at-preserved c =
    let s = c.in-Some.ensures in
    record { small = s.small; walks = walks_on _ _ _ _ _ _ _ c.loop-at.invariant.walks (stretch_walks s) }

pub returns-then-complete-clause-judges : goal.returns-then-complete-clause-judges
returns-then-complete-clause-judges c =
    judges_on _ _ _ _ _ J.Sound c.loop-at.invariant.walks (judges_complete _ _ _ c.loop-at-test.false (sym c.complete.ensures ∙ c.if-complete.true))

pub returns-clause-judges : goal.returns-clause-judges
returns-clause-judges c =
    judges_on _ _ _ _ _ (J.Broken (length c.args.code.now)) c.loop-at.invariant.walks
    (judges_missing _ _ _ c.loop-at-test.false (sym c.complete.ensures ∙ c.if-complete.false))
