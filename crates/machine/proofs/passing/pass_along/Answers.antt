use Rattle.std.proofs.Common.{rules, ◌≡◌, true, refl, subst, arith}
use Rattle.machine.specs.Inner.Passing.{BeyondBy, OverTo}
use Rattle.machine.proofs.PassingOver.{none_over, further_over}
use Rattle.machine.proofs.passing.pass_along.Goals as goal

pub loop-steps-init : goal.loop-steps-init
loop-steps-init c = (none_over c.args.code.now c.args.from, λ e. refl)

pub returns-then-code-at-clause-over_to : goal.returns-then-code-at-clause-over_to
returns-then-code-at-clause-over_to c = c.loop-steps.invariant.0

pub returns-then-code-at-clause-steps_le_left : goal.returns-then-code-at-clause-steps_le_left
returns-then-code-at-clause-steps_le_left c = (search rules, c.loop-steps.invariant.1)

pub returns-in_default-clause-over_to : goal.returns-in_default-clause-over_to
returns-in_default-clause-over_to c = c.loop-steps.invariant.0

pub returns-in_default-clause-steps_le_left : goal.returns-in_default-clause-steps_le_left
returns-in_default-clause-steps_le_left c = (search rules, c.loop-steps.invariant.1)

pub loop-steps-preserved : goal.loop-steps-preserved
loop-steps-preserved c =
    let s = subst (λ x. BeyondBy c.args.code.now c.loop-steps.at x) c.in-Some.is c.past.ensures in
    (further_over c.args.code.now c.args.from _ _ true 1 _ c.loop-steps.invariant.0 s, λ e. absurd (omega (arith, e)))

pub returns-clause-over_to : goal.returns-clause-over_to
returns-clause-over_to c =
    let e : c.loop-steps.steps ≡ c.args.left = omega arith in
    subst (λ n. OverTo c.args.code.now c.args.from n true c.loop-steps.at) e c.loop-steps.invariant.0

pub returns-clause-steps_le_left : goal.returns-clause-steps_le_left
returns-clause-steps_le_left c = (omega arith, λ e. c.loop-steps.invariant.1 (omega (arith, e)))
