use Rattle.std.proofs.Common.{◌∙◌, arith}
use Rattle.evaluation.proofs.Walking.{inside, moved, alone_begins, alone_ends, alone_fails, alone_goes}
use Rattle.evaluation.proofs.walk_alone.Goals as goal

pub loop-n-init : goal.loop-n-init
loop-n-init c = alone_begins c.args.code.now c.args.trace.now c.args.names c.args.places c.args.vals.now c.requires.1

pub evaluate_at-t-requires : goal.evaluate_at-t-requires
evaluate_at-t-requires c =
    let d = c.loop-n.invariant.deep in
    let i = inside c.loop-n.invariant.places_left c.loop-n-test.true in
    record { stack_limit_in_bounds = omega (arith, d, c.requires.0); names_in_bounds = (i.0, i.1) }

pub returns-then-not-holds : goal.returns-then-not-holds
returns-then-not-holds c x d = alone_fails c.loop-n.invariant x d c.loop-n-test.true c.holds.result (c.holds.ensures _ (c.evaluate_at-t.ensures x d)) c.if-not-holds.true

pub overflow_add-at : goal.overflow_add-at
overflow_add-at c = let i = inside c.loop-n.invariant.places_left c.loop-n-test.true in omega (arith, i.1)

pub loop-n-preserved : goal.loop-n-preserved
loop-n-preserved c =
    record {
      places_left = moved c.loop-n.invariant.places_left c.loop-n-test.true;
      deep = c.evaluate_at-t.auto.vals ∙ c.loop-n.invariant.deep;
      goes = λ x d. alone_goes c.loop-n.invariant x d c.loop-n-test.true c.holds.result (c.holds.ensures _ (c.evaluate_at-t.ensures x d)) c.if-not-holds.false;
    }

pub returns : goal.returns
returns c x d = alone_ends c.loop-n.invariant x d c.loop-n-test.false
