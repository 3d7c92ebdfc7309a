use Rattle.std.proofs.Common.{length, ◌∙◌, arith}
use Rattle.evaluation.proofs.Walking.{inside, moved, start-inside, pairs_none, pairs_begin, pairs_end, pairs_fail, pairs_go}
use Rattle.evaluation.proofs.walk_paired.Goals as goal

pub returns-then-places-eq0 : goal.returns-then-places-eq0
returns-then-places-eq0 c x y d e = pairs_none x y c.args.names c.args.places c.args.trace.now c.if-places-eq0.true

pub evaluate_at-a-requires : goal.evaluate_at-a-requires
evaluate_at-a-requires c =
    let i = start-inside c.args.names c.args.places (length c.args.trace.now) c.requires.1 c.if-places-eq0.false in
    record { stack_limit_in_bounds = c.requires.0; names_in_bounds = (omega (arith, i), omega (arith, i)) }

pub loop-n-init : goal.loop-n-init
loop-n-init c =
    let k = c.evaluate_at-a.auto.vals in
    pairs_begin c.args.first.now c.args.later.now c.args.trace.now c.args.names c.args.places _ c.evaluate_at-a.result c.requires.1 c.if-places-eq0.false (omega (arith, k, c.requires.0)) c.evaluate_at-a.ensures

pub evaluate_at-b-requires : goal.evaluate_at-b-requires
evaluate_at-b-requires c =
    let i = inside c.loop-n.invariant.places_left c.loop-n-test.true in
    record { stack_limit_in_bounds = c.loop-n.invariant.room; names_in_bounds = (i.0, i.1) }

pub returns-then-not-is_kept : goal.returns-then-not-is_kept
returns-then-not-is_kept c x y d e =
    let i = c.loop-n.invariant in
    pairs_fail i x y d e c.loop-n-test.true c.is_kept.result (c.is_kept.ensures _ _ (i.goes x y d e).told (c.evaluate_at-b.ensures y e)) c.if-not-is_kept.true

pub evaluate_at-a-requires-in-loop-n : goal.evaluate_at-a-requires-in-loop-n
evaluate_at-a-requires-in-loop-n c =
    let i = inside c.loop-n.invariant.places_left c.loop-n-test.true in
    let k = c.evaluate_at-b.auto.vals in
    record { stack_limit_in_bounds = omega (arith, k, c.loop-n.invariant.room); names_in_bounds = (i.0, i.1) }

pub overflow_add-at : goal.overflow_add-at
overflow_add-at c = let i = inside c.loop-n.invariant.places_left c.loop-n-test.true in omega (arith, i.1)

pub loop-n-preserved : goal.loop-n-preserved
loop-n-preserved c =
    let i = c.loop-n.invariant in
    let k = c.evaluate_at-a-in-loop-n.auto.vals ∙ c.evaluate_at-b.auto.vals in
    record {
      places_left = moved i.places_left c.loop-n-test.true;
      deep = k ∙ i.deep;
      room = omega (arith, k, i.room);
      goes = λ x y d e. pairs_go i x y d e c.loop-n-test.true c.is_kept.result (c.is_kept.ensures _ _ (i.goes x y d e).told (c.evaluate_at-b.ensures y e)) c.if-not-is_kept.false c.evaluate_at-a-in-loop-n.result (c.evaluate_at-a-in-loop-n.ensures x d);
    }

pub returns : goal.returns
returns c x y d e = pairs_end c.loop-n.invariant x y d e c.loop-n-test.false
