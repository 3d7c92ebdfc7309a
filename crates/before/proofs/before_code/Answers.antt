-- What was read stands at the front of the lent memory (Begins).
use native.Mathlib.Omega.{arith}
use Rattle.std.proofs.Common.{subst, ◌∙◌}
use lib.Seq.{length-take-le, take_at}
use Rattle.std.proofs.lemmas.Result.{err_from_is_err_and}
use Rattle.limits.specs.Refusals.{refusal_number, refusal_place}
use Rattle.bytecode.specs.Parts.{shape_in}
use Rattle.before.specs.Inner.Known.{ShapedFor}
use Rattle.before.proofs.Stored.{known_front}
use Rattle.before.proofs.Begins.{before_for, before_rest, begun_by}
use Rattle.before.proofs.before_code.Goals as goal

pub returns-in_err-m-clause-result_value : goal.returns-in_err-m-clause-result_value
returns-in_err-m-clause-result_value c =
    let p = err_from_is_err_and c.from_residual.result c.from_residual.ensures.1 in
    let e = c.in_err-m.field-0.0 in
    let b = subst (ShapedFor c.args.image.now _ _ _ _ _) c.in_err-m.was c.shape_for.ensures in
    rw (p.1, p.2) (before_for c.args.image.now c.args.state.now c.args.row.now (refusal_number e) (refusal_place e) b.0)

pub returns-clause-result_value : goal.returns-clause-result_value
returns-clause-result_value c =
    let h = subst (ShapedFor c.args.image.now _ _ _ _ _) c.in_ok-m.was c.shape_for.ensures in
    let k = (known_front h.0 h.1 c.requires c.shape_for.auto.low c.shape_for.auto.high).known in
    c.before_known.ensures.result_value (shape_in c.args.image.now) k.shape ∙ before_rest c.args.image.now c.args.state.now c.args.row.now k.sound k.numbers

pub returns-clause-begun_by : goal.returns-clause-begun_by
returns-clause-begun_by c =
    let h = subst (ShapedFor c.args.image.now _ _ _ _ _) c.in_ok-m.was c.shape_for.ensures in
    let x = known_front h.0 h.1 c.requires c.shape_for.auto.low c.shape_for.auto.high in
    begun_by c.args.image.now c.args.state.now c.args.row.now c.shape_for.new.low c.shape_for.new.high _ c.before_known.new.work c.in_ok-m.m h.1 (omega (arith, h.0.size_most, h.1)) x.known h.0.timers_low
    (take_at c.before_known.new.work _ _ (c.before_known.auto.work ∙ length-take-le _ _ x.copies)) c.before_known.result (c.before_known.ensures.prepared_by (shape_in c.args.image.now) x.known.shape)
