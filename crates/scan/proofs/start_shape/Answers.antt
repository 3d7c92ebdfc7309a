-- The shape, then the law of a start.
use Rattle.std.proofs.Common.{subst, ◌∙◌}
use Rattle.std.proofs.lemmas.Result.{err_from_is_err_and}
use Rattle.limits.specs.Refusals.{refusal_number, refusal_place}
use Rattle.before.specs.Inner.Known.{ShapedFor}
use Rattle.scan.proofs.Images.{start_for, headed_starts, start_done}
use Rattle.scan.proofs.start_shape.Goals as goal

pub returns-in_err-m : goal.returns-in_err-m
returns-in_err-m c =
    let p = err_from_is_err_and c.from_residual.result c.from_residual.ensures.1 in
    let e = c.in_err-m.field-0.0 in
    let b = subst (ShapedFor c.args.image.now _ _ _ _ _) c.in_err-m.was c.shape_for.ensures in
    rw (p.1, p.2) (start_for c.args.image.now c.args.state.now (refusal_number e) (refusal_place e) b.0, b.1)

pub returns : goal.returns
returns c =
    let h = subst (ShapedFor c.args.image.now _ _ _ _ _) c.in_ok-m.was c.shape_for.ensures in
    let filled = headed_starts c.args.image.now c.args.state.now h.0.sound c.header.result c.header.ensures in
    (h.0, h.1, start_done c.args.image.now c.args.state.now h.0.sound _ _ _ (h.1 ∙ h.0.size_is) h.0.names_are filled c.clear.ensures)
