-- The ways are the laws of Posts.
use Rattle.std.proofs.Common.{◌≡◌, ◌∙◌, subst}
use Rattle.limits.specs.Refusals.{refusal_number, refusal_place}
use Rattle.semantics.specs.Shape.{row_length}
use Rattle.bytecode.specs.Parts.{shape_in}
use Rattle.shapes.specs.Results.{ShapedAs}
use Rattle.lifecycle.proofs.Posts.{post_elsewhere, post_refused, post_sound}
use Rattle.lifecycle.proofs.Rows.{row_most}
use Rattle.lifecycle.proofs.post.Goals as goal

pub returns-then-paused-ne-PAUSED_LENGTH-clause-paused_after : goal.returns-then-paused-ne-PAUSED_LENGTH-clause-paused_after
returns-then-paused-ne-PAUSED_LENGTH-clause-paused_after c = post_elsewhere c.args.image.now c.args.row.now c.args.paused.now c.if-paused-ne-PAUSED_LENGTH.true

pub post_row-requires : goal.post_row-requires
post_row-requires c =
    let y = subst (ShapedAs c.args.image.now _ _ _ _) c.in-Ok.is c.shape.ensures.so in
    let l : c.row_length.result ≡ row_length (shape_in c.args.image.now) = c.row_length.ensures ∙ rw (y.timed, y.inputs_are) in
    (c.if-paused-ne-PAUSED_LENGTH.false, rw l (row_most c.args.image.now y.sound))

pub returns-in-Err-clause-paused_after : goal.returns-in-Err-clause-paused_after
returns-in-Err-clause-paused_after c =
    let y = subst (ShapedAs c.args.image.now _ _ _ _) c.in-Err.is c.shape.ensures.so in
    rw (c.number.ensures, c.place.ensures) (post_refused c.args.image.now c.args.row.now c.args.paused.now c.if-paused-ne-PAUSED_LENGTH.false (refusal_number c.in-Err.e) (refusal_place c.in-Err.e) y.0)

pub returns-in-Ok-clause-paused_after : goal.returns-in-Ok-clause-paused_after
returns-in-Ok-clause-paused_after c =
    let y = subst (ShapedAs c.args.image.now _ _ _ _) c.in-Ok.is c.shape.ensures.so in
    let l : c.row_length.result ≡ row_length (shape_in c.args.image.now) = c.row_length.ensures ∙ rw (y.timed, y.inputs_are) in
    c.post_row.ensures.memory_after ∙ post_sound c.args.image.now c.args.row.now c.args.paused.now c.if-paused-ne-PAUSED_LENGTH.false y.sound c.row_length.result l
