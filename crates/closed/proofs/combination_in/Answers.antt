-- The ranges stand at the front of the lent memory; the ways are the laws of Profiles.
use native.Mathlib.Omega.{arith}
use borrow.Author.Tests.{lt-ltb, le-ltb}
use Rattle.std.proofs.Common.{subst, ◌∙◌}
use Rattle.std.proofs.lemmas.Result.{err_from_is_err_and}
use Rattle.limits.specs.Refusals.{refusal_number, refusal_place}
use Rattle.bytecode.specs.Parts.{header_of}
use Rattle.bytecode.proofs.Limits.{cells_untimed}
use Rattle.shapes.specs.Results.{ShapedAs}
use Rattle.before.proofs.Stored.{ranges_stored}
use Rattle.closed.specs.Closed.{combination_of}
use Rattle.closed.proofs.Profiles.{small_refused, small_timed, combination_from}
use Rattle.closed.proofs.combination_in.Goals as goal

pub returns-in_err-m-clause-row_after : goal.returns-in_err-m-clause-row_after
unfolding combination_of
returns-in_err-m-clause-row_after c =
    let p = err_from_is_err_and c.from_residual.result c.from_residual.ensures.1 in
    let e = c.in_err-m.field-0.0 in
    let r = subst (ShapedAs _ _ _ _ _) c.in_err-m.was c.shape.ensures.so in
    rw (p.1, p.2) (small_refused c.args.image.now c.args.state.now c.args.row.now _ (refusal_number e) (refusal_place e) r.0)

pub returns-then-m-clause-row_after : goal.returns-then-m-clause-row_after
unfolding combination_of
returns-then-m-clause-row_after c =
    let s = subst (ShapedAs _ _ _ _ _) c.in_ok-m.was c.shape.ensures.so in
    small_timed c.args.image.now c.args.state.now c.args.row.now _ s.sound (s.timed ∙ lt-ltb c.in_ok-m.m.names c.in_ok-m.m.size c.if-m.true)

pub returns-clause-row_after : goal.returns-clause-row_after
returns-clause-row_after c =
    let s = subst (ShapedAs _ _ _ _ _) c.in_ok-m.was c.shape.ensures.so in
    let image = c.args.image.now in
    let untimed = s.timed ∙ le-ltb c.in_ok-m.m.names c.in_ok-m.m.size c.if-m.false in
    let cut = cells_untimed image untimed in
    let stored =
    ranges_stored (header_of image).ranges c.in_ok-m.m.names c.args.low.now c.shape.new.low c.args.high.now c.shape.new.high s.names_are
    (omega (arith, s.few, c.requires.0)) (omega (arith, s.few, c.requires.1)) (rw (← cut) s.lower) (rw (← cut) s.upper) in
    c.combination_ranges.ensures.row_after (header_of image).ranges stored ∙ combination_from image c.args.state.now c.args.row.now c.args.index c.in_ok-m.m.inputs s.sound s.inputs_are untimed
