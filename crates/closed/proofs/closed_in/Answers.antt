-- The ranges stand at the front of the lent memory; the ways are the laws of Profiles and Scans.
use native.Mathlib.Omega.{arith}
use borrow.Author.Tests.{lt-ltb, le-ltb}
use Rattle.std.proofs.Common.{◌≡◌, ℕ, ◌-◌, subst, ap, ◌∙◌, length, take, drop}
use Rattle.std.proofs.lemmas.Result.{err_from_is_err_and}
use Rattle.limits.specs.Refusals.{refusal_number, refusal_place}
use Rattle.leb128.proofs.Stores.{rest_of}
use Rattle.bytecode.specs.Parts.{header_of, code_of}
use Rattle.bytecode.proofs.Limits.{cells_untimed}
use Rattle.shapes.specs.Results.{ShapedAs}
use Rattle.before.proofs.Stored.{ranges_stored}
use Rattle.closed.specs.Closed.{part_in}
use Rattle.closed.proofs.Scans.{closed_from}
use Rattle.closed.proofs.Profiles.{small_refused, small_timed}
use Rattle.closed.proofs.closed_in.Goals as goal

pub returns-in_err-m-clause-row_after : goal.returns-in_err-m-clause-row_after
unfolding part_in
returns-in_err-m-clause-row_after c =
    let p = err_from_is_err_and c.from_residual.result c.from_residual.ensures.1 in
    let e = c.in_err-m.field-0.0 in
    let r = subst (ShapedAs _ _ _ _ _) c.in_err-m.was c.shape.ensures.so in
    rw (p.1, p.2) (small_refused c.args.image.now c.args.state.now c.args.row.now _ (refusal_number e) (refusal_place e) r.0)

pub returns-then-m-clause-row_after : goal.returns-then-m-clause-row_after
unfolding part_in
returns-then-m-clause-row_after c =
    let s = subst (ShapedAs _ _ _ _ _) c.in_ok-m.was c.shape.ensures.so in
    small_timed c.args.image.now c.args.state.now c.args.row.now _ s.sound (s.timed ∙ lt-ltb c.in_ok-m.m.names c.in_ok-m.m.size c.if-m.true)

pub returns-clause-row_after : goal.returns-clause-row_after
unfolding code_of
returns-clause-row_after c =
    let s = subst (ShapedAs _ _ _ _ _) c.in_ok-m.was c.shape.ensures.so in
    let image = c.args.image.now in
    let place = c.in_ok-m.m.place in
    let untimed = s.timed ∙ le-ltb c.in_ok-m.m.names c.in_ok-m.m.size c.if-m.false in
    let cut = cells_untimed image untimed in
    let stored =
    ranges_stored (header_of image).ranges c.in_ok-m.m.names c.args.low.now c.shape.new.low c.args.high.now c.shape.new.high s.names_are
    (omega (arith, s.few, c.requires.closed_room.lows)) (omega (arith, s.few, c.requires.closed_room.highs)) (rw (← cut) s.lower) (rw (← cut) s.upper) in
    let rest : take (length image - place) (drop place image) ≡ drop (header_of image).place image = rest_of image place ∙ ap (λ (n : ℕ). drop n image) s.place_is in
    (rw rest at (c.closed_ranges.ensures.row_after (header_of image).ranges stored)) ∙ closed_from image s.sound c.args.first c.args.most untimed c.in_ok-m.m.inputs c.args.state.now c.args.row.now s.inputs_are
