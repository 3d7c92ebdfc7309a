-- The tests before the code, then the code.
use native.Mathlib.Omega.{arith}
use Rattle.std.proofs.Common.{◌≡◌, sym, ap, subst, ◌∙◌}
use Rattle.limits.specs.Answer.{accepted}
use Rattle.limits.specs.Refusals.{refusal_number, refusal_place, judged_by}
use Rattle.leb128.proofs.Stores.{rest_of}
use Rattle.semantics.specs.Shape.{setting_of}
use Rattle.bytecode.specs.Parts.{shape_in}
use Rattle.before.specs.Before.{before_code}
use Rattle.before.specs.Inner.Known.{PreparedBy}
use Rattle.before.proofs.Begins.{before_rest}
use Rattle.scan.proofs.Scans.{tests_refuse, tests_pass, within_image}
use Rattle.scan.proofs.scan_known.Goals as goal

pub returns-in-Err-clause-state_after : goal.returns-in-Err-clause-state_after
returns-in-Err-clause-state_after c =
    let k = c.requires.known_image in
    let image = c.args.image.now in
    let state = c.args.state.now in
    let row = c.args.row.now in
    rw c.refused.ensures
    (tests_refuse image state row (refusal_number c.in-Err.e) (refusal_place c.in-Err.e) (sym (ap judged_by c.in-Err.is) ∙ c.before_known.ensures.result_value (shape_in image) k.shape ∙ before_rest image state row k.sound k.numbers))

pub returns-in-Err-clause-scanned_within : goal.returns-in-Err-clause-scanned_within
returns-in-Err-clause-scanned_within c =
    let k = c.requires.known_image in
    let p : refusal_place c.in-Err.e ≡ 0 = subst (PreparedBy (shape_in c.args.image.now) c.args.m c.args.state.now c.args.row.now c.before_known.new.work) c.in-Err.is (c.before_known.ensures.prepared_by (shape_in c.args.image.now) k.shape) in
    rw c.refused.ensures (omega arith, omega arith)

pub returns-in-Ok-clause-state_after : goal.returns-in-Ok-clause-state_after
returns-in-Ok-clause-state_after c =
    let k = c.requires.known_image in
    let image = c.args.image.now in
    let place = c.args.m.place in
    let state = c.args.state.now in
    let row = c.args.row.now in
    let x = (subst (PreparedBy (shape_in image) c.args.m state row c.before_known.new.work) c.in-Ok.is (c.before_known.ensures.prepared_by (shape_in image) k.shape)).1 in
    let passes : accepted tt ≡ before_code image state row = sym (ap judged_by c.in-Ok.is) ∙ c.before_known.ensures.result_value (shape_in image) k.shape ∙ before_rest image state row k.sound k.numbers in
    (rw (rest_of image place) at (c.run_over.ensures.state_after (setting_of (shape_in image) row) k.shape.ranges x.timed)) ∙ tests_pass image state row passes place _ k.code x.copied

pub returns-in-Ok-clause-scanned_within : goal.returns-in-Ok-clause-scanned_within
returns-in-Ok-clause-scanned_within c =
    within_image c.args.image.now c.args.m.place c.requires.known_image.sound c.run_over.result (rw (rest_of c.args.image.now c.args.m.place) at c.run_over.ensures.scanned_within)
