-- The shape, then the scan of an image known to be sound.
use Rattle.std.proofs.Common.{subst}
use Rattle.limits.specs.Refusals.{refusal_number, refusal_place}
use Rattle.before.specs.Inner.Known.{ShapedFor}
use Rattle.before.proofs.Stored.{known_front}
use Rattle.before.proofs.Begins.{before_for}
use Rattle.scan.proofs.Scans.{tests_refuse}
use Rattle.scan.proofs.scan_begun.Goals as goal

pub scan_known-requires-clause-known_image : goal.scan_known-requires-clause-known_image
scan_known-requires-clause-known_image c =
    let h = subst (ShapedFor c.args.image.now _ _ _ _ _) c.in-Ok.is c.shape_for.ensures in
    (known_front h.0 h.1 c.requires.scratch c.shape_for.auto.low c.shape_for.auto.high).known

pub returns-in-Err-clause-state_after : goal.returns-in-Err-clause-state_after
returns-in-Err-clause-state_after c =
    let e = c.in-Err.e in
    let b = subst (ShapedFor c.args.image.now _ _ _ _ _) c.in-Err.is c.shape_for.ensures in
    rw c.refused.ensures (tests_refuse c.args.image.now c.args.state.now c.args.row.now (refusal_number e) (refusal_place e) (before_for c.args.image.now c.args.state.now c.args.row.now (refusal_number e) (refusal_place e) b.0))
