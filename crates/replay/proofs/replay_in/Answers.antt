-- One law for a refused start, one for the rows.
use Rattle.std.proofs.Common.{subst}
use Rattle.limits.specs.Refusals.{refusal_number, refusal_place}
use Rattle.bytecode.proofs.Walk.{check_sound}
use Rattle.before.proofs.Stored.{known_front}
use Rattle.scan.specs.Inner.Parts.{StartedFor}
use Rattle.replay.specs.Replay.{rows_of}
use Rattle.replay.proofs.Starts.{known_by}
use Rattle.replay.proofs.Recorded.{replay_refused, replay_done}
use Rattle.limits.proofs.Exits.{refused_as}
use Rattle.replay.proofs.replay_in.Goals as goal

pub scan_rows-requires-clause-known_by : goal.scan_rows-requires-clause-known_by
scan_rows-requires-clause-known_by c =
    let h = subst (StartedFor c.args.image.now _ _ _ _ _ _) c.in_ok-m.was c.start_shape.ensures in
    known_by (known_front h.0 h.1 c.requires.scratch c.start_shape.auto.low c.start_shape.auto.high) h.1 _ _ c.requires.stack_limit_in_bounds c.start_shape.auto.state

pub returns-in_err-m-clause-by_index : goal.returns-in_err-m-clause-by_index
returns-in_err-m-clause-by_index c = λ buffer.
    let b = subst (StartedFor c.args.image.now c.args.state.now _ _ _ _ _) c.in_err-m.was c.start_shape.ensures in
    rw (refused_as c.from_residual.ensures) (replay_refused _ _ (rows_of c.args.cells.now c.args.lengths.now) _ _ _ _ _ _ _ b.0)

pub returns-clause-by_index : goal.returns-clause-by_index
returns-clause-by_index c = λ buffer.
    let h = subst (StartedFor c.args.image.now c.args.state.now _ _ _ _ _) c.in_ok-m.was c.start_shape.ensures in
    replay_done _ _ (rows_of c.args.cells.now c.args.lengths.now) _ _ c.args.numbers.now c.args.steps.now _ _ _ _ _ _ _ _ _ h.2 c.store-at.ensures.to_after c.store-at.ensures.value c.scan_rows.ensures

pub returns-clause-replayed_within : goal.returns-clause-replayed_within
returns-clause-replayed_within c =
    let h = subst (StartedFor c.args.image.now c.args.state.now _ _ _ _ _) c.in_ok-m.was c.start_shape.ensures in
    (check_sound c.args.image.now h.0.sound).short
