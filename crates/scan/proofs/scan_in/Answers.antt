-- 9, the header, the lengths, then the values. The ranges stand at the front of the lent memory.
use native.Mathlib.Omega.{arith}
use Rattle.std.proofs.Common.{refl, sym, ◌∙◌}
use Rattle.bytecode.proofs.SoundHeader.{header_counts}
use Rattle.checker.proofs.Checking.{too_long_lem}
use Rattle.before.proofs.Stored.{ranges_stored}
use Rattle.scan.proofs.Images.{scan_refused, scan_wrong_state, scan_wrong_row}
use Rattle.scan.proofs.Joined.{header_broken, header_known}
use Rattle.scan.proofs.scan_in.Goals as goal

pub returns-then-image-gt-IMAGE_LIMIT-clause-state_after : goal.returns-then-image-gt-IMAGE_LIMIT-clause-state_after
returns-then-image-gt-IMAGE_LIMIT-clause-state_after c =
    rw c.refused.ensures (scan_refused c.args.image.now c.args.state.now c.args.row.now 9 0 (too_long_lem _ c.if-image-gt-IMAGE_LIMIT.true))

pub returns-then-state-names-clause-state_after : goal.returns-then-state-names-clause-state_after
returns-then-state-names-clause-state_after c =
    let k = header_counts c.args.image.now c.in-Ok.ensures.so in
    c.after_check.ensures.state_after (λ s u. scan_wrong_state c.args.image.now c.args.state.now c.args.row.now s u (λ e. c.if-state-names.true (e ∙ k.names_are)))

pub returns-then-row-inputs-clause-state_after : goal.returns-then-row-inputs-clause-state_after
returns-then-row-inputs-clause-state_after c =
    let k = header_counts c.args.image.now c.in-Ok.ensures.so in
    c.after_check-then-row-inputs.ensures.state_after (λ s u. scan_wrong_row c.args.image.now c.args.state.now c.args.row.now s u (c.if-state-names.false ∙ sym k.names_are) (λ e. c.if-row-inputs.true (e ∙ k.inputs_are)))

pub scan_values-requires-clause-known_header : goal.scan_values-requires-clause-known_header
scan_values-requires-clause-known_header c =
    let h = c.in-Ok.ensures.so in
    let k = header_counts c.args.image.now h in
    let q = ranges_stored h.ranges c.in-Ok.names c.args.low.now c.header.new.low c.args.high.now c.header.new.high h.many (omega (arith, c.if-state-names.false, k.few, c.requires.lows)) (omega (arith, c.if-state-names.false, k.few, c.requires.highs)) h.lower h.upper in
    header_known c.args.image.now c.args.state.now c.args.row.now _ _ c.if-image-gt-IMAGE_LIMIT.false h refl c.if-state-names.false c.if-row-inputs.false q

pub returns-in-Err-clause-state_after : goal.returns-in-Err-clause-state_after
returns-in-Err-clause-state_after c =
    rw c.refused-in-Err.ensures (header_broken c.args.image.now c.args.state.now c.args.row.now _ c.if-image-gt-IMAGE_LIMIT.false c.in-Err.ensures.so.0)
