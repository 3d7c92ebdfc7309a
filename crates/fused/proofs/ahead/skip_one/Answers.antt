-- `fused::ahead::skip_one` meets its contract: each way out that passes over is the instruction of its code byte. Assumes nothing.
use mathlib.Core.Path.{sym, ◌∙◌}
use native.Mathlib.Omega.{arith}
use Rattle.fused.proofs.Skipping.{operation_skips, constant_skips, previous_skips, current_skips}
use Rattle.fused.proofs.ahead.skip_one.Goals as goal

pub returns-then-byte-gt3 : goal.returns-then-byte-gt3
returns-then-byte-gt3 c = operation_skips c.args.w c.requires.2 c.args.code.now c.args.held c.args.at c.requires.1 c.requires.3 (omega (arith, c.if-byte-gt3.true)) (omega (arith, c.if-byte-gt8.false)) (omega (arith, c.if-held-lt2.false))

pub returns-then-byte-eq1 : goal.returns-then-byte-eq1
returns-then-byte-eq1 c =
    constant_skips c.args.w c.requires.2 c.args.code.now c.args.held c.args.at c.requires.1 c.requires.3 c.in_ok-n.n c.in_ok-n.next (sym c.in_ok-n.ensures) (omega (arith, c.if-held.false)) c.if-byte-eq1.true

pub returns-then-byte-eq3 : goal.returns-then-byte-eq3
returns-then-byte-eq3 c =
    previous_skips c.args.w c.requires.2 c.args.code.now c.args.held c.args.at c.requires.1 c.requires.3 c.in_ok-n.n c.in_ok-n.next (sym c.in_ok-n.ensures) (omega (arith, c.if-held.false)) c.if-byte-eq3.true (omega (arith, c.if-w-n.false))

pub returns-then-is_known : goal.returns-then-is_known
returns-then-is_known c =
    current_skips c.args.w c.requires.2 c.args.code.now c.args.held c.args.at c.requires.1 c.requires.3 c.in_ok-n.n c.in_ok-n.next (sym c.in_ok-n.ensures) (omega (arith, c.if-held.false)) (omega (arith, c.if-byte-gt3.false, c.if-byte-eq0.false, c.if-byte-eq1.false, c.if-byte-eq3.false)) (sym c.is_known.ensures ∙ c.if-is_known.true)
