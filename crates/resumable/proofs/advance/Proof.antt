-- `resumable::advance` meets its contract (Advancing). Assumes nothing.
use native.Mathlib.Omega.{arith}
use borrow.Author.Rules.{rules}
use Rattle.resumable.proofs.Advancing.{advance_elsewhere, advance_idle, advance_over, advance_zero}
use Rattle.resumable.proofs.advance.Statement.{statement}
use Rattle.resumable.proofs.advance.Tie as tie

returns : tie.Need-returns-then-paused-ne-PAUSED_LENGTH
returns c = let a = c.args in (advance_elsewhere a.image.now a.steps a.paused.now c.if-paused-ne-PAUSED_LENGTH.true, tt)

returns-2 : tie.Need-returns-then-phase-eq-NO_SCAN
returns-2 c =
    let a = c.args in
    (advance_idle a.image.now a.steps a.paused.now c.if-paused-ne-PAUSED_LENGTH.false c.checkpoint_in-p.result c.checkpoint_in-p.ensures c.if-phase-eq-NO_SCAN.true, tt)

returns-3 : tie.Need-returns-then-phase-ne-UNDER_WAY
returns-3 c =
    let a = c.args in
    (advance_over a.image.now a.steps a.paused.now c.if-paused-ne-PAUSED_LENGTH.false c.checkpoint_in-p.result c.checkpoint_in-p.ensures c.if-phase-eq-NO_SCAN.false c.if-phase-ne-UNDER_WAY.true, omega arith)

returns-4 : tie.Need-returns-then-steps-eq0
returns-4 c =
    let a = c.args in
    (advance_zero a.image.now a.steps a.paused.now c.if-paused-ne-PAUSED_LENGTH.false c.checkpoint_in-p.result c.checkpoint_in-p.ensures c.if-phase-eq-NO_SCAN.false c.if-phase-ne-UNDER_WAY.false c.if-steps-eq0.true, omega arith)

pub advance_spec : {M : Type 1} → statement M
advance_spec =
    tie.close
    (tie.spec returns (λ c κs. search rules) (λ c. search rules) returns-2 (λ c. search rules) returns-3 (λ c. search rules) returns-4 (λ c κs. search rules)
    (λ c. search rules) (λ c. search rules))
