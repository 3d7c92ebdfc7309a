-- `lifecycle::begin` meets its contract: without a row nothing moves. Assumes nothing.
use mathlib.Core.Path.{sym, ap, ◌∙◌}
use native.Mathlib.Omega.{arith}
use Rattle.paused.specs.declared.Checkpoint.{Checkpoint}
use Rattle.lifecycle.proofs.Begins.{begin_elsewhere, begin_early, begin_idle}
use borrow.Author.Rules.{rules}
use Rattle.lifecycle.proofs.begin.Statement.{statement}
use Rattle.lifecycle.proofs.begin.Tie as tie

returns : tie.Need-returns-then-paused-ne-PAUSED_LENGTH
returns c = (begin_elsewhere c.args.image.now c.args.state.now c.args.paused.now c.if-paused-ne-PAUSED_LENGTH.true, tt)

returns-2 : tie.Need-returns-then-phase-ne-NO_SCAN
returns-2 c = (begin_early c.args.image.now c.args.state.now c.args.paused.now c.if-paused-ne-PAUSED_LENGTH.false c.checkpoint_in-p.result c.checkpoint_in-p.ensures c.if-phase-ne-NO_SCAN.true, omega arith)

returns-3 : tie.Need-returns-then-w-eq0
returns-3 c =
    (begin_idle c.args.image.now c.args.state.now c.args.paused.now c.if-paused-ne-PAUSED_LENGTH.false c.checkpoint_in-p.result c.checkpoint_in-p.ensures c.if-phase-ne-NO_SCAN.false c.waiting-w.result c.waiting-w.ensures c.if-w-eq0.true, tt)

begin-row-requires : tie.Need-begin_row-requires
begin-row-requires c κs = record { sized = c.if-paused-ne-PAUSED_LENGTH.false; no_scan = sym (ap (λ (p : Checkpoint). p.phase) c.checkpoint_in-p.ensures) ∙ c.if-phase-ne-NO_SCAN.false; waits = c.waiting-w.ensures; some = c.if-w-eq0.false }

pub begin_spec : {M : Type 1} → statement M
begin_spec =
    tie.close
    (tie.spec returns (λ c κs. search rules) (λ c. search rules) returns-2 (λ c κs. search rules) (λ c. search rules) returns-3 begin-row-requires (λ c. search rules) (λ c. search rules))
