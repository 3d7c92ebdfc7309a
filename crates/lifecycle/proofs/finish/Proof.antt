-- `calls::finish` meets its contract (Finishes). Assumes nothing.
use mathlib.Core.Path.{sym, subst, ◌∙◌}
use native.Mathlib.Omega.{arith}
use borrow.Author.Rules.{rules}
use Rattle.paused.proofs.Clipped.{CheckpointWithin, checkpoint_within, LayoutWithin, layout_within}
use Rattle.lifecycle.proofs.Finishes.{finish_elsewhere, finish_idle, finish_early, finish_end, finish_refused}
use Rattle.lifecycle.proofs.finish.Statement.{statement}
use Rattle.lifecycle.proofs.finish.Tie as tie

returns : tie.Need-returns-then-paused-ne-PAUSED_LENGTH
returns c = (finish_elsewhere c.args.state.now c.args.paused.now c.if-paused-ne-PAUSED_LENGTH.true, tt)

returns-2 : tie.Need-returns-then-phase-eq-NO_SCAN
returns-2 c = (finish_idle c.args.state.now c.args.paused.now c.if-paused-ne-PAUSED_LENGTH.false c.checkpoint_in-p.result c.checkpoint_in-p.ensures c.if-phase-eq-NO_SCAN.true, tt)

returns-3 : tie.Need-returns-then-phase-eq-UNDER_WAY
returns-3 c =
    (finish_early c.args.state.now c.args.paused.now c.if-paused-ne-PAUSED_LENGTH.false c.checkpoint_in-p.result c.checkpoint_in-p.ensures c.if-phase-eq-NO_SCAN.false c.if-phase-eq-UNDER_WAY.true, omega arith)

finish-ended-requires : tie.Need-finish_ended-requires
finish-ended-requires c κs =
    let v = subst CheckpointWithin (sym c.checkpoint_in-p.ensures) (checkpoint_within c.args.paused.now) in
    let w = subst LayoutWithin (sym c.layout_in-layout.ensures) (layout_within c.args.paused.now) in
    ((c.if-paused-ne-PAUSED_LENGTH.false, w.sizes), v.counts)

returns-4 : tie.Need-returns-then-phase-eq-AT_END
returns-4 c =
    let p = c.checkpoint_in-p in (
      c.finish_ended.ensures.0
          ∙ finish_end c.args.state.now c.args.paused.now c.if-paused-ne-PAUSED_LENGTH.false p.result p.ensures c.if-phase-eq-NO_SCAN.false c.if-phase-eq-UNDER_WAY.false c.if-phase-eq-AT_END.true c.layout_in-layout.result c.layout_in-layout.ensures,
      c.finish_ended.ensures.1,
    )

returns-5 : tie.Need-returns
returns-5 c =
    let p = c.checkpoint_in-p in
    let v = subst CheckpointWithin (sym p.ensures) (checkpoint_within c.args.paused.now) in (
      rw c.put.ensures (finish_refused c.args.state.now c.args.paused.now c.if-paused-ne-PAUSED_LENGTH.false p.result p.ensures c.if-phase-eq-NO_SCAN.false c.if-phase-eq-UNDER_WAY.false c.if-phase-eq-AT_END.false),
      (omega arith, v.counts),
    )

pub finish_spec : {M : Type 1} → statement M
finish_spec =
    tie.close
    (tie.spec returns (λ c κs. search rules) (λ c. search rules) returns-2 (λ c. search rules) returns-3 (λ c κs. search rules) finish-ended-requires
    (λ c. search rules) (λ c. search rules) returns-4 (λ c κs. search rules) (λ c. search rules) returns-5)
