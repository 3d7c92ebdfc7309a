-- `g₀` is what is left to do where the inner loop stands. Assumes nothing.
use Rattle.std.proofs.Common.{refl, ap, ◌∙◌, arith, Bool}
use mathlib.Core.Logic.{inl}
use Rattle.machine.specs.Inner.Memory.{NamedIn}
use Rattle.machine.specs.Inner.Dispatch.{registers, resting_at}
use Rattle.machine.proofs.Changes.{names_length}
use Rattle.machine.proofs.Dispatching.{timer_stops}
use Rattle.machine.proofs.Loop.{stands, passed_by, went, halted, timer_at_lem, again, rests_behind, rests_timed, stops, so_ran}
use Rattle.machine.proofs.run_untimed.Goals as goal

pub loop-done-preserved-in-loop-done-2 : goal.loop-done-preserved-in-loop-done-2
loop-done-preserved-in-loop-done-2 c =
    let g₀ = c.loop-done-2.invariant.2 _ _ _ (passed_by c.loop-done.invariant c.loop-done-test.true _ _ _ c.loop-done.passing refl c.in-Some.ensures) in
    g₀

pub loop-done-preserved : goal.loop-done-preserved
loop-done-preserved c =
    let g₀ = c.loop-done-2.invariant.2 _ _ _ (passed_by c.loop-done.invariant c.loop-done-test.true _ _ _ c.loop-done.passing refl c.in-Some.ensures) in
    g₀

pub returns-then-code-at-2 : goal.returns-then-code-at-2
returns-then-code-at-2 c =
    let g₀ = c.loop-done-2.invariant.2 _ _ _ (passed_by c.loop-done.invariant c.loop-done-test.true _ _ _ c.loop-done.passing refl c.in-Some.ensures) in
    so_ran c.resting-then-code-at-2.ensures (rests_behind g₀ _ _ (λ ns q. q.ranged) c.if-code-at-2.true)

pub dispatch-requires-clause-at_in_bounds : goal.dispatch-requires-clause-at_in_bounds
dispatch-requires-clause-at_in_bounds c =
    let g₀ = c.loop-done-2.invariant.2 _ _ _ (passed_by c.loop-done.invariant c.loop-done-test.true _ _ _ c.loop-done.passing refl c.in-Some.ensures) in
    (omega (arith, c.if-code-at-2.false), g₀.stack.few, g₀.stack.room, omega (arith, c.loop-done-2-test.true))

pub loop-done-2-preserved : goal.loop-done-2-preserved
loop-done-2-preserved c =
    let g₀ = c.loop-done-2.invariant.2 _ _ _ (passed_by c.loop-done.invariant c.loop-done-test.true _ _ _ c.loop-done.passing refl c.in-Some.ensures) in
    let g = stands g₀ c.if-passing.false in
    let d = went g _ _ c.dispatch.result c.dispatch.ensures _ _ _ _ _ c.in-On.is in (
      omega (arith, c.loop-done-2.invariant.0),
      inl (omega (arith, c.loop-done-2.invariant.0, d.some_done)),
      λ cur₁ vals₁ m f.
          let k = stands (c.loop-done-2.invariant.2 cur₁ vals₁ m f) c.if-passing.false in
          again k c.loop-done-2-test.true _ _ _ _ _ (went k _ _ c.dispatch.result c.dispatch.ensures _ _ _ _ _ c.in-On.is) c.dispatch.auto.vals c.dispatch.auto.cur,
    )

pub returns-in-Refused : goal.returns-in-Refused
returns-in-Refused c =
    let g₀ = c.loop-done-2.invariant.2 _ _ _ (passed_by c.loop-done.invariant c.loop-done-test.true _ _ _ c.loop-done.passing refl c.in-Some.ensures) in
    let g = stands g₀ c.if-passing.false in
    let d = halted g _ _ c.dispatch.result c.dispatch.ensures _ c.in-Refused.is in
    so_ran c.refused-in-Refused.ensures (stops g _ _ (λ ns q. q.ranged) c.loop-done-2-test.true _ (λ ns budget done q. d ns budget done q.ranged) _ _)

pub returns-then-prev-names : goal.returns-then-prev-names
returns-then-prev-names c =
    let a = c.args in
    let g₀ = c.loop-done-2.invariant.2 _ _ _ (passed_by c.loop-done.invariant c.loop-done-test.true _ _ _ c.loop-done.passing refl c.in-Some.ensures) in
    let g = stands g₀ c.if-passing.false in
    let t = timer_at_lem g _ _ c.dispatch.result c.dispatch.ensures c.in-Timed.is in
    so_ran c.refused-then-prev-names.ensures (stops g _ _ (λ ns q. q.ranged) c.loop-done-2-test.true _
    (timer_stops a.code.now (NamedIn a.low.now a.high.now a.names) a.prev.now c.loop-done-2.at _ _ _ (omega (arith, c.if-code-at-2.false)) t.byte t.acting (λ ns q. omega (arith, names_length ns.ranges a.low.now a.high.now q.ranged, q.named, g.named.previous, c.if-prev-names.true))) _ _)

pub returns-in-Timed : goal.returns-in-Timed
returns-in-Timed c =
    let g₀ = c.loop-done-2.invariant.2 _ _ _ (passed_by c.loop-done.invariant c.loop-done-test.true _ _ _ c.loop-done.passing refl c.in-Some.ensures) in
    let g = stands g₀ c.if-passing.false in
    let t = timer_at_lem g _ _ c.dispatch.result c.dispatch.ensures c.in-Timed.is in
    so_ran (c.resting-in-Timed.ensures ∙ ap (λ (b : Bool). resting_at c.loop-done-2.done c.loop-done-2.at (registers c.loop-done-2.held c.loop-done-2.picked b)) c.if-passing.false) (rests_timed g _ _ (λ ns q. q.ranged) _ _ t c.if-prev-names.false)
