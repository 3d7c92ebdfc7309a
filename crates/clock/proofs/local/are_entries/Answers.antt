use Rattle.std.proofs.Common.{get_or, pos, ap, sym, ◌∙◌, rules, arith}
use Rattle.std.specs.Slice.Iter.{chunks_exact_rest, chunks_exact_size}
use mir.Syntax.{w64}
use mir.Val.{SFits}
use Rattle.clock.specs.Clock.{entries_of, entries_fit}
use Rattle.clock.proofs.Held.{same64}
use Rattle.clock.proofs.Entries.{fit_end, fit_stops, fit_goes}
use Rattle.clock.proofs.local.are_entries.Goals as goal

pub loop-entry-init : goal.loop-entry-init
loop-entry-init c =
    let i = c.into_iter-entry-iterator.ensures.into_iter_gives in
    let e = c.chunks_exact-entry-items.ensures in
    (ap chunks_exact_size i ∙ e.size, ap (λ l. entries_fit _ (entries_of l)) (ap chunks_exact_rest i ∙ e.rest))

pub returns-then-not-is_entry : goal.returns-then-not-is_entry
returns-then-not-is_entry c =
    let m : SFits w64 (get_or c.in-Some.entry.now 0 (pos 0)) = search rules in
    let o : SFits w64 (get_or c.in-Some.entry.now 1 (pos 0)) = search rules in
    let n = c.in-Some.ensures.steps in
    sym (fit_stops _ _ _ n.1.0 (n.1.1 ∙ c.loop-entry.invariant.0) _ (rw (same64 m, same64 o) at (sym c.is_entry.ensures ∙ c.if-not-is_entry.true))) ∙ c.loop-entry.invariant.1

pub loop-entry-preserved : goal.loop-entry-preserved
loop-entry-preserved c =
    let m : SFits w64 (get_or c.in-Some.entry.now 0 (pos 0)) = search rules in
    let o : SFits w64 (get_or c.in-Some.entry.now 1 (pos 0)) = search rules in
    let n = c.in-Some.ensures.steps in
    (n.0 ∙ c.loop-entry.invariant.0, rw (same64 m) (sym (fit_goes _ _ _ n.1.0 (n.1.1 ∙ c.loop-entry.invariant.0) _ (rw (same64 m, same64 o) at (sym c.is_entry.ensures ∙ c.if-not-is_entry.false))) ∙ c.loop-entry.invariant.1))

pub returns : goal.returns
returns c = sym (fit_end _ (omega (arith, c.in-None.ensures.steps.1.0, c.loop-entry.invariant.0)) _) ∙ c.loop-entry.invariant.1
