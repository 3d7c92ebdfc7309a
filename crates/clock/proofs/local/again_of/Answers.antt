use Rattle.std.proofs.Common.{◌≡◌, get_or, true, false, pos, ap, sym, ◌∙◌, rules, arith}
use Rattle.std.specs.Slice.Iter.{chunks_exact_rest, chunks_exact_size}
use mir.Syntax.{w64}
use mir.Val.{SFits}
use Rattle.clock.specs.Clock.{entries_of, repeats as repeats-of, is_again}
use Rattle.clock.proofs.Held.{same64}
use Rattle.clock.proofs.Entries.{repeats_end, repeats_here, repeats_goes, small_step, again-start}
use Rattle.clock.proofs.local.again_of.Goals as goal

pub loop-entry-init : goal.loop-entry-init
loop-entry-init c =
    let i = c.into_iter-entry-iterator.ensures.into_iter_gives in
    let e = c.chunks_exact-entry-items.ensures in
    (ap chunks_exact_size i ∙ e.size, rw (ap chunks_exact_rest i ∙ e.rest) c.requires.0, rw (ap chunks_exact_rest i ∙ e.rest) (again-start _ _))

pub repeats-requires : goal.repeats-requires
repeats-requires c =
    let o : SFits w64 (get_or c.in-Some.entry.now 1 (pos 0)) = search rules in
    let n = c.in-Some.ensures.steps in
    rw (same64 c.ranges.local, same64 o) (c.requires.1, (small_step _ _ _ n.1.0 (n.1.1 ∙ c.loop-entry.invariant.0) c.loop-entry.invariant.1).0)

pub returns-then-repeats : goal.returns-then-repeats
returns-then-repeats c =
    let f = c.ranges in
    let o : SFits w64 (get_or c.in-Some.entry.now 1 (pos 0)) = search rules in
    let t : repeats-of (entries_of c.args.table.now) c.args.utc (get_or c.in-Some.entry.now 1 (pos 0)) ≡ true =
    rw c.requires.2 at (rw (same64 f.local, same64 f.utc, same64 o) at (sym c.repeats.ensures ∙ c.if-repeats.true)) in
    let n = c.in-Some.ensures.steps in
    let e : true ≡ is_again (entries_of c.args.table.now) c.args.utc =
    sym (repeats_here _ _ _ n.1.0 (n.1.1 ∙ c.loop-entry.invariant.0) _ _ t) ∙ rw (same64 f.utc) at c.loop-entry.invariant.2 in
    rw (← e)

pub loop-entry-preserved : goal.loop-entry-preserved
loop-entry-preserved c =
    let f = c.ranges in
    let o : SFits w64 (get_or c.in-Some.entry.now 1 (pos 0)) = search rules in
    let t : repeats-of (entries_of c.args.table.now) c.args.utc (get_or c.in-Some.entry.now 1 (pos 0)) ≡ false =
    rw c.requires.2 at (rw (same64 f.local, same64 f.utc, same64 o) at (sym c.repeats.ensures ∙ c.if-repeats.false)) in
    let n = c.in-Some.ensures.steps in
    let two = n.1.1 ∙ c.loop-entry.invariant.0 in (
      n.0 ∙ c.loop-entry.invariant.0,
      (small_step _ _ _ n.1.0 two c.loop-entry.invariant.1).1,
      rw (same64 f.utc) (sym (repeats_goes _ _ _ n.1.0 two _ _ t) ∙ rw (same64 f.utc) at c.loop-entry.invariant.2),
    )

pub returns : goal.returns
returns c =
    let e : false ≡ is_again (entries_of c.args.table.now) c.args.utc =
    sym (repeats_end _ (omega (arith, c.in-None.ensures.steps.1.0, c.loop-entry.invariant.0)) _ _) ∙ rw (same64 c.ranges.utc) at c.loop-entry.invariant.2 in
    rw (← e)
