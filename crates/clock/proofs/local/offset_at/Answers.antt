use Rattle.std.proofs.Common.{◌≡◌, get_or, pos, ap, sym, ◌∙◌, rules, arith}
use Rattle.std.specs.Slice.Iter.{chunks_exact_rest, chunks_exact_size}
use mir.Syntax.{w64}
use mir.Val.{SFits}
use Rattle.clock.proofs.Held.{same64}
use Rattle.clock.proofs.Entries.{offset_end, offset_goes, offset_start}
use Rattle.clock.proofs.local.offset_at.Goals as goal

pub loop-entry-init : goal.loop-entry-init
loop-entry-init c =
    let i = c.into_iter-entry-iterator.ensures.into_iter_gives in
    let e = c.chunks_exact-entry-items.ensures in
    let f : SFits w64 c.unwrap_or-held.result = record { sfits = c.unwrap_or-held.type_inv } in
    let u : c.unwrap_or-held.result ≡ get_or c.args.table.now 1 (pos 0) = search rules in
    (ap chunks_exact_size i ∙ e.size, rw (same64 f, u, ap chunks_exact_rest i ∙ e.rest) (offset_start c.args.table.now _))

pub loop-entry-preserved : goal.loop-entry-preserved
loop-entry-preserved c =
    let f : SFits w64 c.in_force-held.result = record { sfits = c.in_force-held.type_inv } in
    let m : SFits w64 (get_or c.in-Some.entry.now 0 (pos 0)) = search rules in
    let o : SFits w64 (get_or c.in-Some.entry.now 1 (pos 0)) = search rules in
    let n = c.in-Some.ensures.steps in
    (n.0 ∙ c.loop-entry.invariant.0, rw (same64 f, c.in_force-held.ensures, same64 m, same64 o) (sym (offset_goes _ _ _ n.1.0 (n.1.1 ∙ c.loop-entry.invariant.0) _ _) ∙ c.loop-entry.invariant.1))

pub returns : goal.returns
returns c = sym (offset_end _ (omega (arith, c.in-None.ensures.steps.1.0, c.loop-entry.invariant.0)) _ _) ∙ rw (same64 c.ranges.utc) at c.loop-entry.invariant.1
