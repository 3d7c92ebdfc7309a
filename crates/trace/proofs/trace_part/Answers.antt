-- What a call takes of the rest lies in the part, and what it puts out comes behind what stands written.
use Rattle.std.proofs.Common.{rules, subst}
use mathlib.Core.Path.{refl}
use Rattle.std.proofs.KnownBytes.{Appends-nil, Appends-trans}
use Rattle.std.specs.Io.KnownBytes.{Appends}
use Rattle.tracer.specs.Session.{session_of, fed_over, put_over}
use Rattle.trace.proofs.Parts.{taken_inside, fed_further, put_further}
use Rattle.trace.proofs.trace_part.Goals as goal

pub loop-at-init : goal.loop-at-init
unfolding fed_over put_over
loop-at-init g c = (search rules, refl, Appends-nil _)

pub loop-at-preserved : goal.loop-at-preserved
loop-at-preserved g c =
    let part = c.args.part.now in
    let at = c.loop-at.at in
    let before = session_of c.args.first c.args.text.now c.args.image.now c.args.state.now c.args.cells.now in
    let held = c.loop-at.invariant in (
      taken_inside part at held.0 c.feed-fed.ensures.within,
      fed_further part at before c.feed-fed.result.taken held.1 c.feed-fed.ensures.session,
      subst (Appends (g.W.Write.contents c.args.output.now) (g.W.Write.contents c.flush.new.output))
          (put_further part at before c.feed-fed.result.taken held.1 c.feed-fed.ensures.output)
          (Appends-trans (g.W.Write.contents c.args.output.now) (g.W.Write.contents c.loop-at.output) (g.W.Write.contents c.flush.new.output) _ _ held.2 (c.in_ok-flush.ensures)),
    )
