-- Each part is fed and written behind the earlier ones; at the end of the input all of it was.
use Rattle.std.proofs.Common.{rules, [], ◌++◌, List, ℕ, subst, take, ◌≡◌}
use mathlib.Core.Path.{ap, ◌∙◌}
use native.Mathlib.Omega.{arith}
use Rattle.std.proofs.KnownBytes.{Appends-nil, Appends-trans, Consumes-nil, Consumes-trans}
use Rattle.std.specs.Io.KnownBytes.{Appends}
use Rattle.tracer.specs.Session.{session_of, fed_over, put_over, at_end}
use Rattle.trace.proofs.Parts.{fed_behind, put_behind}
use Rattle.trace.proofs.Whole.{start, read_none, written}
use Rattle.trace.proofs.trace_input.Goals as goal

pub loop-init : goal.loop-init
unfolding fed_over put_over
loop-init g c = (
  [],
  Consumes-nil _,
  ap (λ t. session_of t c.args.text.now c.args.image.now c.args.state.now c.args.cells.now) c.begin-s.ensures,
  Appends-nil _,
)

pub returns-then-end-eq0 : goal.returns-then-end-eq0
returns-then-end-eq0 g c = λ e.
    let held = c.loop.invariant in
    let none : c.in_ok-end.end ≡ 0 = search rules in
    let ended = c.finish-put.ensures.out_after ∙ ap (λ s. at_end s) held.2 in
    written (g.R.Read.remaining c.args.input.now) (g.R.Read.remaining c.read_part.new.input) held.0 c.args.cells.now
    (g.W.Write.contents c.args.output.now) (g.W.Write.contents c.flush.new.output)
    (read_none (g.R.Read.remaining c.args.input.now) (g.R.Read.remaining c.loop.input) (g.R.Read.remaining c.read_part.new.input) held.0 c.read_part.new.part held.1 none c.in_ok-end.ensures.bytes)
    (c.in_ok-end.ensures.at_end none) (omega (arith, c.told-cells))
    (subst (Appends (g.W.Write.contents c.args.output.now) (g.W.Write.contents c.flush.new.output))
    (ap (λ (x : List ℕ). put_over (start c.args.cells.now) held.0 ++ x) ended)
    (Appends-trans (g.W.Write.contents c.args.output.now) (g.W.Write.contents c.loop.output) (g.W.Write.contents c.flush.new.output) _ _ held.3 c.in_ok-flush.ensures))

pub loop-preserved : goal.loop-preserved
loop-preserved g c =
    let held = c.loop.invariant in
    let part = take c.in_ok-end.end c.read_part.new.part in (
      held.0 ++ part,
      Consumes-trans (g.R.Read.remaining c.args.input.now) (g.R.Read.remaining c.loop.input) (g.R.Read.remaining c.read_part.new.input) held.0 part held.1 c.in_ok-end.ensures.bytes,
      fed_behind (start c.args.cells.now) held.0 part held.2 c.in_ok-s.ensures.session,
      subst (Appends (g.W.Write.contents c.args.output.now) (g.W.Write.contents c.trace_part.new.output))
          (put_behind (start c.args.cells.now) held.0 part held.2)
          (Appends-trans (g.W.Write.contents c.args.output.now) (g.W.Write.contents c.loop.output) (g.W.Write.contents c.trace_part.new.output) _ _ held.3 c.in_ok-s.ensures.output),
    )
