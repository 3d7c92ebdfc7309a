-- `resumable::timed_in` meets its contract. Assumes nothing.
use mathlib.Core.Path.{sym, ap, subst, ◌∙◌}
use native.Mathlib.Omega.{arith}
use borrow.Author.Rules.{rules}
use lib.Seq.{length-take-le}
use Rattle.paused.proofs.Clipped.{LayoutWithin, layout_within}
use Rattle.resumable.specs.Instalment.{instalment}
use Rattle.resumable.proofs.timed_in.Statement.{statement}
use Rattle.resumable.proofs.timed_in.Tie as tie

slice-relend-prefix-advance-by : tie.Need-slice_bounds-advance_by-end
slice-relend-prefix-advance-by c =
    let w = subst LayoutWithin (sym c.layout_in-layout.ensures) (layout_within c.args.memory.now) in
    omega (arith, w.sizes, c.requires.0.0)

slice-aggregate-advance-by : tie.Need-slice_bounds-advance_by-end-2
slice-aggregate-advance-by c =
    let w = subst LayoutWithin (sym c.layout_in-layout.ensures) (layout_within c.args.memory.now) in
    sym (length-take-le c.layout_in-layout.result.size c.args.cur.now (omega (arith, w.sizes, c.requires.0.0)))

advance-by-requires : tie.Need-advance_by-requires
advance-by-requires c κs =
    let w = subst LayoutWithin (sym c.layout_in-layout.ensures) (layout_within c.args.memory.now) in
    let p = c.requires in (
      record {
        cells = p.1.0.cells;
        few = w.sizes;
        current = length-take-le c.layout_in-layout.result.size c.args.cur.now (omega (arith, w.sizes, p.0.0));
        room = p.0.1;
        held = p.1.0.held;
      },
      p.1.1,
    )

returns : tie.Need-returns
returns c =
    let a = c.args in
    (c.advance_by.ensures.0 ∙ ap (λ f. instalment a.code.now a.n a.memory.now a.p f) c.layout_in-layout.ensures, c.advance_by.ensures.1)

pub timed_in_spec : {M : Type 1} → statement M
timed_in_spec =
    tie.close
    (tie.spec (λ c κs. search rules) slice-relend-prefix-advance-by slice-aggregate-advance-by advance-by-requires (λ c. search rules) (λ c. search rules)
    (λ c. search rules) returns)
