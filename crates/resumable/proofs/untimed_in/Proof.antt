-- `resumable::untimed_in` meets its contract. Assumes nothing.
use mathlib.Core.Path.{sym}
use native.Mathlib.Omega.{arith}
use borrow.Author.Rules.{rules}
use lib.Seq.{length-take-le}
use Rattle.resumable.proofs.untimed_in.Statement.{statement}
use Rattle.resumable.proofs.untimed_in.Tie as tie

slice-aggregate-advance-untimed-by : tie.Need-slice_bounds-advance_untimed_by-end-2
slice-aggregate-advance-untimed-by c =
    let a = c.args in
    let p = c.requires in
    sym (length-take-le a.layout.size a.cur.now (omega (arith, p.0.0, p.1.1.1.1)))

advance-untimed-by-requires : tie.Need-advance_untimed_by-requires
advance-untimed-by-requires c κs =
    let a = c.args in
    let p = c.requires in (
      record {
        cells = p.1.0.cells;
        few = omega (arith, p.1.1.1.1);
        current = length-take-le a.layout.size a.cur.now (omega (arith, p.0.0, p.1.1.1.1));
        room = p.0.1;
        held = p.1.0.held;
      },
      (p.1.1.0, p.1.1.1.0),
    )

pub untimed_in_spec : {M : Type 1} → statement M
untimed_in_spec =
    tie.close
    (tie.spec (λ c. search rules) slice-aggregate-advance-untimed-by advance-untimed-by-requires (λ c. search rules) (λ c. search rules) (λ c. search rules)
    (λ c. search rules))
