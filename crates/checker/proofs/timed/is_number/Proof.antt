-- `checker::timed::is_number` meets its contract. Assumes nothing.
use lib.IntN.{pos}
use lib.ListN.{get_or, get_or-eq_default}
use mir.Val.{SFits}
use mir.Syntax.{w32}
use mir.Facts.{to_z-of_z}
use borrow.Author.Rules.{rules}
use Rattle.arith.specs.Values.{compares}
use Rattle.checker.proofs.timed.is_number.Statement.{statement}
use Rattle.checker.proofs.timed.is_number.Tie as tie

returns : tie.Need-returns-then-list-id
unfolding compares
returns c = rw (get_or-eq_default c.args.list.now (pos 0) c.if-list-id.true) (rw (to_z-of_z c.ranges.z) at c.is_equal.ensures)

returns-2 : tie.Need-returns
unfolding compares
returns-2 c =
    let f : SFits w32 (get_or c.args.list.now c.args.id (pos 0)) = search rules in
    rw (to_z-of_z f, to_z-of_z c.ranges.z) at c.is_equal-2.ensures

pub is_number_spec : {M : Type 1} → statement M
is_number_spec =
    tie.close
    (tie.spec (λ c κs. search rules) returns (λ c. search rules) (λ c. search rules) (λ c κs. search rules) returns-2)
