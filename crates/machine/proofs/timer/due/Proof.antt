-- `machine::timer::due` meets its contract. Assumes nothing.
use mathlib.Core.Path.{◌≡◌, sym, ◌∙◌}
use mathlib.Core.Bool.{true, false}
use lib.IntN.{pos}
use borrow.Author.Tests.{eq-eqb, ne_eqb}
use mir.Facts.{to_z-of_z}
use Rattle.arith.specs.Values.{eq_z, compares}
use Rattle.semantics.specs.Shape.{due}
use borrow.Author.Rules.{rules}
use Rattle.machine.proofs.timer.due.Statement.{statement}
use Rattle.machine.proofs.timer.due.Tie as tie

returns : tie.Need-returns-then-e-n
unfolding compares due
returns c =
    let a = c.args in
    let e : eq_z a.now (pos 1) ≡ true = rw (to_z-of_z c.ranges.now) at (sym c.is_equal.ensures ∙ c.if-is_equal.true) in
    rw (e, eq-eqb a.e a.n c.if-e-n.true)

returns-2 : tie.Need-returns-else-e-n
unfolding compares due
returns-2 c =
    let a = c.args in
    let e : eq_z a.now (pos 1) ≡ true = rw (to_z-of_z c.ranges.now) at (sym c.is_equal.ensures ∙ c.if-is_equal.true) in
    rw (e, ne_eqb a.e a.n c.if-e-n.false)

returns-3 : tie.Need-returns-else-is_equal
unfolding compares due
returns-3 c =
    let e : eq_z c.args.now (pos 1) ≡ false = rw (to_z-of_z c.ranges.now) at (sym c.is_equal.ensures ∙ c.if-is_equal.false) in
    rw e

pub due_spec : {M : Type 1} → statement M
due_spec = tie.close (tie.spec (λ c κs. search rules) returns returns-2 returns-3)
