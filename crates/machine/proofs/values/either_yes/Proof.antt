-- `machine::values::either_yes` meets its contract. Assumes nothing.
use mathlib.Core.Bool.{true, false}
use mathlib.Core.Path.{◌≡◌, sym, ◌∙◌}
use borrow.Author.Rules.{rules}
use mir.Facts.{to_z-of_z}
use Rattle.machine.specs.Step.{yes}
use Rattle.machine.proofs.values.either_yes.Statement.{statement}
use Rattle.machine.proofs.values.either_yes.Tie as tie

returns : tie.Need-returns-then-is_yes
returns c =
    let h : yes c.args.a ≡ true = rw (to_z-of_z c.ranges.a) at (sym c.is_yes.ensures ∙ c.if-is_yes.true) in
    rw h

returns-2 : tie.Need-returns
returns-2 c =
    let h : yes c.args.a ≡ false = rw (to_z-of_z c.ranges.a) at (sym c.is_yes.ensures ∙ c.if-is_yes.false) in
    rw (h, c.is_yes-2.ensures, to_z-of_z c.ranges.b)

pub either_yes_spec : {M : Type 1} → statement M
either_yes_spec = tie.close (tie.spec (λ c κs. search rules) returns (λ c κs. search rules) returns-2)
