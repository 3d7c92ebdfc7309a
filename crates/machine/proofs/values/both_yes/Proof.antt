-- `machine::values::both_yes` meets its contract. Assumes nothing.
use mathlib.Core.Bool.{true, false}
use mathlib.Core.Path.{◌≡◌, sym, ◌∙◌}
use borrow.Author.Rules.{rules}
use mir.Facts.{to_z-of_z}
use Rattle.machine.specs.Step.{yes}
use Rattle.machine.proofs.values.both_yes.Statement.{statement}
use Rattle.machine.proofs.values.both_yes.Tie as tie

returns : tie.Need-returns-then-is_yes
returns c =
    let h : yes c.args.a ≡ true = rw (to_z-of_z c.ranges.a) at (sym c.is_yes.ensures ∙ c.if-is_yes.true) in
    rw (h, c.is_yes-then-is_yes.ensures, to_z-of_z c.ranges.b)

returns-2 : tie.Need-returns
returns-2 c =
    let h : yes c.args.a ≡ false = rw (to_z-of_z c.ranges.a) at (sym c.is_yes.ensures ∙ c.if-is_yes.false) in
    rw h

pub both_yes_spec : {M : Type 1} → statement M
both_yes_spec = tie.close (tie.spec (λ c κs. search rules) (λ c κs. search rules) returns returns-2)
