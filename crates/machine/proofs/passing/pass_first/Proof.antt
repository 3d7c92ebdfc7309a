-- `machine::passing::pass_first` meets its contract. Assumes nothing.
use mathlib.Core.Path.{refl}
use borrow.Author.Rules.{rules}
use Rattle.machine.proofs.passing.pass_first.Statement.{statement}
use Rattle.machine.proofs.passing.pass_first.Tie as tie

returns : tie.Need-returns-then-passing
returns c = rw c.if-passing.true c.pass_on.ensures

pub pass_first_spec : {M : Type 1} → statement M
pass_first_spec = tie.close (tie.spec (λ c κs. search rules) returns (λ c. rw c.if-passing.false (refl, refl, refl)))
