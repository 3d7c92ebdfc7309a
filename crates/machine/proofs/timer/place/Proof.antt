-- `machine::timer::place` meets its contract. Assumes nothing.
use mathlib.Core.Path.{sym}
use native.Mathlib.Omega.{arith}
use Rattle.machine.proofs.Timers.{place_below, place_over}
use borrow.Author.Rules.{rules}
use Rattle.machine.proofs.timer.place.Statement.{statement}
use Rattle.machine.proofs.timer.place.Tie as tie

add-result : tie.Need-overflow_add-result
add-result c = record { fits = omega (arith, c.requires, c.if-t-names.true, c.count_below.ensures.1) }

returns : tie.Need-returns-then-t-names
returns c =
    let k = c.args.timing in
    rw c.count_below.ensures.0 (sym (place_below k.names k.timers c.args.t c.if-t-names.true))

add-result-2 : tie.Need-overflow_add-result-2
add-result-2 c = record { fits = omega (arith, c.requires, c.count_below-2.ensures.1) }

returns-2 : tie.Need-returns
returns-2 c =
    let k = c.args.timing in
    rw c.count_below-2.ensures.0 (sym (place_over k.names k.timers c.args.t c.if-t-names.false))

pub place_spec : {M : Type 1} → statement M
place_spec = tie.close (tie.spec (λ c κs. search rules) add-result returns (λ c κs. search rules) add-result-2 returns-2)
