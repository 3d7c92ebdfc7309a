-- `rules::timers::timer_of` meets its contract. Assumes nothing.
use native.Mathlib.Omega.{arith}
use borrow.Author.Rules.{rules}
use borrow.Author.Tests.{eq-eqb, ne_eqb}
use Rattle.rules.proofs.Putting.{other_timer_lem, own_timer}
use Rattle.rules.proofs.timers.timer_of.Statement.{statement}
use Rattle.rules.proofs.timers.timer_of.Tie as tie

shared-slice-read-if1 : tie.Need-bounds-watched-id
shared-slice-read-if1 c = omega (arith, c.requires.0.in_watched, c.requires.1.0)

cast-if1 : tie.Need-overflow_cast-watched
cast-if1 c = record { fits = omega (arith, c.shared_slice_known-3-1.given c.args.id) }

mul-put-timer : tie.Need-offset_bounds-limits-id
mul-put-timer c = record { fits = omega (arith, c.requires.1.0, c.requires.1.1) }

shared-slice-read-put-timer : tie.Need-bounds-limits-id
shared-slice-read-put-timer c = omega (arith, c.requires.0.in_limits_lem, c.requires.1.0)

cast-put-timer : tie.Need-overflow_cast-limits
cast-put-timer c = record { fits = omega (arith, c.shared_slice_known-then-watched-id-1.given c.args.id) }

put-timer-requires : tie.Need-put_timer-t-requires
put-timer-requires c κs = (omega (arith, c.requires.1.3), omega (arith, c.requires.1.0, c.requires.1.1), omega (arith, c.requires.1.2), omega (arith, c.shared_slice_known-then-watched-id-1.given c.args.id))

ruled-requires : tie.Need-ruled-more-requires
ruled-requires c κs = omega (arith, c.requires.1.0, c.requires.1.1)

returns : tie.Need-returns-then-watched-id
returns c = own_timer _ _ _ _ _ _ _ _ (eq-eqb _ _ c.if-watched-id.true) c.put_timer-t.ensures c.ruled-more.ensures.1

pub timer_of_spec : {M : Type 1} → statement M
timer_of_spec =
    tie.close
    (tie.spec shared-slice-read-if1 cast-if1 mul-put-timer shared-slice-read-put-timer cast-put-timer put-timer-requires ruled-requires (λ c. search rules) returns (λ c. other_timer_lem _ _ _ _ _ _ _ _ (ne_eqb _ _ c.if-watched-id.false)))
