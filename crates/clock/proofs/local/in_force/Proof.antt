-- `clock::local::in_force` meets its contract. Assumes nothing.
use mathlib.Core.Path.{◌≡◌}
use mathlib.Core.Bool.{true, false}
use lib.Signed.{le_z}
use Rattle.clock.proofs.Held.{same64}
use Rattle.clock.proofs.local.in_force.Statement.{statement}
use Rattle.clock.proofs.local.in_force.Tie as tie

returns : tie.Need-returns-then-minute-utc
returns c =
    let f = c.ranges in
    let h : le_z c.args.minute c.args.utc ≡ true = rw (same64 f.minute, same64 f.utc) at c.if-minute-utc.true in
    rw (h, same64 f.offset)

returns-2 : tie.Need-returns
returns-2 c =
    let f = c.ranges in
    let h : le_z c.args.minute c.args.utc ≡ false = rw (same64 f.minute, same64 f.utc) at c.if-minute-utc.false in
    rw (h, same64 f.held)

pub in_force_spec : {M : Type 1} → statement M
in_force_spec = tie.close (tie.spec returns returns-2)
