-- `machine::values::in_range` meets its contract. Assumes nothing.
use mathlib.Core.Path.{◌≡◌}
use mathlib.Core.Bool.{true, false}
use lib.Signed.{le_z}
use Rattle.arith.proofs.Laws.{same32}
use Rattle.machine.proofs.values.in_range.Statement.{statement}
use Rattle.machine.proofs.values.in_range.Tie as tie

returns : tie.Need-returns-then-low-v
returns c =
    let f = c.ranges in
    let h : le_z c.args.low c.args.v ≡ true = rw (same32 f.low, same32 f.v) at c.if-low-v.true in
    rw (h, same32 f.v, same32 f.high)

returns-2 : tie.Need-returns
returns-2 c =
    let f = c.ranges in
    let h : le_z c.args.low c.args.v ≡ false = rw (same32 f.low, same32 f.v) at c.if-low-v.false in
    rw h

pub in_range_spec : {M : Type 1} → statement M
in_range_spec = tie.close (tie.spec returns returns-2)
