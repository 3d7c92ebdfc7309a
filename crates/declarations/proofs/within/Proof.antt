-- `declarations::within` meets its contract. Assumes nothing.
use mathlib.Core.Path.{◌≡◌}
use mathlib.Core.Bool.{true, false}
use lib.Signed.{le_z}
use mir.Syntax.{w32, w64}
use mir.Val.{SFits}
use mir.Facts.{to_z-of_z}
use Rattle.arith.proofs.Laws.{widens, widened, narrowed32}
use Rattle.grammar.specs.Declarations.{in_range}
use Rattle.declarations.proofs.Numbers.{between}
use Rattle.declarations.proofs.within.Statement.{statement}
use Rattle.declarations.proofs.within.Tie as tie

cast-if2 : tie.Need-overflow_cast-high
cast-if2 c = widens c.ranges.high

-- the tests, of the numbers themselves
above : (c : tie.Then-low-z) → le_z c.args.low c.args.z ≡ true
above c = rw (widened c.ranges.low, to_z-of_z {w = w64} c.ranges.z) at c.if-low-z.true

below : (c : tie.Then-z-high) → le_z c.args.z c.args.high ≡ true
below c = rw (widened c.ranges.high, to_z-of_z {w = w64} c.ranges.z) at c.if-z-high.true

fits : (c : tie.Then-z-high) → SFits w32 c.args.z
fits c = between _ _ _ (above c.before) (below c) c.ranges.low c.ranges.high

cast-t8 : tie.Need-overflow_cast-result
cast-t8 c = rw (to_z-of_z {w = w64} c.ranges.z) (fits c)

returns : tie.Need-returns-then-z-high
unfolding in_range
returns c = rw (narrowed32 (fits c) c.ranges.z, above c.before, below c)

returns-2 : tie.Need-returns-else-z-high
unfolding in_range
returns-2 c =
    let q : le_z c.args.z c.args.high ≡ false = rw (widened c.ranges.high, to_z-of_z {w = w64} c.ranges.z) at c.if-z-high.false in
    rw (above c.before, q)

returns-3 : tie.Need-returns-else-low-z
unfolding in_range
returns-3 c =
    let q : le_z c.args.low c.args.z ≡ false = rw (widened c.ranges.low, to_z-of_z {w = w64} c.ranges.z) at c.if-low-z.false in
    rw q

pub within_spec : {M : Type 1} → statement M
within_spec = tie.close (tie.spec (λ c. widens c.ranges.low) cast-if2 cast-t8 returns returns-2 returns-3)
