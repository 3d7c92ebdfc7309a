-- `leb128::zigzag` meets its contract. Each arm has one equation from what the code reads to a natural number; the rest is arithmetic.
-- Assumes nothing.
use mathlib.Core.Path.{◌≡◌, ap, ◌∙◌}
use Prim.Native.Nat.{◌+◌, ◌*◌}
use native.Mathlib.Omega.{arith}
use lib.IntN.{ℤ, pos, negsuc, ◌-ℤ◌}
use lib.Signed.{mag}
use mir.Syntax.{w32}
use mir.Val.{SFits, to_z, of_z}
use Rattle.arith.proofs.Laws.{same32}
use Rattle.leb128.specs.Numbers.{zigzag as zigzagOf}
use Rattle.arith.proofs.Signs.{not_below, is_below}
use Rattle.leb128.proofs.Signs.{mirror_negsuc}
use Rattle.leb128.proofs.zigzag.Statement.{statement}
use Rattle.leb128.proofs.zigzag.Tie as tie

-- z ≥ 0: what is read is the number n = z
at_pos : (c : tie.Then-z-ge0) → c.args.z ≡ pos (mag c.args.z)
at_pos c = not_below _ (rw (same32 c.ranges.z) at c.if-z-ge0.true)

read : (c : tie.Then-z-ge0) → to_z w32 (of_z w32 c.args.z) ≡ pos (mag c.args.z)
read c = same32 c.ranges.z ∙ at_pos c

-- z < 0: what is read of -1 - z is the number n with z = -(n + 1)
at_neg : (c : tie.Else-z-ge0) → c.args.z ≡ negsuc (mag c.args.z)
at_neg c = is_below _ (rw (same32 c.ranges.z) at c.if-z-ge0.false)

mirrored : (c : tie.Else-z-ge0) → negsuc 0 -ℤ to_z w32 (of_z w32 c.args.z) ≡ pos (mag c.args.z)
mirrored c = ap (λ (z : ℤ). negsuc 0 -ℤ z) (same32 c.ranges.z ∙ at_neg c) ∙ mirror_negsuc _

fits_pos : {z : ℤ} → SFits w32 z → SFits w32 (pos (mag z))
fits_pos f = record { sfits = f.sfits }

read_2 : (c : tie.Else-z-ge0) → to_z w32 (of_z w32 (negsuc 0 -ℤ to_z w32 (of_z w32 c.args.z))) ≡ pos (mag c.args.z)
read_2 c = rw (mirrored c) (same32 (fits_pos c.ranges.z))

cast-result : tie.Need-overflow_cast-result
cast-result c = rw (read c) (tt, omega (arith, c.ranges.z.sfits))

mul-result : tie.Need-overflow_mul-result
mul-result c = rw (read c) (omega (arith, c.ranges.z.sfits))

returns : tie.Need-returns-then-z-ge0
unfolding zigzagOf
returns c =
    let e : zigzagOf c.args.z ≡ 2 * mag c.args.z = ap zigzagOf (at_pos c) in
    rw (read c, e) (omega arith)

sub-n : tie.Need-overflow_sub-n
sub-n c = rw (mirrored c) (fits_pos c.ranges.z)

cast-result-2 : tie.Need-overflow_cast-result-2
cast-result-2 c = rw (read_2 c) (tt, omega (arith, c.ranges.z.sfits))

mul-result-2 : tie.Need-overflow_mul-result-2
mul-result-2 c = rw (read_2 c) (omega (arith, c.ranges.z.sfits))

add-result : tie.Need-overflow_add-result
add-result c = rw (read_2 c) (omega (arith, c.ranges.z.sfits))

returns-2 : tie.Need-returns
unfolding zigzagOf
returns-2 c =
    let e : zigzagOf c.args.z ≡ 2 * mag c.args.z + 1 = ap zigzagOf (at_neg c) in
    rw (read_2 c, e) (omega arith)

pub zigzag_spec : {M : Type 1} → statement M
zigzag_spec = tie.close (tie.spec cast-result mul-result returns sub-n cast-result-2 mul-result-2 add-result returns-2)
