use Rattle.std.proofs.Common.{◌≡◌, false, ◌-ℤ◌, add-one, ap, ◌∙◌, arith}
use lib.IntN.{nat_abs}
use lib.Signed.{lt_z}
use Rattle.arith.proofs.Laws.{same32}
use Rattle.closed.specs.Closed.{above_zero, size_between}
use Rattle.closed.proofs.Whole.{span, size_empty}
use Rattle.closed.proofs.size.Goals as goal

pub returns-then-high-low : goal.returns-then-high-low
returns-then-high-low c =
    let f = c.ranges in
    rw (size_empty c.args.low c.args.high (rw (same32 f.high, same32 f.low) at c.if-high-low.true)) (omega arith)

pub returns : goal.returns
unfolding size_between
returns c =
    let f = c.ranges in
    let e : lt_z c.args.high c.args.low ≡ false = rw (same32 f.high, same32 f.low) at c.if-high-low.false in
    let d : c.abs_diff.result ≡ above_zero (c.args.high -ℤ c.args.low) = (rw (same32 f.high, same32 f.low) at c.abs_diff.ensures) ∙ ap nat_abs (span c.args.low c.args.high e) in
    (rw d (add-one _), omega arith)
