-- `arith::remainder` meets its contract. Assumes nothing.
use mathlib.Core.Path.{ap, sym, ◌∙◌}
use native.Mathlib.Omega.{arith}
use lib.Signed.{quot_z, rem_z}
use Rattle.arith.specs.Values.{int32, arithmetic}
use Rattle.arith.proofs.Laws.{widens, quot_fits, rem_fits, op_fits, op_is, zero_bits, nonzero_bits, remainder-by-zero, remainder_is}
use Rattle.arith.proofs.remainder.Statement.{statement}
use Rattle.arith.proofs.remainder.Tie as tie

returns : tie.Need-returns-then-y-eq0
returns c = rw (zero_bits c.before.ranges.b c.if-y-eq0.true) (sym (remainder-by-zero c.before.args.a))

rem-result : tie.Need-nonzero_rem-result
rem-result c =
    let f = c.before.ranges in
    (omega arith, op_fits quot_z f.a f.b (quot_fits f.a f.b))

returns-2 : tie.Need-returns
unfolding arithmetic
returns-2 c =
    let s = c.before in
    let f = s.ranges in
    ap int32 (op_is rem_z f.a f.b (rem_fits f.a f.b) ∙ remainder_is s.args.a s.args.b (nonzero_bits f.b c.if-y-eq0.false))

pub remainder_spec : {M : Type 1} → statement M
remainder_spec = tie.close (tie.spec (λ c. widens c.ranges.a) (λ c. widens c.ranges.b) returns rem-result returns-2)
