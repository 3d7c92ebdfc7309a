-- `arith::quotient` meets its contract. Assumes nothing.
use mathlib.Core.Path.{ap, sym, ◌∙◌}
use native.Mathlib.Omega.{arith}
use lib.Signed.{quot_z}
use Rattle.arith.specs.Values.{int32, arithmetic}
use Rattle.arith.proofs.Laws.{widens, quot_fits, op_fits, op_is, zero_bits, nonzero_bits, by_nonzero, quotient_by_zero}
use Rattle.arith.proofs.quotient.Statement.{statement}
use Rattle.arith.proofs.quotient.Tie as tie

returns : tie.Need-returns-then-y-eq0
returns c = rw (zero_bits c.before.ranges.b c.if-y-eq0.true) (sym (quotient_by_zero c.before.args.a))

div-result : tie.Need-nonzero_div-result
div-result c =
    let f = c.before.ranges in
    (omega arith, op_fits quot_z f.a f.b (quot_fits f.a f.b))

returns-2 : tie.Need-returns
unfolding arithmetic
returns-2 c =
    let s = c.before in
    let f = s.ranges in
    ap int32 (op_is quot_z f.a f.b (quot_fits f.a f.b))
    ∙ sym (by_nonzero s.args.b (λ d. int32 (quot_z s.args.a d)) (nonzero_bits f.b c.if-y-eq0.false))

pub quotient_spec : {M : Type 1} → statement M
quotient_spec = tie.close (tie.spec (λ c. widens c.ranges.a) (λ c. widens c.ranges.b) returns div-result returns-2)
