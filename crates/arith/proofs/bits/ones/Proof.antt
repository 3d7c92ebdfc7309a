-- `arith::bits::ones` meets its contract. Assumes nothing.
use lib.Pow.{pow_pos}
use Rattle.arith.proofs.Flags.{shifted}
use borrow.Author.Rules.{rules}
use native.Mathlib.Omega.{arith}
use Rattle.arith.proofs.bits.ones.Statement.{statement}
use Rattle.arith.proofs.bits.ones.Tie as tie

sub-result : tie.Need-overflow_sub-result
sub-result c = rw (shifted c.before.args.k (omega arith)) (pow_pos c.before.args.k)

returns-2 : tie.Need-returns
returns-2 c = rw (shifted c.before.args.k (omega arith))

pub ones_spec : {M : Type 1} → statement M
ones_spec = tie.close (tie.spec (λ c. rw c.if-k-eq64.true) (λ c. search rules) sub-result returns-2)
