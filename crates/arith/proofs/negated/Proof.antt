-- `arith::negated` meets its contract. Assumes nothing.
use borrow.Author.Rules.{rules}
use lib.IntN.{+ℤ_idl}
use mir.Syntax.{w64}
use mir.Facts.{to_z-of_z}
use Rattle.arith.specs.Values.{negation}
use Rattle.arith.proofs.Laws.{widens, widened, neg_fits}
use Rattle.arith.proofs.negated.Statement.{statement}
use Rattle.arith.proofs.negated.Tie as tie

sub_narrow : tie.Need-overflow_sub-x
sub_narrow c = rw (widened c.ranges.a, +ℤ_idl) (neg_fits c.ranges.a c.ranges.a)

returns : tie.Need-returns
unfolding negation
returns c =
    let f = c.before.ranges.a in
    rw (c.narrow.ensures, widened f, +ℤ_idl, to_z-of_z {w = w64} (neg_fits f f))

pub negated_spec : {M : Type 1} → statement M
negated_spec = tie.close (tie.spec (λ c. widens c.ranges.a) sub_narrow (λ c κs. search rules) returns)
