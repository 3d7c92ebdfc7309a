-- `declarations::signed` meets its contract. Assumes nothing.
use mir.Syntax.{w64}
use mir.Facts.{to_z-of_z}
use Rattle.arith.proofs.Laws.{same32}
use Rattle.declarations.proofs.Numbers.{held, negated, negated_fits, negates}
use borrow.Author.Rules.{rules}
use Rattle.declarations.proofs.signed.Statement.{statement}
use Rattle.declarations.proofs.signed.Tie as tie

sub_within : tie.Need-overflow_sub-z
sub_within c = negates _ c.requires

returns : tie.Need-returns-then-negative
returns c = rw (c.within.ensures, same32 c.ranges.low, same32 c.ranges.high, negated _ c.requires, to_z-of_z {w = w64} (negated_fits _ c.requires), c.if-negative.true)

returns-2 : tie.Need-returns
returns-2 c = rw (c.within-2.ensures, same32 c.ranges.low, same32 c.ranges.high, held _ c.requires, c.if-negative.false)

pub signed_spec : {M : Type 1} → statement M
signed_spec = tie.close (tie.spec (λ c. search rules) sub_within (λ c κs. search rules) returns (λ c κs. search rules) returns-2)
