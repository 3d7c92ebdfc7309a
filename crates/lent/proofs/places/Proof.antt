-- `lent::places` meets its contract. Assumes nothing.
use borrow.Author.Rules.{rules}
use borrow.Author.Tests.{eq-eqb, ne_eqb}
use Rattle.semantics.specs.Shape.{places_in}
use Rattle.lent.proofs.places.Statement.{statement}
use Rattle.lent.proofs.places.Tie as tie

returns : tie.Need-returns-then-names-eq0
unfolding places_in
returns c = rw (eq-eqb c.args.names 0 c.if-names-eq0.true)

returns-2 : tie.Need-returns
unfolding places_in
returns-2 c = rw (ne_eqb c.args.names 0 c.if-names-eq0.false)

pub places_spec : {M : Type 1} → statement M
places_spec = tie.close (tie.spec returns (λ c. search rules) returns-2)
