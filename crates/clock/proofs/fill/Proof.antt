-- `clock::fill` meets its contract. Assumes nothing.
use borrow.Author.Rules.{rules}
use Rattle.clock.proofs.Held.{same64}
use Rattle.clock.proofs.fill.Statement.{statement}
use Rattle.clock.proofs.fill.Tie as tie

returns : tie.Need-returns
returns c = let e = c.fill_in.ensures in (rw (same64 c.ranges.utc) at e.0, e.1)

pub fill_spec : {M : Type 1} → statement M
fill_spec = tie.close (tie.spec (λ c. search rules) (λ c. search rules) (λ c κs. search rules) (λ c. search rules) returns)
