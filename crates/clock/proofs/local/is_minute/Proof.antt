-- `clock::local::is_minute` meets its contract. Assumes nothing.
use borrow.Author.Rules.{rules}
use Rattle.clock.proofs.Held.{same64}
use Rattle.clock.proofs.local.is_minute.Statement.{statement}
use Rattle.clock.proofs.local.is_minute.Tie as tie

returns : tie.Need-returns
returns c = rw (same64 c.ranges.minute) at c.is_in.ensures

pub is_minute_spec : {M : Type 1} → statement M
is_minute_spec = tie.close (tie.spec (λ c κs. search rules) returns)
