-- `clock::local::minute_of` meets its contract. Assumes nothing.
use borrow.Author.Rules.{rules}
use mir.Syntax.{w32}
use mir.Val.{SFits}
use Rattle.arith.proofs.Laws.{widens}
use Rattle.clock.proofs.Held.{same64, Left, left-of}
use Rattle.clock.proofs.local.minute_of.Statement.{statement}
use Rattle.clock.proofs.local.minute_of.Tie as tie

day_fits : (c : tie.After-day_of) → SFits w32 c.day_of.result
day_fits c = record { sfits = c.day_of.type_inv }

left : (c : tie.After-day_of) → Left c.args.local c.day_of.result
left c = left-of _ _ c.requires (day_fits c) (rw (same64 c.ranges.local) at c.day_of.ensures)

pub minute_of_spec : {M : Type 1} → statement M
minute_of_spec =
    tie.close
    (tie.spec (λ c κs. search rules) (λ c. widens (day_fits c)) (λ c. (left c).product) (λ c. (left c).difference)
    (λ c. (left c).narrow) (λ c. (left c).minute))
