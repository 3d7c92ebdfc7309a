-- `closed::closed_part` meets its contract. Assumes nothing.
use Rattle.closed.specs.Closed.{closed_part_of}
use borrow.Author.Rules.{rules}
use Rattle.closed.proofs.closed_part.Statement.{statement}
use Rattle.closed.proofs.closed_part.Tie as tie

returns : tie.Need-returns
unfolding closed_part_of
returns c =
    (c.closed_in-answer.ensures.0, c.closed_in-answer.ensures.1)

pub closed_part_spec : {M : Type 1} → statement M
closed_part_spec =
    tie.close
    (tie.spec (λ c. search rules) (λ c. search rules) (λ c. search rules) (λ c. search rules) (λ c. search rules) (λ c. search rules)
    (λ c. search rules) (λ c. search rules) (λ c κs. search rules) returns)
