-- `evaluation::evaluate_at` meets its contract. Assumes nothing.
use borrow.Author.Rules.{rules}
use Rattle.evaluation.proofs.Walking.{at_place}
use Rattle.evaluation.proofs.evaluate_at.Statement.{statement}
use Rattle.evaluation.proofs.evaluate_at.Tie as tie

returns : tie.Need-returns
returns c =
    let a = c.args in
    let p = c.requires in
    at_place a.code.now a.trace.now a.names a.before a.at c.evaluate.result p.1.0 p.1.1 c.evaluate.ensures

pub evaluate_at_spec : {M : Type 1} → statement M
evaluate_at_spec =
    tie.close
    (tie.spec (λ c. search rules) (λ c. search rules) (λ c. search rules) (λ c. search rules) (λ c. search rules) (λ c. search rules)
    (λ c. search rules) (λ c. search rules) (λ c. search rules) (λ c. search rules) (λ c κs. search rules) (λ c. search rules) returns)
