-- `rounds::give` meets its contract (Visiting). Assumes nothing.
use Rattle.rounds.proofs.Visiting.{gives}
use borrow.Author.Rules.{rules}
use Rattle.rounds.proofs.give.Statement.{statement}
use Rattle.rounds.proofs.give.Tie as tie

returns : tie.Need-returns
returns c = (gives c.args.image.now c.args.share c.args.paused.now c.args.state.now c.advance-advanced.result _ c.advance-advanced.ensures.0 c.steps_in-steps.result c.steps_in-steps.ensures.0 c.finish-over.result _ _ c.finish-over.ensures.0 c.with_steps.result c.with_steps.ensures.0, c.with_steps.ensures.1)

pub give_spec : {M : Type 1} → statement M
give_spec =
    tie.close
    (tie.spec (λ c κs. search rules) (λ c κs. search rules) (λ c κs. search rules) (λ c κs. search rules) (λ c. search rules)
    (λ c. search rules) returns)
