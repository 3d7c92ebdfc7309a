-- `rolvenko::rolvenko_finish` meets its contract. Assumes nothing.
use mathlib.Core.Path.{ap, ◌∙◌}
use borrow.Author.Rules.{rules}
use Rattle.paused.specs.Responses.{packed_response}
use Rattle.lifecycle.specs.Calls.{AfterFinish}
use Rattle.rolvenko.proofs.rolvenko_finish.Statement.{statement}
use Rattle.rolvenko.proofs.rolvenko_finish.Tie as tie

returns : tie.Need-returns
returns c =
    let e = c.finish-response.ensures.0 in
    (c.pack_response.ensures ∙ ap packed_response (ap {A = AfterFinish} (λ x. x.reply) e), (ap {A = AfterFinish} (λ x. x.cells) e, ap {A = AfterFinish} (λ x. x.state) e))

pub rolvenko_finish_spec : {M : Type 1} → statement M
rolvenko_finish_spec = tie.close (tie.spec (λ c κs. search rules) (λ c κs. search rules) (λ c. search rules) (λ c. search rules) returns)
