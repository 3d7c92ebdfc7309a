-- `rolvenko::rolvenko_post` meets its contract. Assumes nothing.
use mathlib.Core.Path.{ap, ◌∙◌}
use borrow.Author.Rules.{rules}
use Rattle.paused.specs.Responses.{packed_response}
use Rattle.resumable.specs.Instalment.{AfterCall}
use Rattle.rolvenko.proofs.rolvenko_post.Statement.{statement}
use Rattle.rolvenko.proofs.rolvenko_post.Tie as tie

returns : tie.Need-returns
returns c =
    let e = c.post-response.ensures.0 in
    (c.pack_response.ensures ∙ ap packed_response (ap {A = AfterCall} (λ x. x.reply) e), ap {A = AfterCall} (λ x. x.cells) e)

pub rolvenko_post_spec : {M : Type 1} → statement M
rolvenko_post_spec = tie.close (tie.spec (λ c κs. search rules) (λ c κs. search rules) (λ c. search rules) returns)
