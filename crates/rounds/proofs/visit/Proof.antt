-- `rounds::visit` meets its contract (Visiting). Assumes nothing.
use mathlib.Core.Path.{sym, ap, subst, ◌∙◌}
use borrow.Author.Tests.{not-true, not-false}
use native.Mathlib.Omega.{arith}
use Rattle.limits.specs.Limits.{image_limit}
use Rattle.paused.specs.Responses.{ResponseWithin}
use Rattle.paused.specs.declared.Response.{Response}
use Rattle.rounds.specs.Visits.{visit_from}
use Rattle.rounds.proofs.Visiting.{visit_out, visit_refused, visit_gives}
use borrow.Author.Rules.{rules}
use Rattle.rounds.proofs.visit.Statement.{statement}
use Rattle.rounds.proofs.visit.Tie as tie

returns : tie.Need-returns-then-not-fits
returns c = (visit_out c.args.image.now c.args.share c.args.paused.now c.args.state.now (sym (not-true _ c.if-not-fits.true-raw) ∙ c.share_fits-fits.ensures), (omega arith, omega arith))

returns-2 : tie.Need-returns-in-Done
returns-2 c = (
  visit_gives c.args.image.now c.args.share c.args.paused.now c.args.state.now (sym (not-false _ c.if-not-fits.false-raw) ∙ c.share_fits-fits.ensures) c.begin-begun.result _ c.begin-begun.ensures.0 _ c.give.ensures.0
      (ap (λ (b : Response). visit_from c.args.image.now c.args.share c.args.state.now b c.begin-begun.new.paused) c.in-Done.is),
  c.give.ensures.1,
)

returns-3 : tie.Need-returns-in-Refused
returns-3 c =
    (visit_refused c.args.image.now c.args.share c.args.paused.now c.args.state.now (sym (not-false _ c.if-not-fits.false-raw) ∙ c.share_fits-fits.ensures) c.begin-begun.result _ c.begin-begun.ensures.0 c.in-Refused.number c.in-Refused.place c.in-Refused.n c.in-Refused.is, subst (ResponseWithin image_limit) c.in-Refused.is c.begin-begun.ensures.1)

returns-4 : tie.Need-returns-in-Unfinished
returns-4 c = (
  visit_gives c.args.image.now c.args.share c.args.paused.now c.args.state.now (sym (not-false _ c.if-not-fits.false-raw) ∙ c.share_fits-fits.ensures) c.begin-begun.result _ c.begin-begun.ensures.0 _ c.give-in-Unfinished.ensures.0
      (ap (λ (b : Response). visit_from c.args.image.now c.args.share c.args.state.now b c.begin-begun.new.paused) c.in-Unfinished.is),
  c.give-in-Unfinished.ensures.1,
)

returns-5 : tie.Need-returns-in-Idle
returns-5 c = (
  visit_gives c.args.image.now c.args.share c.args.paused.now c.args.state.now (sym (not-false _ c.if-not-fits.false-raw) ∙ c.share_fits-fits.ensures) c.begin-begun.result _ c.begin-begun.ensures.0 _ c.give-in-Idle.ensures.0
      (ap (λ (b : Response). visit_from c.args.image.now c.args.share c.args.state.now b c.begin-begun.new.paused) c.in-Idle.is),
  c.give-in-Idle.ensures.1,
)

pub visit_spec : {M : Type 1} → statement M
visit_spec =
    tie.close
    (tie.spec (λ c κs. search rules) returns (λ c κs. search rules) (λ c. search rules) (λ c κs. search rules) (λ c. search rules)
    (λ c. search rules) (λ c κs. search rules) (λ c. search rules) (λ c κs. search rules) (λ c. search rules) (λ c. search rules) returns-2
    (λ c. search rules) (λ c. search rules) returns-3 (λ c. search rules) (λ c. search rules) returns-4 (λ c. search rules)
    (λ c. search rules) returns-5)
