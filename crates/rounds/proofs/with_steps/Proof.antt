-- `rounds::with_steps` meets its contract. Assumes nothing.
use mathlib.Core.Path.{sym, ap, subst}
use borrow.Author.Rules.{rules}
use Rattle.limits.specs.Limits.{image_limit}
use Rattle.paused.specs.Responses.{ResponseWithin}
use Rattle.rounds.specs.Visits.{with_steps}
use Rattle.rounds.proofs.with_steps.Statement.{statement}
use Rattle.rounds.proofs.with_steps.Tie as tie

returns : tie.Need-returns-in-Done
returns c = (sym (ap (with_steps c.args.steps) c.in-Done.is), c.requires.0)

returns-2 : tie.Need-returns-in-Refused
returns-2 c =
    let l = subst (ResponseWithin image_limit) c.in-Refused.is c.requires.1 in
    (sym (ap (with_steps c.args.steps) c.in-Refused.is), (l.0, c.requires.0))

returns-3 : tie.Need-returns-in-Unfinished
returns-3 c = (sym (ap (with_steps c.args.steps) c.in-Unfinished.is), c.requires.0)

returns-4 : tie.Need-returns-in-Idle
returns-4 c = (sym (ap (with_steps c.args.steps) c.in-Idle.is), tt)

pub with_steps_spec : {M : Type 1} → statement M
with_steps_spec =
    tie.close
    (tie.spec (λ c. search rules) (λ c. search rules) (λ c. search rules) (λ c. search rules) returns returns-2 returns-3 returns-4)
