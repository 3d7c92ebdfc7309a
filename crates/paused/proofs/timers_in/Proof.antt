-- `paused::timers_in` meets its contract. Assumes nothing.
use borrow.Author.Rules.{rules}
use borrow.Author.Tests.{eq-eqb, ne_eqb}
use Rattle.paused.specs.Memory.{parts_at}
use Rattle.paused.proofs.timers_in.Statement.{statement}
use Rattle.paused.proofs.timers_in.Tie as tie

returns : tie.Need-returns-then-size-names
returns c = rw (eq-eqb c.args.size c.args.names c.if-size-names.true)

returns-2 : tie.Need-returns
unfolding parts_at
returns-2 c = rw (ne_eqb c.args.size c.args.names c.if-size-names.false, c.part-d.ensures.0, c.part-c.ensures.0, c.part-b.ensures.0, c.part-a.ensures.0)

pub timers_in_spec : {M : Type 1} → statement M
timers_in_spec =
    tie.close
    (tie.spec returns (λ c κs. search rules) (λ c. search rules) (λ c κs. search rules) (λ c. search rules) (λ c κs. search rules) (λ c. search rules)
    (λ c κs. search rules) (λ c. search rules) (λ c. search rules) (λ c. search rules) (λ c. search rules) (λ c. search rules) (λ c. search rules)
    returns-2)
