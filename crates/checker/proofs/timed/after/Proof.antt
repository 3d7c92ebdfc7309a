-- `checker::timed::after` meets its contract. Assumes nothing.
use borrow.Author.Rules.{rules}
use mathlib.Core.Path.{refl}
use mathlib.Core.Option.{some}
use Rattle.bytecode.specs.Instructions.{assign, settle, instruction_of}
use Rattle.checker.proofs.Timing.{last_none, last_rule, ends_none}
use Rattle.checker.proofs.timed.after.Statement.{statement}
use Rattle.checker.proofs.timed.after.Tie as tie

returns : tie.Need-returns-in-21
unfolding instruction_of
returns c = rw c.in-21.is (last_rule (some (assign c.args.n)) c.args.n (λ t w. refl))

returns-2 : tie.Need-returns-in-22
unfolding instruction_of
returns-2 c = rw c.in-22.is (last_rule (some (settle c.args.n)) c.args.n (λ t w. refl))

returns-3 : tie.Need-returns-in_default
returns-3 c = last_none (instruction_of c.args.code c.args.n) (λ t w. ends_none c.args.code c.args.n t w c.in_default.in_default-own.rest.0.1 c.in_default.in_default-own.rest.1)

pub after_spec : {M : Type 1} → statement M
after_spec = tie.close (tie.spec (λ c. search rules) (λ c. search rules) returns returns-2 returns-3)
