-- `resumable::keep` meets its contract. Assumes nothing.
use mathlib.Core.Path.{subst}
use borrow.Author.Rules.{rules}
use Rattle.machine.specs.Inner.Memory.{Few}
use Rattle.resumable.proofs.keep.Statement.{statement}
use Rattle.resumable.proofs.keep.Tie as tie

keep-going-requires : tie.Need-keep_going-requires
keep-going-requires c κs = (c.requires.0, subst Few c.in-Next.is c.requires.1)

returns : tie.Need-returns-in-Next
returns c = rw c.in-Next.is c.keep_going.ensures

returns-2 : tie.Need-returns-in-Refused
returns-2 c = rw c.in-Refused.is c.store_checkpoint.ensures

pub keep_spec : {M : Type 1} → statement M
keep_spec =
    tie.close
    (tie.spec (λ c. search rules) keep-going-requires (λ c. search rules) (λ c. search rules) (λ c κs. search rules) (λ c. search rules) returns
    (λ c. search rules) returns-2)
