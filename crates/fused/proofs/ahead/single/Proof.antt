-- `fused::ahead::single` meets its contract. Assumes nothing.
use mathlib.Core.Path.{sym, ap}
use borrow.Author.Rules.{rules}
use Rattle.fused.specs.Inner.Leaps.{leap_of}
use Rattle.fused.proofs.ahead.single.Statement.{statement}
use Rattle.fused.proofs.ahead.single.Tie as tie

returns : tie.Need-returns-in-On
returns c = ap leap_of (sym c.in-On.is)

returns-2 : tie.Need-returns-in-Refused
returns-2 c = ap leap_of (sym c.in-Refused.is)

pub single_spec : {M : Type 1} → statement M
single_spec = tie.close (tie.spec (λ c. search rules) (λ c. search rules) (λ c. search rules) returns returns-2 (λ c. search rules))
