-- `fused::ahead::advance_ahead` meets its contract: a gate on a no goes one step, anything else as `advance_one` has it. Assumes nothing.
use mathlib.Core.Path.{sym, subst}
use native.Mathlib.Omega.{arith}
use borrow.Author.Rules.{rules}
use Rattle.fused.specs.declared.Progress.{Progress}
use Rattle.fused.specs.Inner.Leaps.{Goes}
use Rattle.fused.proofs.Acting.{shut_goes}
use Rattle.fused.proofs.Leaping.{leaps_alone}
use Rattle.fused.proofs.ahead.advance_ahead.Statement.{statement}
use Rattle.fused.proofs.ahead.advance_ahead.Tie as tie

shut-requires : tie.Need-shut-requires
shut-requires c κs = omega (arith, c.requires.1.0, c.well_formed.0)

returns : tie.Need-returns-then-shuts
returns c =
    let a = c.args in
    subst (λ (p : Progress). Goes a.code.now a.low.now a.high.now a.prev.now 1 a.b a.vals.now a.cur.now p a.vals.now a.cur.now) (sym c.shut.ensures)
    (shut_goes c.requires.0 c.requires.1.1 c.requires.1.0 (c.shuts.ensures c.if-shuts.true))

returns-2 : tie.Need-returns
returns-2 c = leaps_alone _ _ _ _ _ _ _ _ _ c.advance_one.result c.single.result c.single.ensures c.advance_one.ensures

pub advance_ahead_spec : {M : Type 1} → statement M
advance_ahead_spec =
    tie.close
    (tie.spec (λ c κs. search rules) shut-requires (λ c. search rules) returns (λ c κs. search rules) (λ c κs. search rules) (λ c. search rules) (λ c. search rules) returns-2)
