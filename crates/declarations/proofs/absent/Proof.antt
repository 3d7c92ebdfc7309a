-- `declarations::absent` meets its contract. Assumes nothing.
use mathlib.Core.Path.{ap, ◌∙◌}
use mir.Syntax.{w32}
use mir.Val.{SFits}
use Rattle.arith.proofs.Laws.{same32}
use Rattle.phrases.specs.Inner.Steps.{parsed_of, value_told}
use Rattle.declarations.proofs.Bounds.{absent_out, absent_in}
use borrow.Author.Rules.{rules}
use Rattle.declarations.proofs.absent.Statement.{statement}
use Rattle.declarations.proofs.absent.Tie as tie

returns : tie.Need-returns-in_default
returns c =
    absent_out _ _ _ (rw (same32 c.ranges.low, same32 c.ranges.high) at c.within.ensures) _ c.in_default.is

returns-2 : tie.Need-returns
returns-2 c =
    let f : SFits w32 c.in-Some.z = search rules in
    ap (parsed_of value_told) c.valued.ensures ∙ absent_in _ _ _ (rw (same32 c.ranges.low, same32 c.ranges.high) at c.within.ensures) _ f c.in-Some.is

pub absent_spec : {M : Type 1} → statement M
absent_spec = tie.close (tie.spec (λ c κs. search rules) (λ c. search rules) (λ c. search rules) returns (λ c κs. search rules) returns-2)
