-- `fused::ahead::found` meets its contract: the value is what the instruction of the code byte makes of the two numbers. Assumes nothing.
use mathlib.Core.Path.{◌≡◌, sym, ap, ◌∙◌}
use native.Mathlib.Omega.{arith}
use mir.Val.{SFits}
use mir.Syntax.{w32}
use mir.Facts.{to_z-of_z}
use borrow.Author.Rules.{rules}
use Rattle.arith.specs.Results.{outcome_of}
use Rattle.arith.specs.Values.{ok, arithmetic}
use Rattle.bytecode.specs.Instructions.{operation_of}
use Rattle.machine.specs.Step.{bit}
use Rattle.machine.specs.Inner.Groups.{truth_of}
use Rattle.fused.proofs.Leaping.{operation_made, comparison_made}
use Rattle.fused.proofs.ahead.found.Goals as goal

-- codes 4 to 8
pub returns-in_ok-v-in-4-to-8 : goal.returns-in_ok-v-in-4-to-8
returns-in_ok-v-in-4-to-8 c =
    let a = c.args in
    let fa : SFits w32 a.a = c.ranges.a in
    let fc : SFits w32 a.c = c.ranges.c in
    let e : arithmetic (operation_of a.op) a.a a.c ≡ ok c.in_ok-v-in-4-to-8.v = rw (to_z-of_z fa, to_z-of_z fc) at (sym c.calculated.ensures ∙ ap outcome_of c.in_ok-v-in-4-to-8.was) in
    let fv : SFits w32 c.in_ok-v-in-4-to-8.v = search rules in
    rw (to_z-of_z fv) (operation_made a.w a.op a.a a.c c.in_ok-v-in-4-to-8.v (omega (arith, c.in-4-to-8.if-op-lt4-own.false)) (omega (arith, c.in-4-to-8.if-op-lt9-own.true)) e)

-- codes 10 to 15
pub returns-else-w-ne0 : goal.returns-else-w-ne0
returns-else-w-ne0 c =
    let a = c.args in
    let fa : SFits w32 a.a = c.ranges.a in
    let fc : SFits w32 a.c = c.ranges.c in
    let e : c.truth.result ≡ truth_of a.op a.a a.c = rw (to_z-of_z fa, to_z-of_z fc) at c.truth.ensures in
    let fv : SFits w32 c.bit_of.result = search rules in
    rw (to_z-of_z fv) (comparison_made a.w a.op a.a a.c c.bit_of.result (omega (arith, c.in-10-to-15.if-op-lt10-own.false)) (omega (arith, c.in-10-to-15.if-op-lt16-own.true)) c.if-w-ne0.false (c.bit_of.ensures ∙ ap bit e))
