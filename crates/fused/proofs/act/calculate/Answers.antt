-- `fused::act::calculate` meets its contract: the result stands in the place of two values. Assumes nothing.
use Prim.Native.Nat.{◌-◌}
use native.Mathlib.Omega.{arith}
use mathlib.Core.Path.{◌≡◌, sym, ap, ◌∙◌}
use lib.IntN.{pos}
use lib.ListN.{get_or, set}
use mir.Val.{SFits}
use mir.Syntax.{w32}
use mir.Facts.{to_z-of_z}
use Rattle.arith.specs.Results.{outcome_of}
use Rattle.arith.specs.Values.{ok, arithmetic}
use Rattle.bytecode.specs.Instructions.{operation_of}
use Rattle.checker.specs.Inner.Walk.{known_of}
use Rattle.checker.proofs.Steps.{operation-is}
use Rattle.machine.proofs.Stack.{two_put}
use Rattle.fused.proofs.Acting.{done_acts}
use borrow.Author.Rules.{rules}
use Rattle.fused.proofs.act.calculate.Goals as goal

pub returns : goal.returns
returns c code low high prev cur h =
    let l = c.args.vals.now in
    let b = c.args.b in
    let n = b.walk.held in
    let f = arithmetic (operation_of c.args.byte) in
    let fa : SFits w32 (get_or l (n - 2) (pos 0)) = record { sfits = c.calculated-arg-1.given } in
    let fb : SFits w32 (get_or l (n - 1) (pos 0)) = record { sfits = c.calculated-arg-2-1.given } in
    let v = c.in_ok-v.v in
    let e : f (get_or l (n - 2) (pos 0)) (get_or l (n - 1) (pos 0)) ≡ ok v = rw (to_z-of_z fa, to_z-of_z fb) at (sym c.calculated.ensures ∙ ap outcome_of c.in_ok-v.was) in
    let fv : SFits w32 v = search rules in
    rw (to_z-of_z fv)
    (done_acts h c.in_ok-k.k (set l (n - 2) v) c.join.result c.in_ok-k.was (c.join.ensures.result_value ∙ sym (operation-is (operation_of c.args.byte) (known_of b.walk))) c.join.ensures.small_after (n - 1)
    (λ ns q. two_put f l n b.picked cur v c.if-h-lt2.false (omega (arith, c.requires.0.few_held, c.requires.1)) e) c.done.result c.done.ensures)
