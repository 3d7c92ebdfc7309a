-- `fused::act::invert` meets its contract: the other yes-no stands in the place of one. Assumes nothing.
use Prim.Native.Nat.{◌-◌}
use native.Mathlib.Omega.{arith}
use mathlib.Core.Bool.{not}
use mathlib.Core.Path.{◌≡◌, sym, ap, ◌∙◌}
use lib.IntN.{pos}
use lib.ListN.{get_or, set}
use mir.Val.{SFits}
use mir.Syntax.{w32}
use mir.Facts.{to_z-of_z}
use Rattle.arith.specs.Values.{ok}
use Rattle.checker.specs.Inner.Walk.{known_of}
use Rattle.checker.proofs.Steps.{negated_is}
use Rattle.machine.specs.Step.{bit, yes}
use Rattle.machine.proofs.Stack.{one_put}
use Rattle.fused.proofs.Acting.{done_acts}
use borrow.Author.Rules.{rules}
use Rattle.fused.proofs.act.invert.Goals as goal

pub returns : goal.returns
returns c code low high prev cur h =
    let l = c.args.vals.now in
    let b = c.args.b in
    let n = b.walk.held in
    let fa : SFits w32 (get_or l (n - 1) (pos 0)) = record { sfits = c.is_yes-arg-1.given } in
    let v = c.bit_of-v.result in
    let x : v ≡ bit (not (yes (get_or l (n - 1) (pos 0)))) = c.bit_of-v.ensures ∙ ap (λ y. bit (not y)) (rw (to_z-of_z fa) at c.is_yes.ensures) in
    let fv : SFits w32 v = search rules in
    rw (to_z-of_z fv)
    (done_acts h c.in_ok-k.k (set l (n - 1) v) c.invert.result c.in_ok-k.was (c.invert.ensures.result_value ∙ sym (negated_is (known_of b.walk))) c.invert.ensures.small_after n
    (λ ns q. one_put (λ y. ok (bit (not (yes y)))) l n b.picked cur c.if-h-eq0.false v (omega (arith, c.requires.0.few_held, c.requires.1)) (ap ok (sym x))) c.done.result c.done.ensures)
