-- `fused::act::relate` meets its contract: the yes-no stands in the place of two values. Assumes nothing.
use Prim.Native.Nat.{◌-◌}
use native.Mathlib.Omega.{arith}
use mathlib.Core.Path.{◌≡◌, sym, ap, ◌∙◌}
use lib.IntN.{pos}
use lib.ListN.{get_or, set}
use mir.Val.{SFits}
use mir.Syntax.{w32}
use mir.Facts.{to_z-of_z}
use Rattle.arith.specs.Values.{ok}
use Rattle.machine.specs.Step.{bit}
use Rattle.machine.specs.Inner.Memory.{held_of}
use Rattle.machine.specs.Inner.Groups.{truth_of}
use Rattle.machine.proofs.Stack.{two_put}
use Rattle.fused.proofs.Acting.{done_acts}
use borrow.Author.Rules.{rules}
use Rattle.fused.proofs.act.relate.Goals as goal

pub returns : goal.returns
returns c i e does code low high prev cur h =
    let l = c.args.vals.now in
    let b = c.args.b in
    let n = b.walk.held in
    let fa : SFits w32 (get_or l (n - 2) (pos 0)) = record { sfits = c.truth-arg-1.given } in
    let fb : SFits w32 (get_or l (n - 1) (pos 0)) = record { sfits = c.truth-arg-2-1.given } in
    let v = c.bit_of-v.result in
    let x : v ≡ bit (truth_of c.args.byte (get_or l (n - 2) (pos 0)) (get_or l (n - 1) (pos 0))) = c.bit_of-v.ensures ∙ ap bit (rw (to_z-of_z fa, to_z-of_z fb) at c.truth.ensures) in
    let fv : SFits w32 v = search rules in
    rw (to_z-of_z fv)
    (done_acts h c.in_ok-k.k (set l (n - 2) v) c.test.result c.in_ok-k.was (c.test.ensures.result_value ∙ sym e) c.test.ensures.small_after (n - 1)
    (λ ns q. two_put (λ y z. ok (bit (truth_of c.args.byte y z))) l n b.picked cur v c.if-h-lt2.false (omega (arith, c.requires.0.few_held, c.requires.2)) (ap ok (sym x)) ∙ sym (does ns prev cur b.picked (held_of l n)))
    c.done.result c.done.ensures)
