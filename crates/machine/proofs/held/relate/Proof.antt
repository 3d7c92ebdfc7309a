-- `machine::held::relate` meets its contract. A yes-no is put in the place of two values. Assumes nothing.
use mathlib.Core.Path.{◌≡◌, sym, ap, ◌∙◌}
use Prim.Native.Nat.{◌-◌}
use native.Mathlib.Omega.{arith}
use borrow.Author.Rules.{rules}
use lib.ListN.{get_or}
use lib.IntN.{pos}
use mir.Val.{SFits}
use mir.Syntax.{w32}
use mir.Facts.{to_z-of_z}
use Rattle.machine.proofs.Stack.{two_few, two_put}
use Rattle.machine.specs.Inner.Groups.{truth_of}
use Rattle.machine.specs.Step.{bit}
use Rattle.arith.specs.Values.{ok}
use Rattle.machine.proofs.held.relate.Statement.{statement}
use Rattle.machine.proofs.held.relate.Tie as tie

returns : tie.Need-returns-then-n-lt2
returns c = (λ t. two_few (λ x y. ok (bit (truth_of c.args.code x y))) c.args.vals.now c.args.m.held c.args.m.picked t c.if-n-lt2.true, search rules)

returns-2 : tie.Need-returns
returns-2 c =
    let a = c.args in
    let p = c.requires in
    let l = a.vals.now in
    let n = a.m.held in
    let fa : SFits w32 (get_or l (n - 2) (pos 0)) = record { sfits = c.truth-arg-1.given } in
    let fb : SFits w32 (get_or l (n - 1) (pos 0)) = record { sfits = c.truth-arg-2-1.given } in
    let v = c.bit_of-v.result in
    let e : v ≡ bit (truth_of a.code (get_or l (n - 2) (pos 0)) (get_or l (n - 1) (pos 0))) = c.bit_of-v.ensures ∙ ap bit (rw (to_z-of_z fa, to_z-of_z fb) at c.truth.ensures) in
    let fv : SFits w32 v = search rules in
    let two = c.if-n-lt2.false in
    (λ t. rw (to_z-of_z fv) (two_put (λ x y. ok (bit (truth_of a.code x y))) l n a.m.picked t v two (omega (arith, p.few, p.room)) (ap ok (sym e))), omega (arith, p.few))

pub relate_spec : {M : Type 1} → statement M
relate_spec =
    tie.close
    (tie.spec returns (λ c. search rules) (λ c. search rules) (λ c. search rules) (λ c. search rules) (λ c. search rules)
    (λ c κs. search rules) (λ c κs. search rules) (λ c. search rules) (λ c. search rules) (λ c. search rules) returns-2)
