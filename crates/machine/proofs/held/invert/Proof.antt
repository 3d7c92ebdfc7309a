-- `machine::held::invert` meets its contract. A yes-no is put in the place of one value. Assumes nothing.
use mathlib.Core.Bool.{not}
use mathlib.Core.Path.{◌≡◌, sym, ap, ◌∙◌}
use Prim.Native.Nat.{◌-◌}
use native.Mathlib.Omega.{arith}
use borrow.Author.Rules.{rules}
use lib.ListN.{get_or}
use lib.IntN.{pos}
use mir.Val.{SFits}
use mir.Syntax.{w32}
use mir.Facts.{to_z-of_z}
use Rattle.machine.proofs.Stack.{pop_none, one_put}
use Rattle.machine.specs.Step.{bit, yes}
use Rattle.arith.specs.Values.{ok}
use Rattle.machine.proofs.held.invert.Statement.{statement}
use Rattle.machine.proofs.held.invert.Tie as tie

returns : tie.Need-returns-then-n-eq0
returns c = (λ ns s t. pop_none c.args.vals.now c.args.m.held _ c.if-n-eq0.true, search rules)

returns-2 : tie.Need-returns
returns-2 c =
    let a = c.args in
    let p = c.requires in
    let l = a.vals.now in
    let n = a.m.held in
    let fa : SFits w32 (get_or l (n - 1) (pos 0)) = record { sfits = c.is_yes-arg-1.given } in
    let v = c.bit_of-v.result in
    let e : v ≡ bit (not (yes (get_or l (n - 1) (pos 0)))) = c.bit_of-v.ensures ∙ ap (λ x. bit (not x)) (rw (to_z-of_z fa) at c.is_yes.ensures) in
    let fv : SFits w32 v = search rules in
    (λ ns s t. rw (to_z-of_z fv) (one_put (λ x. ok (bit (not (yes x)))) l n a.m.picked t c.if-n-eq0.false v (omega (arith, p.few, p.room)) (ap ok (sym e))), omega (arith, p.few))

pub invert_spec : {M : Type 1} → statement M
invert_spec =
    tie.close
    (tie.spec returns (λ c. search rules) (λ c. search rules) (λ c. search rules) (λ c κs. search rules) (λ c κs. search rules)
    (λ c. search rules) (λ c. search rules) (λ c. search rules) returns-2)
