-- `machine::held::calculate` meets its contract. The three ways are the laws of two values in Stack. Assumes nothing.
use mathlib.Core.Path.{◌≡◌, sym, ap, ◌∙◌}
use Prim.Native.Nat.{◌-◌}
use native.Mathlib.Omega.{arith}
use borrow.Author.Rules.{rules}
use lib.ListN.{get_or}
use lib.IntN.{pos}
use mir.Val.{SFits}
use mir.Syntax.{w32}
use mir.Facts.{to_z-of_z}
use Rattle.machine.proofs.Stack.{two_few, two_refused, two_put}
use Rattle.bytecode.specs.Instructions.{operation_of}
use Rattle.arith.specs.Results.{outcome_of}
use Rattle.arith.specs.Values.{ok, refusal, arithmetic}
use Rattle.machine.proofs.held.calculate.Statement.{statement}
use Rattle.machine.proofs.held.calculate.Tie as tie

returns : tie.Need-returns-then-n-lt2
returns c = (λ ns s t. two_few (arithmetic (operation_of c.args.code)) c.args.vals.now c.args.m.held c.args.m.picked t c.if-n-lt2.true, search rules)

returns-2 : tie.Need-returns-in_default
returns-2 c =
    let a = c.args in
    let f = arithmetic (operation_of a.code) in
    let l = a.vals.now in
    let n = a.m.held in
    let fa : SFits w32 (get_or l (n - 2) (pos 0)) = record { sfits = c.calculated-arg-1.given } in
    let fb : SFits w32 (get_or l (n - 1) (pos 0)) = record { sfits = c.calculated-arg-2-1.given } in
    let e : f (get_or l (n - 2) (pos 0)) (get_or l (n - 1) (pos 0)) ≡ refusal 14 = rw (to_z-of_z fa, to_z-of_z fb) at (sym c.calculated-x.ensures ∙ ap outcome_of c.in_default.is) in
    (λ ns s t. two_refused f l n a.m.picked t 14 c.if-n-lt2.false e, search rules)

returns-3 : tie.Need-returns
returns-3 c =
    let a = c.args in
    let p = c.requires in
    let f = arithmetic (operation_of a.code) in
    let l = a.vals.now in
    let n = a.m.held in
    let fa : SFits w32 (get_or l (n - 2) (pos 0)) = record { sfits = c.calculated-arg-1.given } in
    let fb : SFits w32 (get_or l (n - 1) (pos 0)) = record { sfits = c.calculated-arg-2-1.given } in
    let v = c.in-Some.v in
    let e : f (get_or l (n - 2) (pos 0)) (get_or l (n - 1) (pos 0)) ≡ ok v = rw (to_z-of_z fa, to_z-of_z fb) at (sym c.calculated-x.ensures ∙ ap outcome_of c.in-Some.is) in
    let fv : SFits w32 v = search rules in
    let two = c.if-n-lt2.false in
    (λ ns s t. rw (to_z-of_z fv) (two_put f l n a.m.picked t v two (omega (arith, p.few, p.room)) e), omega (arith, p.few))

pub calculate_spec : {M : Type 1} → statement M
calculate_spec =
    tie.close
    (tie.spec returns (λ c. search rules) (λ c. search rules) (λ c. search rules) (λ c. search rules) (λ c. search rules)
    (λ c κs. search rules) (λ c. search rules) (λ c. search rules) returns-2 (λ c. search rules) (λ c. search rules) (λ c. search rules)
    returns-3)
