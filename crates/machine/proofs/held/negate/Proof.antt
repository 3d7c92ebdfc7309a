-- `machine::held::negate` meets its contract. The ways are the laws of one value in Stack. Assumes nothing.
use mathlib.Core.Path.{◌≡◌, sym, ap, ◌∙◌}
use Prim.Native.Nat.{◌-◌}
use native.Mathlib.Omega.{arith}
use borrow.Author.Rules.{rules}
use lib.ListN.{get_or}
use lib.IntN.{pos}
use mir.Val.{SFits}
use mir.Syntax.{w32}
use mir.Facts.{to_z-of_z}
use Rattle.machine.proofs.Stack.{pop_none, one_refused, one_put}
use Rattle.arith.specs.Results.{outcome_of}
use Rattle.arith.specs.Values.{ok, refusal, negation}
use Rattle.machine.proofs.held.negate.Statement.{statement}
use Rattle.machine.proofs.held.negate.Tie as tie

returns : tie.Need-returns-then-n-eq0
returns c = (λ ns s t. pop_none c.args.vals.now c.args.m.held _ c.if-n-eq0.true, search rules)

returns-2 : tie.Need-returns-in_default
returns-2 c =
    let a = c.args in
    let l = a.vals.now in
    let n = a.m.held in
    let fa : SFits w32 (get_or l (n - 1) (pos 0)) = record { sfits = c.negated-arg-1.given } in
    let e : negation (get_or l (n - 1) (pos 0)) ≡ refusal 14 = rw (to_z-of_z fa) at (sym c.negated-x.ensures ∙ ap outcome_of c.in_default.is) in
    (λ ns s t. one_refused negation l n a.m.picked t c.if-n-eq0.false 14 e, search rules)

returns-3 : tie.Need-returns
returns-3 c =
    let a = c.args in
    let p = c.requires in
    let l = a.vals.now in
    let n = a.m.held in
    let fa : SFits w32 (get_or l (n - 1) (pos 0)) = record { sfits = c.negated-arg-1.given } in
    let v = c.in-Some.v in
    let e : negation (get_or l (n - 1) (pos 0)) ≡ ok v = rw (to_z-of_z fa) at (sym c.negated-x.ensures ∙ ap outcome_of c.in-Some.is) in
    let fv : SFits w32 v = search rules in
    let some = c.if-n-eq0.false in
    (λ ns s t. rw (to_z-of_z fv) (one_put negation l n a.m.picked t some v (omega (arith, p.few, p.room)) e), omega (arith, p.few))

pub negate_spec : {M : Type 1} → statement M
negate_spec =
    tie.close
    (tie.spec returns (λ c. search rules) (λ c. search rules) (λ c. search rules) (λ c κs. search rules) (λ c. search rules)
    (λ c. search rules) returns-2 (λ c. search rules) (λ c. search rules) (λ c. search rules) returns-3)
