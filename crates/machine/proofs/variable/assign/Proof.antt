-- `machine::variable::assign` meets its contract. The ways are the laws of Changes. Assumes nothing.
use mathlib.Core.Bool.{true, false, ◌&&◌}
use mathlib.Core.Path.{◌≡◌, sym, ◌∙◌}
use Prim.Native.Nat.{◌-◌}
use native.Mathlib.Omega.{arith}
use borrow.Author.Tests.{not-true, not-false}
use borrow.Author.Rules.{rules}
use lib.Signed.{le_z}
use mir.Val.{SFits}
use mir.Syntax.{w32}
use mir.Facts.{to_z-of_z}
use Rattle.machine.proofs.Changes.{assign_undeclared, assign_outside, assign_inside}
use Rattle.machine.proofs.Stack.{pop_none}
use Rattle.semantics.specs.Formula.{at}
use Rattle.machine.proofs.variable.assign.Statement.{statement}
use Rattle.machine.proofs.variable.assign.Tie as tie

returns : tie.Need-returns-then-n-eq0
returns c = (λ ns s r. pop_none c.args.vals.now c.args.m.held _ c.if-n-eq0.true, search rules)

returns-2 : tie.Need-returns-then-low-i
returns-2 c =
    let a = c.args in
    (λ ns s r. assign_undeclared ns a.low.now a.high.now r s a.vals.now a.m.held a.m.picked a.cur.now a.id c.if-n-eq0.false c.if-low-i.true, search rules)

returns-3 : tie.Need-returns-then-not-in_range
returns-3 c =
    let a = c.args in
    let v = at a.vals.now (a.m.held - 1) in
    let fv : SFits w32 v = record { sfits = c.v-1.given } in
    let fl : SFits w32 (at a.low.now a.id) = record { sfits = c.in_range-arg-1.given } in
    let fh : SFits w32 (at a.high.now a.id) = record { sfits = c.in_range-arg-2-1.given } in
    let e : (le_z (at a.low.now a.id) v && le_z v (at a.high.now a.id)) ≡ false = rw (to_z-of_z fl, to_z-of_z fh, to_z-of_z fv) at (sym c.in_range.ensures ∙ not-true _ c.if-not-in_range.true-raw) in
    let some = c.if-n-eq0.false in
    let known = c.if-low-i.false in
    (λ ns s r. assign_outside ns a.low.now a.high.now r s a.vals.now a.m.held a.m.picked a.cur.now a.id some known e, search rules)

returns-4 : tie.Need-returns
returns-4 c =
    let a = c.args in
    let v = at a.vals.now (a.m.held - 1) in
    let fv : SFits w32 v = record { sfits = c.v-1.given } in
    let fl : SFits w32 (at a.low.now a.id) = record { sfits = c.in_range-arg-1.given } in
    let fh : SFits w32 (at a.high.now a.id) = record { sfits = c.in_range-arg-2-1.given } in
    let e : (le_z (at a.low.now a.id) v && le_z v (at a.high.now a.id)) ≡ true = rw (to_z-of_z fl, to_z-of_z fh, to_z-of_z fv) at (sym c.in_range.ensures ∙ not-false _ c.if-not-in_range.false-raw) in
    let some = c.if-n-eq0.false in
    let known = c.if-low-i.false in
    let few = c.requires.0.few in
    (λ ns s r. rw (to_z-of_z fv) (assign_inside ns a.low.now a.high.now r s a.vals.now a.m.held a.m.picked a.cur.now a.id some known e), omega (arith, few))

pub assign_spec : {M : Type 1} → statement M
assign_spec =
    tie.close
    (tie.spec returns (λ c. search rules) returns-2 (λ c. search rules) (λ c. search rules) (λ c. search rules) (λ c. search rules)
    (λ c. search rules) (λ c. search rules) (λ c κs. search rules) returns-3 (λ c. search rules) (λ c. search rules) (λ c. search rules)
    returns-4)
