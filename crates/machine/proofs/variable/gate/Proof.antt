-- `machine::variable::gate` meets its contract. The value on top decides, then whether a pick was done. Assumes nothing.
use mathlib.Core.Bool.{true, false}
use mathlib.Core.Path.{◌≡◌, sym, ◌∙◌}
use Prim.Native.Nat.{◌-◌}
use native.Mathlib.Omega.{arith}
use borrow.Author.Tests.{not-true, not-false}
use borrow.Author.Rules.{rules}
use lib.ListN.{get_or}
use lib.IntN.{pos}
use mir.Val.{SFits}
use mir.Syntax.{w32}
use mir.Facts.{to_z-of_z}
use Rattle.machine.proofs.Stack.{pop_none, pop-top}
use Rattle.machine.specs.Step.{yes}
use Rattle.machine.proofs.variable.gate.Statement.{statement}
use Rattle.machine.proofs.variable.gate.Tie as tie

returns : tie.Need-returns-then-n-eq0
returns c = (λ ns s t. pop_none c.args.vals.now c.args.m.held _ c.if-n-eq0.true, search rules)

returns-2 : tie.Need-returns-then-not-is_yes
returns-2 c =
    let l = c.args.vals.now in
    let n = c.args.m.held in
    let f : SFits w32 (get_or l (n - 1) (pos 0)) = record { sfits = c.is_yes-arg-1.given } in
    let e : yes (get_or l (n - 1) (pos 0)) ≡ false = rw (to_z-of_z f) at (sym c.is_yes.ensures ∙ not-true _ c.if-not-is_yes.true-raw) in
    (λ ns s t. rw (pop-top l n _ c.if-n-eq0.false, e), omega (arith, c.requires.few))

returns-3 : tie.Need-returns-then-picked
returns-3 c =
    let l = c.args.vals.now in
    let n = c.args.m.held in
    let f : SFits w32 (get_or l (n - 1) (pos 0)) = record { sfits = c.is_yes-arg-1.given } in
    let e : yes (get_or l (n - 1) (pos 0)) ≡ true = rw (to_z-of_z f) at (sym c.is_yes.ensures ∙ not-false _ c.if-not-is_yes.false-raw) in
    (λ ns s t. rw (pop-top l n _ c.if-n-eq0.false, e, c.if-picked.true), search rules)

returns-4 : tie.Need-returns
returns-4 c =
    let l = c.args.vals.now in
    let n = c.args.m.held in
    let f : SFits w32 (get_or l (n - 1) (pos 0)) = record { sfits = c.is_yes-arg-1.given } in
    let e : yes (get_or l (n - 1) (pos 0)) ≡ true = rw (to_z-of_z f) at (sym c.is_yes.ensures ∙ not-false _ c.if-not-is_yes.false-raw) in
    (λ ns s t. rw (pop-top l n _ c.if-n-eq0.false, e, c.if-picked.false), omega (arith, c.requires.few))

pub gate_spec : {M : Type 1} → statement M
gate_spec =
    tie.close
    (tie.spec returns (λ c. search rules) (λ c. search rules) (λ c. search rules) (λ c κs. search rules) returns-2 returns-3 returns-4)
