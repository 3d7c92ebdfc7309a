-- `checker::advance::may_pick` meets its contract. Assumes nothing.
use Prim.Native.Nat.{ℕ}
use mathlib.Core.Path.{◌≡◌, sym, ap, ◌∙◌}
use native.Mathlib.Omega.{arith}
use Rattle.bytecode.specs.Check.{fresh}
use Rattle.checker.specs.Inner.Walk.{side_of, picks_of}
use Rattle.checker.proofs.Steps.{begin_is, fresh_same, fresh_not, fresh_falling}
use borrow.Author.Rules.{rules}
use Rattle.checker.proofs.advance.may_pick.Statement.{statement}
use Rattle.checker.proofs.advance.may_pick.Tie as tie

returns : tie.Need-returns-then-w-eq0
returns c = rw c.if-w-eq0.true (sym (begin_is c.args.side c.requires.0))

returns-2 : tie.Need-returns-then-w-id
returns-2 c = sym (fresh_same _ _ _ c.requires.0 c.if-w-id.true)

returns-3 : tie.Need-returns-then-side-lt-FALLING
returns-3 c = sym (fresh_not _ _ _ c.if-w-eq0.false c.if-side-lt-FALLING.true c.if-w-id.false)

returns-4 : tie.Need-returns
returns-4 c =
    let a = c.args in
    let e : a.side ≡ 2 = omega (arith, c.requires.0, c.if-side-lt-FALLING.false) in
    sym (ap (λ (k : ℕ). fresh (picks_of a.w.picking) (side_of k) a.id) e ∙ fresh_falling a.w.picking a.id c.if-w-eq0.false (λ h. c.if-w-id.false (omega (arith, h, e))))

pub may_pick_spec : {M : Type 1} → statement M
may_pick_spec =
    tie.close
    (tie.spec returns (λ c. search rules) (λ c. search rules) (λ c. search rules) returns-2 returns-3 (λ c. search rules) (λ c. search rules) returns-4)
