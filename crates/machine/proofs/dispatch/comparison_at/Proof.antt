-- `machine::dispatch::comparison_at` meets its contract: what it reads is a value, a constant and a comparison. Assumes nothing.
use Prim.Native.Nat.{◌+◌}
use mathlib.Core.Path.{◌≡◌}
use native.Mathlib.Omega.{arith}
use lib.IntN.{pos}
use lib.ListN.{get_or}
use mir.Val.{SFits}
use mir.Syntax.{w32}
use mir.Facts.{to_z-of_z}
use Rattle.leb128.specs.Numbers.{unzigzag}
use Rattle.semantics.specs.Formula.{at as value_at}
use Rattle.machine.specs.Inner.Groups.{truth_of}
use Rattle.machine.proofs.Dispatching.{previous_compared, current_compared}
use borrow.Author.Rules.{rules}
use Rattle.machine.proofs.dispatch.comparison_at.Statement.{statement}
use Rattle.machine.proofs.dispatch.comparison_at.Tie as tie

returns-12 : tie.Need-returns-then-byte-eq3
returns-12 c =
    let a = c.args in
    let code = a.code.now in
    let i = c.from-id.ensures in
    let n = c.from-n.ensures in
    let fx : SFits w32 (get_or a.prev.now c.from-id.result (pos 0)) = search rules in
    let fy : SFits w32 c.unzigzag.result = search rules in
    let f : c.truth.result ≡ truth_of (get_or code (a.at + 4) 0) (value_at a.prev.now (get_or code (a.at + 1) 0)) (unzigzag (get_or code (a.at + 3) 0)) =
    rw (to_z-of_z fx, to_z-of_z fy, c.unzigzag.ensures, i, n) at c.truth.ensures in
    previous_compared code a.prev.now a.cur.now a.at a.held a.left c.truth.result c.if-code-at.false c.if-code-at-ne1.false c.if-op-lt10.false (omega (arith, c.if-op-gt15.false)) c.if-left-lt3.false
    (omega (arith, c.if-id-gt127.false, i)) (omega (arith, c.if-prev-i.false, i)) (omega (arith, c.if-n-gt127.false, n)) (omega (arith, c.if-held-ge-STACK_LIMIT.false)) c.if-byte-eq3.true f

returns-13 : tie.Need-returns
returns-13 c =
    let a = c.args in
    let code = a.code.now in
    let i = c.from-id.ensures in
    let n = c.from-n.ensures in
    let fx : SFits w32 (get_or a.cur.now c.from-id.result (pos 0)) = search rules in
    let fy : SFits w32 c.unzigzag-2.result = search rules in
    let f : c.truth-2.result ≡ truth_of (get_or code (a.at + 4) 0) (value_at a.cur.now (get_or code (a.at + 1) 0)) (unzigzag (get_or code (a.at + 3) 0)) =
    rw (to_z-of_z fx, to_z-of_z fy, c.unzigzag-2.ensures, i, n) at c.truth-2.ensures in
    current_compared code a.prev.now a.cur.now a.at a.held a.left c.truth-2.result c.if-code-at.false c.if-code-at-ne1.false c.if-op-lt10.false (omega (arith, c.if-op-gt15.false)) c.if-left-lt3.false
    (omega (arith, c.if-id-gt127.false, i)) (omega (arith, c.if-prev-i.false, i)) (omega (arith, c.if-n-gt127.false, n)) (omega (arith, c.if-held-ge-STACK_LIMIT.false)) (omega (arith, c.if-byte-lt2.false, c.if-byte-gt3.false, c.if-byte-eq3.false)) f

pub comparison_at_spec : {M : Type 1} → statement M
comparison_at_spec =
    tie.close
    (tie.spec (λ c. search rules) (λ c. search rules) (λ c. search rules) (λ c. search rules) (λ c. search rules) (λ c. search rules)
    (λ c. search rules) (λ c. search rules) (λ c. search rules) (λ c. search rules) (λ c. search rules) (λ c. search rules) (λ c. search rules)
    (λ c. search rules) (λ c. search rules) (λ c κs. search rules) (λ c. search rules) (λ c. search rules) (λ c. search rules) (λ c. search rules)
    (λ c κs. search rules) (λ c. search rules) (λ c. search rules) (λ c. search rules) (λ c. search rules) (λ c. search rules) (λ c κs. search rules)
    (λ c κs. search rules) returns-12 (λ c. search rules) (λ c. search rules) (λ c κs. search rules) (λ c κs. search rules) returns-13)
