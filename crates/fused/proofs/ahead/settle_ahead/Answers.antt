-- `fused::ahead::settle_ahead` meets its contract: a settle that the walk lets pass. Assumes nothing.
use Prim.Native.Nat.{◌<◌}
use mathlib.Core.Path.{sym}
use native.Mathlib.Omega.{arith}
use lib.ListN.{length}
use borrow.Author.Tests.{not-true, not-false}
use mir.Val.{SFits}
use mir.Syntax.{w32}
use mir.Facts.{to_z-of_z}
use Rattle.semantics.specs.Formula.{at}
use Rattle.bytecode.proofs.Fetching.{number_within}
use Rattle.machine.proofs.Changes.{settle_picked, settle_kept}
use Rattle.fused.proofs.Skipping.{settles}
use Rattle.fused.proofs.ahead.settle_ahead.Goals as goal

pub settle-requires : goal.settle-requires
settle-requires c = (c.requires.0, (number_within _ _ _ _ (sym c.in_ok-n.ensures)).operand)

-- nothing was picked
pub returns-then-not-b : goal.returns-then-not-b
returns-then-not-b c =
    let a = c.args in
    let num = sym c.in_ok-n.ensures in
    let low : c.in_ok-n.n < length a.prev.now = omega (arith, c.if-w-n.false, c.requires.1) in
    let f : SFits w32 (at a.prev.now c.in_ok-n.n) = record { sfits = c.cur-1.given } in
    settles a.code.now a.prev.now a.b a.cur.now (omega (arith, c.if-code-at.false)) c.if-code-at-ne22.false _ _ num _ c.settle.result c.in_ok-k.was c.settle.ensures.result_value c.settle.ensures.small_after _
    (λ ns vals e. rw (to_z-of_z f) (settle_kept ns a.prev.now vals a.b.walk.held c.in_ok-n.n a.cur.now e a.b.picked low (not-true _ c.if-not-b.true)))

pub returns-else-not-b : goal.returns-else-not-b
returns-else-not-b c =
    let a = c.args in
    let num = sym c.in_ok-n.ensures in
    let low : c.in_ok-n.n < length a.prev.now = omega (arith, c.if-w-n.false, c.requires.1) in
    let settling = c.if-code-at-ne22.false in
    settles a.code.now a.prev.now a.b a.cur.now (omega (arith, c.if-code-at.false)) settling _ _ num _ c.settle.result c.in_ok-k.was c.settle.ensures.result_value c.settle.ensures.small_after _
    (λ ns vals e. settle_picked ns a.prev.now vals a.b.walk.held c.in_ok-n.n a.cur.now e a.b.picked low (not-false _ c.if-not-b.false))
