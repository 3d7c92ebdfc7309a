use Rattle.std.proofs.Common.{◌≡◌, ℤ, Bool, ◌&&◌, sym, ◌∙◌, rules}
use lib.Signed.{le_z}
use mir.Val.{SFits, to_z, of_z}
use mir.Syntax.{w32}
use mir.Facts.{to_z-of_z}
use Rattle.semantics.specs.Formula.{at}
use Rattle.machine.proofs.InRange.{testing_ends, testing_fails, testing_goes}
use Rattle.machine.proofs.lists.all_in_range.Goals as goal

-- `in_range` is asked of the values' bits
asked : (low high v : ℤ) → SFits w32 low → SFits w32 high → SFits w32 v → {t : Bool}
    → (le_z (to_z w32 (of_z w32 low)) (to_z w32 (of_z w32 v)) && le_z (to_z w32 (of_z w32 v)) (to_z w32 (of_z w32 high))) ≡ t → (le_z low v && le_z v high) ≡ t
asked low high v l h f e = rw (to_z-of_z l, to_z-of_z h, to_z-of_z f) at e

pub returns-then-not-in_range : goal.returns-then-not-in_range
returns-then-not-in_range c =
    let a = c.args in
    let i = c.loop-i.i in
    testing_fails c.loop-i.invariant c.loop-i-test.true c.requires.0
    (asked (at a.low.now i) (at a.high.now i) (at a.values.now i) (search rules) (search rules) (search rules) (sym c.in_range.ensures ∙ c.if-not-in_range.true))

pub loop-i-preserved : goal.loop-i-preserved
loop-i-preserved c =
    let a = c.args in
    let i = c.loop-i.i in
    testing_goes c.loop-i.invariant c.loop-i-test.true c.requires.0
    (asked (at a.low.now i) (at a.high.now i) (at a.values.now i) (search rules) (search rules) (search rules) (sym c.in_range.ensures ∙ c.if-not-in_range.false))

pub returns : goal.returns
returns c = testing_ends c.loop-i.invariant c.loop-i-test.false
