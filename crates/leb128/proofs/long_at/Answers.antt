-- Group by group, at most five.
use Rattle.std.proofs.Common.{sym, ◌∙◌, arith, rules, ◌+◌, ◌-◌, ◌*◌, ◌<◌}
use Rattle.leb128.specs.Numbers.{below32, number_at}
use Rattle.leb128.specs.Inner.Groups.{joined_groups}
use Rattle.leb128.proofs.Laws.{at_end_lem, at_last, low_below, joined_first, joined_at, joined_over}
use Rattle.leb128.proofs.long_at.Goals as goal

pub loop-i-init : goal.loop-i-init
unfolding number_at
loop-i-init c = (search rules, search rules, rw joined_first)

pub returns-then-byte-lt128 : goal.returns-then-byte-lt128
returns-then-byte-lt128 c =
    let l = c.loop-i in
    c.last.ensures ∙ rw (l.invariant.2, at_last c.args.s.now l.i (omega arith) (omega arith), c.from-byte.ensures)

-- five groups, and another would follow
pub returns-then-scale-ge-FIFTH : goal.returns-then-scale-ge-FIFTH
returns-then-scale-ge-FIFTH c =
    sym (c.loop-i.invariant.2 ∙ joined_at _ _ _ _ c.loop-i-test.true (omega arith) ∙ joined_over _ _ _ _ (omega arith))

-- what the groups so far count stays below what a 1 of the next counts
pub loop-i-preserved : goal.loop-i-preserved
loop-i-preserved c =
    let l = c.loop-i in
    let below : l.low + (c.from-byte.result - 128) * l.scale < l.scale * 128 = low_below _ _ _ l.invariant.0 (omega (arith, c.type_inv.s l.i)) in
    (omega (arith, below), omega arith, rw c.from-byte.ensures (l.invariant.2 ∙ joined_at _ _ _ _ c.loop-i-test.true (omega arith)))

-- cut short
pub returns : goal.returns
unfolding joined_groups below32
returns c = sym (c.loop-i.invariant.2 ∙ rw (at_end_lem _ _ c.loop-i-test.false))
