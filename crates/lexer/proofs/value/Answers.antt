use Rattle.std.proofs.Common.{refl, arith}
use Rattle.lexer.specs.Lexer.{value_of}
use Rattle.lexer.proofs.Values.{value_next, value_over, value_whole}
use Rattle.lexer.proofs.value.Goals as goal

pub loop-b-init : goal.loop-b-init
unfolding value_of
loop-b-init c = (omega arith, refl)

pub returns-then-v-ge4294967296 : goal.returns-then-v-ge4294967296
returns-then-v-ge4294967296 c = value_over _ _ _ c.loop-b.invariant.1 _ c.loop-b-test.true c.from.ensures c.if-v-ge4294967296.true

pub loop-b-preserved : goal.loop-b-preserved
loop-b-preserved c = (c.if-v-ge4294967296.false, value_next _ _ _ c.loop-b.invariant.1 _ c.loop-b-test.true c.from.ensures)

pub returns : goal.returns
returns c = value_whole _ _ _ c.loop-b.invariant.1 c.loop-b-test.false c.loop-b.invariant.0
