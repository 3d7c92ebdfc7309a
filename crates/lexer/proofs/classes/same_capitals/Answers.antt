use Rattle.std.proofs.Common.{refl, sym, ◌∙◌, arith}
use Rattle.lexer.proofs.Same.{name_begin, name_back, name_whole, name_apart, name_length}
use Rattle.lexer.proofs.classes.same_capitals.Goals as goal

pub returns-then-a-b : goal.returns-then-a-b
returns-then-a-b c = sym (name_length _ _ c.if-a-b.true)

pub loop-i-init : goal.loop-i-init
loop-i-init c = name_begin _ _ c.if-a-b.false _ refl

pub returns-then-not-same_letter : goal.returns-then-not-same_letter
returns-then-not-same_letter c = sym (name_apart _ _ _ (omega arith) (omega arith) (sym c.same_letter.ensures ∙ c.if-not-same_letter.true))

pub loop-i-preserved : goal.loop-i-preserved
loop-i-preserved c =
    name_back _ _ c.if-a-b.false _ (omega arith) c.loop-i.auto.i (sym c.same_letter.ensures ∙ c.if-not-same_letter.false) c.loop-i.invariant

pub returns : goal.returns
returns c = name_whole _ _ c.if-a-b.false _ c.loop-i-test.false c.loop-i.invariant
