-- `conditions::comparison` meets its contract: a refused expression, no sign, a refused second expression, or a comparison. Assumes
-- nothing.
use mathlib.Core.Path.{refl}
use native.Mathlib.Omega.{arith}
use borrow.Author.Rules.{rules}
use Rattle.expressions.proofs.Steps.{accepted_by, passed, refuses, refused_now, accepts_up_to, room_after, room_next}
use Rattle.expressions.proofs.Ways.{expression_grows}
use Rattle.conditions.proofs.Ways.{comparison_refuses, comparison_none, second_refuses, second_room, comparison_accepts}
use Rattle.limits.proofs.Exits.{handed_on}
use Rattle.conditions.proofs.comparison.Goals as goal

pub returns-in_err-sign : goal.returns-in_err-sign
returns-in_err-sign c = rw (handed_on c.from_residual.ensures c.in_err-sign.was) (passed c.expression.ensures c.in_err-sign.was (comparison_refuses _ _ _))

pub returns-then-code-eq0 : goal.returns-then-code-eq0
returns-then-code-eq0 c = refuses (refused_now (comparison_none _ _ _ (accepted_by c.expression.ensures c.in_ok-sign.was) c.comparison_code-code.ensures c.if-code-eq0.true))

pub expression-requires-2 : goal.expression-requires-2
expression-requires-2 c = let a = accepted_by c.expression.ensures c.in_ok-sign.was in
    record { declared = c.requires.declared; room = room_next (room_after c.requires.room (expression_grows c.requires.declared _ c.requires.room) a) a.stands }

pub returns-in_err-behind : goal.returns-in_err-behind
returns-in_err-behind c = rw (handed_on c.from_residual-in_err-behind.ensures c.in_err-behind.was) (passed c.expression-2.ensures c.in_err-behind.was (second_refuses _ _ _ (accepted_by c.expression.ensures c.in_ok-sign.was) c.comparison_code-code.ensures c.if-code-eq0.false))

pub put_byte-requires : goal.put_byte-requires
put_byte-requires c = let a = accepted_by c.expression.ensures c.in_ok-sign.was in
    let b = accepted_by c.expression-2.ensures c.in_ok-behind.was in
    let r = room_after c.requires.room (expression_grows c.requires.declared _ c.requires.room) a in
    let s = second_room _ _ _ a c.comparison_code-code.ensures c.if-code-eq0.false b r (expression_grows c.requires.declared _ (room_next r a.stands)) in
    omega (arith, s.short, s.within, s.room)

pub returns : goal.returns
returns c = let b = accepted_by c.expression-2.ensures c.in_ok-behind.was in
    accepts_up_to refl (comparison_accepts _ _ _ (accepted_by c.expression.ensures c.in_ok-sign.was) c.comparison_code-code.ensures c.if-code-eq0.false b c.put_byte.ensures.0 c.put_byte.ensures.1)
