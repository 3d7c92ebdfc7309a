-- The cycle of `condition`, `conjunction`, `atom`, `inverted` and `square`: an operand, then operators and operands, by the laws of
-- expressions' Chain; the others by the byte or the token at hand.
use Rattle.std.proofs.Common.{rules, arith}
use Rattle.limits.proofs.Exits.{handed_on}
use Rattle.lexer.specs.Token.{kind_number}
use Rattle.grammar.specs.Conditions.{conjunction, condition}
use Rattle.expressions.proofs.Chain.{turn_first, turn_room, turn_refused, turn_fits, turn_done, turn_less, turn_more}
use Rattle.expressions.proofs.Steps.{refuses, refused_now, same_part, ahead_fault, room_behind}
use Rattle.conditions.proofs.Opened.{opened_fits, tilde_room, square_room}
use Rattle.conditions.proofs.Ways.{ands, ors, atom_grows, conjunction_grows, atom_inverted, atom_square, atom_comparison, inverted_fault, inverted_refuses, inverted_accepts, inverted_none, square_fits, square_none, square_closes}
use Rattle.conditions.proofs.+atom_condition_conjunction_inverted_square.Goals as goal

pub condition-loop-behind-init : goal.condition-loop-behind-init
condition-loop-behind-init t c = search (turn_first ors, conjunction_grows)

pub condition-conjunction-requires : goal.condition-conjunction-requires
condition-conjunction-requires t c = search (turn_room ors, arith)

pub condition-returns-in_err-behind : goal.condition-returns-in_err-behind
unfolding condition
condition-returns-in_err-behind t c =
    rw (handed_on c.from_residual.ensures c.in_err-behind.was) (turn_refused ors _ _ c.loop-behind.invariant c.conjunction.ensures c.in_err-behind.was)

pub condition-put_operator-requires : goal.condition-put_operator-requires
condition-put_operator-requires t c = turn_fits ors _ _ c.loop-behind.invariant c.conjunction.ensures c.in_ok-behind.was

pub condition-returns-then-code-eq0 : goal.condition-returns-then-code-eq0
unfolding condition
condition-returns-then-code-eq0 t c = turn_done ors _ _ c.loop-behind.invariant c.conjunction.ensures c.in_ok-behind.was c.put_operator.ensures c.or_code-code.ensures c.if-code-eq0.true

pub condition-loop-behind-smaller : goal.condition-loop-behind-smaller
condition-loop-behind-smaller t c = turn_less ors _ _ c.loop-behind.invariant c.conjunction.ensures c.in_ok-behind.was c.put_operator.ensures c.or_code-code.ensures c.if-code-eq0.false

pub condition-loop-behind-preserved : goal.condition-loop-behind-preserved
condition-loop-behind-preserved t c = turn_more ors _ _ c.loop-behind.invariant c.conjunction.ensures c.in_ok-behind.was c.put_operator.ensures c.or_code-code.ensures c.if-code-eq0.false

pub conjunction-loop-behind-init : goal.conjunction-loop-behind-init
conjunction-loop-behind-init t c = search (turn_first ands, atom_grows)

pub conjunction-atom-requires : goal.conjunction-atom-requires
conjunction-atom-requires t c = search (turn_room ands, arith)

pub conjunction-returns-in_err-behind : goal.conjunction-returns-in_err-behind
unfolding conjunction
conjunction-returns-in_err-behind t c =
    rw (handed_on c.from_residual.ensures c.in_err-behind.was) (turn_refused ands _ _ c.loop-behind.invariant c.atom.ensures c.in_err-behind.was)

pub conjunction-put_operator-requires : goal.conjunction-put_operator-requires
conjunction-put_operator-requires t c = turn_fits ands _ _ c.loop-behind.invariant c.atom.ensures c.in_ok-behind.was

pub conjunction-returns-then-code-eq0 : goal.conjunction-returns-then-code-eq0
unfolding conjunction
conjunction-returns-then-code-eq0 t c = turn_done ands _ _ c.loop-behind.invariant c.atom.ensures c.in_ok-behind.was c.put_operator.ensures c.and_code-code.ensures c.if-code-eq0.true

pub conjunction-loop-behind-smaller : goal.conjunction-loop-behind-smaller
conjunction-loop-behind-smaller t c = turn_less ands _ _ c.loop-behind.invariant c.atom.ensures c.in_ok-behind.was c.put_operator.ensures c.and_code-code.ensures c.if-code-eq0.false

pub conjunction-loop-behind-preserved : goal.conjunction-loop-behind-preserved
conjunction-loop-behind-preserved t c = turn_more ands _ _ c.loop-behind.invariant c.atom.ensures c.in_ok-behind.was c.put_operator.ensures c.and_code-code.ensures c.if-code-eq0.false

pub atom-overflow_add-s : goal.atom-overflow_add-s
atom-overflow_add-s t c = search opened_fits

pub atom-overflow_add-s-then-first-eq-SQUARE_BYTE :
    goal.atom-overflow_add-s-then-first-eq-SQUARE_BYTE
atom-overflow_add-s-then-first-eq-SQUARE_BYTE t c = search opened_fits

pub atom-inverted-requires : goal.atom-inverted-requires
atom-inverted-requires t c = search (arith, tilde_room)

pub atom-returns-then-first-eq-TILDE_BYTE : goal.atom-returns-then-first-eq-TILDE_BYTE
atom-returns-then-first-eq-TILDE_BYTE t c = search (same_part, atom_inverted)

pub atom-square-requires : goal.atom-square-requires
atom-square-requires t c = search (arith, square_room)

pub atom-returns-then-first-eq-SQUARE_BYTE : goal.atom-returns-then-first-eq-SQUARE_BYTE
atom-returns-then-first-eq-SQUARE_BYTE t c = search (same_part, atom_square)

pub atom-returns : goal.atom-returns
atom-returns t c = search (same_part, atom_comparison)

pub inverted-returns-in_default : goal.inverted-returns-in_default
unfolding kind_number
inverted-returns-in_default t c = ahead_fault _ _ _ c.in_default.is c.ahead-read.ensures (inverted_fault _ _ _ _ _ _)

pub inverted-square-requires : goal.inverted-square-requires
unfolding kind_number
inverted-square-requires t c = (search arith, (c.requires.declared, room_behind _ _ _ c.in-Ok.is c.ahead-read.ensures c.requires.room))

pub inverted-returns-in_err-behind : goal.inverted-returns-in_err-behind
unfolding kind_number
inverted-returns-in_err-behind t c = rw (handed_on c.from_residual.ensures c.in_err-behind.was)
    (inverted_refuses _ _ _ _ _ _ _ c.in-Ok.is c.ahead-read.ensures c.if-here-eq-OPEN_SQUARE.true c.square.ensures c.in_err-behind.was)

pub inverted-put_byte-requires : goal.inverted-put_byte-requires
unfolding kind_number
inverted-put_byte-requires t c =
    square_fits _ _ _ _ _ _ _ c.in_ok-behind.was c.square.ensures c.in-Ok.is c.ahead-read.ensures c.if-here-eq-OPEN_SQUARE.true c.requires.declared c.requires.room

pub inverted-returns-then-here-eq-OPEN_SQUARE : goal.inverted-returns-then-here-eq-OPEN_SQUARE
unfolding kind_number
inverted-returns-then-here-eq-OPEN_SQUARE t c =
    inverted_accepts _ _ _ _ _ _ _ c.in-Ok.is c.ahead-read.ensures c.if-here-eq-OPEN_SQUARE.true c.square.ensures c.in_ok-behind.was c.put_byte.ensures

pub inverted-returns : goal.inverted-returns
unfolding kind_number
inverted-returns t c =
    refuses (refused_now (inverted_none _ _ _ _ _ _ _ c.in-Ok.is c.ahead-read.ensures c.if-here-eq-OPEN_SQUARE.false))

pub square-returns-then-left-eq0 : goal.square-returns-then-left-eq0
unfolding kind_number
square-returns-then-left-eq0 t c = search (refuses, refused_now, square_none)

pub square-returns : goal.square-returns
unfolding kind_number
square-returns t c = search square_closes
