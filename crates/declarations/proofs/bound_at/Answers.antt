-- `declarations::bound_at` meets its contract. Assumes nothing.
use mathlib.Core.Path.{sym, ◌∙◌}
use Rattle.arith.proofs.Laws.{same32}
use Rattle.lexer.specs.Token.{kind_number, minus}
use Rattle.lexer.proofs.KindNumbers.{kind_is, kind_is_not}
use Rattle.lexer.proofs.Tokens.{is_token, is_fault}
use Rattle.declarations.proofs.Bounds.{no_token_lem, bound_fault, bound_plain, bound_minus, bound_minus_fault}
use Rattle.declarations.proofs.bound_at.Goals as goal

pub returns-in_default : goal.returns-in_default
returns-in_default c =
    let f = is_fault _ _ _ (c.token_at-read.ensures.value, c.token_at-read.ensures.placed_in) _ c.in_default.is in
    no_token_lem c.in_default.is f.1 ∙ sym (bound_fault _ _ _ _ f.0)

pub returns-in_default-next : goal.returns-in_default-next
unfolding kind_number
returns-in_default-next c =
    let t = is_token _ _ _ (c.token_at-read.ensures.value, c.token_at-read.ensures.placed_in) _ c.in-Ok.is in
    let f = is_fault _ _ _ (c.token_at-next.ensures.value, c.token_at-next.ensures.placed_in) _ c.in_default-next.is in
    no_token_lem c.in_default-next.is f.1 ∙ sym (bound_minus_fault _ _ _ _ _ _ t.0 (kind_is _ minus c.if-token-eq-MINUS.true) _ f.0)

pub digits-requires : goal.digits-requires
digits-requires c = (is_token _ _ _ (c.token_at-next.ensures.value, c.token_at-next.ensures.placed_in) _ c.in-Ok-next.is).1.known_kind

pub returns-then-token-eq-MINUS : goal.returns-then-token-eq-MINUS
unfolding kind_number
returns-then-token-eq-MINUS c =
    let t = is_token _ _ _ (c.token_at-read.ensures.value, c.token_at-read.ensures.placed_in) _ c.in-Ok.is in
    let t2 = is_token _ _ _ (c.token_at-next.ensures.value, c.token_at-next.ensures.placed_in) _ c.in-Ok-next.is in
    rw (same32 c.ranges.low, same32 c.ranges.high) at c.digits.ensures
    ∙ sym (bound_minus _ _ _ _ _ _ t.0 (kind_is _ minus c.if-token-eq-MINUS.true) _ _ _ t2.0)

pub digits-requires-2 : goal.digits-requires-2
digits-requires-2 c = (is_token _ _ _ (c.token_at-read.ensures.value, c.token_at-read.ensures.placed_in) _ c.in-Ok.is).1.known_kind

pub returns : goal.returns
unfolding kind_number
returns c =
    let t = is_token _ _ _ (c.token_at-read.ensures.value, c.token_at-read.ensures.placed_in) _ c.in-Ok.is in
    rw (same32 c.ranges.low, same32 c.ranges.high) at c.digits-2.ensures
    ∙ sym (bound_plain _ _ _ _ _ _ t.0 (kind_is_not _ minus t.1.known_kind c.if-token-eq-MINUS.false))
