-- `declarations::start_at` meets its contract. Assumes nothing.
use mathlib.Core.Path.{sym, ap, ◌∙◌}
use borrow.Author.Rules.{rules}
use mir.Syntax.{w32}
use mir.Val.{SFits}
use Rattle.limits.proofs.Exits.{handed_on}
use Rattle.arith.proofs.Laws.{same32}
use Rattle.lexer.specs.Token.{kind_number, init_word, semicolon}
use Rattle.lexer.specs.Results.{kind_of}
use Rattle.lexer.proofs.KindNumbers.{kind_is, kind_is_not}
use Rattle.lexer.proofs.Tokens.{is_token, is_fault}
use Rattle.phrases.specs.Inner.Steps.{parsed_of, value_told}
use Rattle.phrases.proofs.Writing.{found}
use Rattle.declarations.proofs.Bounds.{no_token_lem, no_sign, start_fault, start_refused, start_open, start_closed, start_absent, start_other}
use Rattle.declarations.proofs.start_at.Goals as goal

pub returns-in_default : goal.returns-in_default
returns-in_default c =
    let f = is_fault _ _ _ (c.token_at-read.ensures.value, c.token_at-read.ensures.placed_in) _ c.in_default.is in
    no_token_lem c.in_default.is f.1 ∙ sym (start_fault _ _ _ _ _ f.0)

pub returns-in_err-z : goal.returns-in_err-z
unfolding kind_number
returns-in_err-z c =
    let t = is_token _ _ _ (c.token_at-read.ensures.value, c.token_at-read.ensures.placed_in) _ c.in-Ok.is in
    let b = rw (same32 c.ranges.low, same32 c.ranges.high) at c.bound_at.ensures in
    rw (handed_on c.from_residual.ensures c.in_err-z.was)
    (ap (parsed_of value_told) c.in_err-z.was
    ∙ sym (start_refused _ _ _ _ _ _ _ t.0 (kind_is _ init_word c.if-token-eq-INIT.true) _ _ (sym b ∙ ap (parsed_of value_told) c.in_err-z.was)))

pub returns-in_err-after : goal.returns-in_err-after
unfolding kind_number kind_of
returns-in_err-after c =
    let t = is_token _ _ _ (c.token_at-read.ensures.value, c.token_at-read.ensures.placed_in) _ c.in-Ok.is in
    let b = rw (same32 c.ranges.low, same32 c.ranges.high) at c.bound_at.ensures in
    let u = no_sign _ c.expect.ensures c.in_err-after.was in
    rw (handed_on c.from_residual-in_err-after.ensures c.in_err-after.was)
    (u.1 ∙ sym (start_open _ _ _ _ _ _ _ t.0 (kind_is _ init_word c.if-token-eq-INIT.true) _ _ (sym b ∙ ap (parsed_of value_told) c.in_ok-z.was) _ _ u.0))

pub returns-then-token-eq-INIT : goal.returns-then-token-eq-INIT
unfolding kind_number kind_of
returns-then-token-eq-INIT c =
    let t = is_token _ _ _ (c.token_at-read.ensures.value, c.token_at-read.ensures.placed_in) _ c.in-Ok.is in
    let b = rw (same32 c.ranges.low, same32 c.ranges.high) at c.bound_at.ensures in
    let f : SFits w32 c.in_ok-z.z.value = search rules in
    ap (parsed_of value_told) c.valued.ensures
    ∙ rw (same32 f)
    (sym (start_closed _ _ _ _ _ _ _ t.0 (kind_is _ init_word c.if-token-eq-INIT.true) _ _ (sym b ∙ ap (parsed_of value_told) c.in_ok-z.was) _ (found c.expect.ensures c.in_ok-after.was)))

pub returns-then-token-eq-SEMICOLON : goal.returns-then-token-eq-SEMICOLON
unfolding kind_number
returns-then-token-eq-SEMICOLON c =
    let t = is_token _ _ _ (c.token_at-read.ensures.value, c.token_at-read.ensures.placed_in) _ c.in-Ok.is in
    rw (same32 c.ranges.low, same32 c.ranges.high) at c.absent.ensures
    ∙ sym (start_absent _ _ _ _ _ _ _ t.0 (kind_is_not _ init_word t.1.known_kind c.if-token-eq-INIT.false) (kind_is _ semicolon c.if-token-eq-SEMICOLON.true))

pub returns : goal.returns
unfolding kind_number
returns c =
    let t = is_token _ _ _ (c.token_at-read.ensures.value, c.token_at-read.ensures.placed_in) _ c.in-Ok.is in
    sym (start_other _ _ _ _ _ _ _ t.0 (kind_is_not _ init_word t.1.known_kind c.if-token-eq-INIT.false) (kind_is_not _ semicolon t.1.known_kind c.if-token-eq-SEMICOLON.false))
