-- `cases::plain_list` meets its contract. Assumes nothing.
use mathlib.Core.Path.{sym, ◌∙◌}
use native.Mathlib.Omega.{arith}
use Rattle.limits.proofs.Exits.{handed_on}
use Rattle.lexer.specs.Token.{kind_number}
use Rattle.lexer.specs.Results.{kind_of}
use Rattle.lexer.proofs.Tokens.{is_fault}
use Rattle.expressions.proofs.Steps.{accepted_by, refused_by}
use Rattle.expressions.proofs.Scopes.{few_names}
use Rattle.phrases.proofs.Laws.{same_kinds, other_kinds}
use Rattle.cases.proofs.Listing.{found_token, listing_fault, listing_full, listing_other, listing_refused, listing_last, listing_more}
use Rattle.cases.proofs.plain_list.Goals as goal

pub returns-in_default : goal.returns-in_default
returns-in_default c =
    listing_fault c.loop-bracket.invariant c.in_default.is (is_fault _ _ _ (c.token_at-read.ensures.value, c.token_at-read.ensures.placed_in) _ c.in_default.is)

pub returns-then-bracket-ne-OPEN_SQUARE : goal.returns-then-bracket-ne-OPEN_SQUARE
unfolding kind_of
returns-then-bracket-ne-OPEN_SQUARE c =
    let f = found_token _ _ (c.token_at-read.ensures.value, c.token_at-read.ensures.placed_in) c.in-Ok.is in
    listing_other c.loop-bracket.invariant f (other_kinds _ _ f.lies.known_kind (omega arith) c.if-bracket-ne-OPEN_SQUARE.true)

pub returns-then-left-eq0 : goal.returns-then-left-eq0
unfolding kind_of
returns-then-left-eq0 c =
    let f = found_token _ _ (c.token_at-read.ensures.value, c.token_at-read.ensures.placed_in) c.in-Ok.is in
    listing_full c.loop-bracket.invariant f (same_kinds _ 19 c.if-bracket-ne-OPEN_SQUARE.false) c.if-left-eq0.true

pub returns-in_err-behind : goal.returns-in_err-behind
unfolding kind_of
returns-in_err-behind c =
    let f = found_token _ _ (c.token_at-read.ensures.value, c.token_at-read.ensures.placed_in) c.in-Ok.is in
    let i = same_kinds _ 19 c.if-bracket-ne-OPEN_SQUARE.false in
    rw (handed_on c.from_residual.ensures c.in_err-behind.was)
    (listing_refused c.loop-bracket.invariant f c.if-left-eq0.false i c.in_err-behind.was (refused_by c.listed.ensures c.in_err-behind.was))

pub returns-then-behind-ne-BAR : goal.returns-then-behind-ne-BAR
unfolding kind_of kind_number
returns-then-behind-ne-BAR c =
    let f = found_token _ _ (c.token_at-read.ensures.value, c.token_at-read.ensures.placed_in) c.in-Ok.is in
    let i = same_kinds _ 19 c.if-bracket-ne-OPEN_SQUARE.false in
    let x = accepted_by c.listed.ensures c.in_ok-behind.was in
    c.expect.ensures ∙ sym (listing_last c.loop-bracket.invariant f c.if-left-eq0.false i x c.if-behind-ne-BAR.true)

pub loop-bracket-preserved : goal.loop-bracket-preserved
unfolding kind_of kind_number
loop-bracket-preserved c =
    let f = found_token _ _ (c.token_at-read.ensures.value, c.token_at-read.ensures.placed_in) c.in-Ok.is in
    let i = same_kinds _ 19 c.if-bracket-ne-OPEN_SQUARE.false in
    let x = accepted_by c.listed.ensures c.in_ok-behind.was in
    listing_more c.loop-bracket.invariant f c.if-left-eq0.false i x (few_names _ c.requires.declared) c.if-behind-ne-BAR.false
