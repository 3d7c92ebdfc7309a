-- `rules::rules_in` meets its contract. Assumes nothing.
use native.Mathlib.Omega.{arith}
use Rattle.limits.proofs.Exits.{handed_on}
use Rattle.lexer.specs.Results.{kind_of}
use Rattle.lexer.proofs.Tokens.{is_fault}
use Rattle.phrases.proofs.Laws.{same_kinds, other_kinds}
use Rattle.phrases.proofs.Writing.{got, refused_part}
use Rattle.cases.proofs.Listing.{found_token}
use Rattle.rules.proofs.Putting.{timers_from_lem, few_bytes}
use Rattle.rules.proofs.Ruling.{declared_as, ruling_first, ruling_fault, ruling_end, ruling_refused, ruling_declared, ruling_near, ruling_less, ruling_more}
use Rattle.rules.proofs.rules_in.Goals as goal

pub loop-token-init : goal.loop-token-init
loop-token-init c = ruling_first _ _ _ _ _ _ _ _ _ c.requires.room

pub returns-in_default : goal.returns-in_default
returns-in_default c =
    let d = declared_as c.requires.declared c.loop-token.known in
    let f = is_fault _ _ _ (c.token_at-read.ensures.value, c.token_at-read.ensures.placed_in) _ c.in_default.is in
    ruling_fault c.loop-token.invariant d c.in_default.is f

pub returns-then-token-ne-NAME : goal.returns-then-token-ne-NAME
unfolding kind_of
returns-then-token-ne-NAME c =
    let d = declared_as c.requires.declared c.loop-token.known in
    let f = found_token _ _ (c.token_at-read.ensures.value, c.token_at-read.ensures.placed_in) c.in-Ok.is in
    ruling_end c.loop-token.invariant d f (other_kinds _ _ f.lies.known_kind (omega arith) c.if-token-ne-NAME.true)

pub returns-in_err-b : goal.returns-in_err-b
unfolding kind_of
returns-in_err-b c =
    let d = declared_as c.requires.declared c.loop-token.known in
    let f = found_token _ _ (c.token_at-read.ensures.value, c.token_at-read.ensures.placed_in) c.in-Ok.is in
    let i = same_kinds _ 2 c.if-token-ne-NAME.false in
    rw (handed_on c.from_residual.ensures c.in_err-b.was)
    (ruling_refused c.loop-token.invariant d f i c.in_err-b.was (refused_part (c.rule.ensures _ (timers_from_lem _ _ _ _)) c.in_err-b.was))

pub ruled-more-requires : goal.ruled-more-requires
unfolding kind_of
ruled-more-requires c =
    let d = declared_as c.requires.declared c.loop-token.known in
    let f = found_token _ _ (c.token_at-read.ensures.value, c.token_at-read.ensures.placed_in) c.in-Ok.is in
    let i = same_kinds _ 2 c.if-token-ne-NAME.false in
    ruling_declared c.loop-token.invariant d f i (got (c.rule.ensures _ (timers_from_lem _ _ _ _)) c.in_ok-b.was)

pub timers_of-behind-requires-clause-count_le_name_limit : goal.timers_of-behind-requires-clause-count_le_name_limit
unfolding kind_of
timers_of-behind-requires-clause-count_le_name_limit c =
    let d = declared_as c.requires.declared c.loop-token.known in
    let f = found_token _ _ (c.token_at-read.ensures.value, c.token_at-read.ensures.placed_in) c.in-Ok.is in
    let i = same_kinds _ 2 c.if-token-ne-NAME.false in
    let g = got (c.rule.ensures _ (timers_from_lem _ _ _ _)) c.in_ok-b.was in
    (c.requires.declared.few, ruling_declared c.loop-token.invariant d f i g, ruling_near c.loop-token.invariant d f i g)

pub loop-token-smaller : goal.loop-token-smaller
unfolding kind_of
loop-token-smaller c =
    let d = declared_as c.requires.declared c.loop-token.known in
    let f = found_token _ _ (c.token_at-read.ensures.value, c.token_at-read.ensures.placed_in) c.in-Ok.is in
    let i = same_kinds _ 2 c.if-token-ne-NAME.false in
    let g = got (c.rule.ensures _ (timers_from_lem _ _ _ _)) c.in_ok-b.was in
    let few = few_bytes _ _ _ _ _ (ruling_declared c.loop-token.invariant d f i g) c.requires.declared.few in
    ruling_less c.loop-token.invariant d f i g c.ruled-more.result c.ruled-more.ensures.1 c.timers_of-behind.ensures few

pub loop-token-preserved : goal.loop-token-preserved
unfolding kind_of
loop-token-preserved c =
    let d = declared_as c.requires.declared c.loop-token.known in
    let f = found_token _ _ (c.token_at-read.ensures.value, c.token_at-read.ensures.placed_in) c.in-Ok.is in
    let i = same_kinds _ 2 c.if-token-ne-NAME.false in
    let g = got (c.rule.ensures _ (timers_from_lem _ _ _ _)) c.in_ok-b.was in
    let few = few_bytes _ _ _ _ _ (ruling_declared c.loop-token.invariant d f i g) c.requires.declared.few in
    ruling_more c.loop-token.invariant d f i g c.ruled-more.result c.ruled-more.ensures.1 c.timers_of-behind.ensures few
