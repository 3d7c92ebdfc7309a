-- `watches::watches` meets its contract. Assumes nothing.
use Rattle.limits.proofs.Exits.{handed_on}
use Rattle.lexer.specs.Token.{kind_number}
use Rattle.lexer.proofs.Tokens.{is_fault}
use Rattle.expressions.proofs.Scopes.{few_names}
use Rattle.phrases.proofs.Writing.{got, refused_part}
use Rattle.cases.proofs.Listing.{found_token}
use Rattle.watches.proofs.Reading.{reading_end, reading_full, reading_room, reading_refused, reading_fault, reading_more}
use Rattle.watches.proofs.watches.Goals as goal

pub returns-then-count-eq-WATCH_LIMIT : goal.returns-then-count-eq-WATCH_LIMIT
unfolding kind_number
returns-then-count-eq-WATCH_LIMIT c = reading_full c.loop-kind.invariant c.loop-kind-test.true c.if-count-eq-WATCH_LIMIT.true

pub watch-requires-clause-room : goal.watch-requires-clause-room
unfolding kind_number
watch-requires-clause-room c = reading_room c.loop-kind.invariant c.loop-kind-test.true

pub returns-in_err-b : goal.returns-in_err-b
unfolding kind_number
returns-in_err-b c =
    rw (handed_on c.from_residual.ensures c.in_err-b.was)
    (reading_refused c.loop-kind.invariant c.loop-kind-test.true c.if-count-eq-WATCH_LIMIT.false c.in_err-b.was (refused_part c.watch.ensures c.in_err-b.was))

pub returns-in_default : goal.returns-in_default
unfolding kind_number
returns-in_default c =
    let g = got c.watch.ensures c.in_ok-b.was in
    let f = is_fault _ _ _ (c.token_at-read.ensures.value, c.token_at-read.ensures.placed_in) _ c.in_default.is in
    reading_fault c.loop-kind.invariant c.loop-kind-test.true c.if-count-eq-WATCH_LIMIT.false g.is c.in_default.is f

pub loop-kind-preserved : goal.loop-kind-preserved
unfolding kind_number
loop-kind-preserved c =
    let g = got c.watch.ensures c.in_ok-b.was in
    let f = found_token _ _ (c.token_at-read.ensures.value, c.token_at-read.ensures.placed_in) c.in-Ok.is in
    reading_more c.loop-kind.invariant c.loop-kind-test.true c.if-count-eq-WATCH_LIMIT.false g.is (few_names _ c.requires.declared) f

pub returns : goal.returns
unfolding kind_number
returns c = reading_end c.loop-kind.invariant c.loop-kind-test.false
