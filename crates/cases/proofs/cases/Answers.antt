-- `cases::cases` meets its contract. Assumes nothing.
use native.Mathlib.Omega.{arith}
use Rattle.limits.proofs.Exits.{handed_on}
use Rattle.lexer.specs.Results.{kind_of}
use Rattle.lexer.proofs.Tokens.{is_fault}
use Rattle.expressions.proofs.Scopes.{few_names}
use Rattle.phrases.proofs.Laws.{same_kinds, other_kinds}
use Rattle.phrases.proofs.Writing.{got, refused_part}
use Rattle.cases.proofs.Listing.{found_token}
use Rattle.cases.proofs.Casing.{casing_first, casing_fault, casing_other, casing_full, casing_refused, casing_behind, casing_last, casing_more}
use Rattle.cases.proofs.cases.Goals as goal

pub loop-token-init : goal.loop-token-init
loop-token-init c = let l = c.requires.limit_in_bounds in casing_first _ _ _ _ _ _ _ _ _ _ c.requires.room l.0 l.1 l.2

pub returns-in_default : goal.returns-in_default
returns-in_default c =
    let f = is_fault _ _ _ (c.token_at-read.ensures.value, c.token_at-read.ensures.placed_in) _ c.in_default.is in
    let both = casing_fault c.loop-token.invariant c.in_default.is f in
    record { writes = both.0; lists = both.1 }

pub returns-then-token-ne-OPEN_SQUARE : goal.returns-then-token-ne-OPEN_SQUARE
unfolding kind_of
returns-then-token-ne-OPEN_SQUARE c =
    let f = found_token _ _ (c.token_at-read.ensures.value, c.token_at-read.ensures.placed_in) c.in-Ok.is in
    let both = casing_other c.loop-token.invariant f (other_kinds _ _ f.lies.known_kind (omega arith) c.if-token-ne-OPEN_SQUARE.true) in
    record { writes = both.0; lists = both.1 }

pub returns-then-count-limit : goal.returns-then-count-limit
unfolding kind_of
returns-then-count-limit c =
    let f = found_token _ _ (c.token_at-read.ensures.value, c.token_at-read.ensures.placed_in) c.in-Ok.is in
    let both = casing_full c.loop-token.invariant f (same_kinds _ 19 c.if-token-ne-OPEN_SQUARE.false) c.if-count-limit.true in
    record { writes = both.0; lists = both.1 }

pub returns-in_err-b : goal.returns-in_err-b
unfolding kind_of
returns-in_err-b c =
    let f = found_token _ _ (c.token_at-read.ensures.value, c.token_at-read.ensures.placed_in) c.in-Ok.is in
    let i = same_kinds _ 19 c.if-token-ne-OPEN_SQUARE.false in
    let both = casing_refused c.loop-token.invariant f i c.if-count-limit.false c.in_err-b.was (refused_part (c.case.ensures c.loop-token.a) c.in_err-b.was) in
    rw (handed_on c.from_residual.ensures c.in_err-b.was) (record { writes = both.0; lists = both.1 })

pub returns-in_default-next : goal.returns-in_default-next
unfolding kind_of
returns-in_default-next c =
    let f = found_token _ _ (c.token_at-read.ensures.value, c.token_at-read.ensures.placed_in) c.in-Ok.is in
    let i = same_kinds _ 19 c.if-token-ne-OPEN_SQUARE.false in
    let g = got (c.case.ensures c.loop-token.a) c.in_ok-b.was in
    let f2 = is_fault _ _ _ (c.token_at-next.ensures.value, c.token_at-next.ensures.placed_in) _ c.in_default-next.is in
    let both = casing_behind c.loop-token.invariant f i c.if-count-limit.false g c.in_default-next.is f2 in
    record { writes = both.0; lists = both.1 }

pub returns-then-after-ne-BAR : goal.returns-then-after-ne-BAR
unfolding kind_of
returns-then-after-ne-BAR c =
    let f = found_token _ _ (c.token_at-read.ensures.value, c.token_at-read.ensures.placed_in) c.in-Ok.is in
    let i = same_kinds _ 19 c.if-token-ne-OPEN_SQUARE.false in
    let g = got (c.case.ensures c.loop-token.a) c.in_ok-b.was in
    let f2 = found_token _ _ (c.token_at-next.ensures.value, c.token_at-next.ensures.placed_in) c.in-Ok-next.is in
    let both = casing_last c.loop-token.invariant f i c.if-count-limit.false g (few_names _ c.requires.declared) c.requires.id_lt_name_limit f2 c.reached.ensures (other_kinds _ _ f2.lies.known_kind (omega arith) c.if-after-ne-BAR.true) in
    record { writes = both.0; lists = both.1 }

pub loop-token-preserved : goal.loop-token-preserved
unfolding kind_of
loop-token-preserved c =
    let f = found_token _ _ (c.token_at-read.ensures.value, c.token_at-read.ensures.placed_in) c.in-Ok.is in
    let i = same_kinds _ 19 c.if-token-ne-OPEN_SQUARE.false in
    let g = got (c.case.ensures c.loop-token.a) c.in_ok-b.was in
    let f2 = found_token _ _ (c.token_at-next.ensures.value, c.token_at-next.ensures.placed_in) c.in-Ok-next.is in
    casing_more c.loop-token.invariant f i c.if-count-limit.false g (few_names _ c.requires.declared) c.requires.id_lt_name_limit f2 (same_kinds _ 23 c.if-after-ne-BAR.false)
