-- `agreement::compare_tokens` meets its contract. Assumes nothing.
use mathlib.Core.Path.{sym, ap, ◌∙◌}
use native.Mathlib.Omega.{arith}
use Rattle.lexer.proofs.Tokens.{is_token, is_fault}
use Rattle.agreement.specs.Inner.Comparison.{compared_of}
use Rattle.agreement.proofs.Progress.{progress}
use Rattle.agreement.proofs.Parts.{matching, matched, unmatched_fault, found_fault, unmatched, next_tokens}
use Rattle.agreement.proofs.compare_tokens.Goals as goal

pub loop-a-init : goal.loop-a-init
loop-a-init c = matching _ _ _ _ c.requires

pub returns-in_default : goal.returns-in_default
returns-in_default c =
    ap compared_of c.in_default.is
    ∙ unmatched_fault _ _ _ _ _ _ c.loop-a.invariant c.loop-a-test.true _ (is_fault _ _ _ (c.token_at-wanted.ensures.value, c.token_at-wanted.ensures.placed_in) _ c.in_default.is).0

pub returns-in_default-found : goal.returns-in_default-found
returns-in_default-found c =
    ap compared_of c.in_default-found.is
    ∙ found_fault _ _ _ _ _ _ c.loop-a.invariant c.loop-a-test.true _ _ _ (is_token _ _ _ (c.token_at-wanted.ensures.value, c.token_at-wanted.ensures.placed_in) _ c.in-Ok.is).0 _ (is_fault _ _ _ (c.token_at-found.ensures.value, c.token_at-found.ensures.placed_in) _ c.in_default-found.is).0

pub same_token-requires : goal.same_token-requires
same_token-requires c =
    ((is_token _ _ _ (c.token_at-wanted.ensures.value, c.token_at-wanted.ensures.placed_in) _ c.in-Ok.is).1.known_kind, (is_token _ _ _ (c.token_at-found.ensures.value, c.token_at-found.ensures.placed_in) _ c.in-Ok-found.is).1.known_kind)

pub loop-a-smaller : goal.loop-a-smaller
loop-a-smaller c =
    let l = progress _ _ _ _ _ (omega (arith, c.loop-a-test.true, c.requires)) (is_token _ _ _ (c.token_at-wanted.ensures.value, c.token_at-wanted.ensures.placed_in) _ c.in-Ok.is).0 in
    omega (arith, c.loop-a-test.true)

pub loop-a-preserved : goal.loop-a-preserved
loop-a-preserved c =
    let w = is_token _ _ _ (c.token_at-wanted.ensures.value, c.token_at-wanted.ensures.placed_in) _ c.in-Ok.is in
    let f = is_token _ _ _ (c.token_at-found.ensures.value, c.token_at-found.ensures.placed_in) _ c.in-Ok-found.is in
    next_tokens _ _ _ _ _ _ c.loop-a.invariant c.loop-a-test.true _ _ _ w.0 _ _ _ f.0 (sym c.same_token.ensures ∙ c.if-same_token.true) (progress _ _ _ _ _ (omega (arith, c.loop-a-test.true, c.requires)) w.0)

pub returns-else-same_token : goal.returns-else-same_token
returns-else-same_token c =
    let w = is_token _ _ _ (c.token_at-wanted.ensures.value, c.token_at-wanted.ensures.placed_in) _ c.in-Ok.is in
    let f = is_token _ _ _ (c.token_at-found.ensures.value, c.token_at-found.ensures.placed_in) _ c.in-Ok-found.is in
    unmatched _ _ _ _ _ _ c.loop-a.invariant c.loop-a-test.true _ _ _ w.0 _ _ _ f.0 (sym c.same_token.ensures ∙ c.if-same_token.false)

pub returns : goal.returns
returns c = ap compared_of c.reached.ensures ∙ matched _ _ _ _ _ _ c.loop-a.invariant c.loop-a-test.false
