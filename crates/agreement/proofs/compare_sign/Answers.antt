-- `agreement::compare_sign` meets its contract. Assumes nothing.
use mathlib.Core.Path.{ap, ◌∙◌}
use Rattle.lexer.proofs.Tokens.{is_token, is_fault}
use Rattle.phrases.proofs.Laws.{same_kinds, other_kinds}
use Rattle.agreement.specs.Inner.Comparison.{compared_of}
use Rattle.agreement.proofs.Parts.{sign_fault, sign_wanted, sign_other}
use Rattle.agreement.proofs.compare_sign.Goals as goal

pub returns-in_default : goal.returns-in_default
returns-in_default c =
    ap compared_of c.in_default.is ∙ sign_fault _ _ _ _ (is_fault _ _ _ (c.token_at-found.ensures.value, c.token_at-found.ensures.placed_in) _ c.in_default.is).0

pub returns-then-token-kind : goal.returns-then-token-kind
returns-then-token-kind c =
    ap compared_of c.reached.ensures
    ∙ sign_wanted _ _ _ _ _ _ (is_token _ _ _ (c.token_at-found.ensures.value, c.token_at-found.ensures.placed_in) _ c.in-Ok.is).0 (same_kinds _ _ c.if-token-kind.true)

pub returns : goal.returns
returns c =
    let t = is_token _ _ _ (c.token_at-found.ensures.value, c.token_at-found.ensures.placed_in) _ c.in-Ok.is in
    sign_other _ _ _ _ _ _ t.0 (other_kinds _ _ t.1.known_kind c.requires c.if-token-kind.false)
