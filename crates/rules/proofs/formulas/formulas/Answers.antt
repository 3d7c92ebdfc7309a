-- `rules::formulas::formulas` meets its contract. Assumes nothing.
use native.Mathlib.Omega.{arith}
use Rattle.lexer.specs.Results.{kind_of}
use Rattle.lexer.proofs.Tokens.{is_fault}
use Rattle.phrases.proofs.Laws.{same_kinds, other_kinds}
use Rattle.phrases.proofs.Writing.{refuses, reads_as}
use Rattle.cases.proofs.Listing.{found_token}
use Rattle.rules.proofs.Ways.{formulas_fault, formulas_pair, formulas_formula}
use Rattle.rules.proofs.formulas.formulas.Goals as goal

pub returns-in_default : goal.returns-in_default
returns-in_default c =
    let f = is_fault _ _ _ (c.token_at-read.ensures.value, c.token_at-read.ensures.placed_in) _ c.in_default.is in
    refuses c.in_default.is (formulas_fault _ _ _ _ f)

pub returns-then-token-eq-PLUS : goal.returns-then-token-eq-PLUS
unfolding kind_of
returns-then-token-eq-PLUS c =
    let t = found_token _ _ (c.token_at-read.ensures.value, c.token_at-read.ensures.placed_in) c.in-Ok.is in
    reads_as (formulas_pair _ _ _ _ t.read (same_kinds _ 27 c.if-token-eq-PLUS.true)) c.pair.ensures

pub returns : goal.returns
unfolding kind_of
returns c =
    let t = found_token _ _ (c.token_at-read.ensures.value, c.token_at-read.ensures.placed_in) c.in-Ok.is in
    reads_as (formulas_formula _ _ _ _ t.read (other_kinds _ _ t.lies.known_kind (omega arith) c.if-token-eq-PLUS.false)) c.formula.ensures
