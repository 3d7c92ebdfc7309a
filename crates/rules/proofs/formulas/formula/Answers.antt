-- `rules::formulas::formula` meets its contract. Assumes nothing.
use mathlib.Core.Path.{refl}
use native.Mathlib.Omega.{arith}
use Rattle.limits.proofs.Exits.{handed_on}
use Rattle.lexer.specs.Token.{is, kind_number}
use Rattle.lexer.specs.Results.{kind_of}
use Rattle.lexer.proofs.Tokens.{is_fault}
use Rattle.grammar.specs.Forms.{rule_opening}
use Rattle.phrases.proofs.Laws.{same_kinds, other_kinds}
use Rattle.phrases.proofs.Writing.{refuses, not_expected, found, reads_as}
use Rattle.cases.proofs.Ways.{room_phrase}
use Rattle.cases.proofs.Listing.{found_token, room_token}
use Rattle.rules.proofs.Ways.{formula_unopened, formula_fault, formula_change, formula_function}
use Rattle.rules.proofs.formulas.formula.Goals as goal

pub returns-in_err-a : goal.returns-in_err-a
returns-in_err-a c = rw (handed_on c.from_residual.ensures c.in_err-a.was) (not_expected c.rule_opening.ensures c.in_err-a.was (formula_unopened _ _ _ _))

pub returns-in_default : goal.returns-in_default
returns-in_default c =
    let p = found c.rule_opening.ensures c.in_ok-a.was in
    let f = is_fault _ _ _ (c.token_at-read.ensures.value, c.token_at-read.ensures.placed_in) _ c.in_default.is in
    refuses c.in_default.is (formula_fault _ _ _ _ p f)

pub change-requires-clause-room : goal.change-requires-clause-room
unfolding is kind_number
change-requires-clause-room c =
    let p = found c.rule_opening.ensures c.in_ok-a.was in
    let r = room_phrase {u = c.args.to} rule_opening (refl, (refl, (refl, tt))) c.requires.room p (omega arith) in
    let t = found_token _ _ (c.token_at-read.ensures.value, c.token_at-read.ensures.placed_in) c.in-Ok.is in
    room_token r t

pub returns-then-token-eq-TILDE : goal.returns-then-token-eq-TILDE
unfolding kind_of
returns-then-token-eq-TILDE c =
    let p = found c.rule_opening.ensures c.in_ok-a.was in
    let t = found_token _ _ (c.token_at-read.ensures.value, c.token_at-read.ensures.placed_in) c.in-Ok.is in
    reads_as (formula_change _ _ _ _ p t.read (same_kinds _ 21 c.if-token-eq-TILDE.true)) c.change.ensures

pub function-requires-clause-room : goal.function-requires-clause-room
unfolding is kind_number
function-requires-clause-room c =
    let p = found c.rule_opening.ensures c.in_ok-a.was in
    room_phrase {u = c.args.to} rule_opening (refl, (refl, (refl, tt))) c.requires.room p (omega arith)

pub returns : goal.returns
unfolding kind_of
returns c =
    let p = found c.rule_opening.ensures c.in_ok-a.was in
    let t = found_token _ _ (c.token_at-read.ensures.value, c.token_at-read.ensures.placed_in) c.in-Ok.is in
    reads_as (formula_function _ _ _ _ p t.read (other_kinds _ _ t.lies.known_kind (omega arith) c.if-token-eq-TILDE.false)) c.function.ensures
