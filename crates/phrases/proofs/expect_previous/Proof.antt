-- `phrases::expect_previous` meets its contract. Assumes nothing.
use mathlib.Core.Path.{◌≡◌, sym, ap₂, ◌∙◌}
use Prim.Native.Nat.{◌+◌}
use Rattle.lexer.specs.Bytes.{part}
use Rattle.lexer.specs.Token.{kind_number, previous}
use Rattle.lexer.specs.Lexer.{same_name}
use Rattle.lexer.specs.Results.{kind_of}
use Rattle.lexer.proofs.KindNumbers.{kind_is, kind_is_not}
use Rattle.lexer.proofs.Tokens.{is_token}
use Rattle.phrases.proofs.Laws.{faulty, wanted, unwanted}
use native.Mathlib.Omega.{arith}
use mir.Syntax.{w64}
use mir.Val.{Fits}
use borrow.Author.Rules.{rules}
use Rattle.phrases.proofs.expect_previous.Statement.{statement}
use Rattle.phrases.proofs.expect_previous.Tie as tie

returns : tie.Need-returns-in_default
returns c = faulty _ _ _ c.token_at-read.ensures c.in_default.is

add-name : tie.Need-overflow_add-token
add-name c =
    let t = is_token _ _ _ c.token_at-read.ensures _ c.in-Ok.is in
    let f : Fits w64 c.in-Ok.token.end = search rules in
    record { fits = omega (arith, f.fits, t.1.moved (λ e. omega (arith, c.if-token-eq-PREVIOUS.true))) }

-- the names as the definition compares them
compared : (c : tie.After-same_name) → same_name (part c.args.text.now c.args.start c.args.end) (part c.args.text.now (c.in-Ok.token.start + 1) c.in-Ok.token.end) ≡ c.same_name.result
compared c = ap₂ same_name (sym c.name.ensures) (sym c.name-then-token-eq-PREVIOUS.ensures) ∙ sym c.same_name.ensures

returns-2 : tie.Need-returns-then-same_name
unfolding kind_of kind_number
returns-2 c =
    wanted _ _ _ c.token_at-read.ensures c.in-Ok.is c.reached.ensures (rw (kind_is _ previous c.if-token-eq-PREVIOUS.true, compared c.before.before ∙ c.if-same_name.true))

returns-3 : tie.Need-returns-else-same_name
unfolding kind_of kind_number
returns-3 c =
    unwanted _ _ _ c.token_at-read.ensures c.in-Ok.is (rw (kind_is _ previous c.if-token-eq-PREVIOUS.true, compared c.before ∙ c.if-same_name.false))

returns-4 : tie.Need-returns-else-token-eq-PREVIOUS
unfolding kind_of kind_number
returns-4 c =
    let t = is_token _ _ _ c.token_at-read.ensures _ c.in-Ok.is in
    unwanted _ _ _ c.token_at-read.ensures c.in-Ok.is (rw (kind_is_not _ previous t.1.known_kind c.if-token-eq-PREVIOUS.false))

pub expect_previous_spec : {M : Type 1} → statement M
expect_previous_spec =
    tie.close
    (tie.spec (λ c κs. search rules) (λ c. search rules) (λ c. search rules) returns (λ c κs. search rules) add-name (λ c κs. search rules) (λ c κs. search rules) (λ c κs. search rules) returns-2 returns-3 returns-4)
