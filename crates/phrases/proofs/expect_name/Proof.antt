-- `phrases::expect_name` meets its contract. Assumes nothing.
use mathlib.Core.Path.{◌≡◌, sym, ap₂, ◌∙◌}
use Rattle.lexer.specs.Bytes.{part}
use Rattle.lexer.specs.Token.{kind_number, name}
use Rattle.lexer.specs.Lexer.{same_name}
use Rattle.lexer.specs.Results.{kind_of}
use Rattle.lexer.proofs.KindNumbers.{kind_is, kind_is_not}
use Rattle.lexer.proofs.Tokens.{is_token}
use Rattle.phrases.proofs.Laws.{faulty, wanted, unwanted}
use borrow.Author.Rules.{rules}
use Rattle.phrases.proofs.expect_name.Statement.{statement}
use Rattle.phrases.proofs.expect_name.Tie as tie

returns : tie.Need-returns-in_default
returns c = faulty _ _ _ c.token_at-read.ensures c.in_default.is

-- the names as the definition compares them
compared : (c : tie.After-same_name) → same_name (part c.args.text.now c.args.start c.args.end) (part c.args.text.now c.in-Ok.token.start c.in-Ok.token.end) ≡ c.same_name.result
compared c = ap₂ same_name (sym c.name.ensures) (sym c.name-then-token-eq-NAME.ensures) ∙ sym c.same_name.ensures

returns-2 : tie.Need-returns-then-same_name
unfolding kind_of kind_number
returns-2 c =
    wanted _ _ _ c.token_at-read.ensures c.in-Ok.is c.reached.ensures (rw (kind_is _ name c.if-token-eq-NAME.true, compared c.before.before ∙ c.if-same_name.true))

returns-3 : tie.Need-returns-else-same_name
unfolding kind_of kind_number
returns-3 c =
    unwanted _ _ _ c.token_at-read.ensures c.in-Ok.is (rw (kind_is _ name c.if-token-eq-NAME.true, compared c.before ∙ c.if-same_name.false))

returns-4 : tie.Need-returns-else-token-eq-NAME
unfolding kind_of kind_number
returns-4 c =
    let t = is_token _ _ _ c.token_at-read.ensures _ c.in-Ok.is in
    unwanted _ _ _ c.token_at-read.ensures c.in-Ok.is (rw (kind_is_not _ name t.1.known_kind c.if-token-eq-NAME.false))

pub expect_name_spec : {M : Type 1} → statement M
expect_name_spec =
    tie.close
    (tie.spec (λ c κs. search rules) (λ c. search rules) (λ c. search rules) returns (λ c κs. search rules) (λ c κs. search rules) (λ c κs. search rules) (λ c κs. search rules) returns-2 returns-3 returns-4)
