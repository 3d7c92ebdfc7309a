-- `phrases::expect` meets its contract. Assumes nothing.
use Rattle.lexer.proofs.Tokens.{is_token}
use Rattle.phrases.proofs.Laws.{faulty, wanted, unwanted, same_kinds, other_kinds}
use borrow.Author.Rules.{rules}
use Rattle.phrases.proofs.expect.Statement.{statement}
use Rattle.phrases.proofs.expect.Tie as tie

returns : tie.Need-returns-in_default
returns c = faulty _ _ _ c.token_at-read.ensures c.in_default.is

returns-2 : tie.Need-returns-then-found-kind
returns-2 c =
    wanted _ _ _ c.token_at-read.ensures c.in-Ok.is c.reached.ensures (same_kinds _ _ c.if-found-kind.true)

returns-3 : tie.Need-returns
returns-3 c =
    let t = is_token _ _ _ c.token_at-read.ensures _ c.in-Ok.is in
    unwanted _ _ _ c.token_at-read.ensures c.in-Ok.is (other_kinds _ _ t.1.known_kind c.requires c.if-found-kind.false)

pub expect_spec : {M : Type 1} → statement M
expect_spec =
    tie.close
    (tie.spec (λ c κs. search rules) (λ c. search rules) (λ c. search rules) returns (λ c κs. search rules) returns-2 returns-3)
