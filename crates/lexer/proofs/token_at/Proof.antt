-- `lexer::token_at` meets its contract. Assumes nothing.
use borrow.Author.Rules.{rules}
use mathlib.Core.Path.{ap, sym, ◌∙◌}
use mathlib.Core.List.{List}
use Prim.Native.Nat.{ℕ}
use Rattle.lexer.specs.Token.{kind_number}
use Rattle.lexer.specs.Lexer.{word_of}
use Rattle.lexer.proofs.Tokens.{answered, token_end, token_word, token_digits, token_previous, token_sign}
use Rattle.lexer.proofs.token_at.Statement.{statement}
use Rattle.lexer.proofs.token_at.Tie as tie

returns : tie.Need-returns-then-text-s
returns c = answered _ _ c.token.ensures (token_end _ _ _ c.run-s.ensures c.if-text-s.true)

returns-2 : tie.Need-returns-then-is_letter
returns-2 c =
    let l = c.before.before.before.before in
    let s = l.before.before.before in
    answered _ _ c.token-then-is_letter.ensures
    (token_word _ _ _ s.run-s.ensures s.if-text-s.false _ _ (sym c.is_letter.ensures ∙ l.if-is_letter.true) c.run-e.ensures
    (c.word.ensures ∙ ap (λ (w : List ℕ). kind_number (word_of w)) c.name.ensures))

returns-3 : tie.Need-returns-then-is_digit
returns-3 c =
    let l = c.before.before.before.before in
    let s = l.before.before.before in
    answered _ _ c.token-then-is_digit.ensures
    (token_digits _ _ _ s.run-s.ensures s.if-text-s.false (sym c.is_letter.ensures ∙ l.if-is_letter.false) _ (sym c.is_digit.ensures ∙ c.if-is_digit.true) c.run.ensures)

returns-4 : tie.Need-returns-then-b-eq95
returns-4 c =
    let l = c.before.before.before.before in
    let at-is-letter = l.before in
    let s = at-is-letter.before.before in
    token_previous _ _ _ s.run-s.ensures s.if-text-s.false (sym at-is-letter.is_letter.ensures ∙ l.if-is_letter.false) (sym c.is_digit.ensures ∙ c.if-is_digit.false)
    c.previous.result c.if-b-eq95.true c.previous.ensures

returns-5 : tie.Need-returns
returns-5 c =
    let d = c.before.before.before in
    let l = d.before.before in
    let at-is-letter = l.before in
    let s = at-is-letter.before.before in
    token_sign _ _ _ s.run-s.ensures s.if-text-s.false (sym at-is-letter.is_letter.ensures ∙ l.if-is_letter.false) (sym c.is_digit.ensures ∙ d.if-is_digit.false)
    c.sign_at.result _ c.if-b-eq95.false c.byte_at.ensures c.sign_at.ensures

pub token_at_spec : {M : Type 1} → statement M
token_at_spec =
    tie.close
    (tie.spec (λ c κs. search rules) (λ c κs. search rules) returns (λ c. search rules) (λ c κs. search rules) (λ c κs. search rules)
    (λ c κs. search rules) (λ c κs. search rules) (λ c κs. search rules) returns-2 (λ c κs. search rules) (λ c κs. search rules)
    (λ c κs. search rules) returns-3 (λ c κs. search rules) returns-4
    (λ c. search rules) (λ c κs. search rules) (λ c κs. search rules) returns-5)
