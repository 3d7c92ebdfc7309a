-- `lexer::previous` meets its contract. Assumes nothing.
use borrow.Author.Rules.{rules}
use mathlib.Core.Path.{ap, sym, ◌∙◌}
use mathlib.Core.List.{List}
use Prim.Native.Nat.{ℕ}
use Rattle.lexer.specs.Token.{kind_number}
use Rattle.lexer.specs.Lexer.{word_of}
use Rattle.lexer.proofs.Tokens.{previous_lone, previous_name_lem, previous_word}
use Rattle.lexer.proofs.previous.Statement.{statement}
use Rattle.lexer.proofs.previous.Tie as tie

returns : tie.Need-returns-then-word-eq-NAME
returns c =
    let l = c.before.before.before.before.before in
    let at-is-letter = l.before in
    c.token.ensures ∙ previous_name_lem _ _ _ at-is-letter.byte_at.ensures _ _ (sym at-is-letter.is_letter.ensures ∙ l.if-is_letter.true) c.run-e.ensures
    (c.word.ensures ∙ ap (λ (w : List ℕ). kind_number (word_of w)) c.name.ensures) c.if-word-eq-NAME.true

returns-2 : tie.Need-returns-then-is_letter
returns-2 c =
    let l = c.before.before.before.before in
    let at-is-letter = l.before in
    previous_word _ _ _ at-is-letter.byte_at.ensures _ _ (sym at-is-letter.is_letter.ensures ∙ l.if-is_letter.true) c.run-e.ensures
    (c.word.ensures ∙ ap (λ (w : List ℕ). kind_number (word_of w)) c.name.ensures) c.if-word-eq-NAME.false

returns-3 : tie.Need-returns
returns-3 c = previous_lone _ _ _ c.byte_at.ensures (sym c.is_letter.ensures ∙ c.if-is_letter.false)

pub previous_spec : {M : Type 1} → statement M
previous_spec =
    tie.close
    (tie.spec (λ c. search rules) (λ c κs. search rules) (λ c κs. search rules) (λ c κs. search rules) (λ c κs. search rules)
    (λ c κs. search rules) (λ c κs. search rules) returns returns-2 returns-3)
