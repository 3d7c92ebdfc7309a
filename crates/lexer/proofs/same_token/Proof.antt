-- `lexer::same_token` meets its contract. Assumes nothing.
use borrow.Author.Rules.{rules}
use mathlib.Core.Path.{sym, ap₂, ◌∙◌}
use Rattle.lexer.specs.Bytes.{same_bytes}
use Rattle.lexer.specs.Lexer.{same_name}
use Rattle.lexer.proofs.Same.{other_kind, one_kind, name_spelling, previous_spelling, other_spelling}
use Rattle.lexer.proofs.same_token.Statement.{statement}
use Rattle.lexer.proofs.same_token.Tie as tie

returns : tie.Need-returns-then-kind-kind2
returns c =
    let a = c.before.before in
    sym (other_kind _ _ _ _ _ _ _ a.requires.0 a.requires.1 c.if-kind-kind2.true)

returns-2 : tie.Need-returns-then-kind-eq-NAME
returns-2 c = c.same_name.ensures ∙ ap₂ same_name c.name-a.ensures c.name-b.ensures ∙ sym (one_kind _ _ _ _ _ _ _ c.if-kind-kind2.false ∙ name_spelling _ _ _ c.if-kind-eq-NAME.true)

returns-3 : tie.Need-returns-then-kind-eq-PREVIOUS
returns-3 c = c.same_name-then-kind-eq-PREVIOUS.ensures ∙ ap₂ same_name c.name-a.ensures c.name-b.ensures ∙ sym (one_kind _ _ _ _ _ _ _ c.if-kind-kind2.false ∙ previous_spelling _ _ _ c.requires.0 c.if-kind-eq-NAME.false c.if-kind-eq-PREVIOUS.true)

returns-4 : tie.Need-returns
returns-4 c = c.same_bytes.ensures ∙ ap₂ same_bytes c.name-a.ensures c.name-b.ensures ∙ sym (one_kind _ _ _ _ _ _ _ c.if-kind-kind2.false ∙ other_spelling _ _ _ c.requires.0 c.if-kind-eq-NAME.false c.if-kind-eq-PREVIOUS.false)

pub same_token_spec : {M : Type 1} → statement M
same_token_spec =
    tie.close
    (tie.spec returns (λ c κs. search rules) (λ c κs. search rules) (λ c κs. search rules) returns-2 (λ c κs. search rules) returns-3 (λ c κs. search rules) returns-4)
