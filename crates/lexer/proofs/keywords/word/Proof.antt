-- `lexer::keywords::word` meets its contract. Assumes nothing.
use borrow.Author.Rules.{rules}
use mathlib.Core.Path.{sym, ◌∙◌}
use Rattle.lexer.specs.Token.{kind_number}
use Rattle.lexer.specs.Lexer.{word_of}
use Rattle.lexer.proofs.keywords.word.Statement.{statement}
use Rattle.lexer.proofs.keywords.word.Tie as tie

returns : tie.Need-returns-then-grammar_word
unfolding word_of
returns c = rw (sym c.grammar_word.ensures ∙ c.if-grammar_word.true) c.exact_word.ensures

returns-2 : tie.Need-returns
unfolding word_of kind_number
returns-2 c = rw (sym c.grammar_word.ensures ∙ c.if-grammar_word.false)

pub word_spec : {M : Type 1} → statement M
word_spec = tie.close (tie.spec (λ c κs. search rules) (λ c κs. search rules) returns returns-2)
