-- `lexer::keywords::grammar_word` meets its contract. Assumes nothing.
use borrow.Author.Rules.{rules}
use mathlib.Core.Path.{sym, ◌∙◌}
use Rattle.lexer.proofs.Words.{words_1, words_2, words_3, words_4, words_5, words_none}
use Rattle.lexer.proofs.keywords.grammar_word.Statement.{statement}
use Rattle.lexer.proofs.keywords.grammar_word.Tie as tie

returns : tie.Need-returns-then-same_name
returns c = rw (words_5 _ c.if-bytes-eq5.true, sym c.same_name.ensures ∙ c.if-same_name.true)

returns-2 : tie.Need-returns-then-same_name-2
returns-2 c = rw (words_5 _ c.if-bytes-eq5.true, sym c.same_name.ensures ∙ c.if-same_name.false, sym c.same_name-then-bytes-eq5.ensures ∙ c.if-same_name-2.true)

returns-3 : tie.Need-returns-then-same_name-3
returns-3 c = rw (words_5 _ c.if-bytes-eq5.true, sym c.same_name.ensures ∙ c.if-same_name.false, sym c.same_name-then-bytes-eq5.ensures ∙ c.if-same_name-2.false, sym c.same_name-then-bytes-eq5-2.ensures ∙ c.if-same_name-3.true)

returns-4 : tie.Need-returns-then-bytes-eq5
returns-4 c = rw (words_5 _ c.if-bytes-eq5.true, sym c.same_name.ensures ∙ c.if-same_name.false, sym c.same_name-then-bytes-eq5.ensures ∙ c.if-same_name-2.false, sym c.same_name-then-bytes-eq5-2.ensures ∙ c.if-same_name-3.false) c.same_name-then-bytes-eq5-3.ensures

returns-5 : tie.Need-returns-then-same_name-4
returns-5 c = rw (words_3 _ c.if-bytes-eq3.true, sym c.same_name-then-bytes-eq3.ensures ∙ c.if-same_name-4.true)

returns-6 : tie.Need-returns-then-bytes-eq3
returns-6 c = rw (words_3 _ c.if-bytes-eq3.true, sym c.same_name-then-bytes-eq3.ensures ∙ c.if-same_name-4.false) c.same_name-then-bytes-eq3-2.ensures

returns-7 : tie.Need-returns-then-same_name-5
returns-7 c = rw (words_1 _ c.if-bytes-eq1.true, sym c.same_name-then-bytes-eq1.ensures ∙ c.if-same_name-5.true)

returns-8 : tie.Need-returns-then-bytes-eq1
returns-8 c = rw (words_1 _ c.if-bytes-eq1.true, sym c.same_name-then-bytes-eq1.ensures ∙ c.if-same_name-5.false) c.same_name-then-bytes-eq1-2.ensures

returns-9 : tie.Need-returns-then-same_name-6
returns-9 c = rw (words_2 _ c.if-bytes-eq2.true, sym c.same_name-then-bytes-eq2.ensures ∙ c.if-same_name-6.true)

returns-10 : tie.Need-returns-then-bytes-eq2
returns-10 c = rw (words_2 _ c.if-bytes-eq2.true, sym c.same_name-then-bytes-eq2.ensures ∙ c.if-same_name-6.false) c.same_name-then-bytes-eq2-2.ensures

returns-11 : tie.Need-returns-then-bytes-eq4
returns-11 c = rw (words_4 _ c.if-bytes-eq4.true) c.same_name-then-bytes-eq4.ensures

returns-12 : tie.Need-returns
returns-12 c = rw (words_none _ c.if-bytes-eq5.false c.if-bytes-eq3.false c.if-bytes-eq1.false c.if-bytes-eq2.false c.if-bytes-eq4.false)

pub grammar_word_spec : {M : Type 1} → statement M
grammar_word_spec =
    tie.close
    (tie.spec (λ c. search rules) returns (λ c. search rules) returns-2 (λ c. search rules) returns-3 (λ c. search rules) returns-4 (λ c. search rules) returns-5 (λ c. search rules) returns-6 (λ c. search rules) returns-7 (λ c. search rules) returns-8 (λ c. search rules) returns-9 (λ c. search rules) returns-10 (λ c. search rules) returns-11 returns-12)
