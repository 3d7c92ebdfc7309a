-- `structured_text::reserved::is_outside` meets its contract. Assumes nothing.
use mathlib.Core.Path.{ap, ◌∙◌}
use borrow.Author.Rules.{rules}
use Rattle.lexer.specs.Token.{kind_number, timer_word}
use Rattle.lexer.proofs.KindNumbers.{kind_is, kind_is_not}
use Rattle.st_program.specs.Written.{is_st_word}
use Rattle.structured_text.proofs.reserved.is_outside.Statement.{statement}
use Rattle.structured_text.proofs.reserved.is_outside.Tie as tie

returns : tie.Need-returns-then-kind-eq-TIMER
unfolding kind_number
returns c = rw (kind_is _ timer_word c.if-kind-eq-TIMER.true)

returns-2 : tie.Need-returns-then-named
unfolding kind_number
returns-2 c = rw (kind_is_not _ timer_word c.requires c.if-kind-eq-TIMER.false, c.if-named.true) (c.is_st_word.ensures ∙ ap is_st_word c.name.ensures)

returns-3 : tie.Need-returns
unfolding kind_number
returns-3 c = rw (kind_is_not _ timer_word c.requires c.if-kind-eq-TIMER.false, c.if-named.false)

pub is_outside_spec : {M : Type 1} → statement M
is_outside_spec = tie.close (tie.spec returns (λ c κs. search rules) (λ c κs. search rules) returns-2 returns-3)
