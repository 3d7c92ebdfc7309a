-- `structured_text::reserved::declares_name` meets its contract. Assumes nothing.
use Rattle.lexer.specs.Token.{kind_number, input_word, var_word}
use Rattle.lexer.proofs.KindNumbers.{is_kind, kind_is, kind_is_not}
use Rattle.structured_text.proofs.reserved.declares_name.Statement.{statement}
use Rattle.structured_text.proofs.reserved.declares_name.Tie as tie

returns : tie.Need-returns-then-kind-eq-INPUT
unfolding kind_number
returns c = rw (kind_is _ input_word c.if-kind-eq-INPUT.true)

returns-2 : tie.Need-returns
unfolding kind_number
returns-2 c = rw (kind_is_not _ input_word c.requires c.if-kind-eq-INPUT.false, is_kind _ var_word c.requires)

pub declares_name_spec : {M : Type 1} → statement M
declares_name_spec = tie.close (tie.spec returns returns-2)
