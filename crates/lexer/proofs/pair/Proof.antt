-- `lexer::pair` meets its contract. Assumes nothing.
use borrow.Author.Tests.{ne_eqb}
use Rattle.lexer.specs.Token.{kind_number}
use Rattle.lexer.proofs.Laws.{pair_tests}
use Rattle.lexer.proofs.pair.Statement.{statement}
use Rattle.lexer.proofs.pair.Tie as tie

returns : tie.Need-returns-then-a-eq46
unfolding kind_number
returns c = rw (pair_tests _ _, c.if-b-eq46.true, c.if-a-eq46.true)

returns-2 : tie.Need-returns-then-b-eq46
unfolding kind_number
returns-2 c = rw (pair_tests _ _, c.if-b-eq46.true, ne_eqb _ _ c.if-a-eq46.false)

returns-3 : tie.Need-returns-then-a-eq45
unfolding kind_number
returns-3 c = rw (pair_tests _ _, c.if-b-eq62.true, c.if-a-eq45.true)

returns-4 : tie.Need-returns-then-a-eq60
unfolding kind_number
returns-4 c = rw (pair_tests _ _, c.if-b-eq62.true, c.if-a-eq60.true)

returns-5 : tie.Need-returns-then-b-eq62
unfolding kind_number
returns-5 c = rw (pair_tests _ _, c.if-b-eq62.true, ne_eqb _ _ c.if-a-eq45.false, ne_eqb _ _ c.if-a-eq60.false)

returns-6 : tie.Need-returns-then-a-eq60-2
unfolding kind_number
returns-6 c = rw (pair_tests _ _, c.if-b-eq61.true, c.if-a-eq60-2.true)

returns-7 : tie.Need-returns-then-a-eq62
unfolding kind_number
returns-7 c = rw (pair_tests _ _, c.if-b-eq61.true, c.if-a-eq62.true)

returns-8 : tie.Need-returns-then-b-eq61
unfolding kind_number
returns-8 c = rw (pair_tests _ _, c.if-b-eq61.true, ne_eqb _ _ c.if-a-eq60-2.false, ne_eqb _ _ c.if-a-eq62.false)

returns-9 : tie.Need-returns
unfolding kind_number
returns-9 c = rw (pair_tests _ _, ne_eqb _ _ c.if-b-eq46.false, ne_eqb _ _ c.if-b-eq62.false, ne_eqb _ _ c.if-b-eq61.false)

pub pair_spec : {M : Type 1} → statement M
pair_spec = tie.close (tie.spec returns returns-2 returns-3 returns-4 returns-5 returns-6 returns-7 returns-8 returns-9)
