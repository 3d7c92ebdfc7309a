-- `lexer::sign` meets its contract. Assumes nothing.
use borrow.Author.Tests.{ne_eqb}
use Rattle.lexer.specs.Bytes.{same_bytes}
use Rattle.lexer.specs.Token.{kind_number}
use Rattle.lexer.specs.Lexer.{sign_of}
use Rattle.lexer.proofs.sign.Statement.{statement}
use Rattle.lexer.proofs.sign.Tie as tie

returns : tie.Need-returns-in-59
unfolding sign_of same_bytes kind_number
returns c = rw c.in-59.is

returns-2 : tie.Need-returns-in-58
unfolding sign_of same_bytes kind_number
returns-2 c = rw c.in-58.is

returns-3 : tie.Need-returns-in-40
unfolding sign_of same_bytes kind_number
returns-3 c = rw c.in-40.is

returns-4 : tie.Need-returns-in-41
unfolding sign_of same_bytes kind_number
returns-4 c = rw c.in-41.is

returns-5 : tie.Need-returns-in-91
unfolding sign_of same_bytes kind_number
returns-5 c = rw c.in-91.is

returns-6 : tie.Need-returns-in-93
unfolding sign_of same_bytes kind_number
returns-6 c = rw c.in-93.is

returns-7 : tie.Need-returns-in-126
unfolding sign_of same_bytes kind_number
returns-7 c = rw c.in-126.is

returns-8 : tie.Need-returns-in-38
unfolding sign_of same_bytes kind_number
returns-8 c = rw c.in-38.is

returns-9 : tie.Need-returns-in-124
unfolding sign_of same_bytes kind_number
returns-9 c = rw c.in-124.is

returns-10 : tie.Need-returns-in-61
unfolding sign_of same_bytes kind_number
returns-10 c = rw c.in-61.is

returns-11 : tie.Need-returns-in-60
unfolding sign_of same_bytes kind_number
returns-11 c = rw c.in-60.is

returns-12 : tie.Need-returns-in-62
unfolding sign_of same_bytes kind_number
returns-12 c = rw c.in-62.is

returns-13 : tie.Need-returns-in-43
unfolding sign_of same_bytes kind_number
returns-13 c = rw c.in-43.is

returns-14 : tie.Need-returns-in-45
unfolding sign_of same_bytes kind_number
returns-14 c = rw c.in-45.is

returns-15 : tie.Need-returns-in-42
unfolding sign_of same_bytes kind_number
returns-15 c = rw c.in-42.is

returns-16 : tie.Need-returns-in-47
unfolding sign_of same_bytes kind_number
returns-16 c = rw c.in-47.is

returns-17 : tie.Need-returns-in_default
unfolding sign_of same_bytes kind_number
returns-17 c =
    let r4 = c.in_default.in_default-own.rest in
    let r3 = r4.0.0.0.0 in
    let r2 = r3.0.0.0.0 in
    let r1 = r2.0.0.0.0 in
    rw (
      ne_eqb _ _ r1.0.0.0.1,
      ne_eqb _ _ r1.0.0.1,
      ne_eqb _ _ r1.0.1,
      ne_eqb _ _ r1.1,
      ne_eqb _ _ r2.0.0.0.1,
      ne_eqb _ _ r2.0.0.1,
      ne_eqb _ _ r2.0.1,
      ne_eqb _ _ r2.1,
      ne_eqb _ _ r3.0.0.0.1,
      ne_eqb _ _ r3.0.0.1,
      ne_eqb _ _ r3.0.1,
      ne_eqb _ _ r3.1,
      ne_eqb _ _ r4.0.0.0.1,
      ne_eqb _ _ r4.0.0.1,
      ne_eqb _ _ r4.0.1,
      ne_eqb _ _ r4.1,
    )

pub sign_spec : {M : Type 1} → statement M
sign_spec =
    tie.close
    (tie.spec returns returns-2 returns-3 returns-4 returns-5 returns-6 returns-7 returns-8 returns-9 returns-10 returns-11 returns-12
    returns-13 returns-14 returns-15 returns-16 returns-17)
