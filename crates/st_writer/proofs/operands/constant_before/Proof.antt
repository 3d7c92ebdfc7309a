-- `st_writer::operands::constant_before` meets its contract. Assumes nothing.
use borrow.Author.Rules.{rules}
use borrow.Author.Tests.{ne_eqb}
use Rattle.st_writer.proofs.Laws.{fronts_then, as_front}
use Rattle.st_writer.proofs.Numbers.{constant_even, constant-odd}
use Rattle.st_writer.proofs.operands.constant_before.Statement.{statement}
use Rattle.st_writer.proofs.operands.constant_before.Tie as tie

same_length : tie.Need-shape_of-out-then-n-eq0
same_length c = c.decimal_before.ensures.same

returns : tie.Need-returns-then-n-eq0
returns c = as_front (λ l. constant_even _ l c.if-n-eq0.true) c.decimal_before.ensures

same-length-2 : tie.Need-shape_of-out
same-length-2 c = (fronts_then (fronts_then c.byte_before-close.ensures c.decimal_before-digits.ensures) c.bytes_before.ensures).same

returns-2 : tie.Need-returns
returns-2 c = as_front (λ l. constant-odd _ l (ne_eqb _ _ c.if-n-eq0.false)) (fronts_then (fronts_then c.byte_before-close.ensures c.decimal_before-digits.ensures) c.bytes_before.ensures)

pub constant_before_spec : {M : Type 1} → statement M
constant_before_spec =
    tie.close
    (tie.spec (λ c κs. search rules) same_length returns (λ c κs. search rules) (λ c. search rules) (λ c κs. search rules) (λ c. search rules) same-length-2 returns-2)
