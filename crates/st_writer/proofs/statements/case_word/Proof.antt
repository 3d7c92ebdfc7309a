-- `st_writer::statements::case_word` meets its contract. Assumes nothing.
use borrow.Author.Rules.{rules}
use mathlib.Core.Path.{ap}
use Rattle.st_writer.proofs.Laws.{as_front}
use Rattle.st_writer.specs.Inner.Statements.{word_before}
use mathlib.Core.Bool.{Bool}
use Rattle.st_writer.proofs.statements.case_word.Statement.{statement}
use Rattle.st_writer.proofs.statements.case_word.Tie as tie

same_length : tie.Need-shape_of-out-then-later
same_length c = c.bytes_before.ensures.same

returns : tie.Need-returns-then-later
returns c = as_front (λ l. ap (λ (b : Bool). word_before b l) c.if-later.true) c.bytes_before.ensures

same-length-2 : tie.Need-shape_of-out
same-length-2 c = c.bytes_before-2.ensures.same

returns-2 : tie.Need-returns
returns-2 c = as_front (λ l. ap (λ (b : Bool). word_before b l) c.if-later.false) c.bytes_before-2.ensures

pub case_word_spec : {M : Type 1} → statement M
case_word_spec =
    tie.close
    (tie.spec (λ c. search rules) same_length returns (λ c. search rules) same-length-2 returns-2)
