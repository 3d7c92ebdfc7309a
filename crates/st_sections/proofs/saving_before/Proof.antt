-- `st_sections::saving_before` meets its contract. Assumes nothing.
use borrow.Author.Rules.{rules}
use Rattle.st.specs.Printed.{expression_printed, statement_printed}
use Rattle.st_writer.proofs.Laws.{fronts_then}
use Rattle.st_sections.proofs.saving_before.Statement.{statement}
use Rattle.st_sections.proofs.saving_before.Tie as tie

returns : tie.Need-returns
unfolding statement_printed expression_printed
returns c = fronts_then (fronts_then (fronts_then (fronts_then c.bytes_before-end.ensures c.name_before-value.ensures) c.bytes_before-sign.ensures) c.name_before-target.ensures) c.byte_before.ensures

pub saving_before_spec : {M : Type 1} → statement M
saving_before_spec =
    tie.close
    (tie.spec (λ c κs. search rules) (λ c κs. search rules) (λ c κs. search rules) (λ c κs. search rules) (λ c κs. search rules)
    (λ c. search rules) returns)
