-- `st_sections::sections_before` meets its contract. Assumes nothing.
use borrow.Author.Rules.{rules}
use Rattle.st_writer.proofs.Laws.{fronts_then}
use Rattle.st_sections.proofs.sections_before.Statement.{statement}
use Rattle.st_sections.proofs.sections_before.Tie as tie

returns : tie.Need-returns
returns c = fronts_then c.variables_before-variables.ensures c.inputs_before.ensures

pub sections_before_spec : {M : Type 1} → statement M
sections_before_spec = tie.close (tie.spec (λ c κs. search rules) (λ c κs. search rules) (λ c. search rules) returns)
