-- `structured_text::print_before` meets its contract. Assumes nothing.
use borrow.Author.Rules.{rules}
use Rattle.st_writer.proofs.Laws.{fronts_then}
use Rattle.structured_text.proofs.print_before.Statement.{statement}
use Rattle.structured_text.proofs.print_before.Tie as tie

returns : tie.Need-returns
returns c = λ p t z e. fronts_then (fronts_then c.savings_before-savings.ensures (c.rules_before-rules.ensures p t z e)) c.sections_before.ensures

pub print_before_spec : {M : Type 1} → statement M
print_before_spec = tie.close (tie.spec (λ c κs. search rules) (λ c κs. search rules) (λ c κs. search rules) (λ c. search rules) returns)
