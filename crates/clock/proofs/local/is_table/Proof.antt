-- `clock::local::is_table` meets its contract. Assumes nothing.
use mathlib.Core.Path.{sym, ◌∙◌}
use native.Mathlib.Omega.{arith}
use borrow.Author.Rules.{rules}
use Rattle.clock.proofs.Entries.{table_odd, table_empty, table_long, table_fits}
use Rattle.clock.proofs.local.is_table.Statement.{statement}
use Rattle.clock.proofs.local.is_table.Tie as tie

returns-4 : tie.Need-returns
returns-4 c = c.are_entries.ensures ∙ sym (table_fits _ (omega arith) (omega arith) (omega arith))

pub is_table_spec : {M : Type 1} → statement M
is_table_spec = tie.close (tie.spec (λ c. sym (table_odd _ (λ e. omega (arith, c.if-table-ne0.true)))) (λ c. sym (table_empty _ (omega arith) (omega arith))) (λ c. sym (table_long _ (omega arith) (omega arith) (omega arith))) (λ c κs. search rules) returns-4)
