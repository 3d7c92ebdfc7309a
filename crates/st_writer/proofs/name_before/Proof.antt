-- `st_writer::name_before` meets its contract. Assumes nothing.
use borrow.Author.Rules.{rules}
use mathlib.Core.Path.{sym, ap}
use mathlib.Core.List.{List, ◌++◌}
use Prim.Native.Nat.{ℕ}
use Rattle.st_writer.proofs.Laws.{as_front, no_name, a_name}
use Rattle.st_writer.proofs.name_before.Statement.{statement}
use Rattle.st_writer.proofs.name_before.Tie as tie

returns-2 : tie.Need-returns
returns-2 c = a_name _ _ _ _ _ _ _ _ _ c.requires c.if-count-id.false (as_front (λ l. ap (λ (k : List ℕ). k ++ l) (sym c.name.ensures)) c.bytes_before.ensures)

pub name_before_spec : {M : Type 1} → statement M
name_before_spec =
    tie.close
    (tie.spec (λ c. no_name _ _ _ _ _ _ _ c.if-count-id.true) (λ c. search rules) (λ c. search rules) (λ c. search rules) (λ c. search rules) (λ c κs. search rules) (λ c κs. search rules) (λ c. search rules) returns-2)
