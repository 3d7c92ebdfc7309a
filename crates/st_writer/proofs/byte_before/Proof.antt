use borrow.Author.Rules.{rules}
use native.Mathlib.Omega.{arith}
use Rattle.st_writer.proofs.byte_before.Statement.{statement}
use Rattle.st_writer.proofs.byte_before.Tie as tie
use Rattle.st_writer.proofs.Laws.{byte_first, byte_stored, byte_past}

pub byte_before_spec : {M : Type 1} → statement M
byte_before_spec =
    tie.close (tie.spec (λ c. byte_first _ _ _ (search rules)) (λ c. search rules) (λ c. search rules) (λ c. search rules) (λ c. byte_stored _ _ _ (omega arith)) (λ c. byte_past _ _ _ (omega arith) (omega arith)))
