-- `lifecycle::row_length` meets its contract. Assumes nothing.
use borrow.Author.Rules.{rules}
use borrow.Author.Tests.{lt-ltb, le-ltb}
use Rattle.lifecycle.proofs.row_length.Statement.{statement}
use Rattle.lifecycle.proofs.row_length.Tie as tie

pub row_length_spec : {M : Type 1} → statement M
row_length_spec = tie.close (tie.spec (λ c. search rules) (λ c. rw (lt-ltb _ _ c.if-names-size.true)) (λ c. rw (le-ltb _ _ c.if-names-size.false)))
