-- `clock::row_length` meets its contract. Assumes nothing.
use borrow.Author.Rules.{rules}
use Rattle.clock.proofs.Service.{some_timer, no_timer_lem}
use Rattle.clock.proofs.row_length.Statement.{statement}
use Rattle.clock.proofs.row_length.Tie as tie

pub row_length_spec : {M : Type 1} → statement M
row_length_spec = tie.close (tie.spec (λ c. search rules) (λ c. some_timer _ _ c.if-timers-gt0.true) (λ c. no_timer_lem _ _ c.if-timers-gt0.false))
