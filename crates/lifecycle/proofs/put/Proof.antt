-- `calls::put` meets its contract. Assumes nothing.
use borrow.Author.Rules.{rules}
use mir.Facts.{to_z_pos}
use mir.Syntax.{w32}
use Rattle.lifecycle.proofs.put.Statement.{statement}
use Rattle.lifecycle.proofs.put.Tie as tie

pub put_spec : {M : Type 1} → statement M
put_spec = tie.close
    (tie.spec (λ c. search rules) (λ c. search rules) (λ c. search rules) (λ c. search rules) (λ c. rw (to_z_pos w32 c.requires.1)))
