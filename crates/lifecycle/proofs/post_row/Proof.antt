-- `lifecycle::post_row` meets its contract (Posts). Assumes nothing.
use native.Mathlib.Omega.{arith}
use borrow.Author.Rules.{rules}
use Rattle.lifecycle.proofs.Posts.{row_wrong, row_done}
use Rattle.lifecycle.proofs.post_row.Statement.{statement}
use Rattle.lifecycle.proofs.post_row.Tie as tie

returns : tie.Need-returns-then-row-len
returns c = (row_wrong c.args.len c.args.row.now c.args.memory.now c.if-row-len.true, (omega arith, omega arith))

returns-2 : tie.Need-returns
returns-2 c = (row_done c.args.len c.args.row.now c.args.memory.now c.if-row-len.false c.store.new.to c.put.new.memory c.store.ensures.1 c.put.ensures, omega arith)

pub post_row_spec : {M : Type 1} → statement M
post_row_spec = tie.close (tie.spec returns (λ c κs. search rules) (λ c. search rules) (λ c κs. search rules) (λ c. search rules) returns-2)
