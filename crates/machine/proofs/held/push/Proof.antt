-- `machine::held::push` meets its contract. The two ways are the laws of Stack. Assumes nothing.
use native.Mathlib.Omega.{arith}
use borrow.Author.Rules.{rules}
use mir.Facts.{to_z-of_z}
use Rattle.machine.proofs.Stack.{push_full, push_put}
use Rattle.machine.proofs.held.push.Statement.{statement}
use Rattle.machine.proofs.held.push.Tie as tie

returns : tie.Need-returns-then-n-ge-STACK_LIMIT
returns c = (λ ns s t. push_full c.args.vals.now c.args.m.held c.args.v c.args.m.picked t c.if-n-ge-STACK_LIMIT.true, search rules)

returns-2 : tie.Need-returns
returns-2 c = (λ ns s t. rw (to_z-of_z c.ranges.v) (push_put c.args.vals.now c.args.m.held c.args.v c.args.m.picked t c.if-n-ge-STACK_LIMIT.false c.requires.room), omega arith)

pub push_spec : {M : Type 1} → statement M
push_spec = tie.close (tie.spec returns (λ c. search rules) (λ c. search rules) (λ c. search rules) (λ c. search rules) returns-2)
