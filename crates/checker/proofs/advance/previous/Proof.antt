-- `checker::advance::previous` meets its contract. Assumes nothing.
use borrow.Author.Tests.{lt-ltb, le-ltb}
use Rattle.checker.specs.Inner.Walk.{pushed}
use Rattle.arith.proofs.Flags.{length_flags}
use borrow.Author.Rules.{rules}
use Rattle.checker.proofs.advance.previous.Statement.{statement}
use Rattle.checker.proofs.advance.previous.Tie as tie

returns : tie.Need-returns-then-id-w
unfolding pushed
returns c = (rw (length_flags, lt-ltb _ _ c.if-id-w.true) c.push.ensures.0, c.push.ensures.1)

pub previous_spec : {M : Type 1} → statement M
previous_spec = tie.close (tie.spec (λ c κs. search rules) returns (λ c. (rw (length_flags, le-ltb _ _ c.if-id-w.false), tt)))
