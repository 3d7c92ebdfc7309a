-- `checker::advance::push` meets its contract. Assumes nothing.
use borrow.Author.Tests.{lt-ltb, le-ltb}
use Rattle.checker.specs.Inner.Walk.{pushed}
use Rattle.checker.proofs.Bits.{length_sorts, sorts_number, number_low, below_40}
use borrow.Author.Rules.{rules}
use native.Mathlib.Omega.{arith}
use Rattle.checker.proofs.advance.push.Statement.{statement}
use Rattle.checker.proofs.advance.push.Tie as tie

returns : tie.Need-returns-then-w
unfolding pushed
returns c = (rw (length_sorts, le-ltb _ _ c.if-w.true), tt)

mul-k : tie.Need-overflow_mul-k
mul-k c =
    let p = c.requires in
    record { fits = omega (arith, below_40 _ _ p.few_held p.sorts_low) }

returns-2 : tie.Need-returns
unfolding pushed
returns-2 c =
    let p = c.requires in
    let w = c.args.w in (
      rw (length_sorts, lt-ltb _ _ c.if-w.false, sorts_number),
      record { few_held = omega (arith, c.if-w.false); sorts_low = number_low w.held w.sorts p.sorts_low; few_names = p.few_names; known_low = p.known_low },
    )

pub push_spec : {M : Type 1} → statement M
push_spec = tie.close (tie.spec returns (λ c. search rules) mul-k returns-2)
