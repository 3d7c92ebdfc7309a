-- `arith::bits::with_bit` meets its contract. Assumes nothing.
use borrow.Author.Rules.{rules}
use Rattle.arith.proofs.Flags.{shifted}
use Rattle.arith.proofs.bits.with_bit.Statement.{statement}
use Rattle.arith.proofs.bits.with_bit.Tie as tie

pub with_bit_spec : {M : Type 1} → statement M
with_bit_spec = tie.close (tie.spec (λ c. search rules) (λ c. rw (shifted _ c.requires)))
