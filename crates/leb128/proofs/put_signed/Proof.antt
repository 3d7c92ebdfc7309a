-- `leb128::put_signed` meets its contract. Assumes nothing.
use borrow.Author.Rules.{rules}
use Rattle.arith.proofs.Laws.{same32}
use Rattle.leb128.proofs.put_signed.Statement.{statement}
use Rattle.leb128.proofs.put_signed.Tie as tie

returns : tie.Need-returns
returns c =
    rw (same32 c.ranges.z) at (rw c.zigzag.ensures.0 at c.put_unsigned.ensures)

pub put_signed_spec : {M : Type 1} → statement M
put_signed_spec = tie.close (tie.spec (λ c κs. search rules) (λ c κs. search rules) (λ c. search rules) returns)
