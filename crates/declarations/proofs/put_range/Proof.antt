-- `declarations::put_range` meets its contract. Assumes nothing.
use native.Mathlib.Omega.{arith}
use Rattle.declarations.proofs.Numbers.{near, number_kept, three_written}
use borrow.Author.Rules.{rules}
use Rattle.declarations.proofs.put_range.Statement.{statement}
use Rattle.declarations.proofs.put_range.Tie as tie

put-signed-requires-2 : tie.Need-put_signed-b-requires
put-signed-requires-2 c κs = omega (arith, near _ _ _ c.put_signed-a.ensures.0)

put-signed-requires-3 : tie.Need-put_signed-requires
put-signed-requires-3 c κs = omega (arith, near _ _ _ c.put_signed-a.ensures.0, near _ _ _ c.put_signed-b.ensures.0)

returns : tie.Need-returns
returns c =
    three_written _ _ _ _ _ _ _ _ (record { low = c.args.low; high = c.args.high; start = c.args.start })
    (number_kept _ _ _ _ c.args.low c.ranges.low c.put_signed-a.ensures) (number_kept _ _ _ _ c.args.high c.ranges.high c.put_signed-b.ensures) (number_kept _ _ _ _ c.args.start c.ranges.start c.put_signed.ensures)

pub put_range_spec : {M : Type 1} → statement M
put_range_spec = tie.close (tie.spec (λ c κs. search rules) put-signed-requires-2 put-signed-requires-3 (λ c. search rules) returns)
