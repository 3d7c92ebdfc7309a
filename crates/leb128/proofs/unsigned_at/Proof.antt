-- `leb128::unsigned_at` meets its contract: one group, or the reader of any number. Assumes nothing.
use mathlib.Core.Path.{sym}
use native.Mathlib.Omega.{arith}
use Rattle.leb128.proofs.Laws.{one_group}
use borrow.Author.Rules.{rules}
use Rattle.leb128.proofs.unsigned_at.Statement.{statement}
use Rattle.leb128.proofs.unsigned_at.Tie as tie

returns : tie.Need-returns-then-b-lt128
returns c =
    let e = c.from-b.ensures in
    rw e (sym (one_group _ _ c.if-at-s.true (omega (arith, e, c.if-b-lt128.true))))

pub unsigned_at_spec : {M : Type 1} → statement M
unsigned_at_spec = tie.close (tie.spec (λ c. search rules) (λ c κs. search rules) (λ c. search rules) returns (λ c κs. search rules) (λ c. search rules))
