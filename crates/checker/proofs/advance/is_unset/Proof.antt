-- `checker::advance::is_unset` meets its contract. Assumes nothing.
use borrow.Author.Tests.{lt-ltb, le-ltb}
use borrow.Author.Rules.{rules}
use Rattle.arith.proofs.Flags.{length_flags, flag_at}
use Rattle.checker.proofs.advance.is_unset.Statement.{statement}
use Rattle.checker.proofs.advance.is_unset.Tie as tie

returns-2 : tie.Need-returns
returns-2 c =
    let a = c.args in
    let l = c.if-id-w.false in
    rw (length_flags, lt-ltb _ _ l, flag_at a.w.names a.w.known a.id l, c.bit.ensures)

pub is_unset_spec : {M : Type 1} → statement M
is_unset_spec = tie.close (tie.spec (λ c. rw (length_flags, le-ltb _ _ c.if-id-w.true)) (λ c κs. search rules) returns-2)
