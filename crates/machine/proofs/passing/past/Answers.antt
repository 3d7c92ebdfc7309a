-- `machine::passing::past` meets its contract: each of the codes by its own step. Assumes nothing.
use mathlib.Core.Path.{refl, sym}
use mathlib.Core.Bool.{true}
use native.Mathlib.Omega.{arith}
use lib.ListN.{get_or}
use borrow.Author.Tests.{ne_eqb}
use Rattle.bytecode.proofs.Codes.{no_operand}
use Rattle.machine.proofs.Codes.{pass_other}
use Rattle.machine.proofs.Fetches.{low_operand}
use Rattle.machine.proofs.PassingOver.{alone_over, number_over}
use Rattle.machine.proofs.passing.past.Goals as goal

pub returns-then-byte-gt3 : goal.returns-then-byte-gt3
returns-then-byte-gt3 c =
    let a = c.args in
    let byte = get_or a.code.now a.at 0 in
    alone_over a.code.now a.at c.requires byte refl (ne_eqb byte 23 (λ e. omega (arith, c.if-byte-gt19.false))) (no_operand byte (omega (arith, c.if-byte-gt3.true)) (omega (arith, c.if-byte-gt19.false)))
    (λ ns prev k vs t. pass_other ns prev byte 0 k vs t (omega (arith, c.if-byte-gt3.true)) (omega (arith, c.if-byte-gt19.false)) (λ e. omega (arith, c.if-byte-gt19.false, e)))

pub returns : goal.returns
returns c =
    let a = c.args in
    let byte = get_or a.code.now a.at 0 in
    number_over a.code.now a.at c.requires byte refl (low_operand byte (omega (arith, c.if-byte-eq0.false)) (omega (arith, c.if-byte-gt3.false))) true
    (λ n ns prev k vs t. pass_other ns prev byte n k vs t (omega (arith, c.if-byte-eq0.false)) (omega (arith, c.if-byte-gt3.false)) (λ e. omega (arith, c.if-byte-gt3.false, e)))
    _ _ (sym c.in_ok-next.ensures)
