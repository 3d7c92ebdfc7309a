-- `bytecode::put_instruction` meets its contract: two runs of stores make one. Assumes nothing.
use native.Mathlib.Numerals.{add-one}
use native.Mathlib.Omega.{arith}
use borrow.Author.Rules.{rules}
use Rattle.bytecode.proofs.put_instruction.Statement.{statement}
use Rattle.bytecode.proofs.put_instruction.Tie as tie

returns : tie.Need-returns
returns c =
    let at-put-byte = c.before.before.before.before.before.before in
    let p = at-put-byte.put_byte-t.ensures in
    let q = c.put_unsigned.ensures in
    (omega (arith, p.0, q.0), rw (q.1, p.1, p.0, add-one))

pub put_instruction_spec : {M : Type 1} → statement M
put_instruction_spec = tie.close (tie.spec (λ c κs. search rules) (λ c κs. search rules) (λ c. search rules) returns)
