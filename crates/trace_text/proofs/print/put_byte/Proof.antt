-- `trace_text::print::put_byte` meets its contract: a store out of range leaves the list as it is. Assumes nothing.
use mathlib.Core.Path.{sym}
use native.Mathlib.Omega.{arith}
use lib.Seq.{set_out}
use borrow.Author.Rules.{rules}
use Rattle.trace_text.proofs.print.put_byte.Statement.{statement}
use Rattle.trace_text.proofs.print.put_byte.Tie as tie

returns-2 : tie.Need-returns
returns-2 c = record { memory = sym (set_out _ _ _ c.if-at-out.false); place = omega arith }

pub put_byte_spec : {M : Type 1} → statement M
put_byte_spec = tie.close (tie.spec (λ c. search rules) (λ c. search rules) (λ c. search rules) (λ c. search rules) returns-2)
