-- `tracer::rows::trace_byte` meets its contract: one law for LF, one for the other bytes. Assumes nothing.
use native.Mathlib.Omega.{arith}
use Rattle.tracer.proofs.Lines.{byte_ends, byte_more}
use borrow.Author.Rules.{rules}
use Rattle.tracer.proofs.rows.trace_byte.Statement.{statement}
use Rattle.tracer.proofs.rows.trace_byte.Tie as tie

returns : tie.Need-returns-then-b-ne10
returns c = byte_more _ _ _ _ _ _ _ c.if-b-ne10.true _ (omega (arith, c.requires.2)) c.line_byte-more.ensures.0 c.line_byte-more.ensures.1

trace-row-requires : tie.Need-trace_row-put-requires
trace-row-requires c κs = c.requires

returns-2 : tie.Need-returns
returns-2 c = byte_ends _ _ _ _ _ _ _ c.if-b-ne10.false c.next_number-next.ensures c.trace_row-put.ensures.0 c.trace_row-put.ensures.1.0 c.trace_row-put.ensures.1.1

pub trace_byte_spec : {M : Type 1} → statement M
trace_byte_spec = tie.close (tie.spec (λ c κs. search rules) (λ c. search rules) returns (λ c κs. search rules) trace-row-requires (λ c. search rules) (λ c. search rules) (λ c. search rules) returns-2)
