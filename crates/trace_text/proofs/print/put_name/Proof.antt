-- `trace_text::print::put_name` meets its contract. Assumes nothing.
use borrow.Author.Rules.{rules}
use Rattle.trace_text.proofs.Puts.{put_then}
use Rattle.trace_text.proofs.print.put_name.Statement.{statement}
use Rattle.trace_text.proofs.print.put_name.Tie as tie

returns : tie.Need-returns
returns c = put_then c.put_byte-next.ensures (rw c.name.ensures at c.put_bytes.ensures)

pub put_name_spec : {M : Type 1} → statement M
put_name_spec = tie.close (tie.spec (λ c κs. search rules) (λ c κs. search rules) (λ c κs. search rules) (λ c. search rules) returns)
