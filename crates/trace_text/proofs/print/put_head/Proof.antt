-- `trace_text::print::put_head` meets its contract. Assumes nothing.
use borrow.Author.Rules.{rules}
use Rattle.trace_text.proofs.Puts.{put_as, put_then}
use Rattle.trace_text.proofs.Printing.{head_is}
use Rattle.lexer.specs.Names.{table_names}
use Rattle.trace_text.proofs.print.put_head.Statement.{statement}
use Rattle.trace_text.proofs.print.put_head.Tie as tie

returns : tie.Need-returns
returns c =
    let n = c.before.before.before.before.before.before.before in
    let w = n.before.before.before.before in
    let a = w.args in
    put_as
    (put_then (put_then w.put_bytes-first.ensures n.put_names-second.ensures) c.put_bytes.ensures)
    (head_is (table_names a.text.now a.starts.now a.ends.now a.count))

pub put_head_spec : {M : Type 1} → statement M
put_head_spec =
    tie.close
    (tie.spec (λ c. search rules) (λ c κs. search rules) (λ c κs. search rules) (λ c. search rules)
    returns)
