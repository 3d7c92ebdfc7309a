-- `trace_text::print::put_refused` meets its contract. Assumes nothing.
use borrow.Author.Rules.{rules}
use Rattle.trace_text.proofs.Puts.{put_as, put_then}
use Rattle.trace_text.proofs.Lengths.{refused_length}
use Rattle.trace_text.proofs.Printing.{refused_is}
use Rattle.trace_text.proofs.print.put_refused.Statement.{statement}
use Rattle.trace_text.proofs.print.put_refused.Tie as tie

returns : tie.Need-returns
returns c =
    let d = c.before.before.before.before.before.before in
    let b = d.before.before.before.before in
    let n = b.before.before.before.before.before in
    let w = n.before.before.before.before in
    let start = w.before.before.before.before in
    let a = start.args in (
      put_as
          (put_then (put_then (put_then (put_then w.put_bytes-first.ensures n.put_unsigned_decimal-second.ensures) b.put_bytes-third.ensures) d.put_unsigned_decimal-fourth.ensures) c.put_byte.ensures)
          (refused_is a.number a.place),
      refused_length a.number a.place start.ranges.number.fits start.ranges.place.fits,
    )

pub put_refused_spec : {M : Type 1} → statement M
put_refused_spec =
    tie.close
    (tie.spec (λ c. search rules) (λ c κs. search rules) (λ c κs. search rules) (λ c. search rules) (λ c κs. search rules)
    (λ c. search rules) returns)
