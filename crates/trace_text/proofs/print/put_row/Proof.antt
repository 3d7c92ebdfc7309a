-- `trace_text::print::put_row` meets its contract. Assumes nothing.
use borrow.Author.Rules.{rules}
use Rattle.trace_text.proofs.Puts.{put_as, put_then}
use Rattle.trace_text.proofs.Lengths.{row_length_lem}
use Rattle.trace_text.proofs.Printing.{row_is}
use Rattle.trace_text.proofs.print.put_row.Statement.{statement}
use Rattle.trace_text.proofs.print.put_row.Tie as tie

returns : tie.Need-returns
returns c =
    let d = c.before.before.before.before.before.before in
    let b = d.before.before.before.before in
    let v = b.before.before.before.before in
    let n = v.before.before.before.before in
    let start = n.before.before.before in
    let a = start.args in (
      put_as
          (put_then (put_then (put_then (put_then n.put_unsigned_decimal-first.ensures v.put_values-second.ensures.0) b.put_byte-third.ensures) d.put_unsigned_decimal-fourth.ensures) c.put_byte.ensures)
          (row_is a.number a.values.now a.refusal),
      row_length_lem a.number a.values.now a.refusal start.ranges.number.fits start.ranges.refusal.fits v.put_values-second.ensures.1,
    )

pub put_row_spec : {M : Type 1} → statement M
put_row_spec =
    tie.close
    (tie.spec (λ c κs. search rules) (λ c κs. search rules) (λ c κs. search rules) (λ c κs. search rules) (λ c κs. search rules)
    (λ c. search rules) returns)
