use Rattle.std.proofs.Common.{◌∷◌, pos, get_or, add-one, drop-cons, drop_of_length-le, arith, rules, w32}
use mir.Val.{SFits}
use Rattle.arith.proofs.Laws.{same32}
use Rattle.trace_text.specs.Output.{decimal_of}
use Rattle.trace_text.proofs.Lengths.{values_more}
use Rattle.trace_text.proofs.Puts.{put_clip, put_then, putting_next, putting_done}
use Rattle.trace_text.proofs.print.put_values.Goals as goal

pub loop-z-preserved : goal.loop-z-preserved
loop-z-preserved c =
    let values = c.args.values.now in
    let i = c.loop-z.z-index in
    let f : SFits w32 (get_or values i (pos 0)) = search rules in
    let p = rw (same32 f) at (put_then c.put_byte-next.ensures c.put_decimal-place.ensures) in
    let more = c.loop-z.invariant.1 in (
      putting_next (32 ∷ decimal_of (get_or values i (pos 0))) c.loop-z.invariant.0 (rw (drop-cons values i (pos 0) c.loop-z-test.true, add-one)) p,
      omega (arith, values_more values i c.loop-z-test.true f),
    )

pub returns-clause-put : goal.returns-clause-put
returns-clause-put c =
    put_clip (rw c.min-place.ensures at (putting_done c.loop-z.invariant.0 (rw (drop_of_length-le c.args.values.now c.loop-z-test.false))))
