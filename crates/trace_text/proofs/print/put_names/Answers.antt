use Rattle.std.proofs.Common.{◌≡◌, [], ◌∷◌, length, drop, take, add-one, drop-cons, drop_of_length-le, arith}
use Rattle.std.specs.List.{zip}
use Rattle.std.proofs.lemmas.List.{length_push}
use Rattle.std.proofs.lemmas.Iterator.{YieldsList-from_slice, YieldsList-from_zip, YieldsList-from_take}
use Rattle.std.proofs.lemmas.Iterator.Consumers.{YieldsList-turn, YieldsList-end}
use Rattle.lexer.specs.Bytes.{part}
use Rattle.trace_text.proofs.Puts.{put_clip, putting, putting_next, putting_done}
use Rattle.trace_text.proofs.Printing.{names_zip}
use Rattle.trace_text.proofs.print.put_names.Goals as goal

pub loop-start-init : goal.loop-start-init
loop-start-init c =
    let e = c.min-place.ensures in
    rw (← (names_zip c.args.text.now c.args.starts.now c.args.ends.now c.args.count)) (putting _ _ _ (omega arith))

pub loop-start-preserved : goal.loop-start-preserved
loop-start-preserved c =
    let bounds = take c.args.count (zip c.args.starts.now c.args.ends.now) in
    let t = YieldsList-turn (YieldsList-from_take {s = c.into_iter-start-iterator.result} c.args.count (YieldsList-from_zip (YieldsList-from_slice c.args.starts.now (cc)) (YieldsList-from_slice c.args.ends.now (cc))) (cc)) c.loop-start.yielded _ c.loop-start.yielded_by _ c.next.new.self _ c.in-Some.is c.next.ensures.steps in
    let n = length_push c.loop-start.yielded (c.in-Some.start, c.in-Some.end) in
    putting_next (32 ∷ part c.args.text.now c.in-Some.start.now c.in-Some.end.now) c.loop-start.invariant
    (rw (n, add-one, drop-cons bounds (length c.loop-start.yielded) (c.in-Some.start.now, c.in-Some.end.now) t.0, ← t.1)) c.put_name-place.ensures

pub returns : goal.returns
returns c =
    let bounds = take c.args.count (zip c.args.starts.now c.args.ends.now) in
    let t = YieldsList-end (YieldsList-from_take {s = c.into_iter-start-iterator.result} c.args.count (YieldsList-from_zip (YieldsList-from_slice c.args.starts.now (cc)) (YieldsList-from_slice c.args.ends.now (cc))) (cc)) c.loop-start.yielded _ c.loop-start.yielded_by _ c.next.new.self c.in-None.is c.next.ensures.steps in
    let none : drop (length c.loop-start.yielded) bounds ≡ [] = drop_of_length-le bounds (omega (arith, t.1)) in
    put_clip (rw c.min-place.ensures at (putting_done c.loop-start.invariant (rw none)))
