use Rattle.std.proofs.Common.{length, arith}
use Rattle.std.proofs.lemmas.List.{length_push, length-reverse}
use Rattle.std.proofs.lemmas.Iterator.Adapters.{YieldsList-from_rev_slice}
use Rattle.std.proofs.lemmas.Iterator.Consumers.{YieldsList-turn}
use Rattle.st_writer.proofs.Laws.{word_turn}
use Rattle.st_writer.proofs.bytes_before.Goals as goal

pub loop-b-preserved : goal.loop-b-preserved
loop-b-preserved c =
    let word = c.args.word.now in
    let t = YieldsList-turn (YieldsList-from_rev_slice {s = c.into_iter-b-iterator.result} word (cc)) c.loop-b.yielded _ c.loop-b.yielded_by _ c.next.new.self _ c.in-Some.is c.next.ensures.steps in
    rw (length_push c.loop-b.yielded c.in-Some.b)
    (word_turn _ _ _ word (length c.loop-b.yielded) _ _ _ c.in-Some.b.now (omega (arith, t.0, length-reverse word)) t.1 c.loop-b.invariant c.byte_before-place.ensures)
