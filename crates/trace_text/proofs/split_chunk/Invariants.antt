-- What is left of the chunk makes the whole.
use Rattle.trace_text.proofs.Chunks.{Dividing}
use Rattle.trace_text.proofs.split_chunk.Given as goal

abbrev pub invariant-loop-i : goal.invariant-loop-i
invariant-loop-i l = Dividing l.initial.text l.initial.place l.initial.stage l.chunk l.from l.text l.place l.stage l.i
