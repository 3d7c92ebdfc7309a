-- The bytes that came are put, the last first.
use Rattle.std.proofs.Common.{◌++◌, ◌-◌, length, drop}
use Rattle.st_writer.specs.Inner.Fronts.{Fronts}
use Rattle.st_writer.proofs.bytes_before.Given as goal

abbrev pub invariant-loop-b : goal.invariant-loop-b
invariant-loop-b l = Fronts (λ front. drop (length l.fn.word - length l.yielded) l.fn.word ++ front) l.initial.out l.out l.to l.place
