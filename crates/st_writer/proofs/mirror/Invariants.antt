use Rattle.std.proofs.Common.{length, ◌-◌}
use Rattle.st_writer.proofs.Copied.{Copying}
use Rattle.st_writer.proofs.mirror.Given as goal

abbrev pub invariant-loop-at : goal.invariant-loop-at
invariant-loop-at l = Copying l.code l.at l.initial.out l.out l.to

abbrev pub decreases-loop-at : goal.decreases-loop-at
decreases-loop-at l = length l.code - l.at
