use Rattle.std.proofs.Common.{length}
use Rattle.rounds.proofs.+visit_all.Given as goal

abbrev pub decreases-visit_all : goal.decreases-visit_all
decreases-visit_all l = length l.table.now
