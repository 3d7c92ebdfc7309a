use Rattle.st_writer.specs.Inner.Fronts.{openings, Fronts}
use Rattle.st_writer.proofs.opens_before.Given as goal

abbrev pub invariant-loop : goal.invariant-loop
invariant-loop l = Fronts (openings l.counter) l.initial.out l.out l.to l.place
