use Rattle.semantics.specs.Shape.{traced_states}
use Rattle.watch.proofs.Reporting.{Reports}
use Rattle.watch.proofs.reports.Given as goal

abbrev pub invariant-loop-i : goal.invariant-loop-i
invariant-loop-i l = Reports l.text l.starts l.ends l.names l.at l.count (traced_states l.size l.trace) l.initial.report l.report l.a l.i
