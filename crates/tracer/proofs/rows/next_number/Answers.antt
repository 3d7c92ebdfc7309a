use Rattle.std.proofs.Common.{arith}
use Rattle.std.proofs.lemmas.Bool.Decides.{nat_tests}
use Rattle.tracer.specs.Session.{next_number}
use Rattle.tracer.proofs.rows.next_number.Goals as goal

pub returns : goal.returns
unfolding next_number
returns c = grind (arith, nat_tests)
