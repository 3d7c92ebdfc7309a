-- `trace_text::longer` meets its contract. Assumes nothing.
use native.Mathlib.Omega.{arith}
use borrow.Author.Tests.{le-leb, lt-leb}
use borrow.Author.Rules.{rules}
use Rattle.trace_text.specs.Inner.Stages.{longer_by}
use Rattle.trace_text.proofs.longer.Statement.{statement}
use Rattle.trace_text.proofs.longer.Tie as tie

returns : tie.Need-returns-in-0-to-214748364
unfolding longer_by
returns c = rw (le-leb c.args.v 214748364 (omega arith))

returns-2 : tie.Need-returns-in_default
unfolding longer_by
returns-2 c = rw (lt-leb c.args.v 214748364 (omega arith))

pub longer_spec : {M : Type 1} → statement M
longer_spec = tie.close (tie.spec (λ c. search rules) (λ c. search rules) returns returns-2)
