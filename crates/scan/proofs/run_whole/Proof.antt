-- `scan::run_whole` meets its contract (Scanning). Assumes nothing.
use mathlib.Core.Path.{ap, ◌∙◌}
use native.Mathlib.Omega.{arith}
use borrow.Author.Rules.{rules}
use lib.ListN.{length}
use Rattle.arith.proofs.Flags.{length_flags}
use Rattle.scan.proofs.Scanning.{whole_code, untimed-code}
use Rattle.scan.proofs.run_whole.Statement.{statement}
use Rattle.scan.proofs.run_whole.Tie as tie

run-untimed-requires : tie.Need-run_untimed-requires
run-untimed-requires c κs = (record { few = omega arith; room = c.requires.0 }, c.requires.1)

returns : tie.Need-returns-then-prev-names
returns c =
    let k = c.args.timing in
    (λ ns r t. untimed-code c.run_untimed.ensures c.if-prev-names.true ns (record { ranged = r; named = ap length t.flags ∙ length_flags k.names k.timers }), c.run_untimed.ensures.within)

run-requires : tie.Need-run-requires
run-requires c κs = (record { few = omega arith; room = c.requires.0 }, c.requires.1)

returns-2 : tie.Need-returns
returns-2 c =
    let a = c.args in
    (λ ns r t. c.run.ensures.0 ns r t ∙ whole_code ns a.code.now a.prev.now a.vals.now a.cur.now, c.run.ensures.1)

pub run_whole_spec : {M : Type 1} → statement M
run_whole_spec =
    tie.close
    (tie.spec run-untimed-requires (λ c. search rules) (λ c. search rules) returns run-requires (λ c. search rules) (λ c. search rules) returns-2)
