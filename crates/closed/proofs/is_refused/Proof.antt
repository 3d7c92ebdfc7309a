-- `closed::is_refused` meets its contract. The run works on a copy of the state that holds the row. Assumes nothing.
use mathlib.Core.Path.{refl, sym, ap, ◌∙◌}
use native.Mathlib.Omega.{arith}
use borrow.Author.Rules.{rules}
use lib.ListN.{length}
use Rattle.arith.proofs.Flags.{length_flags}
use Rattle.machine.proofs.Changes.{names_length}
use Rattle.scan.proofs.Scanning.{untimed-code}
use Rattle.closed.proofs.Scans.{scan_passes, scan_stops}
use Rattle.closed.proofs.is_refused.Statement.{statement}
use Rattle.closed.proofs.is_refused.Tie as tie

take-row-requires : tie.Need-take_row-requires
take-row-requires c κs = (c.requires.0.copies, c.requires.0.among)

run-untimed-requires : tie.Need-run_untimed-ran-requires
run-untimed-requires c κs =
    let f = c.requires.0 in
    (record { few = omega arith; room = c.requires.1 }, record { highs = f.highs ∙ sym f.lows; previous = sym f.lows; current = c.take_row.auto.copy ∙ f.copies ∙ sym f.lows })

returns : tie.Need-returns-in-Next
returns c ns r =
    let a = c.args in
    let f = c.requires.0 in
    scan_passes ns a.code.now a.low.now a.high.now a.state.now c.take_row.new.copy c.run_untimed-ran.new.vals c.run_untimed-ran.new.cur a.row.now (record { names = length a.low.now; timers = 0; millis = 0 }) c.run_untimed-ran.result r
    (record { flags = rw (names_length ns a.low.now a.high.now r); time = refl })
    (λ k ranged timed. untimed-code c.run_untimed-ran.ensures (omega (arith, f.lows)) k (record { ranged = ranged; named = ap length timed.flags ∙ length_flags (length a.low.now) 0 }))
    c.take_row.ensures _ (c.run_untimed-ran.auto.cur ∙ c.take_row.auto.copy ∙ f.copies) c.in-Next.is

returns-2 : tie.Need-returns-in-Refused
returns-2 c ns r =
    let a = c.args in
    let f = c.requires.0 in
    scan_stops ns a.code.now a.low.now a.high.now a.state.now c.take_row.new.copy c.run_untimed-ran.new.vals c.run_untimed-ran.new.cur a.row.now (record { names = length a.low.now; timers = 0; millis = 0 }) c.run_untimed-ran.result r
    (record { flags = rw (names_length ns a.low.now a.high.now r); time = refl })
    (λ k ranged timed. untimed-code c.run_untimed-ran.ensures (omega (arith, f.lows)) k (record { ranged = ranged; named = ap length timed.flags ∙ length_flags (length a.low.now) 0 }))
    c.take_row.ensures _ c.in-Refused.is

pub is_refused_spec : {M : Type 1} → statement M
is_refused_spec =
    tie.close
    (tie.spec take-row-requires run-untimed-requires (λ c. search rules) (λ c. search rules) (λ c. search rules) (λ c. search rules) returns (λ c. search rules) (λ c. search rules) returns-2)
