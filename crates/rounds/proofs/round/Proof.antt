-- `rounds::round` meets its contract (Limits). Assumes nothing.
use native.Mathlib.Omega.{arith}
use mathlib.Core.Path.{sym, ◌∙◌}
use borrow.Author.Tests.{not-true, not-false}
use Rattle.rounds.specs.Together.{together}
use Rattle.rounds.proofs.Limits.{table_short, round_empty, round_out, round_in}
use borrow.Author.Rules.{rules}
use Rattle.rounds.proofs.round.Statement.{statement}
use Rattle.rounds.proofs.round.Tie as tie

returns : tie.Need-returns-then-table-lt1
returns c = round_empty c.args.table.now c.args.images.now (together c.args.paused.now c.args.states.now c.args.answers.now) c.if-table-lt1.true

returns-2 : tie.Need-returns-then-not-fits
returns-2 c = round_out c.args.table.now c.args.images.now (together c.args.paused.now c.args.states.now c.args.answers.now) c.if-table-lt1.false (sym (not-true _ c.if-not-fits.true-raw) ∙ c.in_limit-fits.ensures)

visit-all-requires : tie.Need-visit_all-requires
visit-all-requires c κs = omega (arith, table_short 8 c.args.table.now (sym c.in_limit-fits.ensures ∙ not-false _ c.if-not-fits.false-raw))

returns-3 : tie.Need-returns
returns-3 c = round_in c.args.table.now c.args.images.now (together c.args.paused.now c.args.states.now c.args.answers.now) c.if-table-lt1.false (sym (not-false _ c.if-not-fits.false-raw) ∙ c.in_limit-fits.ensures) (together c.visit_all.new.paused c.visit_all.new.states c.visit_all.new.answers) c.visit_all.ensures

pub round_spec : {M : Type 1} → statement M
round_spec =
    tie.close
    (tie.spec returns (λ c κs. search rules) returns-2 visit-all-requires (λ c. search rules) (λ c. search rules) (λ c. search rules)
    returns-3)
