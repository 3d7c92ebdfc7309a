-- `checker::advance::assign` meets its contract. Assumes nothing.
use mathlib.Core.Path.{sym, ap, ◌∙◌}
use borrow.Author.Tests.{not-true, not-false}
use mathlib.Core.Option.{some}
use Rattle.checker.proofs.Steps.{assign_is, closed_not, open_yes}
use borrow.Author.Rules.{rules}
use Rattle.checker.proofs.advance.assign.Statement.{statement}
use Rattle.checker.proofs.advance.assign.Tie as tie

returns : tie.Need-returns-then-w-ne0
returns c = (rw (assign_is, open_yes c.args.w.gate c.if-w-ne0.true), tt)

returns-2 : tie.Need-returns-then-not-holds_only
returns-2 c = (rw (assign_is, c.if-w-ne0.false, sym c.holds_only.ensures ∙ not-true _ c.if-not-holds_only.true-raw), tt)

returns-3 : tie.Need-returns-then-not-is_unset
returns-3 c = (rw (assign_is, c.if-w-ne0.false, sym c.holds_only.ensures ∙ not-false _ c.if-not-holds_only.false-raw, sym c.is_unset.ensures ∙ not-true _ c.if-not-is_unset.true-raw), tt)

returns-4 : tie.Need-returns-then-w-ne0-2
returns-4 c =
    (rw (assign_is, c.if-w-ne0.false, sym c.holds_only.ensures ∙ not-false _ c.if-not-holds_only.false-raw, sym c.is_unset.ensures ∙ not-false _ c.if-not-is_unset.false-raw, closed_not _ c.if-w-ne0-2.true), tt)

ruled-requires : tie.Need-ruled-requires
ruled-requires c κs = (c.requires, sym c.is_unset.ensures ∙ not-false _ c.if-not-is_unset.false-raw)

returns-5 : tie.Need-returns
returns-5 c =
    (rw (assign_is, c.if-w-ne0.false, sym c.holds_only.ensures ∙ not-false _ c.if-not-holds_only.false-raw, sym c.is_unset.ensures ∙ not-false _ c.if-not-is_unset.false-raw, c.if-w-ne0-2.false) (ap some c.ruled.ensures.0), c.ruled.ensures.1)

pub assign_spec : {M : Type 1} → statement M
assign_spec =
    tie.close
    (tie.spec returns (λ c κs. search rules) returns-2 (λ c κs. search rules) returns-3 returns-4 ruled-requires returns-5)
