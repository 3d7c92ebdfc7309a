-- `checker::advance::settle` meets its contract. Assumes nothing.
use mathlib.Core.Path.{sym, ap, ◌∙◌}
use borrow.Author.Tests.{not-true, not-false}
use mathlib.Core.Option.{some}
use Rattle.checker.proofs.Bits.{sorts_none}
use Rattle.checker.proofs.Steps.{empty_not, open_yes}
use borrow.Author.Rules.{rules}
use Rattle.checker.proofs.advance.settle.Statement.{statement}
use Rattle.checker.proofs.advance.settle.Tie as tie

returns : tie.Need-returns-then-w-ne0
returns c = (rw (open_yes c.args.w.gate c.if-w-ne0.true), tt)

returns-2 : tie.Need-returns-then-w-ne0-2
returns-2 c = (rw (c.if-w-ne0.false, empty_not _ _ c.if-w-ne0-2.true), tt)

returns-3 : tie.Need-returns-then-not-is_unset
returns-3 c = (rw (c.if-w-ne0.false, c.if-w-ne0-2.false, sorts_none, sym c.is_unset.ensures ∙ not-true _ c.if-not-is_unset.true-raw), tt)

returns-4 : tie.Need-returns-then-not-may_settle
returns-4 c = (rw (c.if-w-ne0.false, c.if-w-ne0-2.false, sorts_none, sym c.is_unset.ensures ∙ not-false _ c.if-not-is_unset.false-raw, sym c.may_settle.ensures ∙ not-true _ c.if-not-may_settle.true-raw), tt)

ruled-requires : tie.Need-ruled-requires
ruled-requires c κs = (c.requires.0, sym c.is_unset.ensures ∙ not-false _ c.if-not-is_unset.false-raw)

returns-5 : tie.Need-returns
returns-5 c =
    (rw (c.if-w-ne0.false, c.if-w-ne0-2.false, sorts_none, sym c.is_unset.ensures ∙ not-false _ c.if-not-is_unset.false-raw, sym c.may_settle.ensures ∙ not-false _ c.if-not-may_settle.false-raw) (ap some c.ruled.ensures.0), c.ruled.ensures.1)

pub settle_spec : {M : Type 1} → statement M
settle_spec =
    tie.close
    (tie.spec returns returns-2 (λ c κs. search rules) returns-3 (λ c κs. search rules) returns-4 ruled-requires returns-5)
