-- `checker::advance::pick` meets its contract. Assumes nothing.
use mathlib.Core.Path.{sym, ◌∙◌}
use borrow.Author.Tests.{not-true, not-false}
use Rattle.checker.proofs.Bits.{sorts_none}
use Rattle.checker.proofs.Steps.{pick_is, picks_made, open_yes}
use borrow.Author.Rules.{rules}
use native.Mathlib.Omega.{arith}
use Rattle.checker.proofs.advance.pick.Statement.{statement}
use Rattle.checker.proofs.advance.pick.Tie as tie

returns-2 : tie.Need-returns-then-not-holds_only
returns-2 c = (rw (pick_is, open_yes c.args.w.gate c.if-w-eq0.false, sym c.holds_only.ensures ∙ not-true _ c.if-not-holds_only.true-raw), tt)

returns-3 : tie.Need-returns-then-not-is_unset
returns-3 c = (rw (pick_is, open_yes c.args.w.gate c.if-w-eq0.false, sym c.holds_only.ensures ∙ not-false _ c.if-not-holds_only.false-raw, sym c.is_unset.ensures ∙ not-true _ c.if-not-is_unset.true-raw), tt)

returns-4 : tie.Need-returns-then-not-may_pick
returns-4 c =
    (rw (pick_is, open_yes c.args.w.gate c.if-w-eq0.false, sym c.holds_only.ensures ∙ not-false _ c.if-not-holds_only.false-raw, sym c.is_unset.ensures ∙ not-false _ c.if-not-is_unset.false-raw, sym c.may_pick.ensures ∙ not-true _ c.if-not-may_pick.true-raw), tt)

returns-5 : tie.Need-returns
returns-5 c =
    let p = c.requires.0 in (
      rw (pick_is, open_yes c.args.w.gate c.if-w-eq0.false, sym c.holds_only.ensures ∙ not-false _ c.if-not-holds_only.false-raw, sym c.is_unset.ensures ∙ not-false _ c.if-not-is_unset.false-raw, sym c.may_pick.ensures ∙ not-false _ c.if-not-may_pick.false-raw, sorts_none, picks_made _ _ c.requires.1),
      record { few_held = omega arith; sorts_low = omega arith; few_names = p.few_names; known_low = p.known_low },
    )

pub pick_spec : {M : Type 1} → statement M
pick_spec =
    tie.close
    (tie.spec (λ c. (rw (pick_is, c.if-w-eq0.true), tt)) (λ c κs. search rules) returns-2 (λ c κs. search rules) returns-3 (λ c κs. search rules) returns-4 (λ c. search rules)
    (λ c. search rules) (λ c. search rules) returns-5)
