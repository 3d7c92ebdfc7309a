-- `checker::advance::timer` meets its contract. Assumes nothing.
use Prim.Native.Nat.{ℕ, ◌≤◌, ◌<◌}
use mathlib.Core.Path.{◌≡◌, sym, ap, ◌∙◌}
use mathlib.Core.Option.{some}
use native.Mathlib.Omega.{arith}
use borrow.Author.Tests.{not-true, not-false}
use borrow.Author.Rules.{rules}
use Rattle.checker.proofs.Bits.{sorts_none}
use Rattle.checker.proofs.Steps.{empty_not, closed_not, open_yes}
use Rattle.checker.proofs.advance.timer.Statement.{statement}
use Rattle.checker.proofs.advance.timer.Tie as tie

over : {n : ℕ} → 0 < n → n ≡ 0 → ⊥
over h e = omega arith

none : {n : ℕ} → n ≤ 0 → n ≡ 0
none h = omega arith

returns : tie.Need-returns-then-w-ne0
returns c = (λ v n. rw (open_yes c.args.w.gate c.if-w-ne0.true), tt)

returns-2 : tie.Need-returns-then-w-gt0
returns-2 c = (λ v n. rw (c.if-w-ne0.false, empty_not _ _ (over c.if-w-gt0.true)), tt)

returns-3 : tie.Need-returns-then-not-is_unset
returns-3 c = (λ v n. rw (c.if-w-ne0.false, none c.if-w-gt0.false, sorts_none, sym c.is_unset.ensures ∙ not-true _ c.if-not-is_unset.true-raw), tt)

returns-4 : tie.Need-returns-then-w-gt0-2
returns-4 c = (λ v n. rw (c.if-w-ne0.false, none c.if-w-gt0.false, sorts_none, sym c.is_unset.ensures ∙ not-false _ c.if-not-is_unset.false-raw, closed_not _ (over c.if-w-gt0-2.true)), tt)

ruled-requires : tie.Need-ruled-requires
ruled-requires c κs = (c.requires, sym c.is_unset.ensures ∙ not-false _ c.if-not-is_unset.false-raw)

returns-5 : tie.Need-returns
returns-5 c = (λ v n. rw (c.if-w-ne0.false, none c.if-w-gt0.false, sorts_none, sym c.is_unset.ensures ∙ not-false _ c.if-not-is_unset.false-raw, none c.if-w-gt0-2.false) (ap some c.ruled.ensures.0), c.ruled.ensures.1)

pub timer_spec : {M : Type 1} → statement M
timer_spec = tie.close (tie.spec returns returns-2 (λ c κs. search rules) returns-3 returns-4 ruled-requires returns-5)
