-- `declarations::timers::is_watchable` meets its contract. Assumes nothing.
use mathlib.Core.Bool.{false≢true}
use mathlib.Core.List.{[]}
use native.Mathlib.Omega.{arith}
use Rattle.declarations.proofs.TimerWays.{an_input, a_timer, a_variable}
use borrow.Author.Rules.{rules}
use Rattle.declarations.proofs.timers.is_watchable.Statement.{statement}
use Rattle.declarations.proofs.timers.is_watchable.Tie as tie

returns : tie.Need-returns-then-id-inputs
returns c = (λ starts count names w. an_input [] [] [] 0 _ _ names _ c.if-id-inputs.true, λ e. absurd (false≢true e))

returns-2 : tie.Need-returns-then-first-id
returns-2 c = (λ starts count names w. a_timer [] [] [] 0 _ _ names _ c.if-id-inputs.false c.if-first-id.true, λ e. absurd (false≢true e))

returns-3 : tie.Need-returns
returns-3 c = (λ starts count names w. a_variable _ starts _ count _ _ names _ c.if-id-inputs.false c.if-first-id.false w c.is_binary.ensures, λ e. c.if-first-id.false)

shared-slice-read-is-binary : tie.Need-bounds-ends-id
shared-slice-read-is-binary c = omega (arith, c.if-first-id.false, c.requires)

pub is_watchable_spec : {M : Type 1} → statement M
is_watchable_spec = tie.close (tie.spec returns returns-2 (λ c. search rules) shared-slice-read-is-binary (λ c κs. search rules) returns-3)
