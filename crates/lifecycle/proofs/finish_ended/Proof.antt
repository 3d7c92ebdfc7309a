-- `calls::finish_ended` meets its contract. Assumes nothing.
use mathlib.Core.Path.{◌≡◌, sym, ◌∙◌}
use mathlib.Core.Bool.{true, false}
use native.Mathlib.Omega.{arith}
use borrow.Author.Tests.{not-true, not-false}
use borrow.Author.Rules.{rules}
use Rattle.paused.specs.Memory.{start_place, slice}
use Rattle.lifecycle.specs.Calls.{same_values}
use Rattle.lifecycle.proofs.Finishes.{back, state_room, ended_done}
use Rattle.lifecycle.proofs.finish_ended.Statement.{statement}
use Rattle.lifecycle.proofs.finish_ended.Tie as tie

returns : tie.Need-returns-then-not-same
returns c =
    let a = c.args in
    let e : same_values a.state.now (slice start_place a.size a.memory.now) ≡ false = rw (back 128 a.size) at (sym c.same.ensures ∙ not-true _ c.if-not-same.true-raw) in
    (rw e, (omega arith, omega arith))

fill-requires : tie.Need-fill-requires
fill-requires c κs =
    let a = c.args in
    let e : same_values a.state.now (slice start_place a.size a.memory.now) ≡ true = rw (back 128 a.size) at (sym c.same.ensures ∙ not-false _ c.if-not-same.false-raw) in
    rw (back 256 a.size) (state_room a.state.now a.memory.now a.size c.requires.0.0 c.requires.0.1 e)

returns-2 : tie.Need-returns
returns-2 c =
    let a = c.args in
    let e : same_values a.state.now (slice start_place a.size a.memory.now) ≡ true = rw (back 128 a.size) at (sym c.same.ensures ∙ not-false _ c.if-not-same.false-raw) in (
      ended_done a.state.now a.memory.now a.size c.requires.0.0 c.requires.0.1 e a.steps c.put.new.memory c.fill.new.to (rw (back 256 a.size) at c.fill.ensures) c.put.ensures,
      c.requires.1,
    )

pub finish_ended_spec : {M : Type 1} → statement M
finish_ended_spec =
    tie.close
    (tie.spec (λ c. search rules) (λ c. search rules) (λ c. search rules) (λ c. search rules) (λ c κs. search rules) (λ c. search rules)
    (λ c. search rules) returns (λ c. search rules) (λ c. search rules) (λ c. search rules) (λ c. search rules) fill-requires (λ c κs. search rules)
    (λ c. search rules) (λ c. search rules) returns-2)
