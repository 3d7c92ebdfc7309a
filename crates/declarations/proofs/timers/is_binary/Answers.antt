-- `declarations::timers::is_binary` meets its contract: each part that was read takes the definition one step on. Assumes nothing.
use mathlib.Core.Path.{sym, ap, ◌∙◌}
use native.Mathlib.Omega.{arith}
use borrow.Author.Rules.{rules}
use mir.Syntax.{w32}
use mir.Val.{SFits}
use Rattle.arith.specs.Values.{highest}
use Rattle.arith.proofs.Laws.{same32}
use Rattle.lexer.specs.Results.{kind_of}
use Rattle.phrases.specs.Inner.Steps.{parsed_of, nothing, value_told}
use Rattle.phrases.proofs.Writing.{found}
use Rattle.declarations.proofs.Bounds.{bound_kept}
use Rattle.declarations.proofs.TimerWays.{low_refused, dots_refused, high_refused, bounds_are}
use Rattle.declarations.proofs.timers.is_binary.Goals as goal

highest_fits : SFits w32 highest
highest_fits = record { sfits = omega arith }

pub returns-in_default : goal.returns-in_default
returns-in_default c = low_refused _ _ _ _ (sym c.bound_at.ensures ∙ ap (parsed_of value_told) c.in_default.is)

pub returns-in_default-expect : goal.returns-in_default-expect
unfolding kind_of
returns-in_default-expect c =
    let low = sym c.bound_at.ensures ∙ ap (parsed_of value_told) c.in-Ok.is in
    dots_refused _ _ _ _ low _ _ (sym c.expect.ensures ∙ ap (parsed_of nothing) c.in_default-expect.is)

pub returns-in_default-bound_at : goal.returns-in_default-bound_at
unfolding kind_of
returns-in_default-bound_at c =
    let low_fits : SFits w32 c.in-Ok.low.value = search rules in
    let low = sym c.bound_at.ensures ∙ ap (parsed_of value_told) c.in-Ok.is in
    high_refused _ _ _ _ low _ (found c.expect.ensures c.in-Ok-expect.is) _ _
    (sym (bound_kept _ _ low_fits highest_fits _ _ c.bound_at-2.ensures) ∙ ap (parsed_of value_told) c.in_default-bound_at.is)

pub returns-then-is_equal : goal.returns-then-is_equal
unfolding kind_of
returns-then-is_equal c x n h =
    let low_fits : SFits w32 c.in-Ok.low.value = search rules in
    let high_fits : SFits w32 c.in-Ok-bound_at.high.value = search rules in
    let low = sym c.bound_at.ensures ∙ ap (parsed_of value_told) c.in-Ok.is in
    let high = sym (bound_kept _ _ low_fits highest_fits _ _ c.bound_at-2.ensures) ∙ ap (parsed_of value_told) c.in-Ok-bound_at.is in
    let e = bounds_are _ _ _ _ low _ (found c.expect.ensures c.in-Ok-expect.is) _ _ high x n h in
    let is_low = rw (same32 low_fits) at (sym c.is_equal.ensures ∙ c.if-is_equal.true) in
    (rw (same32 high_fits) at c.is_equal-then-is_equal.ensures) ∙ sym (e ∙ rw is_low)

pub returns-else-is_equal : goal.returns-else-is_equal
unfolding kind_of
returns-else-is_equal c x n h =
    let low_fits : SFits w32 c.in-Ok.low.value = search rules in
    let low = sym c.bound_at.ensures ∙ ap (parsed_of value_told) c.in-Ok.is in
    let high = sym (bound_kept _ _ low_fits highest_fits _ _ c.bound_at-2.ensures) ∙ ap (parsed_of value_told) c.in-Ok-bound_at.is in
    let e = bounds_are _ _ _ _ low _ (found c.expect.ensures c.in-Ok-expect.is) _ _ high x n h in
    let is_low = rw (same32 low_fits) at (sym c.is_equal.ensures ∙ c.if-is_equal.false) in
    c.if-is_equal.false ∙ sym (e ∙ rw is_low)
