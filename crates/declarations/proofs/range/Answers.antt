-- `declarations::range` meets its contract: each part that was read takes the definition one step on. Assumes nothing.
use mathlib.Core.Path.{refl, sym, ap, ◌∙◌}
use native.Mathlib.Omega.{arith}
use borrow.Author.Rules.{rules}
use mir.Syntax.{w32}
use mir.Val.{SFits}
use Rattle.limits.proofs.Exits.{handed_on}
use Rattle.arith.specs.Values.{highest}
use Rattle.arith.proofs.Laws.{same32}
use Rattle.lexer.specs.Results.{kind_of}
use Rattle.phrases.specs.Inner.Steps.{parsed_of, nothing, value_told}
use Rattle.phrases.proofs.Writing.{found, refuses, writes}
use Rattle.declarations.proofs.Bounds.{bound_kept, start_kept}
use Rattle.declarations.proofs.Ranges.{no_low, no_dots, no_high, no_start, whole_range}
use Rattle.declarations.proofs.range.Goals as goal

highest_fits : SFits w32 highest
highest_fits = record { sfits = omega arith }

pub returns-in_err-low : goal.returns-in_err-low
returns-in_err-low c =
    rw (handed_on c.from_residual.ensures c.in_err-low.was)
    (refuses c.in_err-low.was (no_low _ _ _ _ (sym c.bound_at.ensures ∙ ap (parsed_of value_told) c.in_err-low.was)))

pub returns-in_err-b : goal.returns-in_err-b
unfolding kind_of
returns-in_err-b c =
    let low = sym c.bound_at.ensures ∙ ap (parsed_of value_told) c.in_ok-low.was in
    rw (handed_on c.from_residual-in_err-b.ensures c.in_err-b.was)
    (refuses c.in_err-b.was (no_dots _ _ _ _ low _ _ (sym c.expect.ensures ∙ ap (parsed_of nothing) c.in_err-b.was)))

pub returns-in_err-high : goal.returns-in_err-high
unfolding kind_of
returns-in_err-high c =
    let low_fits : SFits w32 c.in_ok-low.low.value = search rules in
    let low = sym c.bound_at.ensures ∙ ap (parsed_of value_told) c.in_ok-low.was in
    rw (handed_on c.from_residual-in_err-high.ensures c.in_err-high.was)
    (refuses c.in_err-high.was
    (no_high _ _ _ _ low _ (found c.expect.ensures c.in_ok-b.was) _ _
    (sym (bound_kept _ _ low_fits highest_fits _ _ c.bound_at-2.ensures) ∙ ap (parsed_of value_told) c.in_err-high.was)))

pub returns-in_err-z : goal.returns-in_err-z
unfolding kind_of
returns-in_err-z c =
    let low_fits : SFits w32 c.in_ok-low.low.value = search rules in
    let high_fits : SFits w32 c.in_ok-high.high.value = search rules in
    let low = sym c.bound_at.ensures ∙ ap (parsed_of value_told) c.in_ok-low.was in
    let high = sym (bound_kept _ _ low_fits highest_fits _ _ c.bound_at-2.ensures) ∙ ap (parsed_of value_told) c.in_ok-high.was in
    rw (handed_on c.from_residual-in_err-z.ensures c.in_err-z.was)
    (refuses c.in_err-z.was
    (no_start _ _ _ _ low _ (found c.expect.ensures c.in_ok-b.was) _ _ high _ _
    (sym (start_kept _ _ low_fits high_fits _ _ c.start_at.ensures) ∙ ap (parsed_of value_told) c.in_err-z.was)))

pub returns : goal.returns
unfolding kind_of
returns c =
    let low_fits : SFits w32 c.in_ok-low.low.value = search rules in
    let high_fits : SFits w32 c.in_ok-high.high.value = search rules in
    let start_fits : SFits w32 c.in_ok-z.z.value = search rules in
    let low = sym c.bound_at.ensures ∙ ap (parsed_of value_told) c.in_ok-low.was in
    let high = sym (bound_kept _ _ low_fits highest_fits _ _ c.bound_at-2.ensures) ∙ ap (parsed_of value_told) c.in_ok-high.was in
    let start = sym (start_kept _ _ low_fits high_fits _ _ c.start_at.ensures) ∙ ap (parsed_of value_told) c.in_ok-z.was in
    let w = rw (same32 low_fits, same32 high_fits, same32 start_fits) at c.put_range.ensures in
    writes c.reached.ensures (record {
      tree = _;
      is = whole_range _ _ _ _ low _ (found c.expect.ensures c.in_ok-b.was) _ _ high _ _ start;
      ended = w.0;
      tells_it = refl;
      wrote = w.1;
    })
