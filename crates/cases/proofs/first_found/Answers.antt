-- `cases::first_found` meets its contract. Assumes nothing.
use mathlib.Core.Path.{sym, ap, ◌∙◌}
use native.Mathlib.Omega.{arith}
use Rattle.phrases.specs.Inner.Steps.{parsed_of, nothing}
use Rattle.cases.specs.Inner.Places.{place_only}
use Rattle.cases.proofs.Ways.{place_accepted, place_refused, first_found_before, first_found_here, first_found_late, first_found_after}
use Rattle.cases.proofs.first_found.Goals as goal
use Rattle.cases.proofs.first_found.Goals.{else-p-m-2-via-then-p-m-2+else-number-le5, else-p-m-2-via-else-p-m-2}

pub returns-in_default : goal.returns-in_default
unfolding place_only
returns-in_default c = λ p e. rw (place_accepted p (sym e ∙ ap (parsed_of nothing) c.in_default.is) _)

pub returns-then-p-m : goal.returns-then-p-m
unfolding place_only
returns-then-p-m c = λ p e.
    let r = place_refused p (sym e ∙ ap (parsed_of nothing) c.in-Err.is) in
    rw (first_found_before r c.args.m (omega (arith, c.place-p.ensures)))

pub returns-then-number-le5 : goal.returns-then-number-le5
unfolding place_only
returns-then-number-le5 c = λ p e.
    let r = place_refused p (sym e ∙ ap (parsed_of nothing) c.in-Err.is) in
    rw (first_found_here r c.args.m (omega (arith, c.place-p.ensures)) (omega (arith, c.place-p.ensures)) (omega (arith, c.number.ensures)))

pub returns : goal.returns
unfolding place_only
returns c = λ p e.
    let r = place_refused p (sym e ∙ ap (parsed_of nothing) c.in-Err.is) in
    elim c.else-p-m-2.branch [
      | else-p-m-2-via-then-p-m-2+else-number-le5 w ↦
          rw (first_found_late r c.args.m (omega (arith, c.place-p.ensures)) (omega (arith, c.place-p.ensures)) (omega (arith, w.number.ensures)))
      | else-p-m-2-via-else-p-m-2 w ↦
          rw (first_found_after r c.args.m (omega (arith, c.place-p.ensures)) (omega (arith, c.place-p.ensures)))
    ]
