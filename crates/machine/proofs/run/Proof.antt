-- `machine::run` meets its contract. The loop's invariant: what is left to do makes the whole run (Loop.Going). The measure is
-- the budget left. Assumes nothing.
use mathlib.Core.Path.{◌≡◌, refl, sym, ◌∙◌}
use Prim.Native.Nat.{◌+◌, ◌-◌}
use native.Mathlib.Omega.{arith}
use borrow.Author.Rules.{rules}
use Rattle.machine.specs.Inner.Memory.{SettingIn}
use Rattle.machine.specs.Inner.Dispatch.{registers}
use Rattle.machine.proofs.Loop.{Going, ended, spent, timer_on, timer_refused, named_in, reached, at_timer, steps_within, refused_on}
use Rattle.machine.proofs.run.Statement.{statement}
use Rattle.machine.proofs.run.Tie as tie

abbrev invariant_loop : tie.invariant-loop-done
invariant_loop code low high prev cur₀ vals₀ timing from budget names held₀ picked₀ passing₀ at₀ done₀ cur vals held picked passing at done =
    Going code (SettingIn low high timing) low high prev cur₀ vals₀ from budget (registers held₀ picked₀ passing₀) cur vals (registers held picked passing) at done

abbrev decreases_loop : tie.decreases-loop-done
decreases_loop code low high prev cur₀ vals₀ timing from budget names held₀ picked₀ passing₀ at₀ done₀ cur vals held picked passing at done = budget - done

loop-holds : tie.Need-loop-done-init invariant_loop decreases_loop
loop-holds c =
    let a = c.args in
    let e : a.budget - 0 ≡ a.budget = omega arith in
    record {
      stack = record { few = c.requires.0.few; room = c.requires.0.room };
      named = c.requires.1;
      wide = refl;
      deep = refl;
      within = omega arith;
      goes = λ ns start r. let f : start + 0 ≡ start = omega arith in rw (e, f);
    }

run-untimed-requires : tie.Need-run_untimed-ran-requires invariant_loop decreases_loop
run-untimed-requires c κs = (record { few = c.loop-done.invariant.stack.few; room = c.loop-done.invariant.stack.room }, c.loop-done.invariant.named)

add-steps : tie.Need-overflow_add-steps invariant_loop decreases_loop
add-steps c = record { fits = omega (arith, c.run_untimed-ran.ensures.within, c.loop-done.invariant.within) }

returns : tie.Need-returns-in_default invariant_loop decreases_loop
returns c =
    let a = c.args in
    (λ ns q t. refused_on c.loop-done.invariant (named_in a.low.now a.high.now a.timing) c.run_untimed-ran.ensures _ c.in_default.is ns (record { ranged = q; timed = t }), steps_within c.loop-done.invariant (named_in a.low.now a.high.now a.timing) c.run_untimed-ran.ensures)

returns-2 : tie.Need-returns-then-budget-steps invariant_loop decreases_loop
returns-2 c =
    let a = c.args in
    (λ ns q t. spent (reached c.loop-done.invariant (named_in a.low.now a.high.now a.timing) c.run_untimed-ran.ensures c.in-Next.k c.in-Next.is c.run_untimed-ran.auto.vals c.run_untimed-ran.auto.cur) c.if-budget-steps.true ns (record { ranged = q; timed = t }), steps_within c.loop-done.invariant (named_in a.low.now a.high.now a.timing) c.run_untimed-ran.ensures)

returns-3 : tie.Need-returns-then-code-place invariant_loop decreases_loop
returns-3 c =
    let a = c.args in
    (λ ns q t. ended (reached c.loop-done.invariant (named_in a.low.now a.high.now a.timing) c.run_untimed-ran.ensures c.in-Next.k c.in-Next.is c.run_untimed-ran.auto.vals c.run_untimed-ran.auto.cur) c.if-code-place.true ns (record { ranged = q; timed = t }), steps_within c.loop-done.invariant (named_in a.low.now a.high.now a.timing) c.run_untimed-ran.ensures)

run-requires : tie.Need-run-requires invariant_loop decreases_loop
run-requires c κs =
    let a = c.args in
    (omega (arith, c.if-code-place.false), (at_timer c.loop-done.invariant (named_in a.low.now a.high.now a.timing) c.run_untimed-ran.ensures c.in-Next.k c.in-Next.is (omega (arith, c.if-budget-steps.false)) (omega (arith, c.if-code-place.false))).0, c.run_untimed-ran.auto.cur ∙ c.loop-done.invariant.named.current ∙ sym c.loop-done.invariant.named.previous)

add-t34 : tie.Need-overflow_add-result invariant_loop decreases_loop
add-t34 c = record { fits = omega (arith, c.if-budget-steps.false) }

returns-4 : tie.Need-returns-in_default-run invariant_loop decreases_loop
returns-4 c =
    let a = c.args in
    let g = reached c.loop-done.invariant (named_in a.low.now a.high.now a.timing) c.run_untimed-ran.ensures c.in-Next.k c.in-Next.is c.run_untimed-ran.auto.vals c.run_untimed-ran.auto.cur in
    (λ ns q t. timer_refused g (at_timer c.loop-done.invariant (named_in a.low.now a.high.now a.timing) c.run_untimed-ran.ensures c.in-Next.k c.in-Next.is (omega (arith, c.if-budget-steps.false)) (omega (arith, c.if-code-place.false))).1 (omega (arith, c.if-budget-steps.false)) _ c.run.result (c.run.ensures c.in-Next.k.held c.in-Next.k.picked a.low.now a.high.now _ g.stack.few (sym g.named.previous)) c.in_default-run.is ns (record { ranged = q; timed = t }), omega (arith, c.if-budget-steps.false))

add_done : tie.Need-overflow_add-done invariant_loop decreases_loop
add_done c = record { fits = omega (arith, c.if-budget-steps.false, c.ranges.budget.fits) }

loop-less : tie.Need-loop-done-smaller invariant_loop decreases_loop
loop-less c = omega (arith, c.if-budget-steps.false)

loop-again : tie.Need-loop-done-preserved invariant_loop decreases_loop
loop-again c =
    let a = c.args in
    let g = reached c.loop-done.invariant (named_in a.low.now a.high.now a.timing) c.run_untimed-ran.ensures c.in-Next.k c.in-Next.is c.run_untimed-ran.auto.vals c.run_untimed-ran.auto.cur in
    timer_on g (at_timer c.loop-done.invariant (named_in a.low.now a.high.now a.timing) c.run_untimed-ran.ensures c.in-Next.k c.in-Next.is (omega (arith, c.if-budget-steps.false)) (omega (arith, c.if-code-place.false))).1 (omega (arith, c.if-budget-steps.false)) _ c.run.result (c.run.ensures c.in-Next.k.held c.in-Next.k.picked a.low.now a.high.now _ g.stack.few (sym g.named.previous)) _ c.in-Some.is c.run.auto.cur

returns-5 : tie.Need-returns invariant_loop decreases_loop
returns-5 c = (λ ns q t. spent c.loop-done.invariant c.loop-done-test.false ns (record { ranged = q; timed = t }), c.loop-done.invariant.within)

pub run_spec : {M : Type 1} → statement M
run_spec =
    tie.close
    (tie.spec invariant_loop decreases_loop loop-holds (λ c. search rules) run-untimed-requires add-steps (λ c. search rules) (λ c. search rules) (λ c. search rules)
    (λ c. search rules) returns (λ c. search rules) (λ c. search rules) returns-2 (λ c. search rules) (λ c. search rules) returns-3 run-requires
    (λ c. search rules) (λ c. search rules) add-t34 (λ c. search rules) (λ c. search rules) returns-4 add_done loop-less loop-again (λ c. search rules)
    (λ c. search rules) returns-5)
