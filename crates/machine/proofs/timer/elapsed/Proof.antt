-- `machine::timer::elapsed` meets its contract. Assumes nothing.
use mathlib.Core.Path.{◌≡◌, sym, ◌∙◌}
use mathlib.Core.Bool.{true, false}
use native.Mathlib.Omega.{arith}
use lib.IntN.{pos}
use mir.Facts.{to_z-of_z}
use Rattle.arith.specs.Values.{eq_z, compares}
use Rattle.machine.proofs.Timers.{elapsed_off, elapsed_rose, elapsed_full, elapsed_more}
use borrow.Author.Rules.{rules}
use Rattle.machine.proofs.timer.elapsed.Statement.{statement}
use Rattle.machine.proofs.timer.elapsed.Tie as tie

returns : tie.Need-returns-then-is_equal
unfolding compares
returns c =
    let a = c.args in
    let e : eq_z a.now (pos 0) ≡ true = rw (to_z-of_z c.ranges.now) at (sym c.is_equal.ensures ∙ c.if-is_equal.true) in
    (sym (elapsed_off a.millis a.n a.before a.now a.since e), omega arith)

returns-2 : tie.Need-returns-then-is_equal-2
unfolding compares
returns-2 c =
    let a = c.args in
    let e : eq_z a.now (pos 0) ≡ false = rw (to_z-of_z c.ranges.now) at (sym c.is_equal.ensures ∙ c.if-is_equal.false) in
    let f : eq_z a.before (pos 0) ≡ true = rw (to_z-of_z c.ranges.before) at (sym c.is_equal-2.ensures ∙ c.if-is_equal-2.true) in
    (sym (elapsed_rose a.millis a.n a.before a.now a.since e f), omega arith)

returns-3 : tie.Need-returns-then-n-past
unfolding compares
returns-3 c =
    let a = c.args in
    let e : eq_z a.now (pos 0) ≡ false = rw (to_z-of_z c.ranges.now) at (sym c.is_equal.ensures ∙ c.if-is_equal.false) in
    let f : eq_z a.before (pos 0) ≡ false = rw (to_z-of_z c.ranges.before) at (sym c.is_equal-2.ensures ∙ c.if-is_equal-2.false) in
    let q = rw (to_z-of_z c.ranges.since) at c.count-past.ensures.0 in
    (sym (elapsed_full a.millis a.n a.before a.now a.since e f (omega (arith, q, c.if-n-past.true))), omega arith)

returns-4 : tie.Need-returns-then-n-past-2
unfolding compares
returns-4 c =
    let a = c.args in
    let e : eq_z a.now (pos 0) ≡ false = rw (to_z-of_z c.ranges.now) at (sym c.is_equal.ensures ∙ c.if-is_equal.false) in
    let f : eq_z a.before (pos 0) ≡ false = rw (to_z-of_z c.ranges.before) at (sym c.is_equal-2.ensures ∙ c.if-is_equal-2.false) in
    let q = rw (to_z-of_z c.ranges.since) at c.count-past.ensures.0 in
    (sym (elapsed_full a.millis a.n a.before a.now a.since e f (omega (arith, q, c.if-n-past.false, c.if-n-past-2.true))), omega arith)

add-result : tie.Need-overflow_add-result
add-result c = record { fits = omega (arith, c.if-n-past.false, c.if-n-past-2.false, c.ranges.n.fits) }

returns-5 : tie.Need-returns
unfolding compares
returns-5 c =
    let a = c.args in
    let e : eq_z a.now (pos 0) ≡ false = rw (to_z-of_z c.ranges.now) at (sym c.is_equal.ensures ∙ c.if-is_equal.false) in
    let f : eq_z a.before (pos 0) ≡ false = rw (to_z-of_z c.ranges.before) at (sym c.is_equal-2.ensures ∙ c.if-is_equal-2.false) in
    let q = rw (to_z-of_z c.ranges.since) at c.count-past.ensures.0 in
    (rw q (sym (elapsed_more a.millis a.n a.before a.now a.since e f (omega (arith, q, c.if-n-past.false, c.if-n-past-2.false)))), omega (arith, c.if-n-past.false, c.if-n-past-2.false))

pub elapsed_spec : {M : Type 1} → statement M
elapsed_spec =
    tie.close
    (tie.spec (λ c κs. search rules) returns (λ c κs. search rules) returns-2 (λ c κs. search rules) returns-3 (λ c. search rules) returns-4
    add-result returns-5)
