-- `fused::run_in` meets its contract. The outer loop's invariant is Fusing, the inner loop keeps it; the measure is the code that is left. Assumes nothing.
use Prim.Native.Nat.{◌+◌, ◌-◌, ◌≤◌, ◌<◌}
use mathlib.Core.Path.{◌≡◌, refl, sym, ◌∙◌}
use mathlib.Core.Bool.{false≢true}
use mathlib.Core.List.{List}
use mathlib.Core.Logic.{◌⊎◌, inl, inr, ⊎_elim}
use native.Mathlib.Omega.{arith}
use borrow.Author.Rules.{rules}
use lib.IntN.{ℤ}
use lib.ListN.{length}
use Rattle.fused.proofs.Fusing.{Fusing, leapt, leapt_refused, leapt_broken, first_not_refused, first_broken, fusing_first, first_far, fusing_begins, fusing_broken, fusing_stops, fusing_ends, fusing_misses, goes_far, fusing_leaps}
use Rattle.fused.proofs.Acting.{fusing_stretches, stretch_far, stretch_inside}
use Rattle.fused.proofs.run_in.Statement.{statement}
use Rattle.fused.proofs.run_in.Tie as tie

-- from where the inner loop begins: it goes on, or whether instructions are passed over is as it was
abbrev invariant_loop : tie.invariant-loop-b
invariant_loop code low high prev cur₀ vals₀ inputs b₀ steps₀ cur vals b steps =
    (b₀.at ≤ b.at) × ((b₀.at < b.at) ⊎ (b.passing ≡ b₀.passing))
    × ((cur₁ vals₁ : List ℤ) → Fusing code low high prev inputs cur₁ vals₁ cur₀ vals₀ b₀ steps₀ → Fusing code low high prev inputs cur₁ vals₁ cur vals b steps)

abbrev decreases_loop : tie.decreases-loop-b
decreases_loop code low high prev cur₀ vals₀ inputs b₀ steps₀ cur vals b steps = length code - b.at

abbrev invariant-code : tie.invariant-code
invariant-code code low high prev cur₀ vals₀ inputs b₀ steps₀ cur vals b steps = Fusing code low high prev inputs cur₀ vals₀ cur vals b steps

abbrev decreases-code : tie.decreases-code
decreases-code code low high prev cur₀ vals₀ inputs b₀ steps₀ cur vals b steps = length code - b.at

initial-requires : tie.Need-initial-requires invariant_loop decreases_loop invariant-code decreases-code
initial-requires c κs = omega (arith, c.requires.1.0, c.requires.1.1)

code_holds : tie.Need-code-init invariant_loop decreases_loop invariant-code decreases-code
code_holds c = rw c.initial.ensures (fusing_begins _ _ _ _ _ _ _ c.requires.0 c.requires.1.0 c.requires.1.1 c.requires.1.2)

-- what is passed over
pass-first-requires : tie.Need-pass_first-requires invariant_loop decreases_loop invariant-code decreases-code
pass-first-requires c κs =
    let named = c.code.invariant.ready.named in
    ((c.code.invariant.ready.small, c.code-test.true, c.code.invariant.ready.opened), (omega (arith, c.code.invariant.ready.sized, named.previous), named.current ∙ sym named.previous))

add-steps : tie.Need-overflow_add-steps invariant_loop decreases_loop invariant-code decreases-code
add-steps c =
    let far = first_far c.code.invariant _ c.pass_first.result _ _ c.pass_first.ensures c.in-On.is c.code-test.true in
    omega (arith, c.code.invariant.few, far.0, far.1, c.well_formed.0)

same_length : tie.Need-shape_of-cur-in-Refused invariant_loop decreases_loop invariant-code decreases-code
same_length c = c.pass_first.auto.cur ∙ c.code.invariant.going.wide

returns : tie.Need-returns-in-Refused invariant_loop decreases_loop invariant-code decreases-code
returns c = absurd (first_not_refused _ _ _ _ _ c.pass_first.result _ _ c.pass_first.ensures c.in-Refused.is)

same-length-3 : tie.Need-shape_of-cur-in-Broken invariant_loop decreases_loop invariant-code decreases-code
same-length-3 c = c.pass_first.auto.cur ∙ c.code.invariant.going.wide

returns-2 : tie.Need-returns-in-Broken invariant_loop decreases_loop invariant-code decreases-code
returns-2 c = fusing_broken c.code.invariant (first_broken _ _ _ _ _ c.pass_first.result c.pass_first.ensures c.in-Broken.is) (omega (arith, c.code-test.true)) _ c.broken.result c.broken.ensures

loop-holds : tie.Need-loop-b-init invariant_loop decreases_loop invariant-code decreases-code
loop-holds c = (omega arith, inr refl, λ cur₁ vals₁ f. f)

-- a turn of the inner loop begins
going : (c : tie.At-loop-b invariant_loop decreases_loop invariant-code decreases-code) → let a = c.args in Fusing a.code.now a.low.now a.high.now a.prev.now a.inputs a.cur.now a.vals.now c.loop-b.cur c.loop-b.vals c.loop-b.b c.loop-b.steps
going c = c.loop-b.invariant.2 _ _ (fusing_first c.code.invariant _ c.pass_first.result _ _ c.pass_first.ensures c.in-On.is c.pass_first.auto.cur)

-- and has done a stretch together
stretched : (c : tie.After-act-s invariant_loop decreases_loop invariant-code decreases-code) → let a = c.args in Fusing a.code.now a.low.now a.high.now a.prev.now a.inputs a.cur.now a.vals.now c.loop-b.cur c.act-s.new.vals c.act-s.result.progress (c.loop-b.steps + c.act-s.result.steps)
stretched c = fusing_stretches (going c.before.before.before.before.before) c.act-s.ensures

-- the inner loop ends with the code
code-less : tie.Need-code-smaller-in-loop-b invariant_loop decreases_loop invariant-code decreases-code
code-less c = omega (arith, c.loop-b-test.false, c.code-test.true)

code-again : tie.Need-code-preserved-in-loop-b invariant_loop decreases_loop invariant-code decreases-code
code-again c = going c.before.before

-- or where instructions are passed over
code-less-2 : tie.Need-code-smaller-then-b invariant_loop decreases_loop invariant-code decreases-code
code-less-2 c =
    let far = first_far c.code.invariant _ c.pass_first.result _ _ c.pass_first.ensures c.in-On.is c.code-test.true in
    let less : c.code.b.at < c.loop-b.b.at =
    ⊎_elim (λ l. omega (arith, l, far.0)) (λ e. ⊎_elim (λ l. omega (arith, l, c.loop-b.invariant.0)) (λ p. absurd (false≢true (sym p ∙ sym e ∙ c.if-b.true))) far.2) c.loop-b.invariant.1 in
    omega (arith, less, c.loop-b-test.true)

code-again-2 : tie.Need-code-preserved-then-b invariant_loop decreases_loop invariant-code decreases-code
code-again-2 c = going c.before.before.before

-- what is done together
act-requires : tie.Need-act-s-requires invariant_loop decreases_loop invariant-code decreases-code
act-requires c κs = ((going c.before.before.before.before).ready, c.if-b.false)

add-steps-2 : tie.Need-overflow_add-steps-in-loop-b invariant_loop decreases_loop invariant-code decreases-code
add-steps-2 c =
    let inside = stretch_inside c.act-s.ensures (omega (arith, c.loop-b-test.true)) in
    omega (arith, (going c.before.before.before.before.before.before.before.before).few, stretch_far c.act-s.ensures, inside, c.well_formed.0)

code-less-3 : tie.Need-code-smaller invariant_loop decreases_loop invariant-code decreases-code
code-less-3 c = omega (arith, c.if-code-b.true, c.code-test.true)

code-again-3 : tie.Need-code-preserved invariant_loop decreases_loop invariant-code decreases-code
code-again-3 c = stretched c.before.before.before.before.before

-- a turn of the inner loop
advance-ahead-requires : tie.Need-advance_ahead-m-requires invariant_loop decreases_loop invariant-code decreases-code
advance-ahead-requires c κs = ((stretched c.before.before.before.before.before.before.before).ready, (c.if-code-b.false, c.act-s.ensures.acting))

add-steps-3 : tie.Need-overflow_add-steps-in-On-m invariant_loop decreases_loop invariant-code decreases-code
add-steps-3 c =
    let inv = stretched c.before.before.before.before.before.before.before.before.before.before.before in
    let far = goes_far _ _ _ _ _ _ _ (leapt inv _ _ c.advance_ahead-m.result _ _ c.advance_ahead-m.ensures c.in-On-m.is) in
    omega (arith, inv.few, far.0, far.1, c.well_formed.0)

loop-less : tie.Need-loop-b-smaller invariant_loop decreases_loop invariant-code decreases-code
loop-less c =
    let far = goes_far _ _ _ _ _ _ _ (leapt (stretched c.before.before.before.before.before.before.before.before.before.before.before) _ _ c.advance_ahead-m.result _ _ c.advance_ahead-m.ensures c.in-On-m.is) in
    omega (arith, stretch_far c.act-s.ensures, far.0, far.2, c.if-code-b.false)

loop-again : tie.Need-loop-b-preserved invariant_loop decreases_loop invariant-code decreases-code
loop-again c =
    let goes = leapt (stretched c.before.before.before.before.before.before.before.before.before.before.before) _ _ c.advance_ahead-m.result _ _ c.advance_ahead-m.ensures c.in-On-m.is in
    let far = goes_far _ _ _ _ _ _ _ goes in
    (omega (arith, c.loop-b.invariant.0, stretch_far c.act-s.ensures, far.0), inl (omega (arith, c.loop-b.invariant.0, stretch_far c.act-s.ensures, far.0, far.2)), λ cur₁ vals₁ f. fusing_leaps _ _ _ _ _ _ _ goes (fusing_stretches (c.loop-b.invariant.2 cur₁ vals₁ f) c.act-s.ensures) c.advance_ahead-m.auto.vals c.advance_ahead-m.auto.cur)

-- that the machine refuses
add-refused : tie.Need-overflow_add-steps-in-Refused-m invariant_loop decreases_loop invariant-code decreases-code
add-refused c = omega (arith, (stretched c.before.before.before.before.before.before.before.before.before.before.before.before).few, c.if-code-b.false, c.well_formed.0)

refused-requires : tie.Need-refused-requires invariant_loop decreases_loop invariant-code decreases-code
refused-requires c κs = (leapt_refused (stretched c.before.before.before.before.before.before.before.before.before.before.before.before) _ _ c.advance_ahead-m.result _ _ c.advance_ahead-m.ensures c.in-Refused-m.is).stride.small

returns-3 : tie.Need-returns-in-Refused-m invariant_loop decreases_loop invariant-code decreases-code
returns-3 c =
    let inv = stretched c.before.before.before.before.before.before.before.before.before.before.before.before.before in
    fusing_stops inv _ _ c.if-code-b.false (leapt_refused inv _ _ c.advance_ahead-m.result _ _ c.advance_ahead-m.ensures c.in-Refused-m.is) _ c.refused.result c.refused.ensures

-- that breaks soundness
returns-4 : tie.Need-returns-in-Broken-m invariant_loop decreases_loop invariant-code decreases-code
returns-4 c =
    let inv = stretched c.before.before.before.before.before.before.before.before.before.before.before.before in
    fusing_broken inv (leapt_broken inv _ _ c.advance_ahead-m.result c.advance_ahead-m.ensures c.in-Broken-m.is) (omega (arith, c.if-code-b.false)) _ c.broken-in-Broken-m.result c.broken-in-Broken-m.ensures

-- the code ends
complete-requires : tie.Need-complete-requires invariant_loop decreases_loop invariant-code decreases-code
complete-requires c κs = c.code.invariant.ready.small

returns-5 : tie.Need-returns-then-complete invariant_loop decreases_loop invariant-code decreases-code
returns-5 c = fusing_ends c.code.invariant c.code-test.false (sym c.if-complete.true ∙ c.complete.ensures)

returns-6 : tie.Need-returns invariant_loop decreases_loop invariant-code decreases-code
returns-6 c = (fusing_misses c.code.invariant c.code-test.false (sym c.if-complete.false ∙ c.complete.ensures), omega arith)

pub run_in_spec : {M : Type 1} → statement M
run_in_spec =
    tie.close
    (tie.spec invariant_loop decreases_loop invariant-code decreases-code
    initial-requires code_holds pass-first-requires (λ c. search rules) add-steps (λ c. search rules) same_length (λ c. search rules) returns (λ c. search rules) (λ c κs. search rules) same-length-3 (λ c. search rules) returns-2
    loop-holds code-less code-again code-less-2 code-again-2 act-requires add-steps-2 code-less-3 code-again-3 advance-ahead-requires (λ c. search rules) add-steps-3 loop-less loop-again
    (λ c. search rules) add-refused refused-requires (λ c. c.advance_ahead-m.auto.cur ∙ (stretched c.before.before.before.before.before.before.before.before.before.before.before.before.before).going.wide) (λ c. c.advance_ahead-m.auto.vals ∙ (stretched c.before.before.before.before.before.before.before.before.before.before.before.before.before).going.deep) returns-3 (λ c. search rules) (λ c κs. search rules) (λ c. c.advance_ahead-m.auto.cur ∙ (stretched c.before.before.before.before.before.before.before.before.before.before.before.before).going.wide) (λ c. c.advance_ahead-m.auto.vals ∙ (stretched c.before.before.before.before.before.before.before.before.before.before.before.before).going.deep) returns-4 complete-requires
    (λ c. search rules) (λ c. search rules) returns-5 (λ c. search rules) (λ c. search rules) returns-6)
