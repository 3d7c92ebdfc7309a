-- `fused::advance_one` meets its contract: each arm is the instruction of its code byte. Assumes nothing.
use Prim.Native.Nat.{◌+◌, ◌≤◌}
use mathlib.Core.Path.{refl, sym, ◌∙◌}
use native.Mathlib.Omega.{arith}
use lib.ListN.{get_or}
use Rattle.bytecode.specs.Instructions.{instruction_of, operation_of, comparison_of, has_operand}
use Rattle.bytecode.proofs.Codes.{operation_of_lem, comparison_of_lem, none_below, none_above, from_four, above, no_operand}
use Rattle.bytecode.proofs.Fetching.{number_within}
use Rattle.checker.specs.Inner.Walk.{known_of}
use Rattle.checker.proofs.Steps.{operation-is, comparison_is, both_is, either_is, negate_is, negated_is, constant_is}
use Rattle.machine.proofs.Codes.{calculated_is, related_is}
use Rattle.fused.proofs.Joining.{arrives, breaks, breaks_otherwise, alone, with_operand, malformed}
use Rattle.fused.proofs.advance_one.Goals as goal

-- code 1
pub returns-in_default-operand : goal.returns-in_default-operand
unfolding has_operand
returns-in_default-operand c = malformed c.args.code.now c.args.b c.requires.at_in_bounds.0 1 c.in-1.is refl (sym c.in_default-operand.ensures)

pub returns-in_default-push : goal.returns-in_default-push
unfolding instruction_of has_operand
returns-in_default-push c =
    let num = (sym c.in-Some.ensures) in
    breaks c.args.code.now c.args.b c.requires.at_in_bounds.0 (instruction_of 1 c.in-Some.n) c.in-Some.next (with_operand c.args.code.now c.args.b c.requires.at_in_bounds.0 1 c.in-1.is refl c.in-Some.n c.in-Some.next num) c.push.result c.in_default-push.is (c.push.ensures.result_value ∙ sym (constant_is c.in-Some.n (known_of c.args.b.walk) (number_within _ _ _ _ num).operand))

pub act-requires-clause-n_bound : goal.act-requires-clause-n_bound
act-requires-clause-n_bound c = (number_within _ _ _ _ (sym c.in-Some.ensures)).operand

-- code 2
pub returns-in_default-operand-2 : goal.returns-in_default-operand-2
unfolding has_operand
returns-in_default-operand-2 c = malformed c.args.code.now c.args.b c.requires.at_in_bounds.0 2 c.in-2.is refl (sym c.in_default-operand-2.ensures)

pub returns-in_default-current : goal.returns-in_default-current
unfolding instruction_of has_operand
returns-in_default-current c =
    let num = (sym c.in-Some-operand.ensures) in
    breaks c.args.code.now c.args.b c.requires.at_in_bounds.0 (instruction_of 2 c.in-Some-operand.n) c.in-Some-operand.next (with_operand c.args.code.now c.args.b c.requires.at_in_bounds.0 2 c.in-2.is refl c.in-Some-operand.n c.in-Some-operand.next num) c.current.result c.in_default-current.is c.current.ensures.result_value

pub act-requires-in-2-clause-n_bound : goal.act-requires-in-2-clause-n_bound
act-requires-in-2-clause-n_bound c = (number_within _ _ _ _ (sym c.in-Some-operand.ensures)).operand

-- code 3
pub returns-in_default-operand-3 : goal.returns-in_default-operand-3
unfolding has_operand
returns-in_default-operand-3 c = malformed c.args.code.now c.args.b c.requires.at_in_bounds.0 3 c.in-3.is refl (sym c.in_default-operand-3.ensures)

pub returns-in_default-previous : goal.returns-in_default-previous
unfolding instruction_of has_operand
returns-in_default-previous c =
    let num = (sym c.in-Some-operand-2.ensures) in
    breaks c.args.code.now c.args.b c.requires.at_in_bounds.0 (instruction_of 3 c.in-Some-operand-2.n) c.in-Some-operand-2.next (with_operand c.args.code.now c.args.b c.requires.at_in_bounds.0 3 c.in-3.is refl c.in-Some-operand-2.n c.in-Some-operand-2.next num) c.previous.result c.in_default-previous.is c.previous.ensures.result_value

pub act-requires-in-3-clause-n_bound : goal.act-requires-in-3-clause-n_bound
act-requires-in-3-clause-n_bound c = (number_within _ _ _ _ (sym c.in-Some-operand-2.ensures)).operand

pub returns-in_default-keep : goal.returns-in_default-keep
unfolding instruction_of has_operand
returns-in_default-keep c = breaks c.args.code.now c.args.b c.requires.at_in_bounds.0 (instruction_of 9 0) (c.args.b.at + 1) (alone c.args.code.now c.args.b c.requires.at_in_bounds.0 9 c.in-9.is refl) c.keep.result c.in_default-keep.is (c.keep.ensures.result_value ∙ sym (negate_is (known_of c.args.b.walk)))

pub returns-in_default-invert : goal.returns-in_default-invert
unfolding instruction_of has_operand
returns-in_default-invert c = breaks c.args.code.now c.args.b c.requires.at_in_bounds.0 (instruction_of 16 0) (c.args.b.at + 1) (alone c.args.code.now c.args.b c.requires.at_in_bounds.0 16 c.in-16.is refl) c.invert.result c.in_default-invert.is (c.invert.ensures.result_value ∙ sym (negated_is (known_of c.args.b.walk)))

pub returns-in_default-test : goal.returns-in_default-test
unfolding instruction_of has_operand
returns-in_default-test c = breaks c.args.code.now c.args.b c.requires.at_in_bounds.0 (instruction_of 17 0) (c.args.b.at + 1) (alone c.args.code.now c.args.b c.requires.at_in_bounds.0 17 c.in-17.is refl) c.test.result c.in_default-test.is (c.test.ensures.result_value ∙ sym (both_is (known_of c.args.b.walk)))

pub returns-in_default-test-2 : goal.returns-in_default-test-2
unfolding instruction_of has_operand
returns-in_default-test-2 c = breaks c.args.code.now c.args.b c.requires.at_in_bounds.0 (instruction_of 18 0) (c.args.b.at + 1) (alone c.args.code.now c.args.b c.requires.at_in_bounds.0 18 c.in-18.is refl) c.test-in-18.result c.in_default-test-2.is (c.test-in-18.ensures.result_value ∙ sym (either_is (known_of c.args.b.walk)))

pub returns-in_default-gate : goal.returns-in_default-gate
unfolding instruction_of has_operand
returns-in_default-gate c = breaks c.args.code.now c.args.b c.requires.at_in_bounds.0 (instruction_of 19 0) (c.args.b.at + 1) (alone c.args.code.now c.args.b c.requires.at_in_bounds.0 19 c.in-19.is refl) c.gate.result c.in_default-gate.is c.gate.ensures.result_value

-- code 20
pub returns-in_default-operand-4 : goal.returns-in_default-operand-4
unfolding has_operand
returns-in_default-operand-4 c = malformed c.args.code.now c.args.b c.requires.at_in_bounds.0 20 c.in-20.is refl (sym c.in_default-operand-4.ensures)

pub pick-requires : goal.pick-requires
pick-requires c = (c.requires.ready.small, omega arith, (number_within _ _ _ _ (sym c.in-Some-operand-3.ensures)).operand)

pub returns-in_default-pick : goal.returns-in_default-pick
unfolding instruction_of has_operand
returns-in_default-pick c =
    let num = (sym c.in-Some-operand-3.ensures) in
    breaks c.args.code.now c.args.b c.requires.at_in_bounds.0 (instruction_of 20 c.in-Some-operand-3.n) c.in-Some-operand-3.next (with_operand c.args.code.now c.args.b c.requires.at_in_bounds.0 20 c.in-20.is refl c.in-Some-operand-3.n c.in-Some-operand-3.next num) c.pick.result c.in_default-pick.is c.pick.ensures.result_value

pub act-requires-in-20-clause-n_bound : goal.act-requires-in-20-clause-n_bound
act-requires-in-20-clause-n_bound c = (number_within _ _ _ _ (sym c.in-Some-operand-3.ensures)).operand

-- code 21
pub returns-in_default-operand-5 : goal.returns-in_default-operand-5
unfolding has_operand
returns-in_default-operand-5 c = malformed c.args.code.now c.args.b c.requires.at_in_bounds.0 21 c.in-21.is refl (sym c.in_default-operand-5.ensures)

pub returns-in_default-assign : goal.returns-in_default-assign
unfolding instruction_of has_operand
returns-in_default-assign c =
    let num = (sym c.in-Some-operand-4.ensures) in
    breaks c.args.code.now c.args.b c.requires.at_in_bounds.0 (instruction_of 21 c.in-Some-operand-4.n) c.in-Some-operand-4.next (with_operand c.args.code.now c.args.b c.requires.at_in_bounds.0 21 c.in-21.is refl c.in-Some-operand-4.n c.in-Some-operand-4.next num) c.assign.result c.in_default-assign.is c.assign.ensures.result_value

pub act-requires-in-21-clause-n_bound : goal.act-requires-in-21-clause-n_bound
act-requires-in-21-clause-n_bound c = (number_within _ _ _ _ (sym c.in-Some-operand-4.ensures)).operand

-- code 22
pub returns-in_default-operand-6 : goal.returns-in_default-operand-6
unfolding has_operand
returns-in_default-operand-6 c = malformed c.args.code.now c.args.b c.requires.at_in_bounds.0 22 c.in-22.is refl (sym c.in_default-operand-6.ensures)

pub settle-requires : goal.settle-requires
settle-requires c = (c.requires.ready.small, (number_within _ _ _ _ (sym c.in-Some-operand-5.ensures)).operand)

pub returns-in_default-settle : goal.returns-in_default-settle
unfolding instruction_of has_operand
returns-in_default-settle c =
    let num = (sym c.in-Some-operand-5.ensures) in
    breaks c.args.code.now c.args.b c.requires.at_in_bounds.0 (instruction_of 22 c.in-Some-operand-5.n) c.in-Some-operand-5.next (with_operand c.args.code.now c.args.b c.requires.at_in_bounds.0 22 c.in-22.is refl c.in-Some-operand-5.n c.in-Some-operand-5.next num) c.settle.result c.in_default-settle.is c.settle.ensures.result_value

pub act-requires-in-22-clause-n_bound : goal.act-requires-in-22-clause-n_bound
act-requires-in-22-clause-n_bound c = (number_within _ _ _ _ (sym c.in-Some-operand-5.ensures)).operand

-- code 24
pub returns-in_default-operand-7 : goal.returns-in_default-operand-7
unfolding has_operand
returns-in_default-operand-7 c = malformed c.args.code.now c.args.b c.requires.at_in_bounds.0 24 c.in-24.is refl (sym c.in_default-operand-7.ensures)

pub pick-requires-in-24 : goal.pick-requires-in-24
pick-requires-in-24 c = (c.requires.ready.small, omega arith, (number_within _ _ _ _ (sym c.in-Some-operand-6.ensures)).operand)

pub returns-in_default-pick-2 : goal.returns-in_default-pick-2
unfolding instruction_of has_operand
returns-in_default-pick-2 c =
    let num = (sym c.in-Some-operand-6.ensures) in
    breaks c.args.code.now c.args.b c.requires.at_in_bounds.0 (instruction_of 24 c.in-Some-operand-6.n) c.in-Some-operand-6.next (with_operand c.args.code.now c.args.b c.requires.at_in_bounds.0 24 c.in-24.is refl c.in-Some-operand-6.n c.in-Some-operand-6.next num) c.pick-in-24.result c.in_default-pick-2.is c.pick-in-24.ensures.result_value

pub act-requires-in-24-clause-n_bound : goal.act-requires-in-24-clause-n_bound
act-requires-in-24-clause-n_bound c = (number_within _ _ _ _ (sym c.in-Some-operand-6.ensures)).operand

-- code 25
pub returns-in_default-operand-8 : goal.returns-in_default-operand-8
unfolding has_operand
returns-in_default-operand-8 c = malformed c.args.code.now c.args.b c.requires.at_in_bounds.0 25 c.in-25.is refl (sym c.in_default-operand-8.ensures)

pub pick-requires-in-25 : goal.pick-requires-in-25
pick-requires-in-25 c = (c.requires.ready.small, omega arith, (number_within _ _ _ _ (sym c.in-Some-operand-7.ensures)).operand)

pub returns-in_default-pick-3 : goal.returns-in_default-pick-3
unfolding instruction_of has_operand
returns-in_default-pick-3 c =
    let num = (sym c.in-Some-operand-7.ensures) in
    breaks c.args.code.now c.args.b c.requires.at_in_bounds.0 (instruction_of 25 c.in-Some-operand-7.n) c.in-Some-operand-7.next (with_operand c.args.code.now c.args.b c.requires.at_in_bounds.0 25 c.in-25.is refl c.in-Some-operand-7.n c.in-Some-operand-7.next num) c.pick-in-25.result c.in_default-pick-3.is c.pick-in-25.ensures.result_value

pub act-requires-in-25-clause-n_bound : goal.act-requires-in-25-clause-n_bound
act-requires-in-25-clause-n_bound c = (number_within _ _ _ _ (sym c.in-Some-operand-7.ensures)).operand

pub returns-in_default-join : goal.returns-in_default-join
returns-in_default-join c =
    let least : 4 ≤ (get_or c.args.code.now c.args.b.at 0) = (from_four (get_or c.args.code.now c.args.b.at 0) c.in-4-to-8.if-byte-lt1-own.false c.in-4-to-8.in_default-own.rest.0.0.0.0.0.0.0.0.0.0.0.0.1 c.in-4-to-8.in_default-own.rest.0.0.0.0.0.0.0.0.0.0.0.1 c.in-4-to-8.in_default-own.rest.0.0.0.0.0.0.0.0.0.0.1) in
    let most : (get_or c.args.code.now c.args.b.at 0) ≤ 8 = (omega (arith, c.in-4-to-8.if-byte-lt9-own.true)) in
    breaks c.args.code.now c.args.b c.requires.at_in_bounds.0 (instruction_of (get_or c.args.code.now c.args.b.at 0) 0) (c.args.b.at + 1) (alone c.args.code.now c.args.b c.requires.at_in_bounds.0 (get_or c.args.code.now c.args.b.at 0) refl (no_operand (get_or c.args.code.now c.args.b.at 0) least (omega arith))) c.join.result c.in_default-join.is (rw (operation_of_lem (get_or c.args.code.now c.args.b.at 0) 0 least most) (c.join.ensures.result_value ∙ sym (operation-is (operation_of (get_or c.args.code.now c.args.b.at 0)) (known_of c.args.b.walk))))

pub returns-in_default-test-3 : goal.returns-in_default-test-3
returns-in_default-test-3 c =
    let least : 10 ≤ (get_or c.args.code.now c.args.b.at 0) = (omega (arith, c.in-10-to-15.if-byte-lt9-own.false, c.in-10-to-15.in_default-own.rest.0.0.0.0.0.0.0.0.0.1)) in
    let most : (get_or c.args.code.now c.args.b.at 0) ≤ 15 = (omega (arith, c.in-10-to-15.if-byte-lt16-own.true)) in
    breaks c.args.code.now c.args.b c.requires.at_in_bounds.0 (instruction_of (get_or c.args.code.now c.args.b.at 0) 0) (c.args.b.at + 1) (alone c.args.code.now c.args.b c.requires.at_in_bounds.0 (get_or c.args.code.now c.args.b.at 0) refl (no_operand (get_or c.args.code.now c.args.b.at 0) (omega arith) (omega arith))) c.test-in-10-to-15.result c.in_default-test-3.is (rw (comparison_of_lem (get_or c.args.code.now c.args.b.at 0) 0 least most) (c.test-in-10-to-15.ensures.result_value ∙ sym (comparison_is (comparison_of (get_or c.args.code.now c.args.b.at 0)) (known_of c.args.b.walk))))

-- code 1
pub returns-in-Some-push : goal.returns-in-Some-push
unfolding instruction_of has_operand
returns-in-Some-push c =
    let num = (sym c.in-Some.ensures) in
    arrives c.requires.ready c.requires.at_in_bounds.1 c.args.code.now c.in-Some.next c.in-Some-push.k _ _ (instruction_of 1 c.in-Some.n) (with_operand c.args.code.now c.args.b c.requires.at_in_bounds.0 1 c.in-1.is refl c.in-Some.n c.in-Some.next num) (number_within _ _ _ _ num).inside c.push.result c.in-Some-push.is (c.push.ensures.result_value ∙ sym (constant_is c.in-Some.n (known_of c.args.b.walk) (number_within _ _ _ _ num).operand)) c.push.ensures.small_after c.act.result (λ ns q. c.act.ensures.cur_after ns q) c.onward.result c.onward.ensures

-- code 2
pub returns-in-Some-current : goal.returns-in-Some-current
unfolding instruction_of has_operand
returns-in-Some-current c =
    let num = (sym c.in-Some-operand.ensures) in
    arrives c.requires.ready c.requires.at_in_bounds.1 c.args.code.now c.in-Some-operand.next c.in-Some-current.k _ _ (instruction_of 2 c.in-Some-operand.n) (with_operand c.args.code.now c.args.b c.requires.at_in_bounds.0 2 c.in-2.is refl c.in-Some-operand.n c.in-Some-operand.next num) (number_within _ _ _ _ num).inside c.current.result c.in-Some-current.is c.current.ensures.result_value c.current.ensures.small_after c.act-in-2.result (λ ns q. c.act-in-2.ensures.cur_after ns q) c.onward-in-2.result c.onward-in-2.ensures

-- code 3
pub returns-in-Some-previous : goal.returns-in-Some-previous
unfolding instruction_of has_operand
returns-in-Some-previous c =
    let num = (sym c.in-Some-operand-2.ensures) in
    arrives c.requires.ready c.requires.at_in_bounds.1 c.args.code.now c.in-Some-operand-2.next c.in-Some-previous.k _ _ (instruction_of 3 c.in-Some-operand-2.n) (with_operand c.args.code.now c.args.b c.requires.at_in_bounds.0 3 c.in-3.is refl c.in-Some-operand-2.n c.in-Some-operand-2.next num) (number_within _ _ _ _ num).inside c.previous.result c.in-Some-previous.is c.previous.ensures.result_value c.previous.ensures.small_after c.act-in-3.result (λ ns q. c.act-in-3.ensures.cur_after ns q) c.onward-in-3.result c.onward-in-3.ensures

-- code 9
pub returns-in-Some-keep : goal.returns-in-Some-keep
unfolding instruction_of has_operand
returns-in-Some-keep c = arrives c.requires.ready c.requires.at_in_bounds.1 c.args.code.now (c.args.b.at + 1) c.in-Some-keep.k _ _ (instruction_of 9 0) (alone c.args.code.now c.args.b c.requires.at_in_bounds.0 9 c.in-9.is refl) (omega (arith, c.requires.at_in_bounds.0)) c.keep.result c.in-Some-keep.is (c.keep.ensures.result_value ∙ sym (negate_is (known_of c.args.b.walk))) c.keep.ensures.small_after c.act-in-9.result (λ ns q. c.act-in-9.ensures.cur_after ns q) c.onward-in-9.result c.onward-in-9.ensures

-- code 16
pub returns-in-Some-invert : goal.returns-in-Some-invert
unfolding instruction_of has_operand
returns-in-Some-invert c = arrives c.requires.ready c.requires.at_in_bounds.1 c.args.code.now (c.args.b.at + 1) c.in-Some-invert.k _ _ (instruction_of 16 0) (alone c.args.code.now c.args.b c.requires.at_in_bounds.0 16 c.in-16.is refl) (omega (arith, c.requires.at_in_bounds.0)) c.invert.result c.in-Some-invert.is (c.invert.ensures.result_value ∙ sym (negated_is (known_of c.args.b.walk))) c.invert.ensures.small_after c.act-in-16.result (λ ns q. c.act-in-16.ensures.cur_after ns q) c.onward-in-16.result c.onward-in-16.ensures

-- code 17
pub returns-in-Some-test : goal.returns-in-Some-test
unfolding instruction_of has_operand
returns-in-Some-test c = arrives c.requires.ready c.requires.at_in_bounds.1 c.args.code.now (c.args.b.at + 1) c.in-Some-test.k _ _ (instruction_of 17 0) (alone c.args.code.now c.args.b c.requires.at_in_bounds.0 17 c.in-17.is refl) (omega (arith, c.requires.at_in_bounds.0)) c.test.result c.in-Some-test.is (c.test.ensures.result_value ∙ sym (both_is (known_of c.args.b.walk))) c.test.ensures.small_after c.act-in-17.result (λ ns q. c.act-in-17.ensures.cur_after ns q) c.onward-in-17.result c.onward-in-17.ensures

-- code 18
pub returns-in-Some-test-2 : goal.returns-in-Some-test-2
unfolding instruction_of has_operand
returns-in-Some-test-2 c = arrives c.requires.ready c.requires.at_in_bounds.1 c.args.code.now (c.args.b.at + 1) c.in-Some-test-2.k _ _ (instruction_of 18 0) (alone c.args.code.now c.args.b c.requires.at_in_bounds.0 18 c.in-18.is refl) (omega (arith, c.requires.at_in_bounds.0)) c.test-in-18.result c.in-Some-test-2.is (c.test-in-18.ensures.result_value ∙ sym (either_is (known_of c.args.b.walk))) c.test-in-18.ensures.small_after c.act-in-18.result (λ ns q. c.act-in-18.ensures.cur_after ns q) c.onward-in-18.result c.onward-in-18.ensures

-- code 19
pub returns-in-Some-gate : goal.returns-in-Some-gate
unfolding instruction_of has_operand
returns-in-Some-gate c = arrives c.requires.ready c.requires.at_in_bounds.1 c.args.code.now (c.args.b.at + 1) c.in-Some-gate.k _ _ (instruction_of 19 0) (alone c.args.code.now c.args.b c.requires.at_in_bounds.0 19 c.in-19.is refl) (omega (arith, c.requires.at_in_bounds.0)) c.gate.result c.in-Some-gate.is c.gate.ensures.result_value c.gate.ensures.small_after c.act-in-19.result (λ ns q. c.act-in-19.ensures.cur_after ns q) c.onward-in-19.result c.onward-in-19.ensures

-- code 20
pub returns-in-Some-pick : goal.returns-in-Some-pick
unfolding instruction_of has_operand
returns-in-Some-pick c =
    let num = (sym c.in-Some-operand-3.ensures) in
    arrives c.requires.ready c.requires.at_in_bounds.1 c.args.code.now c.in-Some-operand-3.next c.in-Some-pick.k _ _ (instruction_of 20 c.in-Some-operand-3.n) (with_operand c.args.code.now c.args.b c.requires.at_in_bounds.0 20 c.in-20.is refl c.in-Some-operand-3.n c.in-Some-operand-3.next num) (number_within _ _ _ _ num).inside c.pick.result c.in-Some-pick.is c.pick.ensures.result_value c.pick.ensures.small_after c.act-in-20.result (λ ns q. c.act-in-20.ensures.cur_after ns q) c.onward-in-20.result c.onward-in-20.ensures

-- code 21
pub returns-in-Some-assign : goal.returns-in-Some-assign
unfolding instruction_of has_operand
returns-in-Some-assign c =
    let num = (sym c.in-Some-operand-4.ensures) in
    arrives c.requires.ready c.requires.at_in_bounds.1 c.args.code.now c.in-Some-operand-4.next c.in-Some-assign.k _ _ (instruction_of 21 c.in-Some-operand-4.n) (with_operand c.args.code.now c.args.b c.requires.at_in_bounds.0 21 c.in-21.is refl c.in-Some-operand-4.n c.in-Some-operand-4.next num) (number_within _ _ _ _ num).inside c.assign.result c.in-Some-assign.is c.assign.ensures.result_value c.assign.ensures.small_after c.act-in-21.result (λ ns q. c.act-in-21.ensures.cur_after ns q) c.onward-in-21.result c.onward-in-21.ensures

-- code 22
pub returns-in-Some-settle : goal.returns-in-Some-settle
unfolding instruction_of has_operand
returns-in-Some-settle c =
    let num = (sym c.in-Some-operand-5.ensures) in
    arrives c.requires.ready c.requires.at_in_bounds.1 c.args.code.now c.in-Some-operand-5.next c.in-Some-settle.k _ _ (instruction_of 22 c.in-Some-operand-5.n) (with_operand c.args.code.now c.args.b c.requires.at_in_bounds.0 22 c.in-22.is refl c.in-Some-operand-5.n c.in-Some-operand-5.next num) (number_within _ _ _ _ num).inside c.settle.result c.in-Some-settle.is c.settle.ensures.result_value c.settle.ensures.small_after c.act-in-22.result (λ ns q. c.act-in-22.ensures.cur_after ns q) c.onward-in-22.result c.onward-in-22.ensures

-- code 24
pub returns-in-Some-pick-2 : goal.returns-in-Some-pick-2
unfolding instruction_of has_operand
returns-in-Some-pick-2 c =
    let num = (sym c.in-Some-operand-6.ensures) in
    arrives c.requires.ready c.requires.at_in_bounds.1 c.args.code.now c.in-Some-operand-6.next c.in-Some-pick-2.k _ _ (instruction_of 24 c.in-Some-operand-6.n) (with_operand c.args.code.now c.args.b c.requires.at_in_bounds.0 24 c.in-24.is refl c.in-Some-operand-6.n c.in-Some-operand-6.next num) (number_within _ _ _ _ num).inside c.pick-in-24.result c.in-Some-pick-2.is c.pick-in-24.ensures.result_value c.pick-in-24.ensures.small_after c.act-in-24.result (λ ns q. c.act-in-24.ensures.cur_after ns q) c.onward-in-24.result c.onward-in-24.ensures

-- code 25
pub returns-in-Some-pick-3 : goal.returns-in-Some-pick-3
unfolding instruction_of has_operand
returns-in-Some-pick-3 c =
    let num = (sym c.in-Some-operand-7.ensures) in
    arrives c.requires.ready c.requires.at_in_bounds.1 c.args.code.now c.in-Some-operand-7.next c.in-Some-pick-3.k _ _ (instruction_of 25 c.in-Some-operand-7.n) (with_operand c.args.code.now c.args.b c.requires.at_in_bounds.0 25 c.in-25.is refl c.in-Some-operand-7.n c.in-Some-operand-7.next num) (number_within _ _ _ _ num).inside c.pick-in-25.result c.in-Some-pick-3.is c.pick-in-25.ensures.result_value c.pick-in-25.ensures.small_after c.act-in-25.result (λ ns q. c.act-in-25.ensures.cur_after ns q) c.onward-in-25.result c.onward-in-25.ensures

-- code 4 to 8
pub returns-in-Some-join : goal.returns-in-Some-join
returns-in-Some-join c =
    let least : 4 ≤ (get_or c.args.code.now c.args.b.at 0) = (from_four (get_or c.args.code.now c.args.b.at 0) c.in-4-to-8.if-byte-lt1-own.false c.in-4-to-8.in_default-own.rest.0.0.0.0.0.0.0.0.0.0.0.0.1 c.in-4-to-8.in_default-own.rest.0.0.0.0.0.0.0.0.0.0.0.1 c.in-4-to-8.in_default-own.rest.0.0.0.0.0.0.0.0.0.0.1) in
    let most : (get_or c.args.code.now c.args.b.at 0) ≤ 8 = (omega (arith, c.in-4-to-8.if-byte-lt9-own.true)) in
    arrives c.requires.ready c.requires.at_in_bounds.1 c.args.code.now (c.args.b.at + 1) c.in-Some-join.k _ _ (instruction_of (get_or c.args.code.now c.args.b.at 0) 0) (alone c.args.code.now c.args.b c.requires.at_in_bounds.0 (get_or c.args.code.now c.args.b.at 0) refl (no_operand (get_or c.args.code.now c.args.b.at 0) least (omega arith))) (omega (arith, c.requires.at_in_bounds.0)) c.join.result c.in-Some-join.is (rw (operation_of_lem (get_or c.args.code.now c.args.b.at 0) 0 least most) (c.join.ensures.result_value ∙ sym (operation-is (operation_of (get_or c.args.code.now c.args.b.at 0)) (known_of c.args.b.walk)))) c.join.ensures.small_after c.calculate.result (λ ns q. calculated_is (get_or c.args.code.now c.args.b.at 0) _ _ _ c.calculate.result refl least most c.calculate.ensures.on_stack ns c.args.prev.now c.args.cur.now) c.onward-in-4-to-8.result c.onward-in-4-to-8.ensures

-- code 10 to 15
pub returns-in-Some-test-3 : goal.returns-in-Some-test-3
returns-in-Some-test-3 c =
    let least : 10 ≤ (get_or c.args.code.now c.args.b.at 0) = (omega (arith, c.in-10-to-15.if-byte-lt9-own.false, c.in-10-to-15.in_default-own.rest.0.0.0.0.0.0.0.0.0.1)) in
    let most : (get_or c.args.code.now c.args.b.at 0) ≤ 15 = (omega (arith, c.in-10-to-15.if-byte-lt16-own.true)) in
    arrives c.requires.ready c.requires.at_in_bounds.1 c.args.code.now (c.args.b.at + 1) c.in-Some-test-3.k _ _ (instruction_of (get_or c.args.code.now c.args.b.at 0) 0) (alone c.args.code.now c.args.b c.requires.at_in_bounds.0 (get_or c.args.code.now c.args.b.at 0) refl (no_operand (get_or c.args.code.now c.args.b.at 0) (omega arith) (omega arith))) (omega (arith, c.requires.at_in_bounds.0)) c.test-in-10-to-15.result c.in-Some-test-3.is (rw (comparison_of_lem (get_or c.args.code.now c.args.b.at 0) 0 least most) (c.test-in-10-to-15.ensures.result_value ∙ sym (comparison_is (comparison_of (get_or c.args.code.now c.args.b.at 0)) (known_of c.args.b.walk)))) c.test-in-10-to-15.ensures.small_after c.relate.result (λ ns q. related_is (get_or c.args.code.now c.args.b.at 0) _ _ _ c.relate.result refl least most c.relate.ensures.t_after ns c.args.prev.now c.args.cur.now) c.onward-in-10-to-15.result c.onward-in-10-to-15.ensures

pub returns-in_default : goal.returns-in_default
returns-in_default c = breaks_otherwise c.args.code.now c.args.b c.requires.at_in_bounds.0 (λ n. rw (none_below (get_or c.args.code.now c.args.b.at 0) n c.in_default.if-byte-lt1-own.true))

pub returns-in_default-2 : goal.returns-in_default-2
returns-in_default-2 c = breaks_otherwise c.args.code.now c.args.b c.requires.at_in_bounds.0 (λ n. rw (none_above (get_or c.args.code.now c.args.b.at 0) n (above (get_or c.args.code.now c.args.b.at 0) c.in_default.if-byte-lt16-own.false c.in_default.in_default-own.rest.0.0.0.0.0.0.0.0.1 c.in_default.in_default-own.rest.0.0.0.0.0.0.0.1 c.in_default.in_default-own.rest.0.0.0.0.0.0.1 c.in_default.in_default-own.rest.0.0.0.0.0.1 c.in_default.in_default-own.rest.0.0.0.0.1 c.in_default.in_default-own.rest.0.0.0.1 c.in_default.in_default-own.rest.0.0.1) c.in_default.in_default-own.rest.0.1 c.in_default.in_default-own.rest.1))
