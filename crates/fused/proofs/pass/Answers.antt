-- `fused::pass` meets its contract: each arm is the instruction of its code byte. Assumes nothing.
use Prim.Native.Nat.{◌+◌, ◌≤◌}
use mathlib.Core.Path.{refl, sym, ◌∙◌}
use mathlib.Core.Bool.{true, false}
use native.Mathlib.Omega.{arith}
use lib.ListN.{get_or}
use Rattle.bytecode.specs.Instructions.{instruction_of, operation_of, has_operand}
use Rattle.bytecode.proofs.Codes.{operation_of_lem, none_below, from_four, past, no_operand}
use Rattle.bytecode.proofs.Fetching.{number_within}
use Rattle.checker.specs.Inner.Walk.{known_of}
use Rattle.checker.proofs.Steps.{operation-is, negate_is, constant_is}
use Rattle.fused.proofs.Joining.{breaks_otherwise, alone, with_operand, malformed}
use Rattle.fused.proofs.Passing.{passes, open_breaks}
use Rattle.fused.proofs.pass.Goals as goal

pub returns-in_default-operand : goal.returns-in_default-operand
unfolding has_operand
returns-in_default-operand c = malformed c.args.code.now c.args.b c.requires.1 1 c.in-1.is refl (sym c.in_default-operand.ensures)

pub returns-in_default-operand-2 : goal.returns-in_default-operand-2
unfolding has_operand
returns-in_default-operand-2 c = malformed c.args.code.now c.args.b c.requires.1 2 c.in-2.is refl (sym c.in_default-operand-2.ensures)

pub returns-in_default-operand-3 : goal.returns-in_default-operand-3
unfolding has_operand
returns-in_default-operand-3 c = malformed c.args.code.now c.args.b c.requires.1 3 c.in-3.is refl (sym c.in_default-operand-3.ensures)

pub returns-in_default-operand-4 : goal.returns-in_default-operand-4
unfolding has_operand
returns-in_default-operand-4 c = malformed c.args.code.now c.args.b c.requires.1 20 c.in-20.is refl (sym c.in_default-operand-4.ensures)

pub pick-requires : goal.pick-requires
pick-requires c = (c.requires.0, omega arith, (number_within _ _ _ _ (sym c.in-Some-operand-3.ensures)).operand)

pub returns-in_default-operand-5 : goal.returns-in_default-operand-5
unfolding has_operand
returns-in_default-operand-5 c = malformed c.args.code.now c.args.b c.requires.1 24 c.in-24.is refl (sym c.in_default-operand-5.ensures)

pub pick-requires-in-24 : goal.pick-requires-in-24
pick-requires-in-24 c = (c.requires.0, omega arith, (number_within _ _ _ _ (sym c.in-Some-operand-4.ensures)).operand)

pub returns-in_default-operand-6 : goal.returns-in_default-operand-6
unfolding has_operand
returns-in_default-operand-6 c = malformed c.args.code.now c.args.b c.requires.1 25 c.in-25.is refl (sym c.in_default-operand-6.ensures)

pub pick-requires-in-25 : goal.pick-requires-in-25
pick-requires-in-25 c = (c.requires.0, omega arith, (number_within _ _ _ _ (sym c.in-Some-operand-5.ensures)).operand)

-- code 1
pub returns-in-Some : goal.returns-in-Some
unfolding instruction_of has_operand
returns-in-Some c =
    let num = (sym c.in-Some.ensures) in
    passes c.args.code.now c.args.b c.requires.1 (instruction_of 1 c.in-Some.field-0-0) c.in-Some.next true (with_operand c.args.code.now c.args.b c.requires.1 1 c.in-1.is refl c.in-Some.field-0-0 c.in-Some.next num) (number_within _ _ _ _ num).inside refl c.push.result (c.push.ensures.result_value ∙ sym (constant_is c.in-Some.field-0-0 (known_of c.args.b.walk) (number_within _ _ _ _ num).operand)) c.push.ensures.small_after c.over.result c.over.ensures

-- code 2
pub returns-in-Some-operand : goal.returns-in-Some-operand
unfolding instruction_of has_operand
returns-in-Some-operand c =
    let num = (sym c.in-Some-operand.ensures) in
    passes c.args.code.now c.args.b c.requires.1 (instruction_of 2 c.in-Some-operand.n) c.in-Some-operand.next true (with_operand c.args.code.now c.args.b c.requires.1 2 c.in-2.is refl c.in-Some-operand.n c.in-Some-operand.next num) (number_within _ _ _ _ num).inside refl c.current.result c.current.ensures.result_value c.current.ensures.small_after c.over-in-2.result c.over-in-2.ensures

-- code 3
pub returns-in-Some-operand-2 : goal.returns-in-Some-operand-2
unfolding instruction_of has_operand
returns-in-Some-operand-2 c =
    let num = (sym c.in-Some-operand-2.ensures) in
    passes c.args.code.now c.args.b c.requires.1 (instruction_of 3 c.in-Some-operand-2.n) c.in-Some-operand-2.next true (with_operand c.args.code.now c.args.b c.requires.1 3 c.in-3.is refl c.in-Some-operand-2.n c.in-Some-operand-2.next num) (number_within _ _ _ _ num).inside refl c.previous.result c.previous.ensures.result_value c.previous.ensures.small_after c.over-in-3.result c.over-in-3.ensures

-- code 9
pub returns-in-9 : goal.returns-in-9
unfolding instruction_of has_operand
returns-in-9 c = passes c.args.code.now c.args.b c.requires.1 (instruction_of 9 0) (c.args.b.at + 1) true (alone c.args.code.now c.args.b c.requires.1 9 c.in-9.is refl) (omega (arith, c.requires.1)) refl c.keep.result (c.keep.ensures.result_value ∙ sym (negate_is (known_of c.args.b.walk))) c.keep.ensures.small_after c.over-in-9.result c.over-in-9.ensures

-- code 20
pub returns-in-Some-operand-3 : goal.returns-in-Some-operand-3
unfolding instruction_of has_operand
returns-in-Some-operand-3 c =
    let num = (sym c.in-Some-operand-3.ensures) in
    passes c.args.code.now c.args.b c.requires.1 (instruction_of 20 c.in-Some-operand-3.n) c.in-Some-operand-3.next false (with_operand c.args.code.now c.args.b c.requires.1 20 c.in-20.is refl c.in-Some-operand-3.n c.in-Some-operand-3.next num) (number_within _ _ _ _ num).inside refl c.pick.result c.pick.ensures.result_value c.pick.ensures.small_after c.over-in-20.result c.over-in-20.ensures

-- code 24
pub returns-in-Some-operand-4 : goal.returns-in-Some-operand-4
unfolding instruction_of has_operand
returns-in-Some-operand-4 c =
    let num = (sym c.in-Some-operand-4.ensures) in
    passes c.args.code.now c.args.b c.requires.1 (instruction_of 24 c.in-Some-operand-4.n) c.in-Some-operand-4.next false (with_operand c.args.code.now c.args.b c.requires.1 24 c.in-24.is refl c.in-Some-operand-4.n c.in-Some-operand-4.next num) (number_within _ _ _ _ num).inside refl c.pick-in-24.result c.pick-in-24.ensures.result_value c.pick-in-24.ensures.small_after c.over-in-24.result c.over-in-24.ensures

-- code 25
pub returns-in-Some-operand-5 : goal.returns-in-Some-operand-5
unfolding instruction_of has_operand
returns-in-Some-operand-5 c =
    let num = (sym c.in-Some-operand-5.ensures) in
    passes c.args.code.now c.args.b c.requires.1 (instruction_of 25 c.in-Some-operand-5.n) c.in-Some-operand-5.next false (with_operand c.args.code.now c.args.b c.requires.1 25 c.in-25.is refl c.in-Some-operand-5.n c.in-Some-operand-5.next num) (number_within _ _ _ _ num).inside refl c.pick-in-25.result c.pick-in-25.ensures.result_value c.pick-in-25.ensures.small_after c.over-in-25.result c.over-in-25.ensures

-- codes 4 to 8
pub returns-in-4-to-8 : goal.returns-in-4-to-8
returns-in-4-to-8 c =
    let least : 4 ≤ (get_or c.args.code.now c.args.b.at 0) = from_four (get_or c.args.code.now c.args.b.at 0) c.in-4-to-8.if-byte-lt1-own.false c.in-4-to-8.in_default-own.rest.0.0.0.0.0.0.1 c.in-4-to-8.in_default-own.rest.0.0.0.0.0.1 c.in-4-to-8.in_default-own.rest.0.0.0.0.1 in
    let most : (get_or c.args.code.now c.args.b.at 0) ≤ 8 = omega (arith, c.in-4-to-8.if-byte-lt9-own.true) in
    passes c.args.code.now c.args.b c.requires.1 (instruction_of (get_or c.args.code.now c.args.b.at 0) 0) (c.args.b.at + 1) true (alone c.args.code.now c.args.b c.requires.1 (get_or c.args.code.now c.args.b.at 0) refl (no_operand (get_or c.args.code.now c.args.b.at 0) least (omega arith))) (omega (arith, c.requires.1)) (rw (operation_of_lem (get_or c.args.code.now c.args.b.at 0) 0 least most) refl) c.join.result
    (rw (operation_of_lem (get_or c.args.code.now c.args.b.at 0) 0 least most) (c.join.ensures.result_value ∙ sym (operation-is (operation_of (get_or c.args.code.now c.args.b.at 0)) (known_of c.args.b.walk)))) c.join.ensures.small_after c.over-in-4-to-8.result c.over-in-4-to-8.ensures

-- no code between a gate and its pick
pub returns-in_default : goal.returns-in_default
returns-in_default c = breaks_otherwise c.args.code.now c.args.b c.requires.1 (λ n. rw (none_below (get_or c.args.code.now c.args.b.at 0) n c.in_default.if-byte-lt1-own.true))

pub returns-in_default-2 : goal.returns-in_default-2
returns-in_default-2 c = breaks_otherwise c.args.code.now c.args.b c.requires.1 (λ n. open_breaks c.args.b.walk c.requires.2 (get_or c.args.code.now c.args.b.at 0) n (past 9 (get_or c.args.code.now c.args.b.at 0) c.in_default.if-byte-lt9-own.false c.in_default.in_default-own.rest.0.0.0.1) c.in_default.in_default-own.rest.0.0.1 c.in_default.in_default-own.rest.0.1 c.in_default.in_default-own.rest.1)
