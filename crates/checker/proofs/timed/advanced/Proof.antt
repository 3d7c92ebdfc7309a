-- `checker::timed::advanced` meets its contract: each arm is the instruction of its code byte. Assumes nothing.
use mathlib.Core.Path.{sym, ◌∙◌}
use Rattle.bytecode.specs.Instructions.{instruction_of, operation_of, comparison_of}
use Rattle.bytecode.proofs.Codes.{operation_of_lem, comparison_of_lem, none_below, none_above, from_four, above}
use Rattle.checker.specs.Inner.Walk.{known_of}
use Rattle.checker.proofs.Steps.{operation-is, comparison_is, both_is, either_is, negate_is, negated_is, constant_is}
use borrow.Author.Rules.{rules}
use native.Mathlib.Omega.{arith}
use Rattle.checker.proofs.timed.advanced.Statement.{statement}
use Rattle.checker.proofs.timed.advanced.Tie as tie

returns : tie.Need-returns-in-1
unfolding instruction_of
returns c = (rw c.in-1.is (c.push.ensures.0 ∙ sym (constant_is c.args.n (known_of c.args.w) c.requires.1)), c.push.ensures.1)

returns-2 : tie.Need-returns-in-2
unfolding instruction_of
returns-2 c = (rw c.in-2.is c.current.ensures.0, c.current.ensures.1)

returns-3 : tie.Need-returns-in-3
unfolding instruction_of
returns-3 c = (rw c.in-3.is c.previous.ensures.0, c.previous.ensures.1)

returns-4 : tie.Need-returns-in-9
unfolding instruction_of
returns-4 c = (rw c.in-9.is (c.keep.ensures.0 ∙ sym (negate_is (known_of c.args.w))), c.keep.ensures.1)

returns-5 : tie.Need-returns-in-16
unfolding instruction_of
returns-5 c = (rw c.in-16.is (c.invert.ensures.0 ∙ sym (negated_is (known_of c.args.w))), c.invert.ensures.1)

returns-6 : tie.Need-returns-in-17
unfolding instruction_of
returns-6 c = (rw c.in-17.is (c.test.ensures.0 ∙ sym (both_is (known_of c.args.w))), c.test.ensures.1)

returns-7 : tie.Need-returns-in-18
unfolding instruction_of
returns-7 c = (rw c.in-18.is (c.test-in-18.ensures.0 ∙ sym (either_is (known_of c.args.w))), c.test-in-18.ensures.1)

returns-8 : tie.Need-returns-in-19
unfolding instruction_of
returns-8 c = (rw c.in-19.is c.gate.ensures.0, c.gate.ensures.1)

returns-9 : tie.Need-returns-in-20
unfolding instruction_of
returns-9 c = (rw c.in-20.is c.pick.ensures.0, c.pick.ensures.1)

returns-10 : tie.Need-returns-in-21
unfolding instruction_of
returns-10 c = (rw c.in-21.is c.assign.ensures.0, c.assign.ensures.1)

returns-11 : tie.Need-returns-in-22
unfolding instruction_of
returns-11 c = (rw c.in-22.is c.settle.ensures.0, c.settle.ensures.1)

returns-12 : tie.Need-returns-in-24
unfolding instruction_of
returns-12 c = (rw c.in-24.is c.pick-in-24.ensures.0, c.pick-in-24.ensures.1)

returns-13 : tie.Need-returns-in-25
unfolding instruction_of
returns-13 c = (rw c.in-25.is c.pick-in-25.ensures.0, c.pick-in-25.ensures.1)

returns-14 : tie.Need-returns-in-4-to-8
returns-14 c =
    let a = c.args in
    let r = c.in-4-to-8.in_default-own.rest in
    (rw (operation_of_lem a.code a.n (from_four a.code c.in-4-to-8.if-code-lt1-own.false r.0.0.0.0.0.0.0.0.0.0.0.0.1 r.0.0.0.0.0.0.0.0.0.0.0.1 r.0.0.0.0.0.0.0.0.0.0.1) (omega (arith, c.in-4-to-8.if-code-lt9-own.true))) (c.join.ensures.0 ∙ sym (operation-is (operation_of a.code) (known_of a.w))), c.join.ensures.1)

returns-15 : tie.Need-returns-in-10-to-15
returns-15 c =
    let a = c.args in
    (rw (comparison_of_lem a.code a.n (omega (arith, c.in-10-to-15.if-code-lt9-own.false, c.in-10-to-15.in_default-own.rest.0.0.0.0.0.0.0.0.0.1)) (omega (arith, c.in-10-to-15.if-code-lt16-own.true))) (c.test-in-10-to-15.ensures.0 ∙ sym (comparison_is (comparison_of a.code) (known_of a.w))), c.test-in-10-to-15.ensures.1)

returns-16 : tie.Need-returns-in_default
returns-16 c =
    let a = c.args in
    (rw (none_below a.code a.n c.in_default.if-code-lt1-own.true), tt)

returns-17 : tie.Need-returns-in_default-2
returns-17 c =
    let a = c.args in
    let r = c.in_default.in_default-own.rest in
    (rw (none_above a.code a.n (above a.code c.in_default.if-code-lt16-own.false r.0.0.0.0.0.0.0.0.1 r.0.0.0.0.0.0.0.1 r.0.0.0.0.0.0.1 r.0.0.0.0.0.1 r.0.0.0.0.1 r.0.0.0.1 r.0.0.1) r.0.1 r.1), tt)

pub advanced_spec : {M : Type 1} → statement M
advanced_spec =
    tie.close
    (tie.spec (λ c κs. search rules) (λ c κs. search rules) (λ c κs. search rules) (λ c κs. search rules) (λ c κs. search rules) (λ c κs. search rules) (λ c κs. search rules)
    (λ c κs. search rules) (λ c κs. search rules) (λ c κs. search rules) (λ c κs. search rules) (λ c κs. search rules)
    (λ c κs. search rules) (λ c κs. search rules) (λ c κs. search rules) returns returns-2 returns-3 returns-4 returns-5 returns-6 returns-7
    returns-8 returns-9 returns-10 returns-11 returns-12 returns-13 returns-14 returns-15 returns-16 returns-17)
