-- `machine::passing::pass_over` meets its contract: only the code byte of a pick ends the passing over. Assumes nothing.
use mathlib.Core.Path.{refl}
use mathlib.Core.Bool.{true, false}
use native.Mathlib.Omega.{arith}
use lib.ListN.{get_or}
use borrow.Author.Tests.{ne_eqb}
use Rattle.bytecode.specs.Instructions.{instruction_of, has_operand}
use Rattle.bytecode.proofs.Codes.{none_below, none_above, no_operand}
use Rattle.machine.proofs.Codes.{pass_other}
use Rattle.machine.proofs.Fetches.{low_operand, high_operand, fetch_unlisted}
use Rattle.machine.proofs.PassingOver.{broken_over, alone_over, operand_over}
use borrow.Author.Rules.{rules}
use Rattle.machine.proofs.passing.pass_over.Statement.{statement}
use Rattle.machine.proofs.passing.pass_over.Tie as tie

returns : tie.Need-returns-in-20
unfolding instruction_of has_operand
returns c =
    let a = c.args in
    operand_over a.code.now a.at c.requires 20 c.in-20.is refl false (λ n ns prev c vs t. refl) c.over.result c.over.ensures

pass-requires : tie.Need-pass-requires
pass-requires c κs = (c.requires, c.in-23.is)

returns-3 : tie.Need-returns-in-24
unfolding instruction_of has_operand
returns-3 c =
    let a = c.args in
    operand_over a.code.now a.at c.requires 24 c.in-24.is refl false (λ n ns prev c vs t. refl) c.over-in-24.result c.over-in-24.ensures

returns-4 : tie.Need-returns-in-25
unfolding instruction_of has_operand
returns-4 c =
    let a = c.args in
    operand_over a.code.now a.at c.requires 25 c.in-25.is refl false (λ n ns prev c vs t. refl) c.over-in-25.result c.over-in-25.ensures

returns-5 : tie.Need-returns-in-1-to-3
returns-5 c =
    let a = c.args in
    let byte = get_or a.code.now a.at 0 in
    operand_over a.code.now a.at c.requires byte refl (low_operand byte c.in-1-to-3.if-this-lt1-own.false (omega (arith, c.in-1-to-3.if-this-lt4-own.true))) true (λ n ns prev k vs t. pass_other ns prev byte n k vs t c.in-1-to-3.if-this-lt1-own.false (omega (arith, c.in-1-to-3.if-this-lt4-own.true)) c.in-1-to-3.in_default-own.rest.0.0.0.1) c.over-in-1-to-3.result c.over-in-1-to-3.ensures

returns-6 : tie.Need-returns-in-4-to-19
returns-6 c =
    let a = c.args in
    let byte = get_or a.code.now a.at 0 in
    (omega arith, omega arith, alone_over a.code.now a.at c.requires byte refl (ne_eqb byte 23 (λ e. omega (arith, c.in-4-to-19.if-this-lt20-own.true))) (no_operand byte c.in-4-to-19.if-this-lt4-own.false c.in-4-to-19.if-this-lt20-own.true) (λ ns prev k vs t. pass_other ns prev byte 0 k vs t (omega (arith, c.in-4-to-19.if-this-lt4-own.false)) (omega (arith, c.in-4-to-19.if-this-lt20-own.true)) c.in-4-to-19.in_default-own.rest.0.0.0.1))

returns-7 : tie.Need-returns-in-21-to-22
returns-7 c =
    let a = c.args in
    let byte = get_or a.code.now a.at 0 in
    operand_over a.code.now a.at c.requires byte refl (high_operand byte (omega (arith, c.in-21-to-22.if-this-lt20-own.false)) (omega (arith, c.in-21-to-22.if-this-lt23-own.true))) true (λ n ns prev k vs t. pass_other ns prev byte n k vs t (omega (arith, c.in-21-to-22.if-this-lt20-own.false)) (omega (arith, c.in-21-to-22.if-this-lt23-own.true)) c.in-21-to-22.in_default-own.rest.0.0.0.1) c.over-in-21-to-22.result c.over-in-21-to-22.ensures

returns-8 : tie.Need-returns-in_default
returns-8 c =
    let a = c.args in
    broken_over a.code.now a.at c.requires (fetch_unlisted a.code.now a.at c.requires (ne_eqb (get_or a.code.now a.at 0) 23 (λ e. omega (arith, c.in_default.if-this-lt1-own.true))) (λ n. none_below (get_or a.code.now a.at 0) n c.in_default.if-this-lt1-own.true))

returns-9 : tie.Need-returns-in_default-2
returns-9 c =
    let a = c.args in
    broken_over a.code.now a.at c.requires (fetch_unlisted a.code.now a.at c.requires (ne_eqb (get_or a.code.now a.at 0) 23 c.in_default.in_default-own.rest.0.0.1) (λ n. none_above (get_or a.code.now a.at 0) n c.in_default.if-this-lt23-own.false c.in_default.in_default-own.rest.0.1 c.in_default.in_default-own.rest.1))

pub pass_over_spec : {M : Type 1} → statement M
pass_over_spec =
    tie.close
    (tie.spec (λ c. search rules) (λ c κs. search rules) pass-requires (λ c κs. search rules) (λ c κs. search rules) (λ c κs. search rules)
    (λ c. search rules) (λ c κs. search rules) returns (λ c. c.pass.ensures) returns-3 returns-4 returns-5 returns-6 returns-7 returns-8 returns-9)
