-- `machine::act` meets its contract. Each arm is the instruction of its code byte. Assumes nothing.
use mathlib.Core.Path.{sym, ◌∙◌}
use borrow.Author.Rules.{rules}
use mir.Val.{SFits}
use mir.Syntax.{w32}
use mir.Facts.{to_z-of_z}
use Rattle.bytecode.proofs.Codes.{none_below, none_above, above}
use Rattle.machine.proofs.Codes.{operation_code_lem, comparison_code_lem, truth_comparison, related_same}
use Rattle.machine.proofs.Changes.{names_length}
use Rattle.machine.specs.Inner.Groups.{truth_of}
use Rattle.machine.specs.Inner.Memory.{held_of}
use Rattle.bytecode.specs.Instructions.{instruction_of}
use Rattle.machine.proofs.act.Statement.{statement}
use Rattle.machine.proofs.act.Tie as tie

returns : tie.Need-returns-in-1
unfolding instruction_of
returns c =
    let a = c.args in
    let f : SFits w32 c.unzigzag.result = search rules in
    (λ ns r. c.push.ensures.0 ns a.prev.now a.cur.now ∙ rw (to_z-of_z f, c.unzigzag.ensures, c.in-1.is), c.push.ensures.1)

returns-2 : tie.Need-returns-in-2
unfolding instruction_of
returns-2 c =
    let a = c.args in
    (λ ns r. c.load.ensures.0 a.cur.now ∙ rw (c.in-2.is, names_length ns.ranges a.low.now a.high.now r, c.requires.1.0.current), c.load.ensures.1)

returns-3 : tie.Need-returns-in-3
unfolding instruction_of
returns-3 c =
    let a = c.args in
    (λ ns r. c.load-in-3.ensures.0 a.cur.now ∙ rw (c.in-3.is, names_length ns.ranges a.low.now a.high.now r, c.requires.1.0.previous), c.load-in-3.ensures.1)

returns-4 : tie.Need-returns-in-9
unfolding instruction_of
returns-4 c =
    let a = c.args in
    (λ ns r. c.negate.ensures.0 ns a.prev.now a.cur.now ∙ rw c.in-9.is, c.negate.ensures.1)

returns-5 : tie.Need-returns-in-16
unfolding instruction_of
returns-5 c =
    let a = c.args in
    (λ ns r. c.invert.ensures.0 ns a.prev.now a.cur.now ∙ rw c.in-16.is, c.invert.ensures.1)

returns-6 : tie.Need-returns-in-17
unfolding instruction_of truth_of
returns-6 c =
    (λ ns r. c.relate.ensures.0 c.args.cur.now ∙ rw c.in-17.is, c.relate.ensures.1)

returns-7 : tie.Need-returns-in-18
unfolding instruction_of truth_of
returns-7 c =
    (λ ns r. c.relate-in-18.ensures.0 c.args.cur.now ∙ rw c.in-18.is, c.relate-in-18.ensures.1)

returns-8 : tie.Need-returns-in-19
unfolding instruction_of
returns-8 c =
    let a = c.args in
    (λ ns r. c.gate.ensures.0 ns a.prev.now a.cur.now ∙ rw c.in-19.is, c.gate.ensures.1)

returns-9 : tie.Need-returns-in-20
unfolding instruction_of
returns-9 c = (λ ns r. c.pick.ensures.0 ns r ∙ rw c.in-20.is, c.pick.ensures.1)

returns-10 : tie.Need-returns-in-21
unfolding instruction_of
returns-10 c = (λ ns r. c.assign.ensures.0 ns c.args.prev.now r ∙ rw c.in-21.is, c.assign.ensures.1)

returns-11 : tie.Need-returns-in-22
unfolding instruction_of
returns-11 c =
    let a = c.args in
    let size = sym c.requires.1.0.previous in
    (λ ns r. c.settle.ensures.0 ns a.vals.now (names_length ns.ranges a.low.now a.high.now r ∙ size) ∙ rw c.in-22.is, c.settle.ensures.1)

returns-12 : tie.Need-returns-in-24
unfolding instruction_of
returns-12 c = (λ ns r. c.pick-in-24.ensures.0 ns r ∙ rw c.in-24.is, c.pick-in-24.ensures.1)

returns-13 : tie.Need-returns-in-25
unfolding instruction_of
returns-13 c = (λ ns r. c.pick-in-25.ensures.0 ns r ∙ rw c.in-25.is, c.pick-in-25.ensures.1)

returns-14 : tie.Need-returns-in-4-to-8
returns-14 c =
    let a = c.args in
    let r = c.in-4-to-8.in_default-own.rest in
    let e =
    operation_code_lem a.code a.n c.in-4-to-8.if-code-lt1-own.false c.in-4-to-8.if-code-lt9-own.true
    r.0.0.0.0.0.0.0.0.0.0.0.0.1 r.0.0.0.0.0.0.0.0.0.0.0.1 r.0.0.0.0.0.0.0.0.0.0.1 in
    (λ ns q. c.calculate.ensures.0 ns a.prev.now a.cur.now ∙ rw e, c.calculate.ensures.1)

returns-15 : tie.Need-returns-in-10-to-15
returns-15 c =
    let a = c.args in
    let below = c.in-10-to-15.if-code-lt16-own.true in
    let e = comparison_code_lem a.code a.n c.in-10-to-15.if-code-lt9-own.false below c.in-10-to-15.in_default-own.rest.0.0.0.0.0.0.0.0.0.1 in
    (λ ns q. c.relate-in-10-to-15.ensures.0 a.cur.now ∙ related_same _ _ _ (held_of a.vals.now a.m.held) a.cur.now (λ x y. truth_comparison a.code x y below) ∙ rw e, c.relate-in-10-to-15.ensures.1)

returns-16 : tie.Need-returns-in_default
returns-16 c = (λ ns r. rw (none_below c.args.code c.args.n c.in_default.if-code-lt1-own.true), search rules)

returns-17 : tie.Need-returns-in_default-2
returns-17 c =
    let a = c.args in
    let r = c.in_default.in_default-own.rest in
    let e =
    none_above a.code a.n
    (above a.code c.in_default.if-code-lt16-own.false r.0.0.0.0.0.0.0.0.1 r.0.0.0.0.0.0.0.1 r.0.0.0.0.0.0.1 r.0.0.0.0.0.1 r.0.0.0.0.1 r.0.0.0.1 r.0.0.1) r.0.1 r.1 in
    (λ ns q. rw e, search rules)

pub act_spec : {M : Type 1} → statement M
act_spec =
    tie.close
    (tie.spec (λ c κs. search rules) (λ c κs. search rules) (λ c κs. search rules) (λ c κs. search rules) (λ c κs. search rules) (λ c κs. search rules) (λ c κs. search rules)
    (λ c κs. search rules) (λ c κs. search rules) (λ c κs. search rules) (λ c κs. search rules) (λ c κs. search rules)
    (λ c κs. search rules) (λ c κs. search rules) (λ c κs. search rules) (λ c κs. search rules) (λ c. search rules) returns
    (λ c. search rules) (λ c. search rules) returns-2 (λ c. search rules) returns-3 (λ c. search rules) returns-4 (λ c. search rules)
    returns-5 (λ c. search rules) returns-6 (λ c. search rules) returns-7 (λ c. search rules) returns-8 (λ c. search rules)
    (λ c. search rules) returns-9 (λ c. search rules) (λ c. search rules) returns-10 (λ c. search rules) returns-11 (λ c. search rules)
    (λ c. search rules) returns-12 (λ c. search rules) (λ c. search rules) returns-13 (λ c. search rules) returns-14 (λ c. search rules)
    returns-15 returns-16 returns-17)
