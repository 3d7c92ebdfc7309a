-- `machine::dispatch::dispatch_one` meets its contract: each arm is the instruction of its code byte. Assumes nothing.
use Prim.Native.Nat.{◌+◌, ◌≤◌}
use mathlib.Core.Path.{refl, sym}
use mathlib.Core.Bool.{false}
use native.Mathlib.Omega.{arith}
use lib.ListN.{get_or}
use borrow.Author.Tests.{ne_eqb}
use Rattle.bytecode.specs.Instructions.{instruction_of, has_operand}
use Rattle.bytecode.proofs.Codes.{none_below, none_above, from_four, above, no_operand}
use Rattle.bytecode.proofs.Fetching.{number_within}
use Rattle.machine.specs.Inner.Memory.{RangedIn}
use Rattle.machine.specs.Inner.Dispatch.{registers}
use Rattle.machine.proofs.Codes.{calculated_is, related_is}
use Rattle.machine.proofs.Fetches.{read_alone, read_malformed, fetch_unlisted}
use Rattle.machine.proofs.Dispatching.{none_stops, one_done, alone_done, operand_done}
use Rattle.machine.proofs.dispatch.dispatch_one.Goals as goal

pub returns-in_default-operand : goal.returns-in_default-operand
unfolding has_operand
returns-in_default-operand c =
    let a = c.args in
    none_stops a.code.now (RangedIn a.low.now a.high.now) a.prev.now a.at (registers a.held a.picked false) a.vals.now a.cur.now c.requires.at_in_bounds.0
    (read_malformed a.code.now a.at c.requires.at_in_bounds.0 1 c.in-1.is refl (sym c.in_default-operand.ensures))

pub act-requires-clause-n_bound : goal.act-requires-clause-n_bound
act-requires-clause-n_bound c = (number_within _ _ _ _ (sym c.in-Some.ensures)).operand

pub returns-in_default-operand-2 : goal.returns-in_default-operand-2
unfolding has_operand
returns-in_default-operand-2 c =
    let a = c.args in
    none_stops a.code.now (RangedIn a.low.now a.high.now) a.prev.now a.at (registers a.held a.picked false) a.vals.now a.cur.now c.requires.at_in_bounds.0
    (read_malformed a.code.now a.at c.requires.at_in_bounds.0 2 c.in-2.is refl (sym c.in_default-operand-2.ensures))

pub act-requires-in-2-clause-n_bound : goal.act-requires-in-2-clause-n_bound
act-requires-in-2-clause-n_bound c = (number_within _ _ _ _ (sym c.in-Some-operand.ensures)).operand

pub returns-in_default-operand-3 : goal.returns-in_default-operand-3
unfolding has_operand
returns-in_default-operand-3 c =
    let a = c.args in
    none_stops a.code.now (RangedIn a.low.now a.high.now) a.prev.now a.at (registers a.held a.picked false) a.vals.now a.cur.now c.requires.at_in_bounds.0
    (read_malformed a.code.now a.at c.requires.at_in_bounds.0 3 c.in-3.is refl (sym c.in_default-operand-3.ensures))

pub act-requires-in-3-clause-n_bound : goal.act-requires-in-3-clause-n_bound
act-requires-in-3-clause-n_bound c = (number_within _ _ _ _ (sym c.in-Some-operand-2.ensures)).operand

pub returns-in_default-operand-4 : goal.returns-in_default-operand-4
unfolding has_operand
returns-in_default-operand-4 c =
    let a = c.args in
    none_stops a.code.now (RangedIn a.low.now a.high.now) a.prev.now a.at (registers a.held a.picked false) a.vals.now a.cur.now c.requires.at_in_bounds.0
    (read_malformed a.code.now a.at c.requires.at_in_bounds.0 20 c.in-20.is refl (sym c.in_default-operand-4.ensures))

pub act-requires-in-20-clause-n_bound : goal.act-requires-in-20-clause-n_bound
act-requires-in-20-clause-n_bound c = (number_within _ _ _ _ (sym c.in-Some-operand-3.ensures)).operand

pub returns-in_default-operand-5 : goal.returns-in_default-operand-5
unfolding has_operand
returns-in_default-operand-5 c =
    let a = c.args in
    none_stops a.code.now (RangedIn a.low.now a.high.now) a.prev.now a.at (registers a.held a.picked false) a.vals.now a.cur.now c.requires.at_in_bounds.0
    (read_malformed a.code.now a.at c.requires.at_in_bounds.0 21 c.in-21.is refl (sym c.in_default-operand-5.ensures))

pub act-requires-in-21-clause-n_bound : goal.act-requires-in-21-clause-n_bound
act-requires-in-21-clause-n_bound c = (number_within _ _ _ _ (sym c.in-Some-operand-4.ensures)).operand

pub returns-in_default-operand-6 : goal.returns-in_default-operand-6
unfolding has_operand
returns-in_default-operand-6 c =
    let a = c.args in
    none_stops a.code.now (RangedIn a.low.now a.high.now) a.prev.now a.at (registers a.held a.picked false) a.vals.now a.cur.now c.requires.at_in_bounds.0
    (read_malformed a.code.now a.at c.requires.at_in_bounds.0 22 c.in-22.is refl (sym c.in_default-operand-6.ensures))

pub act-requires-in-22-clause-n_bound : goal.act-requires-in-22-clause-n_bound
act-requires-in-22-clause-n_bound c = (number_within _ _ _ _ (sym c.in-Some-operand-5.ensures)).operand

pub returns-in_default-operand-7 : goal.returns-in_default-operand-7
unfolding has_operand
returns-in_default-operand-7 c =
    let a = c.args in
    none_stops a.code.now (RangedIn a.low.now a.high.now) a.prev.now a.at (registers a.held a.picked false) a.vals.now a.cur.now c.requires.at_in_bounds.0
    (read_malformed a.code.now a.at c.requires.at_in_bounds.0 24 c.in-24.is refl (sym c.in_default-operand-7.ensures))

pub act-requires-in-24-clause-n_bound : goal.act-requires-in-24-clause-n_bound
act-requires-in-24-clause-n_bound c = (number_within _ _ _ _ (sym c.in-Some-operand-6.ensures)).operand

pub returns-in_default-operand-8 : goal.returns-in_default-operand-8
unfolding has_operand
returns-in_default-operand-8 c =
    let a = c.args in
    none_stops a.code.now (RangedIn a.low.now a.high.now) a.prev.now a.at (registers a.held a.picked false) a.vals.now a.cur.now c.requires.at_in_bounds.0
    (read_malformed a.code.now a.at c.requires.at_in_bounds.0 25 c.in-25.is refl (sym c.in_default-operand-8.ensures))

pub act-requires-in-25-clause-n_bound : goal.act-requires-in-25-clause-n_bound
act-requires-in-25-clause-n_bound c = (number_within _ _ _ _ (sym c.in-Some-operand-7.ensures)).operand

pub returns-in-Some : goal.returns-in-Some
unfolding has_operand
returns-in-Some c =
    let a = c.args in
    operand_done a.code.now (RangedIn a.low.now a.high.now) a.prev.now a.at a.held a.picked a.vals.now a.cur.now c.requires.at_in_bounds.0 1 c.in-1.is c.act.result _ _ c.act.ensures.few refl
    c.in-Some.n c.in-Some.next (sym c.in-Some.ensures) (λ ns q. c.act.ensures.cur_after ns q) c.onward.result c.onward.ensures

pub returns-in-Some-operand : goal.returns-in-Some-operand
unfolding has_operand
returns-in-Some-operand c =
    let a = c.args in
    operand_done a.code.now (RangedIn a.low.now a.high.now) a.prev.now a.at a.held a.picked a.vals.now a.cur.now c.requires.at_in_bounds.0 2 c.in-2.is c.act-in-2.result _ _ c.act-in-2.ensures.few refl
    c.in-Some-operand.n c.in-Some-operand.next (sym c.in-Some-operand.ensures) (λ ns q. c.act-in-2.ensures.cur_after ns q) c.onward-in-2.result c.onward-in-2.ensures

pub returns-in-Some-operand-2 : goal.returns-in-Some-operand-2
unfolding has_operand
returns-in-Some-operand-2 c =
    let a = c.args in
    operand_done a.code.now (RangedIn a.low.now a.high.now) a.prev.now a.at a.held a.picked a.vals.now a.cur.now c.requires.at_in_bounds.0 3 c.in-3.is c.act-in-3.result _ _ c.act-in-3.ensures.few refl
    c.in-Some-operand-2.n c.in-Some-operand-2.next (sym c.in-Some-operand-2.ensures) (λ ns q. c.act-in-3.ensures.cur_after ns q) c.onward-in-3.result c.onward-in-3.ensures

pub returns-in-9 : goal.returns-in-9
unfolding has_operand
returns-in-9 c =
    let a = c.args in
    alone_done a.code.now (RangedIn a.low.now a.high.now) a.prev.now a.at a.held a.picked a.vals.now a.cur.now c.requires.at_in_bounds.0 9 c.in-9.is c.act-in-9.result _ _ c.act-in-9.ensures.few refl refl
    (λ ns q. c.act-in-9.ensures.cur_after ns q) c.onward-in-9.result c.onward-in-9.ensures

pub returns-in-16 : goal.returns-in-16
unfolding has_operand
returns-in-16 c =
    let a = c.args in
    alone_done a.code.now (RangedIn a.low.now a.high.now) a.prev.now a.at a.held a.picked a.vals.now a.cur.now c.requires.at_in_bounds.0 16 c.in-16.is c.act-in-16.result _ _ c.act-in-16.ensures.few refl refl
    (λ ns q. c.act-in-16.ensures.cur_after ns q) c.onward-in-16.result c.onward-in-16.ensures

pub returns-in-17 : goal.returns-in-17
unfolding has_operand
returns-in-17 c =
    let a = c.args in
    alone_done a.code.now (RangedIn a.low.now a.high.now) a.prev.now a.at a.held a.picked a.vals.now a.cur.now c.requires.at_in_bounds.0 17 c.in-17.is c.act-in-17.result _ _ c.act-in-17.ensures.few refl refl
    (λ ns q. c.act-in-17.ensures.cur_after ns q) c.onward-in-17.result c.onward-in-17.ensures

pub returns-in-18 : goal.returns-in-18
unfolding has_operand
returns-in-18 c =
    let a = c.args in
    alone_done a.code.now (RangedIn a.low.now a.high.now) a.prev.now a.at a.held a.picked a.vals.now a.cur.now c.requires.at_in_bounds.0 18 c.in-18.is c.act-in-18.result _ _ c.act-in-18.ensures.few refl refl
    (λ ns q. c.act-in-18.ensures.cur_after ns q) c.onward-in-18.result c.onward-in-18.ensures

pub returns-in-19 : goal.returns-in-19
unfolding has_operand
returns-in-19 c =
    let a = c.args in
    alone_done a.code.now (RangedIn a.low.now a.high.now) a.prev.now a.at a.held a.picked a.vals.now a.cur.now c.requires.at_in_bounds.0 19 c.in-19.is c.act-in-19.result _ _ c.act-in-19.ensures.few refl refl
    (λ ns q. c.act-in-19.ensures.cur_after ns q) c.onward-in-19.result c.onward-in-19.ensures

pub returns-in-Some-operand-3 : goal.returns-in-Some-operand-3
unfolding has_operand
returns-in-Some-operand-3 c =
    let a = c.args in
    operand_done a.code.now (RangedIn a.low.now a.high.now) a.prev.now a.at a.held a.picked a.vals.now a.cur.now c.requires.at_in_bounds.0 20 c.in-20.is c.act-in-20.result _ _ c.act-in-20.ensures.few refl
    c.in-Some-operand-3.n c.in-Some-operand-3.next (sym c.in-Some-operand-3.ensures) (λ ns q. c.act-in-20.ensures.cur_after ns q) c.onward-in-20.result c.onward-in-20.ensures

pub returns-in-Some-operand-4 : goal.returns-in-Some-operand-4
unfolding has_operand
returns-in-Some-operand-4 c =
    let a = c.args in
    operand_done a.code.now (RangedIn a.low.now a.high.now) a.prev.now a.at a.held a.picked a.vals.now a.cur.now c.requires.at_in_bounds.0 21 c.in-21.is c.act-in-21.result _ _ c.act-in-21.ensures.few refl
    c.in-Some-operand-4.n c.in-Some-operand-4.next (sym c.in-Some-operand-4.ensures) (λ ns q. c.act-in-21.ensures.cur_after ns q) c.onward-in-21.result c.onward-in-21.ensures

pub returns-in-Some-operand-5 : goal.returns-in-Some-operand-5
unfolding has_operand
returns-in-Some-operand-5 c =
    let a = c.args in
    operand_done a.code.now (RangedIn a.low.now a.high.now) a.prev.now a.at a.held a.picked a.vals.now a.cur.now c.requires.at_in_bounds.0 22 c.in-22.is c.act-in-22.result _ _ c.act-in-22.ensures.few refl
    c.in-Some-operand-5.n c.in-Some-operand-5.next (sym c.in-Some-operand-5.ensures) (λ ns q. c.act-in-22.ensures.cur_after ns q) c.onward-in-22.result c.onward-in-22.ensures

pub returns-in-Some-operand-6 : goal.returns-in-Some-operand-6
unfolding has_operand
returns-in-Some-operand-6 c =
    let a = c.args in
    operand_done a.code.now (RangedIn a.low.now a.high.now) a.prev.now a.at a.held a.picked a.vals.now a.cur.now c.requires.at_in_bounds.0 24 c.in-24.is c.act-in-24.result _ _ c.act-in-24.ensures.few refl
    c.in-Some-operand-6.n c.in-Some-operand-6.next (sym c.in-Some-operand-6.ensures) (λ ns q. c.act-in-24.ensures.cur_after ns q) c.onward-in-24.result c.onward-in-24.ensures

pub returns-in-Some-operand-7 : goal.returns-in-Some-operand-7
unfolding has_operand
returns-in-Some-operand-7 c =
    let a = c.args in
    operand_done a.code.now (RangedIn a.low.now a.high.now) a.prev.now a.at a.held a.picked a.vals.now a.cur.now c.requires.at_in_bounds.0 25 c.in-25.is c.act-in-25.result _ _ c.act-in-25.ensures.few refl
    c.in-Some-operand-7.n c.in-Some-operand-7.next (sym c.in-Some-operand-7.ensures) (λ ns q. c.act-in-25.ensures.cur_after ns q) c.onward-in-25.result c.onward-in-25.ensures

pub returns-in-4-to-8 : goal.returns-in-4-to-8
returns-in-4-to-8 c =
    let a = c.args in
    let byte = get_or a.code.now a.at 0 in
    let least : 4 ≤ byte = from_four byte c.in-4-to-8.if-byte-lt1-own.false c.in-4-to-8.in_default-own.rest.0.0.0.0.0.0.0.0.0.0.0.0.0.1 c.in-4-to-8.in_default-own.rest.0.0.0.0.0.0.0.0.0.0.0.0.1 c.in-4-to-8.in_default-own.rest.0.0.0.0.0.0.0.0.0.0.0.1 in
    let most : byte ≤ 8 = omega (arith, c.in-4-to-8.if-byte-lt9-own.true) in
    let m = registers a.held a.picked false in
    one_done a.code.now (RangedIn a.low.now a.high.now) a.prev.now a.at m a.vals.now a.cur.now c.requires.at_in_bounds.0 (instruction_of byte 0) (a.at + 1) (read_alone a.code.now a.at c.requires.at_in_bounds.0 byte refl (ne_eqb byte 23 (λ e. omega arith)) (no_operand byte least (omega arith))) _ a.cur.now
    c.calculate.result c.calculate.ensures.few (λ ns q. calculated_is byte m a.vals.now _ c.calculate.result refl least most c.calculate.ensures.on_stack ns a.prev.now a.cur.now) c.onward-in-4-to-8.result c.onward-in-4-to-8.ensures

pub returns-in-10-to-15 : goal.returns-in-10-to-15
returns-in-10-to-15 c =
    let a = c.args in
    let byte = get_or a.code.now a.at 0 in
    let least : 10 ≤ byte = omega (arith, c.in-10-to-15.if-byte-lt9-own.false, c.in-10-to-15.in_default-own.rest.0.0.0.0.0.0.0.0.0.0.1) in
    let most : byte ≤ 15 = omega (arith, c.in-10-to-15.if-byte-lt16-own.true) in
    let m = registers a.held a.picked false in
    one_done a.code.now (RangedIn a.low.now a.high.now) a.prev.now a.at m a.vals.now a.cur.now c.requires.at_in_bounds.0 (instruction_of byte 0) (a.at + 1) (read_alone a.code.now a.at c.requires.at_in_bounds.0 byte refl (ne_eqb byte 23 (λ e. omega arith)) (no_operand byte (omega arith) (omega arith))) _ a.cur.now
    c.relate.result c.relate.ensures.few (λ ns q. related_is byte m a.vals.now _ c.relate.result refl least most c.relate.ensures.t_after ns a.prev.now a.cur.now) c.onward-in-10-to-15.result c.onward-in-10-to-15.ensures

pub returns-in_default : goal.returns-in_default
returns-in_default c =
    let a = c.args in
    none_stops a.code.now (RangedIn a.low.now a.high.now) a.prev.now a.at (registers a.held a.picked false) a.vals.now a.cur.now c.requires.at_in_bounds.0 (fetch_unlisted a.code.now a.at c.requires.at_in_bounds.0 (ne_eqb (get_or a.code.now a.at 0) 23 (λ e. omega (arith, c.in_default.if-byte-lt1-own.true))) (λ n. none_below (get_or a.code.now a.at 0) n c.in_default.if-byte-lt1-own.true))

pub returns-in_default-2 : goal.returns-in_default-2
returns-in_default-2 c =
    let a = c.args in
    none_stops a.code.now (RangedIn a.low.now a.high.now) a.prev.now a.at (registers a.held a.picked false) a.vals.now a.cur.now c.requires.at_in_bounds.0 (fetch_unlisted a.code.now a.at c.requires.at_in_bounds.0 (ne_eqb (get_or a.code.now a.at 0) 23 c.in_default.in_default-own.rest.0.0.1) (λ n. none_above (get_or a.code.now a.at 0) n (above (get_or a.code.now a.at 0) c.in_default.if-byte-lt16-own.false c.in_default.in_default-own.rest.0.0.0.0.0.0.0.0.0.1 c.in_default.in_default-own.rest.0.0.0.0.0.0.0.0.1 c.in_default.in_default-own.rest.0.0.0.0.0.0.0.1 c.in_default.in_default-own.rest.0.0.0.0.0.0.1 c.in_default.in_default-own.rest.0.0.0.0.0.1 c.in_default.in_default-own.rest.0.0.0.0.1 c.in_default.in_default-own.rest.0.0.0.1) c.in_default.in_default-own.rest.0.1 c.in_default.in_default-own.rest.1))
