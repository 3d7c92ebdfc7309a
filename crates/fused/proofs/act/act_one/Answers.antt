-- `fused::act::act_one` meets its contract: each arm is the instruction of its code byte. Assumes nothing.
use Prim.Native.Nat.{◌≤◌}
use native.Mathlib.Omega.{arith}
use mathlib.Core.Path.{refl, sym, ◌∙◌}
use lib.IntN.{pos}
use lib.ListN.{get_or}
use mir.Val.{SFits}
use mir.Syntax.{w32}
use mir.Facts.{to_z-of_z}
use borrow.Author.Rules.{rules}
use Rattle.leb128.specs.Numbers.{unzigzag}
use Rattle.bytecode.specs.Instructions.{constant, current, previous, negated, both, either, instruction_of, has_operand}
use Rattle.bytecode.proofs.Codes.{from_four}
use Rattle.bytecode.proofs.Fetching.{number_within}
use Rattle.checker.specs.Inner.Walk.{known_of}
use Rattle.checker.proofs.Steps.{both_is, either_is, constant_is}
use Rattle.checker.proofs.Stretching.{previous_pushed, current_pushed}
use Rattle.machine.specs.Inner.Groups.{truth_of}
use Rattle.fused.proofs.Joining.{with_operand}
use Rattle.fused.proofs.Acting.{once_acts, lone_at_hand, operation_at_hand, comparison_at_hand, comparison_acts}
use Rattle.fused.proofs.Leaping.{previous_loaded, current_loaded}
use Rattle.fused.proofs.act.act_one.Goals as goal

-- codes 1 to 3
pub unzigzag-requires : goal.unzigzag-requires
unzigzag-requires c = (number_within _ _ _ _ (sym c.in_ok-n-in-1.ensures)).operand

pub returns-in_ok-n-in-1 : goal.returns-in_ok-n-in-1
unfolding instruction_of has_operand
returns-in_ok-n-in-1 c =
    let a = c.args in
    let num = sym c.in_ok-n-in-1.ensures in
    let n = c.in_ok-n-in-1.n in
    let within = number_within _ _ _ _ num in
    let fv : SFits w32 c.unzigzag.result = search rules in
    let p = rw (to_z-of_z fv, c.unzigzag.ensures) at c.put_constant.ensures in
    p a.low.now a.high.now a.prev.now a.cur.now (record {
      putting = constant (unzigzag n);
      at_hand = record { ready = c.requires.ready; acting = c.requires.at_in_bounds.1; inside = within.inside; fetched = with_operand a.code.now a.b c.requires.at_in_bounds.0 1 c.in-1.is refl n c.in_ok-n-in-1.next num };
      admitted = constant_is n (known_of a.b.walk) within.operand;
      puts = λ ns k vs e. refl;
    })

pub returns-else-not-is_known : goal.returns-else-not-is_known
unfolding instruction_of has_operand
returns-else-not-is_known c =
    let a = c.args in
    let num = sym c.in_ok-n-in-2.ensures in
    let n = c.in_ok-n-in-2.n in
    let w = a.b.walk in
    let fv : SFits w32 (get_or a.cur.now n (pos 0)) = search rules in
    let p = rw (to_z-of_z fv) at c.put.ensures.put_by in
    once_acts a.code.now a.low.now a.high.now a.prev.now a.b a.vals.now a.cur.now _ c.put.result (p a.code.now a.low.now a.high.now a.prev.now a.cur.now (record {
      putting = current n;
      at_hand = record { ready = c.requires.ready; acting = c.requires.at_in_bounds.1; inside = (number_within _ _ _ _ num).inside; fetched = with_operand a.code.now a.b c.requires.at_in_bounds.0 2 c.in-2.is refl n c.in_ok-n-in-2.next num };
      admitted = current_pushed w n (sym c.is_known.ensures ∙ c.if-not-is_known.false);
      puts = λ ns k vs e. current_loaded w n c.if-w-n.false ns a.prev.now a.cur.now k vs e;
    }))

pub returns-else-w-n-2 : goal.returns-else-w-n-2
unfolding instruction_of has_operand
returns-else-w-n-2 c =
    let a = c.args in
    let num = sym c.in_ok-n-in-3.ensures in
    let n = c.in_ok-n-in-3.n in
    let w = a.b.walk in
    let fv : SFits w32 (get_or a.prev.now n (pos 0)) = search rules in
    let p = rw (to_z-of_z fv) at c.put-in-3.ensures.put_by in
    once_acts a.code.now a.low.now a.high.now a.prev.now a.b a.vals.now a.cur.now _ c.put-in-3.result (p a.code.now a.low.now a.high.now a.prev.now a.cur.now (record {
      putting = previous n;
      at_hand = record { ready = c.requires.ready; acting = c.requires.at_in_bounds.1; inside = (number_within _ _ _ _ num).inside; fetched = with_operand a.code.now a.b c.requires.at_in_bounds.0 3 c.in-3.is refl n c.in_ok-n-in-3.next num };
      admitted = previous_pushed w n c.if-w-n-2.false;
      puts = λ ns k vs e. previous_loaded w n c.if-w-n-2.false ns a.prev.now a.cur.now k vs e;
    }))

-- codes 16 to 18
pub returns-in-16 : goal.returns-in-16
unfolding instruction_of has_operand
returns-in-16 c =
    let a = c.args in
    once_acts a.code.now a.low.now a.high.now a.prev.now a.b a.vals.now a.cur.now _ c.invert.result
    (c.invert.ensures a.code.now a.low.now a.high.now a.prev.now a.cur.now (lone_at_hand c.requires.ready c.requires.at_in_bounds.1 c.requires.at_in_bounds.0 16 c.in-16.is refl negated refl))

pub returns-in-17 : goal.returns-in-17
unfolding instruction_of has_operand truth_of
returns-in-17 c =
    let a = c.args in
    once_acts a.code.now a.low.now a.high.now a.prev.now a.b a.vals.now a.cur.now _ c.relate.result
    (c.relate.ensures both (both_is (known_of a.b.walk)) (λ ns s t k vs. refl) a.code.now a.low.now a.high.now a.prev.now a.cur.now (lone_at_hand c.requires.ready c.requires.at_in_bounds.1 c.requires.at_in_bounds.0 17 c.in-17.is refl both refl))

pub returns-in-18 : goal.returns-in-18
unfolding instruction_of has_operand truth_of
returns-in-18 c =
    let a = c.args in
    once_acts a.code.now a.low.now a.high.now a.prev.now a.b a.vals.now a.cur.now _ c.relate-in-18.result
    (c.relate-in-18.ensures either (either_is (known_of a.b.walk)) (λ ns s t k vs. refl) a.code.now a.low.now a.high.now a.prev.now a.cur.now (lone_at_hand c.requires.ready c.requires.at_in_bounds.1 c.requires.at_in_bounds.0 18 c.in-18.is refl either refl))

-- codes 4 to 8, 10 to 15
pub returns-in-4-to-8 : goal.returns-in-4-to-8
returns-in-4-to-8 c =
    let a = c.args in
    let byte = get_or a.code.now a.b.at 0 in
    let least : 4 ≤ byte = from_four byte c.in-4-to-8.if-byte-lt1-own.false c.in-4-to-8.in_default-own.rest.0.0.0.0.0.1 c.in-4-to-8.in_default-own.rest.0.0.0.0.1 c.in-4-to-8.in_default-own.rest.0.0.0.1 in
    once_acts a.code.now a.low.now a.high.now a.prev.now a.b a.vals.now a.cur.now _ c.calculate.result
    (c.calculate.ensures a.code.now a.low.now a.high.now a.prev.now a.cur.now (operation_at_hand c.requires.ready c.requires.at_in_bounds.1 c.requires.at_in_bounds.0 byte refl least (omega (arith, c.in-4-to-8.if-byte-lt9-own.true))))

pub returns-in-10-to-15 : goal.returns-in-10-to-15
returns-in-10-to-15 c =
    let a = c.args in
    let byte = get_or a.code.now a.b.at 0 in
    let most : byte ≤ 15 = omega (arith, c.in-10-to-15.if-byte-lt16-own.true) in
    once_acts a.code.now a.low.now a.high.now a.prev.now a.b a.vals.now a.cur.now _ c.relate-in-10-to-15.result
    (comparison_acts byte most _ _ _ _ c.relate-in-10-to-15.result c.relate-in-10-to-15.ensures a.code.now a.low.now a.high.now a.prev.now a.cur.now (comparison_at_hand c.requires.ready c.requires.at_in_bounds.1 c.requires.at_in_bounds.0 byte refl c.in-10-to-15.if-byte-lt10-own.false most))
