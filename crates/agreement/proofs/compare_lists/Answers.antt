-- `agreement::compare_lists` meets its contract. Assumes nothing.
use mathlib.Core.Path.{ap}
use Prim.Native.Nat.{◌+◌}
use Rattle.limits.proofs.Exits.{handed_on}
use Rattle.agreement.specs.Inner.Comparison.{compared_of}
use Rattle.agreement.proofs.Parts.{compared, part_differs, separator_known, sign_differs, next_part}
use Rattle.agreement.proofs.compare_lists.Goals as goal

pub returns-in_err-n : goal.returns-in_err-n
returns-in_err-n c =
    rw (handed_on c.from_residual.ensures c.in_err-n.was)
    (part_differs _ _ _ _ c.requires.spans _ _ _ c.loop-i.invariant c.loop-i-test.true _ c.compare_part.ensures (ap compared_of c.in_err-n.was))

pub compare_sign-requires : goal.compare_sign-requires
compare_sign-requires c = separator_known (c.loop-i.i + 1) c.args.count _ c.separator.ensures

pub returns-in_err-m : goal.returns-in_err-m
returns-in_err-m c =
    rw (handed_on c.from_residual-in_err-m.ensures c.in_err-m.was)
    (sign_differs _ _ _ _ c.requires.spans _ _ _ c.loop-i.invariant c.loop-i-test.true _ c.compare_part.ensures (ap compared_of c.in_ok-n.was) _ c.separator.ensures c.compare_sign.ensures _ (ap compared_of c.in_err-m.was))

pub loop-i-preserved : goal.loop-i-preserved
loop-i-preserved c =
    next_part _ _ _ _ c.requires.spans _ _ _ c.loop-i.invariant c.loop-i-test.true _ c.compare_part.ensures (ap compared_of c.in_ok-n.was) _ c.separator.ensures c.compare_sign.ensures _ (ap compared_of c.in_ok-m.was)

pub returns : goal.returns
returns c = compared _ _ _ _ c.requires.spans _ _ _ c.loop-i.invariant (ap compared_of c.reached.ensures) c.loop-i-test.false
