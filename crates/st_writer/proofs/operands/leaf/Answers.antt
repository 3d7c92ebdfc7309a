-- Assumes nothing.
use Rattle.std.proofs.Common.{sym, arith}
use Rattle.bytecode.proofs.Fetching.{number_within}
use Rattle.st_writer.proofs.Numbers.{leaf_none, leaf_put}
use Rattle.st_writer.proofs.operands.leaf.Goals as goal

pub returns-in_default-clause-prints_leaf : goal.returns-in_default-clause-prints_leaf
returns-in_default-clause-prints_leaf c = leaf_none _ _ _ _ _ _ c.in_default.ensures

pub returns-clause-at_le_next : goal.returns-clause-at_le_next
returns-clause-at_le_next c =
    let w = number_within _ _ _ _ (sym c.in-Some.ensures) in
    (omega (arith, w.behind), w.inside)

pub returns-clause-prints_leaf : goal.returns-clause-prints_leaf
returns-clause-prints_leaf c = leaf_put _ _ _ _ _ _ _ _ _ _ c.in-Some.ensures c.value_before-first.ensures
