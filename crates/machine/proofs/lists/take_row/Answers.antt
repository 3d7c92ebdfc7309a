use Rattle.std.proofs.Common.{sym}
use Rattle.machine.proofs.Copies.{over_all}
use Rattle.machine.proofs.lists.take_row.Goals as goal

-- the state, then the row over its front
pub returns : goal.returns
returns c =
    let a = c.args in
    rw (← over_all a.state.now a.copy.now (sym c.requires.0), ← c.fill.ensures) c.fill-2.ensures
