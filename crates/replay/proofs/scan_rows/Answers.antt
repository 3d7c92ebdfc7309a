use Rattle.replay.proofs.Scans.{scanning_goes}
use Rattle.replay.proofs.scan_rows.Goals as goal

pub loop-i-preserved : goal.loop-i-preserved
loop-i-preserved c = scanning_goes c.loop-i.invariant _ _ c.loop-i-test.true c.behind-end.ensures c.scan_row-place.ensures
