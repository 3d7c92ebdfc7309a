use Rattle.replay.proofs.Scans.{row_done, row_refused}
use Rattle.replay.proofs.scan_row.Goals as goal

pub returns-in-Done : goal.returns-in-Done
returns-in-Done c = row_done _ _ _ _ _ _ _ _ _ _ _ _ _ _ c.in-Done.ensures.state_after c.store.ensures c.store-in-Done.ensures c.store-in-Done-2.ensures.to_after c.store-in-Done-2.ensures.value

pub returns-in-Refused : goal.returns-in-Refused
returns-in-Refused c = row_refused _ _ _ _ _ _ _ _ _ _ _ _ _ _ c.in-Refused.ensures.state_after c.store-in-Refused.ensures c.store-in-Refused-2.ensures c.requires.place_in_bounds
