-- The run works on a copy; the laws are those of Joined.
use Rattle.leb128.proofs.Stores.{rest_of}
use Rattle.scan.proofs.Joined.{one_done, one_refused, one_broken}
use Rattle.scan.proofs.scan_code.Goals as goal

pub returns-in-Done-clause-state_after : goal.returns-in-Done-clause-state_after
returns-in-Done-clause-state_after c =
    let p = c.requires.fitting_memory in
    let w = rw (rest_of c.args.image.now c.args.place) at c.run-ran.ensures in
    one_done c.args.state.now c.args.row.now c.requires.known_header c.take_row.new.copy c.run-ran.new.cur c.run-ran.result c.take_row.ensures p.lows w c.requires.state_value.0 c.requires.state_value.1 c.in-Done.n c.in-Done.is c.fill.new.to p.among c.run-ran.auto.cur c.fill.ensures

pub returns-in-Refused-clause-state_after : goal.returns-in-Refused-clause-state_after
returns-in-Refused-clause-state_after c =
    let w = rw (rest_of c.args.image.now c.args.place) at c.run-ran.ensures in
    one_refused c.args.state.now c.args.row.now c.requires.known_header c.take_row.new.copy c.run-ran.new.cur c.run-ran.result c.take_row.ensures c.requires.fitting_memory.lows w c.requires.state_value.0 c.requires.state_value.1 c.in-Refused.number c.in-Refused.n c.in-Refused.is

pub returns-in-Broken-clause-state_after : goal.returns-in-Broken-clause-state_after
returns-in-Broken-clause-state_after c =
    let w = rw (rest_of c.args.image.now c.args.place) at c.run-ran.ensures in
    rw c.refused.ensures (one_broken c.args.state.now c.args.row.now c.requires.known_header c.take_row.new.copy c.run-ran.new.cur c.run-ran.result c.take_row.ensures c.requires.fitting_memory.lows w c.requires.state_value.0 c.requires.state_value.1 c.in-Broken.at c.in-Broken.is)
