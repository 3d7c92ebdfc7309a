use Rattle.rounds.proofs.Turning.{turned_in}
use Rattle.rounds.proofs.+visit_all.Goals as goal

pub returns : goal.returns
returns t c =
    turned_in c.args.table.now c.args.images.now c.args.paused.now c.args.states.now c.args.answers.now c.args.i c.if-table-lt3.false c.min-cells.result c.min-bytes.result c.min-size.result c.min-cells.ensures c.min-bytes.ensures c.min-size.ensures
    c.visit-response.result c.visit-response.new.paused c.visit-response.new.state c.visit-response.ensures.state_after c.visit-response.auto.paused c.visit-response.auto.state c.answer.new.answers c.answer.ensures c.visit_all.new.paused c.visit_all.new.states c.visit_all.new.answers c.visit_all.ensures
