-- `declarations::timers::timer` meets its contract: a new name, the rest, the tables and the bytes. Assumes nothing.
use native.Mathlib.Omega.{arith}
use borrow.Author.Rules.{rules}
use Rattle.limits.proofs.Exits.{handed_on}
use Rattle.declarations.proofs.TimerEntries.{room_more, timer_unnamed, timer_cut, timer_done_lem}
use Rattle.declarations.proofs.timers.timer.Goals as goal

pub returns-in_err-next : goal.returns-in_err-next
returns-in_err-next c =
    let both = timer_unnamed _ _ _ _ _ _ _ _ _ _ _ _ _ c.new_name.ensures.names _ _ _ c.in_err-next.was in
    rw (handed_on c.from_residual.ensures c.in_err-next.was) (record { timer_declared = both.0; count_lt_name_limit = both.1 })

pub rest-requires : goal.rest-requires
rest-requires c = record {
  table_room = room_more _ _ _ _ _ c.requires.table_room (search rules) (search rules) (c.new_name.ensures.count_lt_name_limit _ c.in_ok-next.was);
  first_le_name_limit = omega (arith, c.requires.table_room.few, c.requires.first_le_count.0);
}

pub returns-in_err-x : goal.returns-in_err-x
returns-in_err-x c =
    let both = timer_cut _ _ _ _ _ _ _ _ _ _ _ _ _ c.new_name.ensures.names c.in_ok-next.was _ c.rest.ensures.result_value _ _ _ c.in_err-x.was in
    rw (handed_on c.from_residual-in_err-x.ensures c.in_err-x.was) (record { timer_declared = both.0; count_lt_name_limit = both.1 })

pub store-requires : goal.store-requires
store-requires c =
    let few = c.new_name.ensures.count_lt_name_limit _ c.in_ok-next.was in
    let b = c.rest.ensures.number_lt_name_limit _ c.in_ok-x.was in
    (omega (arith, few, c.requires.timer_room.in_watched), omega (arith, few, c.requires.timer_room.in_limits_lem), omega (arith, b.0), omega (arith, b.1))

pub returns : goal.returns
returns c =
    let both = timer_done_lem _ _ _ _ _ _ _ _ _ _ _ _ _ c.new_name.ensures.names c.in_ok-next.was _ c.rest.ensures.result_value c.in_ok-x.was c.store.ensures
    (c.new_name.ensures.count_lt_name_limit _ c.in_ok-next.was) c.requires.timer_room.in_watched c.requires.timer_room.in_limits_lem c.put_range.ensures c.reached.ensures in
    record { timer_declared = both.0; count_lt_name_limit = both.1 }
