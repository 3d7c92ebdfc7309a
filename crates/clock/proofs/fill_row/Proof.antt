-- `clock::fill_row` meets its contract: the local time, then the three names. Assumes nothing.
use mathlib.Core.Path.{sym, ap, ◌∙◌}
use borrow.Author.Rules.{rules}
use mir.Syntax.{w32}
use mir.Val.{SFits}
use Rattle.arith.proofs.Laws.{same32}
use Rattle.clock.specs.Clock.{entries_of, day_of, minute_of}
use Rattle.clock.proofs.Held.{same64, Timed, timed}
use Rattle.clock.proofs.Service.{row_filled_lem}
use Rattle.clock.proofs.fill_row.Statement.{statement}
use Rattle.clock.proofs.fill_row.Tie as tie

-- the local time that is worked out
time : (c : tie.After-offset_at) → Timed (entries_of c.args.table.now) c.args.utc c.offset_at.result
time c = timed _ _ _ c.requires.1 c.requires.2 (record { sfits = c.offset_at.type_inv }) c.offset_at.ensures

day-of-requires : tie.Need-day_of-requires
day-of-requires c κs = (time c.before.before.before).small

minute-of-requires : tie.Need-minute_of-requires
minute-of-requires c κs = (time c.before.before.before.before.before.before.before.before.before).small

again-of-requires : tie.Need-again_of-requires
again-of-requires c κs =
    let s = time c.before.before.before.before.before.before.before.before.before.before.before.before.before.before.before in
    (c.requires.1, s.small, s.time ∙ sym (rw (same64 c.ranges.utc)))

returns : tie.Need-returns
returns c =
    let s = time c.before.before.before.before.before.before.before.before.before.before.before.before.before.before.before.before.before.before in
    let fd : SFits w32 c.day_of.result = record { sfits = c.day_of.type_inv } in
    let fm : SFits w32 c.minute_of.result = record { sfits = c.minute_of.type_inv } in
    let fa : SFits w32 c.again_of.result = record { sfits = c.again_of.type_inv } in
    row_filled_lem _ _ _ (entries_of c.args.table.now) c.args.utc c.args.row.now _ _ _ _ _ _ c.fill_named.ensures c.fill_named-2.ensures c.fill_named-3.ensures
    (same32 fd ∙ (c.day_of.ensures ∙ ap day_of s.time)) (same32 fm ∙ (c.minute_of.ensures ∙ ap minute_of s.time))
    (same32 fa ∙ rw (same64 c.ranges.utc) at c.again_of.ensures)

pub fill_row_spec : {M : Type 1} → statement M
fill_row_spec =
    tie.close
    (tie.spec (λ c κs. search rules) (λ c. (time c).sum) day-of-requires (λ c κs. search rules)
    minute-of-requires (λ c κs. search rules) again-of-requires (λ c κs. search rules) (λ c. search rules) returns)
