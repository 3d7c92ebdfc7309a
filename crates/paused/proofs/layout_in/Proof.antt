-- `paused::layout_in` meets its contract. Assumes nothing.
use borrow.Author.Rules.{rules}
use lib.IntN.{pos}
use lib.ListN.{get_or}
use mir.Val.{SFits}
use mir.Syntax.{w32}
use Rattle.arith.proofs.Laws.{same32}
use Rattle.paused.specs.Memory.{layout_of}
use Rattle.paused.proofs.layout_in.Statement.{statement}
use Rattle.paused.proofs.layout_in.Tie as tie

returns : tie.Need-returns
unfolding layout_of
returns c =
    let f : SFits w32 (get_or c.args.memory.now 12 (pos 0)) = record { sfits = c.count-arg-1.given } in
    rw (c.timers_in.ensures, c.count.ensures.0, same32 f, c.cell.ensures, c.cell-names.ensures, c.cell-size.ensures, c.cell-image.ensures)

pub layout_in_spec : {M : Type 1} → statement M
layout_in_spec = tie.close (tie.spec (λ c κs. search rules) (λ c κs. search rules) (λ c κs. search rules) (λ c κs. search rules) (λ c. search rules) (λ c κs. search rules) (λ c κs. search rules) returns)
