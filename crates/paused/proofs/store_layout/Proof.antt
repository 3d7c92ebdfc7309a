-- `paused::store_layout` meets its contract. Assumes nothing.
use mathlib.Core.Path.{◌≡◌, ap, ◌∙◌}
use borrow.Author.Rules.{rules}
use lib.ListN.{length}
use lib.Seq.{sets, length-sets}
use Rattle.paused.specs.Memory.{layout_cells}
use Rattle.paused.proofs.Numbers.{kept}
use Rattle.paused.proofs.store_layout.Statement.{statement}
use Rattle.paused.proofs.store_layout.Tie as tie

store-timers-requires : tie.Need-store_timers-requires
store-timers-requires c κs = ap length c.store.ensures.1 ∙ simp length-sets c.requires.0

returns : tie.Need-returns
returns c =
    let h = c.requires.1 in
    let e : c.store.new.to ≡ sets c.args.memory.now 8 (layout_cells c.args.s) =
    rw (kept h.image c.number.ensures, kept h.base c.number-2.ensures, kept h.size c.number-3.ensures, kept h.names c.number-4.ensures, kept h.millis c.number-5.ensures) at c.store.ensures.1 in
    rw e at c.store_timers.ensures

pub store_layout_spec : {M : Type 1} → statement M
store_layout_spec =
    tie.close
    (tie.spec (λ c κs. search rules) (λ c κs. search rules) (λ c κs. search rules) (λ c κs. search rules) (λ c κs. search rules) (λ c. search rules) (λ c κs. search rules) store-timers-requires (λ c. search rules)
    returns)
