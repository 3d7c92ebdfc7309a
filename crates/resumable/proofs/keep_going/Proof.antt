-- `resumable::keep_going` meets its contract (Keeping.kept-going). Assumes nothing.
use mathlib.Core.Path.{◌≡◌, sym, ap, ◌∙◌}
use native.Mathlib.Omega.{arith}
use borrow.Author.Rules.{rules}
use lib.ListN.{length}
use lib.Seq.{length-sets, length-take-le}
use Rattle.resumable.proofs.Keeping.{phase_small, stored_length, kept_going}
use Rattle.resumable.proofs.keep_going.Statement.{statement}
use Rattle.resumable.proofs.keep_going.Tie as tie

slice-aggregate-store : tie.Need-slice_bounds-store-end
slice-aggregate-store c = sym (length-take-le c.args.m.held c.args.vals.now (omega (arith, c.requires.0.room, c.requires.1)))

store-requires-2 : tie.Need-store-requires-2
store-requires-2 c κs =
    let l : length c.store.new.to ≡ length c.args.memory.now = ap length c.store.ensures.1 ∙ simp length-sets in
    let h = length-take-le c.args.m.held c.args.vals.now (omega (arith, c.requires.0.room, c.requires.1)) in
    omega (arith, l, h, c.requires.0.cells, c.requires.1)

store-checkpoint-requires : tie.Need-store_checkpoint-requires
store-checkpoint-requires c κs =
    let a = c.args in
    let y = c.requires in (
      stored_length a.memory.now c.store.new.to c.store-2.new.to a.cur.now a.vals.now a.m.held c.store.ensures.1 c.store-2.ensures.1 ∙ y.0.cells,
      record {
        phase = phase_small a.len a.place c.phase_at.ensures;
        place = omega (arith, y.0.reached);
        steps = omega (arith, y.0.earlier, y.0.steps);
        held = omega (arith, y.1);
      },
    )

returns : tie.Need-returns
returns c =
    let a = c.args in
    kept_going a.before a.len a.n a.place c.phase_at.result a.m a.memory.now c.store.new.to c.store-2.new.to
    c.store_checkpoint.new.memory a.cur.now a.vals.now (omega (arith, c.requires.0.room, c.requires.1)) c.phase_at.ensures c.store.ensures.1 c.store-2.ensures.1
    c.store_checkpoint.ensures

pub keep_going_spec : {M : Type 1} → statement M
keep_going_spec =
    tie.close
    (tie.spec (λ c κs. search rules) slice-aggregate-store store-requires-2 (λ c κs. search rules) (λ c. search rules) store-checkpoint-requires
    (λ c. search rules) returns)
