-- The tests before the code (before), then what a start keeps (Begins).
use native.Mathlib.Omega.{arith}
use lib.ListN.{length-set}
use Rattle.std.proofs.Common.{refl, sym, ap, subst, ◌∙◌, length}
use Rattle.limits.specs.Refusals.{refusal_number, refusal_place, judged_by}
use Rattle.paused.specs.Memory.{checkpoint_of}
use Rattle.before.specs.Inner.Known.{BegunBy}
use Rattle.lifecycle.proofs.Begins.{waiting_most, image-short, image_few, begin_refused, begin_done}
use Rattle.lifecycle.proofs.begin_in.Goals as goal

pub overflow_add-end : goal.overflow_add-end
overflow_add-end c = record { fits = omega (arith, c.requires.row_waits.waits, waiting_most c.args.paused.now) }

pub slice_bounds-before_code-end : goal.slice_bounds-before_code-end
slice_bounds-before_code-end c = omega (arith, c.requires.row_waits.waits, waiting_most c.args.paused.now, c.requires.row_waits.sized)

pub begin_code-requires : goal.begin_code-requires
begin_code-requires c =
    let b = c.before_code-tried in
    let y = subst (BegunBy c.args.image.now c.args.state.now _ _ _ _) c.in-Ok.is b.ensures.begun_by in
    let accepts = sym (ap judged_by c.in-Ok.is) ∙ b.ensures.result_value in
    record {
      cells = ap length c.put.ensures ∙ simp length-set c.requires.row_waits.sized;
      images = image-short c.args.image.now c.args.state.now _ accepts;
      bases = y.inside;
      few = rw y.names (image_few c.args.image.now c.args.state.now _ accepts);
      short = y.short;
      starts = y.few;
      lows = b.auto.low ∙ c.requires.full_scratch.lows;
      highs = b.auto.high ∙ c.requires.full_scratch.highs;
      copies = b.auto.work ∙ c.requires.full_scratch.copies;
    }

pub returns-in-Err-clause-paused_after : goal.returns-in-Err-clause-paused_after
returns-in-Err-clause-paused_after c =
    let x = c.requires.row_waits in
    rw (c.number.ensures, c.place.ensures, c.put.ensures)
    (begin_refused c.args.image.now c.args.state.now c.args.paused.now x.sized (checkpoint_of c.args.paused.now) refl x.no_scan c.args.w x.waits x.some (refusal_number c.in-Err.e) (refusal_place c.in-Err.e) (sym (ap judged_by c.in-Err.is) ∙ c.before_code-tried.ensures.result_value))

pub returns-in-Ok-clause-paused_after : goal.returns-in-Ok-clause-paused_after
returns-in-Ok-clause-paused_after c =
    let b = c.before_code-tried in
    let x = c.requires.row_waits in
    let y = subst (BegunBy c.args.image.now c.args.state.now _ _ _ _) c.in-Ok.is b.ensures.begun_by in
    rw c.begin_code.ensures.0
    (begin_done c.args.image.now c.args.state.now c.args.paused.now x.sized (checkpoint_of c.args.paused.now) refl x.no_scan c.args.w x.waits x.some _ _ _ c.begin_code.new.memory c.in-Ok.c.place c.in-Ok.c.timing (sym (ap judged_by c.in-Ok.is) ∙ b.ensures.result_value) y (rw c.put.ensures at c.begin_code.ensures.1))
