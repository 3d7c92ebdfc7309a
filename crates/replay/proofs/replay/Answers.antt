-- `replay::replay` meets its contract: one law for a refused text, one for an image; demand 3 follows from the first clause. Assumes nothing.
use mathlib.Core.Path.{sym, ap, subst, ◌∙◌}
use Prim.Native.Nat.{ℕ}
use native.Mathlib.Omega.{arith}
use lib.Seq.{length-take-le}
use Rattle.std.specs.Prelude.{Result}
use Rattle.limits.specs.declared.Refusal.{Refusal}
use Rattle.translate.specs.Results.{after_translation, TranslatedWithin}
use Rattle.translate.proofs.Kept.{image_inside}
use Rattle.replay.proofs.Texts.{text_refused, text_replayed}
use Rattle.replay.proofs.Showing.{replay_shown}
use Rattle.limits.proofs.Exits.{refused_as}
use Rattle.replay.proofs.replay.Goals as goal

pub slice_bounds-replay_image-end : goal.slice_bounds-replay_image-end
slice_bounds-replay_image-end c = image_inside _ _ _ _ (ap (λ (r : Result ℕ Refusal). after_translation r c.translate.new.image) (sym c.in_ok-n.was) ∙ c.translate.ensures.image_after)

pub slice_bounds-replay_image-end-2 : goal.slice_bounds-replay_image-end-2
slice_bounds-replay_image-end-2 c = sym (length-take-le _ _ (image_inside _ _ _ _ (ap (λ (r : Result ℕ Refusal). after_translation r c.translate.new.image) (sym c.in_ok-n.was) ∙ c.translate.ensures.image_after)))

pub returns-in_err-n : goal.returns-in_err-n
returns-in_err-n c =
    let a = c.args in
    rw (refused_as c.from_residual.ensures)
    (record {
      trace_after = text_refused _ _ _ a.cells.now a.lengths.now _ _ _ _ _ (ap (λ (r : Result ℕ Refusal). after_translation r c.translate.new.image) (sym c.in_err-n.was) ∙ c.translate.ensures.image_after);
      shown_by = tt;
      replayed_within = omega (arith, subst TranslatedWithin c.in_err-n.was c.translate.ensures.translated_within);
    })

pub returns : goal.returns
returns c =
    let a = c.args in
    let r = c.replay_image in
    let image = c.translate.new.image in
    let replayed = text_replayed _ _ image a.cells.now a.lengths.now a.state.now a.numbers.now a.steps.now a.trace.now _ r.result _ _ _ _ (ap (λ (r : Result ℕ Refusal). after_translation r c.translate.new.image) (sym c.in_ok-n.was) ∙ c.translate.ensures.image_after) (r.ensures.by_index image) in
    record { trace_after = replayed; shown_by = replay_shown _ _ _ _ r.result _ replayed; replayed_within = r.ensures.replayed_within }
