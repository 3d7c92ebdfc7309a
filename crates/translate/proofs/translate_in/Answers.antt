-- `translate::translate_in` meets its contract: the descent, the room, then the image stored. Assumes nothing.
use mathlib.Core.Path.{sym}
use lib.Seq.{length-take-le}
use Rattle.limits.proofs.Exits.{refused_as}
use Rattle.translate.proofs.Service.{fault_passed, image_made, made_short, made_stored}
use Rattle.translate.proofs.translate_in.Goals as goal

pub returns-in_err-end : goal.returns-in_err-end
returns-in_err-end c =
    let both = fault_passed _ _ _ _ _ c.requires.text_len_bound.0 c.descend.ensures _ _ c.in_err-end.was in
    rw (refused_as c.from_residual.ensures) (record { image_after = both.0; translated_within = both.1 })

pub returns-then-image-size : goal.returns-then-image-size
returns-then-image-size c =
    let both = made_short (image_made _ _ _ _ _ c.requires.text_len_bound.0 c.descend.ensures _ c.requires.text_len_bound.1 c.in_ok-end.was) _ c.if-image-size.true in
    record { image_after = both.0; translated_within = both.1 }

pub slice_bounds-store-end : goal.slice_bounds-store-end
slice_bounds-store-end c = (image_made _ _ _ _ _ c.requires.text_len_bound.0 c.descend.ensures _ c.requires.text_len_bound.1 c.in_ok-end.was).room

pub slice_bounds-store-end-2 : goal.slice_bounds-store-end-2
slice_bounds-store-end-2 c = sym (length-take-le _ _ (image_made _ _ _ _ _ c.requires.text_len_bound.0 c.descend.ensures _ c.requires.text_len_bound.1 c.in_ok-end.was).room)

pub store-requires : goal.store-requires
store-requires c = rw (length-take-le _ _ (image_made _ _ _ _ _ c.requires.text_len_bound.0 c.descend.ensures _ c.requires.text_len_bound.1 c.in_ok-end.was).room) c.if-image-size.false

pub returns : goal.returns
returns c =
    let both = made_stored (image_made _ _ _ _ _ c.requires.text_len_bound.0 c.descend.ensures _ c.requires.text_len_bound.1 c.in_ok-end.was) _ _ c.if-image-size.false c.store.ensures in
    record { image_after = both.0; translated_within = both.1 }
