-- `structured_text::write_in` meets its contract. Assumes nothing.
use mathlib.Core.Path.{sym}
use native.Mathlib.Omega.{arith}
use lib.Seq.{length-take-le}
use Rattle.structured_text.proofs.Service.{fault_passed, compiled, image_room_lem}
use Rattle.limits.proofs.Exits.{refused_as}
use Rattle.structured_text.proofs.write_in.Goals as goal

pub slice_bounds-write_image-end-6 : goal.slice_bounds-write_image-end-6
slice_bounds-write_image-end-6 c = image_room_lem _ _ _ _ _ c.requires.text_len_bound.0 c.descend.ensures _ c.requires.text_len_bound.1 c.in_ok-end.was

pub slice_bounds-write_image-end-7 : goal.slice_bounds-write_image-end-7
slice_bounds-write_image-end-7 c = sym (length-take-le _ _ (image_room_lem _ _ _ _ _ c.requires.text_len_bound.0 c.descend.ensures _ c.requires.text_len_bound.1 c.in_ok-end.was))

pub write_image-requires : goal.write_image-requires
write_image-requires c =
    let room = image_room_lem _ _ _ _ _ c.requires.text_len_bound.0 c.descend.ensures _ c.requires.text_len_bound.1 c.in_ok-end.was in
    record {
      compiled = compiled _ _ _ _ _ c.requires.text_len_bound.0 c.descend.ensures _ c.requires.text_len_bound.1 c.in_ok-end.was (omega (arith, c.descend.auto.starts)) (omega (arith, c.descend.auto.ends));
      name_limit_in_bounds = (omega arith, rw (length-take-le _ _ room) (omega (arith, room, c.requires.scratch_in_bounds, c.descend.auto.out)));
    }

pub returns-in_err-end : goal.returns-in_err-end
returns-in_err-end c =
    let both = fault_passed _ _ _ _ _ c.requires.text_len_bound.0 c.descend.ensures _ _ c.in_err-end.was in
    rw (refused_as c.from_residual.ensures) (record { out_after = both.0; written_within = both.1 })
