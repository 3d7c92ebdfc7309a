-- Assumes nothing.
use Rattle.std.proofs.Common.{◌∙◌, arith, length-drop}
use Rattle.leb128.proofs.Stores.{rest_of}
use Rattle.structured_text.proofs.Service.{name-refused, header_unbroken, count_held, none_outside, prepared}
use Rattle.structured_text.proofs.write_image.Goals as goal

pub returns-in_default : goal.returns-in_default
returns-in_default c = header_unbroken c.requires.compiled _ c.in_default.ensures.so.0

pub has_st-requires : goal.has_st-requires
has_st-requires c = count_held c.requires.compiled c.in-Ok.ensures.so

pub returns-then-not-has_st : goal.returns-then-not-has_st
returns-then-not-has_st c =
    let k = c.requires.compiled in
    let p = name-refused _ c.args.out.now k.program k.parsed (none_outside k c.in-Ok.ensures.so c.has_st.ensures ∙ c.if-not-has_st.true) in
    record { out_after = rw c.reserved_place.ensures p.0; written_within = rw c.reserved_place.ensures p.1 }

pub write_code-requires : goal.write_code-requires
write_code-requires c =
    let k = c.requires.compiled in
    let image = c.args.image.now in
    let place = c.in-Ok.place in
    record {
      ready_to_print = rw (rest_of image place) (prepared k c.in-Ok.ensures.so (none_outside k c.in-Ok.ensures.so c.has_st.ensures ∙ c.if-not-has_st.false) c.requires.name_limit_in_bounds.0);
      code_in_bounds = omega (arith, length-drop place image, c.requires.name_limit_in_bounds.1);
    }
