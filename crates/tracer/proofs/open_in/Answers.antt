-- `tracer::open_in` meets its contract: one law for a refused text, one for an accepted one. Assumes nothing.
use mathlib.Core.Path.{sym, ◌∙◌}
use native.Mathlib.Omega.{arith}
use lib.Seq.{length-take-le, take_at}
use Rattle.translate.proofs.Service.{analysed_text, analysed_refused}
use Rattle.tracer.proofs.Begun.{text_accepted, text_refused, names_fit, state_part, accepts_part, opens_refused, opens_accepted}
use Rattle.tracer.proofs.open_in.Goals as goal

pub overflow_add-width : goal.overflow_add-width
overflow_add-width c = omega (arith, (names_fit (text_accepted (analysed_text c.analyse.ensures c.in-Ok.is))).1)

pub slice_bounds-begin_trace-end : goal.slice_bounds-begin_trace-end
slice_bounds-begin_trace-end c = omega (arith, (names_fit (text_accepted (analysed_text c.analyse.ensures c.in-Ok.is))).1, c.requires.in_bounds.1)

pub slice_bounds-begin_trace-end-in-Ok : goal.slice_bounds-begin_trace-end-in-Ok
slice_bounds-begin_trace-end-in-Ok c = sym (length-take-le _ _ (omega (arith, (names_fit (text_accepted (analysed_text c.analyse.ensures c.in-Ok.is))).1, c.requires.in_bounds.1)))

pub begin_trace-put-requires : goal.begin_trace-put-requires
begin_trace-put-requires c =
    let a = text_accepted (analysed_text c.analyse.ensures c.in-Ok.is) in
    record { accepted_text = accepts_part a (state_part a c.args.state.now c.requires.in_bounds.1); in_bounds = (c.requires.in_bounds.0, c.requires.in_bounds.2) }

pub returns-in-Err : goal.returns-in-Err
returns-in-Err c =
    let p = rw (c.from.ensures, c.number.ensures, c.place.ensures) at c.put_refused-put.ensures.put in
    let l = rw (c.from.ensures, c.number.ensures, c.place.ensures) at c.put_refused-put.ensures.place_len_bound in
    opens_refused _ _ _ (text_refused _ (analysed_refused c.analyse.ensures c.in-Err.is)) c.requires.in_bounds.2 p l

pub returns-in-Ok : goal.returns-in-Ok
returns-in-Ok c =
    let a = text_accepted (analysed_text c.analyse.ensures c.in-Ok.is) in
    let t = c.begin_trace-put.new.state in
    opens_accepted a c.begin_trace-put.new.image _ t _ _ c.begin_trace-put.ensures.begins (take_at t _ _ (c.begin_trace-put.auto.state ∙ state_part a c.args.state.now c.requires.in_bounds.1)) c.begin_trace-put.ensures.upper_bound
