-- `tracer::begin_trace` meets its contract: the image, the start and the two lines of an accepted text. Assumes nothing.
use native.Mathlib.Omega.{arith}
use mathlib.Core.Path.{sym}
use lib.Seq.{length-take-le}
use Rattle.tracer.proofs.Begun.{names_fit, image_is, size_inside, start_is, opening_put, begins}
use borrow.Author.Rules.{rules}
use Rattle.tracer.proofs.begin_trace.Statement.{statement}
use Rattle.tracer.proofs.begin_trace.Tie as tie

slice-reshare-prefix-start : tie.Need-slice_bounds-start-end
slice-reshare-prefix-start c = size_inside c.args.state.now c.requires.0 c.args.image.now c.requires.1.0 c.translate.new.image c.image-1.given

slice-aggregate-start : tie.Need-slice_bounds-start-end-2
slice-aggregate-start c = sym (length-take-le _ _ (size_inside c.args.state.now c.requires.0 c.args.image.now c.requires.1.0 c.translate.new.image c.image-1.given))

slice-reshare-prefix-put-row : tie.Need-slice_bounds-put_row-end
slice-reshare-prefix-put-row c = omega (arith, c.state-1.given, (names_fit c.requires.0).0)

slice-aggregate-put-row : tie.Need-slice_bounds-put_row-end-2
slice-aggregate-put-row c = sym (length-take-le _ _ (omega (arith, c.state-1.given, (names_fit c.requires.0).0)))

returns : tie.Need-returns
returns c =
    let a = c.requires.0 in
    let i = image_is c.args.state.now a _ c.requires.1.0 c.translate.result c.translate.ensures.0 in
    let t = start_is c.args.state.now a _ i c.start.result c.start.ensures.0 in
    let o = opening_put c.args.state.now a t c.requires.1.1 c.put_head-at.ensures c.put_row.ensures.0 c.put_row.ensures.1 in
    (begins a i t o.0, o.1)

pub begin_trace_spec : {M : Type 1} → statement M
begin_trace_spec = tie.close (tie.spec (λ c κs. search rules) (λ c κs. search rules) slice-reshare-prefix-start slice-aggregate-start (λ c κs. search rules) slice-reshare-prefix-put-row slice-aggregate-put-row (λ c κs. search rules) (λ c. search rules) (λ c. search rules) (λ c. search rules) returns)
