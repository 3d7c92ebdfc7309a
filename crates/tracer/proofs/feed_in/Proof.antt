-- `tracer::feed_in` meets its contract, by where the program stands. Assumes nothing.
use native.Mathlib.Omega.{arith}
use mathlib.Core.Path.{sym, ◌∙◌}
use lib.Seq.{length-take-le}
use Rattle.tracer.proofs.Taking.{part_within, fed_refused, fed_text, fed_rows}
use borrow.Author.Rules.{rules}
use Rattle.tracer.proofs.feed_in.Statement.{statement}
use Rattle.tracer.proofs.feed_in.Tie as tie

returns : tie.Need-returns-then-is_rows
returns c = fed_refused _ _ _ _ _ c.in-Text.is (sym c.is_rows.ensures ∙ c.if-is_rows.true) _ _ _

feed-text-requires : tie.Need-feed_text-requires
feed-text-requires c κs = ((omega (arith, c.min-n.ensures), c.requires.0.in_text_lem, sym c.is_rows.ensures ∙ c.if-is_rows.false), (c.requires.0.in_image, c.requires.0.in_state, c.requires.1))

slice-aggregate-feed-rows : tie.Need-slice_bounds-feed_rows-end-in-Rows
slice-aggregate-feed-rows c = sym (length-take-le _ _ (omega (arith, c.min-end.ensures)))

slice-aggregate-feed-rows-2 : tie.Need-slice_bounds-feed_rows-end-in-Rows-3
slice-aggregate-feed-rows-2 c = sym (length-take-le _ _ (omega (arith, c.min-n-in-Rows.ensures)))

feed-rows-requires : tie.Need-feed_rows-fed-requires
feed-rows-requires c κs = (c.requires.0.in_cells, part_within c.min-n-in-Rows.result c.args.state.now c.requires.0.in_state, c.requires.1)

returns-2 : tie.Need-returns-else-is_rows
returns-2 c =
    let a = c.args in
    fed_text a.tracer a.text.now a.image.now a.state.now a.cells.now c.in-Text.is (sym c.is_rows.ensures ∙ c.if-is_rows.false) c.min-n.ensures (c.feed_text.ensures a.cells.now)

returns-3 : tie.Need-returns-in-Rows
returns-3 c =
    let a = c.args in
    fed_rows a.tracer a.text.now a.image.now a.state.now a.cells.now c.in-Rows.is c.min-end.ensures c.min-n-in-Rows.ensures c.feed_rows-fed.new.state
    (c.feed_rows-fed.auto.state ∙ length-take-le c.min-n-in-Rows.result a.state.now (omega (arith, c.min-n-in-Rows.ensures))) c.feed_rows-fed.ensures

pub feed_in_spec : {M : Type 1} → statement M
feed_in_spec = tie.close (tie.spec (λ c. search rules) (λ c κs. search rules) returns (λ c κs. search rules) feed-text-requires (λ c. search rules) (λ c κs. search rules) (λ c κs. search rules) (λ c. search rules) slice-aggregate-feed-rows (λ c. search rules) slice-aggregate-feed-rows-2 feed-rows-requires (λ c. search rules) (λ c. search rules) (λ c. search rules) (λ c. search rules) returns-2 (λ c. search rules) (λ c. search rules) (λ c. search rules) (λ c. search rules) returns-3)
