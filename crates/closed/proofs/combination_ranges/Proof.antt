-- `closed::combination_ranges` meets its contract. The ways are the laws of Numbering. Assumes nothing.
use mathlib.Core.Path.{sym, ◌∙◌}
use Prim.Native.Nat.{◌%◌, ◌<◌}
use native.Mathlib.Nat.{mod-lt}
use native.Mathlib.Omega.{arith}
use mathlib.Core.List.{List}
use Rattle.semantics.specs.Program.{Range}
use Rattle.machine.specs.Inner.Memory.{RangesIn}
use lib.ListN.{take}
use lib.Seq.{length-take-le}
use Rattle.machine.proofs.Changes.{names_length}
use Rattle.closed.specs.Closed.{product_of_sizes}
use Rattle.closed.proofs.Profiles.{ranges_taken, capped_product, too_large, Sized, sized}
use Rattle.closed.proofs.Numbering.{quotient_below, combined_state, combined_row, combined_none, combined_found}
use borrow.Author.Rules.{rules}
use Rattle.closed.proofs.combination_ranges.Statement.{statement}
use Rattle.closed.proofs.combination_ranges.Tie as tie

slice-aggregate-product-of-sizes : tie.Need-slice_bounds-product_of_sizes-end
slice-aggregate-product-of-sizes c = sym (length-take-le _ _ c.requires.0)

slice-aggregate-product-of-sizes-2 : tie.Need-slice_bounds-product_of_sizes-end-2
slice-aggregate-product-of-sizes-2 c = sym (length-take-le _ _ (omega (arith, c.requires.0, c.requires.1)))

product-requires-2 : tie.Need-product_of_sizes-rows-requires
product-requires-2 c κs = length-take-le c.args.inputs c.args.high.now (omega (arith, c.requires.0, c.requires.1)) ∙ sym (length-take-le c.args.inputs c.args.low.now c.requires.0)

mul-if1 : tie.Need-overflow_mul-states
mul-if1 c = omega (arith, capped_product c.product_of_sizes-states.result c.product_of_sizes-rows.result c.product_of_sizes-states.ensures.1.1 c.product_of_sizes-rows.ensures.1.1)

returns : tie.Need-returns-then-states-rows-gt-COMBINATION_LIMIT
returns c =
    let i = c.args.inputs in
    (λ ns r. rw (too_large (product_of_sizes ns) (product_of_sizes (take i ns)) c.product_of_sizes-states.result c.product_of_sizes-rows.result (c.product_of_sizes-states.ensures.0 ns r) (c.product_of_sizes-rows.ensures.0 (take i ns) (ranges_taken i ns _ _ r)) c.if-states-rows-gt-COMBINATION_LIMIT.true), omega arith)

-- the products are small enough
sized_by : (c : tie.Else-states-rows-gt-COMBINATION_LIMIT) (ns : List Range) → RangesIn ns c.args.low.now c.args.high.now → Sized (product_of_sizes ns) (product_of_sizes (take c.args.inputs ns)) c.product_of_sizes-states.result c.product_of_sizes-rows.result
sized_by c ns r =
    let i = c.args.inputs in
    sized (product_of_sizes ns) (product_of_sizes (take i ns)) c.product_of_sizes-states.result c.product_of_sizes-rows.result (c.product_of_sizes-states.ensures.0 ns r) (c.product_of_sizes-rows.ensures.0 (take i ns) (ranges_taken i ns _ _ r)) c.product_of_sizes-states.ensures.1.0 c.product_of_sizes-rows.ensures.1.0 c.if-states-rows-gt-COMBINATION_LIMIT.false

returns-2 : tie.Need-returns-then-state-low
returns-2 c =
    let a = c.args in
    (λ ns r. let z = sized_by c.before ns r in combined_state ns a.inputs a.index a.state.now a.row.now z.small (λ e. c.if-state-low.true (e ∙ names_length ns _ _ r)), omega arith)

returns-3 : tie.Need-returns-then-row-inputs
returns-3 c =
    let a = c.args in
    (λ ns r. let z = sized_by c.before.before ns r in combined_row ns a.inputs a.index a.state.now a.row.now z.small (c.if-state-low.false ∙ sym (names_length ns _ _ r)) c.if-row-inputs.true, omega arith)

returns-4 : tie.Need-returns-then-states-rows
returns-4 c =
    let a = c.args in
    (λ ns r. let z = sized_by c.before.before.before ns r in combined_none ns a.inputs a.index a.state.now a.row.now z.small (c.if-state-low.false ∙ sym (names_length ns _ _ r)) c.if-row-inputs.false c.product_of_sizes-states.result c.product_of_sizes-rows.result z.first z.second c.if-states-rows.true, omega arith)

slice-aggregate-nth : tie.Need-slice_bounds-nth-end
slice-aggregate-nth c =
    sym (length-take-le _ _ c.requires.0)

slice-aggregate-nth-2 : tie.Need-slice_bounds-nth-end-2
slice-aggregate-nth-2 c =
    sym (length-take-le _ _ (omega (arith, c.requires.0, c.requires.1)))

nth-requires-2 : tie.Need-nth-requires-2
nth-requires-2 c κs =
    let k = length-take-le c.args.inputs c.args.low.now c.requires.0 in (length-take-le c.args.inputs c.args.high.now (omega (arith, c.requires.0, c.requires.1)) ∙ sym k, c.if-row-inputs.false ∙ sym k)

returns-5 : tie.Need-returns
returns-5 c =
    let a = c.args in
    let d = quotient_below a.index c.product_of_sizes-states.result c.product_of_sizes-rows.result c.if-states-rows.false in
    let m : a.index % c.product_of_sizes-rows.result < c.product_of_sizes-rows.result = mod-lt a.index c.product_of_sizes-rows.ensures.1.0 in (
      λ ns r.
          let z = sized_by c.before.before.before.before.before.before.before.before.before ns r in
          combined_found ns a.inputs a.index a.state.now a.row.now z.small (c.if-state-low.false ∙ sym (names_length ns _ _ r)) c.if-row-inputs.false c.product_of_sizes-states.result c.product_of_sizes-rows.result z.first z.second c.nth.new.values c.nth-2.new.values
          (c.nth.ensures ns r (omega (arith, d, z.first))) (c.nth-2.ensures (take a.inputs ns) (ranges_taken a.inputs ns _ _ r) (omega (arith, m, z.second))),
      tt,
    )

pub combination_ranges_spec : {M : Type 1} → statement M
combination_ranges_spec =
    tie.close
    (tie.spec (λ c κs. search rules) slice-aggregate-product-of-sizes slice-aggregate-product-of-sizes-2 product-requires-2 mul-if1 returns
    returns-2 returns-3 (λ c. search rules) returns-4 (λ c. search rules) (λ c κs. search rules) slice-aggregate-nth slice-aggregate-nth-2
    (λ c. search rules) nth-requires-2 (λ c. search rules) (λ c. search rules) returns-5)
