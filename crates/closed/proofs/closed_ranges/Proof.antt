-- `closed::closed_ranges` meets its contract. The ways are the laws of Profiles. Assumes nothing.
use mathlib.Core.Path.{◌≡◌, sym, subst}
use mathlib.Core.List.{List}
use Prim.Native.Nat.{◌+◌, ◌*◌, ◌≤◌, min}
use native.Mathlib.Omega.{arith}
use borrow.Author.Rules.{rules}
use lib.ListN.{take}
use lib.Seq.{length-take-le}
use Rattle.semantics.specs.Program.{Range}
use Rattle.machine.specs.Inner.Memory.{RangesIn}
use Rattle.closed.specs.Closed.{product_of_sizes}
use Rattle.closed.specs.Inner.Parts.{VisitedWithin}
use Rattle.closed.proofs.Profiles.{ranges_taken, capped_product, too_large, Sized, sized, closed_beyond, closed_through, closed_stopped}
use Rattle.closed.proofs.closed_ranges.Statement.{statement}
use Rattle.closed.proofs.closed_ranges.Tie as tie

slice-aggregate-product-of-sizes : tie.Need-slice_bounds-product_of_sizes-end
slice-aggregate-product-of-sizes c = sym (length-take-le _ _ c.requires.0)

slice-aggregate-product-of-sizes-2 : tie.Need-slice_bounds-product_of_sizes-end-2
slice-aggregate-product-of-sizes-2 c =
    sym (length-take-le _ _ (omega (arith, c.requires.0, c.requires.1.0.highs)))

mul-all : tie.Need-overflow_mul-all
mul-all c =
    omega (arith, capped_product c.product_of_sizes-states.result c.product_of_sizes-rows.result c.product_of_sizes-states.ensures.1.1 c.product_of_sizes-rows.ensures.1.1)

returns : tie.Need-returns-then-all-gt-COMBINATION_LIMIT
returns c =
    (λ ns r. rw (too_large (product_of_sizes ns) (product_of_sizes (take c.args.inputs ns)) c.product_of_sizes-states.result c.product_of_sizes-rows.result (c.product_of_sizes-states.ensures.0 ns r) (c.product_of_sizes-rows.ensures.0 (take c.args.inputs ns) (ranges_taken c.args.inputs ns _ _ r)) c.if-all-gt-COMBINATION_LIMIT.true), omega arith)

-- the products are small enough
sized_by : (c : tie.Else-all-gt-COMBINATION_LIMIT) (ns : List Range) → RangesIn ns c.args.low.now c.args.high.now → Sized (product_of_sizes ns) (product_of_sizes (take c.args.inputs ns)) c.product_of_sizes-states.result c.product_of_sizes-rows.result
sized_by c ns r =
    sized (product_of_sizes ns) (product_of_sizes (take c.args.inputs ns)) c.product_of_sizes-states.result c.product_of_sizes-rows.result (c.product_of_sizes-states.ensures.0 ns r) (c.product_of_sizes-rows.ensures.0 (take c.args.inputs ns) (ranges_taken c.args.inputs ns _ _ r)) c.product_of_sizes-states.ensures.1.0 c.product_of_sizes-rows.ensures.1.0 c.if-all-gt-COMBINATION_LIMIT.false

returns-2 : tie.Need-returns-then-all-first
returns-2 c =
    (λ ns r. let z = sized_by c.before ns r in closed_beyond ns c.args.inputs c.args.code.now c.args.first c.args.most c.args.state.now c.args.row.now z.small (rw (← z.first, ← z.second) c.if-all-first.true), tt)

-- where the part ends, of all the combinations
ends_at : (c : tie.After-behind-end) (ns : List Range) → RangesIn ns c.args.low.now c.args.high.now → c.behind-end.result ≡ min (c.args.first + c.args.most) (product_of_sizes ns * product_of_sizes (take c.args.inputs ns))
ends_at c ns r = let z = sized_by c.before.before ns r in rw (← z.first, ← z.second) c.behind-end.ensures

begins_among : (c : tie.Else-all-first) (ns : List Range) → RangesIn ns c.args.low.now c.args.high.now → c.args.first ≤ product_of_sizes ns * product_of_sizes (take c.args.inputs ns)
begins_among c ns r = let z = sized_by c.before ns r in rw (← z.first, ← z.second) (omega (arith, c.if-all-first.false))

slice-aggregate-walk : tie.Need-slice_bounds-walk-end
slice-aggregate-walk c =
    sym (length-take-le _ _ c.requires.0)

slice-aggregate-walk-2 : tie.Need-slice_bounds-walk-end-2
slice-aggregate-walk-2 c =
    sym (length-take-le _ _ (omega (arith, c.requires.0, c.requires.1.0.highs)))

walk-requires : tie.Need-walk-ended-requires
walk-requires c κs =
    (c.requires.1.0, (c.product_of_sizes-rows.ensures.1.0, omega (arith, c.behind-end.ensures, c.if-all-first.false), omega (arith, c.behind-end.ensures, c.if-all-gt-COMBINATION_LIMIT.false)))

returns-3 : tie.Need-returns-in_default
returns-3 c =
    let at-behind = c in
    let at-behind = c in (
      λ ns r. let z = sized_by c.before.before.before.before.before.before.before.before.before.before.before.before ns r in let n = ends_at c.before.before.before.before.before.before.before.before.before.before ns r in closed_through ns c.args.inputs c.args.code.now c.args.first c.args.most c.args.state.now c.args.row.now z.small c.behind-end.result (begins_among c.before.before.before.before.before.before.before.before.before.before.before ns r) n c.walk-ended.result c.walk-ended.new.state c.walk-ended.new.row
          (c.walk-ended.ensures.0 ns (take c.args.inputs ns) r (ranges_taken c.args.inputs ns _ _ r) z.second (omega (arith, n))) c.in_default.is,
      tt,
    )

fill-requires : tie.Need-fill-requires
fill-requires c κs =
    omega (arith, c.walk-ended.auto.state, c.requires.1.0.states, c.requires.1.1.0)

fill-requires-2 : tie.Need-fill-requires-2
fill-requires-2 c κs =
    let k = length-take-le c.args.inputs c.args.low.now c.requires.0 in omega (arith, k, c.walk-ended.auto.row, c.requires.1.0.rows, c.requires.1.1.1)

returns-4 : tie.Need-returns
returns-4 c =
    let at-behind = c in
    let at-behind = c in (
      λ ns r.
          let z = sized_by c.before.before.before.before.before.before.before.before.before.before.before.before.before.before.before.before.before.before ns r in
          let n = ends_at c.before.before.before.before.before.before.before.before.before.before.before.before.before.before.before.before ns r in
          closed_stopped ns c.args.inputs c.args.code.now c.args.first c.args.most c.args.state.now c.args.row.now z.small c.behind-end.result (begins_among c.before.before.before.before.before.before.before.before.before.before.before.before.before.before.before.before.before ns r) n c.walk-ended.result c.walk-ended.new.state c.walk-ended.new.row c.fill.new.to c.fill-2.new.to c.in-Some.done
          (c.walk-ended.ensures.0 ns (take c.args.inputs ns) r (ranges_taken c.args.inputs ns _ _ r) z.second (omega (arith, n))) c.in-Some.is c.fill.ensures c.fill-2.ensures,
      let w = subst VisitedWithin c.in-Some.is c.walk-ended.ensures.1 in omega arith,
    )

pub closed_ranges_spec : {M : Type 1} → statement M
closed_ranges_spec =
    tie.close
    (tie.spec (λ c κs. search rules) slice-aggregate-product-of-sizes slice-aggregate-product-of-sizes-2 (λ c κs. search rules) mul-all
    returns returns-2 (λ c κs. search rules) slice-aggregate-walk slice-aggregate-walk-2 walk-requires (λ c. search rules)
    (λ c. search rules) (λ c. search rules) (λ c. search rules) (λ c. search rules) (λ c. search rules) returns-3 fill-requires
    fill-requires-2 (λ c. search rules) (λ c. search rules) (λ c. search rules) (λ c. search rules) (λ c. search rules) (λ c. search rules)
    returns-4)
