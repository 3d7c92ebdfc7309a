-- `clock::fill_in` meets its contract: the text's analysis, then the tests in their order. Assumes nothing.
use mathlib.Core.Path.{◌≡◌, sym, ◌∙◌}
use mathlib.Core.Bool.{true, false}
use native.Mathlib.Omega.{arith}
use Rattle.translate.proofs.Service.{analysed_text, analysed_refused}
use Rattle.clock.specs.Clock.{is_minute}
use Rattle.clock.proofs.Entries.{table_small}
use Rattle.clock.proofs.Held.{same64}
use Rattle.clock.proofs.Service.{inputs_limited, minute_fits, text_refused, table_refused, minute_refused, length_refused, all_filled, row_few, front_length}
use Rattle.limits.proofs.Exits.{refused_as}
use Rattle.clock.proofs.fill_in.Goals as goal

pub returns-then-not-is_table : goal.returns-then-not-is_table
returns-then-not-is_table c = record {
  row_after = table_refused _ _ _ _ (analysed_text c.analyse.ensures c.in_ok-analysis.was) (sym c.is_table.ensures ∙ c.if-not-is_table.true);
  filled_within = omega arith;
}

pub returns-then-not-is_minute : goal.returns-then-not-is_minute
returns-then-not-is_minute c =
    let m : is_minute c.args.utc ≡ false = sym (rw (same64 c.ranges.utc) at c.is_minute.ensures) ∙ c.if-not-is_minute.true in
    record { row_after = minute_refused _ _ _ _ (analysed_text c.analyse.ensures c.in_ok-analysis.was) (sym c.is_table.ensures ∙ c.if-not-is_table.false) m; filled_within = omega arith }

pub row_length-requires : goal.row_length-requires
row_length-requires c = inputs_limited (analysed_text c.analyse.ensures c.in_ok-analysis.was)

pub returns-then-row-row_length : goal.returns-then-row-row_length
returns-then-row-row_length c =
    let m : is_minute c.args.utc ≡ true = sym (rw (same64 c.ranges.utc) at c.is_minute.ensures) ∙ c.if-not-is_minute.false in
    record {
      row_after = length_refused _ _ _ _ (analysed_text c.analyse.ensures c.in_ok-analysis.was) (sym c.is_table.ensures ∙ c.if-not-is_table.false) m (λ e. omega (arith, c.if-row-row_length.true, e, c.row_length.ensures));
      filled_within = omega arith;
    }

pub slice_bounds-fill_row-end : goal.slice_bounds-fill_row-end
slice_bounds-fill_row-end c = omega (arith, c.if-row-row_length.false, c.row_length.ensures, row_few c.in_ok-analysis.analysis.inputs c.in_ok-analysis.analysis.timers)

pub slice_bounds-fill_row-end-2 : goal.slice_bounds-fill_row-end-2
slice_bounds-fill_row-end-2 c = sym (front_length _ c.in_ok-analysis.analysis.inputs c.in_ok-analysis.analysis.timers (c.if-row-row_length.false ∙ c.row_length.ensures))

pub fill_row-requires : goal.fill_row-requires
fill_row-requires c =
    let d = analysed_text c.analyse.ensures c.in_ok-analysis.was in
    let m : is_minute c.args.utc ≡ true = sym (rw (same64 c.ranges.utc) at c.is_minute.ensures) ∙ c.if-not-is_minute.false in
    let k = front_length c.args.row.now c.in_ok-analysis.analysis.inputs c.in_ok-analysis.analysis.timers (c.if-row-row_length.false ∙ c.row_length.ensures) in (
      record { in_starts = omega (arith, k, inputs_limited d, c.requires.in_starts, c.analyse.auto.starts); in_ends = omega (arith, k, inputs_limited d, c.requires.in_ends, c.analyse.auto.ends) },
      table_small _ (sym c.is_table.ensures ∙ c.if-not-is_table.false),
      rw (same64 c.ranges.utc) (minute_fits c.args.utc m),
    )

pub returns : goal.returns
returns c =
    let m : is_minute c.args.utc ≡ true = sym (rw (same64 c.ranges.utc) at c.is_minute.ensures) ∙ c.if-not-is_minute.false in
    record {
      row_after = all_filled _ _ _ _ (analysed_text c.analyse.ensures c.in_ok-analysis.was) (sym c.is_table.ensures ∙ c.if-not-is_table.false) m _ (c.if-row-row_length.false ∙ c.row_length.ensures) (rw (same64 c.ranges.utc) at c.fill_row.ensures);
      filled_within = tt;
    }

pub returns-in_err-analysis : goal.returns-in_err-analysis
returns-in_err-analysis c =
    let both = text_refused _ _ _ _ _ (analysed_refused c.analyse.ensures c.in_err-analysis.was) in
    rw (refused_as c.from_residual.ensures) (record { row_after = both.0; filled_within = both.1 })
