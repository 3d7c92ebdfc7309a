-- `lifecycle::begin_code` meets its contract. Assumes nothing.
use mathlib.Core.Path.{sym}
use native.Mathlib.Omega.{arith}
use lib.ListN.{length}
use lib.Seq.{length-take-le}
use borrow.Author.Rules.{rules}
use Rattle.lifecycle.proofs.begin_code.Statement.{statement}
use Rattle.lifecycle.proofs.begin_code.Tie as tie

slice-aggregate-keep-start : tie.Need-slice_bounds-keep_start-end
slice-aggregate-keep-start c = sym (length-take-le (length c.args.state.now) c.args.low.now (omega (arith, c.requires.starts, c.requires.lows)))

slice-aggregate-keep-start-2 : tie.Need-slice_bounds-keep_start-end-2
slice-aggregate-keep-start-2 c = sym (length-take-le (length c.args.state.now) c.args.high.now (omega (arith, c.requires.starts, c.requires.highs)))

slice-aggregate-keep-start-3 : tie.Need-slice_bounds-keep_start-end-3
slice-aggregate-keep-start-3 c = sym (length-take-le (length c.args.state.now) c.args.work.now (omega (arith, c.requires.starts, c.requires.copies)))

keep-start-requires : tie.Need-keep_start-requires
keep-start-requires c κs =
    let y = c.requires in
    let n = length c.args.state.now in
    record {
      cells = y.cells;
      images = y.images;
      bases = y.bases;
      sizes = y.starts;
      few = y.few;
      short = y.short;
      starts = y.starts;
      lows = omega (arith, length-take-le n c.args.low.now (omega (arith, y.starts, y.lows)), y.starts);
      highs = omega (arith, length-take-le n c.args.high.now (omega (arith, y.starts, y.highs)), y.starts);
      current = omega (arith, length-take-le n c.args.work.now (omega (arith, y.starts, y.copies)), y.starts);
    }

pub begin_code_spec : {M : Type 1} → statement M
begin_code_spec =
    tie.close
    (tie.spec slice-aggregate-keep-start slice-aggregate-keep-start-2 slice-aggregate-keep-start-3 keep-start-requires (λ c. search rules)
    (λ c. search rules))
