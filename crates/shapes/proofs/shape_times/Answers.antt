-- The header, then the limits of its code's timers. Assumes nothing.
use Rattle.std.proofs.Common.{ap, ◌∙◌, ℕ, List, length, take, arith}
use Rattle.bytecode.specs.Parts.{limits_from}
use Rattle.bytecode.proofs.SoundHeader.{header_not_broken}
use Rattle.leb128.proofs.Stores.{rest_of}
use Rattle.shapes.proofs.Measuring.{table_long, table_zeros, same_times, limits_are, limits_fit, timed_measures}
use Rattle.shapes.proofs.shape_times.Goals as goal

pub slice_bounds-measure_times-end : goal.slice_bounds-measure_times-end
slice_bounds-measure_times-end c = omega (arith, c.in-Ok.ensures.so.extends.few, table_long 64 _ c.requires.1)

pub measure_times-t-requires : goal.measure_times-t-requires
measure_times-t-requires c =
    let h = c.in-Ok.ensures.so in
    let n = c.in-Ok.names in
    let table = c.args.table.now in
    let z = table_zeros n table h.extends.few c.requires.1 in
    record {
      table_len_bound = omega (arith, h.extends.few, table_long n _ z);
      by_index = rw (rest_of c.args.image.now c.in-Ok.place) (limits_fit c.args.image.now h c.requires.0 (take n table) z);
    }

pub returns-in-Err : goal.returns-in-Err
returns-in-Err c = header_not_broken c.args.image.now c.requires.0 _ c.in-Err.ensures.so.0

pub returns-in-Ok : goal.returns-in-Ok
returns-in-Ok c =
    let h = c.in-Ok.ensures.so in
    let n = c.in-Ok.names in
    let table = c.args.table.now in
    let z = table_zeros n table h.extends.few c.requires.1 in
    let e = ap (λ (code : List ℕ). limits_from code (length code) 0 (take n table)) (rest_of c.args.image.now c.in-Ok.place) ∙ limits_are c.args.image.now h c.requires.0 (take n table) z in
    record { so = timed_measures c.args.image.now h c.requires.0 (same_times e c.measure_times-t.ensures) }
