-- The entries that are left decide, and their offsets are small.
use Rattle.std.proofs.Common.{◌≡◌}
use Rattle.std.specs.Slice.Iter.{chunks_exact_rest, chunks_exact_size}
use Rattle.clock.specs.Clock.{entries_of, repeats_in, is_again}
use Rattle.clock.specs.Inner.Numbers.{SmallNumbers}
use Rattle.clock.proofs.local.again_of.Given as goal

abbrev pub invariant-loop-entry : goal.invariant-loop-entry
invariant-loop-entry l =
    (chunks_exact_size l.entry-iterator ≡ 2)
    × SmallNumbers (entries_of (chunks_exact_rest l.entry-iterator))
    × (repeats_in (entries_of l.table) l.utc (entries_of (chunks_exact_rest l.entry-iterator)) ≡ is_again (entries_of l.table) l.utc)
