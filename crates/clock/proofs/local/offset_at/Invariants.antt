-- The entries that are left give the offset, with `held` before them.
use Rattle.std.proofs.Common.{◌≡◌}
use Rattle.std.specs.Slice.Iter.{chunks_exact_rest, chunks_exact_size}
use Rattle.clock.specs.Clock.{entries_of, offset_from, offset_at}
use Rattle.clock.proofs.local.offset_at.Given as goal

abbrev pub invariant-loop-entry : goal.invariant-loop-entry
invariant-loop-entry l =
    (chunks_exact_size l.entry-iterator ≡ 2) × (offset_from l.held (entries_of (chunks_exact_rest l.entry-iterator)) l.utc ≡ offset_at (entries_of l.table) l.utc)
