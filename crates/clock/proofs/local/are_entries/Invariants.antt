-- The entries that are left decide.
use Rattle.std.proofs.Common.{◌≡◌, negsuc}
use Rattle.std.specs.Slice.Iter.{chunks_exact_rest, chunks_exact_size}
use Rattle.clock.specs.Clock.{entries_of, entries_fit}
use Rattle.clock.proofs.local.are_entries.Given as goal

abbrev pub invariant-loop-entry : goal.invariant-loop-entry
invariant-loop-entry l =
    (chunks_exact_size l.entry-iterator ≡ 2) × (entries_fit l.last (entries_of (chunks_exact_rest l.entry-iterator)) ≡ entries_fit (negsuc 0) (entries_of l.table))
