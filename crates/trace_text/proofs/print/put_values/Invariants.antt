-- The numbers that are left, put from here, make the whole, and those put have at most twelve bytes each.
use Rattle.std.proofs.Common.{◌+◌, ◌*◌, ◌≤◌, drop, length, map}
use Rattle.trace_text.specs.Output.{decimal_of, spaced}
use Rattle.trace_text.proofs.Puts.{Putting}
use Rattle.trace_text.proofs.print.put_values.Given as goal

abbrev pub invariant-loop-z : goal.invariant-loop-z
invariant-loop-z l =
    Putting l.initial.out l.initial.place (spaced (map decimal_of l.values)) l.out l.place (spaced (map decimal_of (drop l.z-index l.values)))
    × (length (spaced (map decimal_of l.values)) ≤ 12 * l.z-index + length (spaced (map decimal_of (drop l.z-index l.values))))
