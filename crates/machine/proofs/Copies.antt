-- A list written over the front of another. Assumes nothing.
use mathlib.Core.Path.{◌≡◌}
use mathlib.Core.List.{List, append-nil}
use Prim.Native.Nat.{◌≤◌}
use native.Mathlib.Omega.{arith}
use lib.IntN.{ℤ}
use lib.ListN.{length, length-append, length-drop}
use lib.Seq.{drop-length}
use Rattle.semantics.specs.ReferenceScan.{with_inputs}

-- the whole of a list over one as long
pub over_all : (from to : List ℤ) → length from ≡ length to → with_inputs to from ≡ from
over_all from to e = rw (e, drop-length to) (append-nil from)

pub length_over : (from to : List ℤ) → length from ≤ length to → length (with_inputs to from) ≡ length to
length_over from to h = simp (length-append, length-drop) (omega arith)
