-- How far the functions over chunks and lines go: for who indexes with their answers. Assumes nothing.
use mathlib.Core.Path.{◌≡◌, refl}
use mathlib.Core.Bool.{Bool, true, false, cond}
use mathlib.Core.List.{List, [], ◌∷◌}
use Prim.Native.Nat.{ℕ, suc, ◌+◌, ◌≤◌, ◌<◌}
use native.Mathlib.Omega.{arith}
use lib.ListN.{length}
use Rattle.trace_text.specs.declared.Stage.{Stage}
use Rattle.trace_text.specs.declared.Line.{Line}
use Rattle.trace_text.specs.declared.Line.TheVariants.{Start, Wanted, Minus, Number, NoRow}
use Rattle.trace_text.specs.Inner.Stages.{stage_after, is_rows, bytes_before, counts, count_of}
use Rattle.trace_text.proofs.Lines.{counted}

-- no row of over 65 numbers is handed to scan
pub count_within : (s : Line) → count_of s ≤ 65
unfolding count_of
count_within Start = omega arith
count_within (Wanted n) = omega arith
count_within (Minus n) = omega arith
count_within (Number n negative v) = by (counts n negative v) (counted n negative v) where
  by : (t : Bool) → (t ≡ true → n < 64) → cond t (n + 1) 65 ≤ 65
  by true h = let g = h refl in omega arith
  by false h = omega arith
count_within NoRow = omega arith

-- the rows begin within the chunk
pub rows-within : (stage : Stage) (l : List ℕ) → bytes_before stage l ≤ length l
unfolding bytes_before
rows-within stage [] = omega arith
rows-within stage (b ∷ l) = by (rows-within (stage_after stage b) l) (is_rows stage) where
  by : bytes_before (stage_after stage b) l ≤ length l → (t : Bool) → cond t 0 (suc (bytes_before (stage_after stage b) l)) ≤ suc (length l)
  by h true = omega arith
  by h false = omega arith
