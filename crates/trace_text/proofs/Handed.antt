-- The rows that are handed to scan, one after the other, are those of the lines behind the line `#`. Assumes nothing.
use mathlib.Core.Path.{◌≡◌, refl, sym, ap, ◌∙◌}
use mathlib.Core.Bool.{Bool, true, false, cond}
use mathlib.Core.List.{List, [], ◌∷◌, ◌++◌, map, append-nil}
use mathlib.Core.Option.{Option, none, some}
use Prim.Native.Nat.{ℕ, ◌+◌, ◌≤◌}
use native.Mathlib.Omega.{arith}
use lib.Dec.{eqb, leb}
use lib.IntN.{ℤ}
use lib.ListN.{length, drop, length-append}
use lib.Seq.{sets-eq, length-sets, take_at, drop_at, append_snoc}
use borrow.Author.Tests.{leb-true, eqb-true}
use Rattle.trace_text.specs.declared.Line.{Line}
use Rattle.trace_text.specs.declared.Line.TheVariants.{Start}
use Rattle.trace_text.specs.declared.Stage.TheVariants.{LineStart}
use Rattle.trace_text.specs.Input.{lines_of, bare, row_lines}
use Rattle.trace_text.specs.Row.{row_of, long_row, handed, handed_of}
use Rattle.trace_text.specs.Inner.Stages.{bytes_before, line_after, cells_after, cells_of, handed_row, is_begun}
use Rattle.trace_text.proofs.Lines.{line_over, cells_over, is_ended, bytes_in, line_append, cells_append, over_cons, cells-cons, over-nil, cells-nil}
use Rattle.trace_text.proofs.Rows.{row_ends, long_length}
use Rattle.trace_text.proofs.Splitting.{rows_split, line_ended, line-open, open_bare, open_bytes, open_ended, line_begun}

-- what is handed to scan while bytes are read, line by line, and at the end of the input for a line that has begun
unfoldable pub rows_read : Line → List ℤ → List ℕ → List (List ℤ)
rows_read s cells [] = cond (is_begun s) (handed_row s cells ∷ []) []
rows_read s cells (b ∷ l) =
    let ended = handed_row s cells ∷ rows_read Start (cells_of s cells) l in
    let more = rows_read (line_after s b) (cells_after s cells b) l in
    cond (eqb b 10) ended more

-- ---- a line that has ended

handed_length : (l : List ℕ) → length (handed_of l) ≤ 65
unfolding handed_of
handed_length l = by (row_of l) where
  chosen : (zs : List ℤ) (t : Bool) → (t ≡ true → length zs ≤ 64) → length (cond t zs long_row) ≤ 65
  chosen zs true h = let g = h refl in omega arith
  chosen zs false h = rw long_length (omega arith)

  by : (o : Option (List ℤ)) → length (handed o) ≤ 65
  by none = rw long_length (omega arith)
  by (some zs) = chosen zs (leb (length zs) 64) (leb-true (length zs) 64)

module _ (cells : List ℤ) (room : 65 ≤ length cells) (l : List ℕ) where
  row_is : handed_row (line_over Start l) (cells_over Start cells l) ≡ handed_of l
  row_is =
      let e = row_ends cells l in
      let h = handed_length l in
      rw (e.0, e.1, sets-eq (handed_of l) cells 0 (omega arith)) (take_at (handed_of l) (drop (0 + length (handed_of l)) cells) (length (handed_of l)) refl)

  cells_are : 65 ≤ length (cells_of (line_over Start l) (cells_over Start cells l))
  cells_are = rw ((row_ends cells l).1, length-sets cells 0 (handed_of l)) room

-- ---- lines

-- a line p without LF, then LF
lines_ended : (p l : List ℕ) → is_ended p ≡ false → map bare (lines_of (p ++ 10 ∷ l)) ≡ p ∷ map bare (lines_of l)
unfolding bare bytes_in is_ended
lines_ended p l e =
    let b : bare (p ++ 10 ∷ l) ≡ p = open_bare p (10 ∷ l) e ∙ append-nil p in
    let k : length (p ++ (10 ∷ [])) ≡ bytes_in (p ++ 10 ∷ l) = length-append p (10 ∷ []) ∙ sym (open_bytes p (10 ∷ l) e) in
    let d : drop (bytes_in (p ++ 10 ∷ l)) (p ++ 10 ∷ l) ≡ l = ap (drop (bytes_in (p ++ 10 ∷ l))) (sym (append_snoc p 10 l)) ∙ drop_at (p ++ (10 ∷ [])) l (bytes_in (p ++ 10 ∷ l)) k in
    line_ended (p ++ 10 ∷ l) (open_ended p (10 ∷ l) e) ∙ (rw (b, d))

open_more : (p : List ℕ) (b : ℕ) → is_ended p ≡ false → eqb b 10 ≡ false → is_ended (p ++ (b ∷ [])) ≡ false
unfolding is_ended
open_more p b e f = open_ended p (b ∷ []) e ∙ (rw f)

none_ended : is_ended [] ≡ false
unfolding is_ended
none_ended = refl

no_lines : lines_of [] ≡ []
unfolding lines_of
no_lines = refl

-- the bytes p of a line have been read, and l is left
rows-open : (l : List ℕ) (cells : List ℤ) (p : List ℕ) → 65 ≤ length cells → is_ended p ≡ false
    → rows_read (line_over Start p) (cells_over Start cells p) l ≡ map handed_of (map bare (lines_of (p ++ l)))
unfolding rows_read
rows-open [] cells p room e = at_end_lem p e where
  at_end_lem : (p : List ℕ) → is_ended p ≡ false → rows_read (line_over Start p) (cells_over Start cells p) [] ≡ map handed_of (map bare (lines_of (p ++ [])))
  at_end_lem [] e = rw (over-nil Start, no_lines)
  at_end_lem (b ∷ p) e = rw (line_begun b p, row_is cells room (b ∷ p), append-nil p, line-open b p e)
rows-open (b ∷ l) cells p room e = by (eqb b 10) refl (rows-open l) where
  by : (t : Bool) → eqb b 10 ≡ t
      → ((cells : List ℤ) (p : List ℕ) → 65 ≤ length cells → is_ended p ≡ false → rows_read (line_over Start p) (cells_over Start cells p) l ≡ map handed_of (map bare (lines_of (p ++ l))))
      → rows_read (line_over Start p) (cells_over Start cells p) (b ∷ l) ≡ map handed_of (map bare (lines_of (p ++ b ∷ l)))
  by true f go =
      let all = cells_of (line_over Start p) (cells_over Start cells p) in
      let rest : rows_read Start all l ≡ map handed_of (map bare (lines_of l)) = rw (over-nil Start, cells-nil Start all) at (go all [] (cells_are cells room p) none_ended) in
      rw (f, eqb-true b 10 f, row_is cells room p, lines_ended p l e) (ap (λ (rows : List (List ℤ)). handed_of p ∷ rows) rest)
  by false f go =
      let s : line_over Start (p ++ (b ∷ [])) ≡ line_after (line_over Start p) b = line_append Start p (b ∷ []) ∙ over_cons (line_over Start p) b [] ∙ over-nil _ in
      let c : cells_over Start cells (p ++ (b ∷ [])) ≡ cells_after (line_over Start p) (cells_over Start cells p) b =
      cells_append Start cells p (b ∷ []) ∙ cells-cons (line_over Start p) (cells_over Start cells p) b [] ∙ cells-nil _ _
      in
      rw f (rw (s, c, append_snoc p b l) at (go cells (p ++ (b ∷ [])) room (open_more p b e f)))

-- the rows of standard input, handed over one after the other through any 65 cells
pub rows_handed : (input : List ℕ) (cells : List ℤ) → 65 ≤ length cells
    → rows_read Start cells (drop (bytes_before LineStart input) input) ≡ map handed_of (row_lines input)
rows_handed input cells room =
    (rw (over-nil Start, cells-nil Start cells) at (rows-open (drop (bytes_before LineStart input) input) cells [] room none_ended))
    ∙ ap (map handed_of) (rows_split input)
