-- A line read byte by byte. Assumes nothing.
use mathlib.Core.Path.{◌≡◌, refl}
use mathlib.Core.Bool.{Bool, true, false, cond}
use mathlib.Core.List.{List, [], ◌∷◌, ◌++◌}
use Prim.Native.Nat.{ℕ, suc, ◌<◌}
use lib.Dec.{eqb, ltb}
use lib.IntN.{ℤ}
use borrow.Author.Tests.{ltb-true}
use Rattle.arith.proofs.Basics.{and_both}
use Rattle.trace_text.specs.declared.Line.{Line}
use Rattle.trace_text.specs.Inner.Stages.{line_after, cells_after, in_word32, counts, cells_end}

-- ---- the bytes of a line, and of one that may go on

unfoldable pub line_over : Line → List ℕ → Line
line_over s [] = s
line_over s (b ∷ line) = line_over (line_after s b) line

unfoldable pub cells_over : Line → List ℤ → List ℕ → List ℤ
cells_over s cells [] = cells
cells_over s cells (b ∷ line) = cells_over (line_after s b) (cells_after s cells b) line

-- the bytes of the line, its LF included
unfoldable pub bytes_in : List ℕ → ℕ
bytes_in [] = 0
bytes_in (b ∷ line) = let more = suc (bytes_in line) in cond (eqb b 10) 1 more

-- LF ends it
unfoldable pub is_ended : List ℕ → Bool
is_ended [] = false
is_ended (b ∷ line) = let more = is_ended line in cond (eqb b 10) true more

-- ---- bytes read one after the other: what a ++ b comes to is what b comes to after a

pub line_append : (s : Line) (a b : List ℕ) → line_over s (a ++ b) ≡ line_over (line_over s a) b
unfolding line_over
line_append s [] b = refl
line_append s (x ∷ a) b = line_append (line_after s x) a b

pub cells_append : (s : Line) (cells : List ℤ) (a b : List ℕ) → cells_over s cells (a ++ b) ≡ cells_over (line_over s a) (cells_over s cells a) b
unfolding line_over cells_over
cells_append s cells [] b = refl
cells_append s cells (x ∷ a) b = cells_append (line_after s x) (cells_after s cells x) a b

pub over_cons : (s : Line) (b : ℕ) (l : List ℕ) → line_over s (b ∷ l) ≡ line_over (line_after s b) l
unfolding line_over
over_cons s b l = refl

pub cells-cons : (s : Line) (cells : List ℤ) (b : ℕ) (l : List ℕ) → cells_over s cells (b ∷ l) ≡ cells_over (line_after s b) (cells_after s cells b) l
unfolding cells_over
cells-cons s cells b l = refl

pub over-nil : (s : Line) → line_over s [] ≡ s
unfolding line_over
over-nil s = refl

pub cells-nil : (s : Line) (cells : List ℤ) → cells_over s cells [] ≡ cells
unfolding cells_over
cells-nil s cells = refl

-- ---- the number that ends

pub counted : (n : ℕ) (negative : Bool) (v : ℕ) → counts n negative v ≡ true → n < 64
counted n negative v e = ltb-true n 64 (and_both (in_word32 negative v) (ltb n 64) e).1

pub not_counted : (n : ℕ) (negative : Bool) (v : ℕ) (cells : List ℤ) → counts n negative v ≡ false → cells_end n negative v cells ≡ cells
unfolding cells_end
not_counted n negative v cells e = rw e
