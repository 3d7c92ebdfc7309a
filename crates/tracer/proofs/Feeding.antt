-- Bytes fed one after the other: calls, rows and the text. Assumes nothing.
use mathlib.Core.Path.{◌≡◌, refl, sym, ap, ◌∙◌}
use mathlib.Core.Bool.{Bool, true, false, cond}
use mathlib.Core.List.{List, [], ◌∷◌, ◌++◌, append-nil, append_assoc}
use Prim.Native.Nat.{ℕ, zero, suc, ◌+◌, ◌≤◌}
use native.Mathlib.Omega.{arith}
use lib.Dec.{eqb}
use lib.IntN.{ℤ}
use lib.ListN.{length, take, drop, length-take}
use lib.Seq.{take_all}
use borrow.Author.Tests.{lt-ltb}
use Rattle.limits.specs.Answer.{Answer, accepted, refused}
use Rattle.semantics.specs.Program.{Program}
use Rattle.semantics.specs.Formula.{State}
use Rattle.grammar.specs.Parse.{program_of}
use Rattle.scan.specs.Services.{AfterScan, scan_of}
use Rattle.correctness.specs.TraceCorrect.{replies_of}
use Rattle.trace_text.specs.declared.Stage.{Stage}
use Rattle.trace_text.specs.declared.Stage.TheVariants.{LineStart, InLine, Hash, Rows}
use Rattle.trace_text.specs.declared.Line.{Line}
use Rattle.trace_text.specs.declared.Line.TheVariants.{Start}
use Rattle.trace_text.specs.Inner.Stages.{stage_after, text_after, text_over, is_rows, bytes_before, line_after, cells_after, cells_of, handed_row, is_begun}
use Rattle.trace_text.proofs.Chunks.{text_rows, none_before, before_cons}
use Rattle.trace_text.proofs.Handed.{rows_read}
use Rattle.tracer.specs.Printed.{opening, reply_lines}
use Rattle.tracer.specs.Session.{text_room, Session, in_text, in_rows, passed_over, if_text, if_rows, behind_text, next_number, scan_line, longer_text, after, put_by, fed_over, put_over, at_end}
use Rattle.tracer.specs.Calls.{Calls, ends, call}

-- ---- what a ++ b comes to is what b comes to after a

pub fed_append : (s : Session) (a b : List ℕ) → fed_over s (a ++ b) ≡ fed_over (fed_over s a) b
unfolding fed_over
fed_append s [] b = refl
fed_append s (x ∷ a) b = fed_append (after s x) a b

pub put_append : (s : Session) (a b : List ℕ) → put_over s (a ++ b) ≡ put_over s a ++ put_over (fed_over s a) b
unfolding put_over fed_over
put_append s [] b = refl
put_append s (x ∷ a) b = ap (λ (l : List ℕ). put_by s x ++ l) (put_append (after s x) a b) ∙ sym (append_assoc (put_by s x) (put_over (after s x) a) (put_over (fed_over (after s x) a) b))

-- all that is put out for an input
abbrev pub total : Session → List ℕ → List ℕ
total s l = put_over s l ++ at_end (fed_over s l)

pub calls_total : {s : Session} {input out : List ℕ} → Calls s input out → out ≡ total s input
unfolding fed_over put_over
calls_total ends = refl
calls_total (call {s} taken {left} {out} h) =
    ap (λ (l : List ℕ). put_over s taken ++ l) (calls_total h)
    ∙ sym (append_assoc (put_over s taken) (put_over (fed_over s taken) left) (at_end (fed_over (fed_over s taken) left)))
    ∙ sym (ap (λ (l : List ℕ). l ++ at_end (fed_over (fed_over s taken) left)) (put_append s taken left))
    ∙ ap (λ (x : Session). put_over s (taken ++ left) ++ at_end x) (sym (fed_append s taken left))

-- ---- rows

-- the lines of rows that are scanned one after the other, behind row number n
unfoldable pub scan_lines : List ℕ → ℕ → State → ℕ → List (List ℤ) → List ℕ
scan_lines image names s n [] = []
scan_lines image names s n (row ∷ rows) =
    let a = scan_of image s row in
    scan_line names (next_number n) a ++ scan_lines image names a.state (next_number n) rows

pub rows_total : (l : List ℕ) (image : List ℕ) (names : ℕ) (s : State) (line : Line) (cells : List ℤ) (n : ℕ) → total (in_rows image names s line cells n) l ≡ scan_lines image names s n (rows_read line cells l)
unfolding fed_over put_over at_end after put_by rows_read scan_lines
rows_total [] image names s line cells n = by (is_begun line) where
  by : (t : Bool) → cond t (scan_line names (next_number n) (scan_of image s (handed_row line cells))) [] ≡ scan_lines image names s n (cond t (handed_row line cells ∷ []) [])
  by true = sym (append-nil _)
  by false = refl
rows_total (b ∷ l) image names s line cells n = by (eqb b 10) (rows_total l) where
  a : AfterScan
  a = scan_of image s (handed_row line cells)

  next : Bool → Session
  next t = cond t (in_rows image names a.state Start (cells_of line cells) (next_number n)) (in_rows image names s (line_after line b) (cells_after line cells b) n)

  by : (t : Bool)
      → ((image : List ℕ) (names : ℕ) (s : State) (line : Line) (cells : List ℤ) (n : ℕ) → total (in_rows image names s line cells n) l ≡ scan_lines image names s n (rows_read line cells l))
      → (cond t (scan_line names (next_number n) a) [] ++ put_over (next t) l) ++ at_end (fed_over (next t) l)
      ≡ scan_lines image names s n (cond t (handed_row line cells ∷ rows_read Start (cells_of line cells) l) (rows_read (line_after line b) (cells_after line cells b) l))
  by true h =
      append_assoc (scan_line names (next_number n) a) (put_over (next true) l) (at_end (fed_over (next true) l))
      ∙ ap (λ (x : List ℕ). scan_line names (next_number n) a ++ x) (h image names a.state Start (cells_of line cells) (next_number n))
  by false h = h image names s (line_after line b) (cells_after line cells b) n

next_number_lem : (n : ℕ) → n + 1 ≤ 18446744073709551615 → next_number n ≡ n + 1
unfolding next_number
next_number_lem n h = rw (lt-ltb n 18446744073709551615 (omega arith))

-- their numbers count every row, as long as 64 bits hold the last
pub lines_replies : (rows : List (List ℤ)) (image : List ℕ) (names : ℕ) (s : State) (n : ℕ) → n + length rows ≤ 18446744073709551615
    → scan_lines image names s n rows ≡ reply_lines names (n + 1) (replies_of image s rows)
unfolding scan_lines
lines_replies [] image names s n h = refl
lines_replies (row ∷ rows) image names s n h =
    let e = next_number_lem n (omega arith) in
    rw e (ap (λ (x : List ℕ). scan_line names (n + 1) (scan_of image s row) ++ x) (lines_replies rows image names (scan_of image s row).state (n + 1) (omega arith)))

-- ---- a refused text

pub passed_total : (l : List ℕ) → total passed_over l ≡ []
unfolding fed_over put_over at_end after put_by
passed_total [] = refl
passed_total (b ∷ l) = passed_total l

-- ---- the text

take_cut : (n : ℕ) (a b : List ℕ) → take n (take n a ++ b) ≡ take n (a ++ b)
take_cut zero a b = refl
take_cut (suc n) [] b = refl
take_cut (suc n) (x ∷ a) b = ap (λ (l : List ℕ). x ∷ l) (take_cut n a b)

pub cut_within : (t : List ℕ) → length (take text_room t) ≤ text_room
cut_within t = rw length-take (omega arith)

-- the text with no byte more, and with the bytes behind the next one
pub text_cut : (stage : Stage) (t : List ℕ) → length t ≤ text_room → take text_room (t ++ text_over stage []) ≡ t
unfolding text_over
text_cut stage t n = ap (take text_room) (append-nil t) ∙ take_all text_room t n

pub cut_again : (b : ℕ) (l : List ℕ) (stage : Stage) (t : List ℕ)
    → take text_room (longer_text stage t b ++ text_over (stage_after stage b) l) ≡ take text_room (t ++ text_over stage (b ∷ l))
unfolding text_over
cut_again b l stage t =
    take_cut text_room (t ++ text_after stage b) (text_over (stage_after stage b) l) ∙ ap (take text_room) (append_assoc t (text_after stage b) (text_over (stage_after stage b) l))

no_rows : (a : Answer Program) (cells : List ℤ) → opening a ≡ opening a ++ total (behind_text a cells) []
unfolding fed_over put_over at_end
no_rows (refused number place) cells = sym (append-nil _)
no_rows (accepted p) cells = sym (append-nil _)

-- the opening of the whole text, then what the bytes behind the line `#` come to
abbrev TextFed : List ℕ → Type 0
TextFed l = (stage : Stage) (t : List ℕ) (cells : List ℤ) → is_rows stage ≡ false → length t ≤ text_room
    → total (in_text stage t cells) l
    ≡ opening (program_of (take text_room (t ++ text_over stage l))) ++ total (behind_text (program_of (take text_room (t ++ text_over stage l))) cells) (drop (bytes_before stage l) l)

-- behind a byte that leads to a stage
text_behind : (l : List ℕ) → TextFed l → (stage : Stage) (t : List ℕ) (cells : List ℤ) → length t ≤ text_room
    → (if_rows stage (opening (program_of t)) ++ put_over (if_text stage t cells (behind_text (program_of t) cells)) l) ++ at_end (fed_over (if_text stage t cells (behind_text (program_of t) cells)) l)
    ≡ opening (program_of (take text_room (t ++ text_over stage l))) ++ total (behind_text (program_of (take text_room (t ++ text_over stage l))) cells) (drop (bytes_before stage l) l)
text_behind l h LineStart t cells n = h LineStart t cells refl n
text_behind l h InLine t cells n = h InLine t cells refl n
text_behind l h Hash t cells n = h Hash t cells refl n
text_behind l h Rows t cells n =
    let e : take text_room (t ++ text_over Rows l) ≡ t = ap (λ (x : List ℕ). take text_room (t ++ x)) (text_rows l) ∙ ap (take text_room) (append-nil t) ∙ take_all text_room t n in
    rw (e, none_before l) (append_assoc (opening (program_of t)) (put_over (behind_text (program_of t) cells) l) (at_end (fed_over (behind_text (program_of t) cells) l)))

text_none : (stage : Stage) (t : List ℕ) (cells : List ℤ) → length t ≤ text_room
    → total (in_text stage t cells) []
    ≡ opening (program_of (take text_room (t ++ text_over stage []))) ++ total (behind_text (program_of (take text_room (t ++ text_over stage []))) cells) (drop (bytes_before stage []) [])
unfolding fed_over put_over at_end bytes_before
text_none stage t cells n = ap (λ (x : List ℕ). opening (program_of x)) (sym (text_cut stage t n)) ∙ no_rows (program_of (take text_room (t ++ text_over stage []))) cells

text_byte : (b : ℕ) (l : List ℕ) (stage : Stage) (t : List ℕ) (cells : List ℤ) (a : Answer Program) → is_rows stage ≡ false
    → (if_rows (stage_after stage b) (opening (program_of (longer_text stage t b))) ++ put_over (if_text (stage_after stage b) (longer_text stage t b) cells (behind_text (program_of (longer_text stage t b)) cells)) l) ++ at_end (fed_over (if_text (stage_after stage b) (longer_text stage t b) cells (behind_text (program_of (longer_text stage t b)) cells)) l)
    ≡ opening a ++ total (behind_text a cells) (drop (bytes_before (stage_after stage b) l) l)
    → total (in_text stage t cells) (b ∷ l) ≡ opening a ++ total (behind_text a cells) (drop (bytes_before stage (b ∷ l)) (b ∷ l))
unfolding fed_over put_over after put_by
text_byte b l stage t cells a e h = rw (before_cons stage b l e) h

pub text_total : (l : List ℕ) → TextFed l
text_total [] stage t cells e n = text_none stage t cells n
text_total (b ∷ l) stage t cells e n =
    rw (← (cut_again b l stage t))
    (text_byte b l stage t cells (program_of (take text_room (longer_text stage t b ++ text_over (stage_after stage b) l))) e
    (text_behind l (text_total l) (stage_after stage b) (longer_text stage t b) cells (cut_within (t ++ text_after stage b))))
