-- Standard input that is split byte by byte comes to the text and the rows that Input says. Assumes nothing.
use mathlib.Core.Path.{◌≡◌, refl, sym, ap, subst, ◌∙◌}
use mathlib.Core.Bool.{Bool, true, false, true≢false, cond}
use mathlib.Core.List.{List, [], ◌∷◌, ◌++◌, map}
use Prim.Native.Nat.{ℕ, ◌+◌, ◌≤◌, ◌<◌}
use native.Mathlib.Omega.{arith}
use lib.Dec.{eqb, leb}
use lib.ListN.{length, take, drop, length-take}
use lib.Seq.{take_all}
use borrow.Author.Tests.{eqb-true}
use Rattle.lexer.specs.Bytes.{same_bytes}
use Rattle.lexer.specs.Lexer.{is_digit}
use Rattle.trace_text.specs.declared.Stage.{Stage}
use Rattle.trace_text.specs.declared.Stage.TheVariants.{LineStart, InLine, Hash}
use Rattle.trace_text.specs.declared.Line.{Line}
use Rattle.trace_text.specs.declared.Line.TheVariants.{Start, Wanted, Minus, Number, NoRow}
use Rattle.trace_text.specs.Input.{before, lines_of, bare, is_hash_line, text_in, text_of, rows_in, row_lines}
use Rattle.trace_text.specs.Inner.Stages.{stage_after, text_after, text_over, bytes_before, is_begun, counts, longer_by, digit_after, number_begins, line_after}
use Rattle.trace_text.proofs.Lines.{bytes_in, is_ended, line_over}
use Rattle.trace_text.proofs.Chunks.{text_rows, none_before}

-- ---- a byte as the splitter sees it

data Byte : ℕ → Type 0 where
  lf : Byte 10
  hash : Byte 35
  other : (b : ℕ) → eqb b 10 ≡ false → eqb b 35 ≡ false → Byte b

byte : (b : ℕ) → Byte b
byte b = by (eqb b 10) (eqb b 35) refl refl where
  by : (s t : Bool) → eqb b 10 ≡ s → eqb b 35 ≡ t → Byte b
  by true t e f = subst Byte (sym (eqb-true b 10 e)) lf
  by false true e f = subst Byte (sym (eqb-true b 35 f)) hash
  by false false e f = other b e f

-- ---- the text

-- the text of lines in the first of which a byte was read before
abbrev tail_in : List (List ℕ) → List ℕ
tail_in [] = []
tail_in (line ∷ lines) = line ++ text_in lines

tail_byte : (b : ℕ) (lines : List (List ℕ)) → tail_in (before b lines) ≡ b ∷ tail_in lines
unfolding text_in
tail_byte b [] = refl
tail_byte b (line ∷ lines) = refl

-- a line that begins with another byte than `#`, or goes on behind it
start_byte : (b : ℕ) (lines : List (List ℕ)) → eqb b 10 ≡ false → eqb b 35 ≡ false → text_in (before b lines) ≡ b ∷ tail_in lines
unfolding text_in is_hash_line bare same_bytes
start_byte b [] e f = rw (e, f)
start_byte b (line ∷ lines) e f = rw (e, f)

hash_byte : (b : ℕ) (lines : List (List ℕ)) → eqb b 10 ≡ false → text_in (before 35 (before b lines)) ≡ 35 ∷ b ∷ tail_in lines
unfolding text_in is_hash_line bare same_bytes
hash_byte b [] e = rw e
hash_byte b (line ∷ lines) e = rw e

-- what the three stages of the text come to
record Texts (l : List ℕ) : Type 0 where
  start : text_over LineStart l ≡ text_in (lines_of l)
  inside : text_over InLine l ≡ tail_in (lines_of l)
  held : text_over Hash l ≡ text_in (before 35 (lines_of l))

texts_byte : {b : ℕ} (l : List ℕ) → Byte b → Texts l → Texts (b ∷ l)
unfolding text_over text_after stage_after lines_of text_in is_hash_line bare same_bytes
texts_byte l lf t = record {
  start = ap (λ (x : List ℕ). 10 ∷ x) t.start;
  inside = ap (λ (x : List ℕ). 10 ∷ x) t.start;
  held = text_rows l;
}
texts_byte l hash t = record {
  start = t.held;
  inside = ap (λ (x : List ℕ). 35 ∷ x) t.inside ∙ sym (tail_byte 35 (lines_of l));
  held = ap (λ (x : List ℕ). 35 ∷ 35 ∷ x) t.inside ∙ sym (hash_byte 35 (lines_of l) refl);
}
texts_byte l (other b e f) t = record {
  start = rw (e, f) (ap (λ (x : List ℕ). b ∷ x) t.inside ∙ sym (start_byte b (lines_of l) e f));
  inside = rw e (ap (λ (x : List ℕ). b ∷ x) t.inside ∙ sym (tail_byte b (lines_of l)));
  held = rw e (ap (λ (x : List ℕ). 35 ∷ b ∷ x) t.inside ∙ sym (hash_byte b (lines_of l) e));
}

texts : (l : List ℕ) → Texts l
unfolding text_over lines_of text_in is_hash_line bare same_bytes
texts [] = record { start = refl; inside = refl; held = refl }
texts (b ∷ l) = texts_byte l (byte b) (texts l)

-- the bytes stored are the text
pub text_split : (input : List ℕ) → text_over LineStart input ≡ text_of input
unfolding text_of
text_split input = (texts input).start

-- a buffer of 32,769 bytes shows whether the text is over its limit, and holds all of one that is not
pub text_seen : (text : List ℕ) → length text ≤ 32768 → take 32769 text ≡ text
text_seen text h = take_all 32769 text (omega arith)

pub text_over_lem : (text : List ℕ) → 32768 < length text → 32768 < length (take 32769 text)
text_over_lem text h = rw length-take (omega arith)

-- ---- the rows

-- the lines behind the line `#`
abbrev left : Stage → List ℕ → List (List ℕ)
left stage l = map bare (lines_of (drop (bytes_before stage l) l))

abbrev rows_tail : List (List ℕ) → List (List ℕ)
rows_tail [] = []
rows_tail (line ∷ lines) = rows_in lines

rows_tail_byte : (b : ℕ) (lines : List (List ℕ)) → rows_tail (before b lines) ≡ rows_tail lines
unfolding rows_in
rows_tail_byte b [] = refl
rows_tail_byte b (line ∷ lines) = refl

rows_start_byte : (b : ℕ) (lines : List (List ℕ)) → eqb b 10 ≡ false → eqb b 35 ≡ false → rows_in (before b lines) ≡ rows_tail lines
unfolding rows_in is_hash_line bare same_bytes
rows_start_byte b [] e f = rw (e, f)
rows_start_byte b (line ∷ lines) e f = rw (e, f)

rows_hash_byte : (b : ℕ) (lines : List (List ℕ)) → eqb b 10 ≡ false → rows_in (before 35 (before b lines)) ≡ rows_tail lines
unfolding rows_in is_hash_line bare same_bytes
rows_hash_byte b [] e = rw e
rows_hash_byte b (line ∷ lines) e = rw e

record Lefts (l : List ℕ) : Type 0 where
  start : left LineStart l ≡ rows_in (lines_of l)
  inside : left InLine l ≡ rows_tail (lines_of l)
  held : left Hash l ≡ rows_in (before 35 (lines_of l))

lefts_byte : {b : ℕ} (l : List ℕ) → Byte b → Lefts l → Lefts (b ∷ l)
unfolding bytes_before stage_after lines_of rows_in is_hash_line bare same_bytes
lefts_byte l lf t = record { start = t.start; inside = t.start; held = rw (none_before l) }
lefts_byte l hash t = record {
  start = t.held;
  inside = t.inside ∙ sym (rows_tail_byte 35 (lines_of l));
  held = t.inside ∙ sym (rows_hash_byte 35 (lines_of l) refl);
}
lefts_byte l (other b e f) t = record {
  start = rw (e, f) (t.inside ∙ sym (rows_start_byte b (lines_of l) e f));
  inside = rw e (t.inside ∙ sym (rows_tail_byte b (lines_of l)));
  held = rw e (t.inside ∙ sym (rows_hash_byte b (lines_of l) e));
}

lefts : (l : List ℕ) → Lefts l
unfolding bytes_before lines_of rows_in is_hash_line bare same_bytes
lefts [] = record { start = refl; inside = refl; held = refl }
lefts (b ∷ l) = lefts_byte l (byte b) (lefts l)

-- the rows are the lines of what stands behind the bytes that the splitter takes
pub rows_split : (input : List ℕ) → map bare (lines_of (drop (bytes_before LineStart input) input)) ≡ row_lines input
unfolding row_lines
rows_split input = (lefts input).start

-- ---- the lines of the rows, read chunk by chunk

map_before : (b : ℕ) (lines : List (List ℕ)) (first : List ℕ) (more : List (List ℕ)) → eqb b 10 ≡ false → map bare lines ≡ first ∷ more
    → map bare (before b lines) ≡ (b ∷ first) ∷ more
unfolding bare
map_before b [] first more e h = cc
map_before b (line ∷ lines) first more e h = rw e (let p : bare line ≡ first = cc in let q : map bare lines ≡ more = cc in cc)

-- a line that LF ends, and the lines behind it
pub line_ended : (l : List ℕ) → is_ended l ≡ true → map bare (lines_of l) ≡ bare l ∷ map bare (lines_of (drop (bytes_in l) l))
unfolding is_ended bytes_in lines_of bare
line_ended [] e = cc
line_ended (b ∷ l) e = by (eqb b 10) refl (line_ended l) where
  by : (t : Bool) → eqb b 10 ≡ t → (is_ended l ≡ true → map bare (lines_of l) ≡ bare l ∷ map bare (lines_of (drop (bytes_in l) l)))
      → map bare (lines_of (b ∷ l)) ≡ bare (b ∷ l) ∷ map bare (lines_of (drop (bytes_in (b ∷ l)) (b ∷ l)))
  by true f h = rw f
  by false f h = rw f (map_before b (lines_of l) (bare l) _ f (h (rw f at e)))

-- a chunk without LF
open_cons : (b : ℕ) (l : List ℕ) → is_ended (b ∷ l) ≡ false → (eqb b 10 ≡ false) × (is_ended l ≡ false)
unfolding is_ended
open_cons b l e = by (eqb b 10) refl where
  by : (t : Bool) → eqb b 10 ≡ t → (eqb b 10 ≡ false) × (is_ended l ≡ false)
  by true f = absurd (true≢false (rw f at e))
  by false f = (f, rw f at e)

ended_cons : (b : ℕ) (l : List ℕ) → eqb b 10 ≡ false → is_ended (b ∷ l) ≡ is_ended l
unfolding is_ended
ended_cons b l e = rw e

-- a last line without LF. (Nothing after the last LF is no line: lines_of [] is [].)
pub line-open : (b : ℕ) (l : List ℕ) → is_ended (b ∷ l) ≡ false → map bare (lines_of (b ∷ l)) ≡ (b ∷ l) ∷ []
unfolding lines_of bare
line-open b [] e = let o = (open_cons b [] e).0 in rw (o, o)
line-open b (x ∷ l) e =
    let o = open_cons b (x ∷ l) e in
    rw o.0 (map_before b (lines_of (x ∷ l)) (x ∷ l) [] o.0 (line-open x l o.1))

-- a line that goes on in the next chunk
pub open_bare : (a b : List ℕ) → is_ended a ≡ false → bare (a ++ b) ≡ a ++ bare b
unfolding bare
open_bare [] b e = refl
open_bare (x ∷ a) b e = let o = open_cons x a e in rw o.0 (ap (λ (l : List ℕ). x ∷ l) (open_bare a b o.1))

pub open_bytes : (a b : List ℕ) → is_ended a ≡ false → bytes_in (a ++ b) ≡ length a + bytes_in b
unfolding bytes_in
open_bytes [] b e = omega arith
open_bytes (x ∷ a) b e = let o = open_cons x a e in let h = open_bytes a b o.1 in rw o.0 (omega arith)

pub open_ended : (a b : List ℕ) → is_ended a ≡ false → is_ended (a ++ b) ≡ is_ended b
open_ended [] b e = refl
open_ended (x ∷ a) b e = let o = open_cons x a e in ended_cons x (a ++ b) o.0 ∙ open_ended a b o.1

-- a state is Start just where no byte of the line was read
begun_cond : (t : Bool) (a b : Line) → is_begun a ≡ true → is_begun b ≡ true → is_begun (cond t a b) ≡ true
begun_cond true a b p q = p
begun_cond false a b p q = q

digit_begun : (n : ℕ) (negative : Bool) (v b : ℕ) → is_begun (digit_after n negative v b) ≡ true
unfolding digit_after longer_by
digit_begun n negative v b = begun_cond (is_digit b) _ _ (begun_cond (leb v 214748364) _ _ refl refl) refl

after_begun : (s : Line) (b : ℕ) → is_begun (line_after s b) ≡ true
unfolding line_after number_begins
after_begun Start b = begun_cond (eqb b 45) _ _ refl (digit_begun 0 false 0 b)
after_begun (Wanted n) b = begun_cond (eqb b 45) _ _ refl (digit_begun n false 0 b)
after_begun (Minus n) b = digit_begun n true 0 b
after_begun (Number n negative v) b = begun_cond (eqb b 32) _ _ (begun_cond (counts n negative v) _ _ refl refl) (digit_begun n negative v b)
after_begun NoRow b = refl

begun_over : (s : Line) (l : List ℕ) → is_begun s ≡ true → is_begun (line_over s l) ≡ true
unfolding line_over
begun_over s [] e = e
begun_over s (b ∷ l) e = begun_over (line_after s b) l (after_begun s b)

pub line_begun : (b : ℕ) (l : List ℕ) → is_begun (line_over Start (b ∷ l)) ≡ true
unfolding line_over
line_begun b l = begun_over (line_after Start b) l (after_begun Start b)
