-- Standard input split byte by byte, in chunks. Assumes nothing.
use mathlib.Core.Path.{◌≡◌, refl, sym, ◌∙◌}
use mathlib.Core.Bool.{Bool, true, false, false≢true}
use mathlib.Core.List.{List, [], ◌∷◌}
use Prim.Native.Nat.{ℕ, suc, ◌+◌, ◌≤◌, ◌<◌, max}
use native.Mathlib.Numerals.{add-one}
use native.Mathlib.Omega.{arith}
use lib.Dec.{leb}
use lib.ListN.{length, get_or, drop, drop_of_length-le}
use lib.Seq.{drop-cons}
use borrow.Author.Tests.{leb-true, leb-false}
use Rattle.trace_text.specs.declared.Stage.{Stage}
use Rattle.trace_text.specs.declared.Stage.TheVariants.{LineStart, InLine, Hash, Rows}
use Rattle.trace_text.specs.Output.{Put}
use Rattle.trace_text.specs.Inner.Stages.{stage_after, text_after, stage_over, text_over, is_rows, bytes_before}
use Rattle.trace_text.proofs.Puts.{Putting, putting_next, putting_done}

-- ---- past the line `#`

pub rows_of : (stage : Stage) → is_rows stage ≡ true → stage ≡ Rows
rows_of LineStart e = absurd (false≢true e)
rows_of InLine e = absurd (false≢true e)
rows_of Hash e = absurd (false≢true e)
rows_of Rows e = refl

pub stage_rows : (l : List ℕ) → stage_over Rows l ≡ Rows
unfolding stage_over stage_after
stage_rows [] = refl
stage_rows (b ∷ l) = stage_rows l

pub text_rows : (l : List ℕ) → text_over Rows l ≡ []
unfolding text_over text_after stage_after
text_rows [] = refl
text_rows (b ∷ l) = text_rows l

pub none_before : (l : List ℕ) → bytes_before Rows l ≡ 0
unfolding bytes_before
none_before [] = refl
none_before (b ∷ l) = refl

pub before_cons : (stage : Stage) (b : ℕ) (l : List ℕ) → is_rows stage ≡ false → bytes_before stage (b ∷ l) ≡ suc (bytes_before (stage_after stage b) l)
unfolding bytes_before
before_cons stage b l e = rw e

-- ---- a chunk

-- the bytes from `from` on, come to stage, text, p and i: what is left of them makes the whole
pub record Dividing (text₀ : List ℕ) (at : ℕ) (stage₀ : Stage) (chunk : List ℕ) (from : ℕ) (text : List ℕ) (p : ℕ) (stage : Stage) (i : ℕ) : Type 0 where
  pub stages : stage_over stage (drop i chunk) ≡ stage_over stage₀ (drop from chunk)
  pub put : Putting text₀ at (text_over stage₀ (drop from chunk)) text p (text_over stage (drop i chunk))
  pub place : i + bytes_before stage (drop i chunk) ≡ from + bytes_before stage₀ (drop from chunk)

-- the bytes have been split
abbrev pub Split : List ℕ → ℕ → Stage → List ℕ → ℕ → List ℕ → ℕ → Stage → ℕ → Type 0
Split text₀ at stage₀ chunk from text p stage rows =
    (stage ≡ stage_over stage₀ (drop from chunk))
    × (Put text₀ at (text_over stage₀ (drop from chunk)) text p × (rows ≡ from + bytes_before stage₀ (drop from chunk)))

module _ {text₀ : List ℕ} {at : ℕ} {stage₀ : Stage} {chunk : List ℕ} {from : ℕ} {text : List ℕ} {p : ℕ} {stage : Stage} {i : ℕ}
    (h : Dividing text₀ at stage₀ chunk from text p stage i) where
  pub divide_all : length chunk ≤ i → Split text₀ at stage₀ chunk from text p stage i
  unfolding stage_over text_over bytes_before
  divide_all l =
      let e : drop i chunk ≡ [] = drop_of_length-le chunk l in
      let r = rw e at h.place in
      (rw e at h.stages, (putting_done h.put (rw e), omega arith))

  pub divide_rows : is_rows stage ≡ true → Split text₀ at stage₀ chunk from text p stage i
  divide_rows t =
      let e = rows_of stage t in
      let r = rw (e, none_before (drop i chunk)) at h.place in
      (e ∙ sym (stage_rows (drop i chunk)) ∙ (rw e at h.stages), (putting_done h.put (rw e (text_rows (drop i chunk))), omega arith))

  pub divide_byte : i < length chunk → is_rows stage ≡ false → {next : Stage} → next ≡ stage_after stage (get_or chunk i 0)
      → {more : List ℕ} {q : ℕ} → Put text p (text_after stage (get_or chunk i 0)) more q → Dividing text₀ at stage₀ chunk from more q next (i + 1)
  unfolding stage_over text_over
  divide_byte l t {next} g {more} {q} m =
      let e = drop-cons chunk i 0 l in
      let r : i + suc (bytes_before (stage_after stage (get_or chunk i 0)) (drop (suc i) chunk)) ≡ from + bytes_before stage₀ (drop from chunk) =
      rw (e, before_cons stage (get_or chunk i 0) (drop (suc i) chunk) t) at h.place
      in
      record {
        stages = rw (g, add-one) (rw e at h.stages);
        put = putting_next (text_after stage (get_or chunk i 0)) h.put (rw (g, add-one, e)) m;
        place = rw (g, add-one) (omega arith);
      }

-- all of the chunk has been gone over, from a place that may lie past its end
pub gone_over : (stage : Stage) (chunk : List ℕ) (from i : ℕ) → length chunk ≤ i → from ≤ i → (from ≤ length chunk → i ≤ length chunk)
    → i ≡ from + bytes_before stage (drop from chunk) → max from (length chunk) ≡ from + bytes_before stage (drop from chunk)
unfolding bytes_before
gone_over stage chunk from i h g k e = by (leb from (length chunk)) (leb-true from (length chunk)) (leb-false from (length chunk)) where
  by : (t : Bool) → (t ≡ true → from ≤ length chunk) → (t ≡ false → length chunk < from) → max from (length chunk) ≡ from + bytes_before stage (drop from chunk)
  by true y f = let l = k (y refl) in omega arith
  by false y f =
      let l = f refl in
      let none : drop from chunk ≡ [] = drop_of_length-le chunk (omega arith) in
      rw none (omega arith)
