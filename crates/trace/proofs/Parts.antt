-- What a call takes of the rest of a part lies in the part, and the calls over a part take all of it in order. Assumes nothing.
use Rattle.std.proofs.Common.{List, ℕ, ◌++◌, ◌+◌, ◌-◌, ◌≤◌, ◌<◌, ◌≡◌, length, take, drop}
use mathlib.Core.Path.{sym, ap, ◌∙◌}
use native.Mathlib.Omega.{arith}
use lib.ListN.{length-take, length-drop}
use lib.Seq.{take_all, take-add}
use Rattle.tracer.specs.Session.{Session, fed_over, put_over}
use Rattle.tracer.proofs.Feeding.{fed_append, put_append}

-- the session behind some bytes and then more
pub fed_behind : (before : Session) (first more : List ℕ) {s next : Session} → s ≡ fed_over before first → next ≡ fed_over s more → next ≡ fed_over before (first ++ more)
fed_behind before first more e f = f ∙ ap (λ (x : Session). fed_over x more) e ∙ sym (fed_append before first more)

-- and what both put out
pub put_behind : (before : Session) (first more : List ℕ) {s : Session} → s ≡ fed_over before first → put_over before first ++ put_over s more ≡ put_over before (first ++ more)
put_behind before first more e = ap (λ (x : Session). put_over before first ++ put_over x more) e ∙ sym (put_append before first more)

module _ (part : List ℕ) (at : ℕ) where
  abbrev rest : List ℕ
  rest = take (length part - at) (drop at part)

  rest_all : rest ≡ drop at part
  rest_all = take_all (length part - at) (drop at part) (rw length-drop (omega arith))

  rest_length : at ≤ length part → length rest ≡ length part - at
  rest_length h = simp (length-take, length-drop) (omega arith)

  pub taken_inside : {taken : ℕ} → at ≤ length part → taken ≤ length rest → at + taken ≤ length part
  taken_inside h l = omega (arith, rest_length h)

  pub taken_less : {taken : ℕ} → at < length part → (0 < length rest → 0 < taken) → length part - (at + taken) < length part - at
  taken_less {taken} h s = let e = rest_length (omega arith) in let l = s (omega arith) in omega arith

  taken_further : (taken : ℕ) → take at part ++ take taken rest ≡ take (at + taken) part
  taken_further taken = ap (λ (x : List ℕ). take at part ++ take taken x) rest_all ∙ sym (take-add at taken part)

  -- the session behind the next call
  pub fed_further : (before : Session) {s next : Session} (taken : ℕ) → s ≡ fed_over before (take at part)
      → next ≡ fed_over s (take taken rest) → next ≡ fed_over before (take (at + taken) part)
  fed_further before taken e f = fed_behind before (take at part) (take taken rest) e f ∙ ap (fed_over before) (taken_further taken)

  -- the part is at its end
  pub fed_all : (before : Session) {s : Session} → length part ≤ at → s ≡ fed_over before (take at part) → s ≡ fed_over before part
  fed_all before h e = e ∙ ap (fed_over before) (take_all at part h)

  -- what was put out by then, and by the next call
  pub put_further : (before : Session) {s : Session} (taken : ℕ) {out : List ℕ} → s ≡ fed_over before (take at part)
      → out ≡ put_over s (take taken rest) → put_over before (take at part) ++ out ≡ put_over before (take (at + taken) part)
  put_further before taken e f =
      ap (λ (x : List ℕ). put_over before (take at part) ++ x) f ∙ put_behind before (take at part) (take taken rest) e
      ∙ ap (put_over before) (taken_further taken)
