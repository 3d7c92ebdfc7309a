-- Any sequence of calls comes to `printed`. Assumes nothing.
use mathlib.Core.Path.{◌≡◌, refl, sym, ap, ◌∙◌}
use mathlib.Core.Bool.{Bool, true, false}
use mathlib.Core.List.{List, [], ◌++◌, map, append_assoc}
use Prim.Native.Nat.{ℕ, ◌≤◌, ◌<◌}
use native.Mathlib.Omega.{arith}
use lib.Dec.{leb}
use lib.IntN.{ℤ}
use lib.ListN.{length, take, drop, length-map, take-append-drop}
use borrow.Author.Tests.{leb-true, leb-false}
use Rattle.limits.specs.Limits.{text_limit}
use Rattle.limits.specs.Answer.{Answer, accepted, refused}
use Rattle.semantics.specs.Program.{Program}
use Rattle.semantics.specs.Rows.{starts_of}
use Rattle.semantics.proofs.Reference.{starts_in_range}
use Rattle.bytecode.specs.Translation.{image_of}
use Rattle.grammar.specs.Parse.{program_of}
use Rattle.grammar.proofs.Accepted.{program_translatable}
use Rattle.grammar.proofs.Examples.{too_long_lem}
use Rattle.correctness.proofs.Correct.{scans_agree}
use Rattle.trace_text.specs.declared.Stage.TheVariants.{LineStart}
use Rattle.trace_text.specs.declared.Line.TheVariants.{Start}
use Rattle.trace_text.specs.Input.{text_of, row_lines}
use Rattle.trace_text.specs.Row.{handed_of}
use Rattle.trace_text.specs.Inner.Stages.{text_over, bytes_before}
use Rattle.trace_text.proofs.Splitting.{text_split, text_seen, text_over_lem}
use Rattle.trace_text.proofs.Handed.{rows_handed}
use Rattle.tracer.specs.Printed.{opening, closing, reply_lines, printed}
use Rattle.tracer.specs.Session.{text_room, Session, in_text, behind_text}
use Rattle.tracer.specs.Inner.Contracts.{Takes}
use Rattle.tracer.specs.Calls.{Calls, call}
use Rattle.tracer.proofs.Feeding.{total, scan_lines, calls_total, rows_total, lines_replies, passed_total, text_total}

-- ---- a text that is cut is over its limit as it was

cut_program : (text : List ℕ) → program_of (take text_room text) ≡ program_of text
cut_program text = by (leb (length text) text_limit) refl where
  by : (t : Bool) → leb (length text) text_limit ≡ t → program_of (take text_room text) ≡ program_of text
  by true e = ap program_of (text_seen text (leb-true _ _ e))
  by false e =
      let h : text_limit < length text = leb-false _ _ e in
      too_long_lem (take text_room text) (text_over_lem text h) ∙ sym (too_long_lem text h)

-- ---- a call as its contract says it: of a part it takes some bytes, and the rest is left for the next

pub taken_call : {room : ℕ} {s : Session} (part : List ℕ) {n : ℕ} {t : Session} {out : List ℕ} {put : ℕ} → Takes room s part n t out put
    → (left : List ℕ) {more : List ℕ} → Calls t (drop n part ++ left) more → Calls s (part ++ left) (take put out ++ more)
taken_call part {n} h left c =
    let e : take n part ++ (drop n part ++ left) ≡ part ++ left = sym (append_assoc (take n part) (drop n part) left) ∙ ap (λ (x : List ℕ). x ++ left) (take-append-drop n part) in
    rw (h.output, ← e) (call (take n part) (rw h.session at c))

-- ---- behind the text

module _ (input : List ℕ) (cells : List ℤ) (room : 65 ≤ length cells) (few : length (row_lines input) ≤ 18446744073709551615) where
  abbrev rows : List (List ℤ)
  rows = map handed_of (row_lines input)

  abbrev rest : List ℕ
  rest = drop (bytes_before LineStart input) input

  behind_total : (a : Answer Program) → program_of (text_of input) ≡ a → total (behind_text a cells) rest ≡ closing a rows
  behind_total (refused number place) e = passed_total rest
  behind_total (accepted p) e =
      let t = program_translatable (text_of input) p e in
      rows_total rest (image_of p) (length p.names) (starts_of p) Start cells 0
      ∙ ap (scan_lines (image_of p) (length p.names) (starts_of p) 0) (rows_handed input cells room)
      ∙ lines_replies rows (image_of p) (length p.names) (starts_of p) 0 (rw (length-map (row_lines input) handed_of) (omega arith))
      ∙ ap (reply_lines (length p.names) 1) (scans_agree p t rows (starts_of p) (starts_in_range p t.well_formed))

  -- However an input of fewer than 2^64 rows is divided into parts and calls, the bytes put out, joined, are those of `printed`.
  pub whole : {out : List ℕ} → Calls (in_text LineStart [] cells) input out → out ≡ printed input
  unfolding printed
  whole h =
      let e : program_of (take text_room ([] ++ text_over LineStart input)) ≡ program_of (text_of input) = ap (λ (x : List ℕ). program_of (take text_room x)) (text_split input) ∙ cut_program (text_of input) in
      calls_total h
      ∙ text_total input LineStart [] cells refl (omega arith)
      ∙ ap (λ (a : Answer Program). opening a ++ total (behind_text a cells) rest) e
      ∙ ap (λ (x : List ℕ). opening (program_of (text_of input)) ++ x) (behind_total (program_of (text_of input)) refl)
