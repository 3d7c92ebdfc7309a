-- What scan is handed for a line: its row, as good as the row itself where that has over 64 numbers; else a row of the wrong length. So every
-- line of the wrong length is 12, with timers too. Assumes nothing.
use mathlib.Core.Path.{◌≡◌, refl, sym, subst, ◌∙◌}
use mathlib.Core.Bool.{Bool, true, false, cond}
use mathlib.Core.List.{List, [], ◌∷◌}
use mathlib.Core.Option.{none, some}
use Prim.Native.Nat.{ℕ, ◌+◌, ◌≤◌, ◌<◌}
use native.Mathlib.Omega.{arith}
use lib.Dec.{leb}
use lib.IntN.{ℤ}
use lib.ListN.{length}
use borrow.Author.Tests.{leb-false, ne_eqb}
use Rattle.limits.specs.Limits.{name_limit, wrong_length}
use Rattle.limits.specs.Answer.{accepted}
use Rattle.arith.specs.Values.{refusal}
use Rattle.semantics.specs.Program.{Program, Timer, ranges_of, first_timer}
use Rattle.semantics.specs.Formula.{State}
use Rattle.semantics.specs.Shape.{shape_of, has_timer, row_length}
use Rattle.semantics.specs.ReferenceScan.{reference_scan}
use Rattle.semantics.proofs.Timers.{timer_behind}
use Rattle.grammar.specs.Parse.{program_of}
use Rattle.grammar.proofs.Accepted.{program_translatable}
use Rattle.trace_text.specs.Row.{row_of, long_row, handed_of}
use Rattle.tracer.proofs.States.{timer_limits, EachFits}

one_more : (t : Bool) (n : ℕ) → cond t (n + 1) n ≤ n + 1
one_more true n = omega arith
one_more false n = omega arith

module _ (text : List ℕ) (p : Program) (e : program_of text ≡ accepted p) where
  -- a timer comes with a variable, so that its inputs are fewer
  row_few : row_length (shape_of p) ≤ name_limit
  row_few =
      let t = program_translatable text p e in
      subst (λ (b : Bool). cond b (p.inputs + 1) p.inputs ≤ name_limit) (sym (timer_behind (first_timer p) (timer_limits p.timers))) (go t.few t.well_formed.inputs_fit p.timers t.well_formed.timed.each)
    where
      go : length (ranges_of p) ≤ name_limit → p.inputs ≤ length (ranges_of p) → (ts : List Timer) → EachFits p ts → cond (has_timer (timer_limits ts)) (p.inputs + 1) p.inputs ≤ name_limit
      go few i [] h = omega (arith, few, i)
      go few i (x ∷ xs) h = omega (arith, few, h.0.a_variable, h.0.no_timer_lem, one_more (has_timer (timer_limits (x ∷ xs))) p.inputs)

  long_refused : (s : State) (row : List ℤ) → name_limit < length row → reference_scan p s row ≡ refusal wrong_length
  unfolding reference_scan
  long_refused s row h = rw (ne_eqb (length row) (row_length (shape_of p)) (λ k. omega (arith, k, h, row_few)))

  handed_refused : (s : State) → reference_scan p s long_row ≡ refusal wrong_length
  unfolding long_row
  handed_refused s = long_refused s long_row (omega arith)

  -- a line that is a row
  pub scan_as_row : (s : State) (line : List ℕ) (row : List ℤ) → row_of line ≡ some row → reference_scan p s (handed_of line) ≡ reference_scan p s row
  unfolding handed_of
  scan_as_row s line row r = rw r (by (leb (length row) name_limit) refl)
    where
      by : (t : Bool) → leb (length row) name_limit ≡ t → reference_scan p s (cond t row long_row) ≡ reference_scan p s row
      by true q = refl
      by false q = handed_refused s ∙ sym (long_refused s row (leb-false _ _ q))

  -- any other
  pub scan_no_row : (s : State) (line : List ℕ) → row_of line ≡ none → reference_scan p s (handed_of line) ≡ refusal wrong_length
  unfolding handed_of
  scan_no_row s line r = rw r (handed_refused s)
