-- The trace that the rows of a program leave, lent as its states in turn: its report is that of the trace. Assumes nothing.
use mathlib.Core.Path.{◌≡◌, refl, ap, sym, ◌∙◌}
use mathlib.Core.Bool.{true}
use mathlib.Core.List.{List, [], ◌∷◌}
use Prim.Native.Nat.{ℕ, suc, ◌+◌, ◌*◌, ◌/◌, ◌%◌, ◌<◌}
use native.Mathlib.Nat.{suc-mul, zero-mul, mul-mod_left, mul-div_left}
use native.Mathlib.Omega.{arith}
use lib.IntN.{ℤ}
use lib.ListN.{length, length-append}
use lib.Seq.{take_at, drop_at}
use borrow.Author.Tests.{lt-ltb, ne_eqb, eq-eqb}
use Rattle.limits.specs.Limits.{report_length}
use Rattle.semantics.specs.Program.{Program}
use Rattle.semantics.specs.Formula.{State, Trace}
use Rattle.semantics.specs.Shape.{shape_of, state_length, states_of, is_trace, places_in, traced_states, values_of}
use Rattle.semantics.specs.Rows.{reference_replies, accepted_states, trace_of, InRanges, AllInRanges}
use Rattle.semantics.proofs.Reference.{trace_in_range}
use Rattle.grammar.specs.Parsed.{accepted}
use Rattle.grammar.specs.Parse.{parse, program_of}
use Rattle.grammar.proofs.Accepted.{parse_translatable}
use Rattle.watch.specs.Services.{watched_states, watch_of}

-- ---- states in turn, and back

values_length : (p : Program) (ts : Trace) → AllInRanges p ts → length (values_of ts) ≡ length ts * state_length (shape_of p)
values_length p [] a = sym (zero-mul (state_length (shape_of p)))
values_length p (s ∷ ts) a = length-append s (values_of ts) ∙ (ap (λ (n : ℕ). n + length (values_of ts)) a.0.size ∙ (ap (λ (n : ℕ). state_length (shape_of p) + n) (values_length p ts a.1) ∙ turned))
  where
    turned : state_length (shape_of p) + length ts * state_length (shape_of p) ≡ suc (length ts) * state_length (shape_of p)
    turned = omega (arith, suc-mul (length ts) (state_length (shape_of p)))

states_back : (p : Program) (ts : Trace) → AllInRanges p ts → states_of (length ts) (state_length (shape_of p)) (values_of ts) ≡ ts
states_back p [] a = refl
states_back p (s ∷ ts) a = rw (take_at s (values_of ts) (state_length (shape_of p)) a.0.size, drop_at s (values_of ts) (state_length (shape_of p)) a.0.size, states_back p ts a.1)

module _ (p : Program) (some : 0 < state_length (shape_of p)) (s : State) (ts : Trace) (a : AllInRanges p (s ∷ ts)) where
  abbrev n : ℕ
  n = state_length (shape_of p)

  abbrev cells : List ℤ
  cells = values_of (s ∷ ts)

  sized : length cells ≡ length (s ∷ ts) * n
  sized = values_length p (s ∷ ts) a

  is_trace_lem : is_trace n cells ≡ true
  unfolding is_trace
  is_trace_lem =
      let r : length cells % n ≡ 0 = ap (λ (k : ℕ). k % n) sized ∙ mul-mod_left (length (s ∷ ts)) n in
      let l : 0 < length cells = omega (arith, length-append s (values_of ts), a.0.size, some) in
      rw (ne_eqb n 0 (λ z. omega (arith, some, z)), lt-ltb 0 (length cells) l, r)

  counted : places_in n cells ≡ length (s ∷ ts)
  unfolding places_in
  counted = rw (ne_eqb n 0 (λ z. omega (arith, some, z))) (ap (λ (k : ℕ). k / n) sized ∙ mul-div_left (length (s ∷ ts)) some)

  traced : traced_states n cells ≡ s ∷ ts
  traced = ap (λ (k : ℕ). states_of k n cells) counted ∙ states_back p (s ∷ ts) a

  pub watch_of_states : (text : List ℕ) (m : ℕ) (report : List ℤ) → parse text ≡ accepted p m → length report ≡ report_length → watch_of text cells report ≡ watched_states p.watches (s ∷ ts) report
  unfolding watch_of program_of
  watch_of_states text m report e h = rw (e, is_trace_lem, eq-eqb (length report) report_length h, traced)

-- of the trace that the rows leave, from any state in range on; a program without names has only its start to lend
pub watch_of_trace : (text : List ℕ) (p : Program) (m : ℕ) → parse text ≡ accepted p m → 0 < state_length (shape_of p) → (s : State) → InRanges p s → (rows : List (List ℤ)) (report : List ℤ) → length report ≡ report_length
    → watch_of text (values_of (trace_of s (reference_replies p s rows))) report ≡ watched_states p.watches (trace_of s (reference_replies p s rows)) report
watch_of_trace text p m e some s i rows report h =
    watch_of_states p some s (accepted_states (reference_replies p s rows)) (trace_in_range p (parse_translatable text p m e).well_formed rows s i) text m report e h

pub watch_of_start : (text : List ℕ) (p : Program) (m : ℕ) → parse text ≡ accepted p m → state_length (shape_of p) ≡ 0 → (report : List ℤ) → length report ≡ report_length → watch_of text [] report ≡ watched_states p.watches ([] ∷ []) report
unfolding watch_of program_of is_trace places_in
watch_of_start text p m e z report h = rw (e, z, eq-eqb (length report) report_length h)
