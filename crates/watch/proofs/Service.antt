-- The ways of the watch service. Assumes nothing.
use mathlib.Core.Path.{◌≡◌, ap, ap₂, sym, ◌∙◌, subst}
use mathlib.Core.Bool.{true, false, ◌&&◌, cond}
use mathlib.Core.List.{List, [], ◌++◌}
use Prim.Native.Nat.{ℕ, ◌+◌, ◌*◌, ◌≤◌}
use native.Mathlib.Omega.{arith}
use lib.Dec.{eqb}
use lib.IntN.{ℤ}
use lib.ListN.{length, drop, length-map}
use lib.Seq.{sets}
use borrow.Author.Tests.{eq-eqb, ne_eqb}
use Rattle.limits.specs.Limits.{text_limit, name_limit, watch_limit, report_length}
use Rattle.limits.specs.Answer as A
use Rattle.semantics.specs.Program.{ranges_of, TimersFit}
use Rattle.semantics.specs.Shape.{shape_of, state_length, is_trace, traced_states}
use Rattle.semantics.proofs.Timers.{timer_count, cells_length}
use Rattle.grammar.specs.Parsed.{refused}
use Rattle.grammar.specs.Parse.{parse, program_of}
use Rattle.grammar.proofs.Accepted.{parse_translatable}
use Rattle.grammar.proofs.PlacesText.{Placed, parse_limited}
use Rattle.watching.specs.Watching.{places_of, first_failure}
use Rattle.leb128.proofs.Stores.{sets_front}
use Rattle.translate.specs.Inner.Descent.{AnalysedText}
use Rattle.std.specs.Prelude.{Ok, Err}
use Rattle.limits.specs.declared.Refusal.{Refusal}
use Rattle.limits.specs.declared.Refusal.TheVariants.{WrongLength}
use Rattle.limits.specs.Refusals.{refusal_number, refusal_place}
use Rattle.watch.specs.Services.{reported, report_of, watched_states, watch_of}
use Rattle.watch.specs.Results.{after_watch, WatchedWithin}
use Rattle.watch.specs.Inner.Reports.{CountedWatches}
use Rattle.watch.proofs.Counting.{watches_few}

-- ---- what the analysis says of the text

module _ {text starts ends : List ℕ} {size inputs names timers at count : ℕ} (x : AnalysedText text (parse text) starts ends size inputs names timers at count) where
  fit : TimersFit x.program
  fit = (parse_translatable text x.program x.end x.parsed).well_formed.timed

  ranged : length (ranges_of x.program) ≡ names
  ranged = length-map x.program.names (λ n. n.range) ∙ sym x.named

  -- a number for each name, then one for each timer
  sized : state_length (shape_of x.program) ≡ names + timers
  sized = cells_length x.program fit ∙ ap₂ ◌+◌ ranged (sym x.timed)

  -- a timer is a name too
  pub few_cells : names + timers ≤ 2 * name_limit
  few_cells = omega (arith, timer_count x.program fit, ranged, x.timed, x.stand.few)

-- ---- the answers

module _ (text : List ℕ) (cells report : List ℤ) where
  pub watch_refused : (e : Refusal) → parse text ≡ refused (refusal_number e) (refusal_place e) → (after_watch (Err e) report ≡ watch_of text cells report) × WatchedWithin (Err e)
  unfolding watch_of program_of
  watch_refused x e = (rw e, (subst (Placed text_limit) e (parse_limited text)).1)

  module _ {starts ends : List ℕ} {size inputs names timers at count : ℕ} (x : AnalysedText text (parse text) starts ends size inputs names timers at count) where
    watch_tested : watch_of text cells report ≡ cond (is_trace (names + timers) cells && eqb (length report) report_length) (watched_states x.program.watches (traced_states (names + timers) cells) report) (record { answer = A.refused 12 0; report = report })
    unfolding watch_of program_of
    watch_tested = rw (x.parsed, sized x)

    pub watch_cut : is_trace (names + timers) cells ≡ false → (after_watch (Err WrongLength) report ≡ watch_of text cells report) × WatchedWithin (Err WrongLength)
    watch_cut e = (sym (watch_tested ∙ rw e), omega arith)

    module _ (e : is_trace (names + timers) cells ≡ true) where
      pub watch_misfit : (length report ≡ 16 → ⊥) → (after_watch (Err WrongLength) report ≡ watch_of text cells report) × WatchedWithin (Err WrongLength)
      watch_misfit f = (sym (watch_tested ∙ rw (e, ne_eqb (length report) 16 f)), omega arith)

      module _ (f : length report ≡ 16) where
        watches_limited : length x.program.watches ≤ 16
        watches_limited = omega (arith, watches_few _ watch_limit [] at x.program.watches x.stand.end x.stand.read)

        pub watch_counted : CountedWatches text starts ends names at count
        watch_counted = record { watches = x.program.watches; stand = x.stand; counted = sym x.counted }

        pub count_inside : count ≤ length report
        count_inside = omega (arith, x.counted, watches_limited, f)

        pub watch_reported : (left : List ℤ) → left ≡ sets report 0 (report_of x.program.watches (traced_states (names + timers) cells)) → (after_watch (Ok count) left ≡ watch_of text cells report) × WatchedWithin (Ok count)
        watch_reported left w = (sym (watch_tested ∙ rw (e, eq-eqb (length report) 16 f, x.counted, w ∙ front)), omega (arith, x.counted, watches_limited))
          where
            l : length (report_of x.program.watches (traced_states (names + timers) cells)) ≡ length x.program.watches
            l = length-map x.program.watches (λ v. reported (first_failure v (places_of (traced_states (names + timers) cells))))

            front : sets report 0 (report_of x.program.watches (traced_states (names + timers) cells)) ≡ report_of x.program.watches (traced_states (names + timers) cells) ++ drop (length x.program.watches) report
            front =
                sets_front report (report_of x.program.watches (traced_states (names + timers) cells)) (omega (arith, l, watches_limited, f))
                ∙ ap (λ (n : ℕ). report_of x.program.watches (traced_states (names + timers) cells) ++ drop n report) l
