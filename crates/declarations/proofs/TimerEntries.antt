-- Laws of a timer: its name, then `of w limit N;`, and the tables with it. Assumes nothing.
use mathlib.Core.Path.{◌≡◌, refl, sym, ap, subst, ◌∙◌}
use mathlib.Core.List.{List, [], ◌∷◌, ◌++◌, append_assoc}
use Prim.Native.Nat.{ℕ, suc, ◌+◌, ◌≤◌, ◌<◌}
use native.Mathlib.Omega.{arith}
use lib.ListN.{length, get_or, set, length-append}
use lib.Seq.{sets, get_or-set_same, get_or-set_other}
use Rattle.lexer.specs.Token.{of_word, limit_word, semicolon}
use Rattle.semantics.specs.Program.{Name, Timer, bit_range}
use Rattle.grammar.specs.Parsed.{Parsed, accepted, refused, and_then, sign, expected, phrase, followed}
use Rattle.grammar.specs.Declarations.{new_name}
use Rattle.grammar.specs.Timers.{timer_name, WithTimers, watched_at, limit_at, timer_declaration}
use Rattle.lexer.specs.declared.Place.{Place}
use Rattle.lexer.specs.Results.{Step}
use Rattle.std.specs.Prelude.{Ok, Err}
use Rattle.limits.specs.declared.Refusal.{Refusal}
use Rattle.limits.specs.Refusals.{refusal_number, refusal_place}
use Rattle.phrases.specs.Inner.Steps.{parsed_of, nothing}
use Rattle.lexer.specs.Results.{reached_at}
use Rattle.phrases.proofs.Writing.{writes, refuses}
use Rattle.grammar.proofs.Combine.{then_then, never, same_value}
use Rattle.declarations.specs.Inner.Ranges.{range_bytes}
use Rattle.declarations.specs.Inner.Tables.{TableRoom, TableHolds, Names}
use Rattle.declarations.specs.Inner.Timers.{Watchables, timer_rest, timer_told, TimersStand, TimersHeld, TimerDeclared}
use Rattle.declarations.proofs.Standing.{stand_kept}
use Rattle.declarations.proofs.Steps.{After, after, refused_then}
use Rattle.declarations.proofs.Numbers.{range_bytes_lem}
use Rattle.declarations.proofs.Entries.{spellings_more, step_refused}
use Rattle.declarations.proofs.TimerWays.{done_place}

-- ---- `of w limit N;`

module _ (text : List ℕ) (inputs first : ℕ) (names : List Name) (at : ℕ) where
  pub no_of : (k p : ℕ) → expected text (sign of_word) at ≡ refused k p → timer_rest text inputs first names at ≡ refused k p
  unfolding timer_rest phrase
  no_of k p e = rw e

  module _ (n2 : ℕ) (e2 : expected text (sign of_word) at ≡ accepted tt n2) where
    pub no_w : (k p : ℕ) → watched_at text inputs first names n2 ≡ refused k p → timer_rest text inputs first names at ≡ refused k p
    unfolding timer_rest phrase
    no_w k p e = rw (e2, e)

    module _ (w n3 : ℕ) (e3 : watched_at text inputs first names n2 ≡ accepted w n3) where
      pub no_limit : (k p : ℕ) → expected text (sign limit_word) n3 ≡ refused k p → timer_rest text inputs first names at ≡ refused k p
      unfolding timer_rest phrase
      no_limit k p e = rw (e2, e3, e)

      module _ (n4 : ℕ) (e4 : expected text (sign limit_word) n3 ≡ accepted tt n4) where
        pub no_n : (k p : ℕ) → limit_at text n4 ≡ refused k p → timer_rest text inputs first names at ≡ refused k p
        unfolding timer_rest phrase
        no_n k p e = rw (e2, e3, e4, e)

        module _ (n n5 : ℕ) (e5 : limit_at text n4 ≡ accepted n n5) where
          pub no_semicolon : (k p : ℕ) → expected text (sign semicolon) n5 ≡ refused k p → timer_rest text inputs first names at ≡ refused k p
          unfolding timer_rest phrase followed
          no_semicolon k p e = rw (e2, e3, e4, e5, e)

          pub whole_rest : (n6 : ℕ) → expected text (sign semicolon) n5 ≡ accepted tt n6 → timer_rest text inputs first names at ≡ accepted (w, n) n6
          unfolding timer_rest phrase followed
          whole_rest n6 e = rw (e2, e3, e4, e5, e)

-- ---- the whole declaration

abbrev pub with_timer : WithTimers → List ℕ → ℕ × ℕ → WithTimers
with_timer x t y = record { names = x.names ++ (timer_name t ∷ []); timers = x.timers ++ (record { id = length x.names; watched = y.0; limit = y.1 } ∷ []) }

no_timer_name : (text : List ℕ) (inputs first : ℕ) (x : WithTimers) (at k p : ℕ) → new_name text x.names at ≡ refused k p → timer_declaration text inputs first x at ≡ refused k p
unfolding timer_declaration
no_timer_name text inputs first x at k p e = rw e

timer-is : (text : List ℕ) (inputs first : ℕ) (x : WithTimers) (at : ℕ) (t : List ℕ) (n : ℕ) → new_name text x.names at ≡ accepted t n
    → timer_declaration text inputs first x at ≡ and_then (timer_rest text inputs first (x.names ++ (timer_name t ∷ [])) n) (λ y m. accepted (with_timer x t y) m)
unfolding timer_declaration timer_rest followed
timer-is text inputs first x at t n e = rw e (simp then_then)

-- ---- the tables with one timer more

-- the entries of these timers are the same
timers_kept : (watched limits watched' limits' : List ℕ) (i : ℕ) (xs : List Timer) → ((j : ℕ) → i ≤ j → j < i + length xs → (get_or watched' j 0 ≡ get_or watched j 0) × (get_or limits' j 0 ≡ get_or limits j 0))
    → TimersStand watched limits i xs → TimersStand watched' limits' i xs
timers_kept watched limits watched' limits' i [] same h = tt
timers_kept watched limits watched' limits' i (x ∷ xs) same h =
    let s = same i (omega arith) (omega arith) in
    ((h.0.0, s.0 ∙ h.0.1, s.1 ∙ h.0.2), timers_kept watched limits watched' limits' (suc i) xs (λ j a b. same j (omega (arith, a)) (omega (arith, b))) h.1)

timers_more : (watched limits : List ℕ) (i : ℕ) (xs : List Timer) (x : Timer) → TimersStand watched limits i xs
    → (x.id ≡ i + length xs) × (get_or watched (i + length xs) 0 ≡ x.watched) × (get_or limits (i + length xs) 0 ≡ x.limit) → TimersStand watched limits i (xs ++ (x ∷ []))
timers_more watched limits i [] x h own =
    ((omega (arith, own.0), ap (λ (j : ℕ). get_or watched j 0) (omega arith) ∙ own.1, ap (λ (j : ℕ). get_or limits j 0) (omega arith) ∙ own.2), tt)
timers_more watched limits i (y ∷ xs) x h own =
    (h.0, timers_more watched limits (suc i) xs x h.1 (omega (arith, own.0), ap (λ (j : ℕ). get_or watched j 0) (omega arith) ∙ own.1, ap (λ (j : ℕ). get_or limits j 0) (omega arith) ∙ own.2))

-- ---- the answer

pub timer_names : (text : List ℕ) (inputs first : ℕ) (x : WithTimers) (at : ℕ) (y : WithTimers) (n : ℕ) → timer_declaration text inputs first x at ≡ accepted y n → (t : List ℕ) × (y.names ≡ x.names ++ (timer_name t ∷ []))
timer_names text inputs first x at y n e = go (new_name text x.names at) refl
  where
    go : (p : Parsed (List ℕ)) → new_name text x.names at ≡ p → (t : List ℕ) × (y.names ≡ x.names ++ (timer_name t ∷ []))
    go (accepted t m) f =
        let a = after (with_timer x t) (timer_rest text inputs first (x.names ++ (timer_name t ∷ [])) m) y n (sym (timer-is text inputs first x at t m f) ∙ e) in
        (t, ap (λ (z : WithTimers). z.names) a.2)
    go (refused k q) f = never k q n y (sym (no_timer_name text inputs first x at k q f) ∙ e)

module _ (text starts ends watched limits : List ℕ) (inputs first at to count : ℕ) (before starts' ends' : List ℕ) where
  abbrev Answers : List ℕ → List ℕ → List ℕ → Step → Type 0
  Answers watched' limits' mid r =
      ((x : WithTimers) → TimersHeld text starts ends watched limits first count x → TimerDeclared text inputs first x at to count before mid starts' ends' watched' limits' r) × ((x : Place) → r ≡ Ok x → (count < 64) × (x.to ≤ to + 15))

  refuses_timer : (watched' limits' mid : List ℕ) {r : Step} {e : Refusal} → r ≡ Err e → ((x : WithTimers) → TimersHeld text starts ends watched limits first count x → timer_declaration text inputs first x at ≡ refused (refusal_number e) (refusal_place e)) → Answers watched' limits' mid r
  refuses_timer watched' limits' mid g h = (
    λ x held. record { writes = refuses g (h x held); held = λ y n f. never _ _ n y (sym (h x held) ∙ f) },
    λ x f. step_refused (sym g ∙ f),
  )

  module _ {named : Step} (h : (names : List Name) → TableHolds text starts ends count names → Names text names at count ends starts' ends' named) where
    pub timer_unnamed : (watched' limits' mid : List ℕ) {e : Refusal} → named ≡ Err e → Answers watched' limits' mid named
    timer_unnamed watched' limits' mid {e} g = refuses_timer watched' limits' mid g
        (λ x held. no_timer_name text inputs first x at _ _ (refused_then (λ (w : List ℕ). tt {0}) (new_name text x.names at) (refusal_number e) (refusal_place e) (sym (h x.names held.known.table).answer ∙ ap (parsed_of nothing) g)))

    watch_more : (names : List Name) → Watchables text starts ends count first names → (t : List ℕ) (n : ℕ) → new_name text names at ≡ accepted t n → Watchables text starts' ends' (count + 1) first (names ++ (timer_name t ∷ []))
    watch_more names k t n e =
        let m = h names k.table in
        let long : length names ≡ length k.variables + length k.others = ap length k.split ∙ length-append k.variables k.others in
        record {
          table = record {
            counted = simp length-append (omega (arith, k.table.counted));
            spelled = m.named t n e ∙ sym (spellings_more names (timer_name t));
          };
          variables = k.variables;
          others = k.others ++ (timer_name t ∷ []);
          split = ap (λ (l : List Name). l ++ (timer_name t ∷ [])) k.split ∙ append_assoc k.variables k.others (timer_name t ∷ []);
          many = k.many;
          stand = stand_kept text ends ends' 0 k.variables (λ j a b. (m.ended t n e).1 j (omega (arith, b, long, k.table.counted))) k.stand;
        }

    module _ {next : Place} (g : named ≡ Ok next) (read : Step)
        (w : (names : List Name) → Watchables text starts' ends' (count + 1) first names → parsed_of timer_told read ≡ timer_rest text inputs first names next.at)
      where
        module _ (x : WithTimers) (held : TimersHeld text starts ends watched limits first count x) where
          new : After (λ (l : List ℕ). tt {0}) (new_name text x.names at) tt next.at
          new = after (λ (l : List ℕ). tt {0}) (new_name text x.names at) tt next.at (sym (h x.names held.known.table).answer ∙ ap (parsed_of nothing) g)

          watches : Watchables text starts' ends' (count + 1) first (x.names ++ (timer_name new.0 ∷ []))
          watches = watch_more x.names held.known new.0 next.at new.1

          is : timer_declaration text inputs first x at ≡ and_then (parsed_of timer_told read) (λ y m. accepted (with_timer x new.0 y) m)
          is = timer-is text inputs first x at new.0 next.at new.1
              ∙ ap (λ (p : Parsed (ℕ × ℕ)). and_then p (λ y m. accepted (with_timer x new.0 y) m)) (sym (w (x.names ++ (timer_name new.0 ∷ [])) watches))

        pub timer_cut : (watched' limits' mid : List ℕ) {e : Refusal} → read ≡ Err e → Answers watched' limits' mid read
        timer_cut watched' limits' mid f = refuses_timer watched' limits' mid f
            (λ x held. is x held ∙ ap (λ (s : Step). and_then (parsed_of timer_told s) (λ y m. accepted (with_timer x (new x held).0 y) m)) f)

        module _ {y : Place} (f : read ≡ Ok y) {watched' limits' : List ℕ} (stored : (watched' ≡ set watched count y.number) × (limits' ≡ set limits count y.start))
            (few : count < 64) (in_watched : 64 ≤ length watched) (in_limits_lem : 64 ≤ length limits)
          where
            one_more : (x : WithTimers) (held : TimersHeld text starts ends watched limits first count x) → TimersHeld text starts' ends' watched' limits' first (count + 1) (with_timer x (new x held).0 (timer_told y))
            one_more x held =
                let here : count ≡ first + length x.timers = held.as_many in
                record {
                  known = watches x held;
                  timed = timers_more watched' limits' first x.timers (record { id = length x.names; watched = y.number; limit = y.start })
                      (timers_kept watched limits watched' limits' first x.timers
                      (λ j a b. (ap (λ (l : List ℕ). get_or l j 0) stored.0 ∙ get_or-set_other watched count j y.number 0 (omega (arith, b, here)), ap (λ (l : List ℕ). get_or l j 0) stored.1 ∙ get_or-set_other limits count j y.start 0 (omega (arith, b, here)))) held.timed) (
                        omega (arith, held.known.table.counted, here),
                        ap (λ (j : ℕ). get_or watched' j 0) (sym here) ∙ ap (λ (l : List ℕ). get_or l count 0) stored.0 ∙ get_or-set_same watched count y.number 0 (omega (arith, few, in_watched)),
                        ap (λ (j : ℕ). get_or limits' j 0) (sym here) ∙ ap (λ (l : List ℕ). get_or l count 0) stored.1 ∙ get_or-set_same limits count y.start 0 (omega (arith, few, in_limits_lem)),
                      );
                  as_many = simp length-append (omega (arith, here));
                }

            pub timer_done_lem : {mid : List ℕ} {t : ℕ} {r : Step} → (t ≡ to + length (range_bytes bit_range)) × (mid ≡ sets before to (range_bytes bit_range)) → r ≡ reached_at y.at t 0 → Answers watched' limits' mid r
            timer_done_lem {mid} {t} put d = (
              λ x held.
                  let whole = is x held ∙ ap (λ (s : Step). and_then (parsed_of timer_told s) (λ z m. accepted (with_timer x (new x held).0 z) m)) f in
                  record {
                    writes = writes d (record { tree = with_timer x (new x held).0 (timer_told y); is = whole; ended = put.0; tells_it = refl; wrote = put.1 });
                    held = λ z n e. subst (λ (v : WithTimers). TimersHeld text starts' ends' watched' limits' first (count + 1) v) (same_value (sym whole ∙ e)) (one_more x held);
                  },
              λ z e. (few, rw (ap (λ (p : Place). p.to) (done_place (sym e ∙ d))) (omega (arith, put.0, range_bytes_lem bit_range))),
            )

pub room_more : (starts ends starts' ends' : List ℕ) (count : ℕ) → TableRoom starts ends count → length starts' ≡ length starts → length ends' ≡ length ends → count < 64 → TableRoom starts' ends' (count + 1)
room_more starts ends starts' ends' count r a b few = record { few = omega (arith, few); in_starts = omega (arith, r.in_starts, a); in_ends = omega (arith, r.in_ends, b) }
