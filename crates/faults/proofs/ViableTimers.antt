-- What stands before a token refused by 2 begins timers. Assumes nothing.
use mathlib.Core.Path.{refl}
use mathlib.Core.List.{List, [], ◌∷◌}
use mathlib.Core.Bool.{◌&&◌}
use Prim.Native.Nat.{ℕ, zero, suc, ◌≤◌}
use native.Mathlib.Omega.{arith}
use lib.ListN.{length}
use lib.Dec.{leb}
use Rattle.limits.specs.Limits.{time_limit}
use Rattle.lexer.specs.Bytes.{bytes, part}
use Rattle.lexer.specs.Token.{kind_number, name, digits, timer_word, of_word, limit_word, semicolon, is}
use Rattle.lexer.specs.Lexer.{over_long, value_of}
use Rattle.lexer.specs.Names.{id_of}
use Rattle.lexer.specs.Spelling.{IsDigits, SpellsName}
use Rattle.lexer.proofs.Laws.{token_at_moved}
use Rattle.lexer.proofs.Spellings.{is_fixed}
use Rattle.semantics.specs.Program.{Name}
use Rattle.grammar.specs.Parsed.{sign}
use Rattle.grammar.specs.Expressions.{with_id}
use Rattle.grammar.specs.Declarations.{spellings}
use Rattle.grammar.specs.Timers.{WithTimers, is_watchable, watched_at, limit_at, timer_declaration, timers_from}
use Rattle.grammar.specs.Derivation.{Tokens, normal}
use Rattle.grammar.proofs.Phrases.{fixed_stands, signs}
use Rattle.grammar.proofs.Derived.{sign_stands}
use Rattle.grammar.proofs.Standing.{normally}
use Rattle.faults.specs.Grammar as G
use Rattle.faults.specs.Grammar.{IsTimer, AreTimers}
use Rattle.faults.proofs.Languages.{OneOf, LimitEnd, LimitRest, WatchedRest, OfRest, TimerRest}
use Rattle.faults.proofs.Viable.{Viable, by_other, refused_here, one_token, behind, then_viable, cond_viable, option_viable, token_viable}
use Rattle.faults.proofs.ViableDeclarations.{cat_viable, nothing_more, phrase_viable, followed_by_lem, zero_digits, a_name, name_viable}

timer_in : (us : Tokens) → TimerRest us → IsTimer (bytes "timer" ∷ us)
timer_in us (ts, vs, q1, (t, q2, nt), (os, vs2, q3, q4, (ws, vs3, q5, (w, q6, nw), (ls, vs4, q7, q8, (ns, vs5, q9, (n, q10, dn), q11))))) = rw (q1, q2, q3, q4, q5, q6, q7, q8, q9, q10, q11) (G.IsTimer.declares_timer t w n nt nw dn)

module _ (text : List ℕ) (inputs first : ℕ) where
  watched_viable : (names : List Name) (at : ℕ) → at ≤ length text → Viable (OneOf SpellsName) text at (watched_at text inputs first names at)
  unfolding watched_at with_id is kind_number
  watched_viable names at h =
      token_viable text at
      (λ k s n e. cond_viable (is k name)
      (λ t.
      let r = sign_stands normally text name refl at k s n h e t in
      cond_viable (over_long s n) (λ x. by_other 8 (λ q. omega (arith, q)))
      (λ x. option_viable (id_of (spellings names) (part text s n)) (λ z. by_other 4 (λ q. omega (arith, q)))
      (λ i z. cond_viable (is_watchable inputs first names i) (λ y. one_token _ r.0 (normal (part text s n), refl, r.1)) (λ y. by_other 23 (λ q. omega (arith, q))))))
      (λ t. refused_here (bytes "a" ∷ []) (a_name text) e))

  limit_viable : (at : ℕ) → at ≤ length text → Viable (OneOf IsDigits) text at (limit_at text at)
  unfolding limit_at is kind_number
  limit_viable at h =
      token_viable text at
      (λ k s n e.
      let v = value_of (part text s n) in
      cond_viable (is k digits)
      (λ t.
      let r = sign_stands normally text digits refl at k s n h e t in
      cond_viable (leb 1 v && leb v time_limit) (λ x. one_token _ r.0 (normal (part text s n), refl, r.1)) (λ x. by_other 3 (λ q. omega (arith, q))))
      (λ t. refused_here (bytes "0" ∷ []) (zero_digits text) e))

  some_end : LimitEnd (bytes "0" ∷ bytes ";" ∷ [])
  some_end = (bytes "0" ∷ [], bytes ";" ∷ [], refl, zero_digits text, refl)

  some_limit : LimitRest (bytes "limit" ∷ bytes "0" ∷ bytes ";" ∷ [])
  some_limit = (bytes "limit" ∷ [], bytes "0" ∷ bytes ";" ∷ [], refl, refl, some_end)

  some_watched : WatchedRest (bytes "a" ∷ bytes "limit" ∷ bytes "0" ∷ bytes ";" ∷ [])
  some_watched = (bytes "a" ∷ [], bytes "limit" ∷ bytes "0" ∷ bytes ";" ∷ [], refl, a_name text, some_limit)

  some_of : OfRest (bytes "of" ∷ bytes "a" ∷ bytes "limit" ∷ bytes "0" ∷ bytes ";" ∷ [])
  some_of = (bytes "of" ∷ [], bytes "a" ∷ bytes "limit" ∷ bytes "0" ∷ bytes ";" ∷ [], refl, refl, some_watched)

  timer_viable : (x : WithTimers) (at : ℕ) → at ≤ length text → Viable TimerRest text at (timer_declaration text inputs first x at)
  unfolding timer_declaration signs is_fixed kind_number
  timer_viable x at h =
      cat_viable h _ some_of (name_viable text x.names at h)
      (λ t n1 h1. cat_viable h1 _ some_watched (phrase_viable text (sign of_word ∷ []) refl tt n1 h1)
      (λ u n2 h2. cat_viable h2 _ some_limit (watched_viable _ n2 h2)
      (λ w n3 h3. cat_viable h3 _ some_end (phrase_viable text (sign limit_word ∷ []) refl tt n3 h3)
      (λ u n4 h4. cat_viable h4 (bytes ";" ∷ []) refl (limit_viable n4 h4) (λ n n5 h5. followed_by_lem text (sign semicolon ∷ []) refl tt _ n5 h5)))))

  pub timers_viable : (f : ℕ) (x : WithTimers) (at : ℕ) → at ≤ length text → Viable AreTimers text at (timers_from f text inputs first x at)
  unfolding timers_from is_fixed kind_number
  timers_viable zero x at h = nothing_more x G.AreTimers.none
  timers_viable (suc f) x at h =
      token_viable text at
      (λ k s n e. cond_viable (is k timer_word)
      (λ t.
      let i = (token_at_moved text at k s n h e).2 in
      behind {M = λ us. AreTimers (bytes "timer" ∷ us)} (bytes "timer" ∷ []) (n, fixed_stands normally text timer_word refl at k s n h e t, refl) (λ us g. g)
      (then_viable {L = TimerRest} {M = AreTimers} i (λ ts us y r. G.AreTimers.more (bytes "timer" ∷ ts) us (timer_in ts y) r) [] G.AreTimers.none (timer_viable x n i) (λ y m j. timers_viable f y m j)))
      (λ t. nothing_more x G.AreTimers.none))
