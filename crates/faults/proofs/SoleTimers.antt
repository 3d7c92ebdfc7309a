-- A token refused by 2 begins no timers of the bare grammar. Assumes nothing.
use mathlib.Core.Path.{◌≡◌, refl, ap, sym, ◌∙◌, subst}
use mathlib.Core.List.{List, [], ◌∷◌, ◌++◌}
use mathlib.Core.Bool.{◌&&◌, false}
use Prim.Native.Nat.{ℕ, zero, suc, ◌+◌, ◌≤◌, ◌<◌}
use native.Mathlib.Omega.{arith}
use lib.ListN.{length, length-append}
use lib.Dec.{leb}
use Rattle.limits.specs.Limits.{time_limit}
use Rattle.lexer.specs.Bytes.{bytes, part}
use Rattle.lexer.specs.Token.{Kind, kind_number, name, digits, timer_word, of_word, limit_word, semicolon, is, token}
use Rattle.lexer.specs.Lexer.{token_at, over_long, value_of}
use Rattle.lexer.specs.Names.{id_of}
use Rattle.lexer.specs.Spelling.{IsDigits, SpellsName}
use Rattle.lexer.proofs.Laws.{token_at_moved}
use Rattle.lexer.proofs.Spellings.{is_fixed}
use Rattle.semantics.specs.Program.{Name}
use Rattle.grammar.specs.Parsed.{Parsed, sign, phrase, followed}
use Rattle.grammar.specs.Expressions.{with_id}
use Rattle.grammar.specs.Declarations.{spellings, new_name}
use Rattle.grammar.specs.Timers.{timer_name, WithTimers, is_watchable, watched_at, limit_at, timer_declaration, timers_from}
use Rattle.grammar.specs.Derivation.{Tokens, normal}
use Rattle.grammar.proofs.Combine.{Holds, then_prop}
use Rattle.grammar.proofs.Standing.{normally}
use Rattle.grammar.proofs.Derived.{sign_stands}
use Rattle.grammar.proofs.Phrases.{fixed_stands, signs}
use Rattle.faults.specs.Grammar as G
use Rattle.faults.specs.Grammar.{IsTimer, AreTimers}
use Rattle.faults.proofs.Languages.{Joins, These, OneOf, LimitEnd, LimitRest, WatchedRest, OfRest, TimerRest}
use Rattle.faults.proofs.Sole.{Ahead, Sole, by_other, refused_sole, one_sole, nothing_sole, behind, then_sole, cond_sole, option_sole, token_sole, NoSign, first_ahead}
use Rattle.faults.proofs.SoleParts.{Anything, apart}
use Rattle.faults.proofs.SoleForms.{Word, one_of, phrase_sole, followed_by_sole, name_sole, name_fits}

pub timer_of : (ts : Tokens) → IsTimer ts → (zs : Tokens) × (ts ≡ bytes "timer" ∷ zs) × TimerRest zs
timer_of ts (G.IsTimer.declares_timer t w n nt nw dn) =
    let d = n ∷ bytes ";" ∷ [] in
    let c = bytes "limit" ∷ d in
    let b = w ∷ c in
    let a = bytes "of" ∷ b in
    (t ∷ a, refl, (t ∷ [], a, refl, (t, refl, nt), (bytes "of" ∷ [], b, refl, refl, (w ∷ [], c, refl, (w, refl, nw), (bytes "limit" ∷ [], d, refl, refl, (n ∷ [], bytes ";" ∷ [], refl, (n, refl, dn), refl))))))

module _ (text : List ℕ) (inputs first : ℕ) where
  watched_sole : (names : List Name) (at : ℕ) → at ≤ length text → Sole (OneOf SpellsName) Anything text at (watched_at text inputs first names at)
  unfolding watched_at with_id is kind_number
  watched_sole names at h =
      token_sole text at
      (λ k s n e. cond_sole (is k name)
      (λ t. cond_sole (over_long s n) (λ x. by_other 8 (λ q. omega (arith, q)))
      (λ x. option_sole (id_of (spellings names) (part text s n)) (λ z. by_other 4 (λ q. omega (arith, q)))
      (λ i z. cond_sole (is_watchable inputs first names i) (λ y. one_sole _ (sign_stands normally text name refl at k s n h e t).0 (λ us xs ys q l y. one_of (normal (part text s n)) us xs ys q l)) (λ y. by_other 23 (λ q. omega (arith, q))))))
      (λ t. refused_sole e (λ us xs ys ah q l y. first_ahead text at k s n h e us ys l.0 ah (q ∙ ap (λ (x : Tokens). x ++ ys) l.1) name l.2 (apart k name refl t))))

  limit_sole : (at : ℕ) → at ≤ length text → Sole (OneOf IsDigits) Anything text at (limit_at text at)
  unfolding limit_at is kind_number
  limit_sole at h =
      token_sole text at
      (λ k s n e.
      let v = value_of (part text s n) in
      cond_sole (is k digits)
      (λ t. cond_sole (leb 1 v && leb v time_limit) (λ x. one_sole _ (sign_stands normally text digits refl at k s n h e t).0 (λ us xs ys q l y. one_of (normal (part text s n)) us xs ys q l)) (λ x. by_other 3 (λ q. omega (arith, q))))
      (λ t. refused_sole e (λ us xs ys ah q l y. first_ahead text at k s n h e us ys l.0 ah (q ∙ ap (λ (x : Tokens). x ++ ys) l.1) digits l.2 (apart k digits refl t))))

  timer_sole : (x : WithTimers) (at : ℕ) → at ≤ length text → Sole TimerRest Anything text at (timer_declaration text inputs first x at)
  unfolding timer_declaration signs is_fixed is kind_number
  timer_sole x at h =
      then_sole {L = OneOf SpellsName} {M = OfRest} {N = TimerRest} {S = Anything} {S2 = Anything} h (λ zs j. j) (λ xs ys l z. tt) (name_sole text x.names at h)
      (λ t n1 i1 h1 e1. then_sole {L = These (bytes "of" ∷ [])} {M = WatchedRest} {N = OfRest} {S = Anything} {S2 = Anything} h1 (λ zs j. j) (λ xs ys l z. tt) (phrase_sole text (sign of_word ∷ []) refl tt tt n1 h1)
      (λ u n2 i2 h2 e2. then_sole {L = OneOf SpellsName} {M = LimitRest} {N = WatchedRest} {S = Anything} {S2 = Anything} h2 (λ zs j. j) (λ xs ys l z. tt) (watched_sole _ n2 h2)
      (λ w n3 i3 h3 e3. then_sole {L = These (bytes "limit" ∷ [])} {M = LimitEnd} {N = LimitRest} {S = Anything} {S2 = Anything} h3 (λ zs j. j) (λ xs ys l z. tt) (phrase_sole text (sign limit_word ∷ []) refl tt tt n3 h3)
      (λ u2 n4 i4 h4 e4. then_sole {L = OneOf IsDigits} {M = These (bytes ";" ∷ [])} {N = LimitEnd} {S = Anything} {S2 = Anything} h4 (λ zs j. j) (λ xs ys l z. tt) (limit_sole n4 h4)
      (λ n n5 i5 h5 e5. followed_by_sole text (sign semicolon ∷ []) refl tt tt _ n5 h5)))))

  -- a timer's name is one of at most 64
  timer_fits : (x : WithTimers) (at : ℕ) → Holds (λ (y : WithTimers). (length x.names < 64) × (length y.names ≡ length x.names + 1)) (timer_declaration text inputs first x at)
  unfolding timer_declaration followed
  timer_fits x at =
      then_prop P (new_name text x.names at) _ (λ k q. tt)
      (λ t n1 e1.
      let l : length x.names < 64 = subst (Holds (λ (w : List ℕ). length x.names < 64)) e1 (name_fits text x.names at) in
      then_prop P (phrase text _ n1) _ (λ k q. tt)
      (λ u n2 e2. then_prop P (watched_at text inputs first _ n2) _ (λ k q. tt)
      (λ w n3 e3. then_prop P (phrase text _ n3) _ (λ k q. tt)
      (λ u2 n4 e4. then_prop P (limit_at text n4) _ (λ k q. tt) (λ n n5 e5. then_prop P (phrase text _ n5) _ (λ k q. tt) (λ u3 n6 e6. (l, length-append x.names (timer_name t ∷ []))))))))
    where
      P : Parsed WithTimers → Type 0
      P p = Holds (λ (y : WithTimers). (length x.names < 64) × (length y.names ≡ length x.names + 1)) p

  goes : (us xs ys : Tokens) → bytes "timer" ∷ us ≡ xs ++ ys → AreTimers xs → NoSign (Word timer_word) ys → (zs : Tokens) × (xs ≡ bytes "timer" ∷ zs) × Joins TimerRest AreTimers zs
  goes us xs ys q G.AreTimers.none z = absurd (subst (NoSign (Word timer_word)) (sym q) z refl)
  goes us xs ys q (G.AreTimers.more ts vs x r) z = let y = timer_of ts x in (y.0 ++ vs, ap (λ (l : Tokens). l ++ vs) y.1, (y.0, vs, refl, y.2, r))

  none_left_lem : (at : ℕ) → at ≤ length text → (k : Kind) (s n : ℕ) → token_at text at ≡ token k s n → is k timer_word ≡ false → (us xs ys : Tokens) → Ahead k (normal (part text s n)) us → us ≡ xs ++ ys → AreTimers xs → xs ≡ []
  unfolding is kind_number
  none_left_lem at h k s n e t us xs ys ah q G.AreTimers.none = refl
  none_left_lem at h k s n e t us xs ys ah q (G.AreTimers.more ts vs x r) =
      let y = timer_of ts x in
      absurd (first_ahead text at k s n h e us ((y.0 ++ vs) ++ ys) (bytes "timer") ah (q ∙ ap (λ (l : Tokens). (l ++ vs) ++ ys) y.1) timer_word refl (apart k timer_word refl t))

  -- what follows the timers begins with no `timer`
  pub timers_sole : (f : ℕ) (x : WithTimers) → length x.names ≤ 64 → 65 ≤ length x.names + f → (at : ℕ) → at ≤ length text → Sole AreTimers (NoSign (Word timer_word)) text at (timers_from f text inputs first x at)
  unfolding timers_from is_fixed is kind_number
  timers_sole zero x l b at h = absurd (omega arith)
  timers_sole (suc f) x l b at h =
      token_sole text at
      (λ k s n e. cond_sole (is k timer_word)
      (λ t.
      let i = (token_at_moved text at k s n h e).2 in
      behind (bytes "timer") (fixed_stands normally text timer_word refl at k s n h e t) goes
      (then_sole {L = TimerRest} {M = AreTimers} {N = Joins TimerRest AreTimers} {S = Anything} {S2 = NoSign (Word timer_word)} i (λ zs j. j) (λ xs ys l z. tt) (timer_sole x n i)
      (λ y m j o q.
      let g = subst (Holds (λ (y : WithTimers). (length x.names < 64) × (length y.names ≡ length x.names + 1))) q (timer_fits x n) in
      timers_sole f y (omega (arith, g.0, g.1)) (omega (arith, g.1)) m o)))
      (λ t. nothing_sole _ (λ us xs ys ah q l z. none_left_lem at h k s n e t us xs ys (ah k s n e) q l)))
