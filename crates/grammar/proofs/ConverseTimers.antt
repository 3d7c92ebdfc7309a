-- Tokens that spell timers are read as them. Assumes nothing.
use mathlib.Core.Path.{◌≡◌, refl, ap, ap₂, sym, ◌∙◌, subst}
use mathlib.Core.List.{List, [], ◌∷◌, ◌++◌, append_assoc, append-nil, map-append}
use mathlib.Core.Bool.{true, false}
use mathlib.Core.Option.{some}
use Prim.Native.Nat.{ℕ, zero, suc, ◌+◌, ◌-◌, ◌≤◌, ◌<◌}
use native.Mathlib.Omega.{arith}
use lib.ListN.{length, get_elem?, length-append}
use borrow.Author.Tests.{lt-ltb, le-ltb, le-leb}
use Rattle.limits.specs.Limits.{time_limit}
use Rattle.arith.proofs.Basics.{T_true}
use Rattle.lexer.specs.Bytes.{bytes}
use Rattle.lexer.specs.Token.{Kind, kind_number, digits, timer_word, of_word, limit_word, semicolon, is, token}
use Rattle.lexer.specs.Lexer.{token_at, over_long, value_of}
use Rattle.lexer.specs.Spelling.{IsDigits}
use Rattle.lexer.proofs.Laws.{token_at_moved}
use Rattle.lexer.proofs.Spellings.{is_fixed}
use Rattle.semantics.specs.Program.{Name, Timer, range_at, is_binary, Numbered, EachTimer}
use Rattle.grammar.specs.Parsed.{accepted, sign, phrase, followed}
use Rattle.grammar.specs.Expressions.{with_id}
use Rattle.grammar.specs.Declarations.{spellings, new_name}
use Rattle.grammar.specs.Timers.{timer_name, WithTimers, is_watchable, watched_at, limit_at, timer_declaration, timers_from}
use Rattle.grammar.specs.Derivation.{Stands, Spells, IsName, as_written, normal, normals}
use Rattle.grammar.specs.Spelled.{DeclaresTimer, declares_timer, DeclareTimers, Apart, Distinct}
use Rattle.grammar.specs.Spelled as S
use Rattle.grammar.specs.Inner.Names.{Named}
use Rattle.grammar.proofs.Bytes.{part_length}
use Rattle.grammar.proofs.Distinct.{distinct_at}
use Rattle.grammar.proofs.Normal.{seen_id}
use Rattle.grammar.proofs.Standing.{at_kind, split, stands_in, spells_in, is_read, written}
use Rattle.grammar.proofs.Phrases.{signs, fixed_at, name_at_lem, phrase_reads}
use Rattle.grammar.proofs.DerivedTimers.{place_behind, normals_append, ranges_in, range_front, Limited}
use Rattle.grammar.proofs.ConverseDeclarations.{name_reads}

-- ---- the first of several names

apart_front : (w : List ℕ) (k l : List Name) → Apart w (spellings (k ++ l)) → Apart w (spellings k)
apart_front w [] l a = tt
apart_front w (x ∷ k) l a = (a.0, apart_front w k l a.1)

pub distinct_front : (k l : List Name) → Distinct (spellings (k ++ l)) → Distinct (spellings k)
distinct_front [] l d = tt
distinct_front (x ∷ k) l d = (apart_front x.spelling k l d.0, distinct_front k l d.1)

named_front : (k l : List Name) → Named (spellings (k ++ l)) → Named (spellings k)
named_front k l g =
    record {
      distinct = distinct_front k l g.distinct;
      each = λ i w e. g.each i w (subst (λ (y : List (List ℕ)). get_elem? y i ≡ some w) (sym (map-append (λ (x : Name). x.spelling) k l)) (place_behind (spellings k) (spellings l) i w e));
    }

watchable_goes : (inputs first : ℕ) (names : List Name) (i : ℕ) → inputs ≤ i → i < first → is_binary (range_at (ranges_in names) i) ≡ true → is_watchable inputs first names i ≡ true
unfolding is_watchable
watchable_goes inputs first names i h l e = rw (le-leb inputs i h, lt-ltb i first l, e)

module _ (text : List ℕ) (inputs : ℕ) (base : List Name) where
  -- ---- w and N

  watched_reads : (names extra : List Name) → names ≡ base ++ extra → Named (spellings names) → (w : List ℕ) (i : ℕ) → IsName w → get_elem? (normals (spellings base)) i ≡ some (normal w) → is_watchable inputs (length base) names i ≡ true → (a n : ℕ) → a ≤ length text → Stands as_written text a n w → watched_at text inputs (length base) names a ≡ accepted i n
  unfolding watched_at with_id over_long is kind_number
  watched_reads names extra same good w i nm at watchable a n h st =
      let mv = token_at_moved text a st.kind st.start n h (is_read st) in
      let lw : length w ≡ n - st.start = sym (ap length st.spelled) ∙ part_length text st.start n mv.1 mv.2 in
      let all : get_elem? (normals (spellings names)) i ≡ some (normal w) =
      subst (λ (l : List Name). get_elem? (normals (spellings l)) i ≡ some (normal w)) (sym same) (subst (λ (l : List (List ℕ)). get_elem? l i ≡ some (normal w)) (sym (normals_append base extra)) (place_behind (normals (spellings base)) (normals (spellings extra)) i (normal w) at)) in
      rw (name_at_lem written text w nm a n h st, st.spelled, le-ltb 16 (n - st.start) (omega arith), seen_id (spellings names) good i (normal w) all w (record { is_word = nm.is_word; no_word = nm.no_word }) refl, watchable)

  limit_reads : (w : List ℕ) → IsDigits w → (v : ℕ) → v ≡ value_of w → 1 ≤ v → v ≤ time_limit → (a n : ℕ) → a ≤ length text → Stands as_written text a n w → limit_at text a ≡ accepted v n
  unfolding limit_at is kind_number
  limit_reads w d v e least most a n h st = rw (at_kind written text digits w d a n h st, st.spelled, ← e, le-leb 1 v least, le-leb v time_limit most)

  -- ---- a timer

  -- the names and timers with one more
  abbrev pub with_one : WithTimers → Name → Timer → WithTimers
  with_one x t y = record { names = x.names ++ (t ∷ []); timers = x.timers ++ (y ∷ []) }

  -- where a timer's word stands, and what is read after it
  record TimerReads (x : WithTimers) (a m : ℕ) (t : Name) (y : Timer) : Type 0 where
    start : ℕ
    place : ℕ
    is_word : token_at text a ≡ token timer_word start place
    reads : timer_declaration text inputs (length base) x place ≡ accepted (with_one x t y) m

  timer_goes : (x : WithTimers) (t : List ℕ) (v m a n1 n2 n3 n4 n5 n6 : ℕ) → new_name text x.names a ≡ accepted t n1 → phrase text (sign of_word ∷ []) n1 ≡ accepted tt n2 → watched_at text inputs (length base) (x.names ++ (timer_name t ∷ [])) n2 ≡ accepted v n3 → phrase text (sign limit_word ∷ []) n3 ≡ accepted tt n4 → limit_at text n4 ≡ accepted m n5 → phrase text (sign semicolon ∷ []) n5 ≡ accepted tt n6
      → timer_declaration text inputs (length base) x a ≡ accepted (with_one x (timer_name t) (record { id = length x.names; watched = v; limit = m })) n6
  unfolding timer_declaration followed
  timer_goes x t v m a n1 n2 n3 n4 n5 n6 e1 e2 e3 e4 e5 e6 = rw (e1, e2, e3, e4, e5, e6)

  timer_reads : (x : WithTimers) (extra : List Name) → x.names ≡ base ++ extra → (ts : List (List ℕ)) (t : Name) (y : Timer) → DeclaresTimer (normals (spellings base)) ts t y → Named (spellings (x.names ++ (t ∷ []))) → length x.names < 64 → y.id ≡ length x.names → Limited text inputs base y → (a m : ℕ) → a ≤ length text → Spells as_written text a m ts → TimerReads x a m t y
  unfolding signs is_fixed kind_number
  timer_reads x extra same ts t y (declares_timer s w z q nm nw at dz v) good room num fits a m h g =
      let n0 = g.0 in
      let i0 = (stands_in written text a n0 (bytes "timer") h g.1).1 in
      let g1 = g.2 in
      let n1 = g1.0 in
      let i1 = (stands_in written text n0 n1 s i0 g1.1).1 in
      let g2 = g1.2 in
      let n2 = g2.0 in
      let i2 = (stands_in written text n1 n2 (bytes "of") i1 g2.1).1 in
      let g3 = g2.2 in
      let n3 = g3.0 in
      let i3 = (stands_in written text n2 n3 w i2 g3.1).1 in
      let g4 = g3.2 in
      let n4 = g4.0 in
      let i4 = (stands_in written text n3 n4 (bytes "limit") i3 g4.1).1 in
      let g5 = g4.2 in
      let n5 = g5.0 in
      let i5 = (stands_in written text n4 n5 z i4 g5.1).1 in
      let names = x.names ++ (timer_name s ∷ []) in
      let all : names ≡ base ++ (extra ++ (timer_name s ∷ [])) = ap (λ (l : List Name). l ++ (timer_name s ∷ [])) same ∙ append_assoc base extra (timer_name s ∷ []) in
      let apart : Apart s (spellings x.names) = distinct_at (spellings x.names) s [] (subst Distinct (map-append (λ (x : Name). x.spelling) x.names (timer_name s ∷ [])) good.distinct) in
      let binary : is_binary (range_at (ranges_in names) y.watched) ≡ true = ap is_binary (ap (λ (l : List Name). range_at (ranges_in l) y.watched) all ∙ range_front base (extra ++ (timer_name s ∷ [])) y.watched fits.no_timer_lem) ∙ T_true (is_binary (range_at (ranges_in base) y.watched)) fits.binary in
      let watchable = watchable_goes inputs (length base) names y.watched fits.a_variable fits.no_timer_lem binary in
      let is_y : y ≡ record { id = length x.names; watched = y.watched; limit = y.limit } = ap (λ (i : ℕ). record { id = i; watched = y.watched; limit = y.limit }) num in
      record {
        start = g.1.start;
        place = n0;
        is_word = fixed_at written text timer_word refl a n0 h g.1;
        reads = timer_goes x s y.watched y.limit n0 n1 n2 n3 n4 n5 m
            (name_reads text x.names s nm apart room n0 n1 i0 g1.1)
            (phrase_reads written text (sign of_word ∷ []) refl tt n1 n2 i1 (n2, g2.1, refl))
            (watched_reads names (extra ++ (timer_name s ∷ [])) all good w y.watched nw at watchable n2 n3 i2 g3.1)
            (phrase_reads written text (sign limit_word ∷ []) refl tt n3 n4 i3 (n4, g4.1, refl))
            (limit_reads z dz y.limit v fits.least fits.most n4 n5 i4 g5.1)
            (phrase_reads written text (sign semicolon ∷ []) refl tt n5 m i5 g5.2)
            ∙ ap (λ (u : Timer). accepted (with_one x (timer_name s) u) m) (sym is_y);
      }

  -- ---- all timers

  timers_on : (f : ℕ) (x y : WithTimers) (a s n m : ℕ) → token_at text a ≡ token timer_word s n → timer_declaration text inputs (length base) x n ≡ accepted y m → timers_from (suc f) text inputs (length base) x a ≡ timers_from f text inputs (length base) y m
  unfolding timers_from is kind_number
  timers_on f x y a s n m et e = rw (et, e)

  timers_stop : (f : ℕ) (x : WithTimers) (k : Kind) (a s n : ℕ) → token_at text a ≡ token k s n → is k timer_word ≡ false → timers_from f text inputs (length base) x a ≡ accepted x a
  unfolding timers_from
  timers_stop zero x k a s n et e = refl
  timers_stop (suc f) x k a s n et e = rw (et, e)

  abbrev both : List Name → List Timer → WithTimers
  both l xs = record { names = l; timers = xs }

  joined : (k l : List Name) (xs ys : List Timer) → k ≡ l → xs ≡ ys → (n : ℕ) → accepted (both k xs) n ≡ accepted (both l ys) n
  joined k l xs ys e f n = ap₂ (λ (y : List Name) (z : List Timer). accepted (both y z) n) e f

  pub timers_read : (f : ℕ) (x : WithTimers) (extra : List Name) → x.names ≡ base ++ extra → (ts : List (List ℕ)) (l : List Name) (xs : List Timer) → DeclareTimers (normals (spellings base)) ts l xs → Named (spellings (x.names ++ l)) → length x.names + length l ≤ 64 → length l ≤ f → (e : ℕ) → Numbered (length x.names) e xs → EachTimer (Limited text inputs base) xs → (a n : ℕ) → a ≤ length text → Spells as_written text a n ts → (k : Kind) (s m : ℕ) → token_at text n ≡ token k s m → is k timer_word ≡ false → timers_from f text inputs (length base) x a ≡ accepted (record { names = x.names ++ l; timers = x.timers ++ xs }) n
  timers_read f x extra same ts l xs S.DeclareTimers.none good few fuel e num each a n h g k s m et nw =
      subst (λ (y : ℕ). timers_from f text inputs (length base) x a ≡ accepted (record { names = x.names ++ []; timers = x.timers ++ [] }) y) g
      (timers_stop f x k a s m (subst (λ (y : ℕ). token_at text y ≡ token k s m) (sym g) et) nw ∙ joined x.names (x.names ++ []) x.timers (x.timers ++ []) (sym (append-nil x.names)) (sym (append-nil x.timers)) a)
  timers_read zero x extra same ts l xs (S.DeclareTimers.more us vs t j y ys d r) good few fuel e num each a n h g k s m et nw = absurd (omega arith)
  timers_read (suc f) x extra same ts l xs (S.DeclareTimers.more us vs t j y ys d r) good few fuel e num each a n h g k s m et nw =
      let p = split written text a n us vs g in
      let i = (spells_in written text a p.place us h p.first).1 in
      let all : (x.names ++ (t ∷ [])) ++ j ≡ x.names ++ (t ∷ j) = append_assoc x.names (t ∷ []) j in
      let good2 : Named (spellings ((x.names ++ (t ∷ [])) ++ j)) = subst (λ (l : List Name). Named (spellings l)) (sym all) good in
      let c = timer_reads x extra same us t y d (named_front (x.names ++ (t ∷ [])) j good2) (omega arith) num.0 each.0 a p.place h p.first in
      let one : length (x.names ++ (t ∷ [])) ≡ length x.names + 1 = length-append x.names (t ∷ []) in
      let one2 : suc (length x.names) ≡ length (x.names ++ (t ∷ [])) = omega arith in
      timers_on f x (with_one x t y) a c.start c.place p.place c.is_word c.reads
      ∙ (timers_read f (with_one x t y) (extra ++ (t ∷ [])) (ap (λ (l : List Name). l ++ (t ∷ [])) same ∙ append_assoc base extra (t ∷ [])) vs j ys r good2 (omega arith) (omega arith) e (subst (λ (q : ℕ). Numbered q e ys) one2 num.1) each.1 p.place n i p.second k s m et nw
      ∙ joined ((x.names ++ (t ∷ [])) ++ j) (x.names ++ (t ∷ j)) ((x.timers ++ (y ∷ [])) ++ ys) (x.timers ++ (y ∷ ys)) all (append_assoc x.timers (y ∷ []) ys) n)
