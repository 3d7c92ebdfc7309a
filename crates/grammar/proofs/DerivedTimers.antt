-- Timers that are accepted are spelled by the tokens that were read: their names are new, each w is a `var` of range 0..1, and each N in limit.
-- Assumes nothing.
use mathlib.Core.Path.{◌≡◌, refl, ap, sym, ◌∙◌, subst}
use mathlib.Core.List.{List, [], ◌∷◌, ◌++◌, map, append_assoc, append-nil, map-append}
use mathlib.Core.Bool.{true, ◌&&◌}
use mathlib.Core.Option.{some}
use Prim.Native.Nat.{ℕ, zero, suc, ◌-◌, ◌≤◌, ◌<◌}
use native.Mathlib.Omega.{arith}
use lib.ListN.{length, get_elem?, length-append, length-map, get_or-append}
use lib.Dec.{T, ltb, leb}
use borrow.Author.Tests.{ltb-true, ltb-false, leb-true}
use Rattle.limits.specs.Limits.{time_limit}
use Rattle.arith.proofs.Basics.{and_both, true_T}
use Rattle.lexer.specs.Bytes.{bytes, part}
use Rattle.lexer.specs.Token.{kind_number, name, digits, timer_word, of_word, limit_word, semicolon, is}
use Rattle.lexer.specs.Lexer.{token_at, over_long, value_of}
use Rattle.lexer.specs.Names.{id_of}
use Rattle.lexer.specs.Spelling.{IsDigits}
use Rattle.lexer.proofs.Laws.{cond_prop, token_at_moved}
use Rattle.lexer.proofs.Spellings.{is_fixed, word_not}
use Rattle.semantics.specs.Program.{Range, Name, Timer, Rule, Watch, Program, no_range, range_at, ranges_of, bit_range, is_binary, first_timer, Numbered, EachTimer, TimerFits, TimersFit}
use Rattle.semantics.proofs.Timers.{each_map, each_both, numbered_length}
use Rattle.grammar.specs.Parsed.{Parsed, accepted, refused, sign, phrase, followed}
use Rattle.grammar.specs.Expressions.{with_id}
use Rattle.grammar.specs.Declarations.{spellings, new_name}
use Rattle.grammar.specs.Timers.{timer_name, WithTimers, is_watchable, watched_at, limit_at, timer_declaration, timers_from}
use Rattle.grammar.specs.Derivation.{Stands, Spells, IsName, as_written, normal, normals}
use Rattle.grammar.specs.Spelled.{DeclaresTimer, declares_timer, DeclareTimers}
use Rattle.grammar.specs.Spelled as S
use Rattle.grammar.proofs.Combine.{token_prop, then_prop, option_prop}
use Rattle.grammar.proofs.Bytes.{part_length}
use Rattle.grammar.proofs.Normal.{id_names}
use Rattle.grammar.proofs.Standing.{spells_append, spells_in, written}
use Rattle.grammar.proofs.Phrases.{signs, fixed_stands, phrase_spells}
use Rattle.grammar.proofs.Derived.{Derives, sign_stands}
use Rattle.grammar.proofs.DerivedDeclarations.{Fresh, name_derives}

-- ---- names, and more behind them

pub place_front : {A : Type 0} (l r : List A) (i : ℕ) (x : A) → i < length l → get_elem? (l ++ r) i ≡ some x → get_elem? l i ≡ some x
place_front [] r i x h e = absurd (omega arith)
place_front (y ∷ l) r zero x h e = e
place_front (y ∷ l) r (suc i) x h e = place_front l r i x (omega arith) e

pub place_behind : {A : Type 0} (l r : List A) (i : ℕ) (x : A) → get_elem? l i ≡ some x → get_elem? (l ++ r) i ≡ some x
place_behind [] r i x e = let z : ◌≡◌ {A = ℕ} 0 1 = cc in absurd (omega arith)
place_behind (y ∷ l) r zero x e = e
place_behind (y ∷ l) r (suc i) x e = place_behind l r i x e

-- the names as the rule forms know them
pub normals_append : (k l : List Name) → normals (spellings (k ++ l)) ≡ normals (spellings k) ++ normals (spellings l)
normals_append k l = ap normals (map-append (λ (x : Name). x.spelling) k l) ∙ map-append normal (spellings k) (spellings l)

pub normals_length : (l : List Name) → length (normals (spellings l)) ≡ length l
normals_length l = length-map (spellings l) normal ∙ length-map l (λ x. x.spelling)

abbrev pub ranges_in : List Name → List Range
ranges_in l = map (λ x. x.range) l

pub range_front : (k l : List Name) (i : ℕ) → i < length k → range_at (ranges_in (k ++ l)) i ≡ range_at (ranges_in k) i
range_front k l i h =
    ap (λ (ns : List Range). range_at ns i) (map-append (λ (x : Name). x.range) k l)
    ∙ get_or-append (ranges_in k) (ranges_in l) no_range i (omega (arith, length-map k (λ (x : Name). x.range)))

pub watchable_is : (inputs first : ℕ) (names : List Name) (i : ℕ) → is_watchable inputs first names i ≡ true → (inputs ≤ i) × (i < first) × (is_binary (range_at (ranges_in names) i) ≡ true)
unfolding is_watchable
watchable_is inputs first names i e =
    let b = and_both (leb inputs i && ltb i first) (is_binary (range_at (ranges_in names) i)) e in
    let a = and_both (leb inputs i) (ltb i first) b.0 in
    (leb-true inputs i a.0, ltb-true i first a.1, b.1)

-- `base` are the inputs, so many of them, and the variables
module _ (text : List ℕ) (inputs : ℕ) (base : List Name) where
  -- ---- w

  record Watched (ts : List (List ℕ)) (i : ℕ) : Type 0 where
    spelling : List ℕ
    is_token : ts ≡ spelling ∷ []
    is_name : IsName spelling
    at_place : get_elem? (normals (spellings base)) i ≡ some (normal spelling)
    a_variable : inputs ≤ i
    no_timer_lem : i < length base
    binary : T (is_binary (range_at (ranges_in base) i))

  watched_derives : (names extra : List Name) → names ≡ base ++ extra → (a : ℕ) → a ≤ length text → Derives written text Watched a (watched_at text inputs (length base) names a)
  unfolding watched_at with_id over_long is kind_number
  watched_derives names extra same a h =
      token_prop P (token_at text a) _ (λ k q. tt)
      (λ k s n et.
      let mv = token_at_moved text a k s n h et in
      let w = part text s n in
      let lw : length w ≡ n - s = part_length text s n mv.1 mv.2 in
      cond_prop P (is k name) _ _
      (λ e.
      let r = sign_stands written text name refl a k s n h et e in
      cond_prop P (ltb 16 (n - s)) _ _ (λ t. tt)
      (λ t. option_prop P (id_of (spellings names) w) _ _ (λ z. tt)
      (λ i ei. cond_prop P (is_watchable inputs (length base) names i) _ _
      (λ t2.
      let f = watchable_is inputs (length base) names i t2 in
      let all : get_elem? (normals (spellings (base ++ extra))) i ≡ some (normal w) = subst (λ (l : List Name). get_elem? (normals (spellings l)) i ≡ some (normal w)) same (id_names (spellings names) w i (word_not w r.1.no_word) ei) in
      record {
        tokens = w ∷ [];
        spells = (n, r.0, refl);
        derives = record {
          spelling = w;
          is_token = refl;
          is_name = record { is_word = r.1.is_word; short = omega (arith, ltb-false 16 (n - s) t); no_word = r.1.no_word };
          at_place = place_front (normals (spellings base)) (normals (spellings extra)) i (normal w) (omega (arith, f.1, normals_length base)) (subst (λ (l : List (List ℕ)). get_elem? l i ≡ some (normal w)) (normals_append base extra) all);
          a_variable = f.0;
          no_timer_lem = f.1;
          binary = true_T (is_binary (range_at (ranges_in base) i)) (ap is_binary (sym (ap (λ (l : List Name). range_at (ranges_in l) i) same ∙ range_front base extra i f.1)) ∙ f.2);
        };
      })
      (λ t2. tt))))
      (λ e. tt))
    where
      P : Parsed ℕ → Type 0
      P p = Derives written text Watched a p

  -- ---- N

  record LimitRead (ts : List (List ℕ)) (v : ℕ) : Type 0 where
    spelling : List ℕ
    is_token : ts ≡ spelling ∷ []
    are_digits : IsDigits spelling
    value : v ≡ value_of spelling
    least : 1 ≤ v
    most : v ≤ time_limit

  limit_derives : (a : ℕ) → a ≤ length text → Derives written text LimitRead a (limit_at text a)
  unfolding limit_at is kind_number
  limit_derives a h =
      token_prop P (token_at text a) _ (λ k q. tt)
      (λ k s n et.
      let w = part text s n in
      let v = value_of w in
      cond_prop P (is k digits) _ _
      (λ e.
      let r = sign_stands written text digits refl a k s n h et e in
      cond_prop P (leb 1 v && leb v time_limit) _ _
      (λ t.
      let b = and_both (leb 1 v) (leb v time_limit) t in
      record { tokens = w ∷ []; spells = (n, r.0, refl); derives = record { spelling = w; is_token = refl; are_digits = r.1; value = refl; least = leb-true 1 v b.0; most = leb-true v time_limit b.1 } })
      (λ t. tt))
      (λ e. tt))
    where
      P : Parsed ℕ → Type 0
      P p = Derives written text LimitRead a p

  -- ---- a timer, after its word

  pub record Limited (x : Timer) : Type 0 where
    pub a_variable : inputs ≤ x.watched
    pub no_timer_lem : x.watched < length base
    pub binary : T (is_binary (range_at (ranges_in base) x.watched))
    pub least : 1 ≤ x.limit
    pub most : x.limit ≤ time_limit

  pub record TimerRead (x : WithTimers) (ts : List (List ℕ)) (y : WithTimers) : Type 0 where
    pub spelling : List ℕ
    pub timer : Timer
    pub is_names : y.names ≡ x.names ++ (timer_name spelling ∷ [])
    pub is_timers : y.timers ≡ x.timers ++ (timer ∷ [])
    pub fresh : Fresh text x.names spelling
    pub is_id : timer.id ≡ length x.names
    pub limited : Limited timer
    pub derives : DeclaresTimer (normals (spellings base)) (bytes "timer" ∷ ts) (timer_name spelling) timer

  pub timer_derives : (x : WithTimers) (extra : List Name) → x.names ≡ base ++ extra → (a : ℕ) → a ≤ length text → Derives written text (TimerRead x) a (timer_declaration text inputs (length base) x a)
  unfolding timer_declaration followed signs is_fixed kind_number
  timer_derives x extra same a h =
      then_prop P (new_name text x.names a) _ (λ k q. tt)
      (λ t n1 e1.
      let d1 = subst (Derives written text (λ ts w. (ts ≡ w ∷ []) × Fresh text x.names w) a) e1 (name_derives text x.names a h) in
      let s1 : Spells as_written text a n1 (t ∷ []) = subst (Spells as_written text a n1) d1.derives.0 d1.spells in
      let i1 = (spells_in written text a n1 (t ∷ []) h s1).1 in
      then_prop P (phrase text (sign of_word ∷ []) n1) _ (λ k q. tt)
      (λ u n2 e2.
      let s2 = phrase_spells written text (sign of_word ∷ []) refl tt n1 u n2 i1 e2 in
      let i2 = (spells_in written text n1 n2 (bytes "of" ∷ []) i1 s2).1 in
      then_prop P (watched_at text inputs (length base) (x.names ++ (timer_name t ∷ [])) n2) _ (λ k q. tt)
      (λ v n3 e3.
      let all : x.names ++ (timer_name t ∷ []) ≡ base ++ (extra ++ (timer_name t ∷ [])) = ap (λ (l : List Name). l ++ (timer_name t ∷ [])) same ∙ append_assoc base extra (timer_name t ∷ []) in
      let d3 = subst (Derives written text Watched n2) e3 (watched_derives (x.names ++ (timer_name t ∷ [])) (extra ++ (timer_name t ∷ [])) all n2 i2) in
      let w = d3.derives.spelling in
      let s3 : Spells as_written text n2 n3 (w ∷ []) = subst (Spells as_written text n2 n3) d3.derives.is_token d3.spells in
      let i3 = (spells_in written text n2 n3 (w ∷ []) i2 s3).1 in
      then_prop P (phrase text (sign limit_word ∷ []) n3) _ (λ k q. tt)
      (λ u2 n4 e4.
      let s4 = phrase_spells written text (sign limit_word ∷ []) refl tt n3 u2 n4 i3 e4 in
      let i4 = (spells_in written text n3 n4 (bytes "limit" ∷ []) i3 s4).1 in
      then_prop P (limit_at text n4) _ (λ k q. tt)
      (λ m n5 e5.
      let d5 = subst (Derives written text LimitRead n4) e5 (limit_derives n4 i4) in
      let z = d5.derives.spelling in
      let s5 : Spells as_written text n4 n5 (z ∷ []) = subst (Spells as_written text n4 n5) d5.derives.is_token d5.spells in
      let i5 = (spells_in written text n4 n5 (z ∷ []) i4 s5).1 in
      then_prop P (phrase text (sign semicolon ∷ []) n5) _ (λ k q. tt)
      (λ u3 n6 e6.
      let s6 = phrase_spells written text (sign semicolon ∷ []) refl tt n5 u3 n6 i5 e6 in
      let s12 = spells_append written text a n1 n2 (t ∷ []) (bytes "of" ∷ []) s1 s2 in
      let s13 = spells_append written text a n2 n3 (t ∷ bytes "of" ∷ []) (w ∷ []) s12 s3 in
      let s14 = spells_append written text a n3 n4 (t ∷ bytes "of" ∷ w ∷ []) (bytes "limit" ∷ []) s13 s4 in
      let s15 = spells_append written text a n4 n5 (t ∷ bytes "of" ∷ w ∷ bytes "limit" ∷ []) (z ∷ []) s14 s5 in
      let fresh = d1.derives.1 in
      let new : Timer = record { id = length x.names; watched = v; limit = m } in
      record {
        tokens = t ∷ bytes "of" ∷ w ∷ bytes "limit" ∷ z ∷ bytes ";" ∷ [];
        spells = spells_append written text a n5 n6 (t ∷ bytes "of" ∷ w ∷ bytes "limit" ∷ z ∷ []) (bytes ";" ∷ []) s15 s6;
        derives = record {
          spelling = t;
          timer = new;
          is_names = refl;
          is_timers = refl;
          fresh = fresh;
          is_id = refl;
          limited = record { a_variable = d3.derives.a_variable; no_timer_lem = d3.derives.no_timer_lem; binary = d3.derives.binary; least = d5.derives.least; most = d5.derives.most };
          derives = declares_timer t w z new fresh.is_name d3.derives.is_name d3.derives.at_place d5.derives.are_digits d5.derives.value;
        };
      }))))))
    where
      P : Parsed WithTimers → Type 0
      P p = Derives written text (TimerRead x) a p

  -- ---- all timers

  pub record TimersRead (x : WithTimers) (a n : ℕ) (y : WithTimers) : Type 0 where
    pub names : List Name
    pub timers : List Timer
    pub is_names : y.names ≡ x.names ++ names
    pub is_timers : y.timers ≡ x.timers ++ timers
    pub tokens : List (List ℕ)
    pub spells : Spells as_written text a n tokens
    pub derives : DeclareTimers (normals (spellings base)) tokens names timers
    pub numbered : Numbered (length x.names) (length y.names) timers
    pub each : EachTimer Limited timers

  abbrev pub TimersReads : WithTimers → ℕ → Parsed WithTimers → Type 0
  TimersReads x a (accepted y n) = TimersRead x a n y
  TimersReads x a (refused k q) = Unit {0}

  no_more : (x : WithTimers) (a : ℕ) → TimersRead x a a x
  no_more x a =
      record { names = []; timers = []; is_names = sym (append-nil x.names); is_timers = sym (append-nil x.timers); tokens = []; spells = refl; derives = S.DeclareTimers.none; numbered = refl; each = tt }

  pub timers_derive : (f : ℕ) (x : WithTimers) (extra : List Name) → x.names ≡ base ++ extra → (a : ℕ) → a ≤ length text → TimersReads x a (timers_from f text inputs (length base) x a)
  unfolding timers_from is_fixed kind_number
  timers_derive zero x extra same a h = no_more x a
  timers_derive (suc f) x extra same a h =
      token_prop (TimersReads x a) (token_at text a) _ (λ k q. tt)
      (λ k s n et.
      let mv = token_at_moved text a k s n h et in
      cond_prop (TimersReads x a) (is k timer_word) _ _
      (λ e. then_prop (TimersReads x a) (timer_declaration text inputs (length base) x n) _ (λ k q. tt)
      (λ y m ey.
      let d = subst (Derives written text (TimerRead x) n) ey (timer_derives x extra same n mv.2) in
      let t = timer_name d.derives.spelling in
      let all : y.names ≡ base ++ (extra ++ (t ∷ [])) = d.derives.is_names ∙ (ap (λ (l : List Name). l ++ (t ∷ [])) same ∙ append_assoc base extra (t ∷ [])) in
      next n m y (fixed_stands written text timer_word refl a k s n h et e) d.tokens d.spells d.derives
      (timers_from f text inputs (length base) y m) (timers_derive f y (extra ++ (t ∷ [])) all m (spells_in written text n m d.tokens mv.2 d.spells).1)))
      (λ e. no_more x a))
    where
      next : (n m : ℕ) (y : WithTimers) → Stands as_written text a n (bytes "timer") → (ts : List (List ℕ)) → Spells as_written text n m ts → TimerRead x ts y → (p : Parsed WithTimers) → TimersReads y m p → TimersReads x a p
      next n m y st ts sp d (accepted z i) r =
          let t = timer_name d.spelling in
          let one : length y.names ≡ suc (length x.names) = omega (arith, ap length d.is_names, length-append x.names (t ∷ [])) in
          record {
            names = t ∷ r.names;
            timers = d.timer ∷ r.timers;
            is_names = r.is_names ∙ (ap (λ (l : List Name). l ++ r.names) d.is_names ∙ append_assoc x.names (t ∷ []) r.names);
            is_timers = r.is_timers ∙ (ap (λ (l : List Timer). l ++ r.timers) d.is_timers ∙ append_assoc x.timers (d.timer ∷ []) r.timers);
            tokens = (bytes "timer" ∷ ts) ++ r.tokens;
            spells = spells_append written text a m i (bytes "timer" ∷ ts) r.tokens (n, st, sp) r.spells;
            derives = S.DeclareTimers.more (bytes "timer" ∷ ts) r.tokens t r.names d.timer r.timers d.derives r.derives;
            numbered = (d.is_id, subst (λ (j : ℕ). Numbered j (length z.names) r.timers) one r.numbered);
            each = (d.limited, r.each);
          }
      next n m y st ts sp d (refused k q) r = tt

-- ---- the timers of a whole text

-- as many names as timers
pub timers_counted : (ns ts : List (List ℕ)) (l : List Name) (xs : List Timer) → DeclareTimers ns ts l xs → length l ≡ length xs
timers_counted ns ts l xs S.DeclareTimers.none = refl
timers_counted ns ts l xs (S.DeclareTimers.more us vs t k x ys d r) = ap suc (timers_counted ns vs k ys r)

-- each is a name of range 0..1, starting at 0
pub timers_own : (ns : List (List ℕ)) (ts : List (List ℕ)) (l : List Name) (xs : List Timer) → DeclareTimers ns ts l xs → (b : List Name) (e : ℕ) → Numbered (length b) e xs → EachTimer (λ x. range_at (ranges_in (b ++ l)) x.id ≡ bit_range) xs
timers_own ns ts l xs S.DeclareTimers.none b e num = tt
timers_own ns ts l xs (S.DeclareTimers.more us vs t k x ys (declares_timer s w z y nm nw at dz v) r) b e num =
    let one : length (b ++ (t ∷ [])) ≡ suc (length b) = omega (arith, length-append b (t ∷ [])) in
    let same : (b ++ (t ∷ [])) ++ k ≡ b ++ (t ∷ k) = append_assoc b (t ∷ []) k in
    let rest = timers_own ns vs k ys r (b ++ (t ∷ [])) e (subst (λ (j : ℕ). Numbered j e ys) (sym one) num.1) in
    let here : range_at (ranges_in (b ++ (t ∷ k))) (length b) ≡ bit_range = first-behind b t k in
    (subst (λ (i : ℕ). range_at (ranges_in (b ++ (t ∷ k))) i ≡ bit_range) (sym num.0) here, subst (λ (l : List Name). EachTimer (λ x. range_at (ranges_in l) x.id ≡ bit_range) ys) same rest)
  where
    first-behind : (b : List Name) (t : Name) (k : List Name) → range_at (ranges_in (b ++ (t ∷ k))) (length b) ≡ t.range
    first-behind [] t k = refl
    first-behind (y ∷ b) t k = first-behind b t k

module _ (text : List ℕ) (inputs : ℕ) (base : List Name) (a n : ℕ) (y : WithTimers) (r : TimersRead text inputs base (record { names = base; timers = [] }) a n y) (rules : List Rule) (watches : List Watch) where
  abbrev whole : Program
  whole = record { inputs = inputs; names = y.names; timers = y.timers; rules = rules; watches = watches }

  first_is : first_timer whole ≡ length base
  first_is = omega (arith, length-map y.names (λ (x : Name). x.range), ap length r.is_timers, numbered_length (length base) (length y.names) r.timers r.numbered)

  pub timers_fit : TimersFit whole
  timers_fit =
      let count : length (ranges_of whole) ≡ length y.names = length-map y.names (λ (x : Name). x.range) in
      let num : Numbered (first_timer whole) (length (ranges_of whole)) r.timers = rw (first_is, count) r.numbered in
      let own = timers_own (normals (spellings base)) r.tokens r.names r.timers r.derives base (length y.names) r.numbered in
      let fits = each_map (λ x. (range_at (ranges_in (base ++ r.names)) x.id ≡ bit_range) × Limited text inputs base x) (TimerFits (ranges_of whole) inputs (first_timer whole))
      (λ x h.
      record {
        own = subst (λ (l : List Name). range_at (ranges_in l) x.id ≡ bit_range) (sym r.is_names) h.0;
        a_variable = h.1.a_variable;
        no_timer_lem = omega (arith, first_is, h.1.no_timer_lem);
        binary = subst (λ (g : Range). T (is_binary g)) (sym (ap (λ (l : List Name). range_at (ranges_in l) x.watched) r.is_names ∙ range_front base r.names x.watched h.1.no_timer_lem)) h.1.binary;
        least = h.1.least;
        most = h.1.most;
      }) r.timers (each_both (λ x. range_at (ranges_in (base ++ r.names)) x.id ≡ bit_range) (Limited text inputs base) r.timers own r.each) in
      record { numbered = subst (Numbered (first_timer whole) (length (ranges_of whole))) (sym r.is_timers) num; each = subst (EachTimer (TimerFits (ranges_of whole) inputs (first_timer whole))) (sym r.is_timers) fits }
