-- 21 is answered at the first declared name that is a word of Structured Text, or at the first timer. Assumes nothing.
use Prim.Native.Nat.{ℕ, zero, suc, ◌+◌, ◌-◌, ◌≤◌}
use native.Mathlib.Omega.{arith}
use mathlib.Core.Path.{◌≡◌, refl, sym, ap, ◌∙◌, subst}
use mathlib.Core.Bool.{Bool, true, false, not, cond, false≢true}
use mathlib.Core.List.{List, [], ◌∷◌, ◌++◌, append_assoc, append-nil}
use mathlib.Core.Logic.{◌⊎◌, inl, inr}
use lib.IntN.{ℤ}
use lib.ListN.{length, take, length-append, length-map}
use Rattle.arith.proofs.Basics.{and_both}
use Rattle.limits.specs.Answer.{accepted}
use Rattle.lexer.specs.Bytes.{bytes, part, capitals}
use Rattle.lexer.specs.Token.{Kind, name, ending, input_word, var_word, timer_word, kind_number, spelling_of, is, TokenRead, token}
use Rattle.lexer.specs.Lexer.{is_digit, token_at}
use Rattle.lexer.specs.Spelling.{Spelling, IsDigits, Separated, TokenFrom}
use Rattle.lexer.proofs.Same.{same_kind}
use Rattle.lexer.proofs.Spellings.{is_fixed}
use Rattle.semantics.specs.Program.{Range, Name, Timer, Program, first_timer}
use Rattle.grammar.specs.Derivation.{as_written, Stands, Spells, IsName}
use Rattle.grammar.specs.Spelled as S
use Rattle.grammar.specs.Spelled.{SpellsZ, SpellsStart, Declares, DeclareAll, DeclaresTimer, DeclareTimers, names_of, Spelled}
use Rattle.grammar.specs.Parse.{program_of}
use Rattle.grammar.proofs.Growth.{bytes_of, spells_bytes}
use Rattle.grammar.proofs.Standing.{written, is_read, spells_append, split, stands_in, spells_in}
use Rattle.grammar.proofs.Phrases.{fixed_at, name_at_lem}
use Rattle.grammar.proofs.ConverseText.{accepted_exactly}
use Rattle.grammar.proofs.DerivedTimers.{timers_counted}
use Rattle.st_program.specs.Written.{is_st_word, none_st_word, has_st}
use Rattle.st_program.proofs.FirstStore.{spelled, spelled_append}
use Rattle.structured_text.specs.Services.{declares_name, reserved_from, reserved_place}
use Rattle.structured_text.proofs.SolePlace.{sole_outside}
use Rattle.structured_text.specs.Place.{DeclaredIn, none, a_declared, another, FirstReserved, NoneTimer, FirstOutside, a_name, a_timer, OutsideAt}

-- ---- tokens that declare nothing

abbrev Plain : List ℕ → Type 0
Plain w = (w ≡ bytes "input" → ⊥) × (w ≡ bytes "var" → ⊥) × (w ≡ bytes "timer" → ⊥)

abbrev AllPlain : List (List ℕ) → Type 0
AllPlain [] = Unit {0}
AllPlain (w ∷ ws) = Plain w × AllPlain ws

plain_append : (ts us : List (List ℕ)) → AllPlain ts → AllPlain us → AllPlain (ts ++ us)
plain_append [] us h g = g
plain_append (t ∷ ts) us h g = (h.0, plain_append ts us h.1 g)

-- of another length than 5 and 3
length_plain : (w : List ℕ) (n : ℕ) → length w ≡ n → (n ≡ 5 → ⊥) → (n ≡ 3 → ⊥) → Plain w
length_plain w n e f g = ((λ q. f (sym e ∙ ap {A = List ℕ} length q)), (λ q. g (sym e ∙ ap {A = List ℕ} length q)), (λ q. f (sym e ∙ ap {A = List ℕ} length q)))

heads : {x y : ℕ} {k l : List ℕ} → x ∷ k ≡ y ∷ l → x ≡ y
heads e = cc

digits_plain : (w : List ℕ) → IsDigits w → Plain w
unfolding is_digit
digits_plain [] d = absurd d
digits_plain (b ∷ l) d = ((λ q. false≢true (sym (ap is_digit (heads q)) ∙ d.0)), (λ q. false≢true (sym (ap is_digit (heads q)) ∙ d.0)), (λ q. false≢true (sym (ap is_digit (heads q)) ∙ d.0)))

one_plain : (b : ℕ) → Plain (b ∷ [])
one_plain b = length_plain (b ∷ []) 1 refl (λ e. omega arith) (λ e. omega arith)

number_plain : (ts : List (List ℕ)) (z : ℤ) → SpellsZ ts z → AllPlain ts
number_plain ts z (S.SpellsZ.positive w d) = (digits_plain w d, tt)
number_plain ts z (S.SpellsZ.negative w d) = (one_plain 45, (digits_plain w d, tt))

start_plain : (ts : List (List ℕ)) (z : ℤ) → SpellsStart ts z → AllPlain ts
start_plain ts z S.SpellsStart.absent = tt
start_plain ts z (S.SpellsStart.given us y d) = (length_plain (bytes "init") 4 refl (λ e. omega arith) (λ e. omega arith), number_plain us y d)

-- what stands behind a declared name
bounds_plain : (ls hs ss : List (List ℕ)) (r : Range) → SpellsZ ls r.low → SpellsZ hs r.high → SpellsStart ss r.start → AllPlain (((ls ++ bytes ".." ∷ hs) ++ ss) ++ bytes ";" ∷ [])
bounds_plain ls hs ss r dl dh ds =
    plain_append ((ls ++ bytes ".." ∷ hs) ++ ss) (bytes ";" ∷ []) (plain_append (ls ++ bytes ".." ∷ hs) ss
    (plain_append ls (bytes ".." ∷ hs) (number_plain ls r.low dl) (length_plain (bytes "..") 2 refl (λ q. omega arith) (λ q. omega arith), number_plain hs r.high dh)) (start_plain ss r.start ds)) (one_plain 59, tt)

plain_declared : (ts : List (List ℕ)) → AllPlain ts → DeclaredIn ts []
plain_declared [] p = none
plain_declared (t ∷ ts) p = another t ts [] p.0.0 p.0.1 (plain_declared ts p.1)

declared_append : {ts us ws vs : List (List ℕ)} → DeclaredIn ts ws → DeclaredIn us vs → DeclaredIn (ts ++ us) (ws ++ vs)
declared_append none g = g
declared_append {us = us} {vs = vs} (a_declared k w ts ws o d) g = a_declared k w (ts ++ us) (ws ++ vs) o (declared_append d g)
declared_append {us = us} {vs = vs} (another t ts ws i v d) g = another t (ts ++ us) (ws ++ vs) i v (declared_append d g)

declaring : (k : Kind) → (k ≡ input_word) ⊎ (k ≡ var_word) → (spelling_of k ≡ bytes "input") ⊎ (spelling_of k ≡ bytes "var")
declaring k (inl e) = inl (ap spelling_of e)
declaring k (inr e) = inr (ap spelling_of e)

none_both : (ws vs : List (List ℕ)) → none_st_word ws ≡ true → none_st_word vs ≡ true → none_st_word (ws ++ vs) ≡ true
none_both [] vs e f = f
none_both (w ∷ ws) vs e f = let x = and_both (not (is_st_word w)) (none_st_word ws) e in rw x.0 (none_both ws vs x.1 f)

-- ---- the walk

same_token_lem : (j k : Kind) (s n : ℕ) → ◌≡◌ {A = TokenRead} (token j s n) (token k s n) → j ≡ k
same_token_lem j k s n e = cc

never_is : (k j : Kind) → (k ≡ j → ⊥) → is k j ≡ false
never_is k j f = by (is k j) refl where
  by : (t : Bool) → is k j ≡ t → t ≡ false
  by true e = absurd (f (same_kind k j e))
  by false e = refl

module _ (text : List ℕ) where
  -- the kind of a token is none that spells something else
  other_kind : (a n : ℕ) (w : List ℕ) (st : Stands as_written text a n w) (k : Kind) → (Spelling k w → ⊥) → is st.kind k ≡ false
  other_kind a n w st k f =
      never_is st.kind k (λ e. f (subst (Spelling k) st.spelled (subst (λ (j : Kind). Spelling j (part text st.start n)) e st.is_token.spells)))

  pass : (f : ℕ) (a s n : ℕ) (k : Kind) → token_at text a ≡ token k s n → is k ending ≡ false → is k input_word ≡ false → is k var_word ≡ false → is k timer_word ≡ false → reserved_from (suc f) text false a ≡ reserved_from f text false n
  unfolding reserved_from
  pass f a s n k t e i v x = rw (t, e, i, v, x)

  walk_plain : (ts : List (List ℕ)) → AllPlain ts → (a b : ℕ) → a ≤ length text → Spells as_written text a b ts → (f : ℕ) → length ts ≤ f → reserved_from f text false a ≡ reserved_from (f - length ts) text false b
  walk_plain [] p a b h g f l = let e : f ≡ f - 0 = omega arith in ap (λ (n : ℕ). reserved_from f text false n) g ∙ ap (λ (n : ℕ). reserved_from n text false b) e
  walk_plain (w ∷ ts) p a b h g zero l = absurd (omega arith)
  walk_plain (w ∷ ts) p a b h g (suc f) l =
      let st = g.1 in
      let e : f - length ts ≡ suc f - length (w ∷ ts) = omega arith in
      pass f a st.start g.0 st.kind (is_read st) (other_kind a g.0 w st ending (λ x. x)) (other_kind a g.0 w st input_word (λ x. p.0.0 x)) (other_kind a g.0 w st var_word (λ x. p.0.1 x)) (other_kind a g.0 w st timer_word (λ x. p.0.2 x))
      ∙ walk_plain ts p.1 g.0 b (stands_in written text a g.0 w h st).1 g.2 f (omega arith)
      ∙ ap (λ (n : ℕ). reserved_from n text false b) e

  -- a word that declares, then a name
  two : (f : ℕ) (a s n t m : ℕ) (k : Kind) (w : List ℕ) → is k ending ≡ false → is k timer_word ≡ false → declares_name k ≡ true → token_at text a ≡ token k s n → token_at text n ≡ token name t m → part text t m ≡ w
      → reserved_from (suc (suc f)) text false a ≡ cond (is_st_word w) t (reserved_from f text false m)
  unfolding reserved_from is kind_number
  two f a s n t m k w e y d q r p = rw (q, e, y, d, r, p)

  -- one declaration
  record Declared (k : Kind) (x : Name) (ts : List (List ℕ)) (a b f : ℕ) : Type 0 where
    behind : ℕ
    declares : Stands as_written text a behind (spelling_of k)
    start : ℕ
    separated : Separated text behind start
    end : ℕ
    stands : TokenFrom text start end name
    spells : part text start end ≡ x.spelling
    names : DeclaredIn ts (x.spelling ∷ [])
    walks : reserved_from f text false a ≡ cond (is_st_word x.spelling) start (reserved_from (f - length ts) text false b)

  declared : (k : Kind) → (k ≡ input_word) ⊎ (k ≡ var_word) → is_fixed k ≡ true → is k ending ≡ false → is k timer_word ≡ false → declares_name k ≡ true → (ts : List (List ℕ)) (x : Name) → Declares (spelling_of k) ts x
      → (a b : ℕ) → a ≤ length text → Spells as_written text a b ts → (f : ℕ) → length ts ≤ f → Declared k x ts a b f
  declared k o fx e y d ts x (S.Declares.declares w ls hs ss r nm dl dh ds fits) a b h g zero l = absurd (omega arith)
  declared k o fx e y d ts x (S.Declares.declares w ls hs ss r nm dl dh ds fits) a b h g (suc zero) l = absurd (omega arith)
  declared k o fx e y d ts x (S.Declares.declares w ls hs ss r nm dl dh ds fits) a b h g (suc (suc f)) l =
      let rest = ((ls ++ bytes ".." ∷ hs) ++ ss) ++ bytes ";" ∷ [] in
      let plain = bounds_plain ls hs ss r dl dh ds in
      let n1 = g.0 in
      let st1 = g.1 in
      let h1 = (stands_in written text a n1 (spelling_of k) h st1).1 in
      let n2 = g.2.0 in
      let st2 = g.2.1 in
      let h2 = (stands_in written text n1 n2 w h1 st2).1 in
      let t2 = name_at_lem written text w nm n1 n2 h1 st2 in
      let fuel : f - length rest ≡ suc (suc f) - length (S.declaration_form (spelling_of k) w ls hs ss) = omega arith in
      record {
        behind = n1;
        declares = st1;
        start = st2.start;
        separated = st2.separated;
        end = n2;
        stands = subst (TokenFrom text st2.start n2) (same_token_lem st2.kind name st2.start n2 (sym (is_read st2) ∙ t2)) st2.is_token;
        spells = st2.spelled;
        names = a_declared (spelling_of k) w rest [] (declaring k o) (plain_declared rest plain);
        walks = two f a st1.start n1 st2.start n2 k w e y d (fixed_at written text k fx a n1 h st1) t2 st2.spelled
            ∙ ap (cond (is_st_word w) st2.start) (walk_plain rest plain n2 b h2 g.2.2 f (omega arith) ∙ ap (λ (n : ℕ). reserved_from n text false b) fuel);
      }

  -- up to a: tokens that declare the names listed, none of them a word of Structured Text
  record Before (names : List (List ℕ)) (a : ℕ) : Type 0 where
    tokens : List (List ℕ)
    declare : DeclaredIn tokens names
    none_reserved : none_st_word names ≡ true
    spells : Spells as_written text 0 a tokens

  -- what a walk over declarations shows: a reserved name, or none and where it goes on
  abbrev Walked : List (List ℕ) → List Name → List (List ℕ) → ℕ → ℕ → ℕ → Type 0
  Walked ws ns ts a b f = FirstReserved text (ws ++ spelled ns) (reserved_from f text false a) ⊎ (Before (ws ++ spelled ns) b × (reserved_from f text false a ≡ reserved_from (f - length ts) text false b))

  first_here : (k : Kind) → (k ≡ input_word) ⊎ (k ≡ var_word) → (ws : List (List ℕ)) (x : Name) (ns : List Name) (ts : List (List ℕ)) (a b f : ℕ) → Before ws a → (d : Declared k x ts a b f) → is_st_word x.spelling ≡ true
      → FirstReserved text (ws ++ spelled (x ∷ ns)) (reserved_from f text false a)
  first_here k o ws x ns ts a b f z d e =
      let q : reserved_from f text false a ≡ d.start = d.walks ∙ ap (λ (t : Bool). cond t d.start (reserved_from (f - length ts) text false b)) e in
      subst (FirstReserved text (ws ++ spelled (x ∷ ns))) (sym q)
      (record {
        earlier = ws;
        word = x.spelling;
        later = spelled ns;
        in_order = refl;
        none_earlier = z.none_reserved;
        reserved = e;
        tokens = z.tokens;
        declare_earlier = z.declare;
        declares = spelling_of k;
        is_declaring = declaring k o;
        behind = d.behind;
        spells_tokens = spells_append written text 0 a d.behind z.tokens (spelling_of k ∷ []) z.spells (d.behind, d.declares, refl);
        separated = d.separated;
        end = d.end;
        stands = d.stands;
        spells = d.spells;
      })

  one_more : (k : Kind) (ws : List (List ℕ)) (x : Name) (ts : List (List ℕ)) (a b f : ℕ) → Before ws a → Declared k x ts a b f → is_st_word x.spelling ≡ false → Spells as_written text a b ts → Before (ws ++ x.spelling ∷ []) b
  one_more k ws x ts a b f z d e g =
      record { tokens = z.tokens ++ ts; declare = declared_append z.declare d.names; none_reserved = none_both ws (x.spelling ∷ []) z.none_reserved (rw e); spells = spells_append written text 0 a b z.tokens ts z.spells g }

  all_walked : (k : Kind) → (k ≡ input_word) ⊎ (k ≡ var_word) → is_fixed k ≡ true → is k ending ≡ false → is k timer_word ≡ false → declares_name k ≡ true → (ts : List (List ℕ)) (ns : List Name) → DeclareAll (spelling_of k) ts ns
      → (ws : List (List ℕ)) (a b : ℕ) → a ≤ length text → Before ws a → Spells as_written text a b ts → (f : ℕ) → length ts ≤ f → Walked ws ns ts a b f
  all_walked k o fx e y d ts ns S.DeclareAll.none ws a b h z g f l =
      let q : f ≡ f - 0 = omega arith in
      inr (subst (λ (l : List (List ℕ)). Before l b) (sym (append-nil ws)) (subst (Before ws) g z), ap (λ (n : ℕ). reserved_from f text false n) g ∙ ap (λ (n : ℕ). reserved_from n text false b) q)
  all_walked k o fx e y d ts ns (S.DeclareAll.more us vs x xs dx r) ws a b h z g f l =
      let s = split written text a b us vs g in
      let m = length-append us vs in
      let one = declared k o fx e y d us x dx a s.place h s.first f (omega arith) in
      let mid = (spells_in written text a s.place us h s.first).1 in
      by (is_st_word x.spelling) refl s.place one s.first (λ z2. all_walked k o fx e y d vs xs r (ws ++ x.spelling ∷ []) s.place b mid z2 s.second (f - length us) (omega arith)) m where
        by : (t : Bool) → is_st_word x.spelling ≡ t → (c : ℕ) → Declared k x us a c f → Spells as_written text a c us → (Before (ws ++ x.spelling ∷ []) c → Walked (ws ++ x.spelling ∷ []) xs vs c b (f - length us))
            → length (us ++ vs) ≡ length us + length vs → Walked ws (x ∷ xs) (us ++ vs) a b f
        by true q c one g1 more m = inl (first_here k o ws x xs us a c f z one q)
        by false q c one g1 more m = go (more (one_more k ws x us a c f z one q g1)) where
          on : reserved_from f text false a ≡ reserved_from (f - length us) text false c
          on = one.walks ∙ ap (λ (t : Bool). cond t one.start (reserved_from (f - length us) text false c)) q

          joined : (ws ++ x.spelling ∷ []) ++ spelled xs ≡ ws ++ spelled (x ∷ xs)
          joined = append_assoc ws (x.spelling ∷ []) (spelled xs)

          go : Walked (ws ++ x.spelling ∷ []) xs vs c b (f - length us) → Walked ws (x ∷ xs) (us ++ vs) a b f
          go (inl w) = inl (subst (λ (l : List (List ℕ)). FirstReserved text l (reserved_from f text false a)) joined (subst (FirstReserved text ((ws ++ x.spelling ∷ []) ++ spelled xs)) (sym on) w))
          go (inr w) =
              let e2 : f - length us - length vs ≡ f - length (us ++ vs) = omega arith in
              inr (subst (λ (l : List (List ℕ)). Before l b) joined w.0, on ∙ w.1 ∙ ap (λ (n : ℕ). reserved_from n text false b) e2)

  more_names : (ws vs : List (List ℕ)) (place : ℕ) → FirstReserved text ws place → FirstReserved text (ws ++ vs) place
  more_names ws vs place r =
      record {
        earlier = r.earlier;
        word = r.word;
        later = r.later ++ vs;
        none_earlier = r.none_earlier;
        reserved = r.reserved;
        tokens = r.tokens;
        declare_earlier = r.declare_earlier;
        declares = r.declares;
        is_declaring = r.is_declaring;
        behind = r.behind;
        spells_tokens = r.spells_tokens;
        separated = r.separated;
        end = r.end;
        stands = r.stands;
        spells = r.spells;
        in_order = ap (λ (l : List (List ℕ)). l ++ vs) r.in_order ∙ append_assoc r.earlier (r.word ∷ r.later) vs;
      }

tokens_few : (ts : List (List ℕ)) → length ts ≤ bytes_of ts
tokens_few [] = omega arith
tokens_few (t ∷ ts) = let i = tokens_few ts in omega arith

input_facts : (is_fixed input_word ≡ true) × (is input_word ending ≡ false) × (is input_word timer_word ≡ false) × (declares_name input_word ≡ true)
unfolding is_fixed is kind_number
input_facts = (refl, refl, refl, refl)

var_facts : (is_fixed var_word ≡ true) × (is var_word ending ≡ false) × (is var_word timer_word ≡ false) × (declares_name var_word ≡ true)
unfolding is_fixed is kind_number
var_facts = (refl, refl, refl, refl)

-- `timer` stands at the place, the first token from a on
record TimerAt (text : List ℕ) (a place : ℕ) : Type 0 where
  end : ℕ
  separated : Separated text a place
  stands : TokenFrom text place end timer_word

-- the timers: none, or the first stands where they begin
timers_walked : (text : List ℕ) (names : List (List ℕ)) (ts : List (List ℕ)) (ns : List Name) (xs : List Timer) → DeclareTimers names ts ns xs → (a b : ℕ) → a ≤ length text → Spells as_written text a b ts → (f : ℕ)
    → ((ns ≡ []) × (xs ≡ [])) ⊎ TimerAt text a (reserved_from (suc f) text false a)
unfolding reserved_from is kind_number is_fixed
timers_walked text names ts ns xs S.DeclareTimers.none a b h g f = inl (refl, refl)
timers_walked text names ts ns xs (S.DeclareTimers.more us vs t l x ys (S.DeclaresTimer.declares_timer w v n y nt nw i d e) r) a b h g f =
    let st = g.1 in
    let q = fixed_at written text timer_word refl a g.0 h st in
    inr (rw q (record { end = g.0; separated = st.separated; stands = subst (TokenFrom text st.start g.0) (same_token_lem st.kind timer_word st.start g.0 (sym (is_read st) ∙ q)) st.is_token }))

spelled_front : (ns ms : List Name) (n : ℕ) → n ≡ length ns → take n (spelled (ns ++ ms)) ≡ spelled ns
spelled_front ns ms n e = rw e (go ns) where
  go : (k : List Name) → take (length k) (spelled (k ++ ms)) ≡ spelled k
  go [] = refl
  go (x ∷ k) = ap (λ (l : List (List ℕ)). x.spelling ∷ l) (go k)

none_append : (ts us : List (List ℕ)) → NoneTimer ts → NoneTimer us → NoneTimer (ts ++ us)
none_append [] us h g = g
none_append (t ∷ ts) us h g = (h.0, none_append ts us h.1 g)

plain_none : (ts : List (List ℕ)) → AllPlain ts → NoneTimer ts
plain_none [] p = tt
plain_none (t ∷ ts) p = (p.0.2, plain_none ts p.1)

-- names are no words of the grammar
name_other : (w : List ℕ) → IsName w → w ≡ bytes "timer" → ⊥
name_other w n q = n.no_word.1.1.1.1.1.1.1.1.0 (ap capitals q)

all_none : (k : Kind) → (spelling_of k ≡ bytes "timer" → ⊥) → (ts : List (List ℕ)) (ns : List Name) → DeclareAll (spelling_of k) ts ns → NoneTimer ts
all_none k f ts ns S.DeclareAll.none = tt
all_none k f ts ns (S.DeclareAll.more us vs x xs (S.Declares.declares w ls hs ss r nm dl dh ds fits) d) =
    let rest = ((ls ++ bytes ".." ∷ hs) ++ ss) ++ bytes ";" ∷ [] in
    none_append (spelling_of k ∷ w ∷ rest) vs (f, (name_other w nm, plain_none rest (bounds_plain ls hs ss r dl dh ds))) (all_none k f vs xs d)

module _ (text : List ℕ) (p : Program) (s : Spelled text p) where
  -- the names before the timers
  names_before : take (first_timer p) (names_of p) ≡ spelled s.inputs ++ spelled s.variables
  names_before =
      let all = length-append (s.inputs ++ s.variables) s.timer_names in
      let n : length p.names ≡ length (s.inputs ++ s.variables ++ s.timer_names) = ap length s.names in
      let m = length-map p.names (λ x. x.range) in
      let c = timers_counted _ _ _ _ s.declares_timers in
      ap (λ (ns : List Name). take (first_timer p) (spelled ns)) s.names ∙ spelled_front (s.inputs ++ s.variables) s.timer_names (first_timer p) (omega arith) ∙ spelled_append s.inputs s.variables

  -- `timer` is none of the tokens before
  before_timers : NoneTimer (s.input_tokens ++ s.variable_tokens)
  before_timers = none_append s.input_tokens s.variable_tokens (all_none input_word (λ q. omega (arith, heads q)) s.input_tokens s.inputs s.declares_inputs) (all_none var_word (λ q. omega (arith, heads q)) s.variable_tokens s.variables s.declares_variables)

  -- where no name is reserved, a timer stands
  by_timer : has_st p ≡ false → none_st_word (spelled s.inputs ++ spelled s.variables) ≡ true → (d : ℕ) → Spells as_written text 0 d (s.input_tokens ++ s.variable_tokens)
      → (place : ℕ) → ((s.timer_names ≡ []) × (p.timers ≡ [])) ⊎ TimerAt text d place → FirstOutside text (spelled s.inputs ++ spelled s.variables) place
  unfolding has_st
  by_timer lacks free d g place (inr y) =
      a_timer (record { none_reserved = free; tokens = s.input_tokens ++ s.variable_tokens; behind = d; spells_tokens = g; none_timer = before_timers; separated = y.separated; end = y.end; stands = y.stands })
  by_timer lacks free d g place (inl z) =
      let q : names_of p ≡ spelled s.inputs ++ spelled s.variables = ap (λ (ns : List Name). spelled ns) (s.names ∙ ap (λ (ns : List Name). s.inputs ++ s.variables ++ ns) z.0 ∙ append-nil (s.inputs ++ s.variables)) ∙ spelled_append s.inputs s.variables in
      absurd (false≢true (sym lacks ∙ rw (z.1, q, free)))

  -- of the walks over the inputs and over the variables behind them
  walked_outside : has_st p ≡ false → (c d : ℕ) → Spells as_written text 0 d (s.input_tokens ++ s.variable_tokens) → Walked text [] s.inputs s.input_tokens 0 c (suc (length text))
      → (Before text (spelled s.inputs) c → Walked text (spelled s.inputs) s.variables s.variable_tokens c d (suc (length text) - length s.input_tokens))
      → ((s.timer_names ≡ []) × (p.timers ≡ [])) ⊎ TimerAt text d (reserved_from (suc (length text) - length s.input_tokens - length s.variable_tokens) text false d)
      → FirstOutside text (spelled s.inputs ++ spelled s.variables) (reserved_from (suc (length text)) text false 0)
  walked_outside lacks c d g (inl r) more t = a_name (more_names text (spelled s.inputs) (spelled s.variables) (reserved_from (suc (length text)) text false 0) r)
  walked_outside lacks c d g (inr z) more t = subst (FirstOutside text (spelled s.inputs ++ spelled s.variables)) (sym z.1) (go (more z.0)) where
    go : Walked text (spelled s.inputs) s.variables s.variable_tokens c d (suc (length text) - length s.input_tokens) → FirstOutside text (spelled s.inputs ++ spelled s.variables) (reserved_from (suc (length text) - length s.input_tokens) text false c)
    go (inl r) = a_name r
    go (inr y) = subst (FirstOutside text (spelled s.inputs ++ spelled s.variables)) (sym y.1) (by_timer lacks y.0.none_reserved d g _ t)

-- the walk finds it
walk_finds : (text : List ℕ) (p : Program) → program_of text ≡ accepted p → has_st p ≡ false → FirstOutside text (take (first_timer p) (names_of p)) (reserved_place text)
unfolding reserved_place
walk_finds text p e lacks =
    let s = accepted_exactly.accepted_spelled text p e in
    let y = split written text 0 s.rules_from_lem (s.input_tokens ++ s.variable_tokens) s.timer_tokens s.spells_declarations in
    let x = split written text 0 y.place s.input_tokens s.variable_tokens y.first in
    let mid = (spells_in written text 0 x.place s.input_tokens (omega arith) x.first).1 in
    let i = spells_bytes written text 0 x.place s.input_tokens (omega arith) x.first in
    let j = spells_bytes written text x.place y.place s.variable_tokens mid x.second in
    let end = (spells_in written text x.place y.place s.variable_tokens mid x.second).1 in
    let ti = tokens_few s.input_tokens in
    let tv = tokens_few s.variable_tokens in
    let left : suc (length text - length s.input_tokens - length s.variable_tokens) ≡ suc (length text) - length s.input_tokens - length s.variable_tokens = omega arith in
    let t = timers_walked text _ s.timer_tokens s.timer_names p.timers s.declares_timers y.place s.rules_from_lem end y.second (length text - length s.input_tokens - length s.variable_tokens) in
    let nothing-before : Before text [] 0 = record { tokens = []; declare = none; none_reserved = refl; spells = refl } in
    subst (λ (ws : List (List ℕ)). FirstOutside text ws (reserved_from (suc (length text)) text false 0)) (sym (names_before text p s))
    (walked_outside text p s lacks x.place y.place y.first
    (all_walked text input_word (inl refl) input_facts.0 input_facts.1 input_facts.2 input_facts.3 s.input_tokens s.inputs s.declares_inputs [] 0 x.place (omega arith) nothing-before x.first (suc (length text)) (omega arith))
    (λ z. all_walked text var_word (inr refl) var_facts.0 var_facts.1 var_facts.2 var_facts.3 s.variable_tokens s.variables s.declares_variables (spelled s.inputs) x.place y.place mid z x.second (suc (length text) - length s.input_tokens) (omega arith))
    (rw left at t))

-- the theorem: of an accepted text without Structured Text, the place is that of the first such name, or of the first timer, and no other is
pub first_outside : (text : List ℕ) (p : Program) → program_of text ≡ accepted p → has_st p ≡ false → OutsideAt text (take (first_timer p) (names_of p)) (reserved_place text)
first_outside text p e lacks =
    let found = walk_finds text p e lacks in
    record { first = found; only = λ other h. sole_outside text (take (first_timer p) (names_of p)) other (reserved_place text) h found }
