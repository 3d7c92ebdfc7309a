-- What the parser's loops keep of the text's names and rules. Assumes nothing.
use mathlib.Core.Path.{◌≡◌, ap, sym, ◌∙◌, subst}
use mathlib.Core.List.{List, [], ◌∷◌, ◌++◌, append_assoc, map-append}
use mathlib.Core.Option.{some}
use Prim.Native.Nat.{ℕ, zero, suc, ◌+◌, ◌≤◌}
use native.Mathlib.Omega.{arith}
use lib.ListN.{length, get_elem?, length-append, length-map}
use lib.Dec.{ltb, leb, eqb}
use Rattle.limits.specs.Limits.{case_limit}
use Rattle.lexer.specs.Bytes.{bytes, part}
use Rattle.lexer.specs.Token.{Kind, open_square, bar, timer_word, is}
use Rattle.lexer.specs.Lexer.{token_at}
use Rattle.lexer.proofs.Laws.{cond_prop, token_at_moved}
use Rattle.semantics.specs.Program.{Name, Condition, Timer, Program, RangeFits, bit_range}
use Rattle.grammar.specs.Parsed.{Parsed, accepted, refused, phrase, followed}
use Rattle.grammar.specs.Expressions.{Scope}
use Rattle.grammar.specs.Conditions.{listed}
use Rattle.grammar.specs.Declarations.{spellings, declaration, declarations_from}
use Rattle.grammar.specs.Timers.{timer_name, WithTimers, timer_declaration, timers_from}
use Rattle.grammar.specs.Rules.{Spanned, list_from, plain_list, Compared, agrees, differs, parts_from, first_found, agreeing_list, rule_at}
use Rattle.grammar.specs.Inner.Bytes.{bytes_c}
use Rattle.grammar.specs.Derivation.{IsName, normal, normals}
use Rattle.grammar.specs.Spelled.{declares, DeclareAll, declares_timer, DeclareTimers, Distinct, SpellsR, Spelled}
use Rattle.grammar.specs.Spelled as S
use Rattle.grammar.specs.Inner.Names.{Named}
use Rattle.grammar.proofs.Shape.{NameFits, NamesFit}
use Rattle.grammar.proofs.Combine.{token_prop, then_prop}
use Rattle.grammar.proofs.Standing.{spells_in, View, written, normally}
use Rattle.grammar.proofs.Distinct.{distinct_snoc}
use Rattle.grammar.proofs.Derived.{Derives}
use Rattle.grammar.proofs.Growth.{Grown, Kept, kept_later, phrase_kept, listed_grown}
use Rattle.grammar.proofs.DerivedDeclarations.{Declared, AfterWord, declaration_derives, Fresh}
use Rattle.grammar.proofs.DerivedTimers.{TimerRead, timer_derives}
use Rattle.grammar.proofs.DerivedRules.{rule_derives}
pub use Rattle.grammar.proofs.DerivedRules.{First}

-- what is accepted has the property and ends within the text
abbrev pub Ends : {A : Type 0} → ℕ → (A → Type 0) → Parsed A → Type 0
Ends len P (accepted a n) = P a × (n ≤ len)
Ends len P (refused k q) = Unit {0}

ends_by : {A : Type 0} (R : List (List ℕ) → A → Type 0) (P : A → Type 0) → ((ts : List (List ℕ)) (x : A) → R ts x → P x) → (v : View) (text : List ℕ) (at : ℕ) → at ≤ length text → (p : Parsed A) → Derives v text R at p → Ends (length text) P p
ends_by R P f v text at h (accepted x n) d = (f d.tokens x d.derives, (spells_in v text at n d.tokens h d.spells).1)
ends_by R P f v text at h (refused k q) d = tt

-- ---- rules

module _ (sc : Scope) (few : length sc.names ≤ 64) (lengths : length sc.names ≡ length sc.known) where
  list_kept : (left : ℕ) (done : List Condition) (at : ℕ) → at ≤ length sc.text → Kept (length sc.text) at (list_from left sc done at)
  unfolding list_from
  list_kept zero done at h = token_prop (Kept (length sc.text) at) (token_at sc.text at) _ (λ k q. tt) (λ k s n et. cond_prop (Kept (length sc.text) at) (is k open_square) _ _ (λ e. tt) (λ e. tt))
  list_kept (suc left) done at h =
      token_prop (Kept (length sc.text) at) (token_at sc.text at) _ (λ k q. tt)
      (λ k s n et.
      let mv = token_at_moved sc.text at k s n h et in
      cond_prop (Kept (length sc.text) at) (is k open_square) _ _
      (λ e. then_prop (Kept (length sc.text) at) (listed sc n) _ (λ k q. tt)
      (λ c n1 e1.
      let g = subst (Grown bytes_c (length sc.text) n) e1 (listed_grown sc few n mv.2) in
      token_prop (Kept (length sc.text) at) (token_at sc.text n1) _ (λ k q. tt)
      (λ k2 s2 n2 et2.
      let mw = token_at_moved sc.text n1 k2 s2 n2 g.1 et2 in
      cond_prop (Kept (length sc.text) at) (is k2 bar) _ _
      (λ e. kept_later (length sc.text) at n2 (list_from left sc (done ++ (c ∷ [])) n2) (omega arith) (list_kept left (done ++ (c ∷ [])) n2 mw.2))
      (λ e. (omega arith, g.1)))))
      (λ e. tt))

  first_found_kept : (at : ℕ) (r : Parsed (List Condition)) (d : Compared) → Kept (length sc.text) at r → Kept (length sc.text) at (first_found r d)
  unfolding first_found
  first_found_kept at r (agrees n) h = h
  first_found_kept at (accepted a n) (differs p) h = tt
  first_found_kept at (refused k q) (differs p) h =
      cond_prop (Kept (length sc.text) at) (ltb q p) _ _ (λ e. tt)
      (λ e. cond_prop (Kept (length sc.text) at) (eqb q p) _ _ (λ e. cond_prop (Kept (length sc.text) at) (leb k 5) _ _ (λ e. tt) (λ e. tt)) (λ e. tt))

  pub agree_kept : (cases : List Spanned) (at : ℕ) → at ≤ length sc.text → Kept (length sc.text) at (agreeing_list sc cases at)
  unfolding agreeing_list plain_list followed
  agree_kept cases at h =
      first_found_kept at (plain_list sc at) (parts_from sc.text cases at)
      (then_prop (Kept (length sc.text) at) (list_from case_limit sc [] at) _ (λ k q. tt)
      (λ cs n e.
      let g = subst (Kept (length sc.text) at) e (list_kept case_limit [] at h) in
      then_prop (Kept (length sc.text) at) (phrase sc.text _ n) _ (λ k q. tt)
      (λ u m e2. let k = subst (Kept (length sc.text) n) e2 (phrase_kept sc.text _ n g.1) in (omega arith, k.1))))

  pub rule_fits : (xs : List Timer) (good : Named sc.names) (s n : ℕ) → n ≤ length sc.text → Ends (length sc.text) (First sc few lengths good xs) (rule_at xs sc s n)
  rule_fits xs good s n h =
      ends_by (λ ts r. SpellsR (normals sc.names) (normal (part sc.text s n) ∷ ts) r × First sc few lengths good xs r) (First sc few lengths good xs) (λ ts r d. d.1) normally sc.text n h (rule_at xs sc s n) (rule_derives sc few lengths good xs s n h)

-- ---- names

module _ (text : List ℕ) where
  declaration_fits : (names : List Name) (at : ℕ) → at ≤ length text → Ends (length text) (Declared text names) (declaration text names at)
  declaration_fits names at h = ends_by (AfterWord text [] names) (Declared text names) (λ ts x d. d.1) written text at h (declaration text names at) (declaration_derives text [] names at h)

  names_append : (names : List Name) (x : Name) → NamesFit names → NameFits x → NamesFit (names ++ (x ∷ []))
  names_append [] x h g = (g, tt)
  names_append (y ∷ names) x h g = (h.0, names_append names x h.1 g)

  abbrev pub Names : ℕ → List Name → Type 0
  Names count l = NamesFit l × (length l ≤ 64) × (count ≤ length l) × Distinct (spellings l)

  pub declarations_fit : (f : ℕ) (word : Kind) (names : List Name) (at count : ℕ) → at ≤ length text → Names count names → Ends (length text) (Names count) (declarations_from f word text names at)
  unfolding declarations_from
  declarations_fit zero word names at count h g = (g, h)
  declarations_fit (suc f) word names at count h g =
      token_prop (Ends (length text) (Names count)) (token_at text at) _ (λ k q. tt)
      (λ k s n et.
      let mv = token_at_moved text at k s n h et in
      cond_prop (Ends (length text) (Names count)) (is k word) _ _
      (λ e. then_prop (Ends (length text) (Names count)) (declaration text names n) _ (λ k q. tt)
      (λ x m es.
      let d = subst (Ends (length text) (Declared text names)) es (declaration_fits names n mv.2) in
      let l : length (names ++ (x ∷ [])) ≡ length names + 1 = length-append names (x ∷ []) in
      declarations_fit f word (names ++ (x ∷ [])) m count d.1 (names_append names x g.0 d.0.fits, omega (arith, d.0.room), omega (arith, g.2), rw (map-append (λ x. x.spelling) names (x ∷ [])) (distinct_snoc (spellings names) x.spelling g.3 d.0.apart))))
      (λ e. (g, h)))

each_name : (l : List Name) → NamesFit l → (i : ℕ) (w : List ℕ) → get_elem? (spellings l) i ≡ some w → IsName w
each_name [] h i w e = let z : ◌≡◌ {A = ℕ} 0 1 = cc in absurd (omega arith)
each_name (x ∷ l) h zero w e = let q : x.spelling ≡ w = cc in subst IsName q h.0.is_name
each_name (x ∷ l) h (suc i) w e = each_name l h.1 i w e

-- names that fit and are distinct are names of a text
pub named : (l : List Name) → NamesFit l → Distinct (spellings l) → Named (spellings l)
named l h d = record { distinct = d; each = each_name l h }

pub spellings_length : (names : List Name) → length (spellings names) ≡ length names
spellings_length names = length-map names (λ x. x.spelling)

-- ... with those of timers
module _ (text : List ℕ) (inputs : ℕ) (base : List Name) where
  bit_fits : RangeFits bit_range
  bit_fits = (tt, tt, tt)

  timer_fits : (x : WithTimers) (extra : List Name) → x.names ≡ base ++ extra → (at : ℕ) → at ≤ length text → Ends (length text) (λ y. (w : List ℕ) × (y.names ≡ x.names ++ (timer_name w ∷ [])) × Fresh text x.names w) (timer_declaration text inputs (length base) x at)
  timer_fits x extra same at h =
      ends_by (TimerRead text inputs base x) (λ y. (w : List ℕ) × (y.names ≡ x.names ++ (timer_name w ∷ [])) × Fresh text x.names w) (λ ts y d. (d.spelling, d.is_names, d.fresh)) written text at h (timer_declaration text inputs (length base) x at) (timer_derives text inputs base x extra same at h)

  pub timers_named : (f : ℕ) (x : WithTimers) (extra : List Name) → x.names ≡ base ++ extra → (at count : ℕ) → at ≤ length text → Names text count x.names → Ends (length text) (λ y. Names text count y.names) (timers_from f text inputs (length base) x at)
  unfolding timers_from
  timers_named zero x extra same at count h g = (g, h)
  timers_named (suc f) x extra same at count h g =
      token_prop P (token_at text at) _ (λ k q. tt)
      (λ k s n et.
      let mv = token_at_moved text at k s n h et in
      cond_prop P (is k timer_word) _ _
      (λ e. then_prop P (timer_declaration text inputs (length base) x n) _ (λ k q. tt)
      (λ y m es.
      let d = subst (Ends (length text) (λ (y : WithTimers). (w : List ℕ) × (y.names ≡ x.names ++ (timer_name w ∷ [])) × Fresh text x.names w)) es (timer_fits x extra same n mv.2) in
      let t = timer_name d.0.0 in
      let l : length (x.names ++ (t ∷ [])) ≡ length x.names + 1 = length-append x.names (t ∷ []) in
      let fresh = d.0.2 in
      let more : Names text count (x.names ++ (t ∷ [])) = (
        names_append text x.names t g.0 (record { is_name = fresh.is_name; range_fits = bit_fits }),
        omega (arith, fresh.room),
        omega (arith, g.2),
        rw (map-append (λ (x : Name). x.spelling) x.names (t ∷ [])) (distinct_snoc (spellings x.names) t.spelling g.3 fresh.apart),
      ) in
      timers_named f y (extra ++ (t ∷ [])) (d.0.1 ∙ (ap (λ (l : List Name). l ++ (t ∷ [])) same ∙ append_assoc base extra (t ∷ []))) m count d.1 (subst (Names text count) (sym d.0.1) more)))
      (λ e. (g, h)))
    where
      P : Parsed WithTimers → Type 0
      P p = Ends (length text) (λ (y : WithTimers). Names text count y.names) p

-- names that are declared fit
pub declared_fit : (word : List ℕ) (ts : List (List ℕ)) (l : List Name) → DeclareAll word ts l → NamesFit l
declared_fit word ts l S.DeclareAll.none = tt
declared_fit word ts l (S.DeclareAll.more us vs x k (declares w ls hs ws r nm dl dh ds fits) e) = (record { is_name = nm; range_fits = fits }, declared_fit word vs k e)

pub timed_fit : (ns ts : List (List ℕ)) (l : List Name) (xs : List Timer) → DeclareTimers ns ts l xs → NamesFit l
timed_fit ns ts l xs S.DeclareTimers.none = tt
timed_fit ns ts l xs (S.DeclareTimers.more us vs t k x ys (declares_timer s w z y nm nw at dz v) r) = (record { is_name = nm; range_fits = bit_fits [] 0 [] }, timed_fit ns vs k ys r)

pub fit_append : (k l : List Name) → NamesFit k → NamesFit l → NamesFit (k ++ l)
fit_append [] l h g = g
fit_append (x ∷ k) l h g = (h.0, fit_append k l h.1 g)

pub spelled_fit : (text : List ℕ) (p : Program) → Spelled text p → NamesFit p.names
spelled_fit text p s =
    let inputs = declared_fit (bytes "input") s.input_tokens s.inputs s.declares_inputs in
    let variables = declared_fit (bytes "var") s.variable_tokens s.variables s.declares_variables in
    let timers = timed_fit (normals (spellings (s.inputs ++ s.variables))) s.timer_tokens s.timer_names p.timers s.declares_timers in
    rw s.names (fit_append (s.inputs ++ s.variables) s.timer_names (fit_append s.inputs s.variables inputs variables) timers)
