-- The image of an accepted text: twice its bytes are at most three times the text's, and four; a timer's instruction is paid by its declaration.
-- Assumes nothing.
use mathlib.Core.Path.{◌≡◌, refl, ap, sym, ◌∙◌, subst}
use mathlib.Core.List.{List, [], ◌∷◌, ◌++◌, append_assoc}
use mathlib.Core.Bool.{Bool, true, false, cond, true≢false}
use Prim.Native.Nat.{ℕ, zero, suc, ◌+◌, ◌-◌, ◌*◌, ◌≤◌, ◌<◌}
use native.Mathlib.Omega.{arith}
use lib.ListN.{length, get_or, set, length-append, length-map}
use lib.Dec.{eqb, ltb→lt}
use borrow.Author.Tests.{eqb-true}
use Rattle.leb128.specs.Numbers.{number, zigzag}
use Rattle.lexer.specs.Bytes.{bytes}
use Rattle.lexer.specs.Token.{timer_word, is}
use Rattle.lexer.specs.Lexer.{token_at}
use Rattle.lexer.proofs.Laws.{cond_prop, token_at_moved}
use Rattle.semantics.specs.Program.{Name, Rule, Timer, Program, target, ranges_of, known_first, timers_known, Numbered, OrderedRules}
use Rattle.semantics.proofs.Cells.{not_taken}
use Rattle.grammar.specs.Parsed.{Parsed, accepted, refused}
use Rattle.grammar.specs.Declarations.{spellings}
use Rattle.grammar.specs.Timers.{timer_name, WithTimers, timer_declaration, timers_from}
use Rattle.grammar.specs.Derivation.{normal, normals}
use Rattle.grammar.specs.Spelled.{DeclaresTimer, declares_timer, DeclareTimers, names_of, Spelled}
use Rattle.grammar.specs.Spelled as S
use Rattle.grammar.specs.Inner.Bytes.{bytes_t, bytes_r, header, image}
use Rattle.grammar.proofs.Combine.{token_prop, then_prop}
use Rattle.grammar.proofs.Bytes.{value_bytes, id_bytes, place_in}
use Rattle.grammar.proofs.Standing.{written, normally, spells_in}
use Rattle.grammar.proofs.Derived.{Derives}
use Rattle.grammar.proofs.DerivedTimers.{TimerRead, timer_derives, normals_length}
use Rattle.grammar.proofs.Growth.{later_bytes, bytes_of, bytes_append, token_bytes, spells_bytes, digits_some}
use Rattle.grammar.proofs.Known.{ruled_known, known_stays}
use Rattle.grammar.proofs.Size.{Pays, name_bytes, header_append, header_code, header_none, all_make, rules_code_lem, rules_make}

-- ---- a timer's instruction

abbrev pub timer_bytes : Timer → ℕ
timer_bytes x = suc (length (number x.id) + (length (number x.watched) + length (number x.limit)))

abbrev pub timers_bytes : List Timer → ℕ
timers_bytes [] = 0
timers_bytes (x ∷ xs) = timer_bytes x + timers_bytes xs

pub timers_append : (k l : List Timer) → timers_bytes (k ++ l) ≡ timers_bytes k + timers_bytes l
timers_append [] l = omega arith
timers_append (x ∷ k) l = omega (arith, timers_append k l)

-- of the timers whose variable has no rule yet
abbrev pub waiting_bytes : List Bool → List Timer → ℕ
waiting_bytes known [] = 0
waiting_bytes known (x ∷ xs) = cond (get_or known x.watched false) 0 (timer_bytes x) + waiting_bytes known xs

pub waiting_few : (known : List Bool) (ts : List Timer) → waiting_bytes known ts ≤ timers_bytes ts
waiting_few known [] = omega arith
waiting_few known (x ∷ xs) = cond_prop (λ (n : ℕ). n + waiting_bytes known xs ≤ timer_bytes x + timers_bytes xs) (get_or known x.watched false) 0 (timer_bytes x) (λ e. omega (arith, waiting_few known xs)) (λ e. omega (arith, waiting_few known xs))

none_bytes : (v : ℕ) → length (bytes_t v []) ≡ 0
unfolding bytes_t
none_bytes v = refl

timer-length : (a b c rest : List ℕ) → length (23 ∷ (a ++ (b ++ (c ++ rest)))) ≡ suc (length a + (length b + length c)) + length rest
timer-length a b c rest = simp length-append (omega arith)

one_bytes : (v : ℕ) (x : Timer) (xs : List Timer) → eqb x.watched v ≡ true → length (bytes_t v (x ∷ xs)) ≡ timer_bytes x + length (bytes_t v xs)
unfolding bytes_t
one_bytes v x xs e = let q : x.watched ≡ v = eqb-true x.watched v e in rw (e, q) (timer-length (number x.id) (number v) (number x.limit) (bytes_t v xs))

other_bytes : (v : ℕ) (x : Timer) (xs : List Timer) → eqb x.watched v ≡ false → length (bytes_t v (x ∷ xs)) ≡ length (bytes_t v xs)
unfolding bytes_t
other_bytes v x xs e = rw e

-- a timer is written once, after the rule of its variable
module _ (v : ℕ) (known after : List Bool) (new : get_or known v false ≡ false) (now : get_or after v false ≡ true) (stays : (i : ℕ) → get_or known i false ≡ true → get_or after i false ≡ true) where
  pub timers_once : (ts : List Timer) → length (bytes_t v ts) + waiting_bytes after ts ≤ waiting_bytes known ts
  timers_once [] = omega (arith, none_bytes v)
  timers_once (x ∷ xs) = go (timers_once xs) (eqb x.watched v) refl (get_or known x.watched false) refl (get_or after x.watched false) refl
    where
      go : length (bytes_t v xs) + waiting_bytes after xs ≤ waiting_bytes known xs → (b : Bool) → eqb x.watched v ≡ b → (t : Bool) → get_or known x.watched false ≡ t → (u : Bool) → get_or after x.watched false ≡ u → length (bytes_t v (x ∷ xs)) + (cond u 0 (timer_bytes x) + waiting_bytes after xs) ≤ cond t 0 (timer_bytes x) + waiting_bytes known xs
      go ih true e false t true u = omega (arith, one_bytes v x xs e, ih)
      go ih true e true t u w = let q = eqb-true x.watched v e in absurd (true≢false (sym t ∙ subst (λ (i : ℕ). get_or known i false ≡ false) (sym q) new))
      go ih true e false t false w = let q = eqb-true x.watched v e in absurd (true≢false (sym (subst (λ (i : ℕ). get_or after i false ≡ true) (sym q) now) ∙ w))
      go ih false e true t true u = omega (arith, other_bytes v x xs e, ih)
      go ih false e true t false u = absurd (true≢false (sym (stays x.watched t) ∙ u))
      go ih false e false t true u = omega (arith, other_bytes v x xs e, ih)
      go ih false e false t false u = omega (arith, other_bytes v x xs e, ih)

pub rules_timers : (ts : List Timer) (known : List Bool) (rs : List Rule) → OrderedRules ts known rs → length (bytes_r ts rs) ≤ length (bytes_r [] rs) + waiting_bytes known ts
unfolding bytes_r
rules_timers ts known [] o = omega arith
rules_timers ts known (r ∷ rs) o =
    let v = target r in
    let inside = ltb→lt v (length known) o.1 in
    let once = timers_once v known (timers_known v ts (set known v true)) (not_taken ts known v o.2).1 (ruled_known ts known v inside) (known_stays ts known v) ts in
    omega (arith, rules_code_lem ts r rs, rules_code_lem [] r rs, none_bytes v, once, rules_timers ts (timers_known v ts (set known v true)) rs o.3)

-- ---- its declaration pays for it and for its name

bit_bytes : (w : List ℕ) → name_bytes (timer_name w) ≤ 3
unfolding zigzag
bit_bytes w = omega (arith, id_bytes 0 (omega arith), id_bytes 2 (omega arith))

timer_makes : (ns : List (List ℕ)) → length ns ≤ 64 → (ts : List (List ℕ)) (t : Name) (x : Timer) → DeclaresTimer ns ts t x → x.id < 64 → 2 * (name_bytes t + timer_bytes x) + 3 * suc (later_bytes (bytes "timer")) ≤ 3 * bytes_of ts
timer_makes ns few ts t x (declares_timer s w z y nm nw at dz v) i =
    let some = digits_some z dz in
    omega (arith, bit_bytes s, id_bytes x.id (omega arith), id_bytes x.watched (omega (arith, place_in ns x.watched (normal w) at)), value_bytes z x.limit (omega arith) some, token_bytes z some)

timers_make : (ns : List (List ℕ)) → length ns ≤ 64 → (ts : List (List ℕ)) (l : List Name) (xs : List Timer) → DeclareTimers ns ts l xs → (i e : ℕ) → e ≤ 64 → Numbered i e xs → (i ≤ e) × (2 * (length (header l) + timers_bytes xs) ≤ 3 * bytes_of ts)
timers_make ns few ts l xs S.DeclareTimers.none i e h num = (omega arith, omega (arith, header_none))
timers_make ns few ts l xs (S.DeclareTimers.more us vs t k x ys d r) i e h num =
    let rest = timers_make ns few vs k ys r (suc i) e h num.1 in
    (omega (arith, rest.0), omega (arith, timer_makes ns few us t x d (omega (arith, num.0, rest.0)), rest.1, header_code t k, bytes_append us vs))

module _ (text : List ℕ) (inputs : ℕ) (base : List Name) where
  -- header and instructions
  abbrev pub timed_bytes : WithTimers → ℕ
  timed_bytes x = length (header x.names) + timers_bytes x.timers

  timer_pays : (x : WithTimers) (extra : List Name) → x.names ≡ base ++ extra → (at : ℕ) → at ≤ length text → 2 * timed_bytes x ≤ 3 * at → Pays timed_bytes (length text) 0 (timer_declaration text inputs (length base) x at)
  timer_pays x extra same at h g = pays (timer_declaration text inputs (length base) x at) (timer_derives text inputs base x extra same at h)
    where
      pays : (p : Parsed WithTimers) → Derives written text (TimerRead text inputs base x) at p → Pays timed_bytes (length text) 0 p
      pays (accepted y n) d =
          let r = d.derives in
          let t = timer_name r.spelling in
          let few : length (normals (spellings base)) ≤ 64 = omega (arith, normals_length base, ap length same, length-append base extra, r.fresh.room) in
          let made = timer_makes (normals (spellings base)) few (bytes "timer" ∷ d.tokens) t r.timer r.derives (omega (arith, r.is_id, r.fresh.room)) in
          let names : length (header y.names) ≡ length (header x.names) + name_bytes t = ap (λ (l : List Name). length (header l)) r.is_names ∙ omega (arith, header_append x.names (t ∷ []), header_code t [], header_none) in
          let timers : timers_bytes y.timers ≡ timers_bytes x.timers + timer_bytes r.timer = ap timers_bytes r.is_timers ∙ omega (arith, timers_append x.timers (r.timer ∷ [])) in
          (omega (arith, made, names, timers, spells_bytes written text at n d.tokens h d.spells), (spells_in written text at n d.tokens h d.spells).1)
      pays (refused k q) d = tt

  pub timers_pay : (f : ℕ) (x : WithTimers) (extra : List Name) → x.names ≡ base ++ extra → (at : ℕ) → at ≤ length text → 2 * timed_bytes x ≤ 3 * at → Pays timed_bytes (length text) 0 (timers_from f text inputs (length base) x at)
  unfolding timers_from
  timers_pay zero x extra same at h g = (omega arith, h)
  timers_pay (suc f) x extra same at h g =
      token_prop (Pays timed_bytes (length text) 0) (token_at text at) _ (λ k q. tt)
      (λ k s n et.
      let mv = token_at_moved text at k s n h et in
      cond_prop (Pays timed_bytes (length text) 0) (is k timer_word) _ _
      (λ e. then_prop (Pays timed_bytes (length text) 0) (timer_declaration text inputs (length base) x n) _ (λ k q. tt)
      (λ y m es.
      let d = subst (Pays timed_bytes (length text) 0) es (timer_pays x extra same n mv.2 (omega (arith, mv.0, mv.1))) in
      let r = (subst (Derives written text (TimerRead text inputs base x) n) es (timer_derives text inputs base x extra same n mv.2)).derives in
      let t = timer_name r.spelling in
      timers_pay f y (extra ++ (t ∷ [])) (r.is_names ∙ (ap (λ (l : List Name). l ++ (t ∷ [])) same ∙ append_assoc base extra (t ∷ []))) m d.1 (omega (arith, d.0))))
      (λ e. (omega arith, h)))

-- ---- the image of a text that spells a program

pub spelled_small : (text : List ℕ) (p : Program) → Spelled text p → 2 * length (image p) ≤ 3 * length text + 4
unfolding image
spelled_small text p s =
    let base = s.inputs ++ s.variables in
    let front = s.input_tokens ++ s.variable_tokens ++ s.timer_tokens in
    let few : length (normals (names_of p)) ≤ 64 = omega (arith, s.few, length-map p.names (λ x. x.spelling), length-map (names_of p) normal) in
    let count : length p.names ≡ length base + length s.timer_names = rw s.names (length-append base s.timer_names) in
    let heads : length (header p.names) ≡ length (header s.inputs) + length (header s.variables) + length (header s.timer_names) = rw s.names (omega (arith, header_append base s.timer_names, header_append s.inputs s.variables)) in
    let inputs = all_make (bytes "input") s.input_tokens s.inputs s.declares_inputs in
    let variables = all_make (bytes "var") s.variable_tokens s.variables s.declares_variables in
    let timers = (timers_make (normals (spellings base)) (omega (arith, normals_length base, count, s.few)) s.timer_tokens s.timer_names p.timers s.declares_timers (length (ranges_of p) - length p.timers) (length (ranges_of p)) (omega (arith, length-map p.names (λ x. x.range), s.few)) s.timers_fit.numbered).1 in
    let rules = rules_make (normals (names_of p)) few s.rule_tokens p.rules s.spells_rules in
    let known = known_first p.inputs (length (ranges_of p)) in
    let timed = rules_timers p.timers known p.rules s.ordered in
    let declared = spells_bytes written text 0 s.rules_from_lem front (omega arith) s.spells_declarations in
    let before = (spells_in written text 0 s.rules_from_lem front (omega arith) s.spells_declarations).1 in
    let back = s.rule_tokens ++ s.watch_tokens in
    let ruled = spells_bytes normally text s.rules_from_lem s.end back before s.spells_tokens in
    let within = (spells_in normally text s.rules_from_lem s.end back before s.spells_tokens).1 in
    let small = id_bytes p.inputs (omega (arith, s.few, s.input_count, count, length-append s.inputs s.variables)) in
    let small2 = id_bytes (length p.names - p.inputs) (omega (arith, s.few)) in
    simp length-append (omega (arith, heads, inputs, variables, timers, rules, timed, waiting_few known p.timers, declared, ruled, within, small, small2, bytes_append (s.input_tokens ++ s.variable_tokens) s.timer_tokens, bytes_append s.input_tokens s.variable_tokens, bytes_append s.rule_tokens s.watch_tokens))
