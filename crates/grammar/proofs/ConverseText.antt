-- A text that spells a program is read as it. So the texts accepted are exactly those that spell a program. Assumes nothing.
use mathlib.Core.Path.{◌≡◌, refl, ap, ap₂, sym, ◌∙◌, subst}
use mathlib.Core.List.{List, [], ◌++◌, append-nil}
use mathlib.Core.Bool.{Bool, false}
use Prim.Native.Nat.{ℕ, ◌+◌, ◌≤◌, ◌<◌}
use native.Mathlib.Omega.{arith}
use lib.ListN.{length, length-append, length-map}
use lib.Dec.{T}
use borrow.Author.Tests.{le-ltb}
use Rattle.limits.specs.Limits.{text_limit, watch_limit}
use Rattle.limits.specs.Answer as A
use Rattle.lexer.specs.Bytes.{bytes}
use Rattle.lexer.specs.Token.{Kind, kind_number, ending, name, input_word, var_word, timer_word, watch_word, is, token}
use Rattle.lexer.specs.Lexer.{token_at}
use Rattle.arith.proofs.Basics.{T_true}
use Rattle.semantics.specs.Program.{Range, Name, Timer, Rule, Watch, Program, known_first, free, ranges_of, all_true, OrderedRules, Ordered, is_binary, first_timer, Numbered, EachTimer, TimerFits, TimersFit}
use Rattle.semantics.proofs.Reference.{length_known}
use Rattle.semantics.proofs.Timers.{each_map}
use Rattle.grammar.specs.Parsed.{accepted, item_bound}
use Rattle.grammar.specs.Declarations.{spellings, declarations}
use Rattle.grammar.specs.Timers.{WithTimers, timers_from}
use Rattle.grammar.specs.Rules.{Ruled, rules_from}
use Rattle.grammar.specs.Watches.{watches_from}
use Rattle.grammar.specs.Parse.{end_at, program, parse, answer_of, program_of}
use Rattle.grammar.specs.Derivation.{as_written, normal, normals, Spells}
use Rattle.grammar.specs.Spelled.{declares, DeclareAll, declares_timer, DeclareTimers, Distinct, a_change, a_function, a_pair, SpellsRules, alone, paired, SpellsWatches, names_of, Spelled}
use Rattle.grammar.specs.Spelled as S
use Rattle.grammar.specs.Accepts.{Accepts}
use Rattle.grammar.specs.Inner.Names.{Named}
use Rattle.lexer.specs.Spelling.{Separated}
use Rattle.lexer.proofs.Spellings.{is_fixed}
use Rattle.grammar.proofs.Normal.{each_normal}
use Rattle.grammar.proofs.Standing.{split, spells_in, end_read, written, normally}
use Rattle.grammar.proofs.Phrases.{fixed_at, name_at_lem}
use Rattle.grammar.proofs.Whole.{named, declared_fit, timed_fit, fit_append, spellings_length}
use Rattle.grammar.proofs.Accepted.{parse_spelled, program_parsed}
use Rattle.grammar.proofs.ConverseDeclarations.{declarations_read}
use Rattle.grammar.proofs.DerivedTimers.{range_front, Limited, timers_counted}
use Rattle.grammar.proofs.ConverseTimers.{distinct_front, timers_read}
use Rattle.grammar.proofs.ConverseRules.{rules_read, few_unruled}
use Rattle.grammar.proofs.ConverseWatches.{watches_read}
use Rattle.grammar.proofs.Known.{known_after, all_known}

module _ (text : List ℕ) where
  -- ---- the token that ends a list of declarations, rules or watches

  record Next (a : ℕ) (word : Kind) : Type 0 where
    kind : Kind
    start : ℕ
    end : ℕ
    is_token : token_at text a ≡ token kind start end
    other : is kind word ≡ false

  end_next : (word : Kind) → is ending word ≡ false → (a : ℕ) → Separated text a (length text) → Next a word
  end_next word e a ends = record { kind = ending; start = length text; end = length text; is_token = end_read text a ends; other = e }

  -- the watches begin with `watch`
  watches_next : (word : Kind) → is watch_word word ≡ false → (names ts : List (List ℕ)) (ws : List Watch) → SpellsWatches names ts ws → (a n : ℕ) → a ≤ length text → Spells normal text a n ts → Next n word → Next a word
  unfolding is_fixed kind_number
  watches_next word e names ts ws S.SpellsWatches.none a n h g x = subst (λ (y : ℕ). Next y word) (sym g) x
  watches_next word e names ts ws (S.SpellsWatches.more us vs w l (alone xs c d) q) a n h g x =
      record { kind = watch_word; start = g.1.start; end = g.0; is_token = fixed_at normally text watch_word refl a g.0 h g.1; other = e }
  watches_next word e names ts ws (S.SpellsWatches.more us vs w l (paired xs ys c f d b) q) a n h g x =
      record { kind = watch_word; start = g.1.start; end = g.0; is_token = fixed_at normally text watch_word refl a g.0 h g.1; other = e }

  -- the rules begin with a name
  rules_next : (word : Kind) → is name word ≡ false → (names : List (List ℕ)) → Named names → (ts : List (List ℕ)) (rs : List Rule) → SpellsRules (normals names) ts rs → (a n : ℕ) → a ≤ length text → Spells normal text a n ts → Next n word → Next a word
  rules_next word e names good ts rs S.SpellsRules.none a n h g x = subst (λ (y : ℕ). Next y word) (sym g) x
  rules_next word e names good ts rs (S.SpellsRules.more us vs r qs (a_change w v xs ls ks cs ev d room e2) q) a n h g x =
      record { kind = name; start = g.1.start; end = g.0; is_token = name_at_lem normally text w (each_normal names good v w ev) a g.0 h g.1; other = e }
  rules_next word e names good ts rs (S.SpellsRules.more us vs r qs (a_function w v xs e2 ev d) q) a n h g x =
      record { kind = name; start = g.1.start; end = g.0; is_token = name_at_lem normally text w (each_normal names good v w ev) a g.0 h g.1; other = e }
  rules_next word e names good ts rs (S.SpellsRules.more us vs r qs (a_pair w v xs ls ys ms ks js ev d f room) q) a n h g x =
      record { kind = name; start = g.1.start; end = g.0; is_token = name_at_lem normally text w (each_normal names good v w ev) a g.0 h g.1; other = e }

  -- the timers begin with `timer`
  timers_next : (word : Kind) → is timer_word word ≡ false → (names ts : List (List ℕ)) (l : List Name) (xs : List Timer) → DeclareTimers names ts l xs → (a n : ℕ) → a ≤ length text → Spells as_written text a n ts → Next n word → Next a word
  unfolding is_fixed kind_number
  timers_next word e names ts l xs S.DeclareTimers.none a n h g x = subst (λ (y : ℕ). Next y word) (sym g) x
  timers_next word e names ts l xs (S.DeclareTimers.more us vs t k y ys (declares_timer s w z q nm nw at dz v) r) a n h g x =
      record { kind = timer_word; start = g.1.start; end = g.0; is_token = fixed_at written text timer_word refl a g.0 h g.1; other = e }

  -- the variables begin with `var`
  variables_next : (ts : List (List ℕ)) (l : List Name) → DeclareAll (bytes "var") ts l → (a n : ℕ) → a ≤ length text → Spells as_written text a n ts → Next n input_word → Next a input_word
  unfolding is_fixed is kind_number
  variables_next ts l S.DeclareAll.none a n h g x = subst (λ (y : ℕ). Next y input_word) (sym g) x
  variables_next ts l (S.DeclareAll.more us vs y k (declares w ls hs ws r nm dl dh ds fits) e) a n h g x =
      record { kind = var_word; start = g.1.start; end = g.0; is_token = fixed_at written text var_word refl a g.0 h g.1; other = refl }

  -- ---- the whole

  end_goes : (known : List Bool) (a : ℕ) → Separated text a (length text) → T (all_true known) → end_at text known a ≡ accepted tt (length text)
  unfolding end_at is kind_number
  end_goes known a ends t = rw (end_read text a ends, T_true (all_true known) t)

  module _ (inputs base : List Name) (x : WithTimers) (ruled : Ruled) (watches : List Watch) (a b c d e n : ℕ) where
    program_goes : declarations input_word text [] 0 ≡ accepted inputs a → declarations var_word text inputs a ≡ accepted base b → timers_from item_bound text (length inputs) (length base) (record { names = base; timers = [] }) b ≡ accepted x c → rules_from item_bound x.timers (record { text = text; names = spellings x.names; known = known_first (length inputs) (length x.names) }) [] c ≡ accepted ruled d → watches_from watch_limit (record { text = text; names = spellings x.names; known = free (length x.names) }) [] d ≡ accepted watches e → end_at text ruled.known e ≡ accepted tt n → program text ≡ accepted (record { inputs = length inputs; names = x.names; timers = x.timers; rules = ruled.rules; watches = watches }) n
    unfolding program
    program_goes e1 e2 e3 e4 e5 e6 = rw (e1, e2, e3, e4, e5, e6)

  module _ (inputs variables timed : List Name) (timers : List Timer) (rules : List Rule) (watches : List Watch) where
    abbrev base : List Name
    base = inputs ++ variables

    abbrev names : List Name
    names = base ++ timed

    abbrev whole : Program
    whole = record { inputs = length inputs; names = names; timers = timers; rules = rules; watches = watches }

    timers_limited : (ts : List (List ℕ)) → DeclareTimers (normals (spellings base)) ts timed timers → TimersFit whole → Numbered (length base) (length (ranges_of whole)) timers × EachTimer (Limited text (length inputs) base) timers
    timers_limited ts d fit =
        let first : first_timer whole ≡ length base = omega (arith, length-map names (λ (y : Name). y.range), length-append base timed, timers_counted (normals (spellings base)) ts timed timers d) in (
          subst (λ (i : ℕ). Numbered i (length (ranges_of whole)) timers) first fit.numbered,
          each_map (TimerFits (ranges_of whole) (length inputs) (first_timer whole)) (Limited text (length inputs) base)
              (λ y h.
              let below : y.watched < length base = omega (arith, first, h.no_timer_lem) in
              record { a_variable = h.a_variable; no_timer_lem = below; binary = subst (λ (g : Range). T (is_binary g)) (range_front base timed y.watched below) h.binary; least = h.least; most = h.most }) timers fit.each,
        )

    spelled_program : (its vts tts rts wts : List (List ℕ)) (b end : ℕ) → Spells as_written text 0 b (its ++ vts ++ tts) → Spells normal text b end (rts ++ wts) → Separated text end (length text) → DeclareAll (bytes "input") its inputs → DeclareAll (bytes "var") vts variables → DeclareTimers (normals (spellings base)) tts timed timers → TimersFit whole → Distinct (spellings names) → length names ≤ 64 → SpellsRules (normals (spellings names)) rts rules → OrderedRules timers (known_first (length inputs) (length names)) rules → SpellsWatches (normals (spellings names)) wts watches → length watches ≤ watch_limit → program text ≡ accepted whole (length text)
    unfolding declarations is_fixed is kind_number
    spelled_program its vts tts rts wts b end sd st ends di dv dt fit apart few dr ordered dw room =
        let fits = fit_append base timed (fit_append inputs variables (declared_fit (bytes "input") its inputs di) (declared_fit (bytes "var") vts variables dv)) (timed_fit (normals (spellings base)) tts timed timers dt) in
        let good : Named (spellings names) = named names fits apart in
        let q2 = split written text 0 b (its ++ vts) tts sd in
        let q = split written text 0 q2.place its vts q2.first in
        let i1 = (spells_in written text 0 q.place its (omega arith) q.first).1 in
        let i2 = (spells_in written text q.place q2.place vts i1 q.second).1 in
        let i3 = (spells_in written text q2.place b tts i2 q2.second).1 in
        let both : length base ≡ length inputs + length variables = length-append inputs variables in
        let three : length names ≡ length base + length timed = length-append base timed in
        let known = known_first (length inputs) (length names) in
        let r = split normally text b end rts wts st in
        let c = r.place in
        let i4 = (spells_in normally text b c rts i3 r.first).1 in
        let after : (word : Kind) → is watch_word word ≡ false → is ending word ≡ false → Next c word = λ word e f. watches_next word e (normals (spellings names)) wts watches dw c end i4 r.second (end_next word f end ends) in
        let over = end_next watch_word refl end ends in
        let ruled = after name refl refl in
        let behind : (word : Kind) → is name word ≡ false → is watch_word word ≡ false → is ending word ≡ false → Next b word = λ word e f g. rules_next word e (spellings names) good rts rules dr b c i3 r.first (after word f g) in
        let untimed = behind timer_word refl refl refl in
        let last = timers_next var_word refl (normals (spellings base)) tts timed timers dt q2.place b i2 q2.second (behind var_word refl refl refl) in
        let none = timers_next input_word refl (normals (spellings base)) tts timed timers dt q2.place b i2 q2.second (behind input_word refl refl refl) in
        let more = variables_next vts variables dv q.place q2.place i1 q.second none in
        let count : length (known_first (length inputs) (length names)) ≡ length names = length_known (length inputs) (length names) in
        let limited = timers_limited tts dt fit in
        program_goes inputs base (record { names = names; timers = timers }) (record { rules = rules; known = known_after timers known rules }) watches q.place q2.place b c end (length text)
        (declarations_read text input_word refl item_bound [] its inputs di (distinct_front inputs variables (distinct_front base timed apart)) (omega arith) (omega arith) 0 q.place (omega arith) q.first more.kind more.start more.end more.is_token more.other)
        (declarations_read text var_word refl item_bound inputs vts variables dv (distinct_front base timed apart) (omega arith) (omega arith) q.place q2.place i1 q.second last.kind last.start last.end last.is_token last.other)
        (timers_read text (length inputs) base item_bound (record { names = base; timers = [] }) [] (sym (append-nil base)) tts timed timers dt good (omega arith) (omega arith) (length (ranges_of whole)) limited.0 limited.1 q2.place b i2 q2.second untimed.kind untimed.start untimed.end untimed.is_token untimed.other)
        (rules_read item_bound timers (record { text = text; names = spellings names; known = known }) good [] rts rules dr ordered (few_unruled known (omega arith)) b c i3 r.first ruled.kind ruled.start ruled.end ruled.is_token ruled.other)
        (watches_read (record { text = text; names = spellings names; known = free (length names) }) good (ap free (sym (spellings_length names))) watch_limit [] wts watches dw room c end i4 r.second over.kind over.start over.end over.is_token over.other)
        (end_goes (known_after timers known rules) end ends (all_known timers known rules ordered))

made : (p : Program) (i : ℕ) (l : List Name) → p.inputs ≡ i → p.names ≡ l → p ≡ record { inputs = i; names = l; timers = p.timers; rules = p.rules; watches = p.watches }
made p i l e f = ap₂ (λ (x : ℕ) (y : List Name). record { inputs = x; names = y; timers = p.timers; rules = p.rules; watches = p.watches }) e f

pub short_parse : (text : List ℕ) → length text ≤ text_limit → parse text ≡ program text
unfolding parse
short_parse text h = rw (le-ltb text_limit (length text) h)

-- what has document 01's grammar, limits, order and agreement is accepted, and read to the end of the text
pub spelled_parse : (text : List ℕ) (p : Program) → Spelled text p → parse text ≡ accepted p (length text)
spelled_parse text p s =
    let names = s.inputs ++ s.variables ++ s.timer_names in
    let q : Program = record { inputs = length s.inputs; names = names; timers = p.timers; rules = p.rules; watches = p.watches } in
    let same : p ≡ q = made p (length s.inputs) names s.input_count s.names in
    let count : length (ranges_of q) ≡ length q.names = length-map q.names (λ n. n.range) in
    let ordered : Ordered q = subst Ordered same s.ordered in
    short_parse text s.short
    ∙ (spelled_program text s.inputs s.variables s.timer_names p.timers p.rules p.watches s.input_tokens s.variable_tokens s.timer_tokens s.rule_tokens s.watch_tokens s.rules_from_lem s.end s.spells_declarations s.spells_tokens s.ends s.declares_inputs s.declares_variables s.declares_timers (subst TimersFit same s.timers_fit)
    (subst (λ (x : Program). Distinct (names_of x)) same s.distinct) (subst (λ (x : Program). length x.names ≤ 64) same s.few) (subst (λ (x : Program). SpellsRules (normals (names_of x)) s.rule_tokens x.rules) same s.spells_rules)
    (subst (λ (n : ℕ). OrderedRules p.timers (known_first (length s.inputs) n) p.rules) count ordered)
    (subst (λ (x : Program). SpellsWatches (normals (names_of x)) s.watch_tokens x.watches) same s.spells_watches) s.few_watches
    ∙ ap (λ (x : Program). accepted x (length text)) (sym same))

spelled_accepted : (text : List ℕ) (p : Program) → Spelled text p → program_of text ≡ A.accepted p
unfolding program_of
spelled_accepted text p s = ap answer_of (spelled_parse text p s)

-- the texts accepted are exactly those that spell a program
pub accepted_exactly : Accepts
accepted_exactly = record { accepted_spelled = λ text p e. let r = program_parsed text p e in parse_spelled text p r.0 r.1; spelled_accepted = spelled_accepted }

-- so a text means one program at most
pub one_meaning : (text : List ℕ) (p q : Program) → Spelled text p → Spelled text q → p ≡ q
one_meaning text p q s t = same (sym (spelled_accepted text p s) ∙ spelled_accepted text q t)
  where
    same : {x y : Program} → A.accepted x ≡ A.accepted y → x ≡ y
    same e = cc
