-- The ways through a whole text, once its declarations are read: the rules, the watches, the end of the text, then the two counts. Assumes nothing.
use mathlib.Core.Path.{◌≡◌, refl, sym, ap, subst, ◌∙◌}
use mathlib.Core.Bool.{Bool}
use mathlib.Core.List.{List, [], ◌∷◌, ◌++◌}
use Prim.Native.Nat.{ℕ, ◌+◌, ◌-◌, ◌*◌, ◌≤◌, ◌<◌}
use native.Mathlib.Omega.{arith}
use lib.ListN.{length, set, length-append}
use lib.Seq.{sets}
use Rattle.limits.specs.Limits.{text_limit, name_limit, watch_limit}
use Rattle.lexer.specs.Token.{input_word, var_word}
use Rattle.lexer.specs.Names.{table_names}
use Rattle.semantics.specs.Program.{Name, Timer, Rule, Watch, Program, known_first}
use Rattle.leb128.proofs.Laws.{groups_one}
use Rattle.leb128.proofs.Stores.{sets_append}
use Rattle.grammar.specs.Parsed.{Parsed, accepted, refused, and_then}
use Rattle.grammar.specs.Declarations.{declarations, spellings}
use Rattle.grammar.specs.Timers.{WithTimers, timers_from}
use Rattle.grammar.specs.Inner.Names.{Named}
use Rattle.grammar.specs.Rules.{Ruled, rules_from}
use Rattle.grammar.specs.Inner.Bytes.{header, bytes_r, image}
use Rattle.grammar.specs.Watches.{watches_from}
use Rattle.grammar.specs.Parse.{end_at, program}
use Rattle.declarations.specs.Inner.Tables.{TableHolds}
use Rattle.expressions.specs.declared.scope.Names.{Names}
use Rattle.arith.specs.Inner.Flags.{flags_of}
use Rattle.expressions.specs.Inner.Scopes.{scope_of}
use Rattle.expressions.specs.Inner.Steps.{looked_ahead}
use Rattle.phrases.specs.Inner.Steps.{Writes}
use Rattle.rules.specs.Inner.Behind.{code_of_rules, ruled_told, ruled_behind}
use Rattle.rules.specs.Inner.Timers.{timers_in}
use Rattle.expressions.proofs.Steps.{Refuses, done_place}
use Rattle.cases.proofs.Parts.{behind_refused}
use Rattle.lexer.specs.declared.Place.{Place}
use Rattle.lexer.specs.Results.{Step}
use Rattle.std.specs.Prelude.{Ok, Err}
use Rattle.limits.specs.declared.Refusal.{Refusal}
use Rattle.limits.specs.Refusals.{refusal_number, refusal_place}
use Rattle.grammar.specs.Expressions.{Scope}
use Rattle.grammar.proofs.Combine.{apart, same_value}
use Rattle.grammar.proofs.Standing.{normally, spells_in}
use Rattle.grammar.proofs.DerivedRules.{RulesReads, rules_derive}
use Rattle.semantics.proofs.Reference.{length_known}
use Rattle.grammar.proofs.Whole.{spellings_length}
use Rattle.phrases.proofs.Writing.{writes, refuses}
use Rattle.translate.specs.Inner.Descent.{Declarations, heading_of, HeadingRead, scope_after, free_scope, scope_of_watches, tail_from, WatchesRead, Descends}
use Rattle.translate.proofs.Stores.{counts_last}
use Rattle.translate.proofs.Ways.{never, made, closed_fault, closed_tail, program_heading, untimed, all_few, table_long}

-- few names, few bytes, within the text; the names are names of a text
pub record Few (text : List ℕ) (d : Declarations) (n : ℕ) : Type 0 where
  pub names : length d.names ≤ name_limit
  pub inputs : d.inputs ≤ length d.names
  pub within : n ≤ length text
  pub room : 2 * length (header d.names) ≤ 3 * n
  pub spelled : Named (spellings d.names)

pub heading_few : (text : List ℕ) → length text ≤ text_limit → (d : Declarations) (n : ℕ) → heading_of text ≡ accepted d n → Few text d n
unfolding heading_of
heading_few text short d n e = first (declarations input_word text [] 0) refl e
  where
    third : (inputs names : List Name) (n1 n2 : ℕ) → declarations input_word text [] 0 ≡ accepted inputs n1 → declarations var_word text inputs n1 ≡ accepted names n2
        → (p : Parsed WithTimers) → timers_from 65 text (length inputs) (length names) (untimed names) n2 ≡ p
        → ◌≡◌ {A = Parsed Declarations} (and_then p (λ x n3. accepted (record { inputs = length inputs; names = x.names; timers = x.timers }) n3)) (accepted d n) → Few text d n
    third inputs names n1 n2 f g (accepted x n3) h i =
        let y = all_few text short inputs names x n1 n2 n3 f g h in
        let z : Few text (record { inputs = length inputs; names = x.names; timers = x.timers }) n3 = record { names = y.0; inputs = y.1; within = y.2; room = y.3; spelled = y.4 } in
        let ed : record { inputs = length inputs; names = x.names; timers = x.timers } ≡ d = cc in
        let en : n3 ≡ n = cc in
        subst (λ (k : ℕ). Few text d k) en (subst (λ (w : Declarations). Few text w n3) ed z)
    third inputs names n1 n2 f g (refused k q) h i = never d n k q (sym i)

    second : (inputs : List Name) (n1 : ℕ) → declarations input_word text [] 0 ≡ accepted inputs n1 → (p : Parsed (List Name)) → declarations var_word text inputs n1 ≡ p
        → ◌≡◌ {A = Parsed Declarations} (and_then p (λ names n2. and_then (timers_from 65 text (length inputs) (length names) (untimed names) n2) (λ x n3. accepted (record { inputs = length inputs; names = x.names; timers = x.timers }) n3))) (accepted d n) → Few text d n
    second inputs n1 f (accepted names n2) g i = third inputs names n1 n2 f g (timers_from 65 text (length inputs) (length names) (untimed names) n2) refl i
    second inputs n1 f (refused k q) g i = never d n k q (sym i)

    first : (p : Parsed (List Name)) → declarations input_word text [] 0 ≡ p
        → ◌≡◌ {A = Parsed Declarations} (and_then p (λ inputs n1. and_then (declarations var_word text inputs n1) (λ names n2. and_then (timers_from 65 text (length inputs) (length names) (untimed names) n2) (λ x n3. accepted (record { inputs = length inputs; names = x.names; timers = x.timers }) n3)))) (accepted d n) → Few text d n
    first (accepted inputs n1) f i = second inputs n1 f (declarations var_word text inputs n1) refl i
    first (refused k q) f i = never d n k q (sym i)

-- ---- the rules

-- the names in the table are those declared
pub table_named : (text starts ends : List ℕ) (d : Declarations) (m k : ℕ) → TableHolds text starts ends m d.names → k ≡ m → Named (spellings d.names) → Named (table_names text starts ends k)
table_named text starts ends d m k h e n = rw (e, h.spelled) n

-- the scope of the rules at their start: all the names, and the inputs among them known
pub scope_is : (text starts ends : List ℕ) (d : Declarations) (c m : ℕ) (names : Names) → TableHolds text starts ends m d.names → c ≡ d.inputs → m ≡ length d.names
    → (names.count ≡ m) × (flags_of m names.known ≡ known_first c m) → scope_of text starts ends names ≡ scope_after text d
scope_is text starts ends d c m names h ec em en = rw (en.0, h.spelled, en.1, ec, em)

-- the rules that were read in it
pub rules_read : (text before mid after starts ends watched limits : List ℕ) (a t c m f : ℕ) (x : HeadingRead text before mid starts ends watched limits a t c m f) (names : Names) → (names.count ≡ m) × (flags_of m names.known ≡ known_first c m) → {r : Step}
    → Writes (code_of_rules (timers_in watched limits f names.count)) (ruled_told names.count) ruled_behind (looked_ahead text (rules_from 65 (timers_in watched limits f names.count) (scope_of text starts ends names) [] a)) t mid after r
    → Writes (code_of_rules x.read.timers) (ruled_told m) ruled_behind (looked_ahead text (rules_from 65 x.read.timers (scope_after text x.read) [] a)) t mid after r
rules_read text before mid after starts ends watched limits a t c m f x names e {r} w =
    subst (λ (ts : List Timer). Writes (code_of_rules ts) (ruled_told m) ruled_behind (looked_ahead text (rules_from 65 ts (scope_after text x.read) [] a)) t mid after r) (sym x.timed)
    (subst (λ (sc : Scope). Writes (code_of_rules (timers_in watched limits f m)) (ruled_told m) ruled_behind (looked_ahead text (rules_from 65 (timers_in watched limits f m) sc [] a)) t mid after r)
    (scope_is text starts ends x.read c m names x.held x.counted x.named e)
    (subst (λ (k : ℕ). Writes (code_of_rules (timers_in watched limits f k)) (ruled_told k) ruled_behind (looked_ahead text (rules_from 65 (timers_in watched limits f k) (scope_of text starts ends names) [] a)) t mid after r) e.0 w))

-- the scope of the watches: all the names
pub tail_is : (text starts ends : List ℕ) (d : Declarations) (m b : ℕ) (known : List Bool) (y : Ruled) → TableHolds text starts ends m d.names → m ≡ length d.names → known ≡ y.known → tail_from (free_scope text starts ends m) known b ≡ tail_from (scope_of_watches text d) y.known b
tail_is text starts ends d m b known y h em ek = rw (h.spelled, em, ek)

-- the rules end within the text
pub rules_in : (text : List ℕ) (d : Declarations) (a : ℕ) (y : Ruled) (b : ℕ) → Few text d a → rules_from 65 d.timers (scope_after text d) [] a ≡ accepted y b → b ≤ length text
rules_in text d a y b few e =
    let l : length (spellings d.names) ≡ length d.names = spellings_length d.names in
    let r = subst (RulesReads d.timers text (spellings d.names) (known_first d.inputs (length d.names)) [] a) e (rules_derive 65 d.timers (scope_after text d) (omega (arith, l, few.names)) (l ∙ sym (length_known d.inputs (length d.names))) few.spelled [] a few.within) in
    (spells_in normally text a b r.tokens few.within r.spells).1

-- ---- the answer and the bytes of the whole

module _ (text before last starts ends : List ℕ) {r : Step} where
  descends_refused : (e : Refusal) → r ≡ Err e → program text ≡ refused (refusal_number e) (refusal_place e) → Descends text (program text) before last starts ends r
  descends_refused e d h = record { writes = refuses d h; named = λ q n i. never q n _ _ (sym i ∙ h); watched = λ q n x i j. never q n _ _ (sym i ∙ h); timed = λ q n x i j. never q n _ _ (sym i ∙ h) }

  pub no_heading : (e : Refusal) → r ≡ Err e → heading_of text ≡ refused (refusal_number e) (refusal_place e) → Descends text (program text) before last starts ends r
  no_heading e d h = descends_refused e d (program_heading text ∙ rw h)

  module _ (x : Declarations) (a : ℕ) (e : heading_of text ≡ accepted x a) where
    pub no_rules : (k : Refusal) → r ≡ Err k → Refuses text (rules_from 65 x.timers (scope_after text x) [] a) (refusal_number k) (refusal_place k) → Descends text (program text) before last starts ends r
    no_rules k d f = descends_refused k d (program_heading text ∙ rw e (behind_refused text _ (closed_fault text x) (rules_from 65 x.timers (scope_after text x) [] a) f))

    pub no_tail : (y : Ruled) (b : ℕ) (k : Refusal) → rules_from 65 x.timers (scope_after text x) [] a ≡ accepted y b → r ≡ Err k → tail_from (scope_of_watches text x) y.known b ≡ refused (refusal_number k) (refusal_place k) → Descends text (program text) before last starts ends r
    no_tail y b k f d g = descends_refused k d (program_heading text ∙ rw (e, f, closed_tail text x y b, g))

-- the bytes of an image whose counts have one byte each
pub image_bytes : (q : Program) → q.inputs < 128 → length q.names < 128 → image q ≡ q.inputs ∷ (length q.names - q.inputs) ∷ (header q.names ++ bytes_r q.timers q.rules)
unfolding image
image_bytes q h i = rw (groups_one q.inputs h, groups_one (length q.names - q.inputs) (omega arith))

-- where the watches stand, if they and the end of the text are read
tail_watches : (sc : Scope) (known : List Bool) (at : ℕ) (ws : List Watch) (l : ℕ) → tail_from sc known at ≡ accepted ws l → (n : ℕ) × (watches_from watch_limit sc [] at ≡ accepted ws n)
unfolding tail_from
tail_watches sc known at ws l = go (watches_from watch_limit sc [] at) refl
  where
    inner : (us : List Watch) (n : ℕ) (p : Parsed (Unit {0})) → watches_from watch_limit sc [] at ≡ accepted us n → ◌≡◌ {A = Parsed (List Watch)} (and_then p (λ u m. accepted us m)) (accepted ws l) → (n : ℕ) × (watches_from watch_limit sc [] at ≡ accepted ws n)
    inner us n (accepted u m) i e = (n, i ∙ ap (λ (vs : List Watch). accepted vs n) (same_value e))
    inner us n (refused k q) i e = apart (sym e)

    go : (p : Parsed (List Watch)) → watches_from watch_limit sc [] at ≡ p → ◌≡◌ {A = Parsed (List Watch)} (and_then p (λ us n. and_then (end_at sc.text known n) (λ u m. accepted us m))) (accepted ws l) → (n : ℕ) × (watches_from watch_limit sc [] at ≡ accepted ws n)
    go (accepted us n) i e = inner us n (end_at sc.text known n) i e
    go (refused k q) i e = apart (sym e)

-- all is read: the counts are stored last
module _ (text before mid last starts ends watched limits : List ℕ) (a t c m v₀ b l u : ℕ) (x : HeadingRead text before mid starts ends watched limits a t c m v₀) (few : Few text x.read a) (y : Ruled) (ws : List Watch) (e : rules_from 65 x.read.timers (scope_after text x.read) [] a ≡ accepted y b) (g : tail_from (scope_of_watches text x.read) y.known b ≡ accepted ws l) (eu : u ≡ t + length (bytes_r x.read.timers y.rules)) (w : last ≡ sets mid t (bytes_r x.read.timers y.rules)) where
  abbrev rules : List Rule
  rules = y.rules

  abbrev whole : Program
  whole = made x.read y ws

  is_whole : program text ≡ accepted whole l
  is_whole = program_heading text ∙ rw (x.is_read, e, closed_tail text x.read y b, g)

  stand : WatchesRead text whole b
  stand = let s = tail_watches (scope_of_watches text x.read) y.known b ws l g in record { within = rules_in text x.read a y b few e; end = s.0; read = s.1 }

  bytes : image whole ≡ x.read.inputs ∷ (length x.read.names - x.read.inputs) ∷ (header x.read.names ++ bytes_r x.read.timers rules)
  bytes = image_bytes whole (omega (arith, few.inputs, few.names)) (omega (arith, few.names))

  body : last ≡ sets before 2 (header x.read.names ++ bytes_r x.read.timers rules)
  body =
      w ∙ ap (λ (l : List ℕ). sets l t (bytes_r x.read.timers rules)) x.wrote
      ∙ ap (λ (k : ℕ). sets (sets before 2 (header x.read.names)) k (bytes_r x.read.timers rules)) x.ended
      ∙ sym (sets_append before 2 (header x.read.names) (bytes_r x.read.timers rules))

  all_stored : set (set last 0 c) 1 (m - c) ≡ sets before 0 (image whole)
  all_stored =
      rw (body, x.counted, x.named) (counts_last before x.read.inputs (length x.read.names - x.read.inputs) (header x.read.names ++ bytes_r x.read.timers rules)) ∙ ap (sets before 0) (sym bytes)

  size : length (image whole) ≡ u
  size =
      let l : length (image whole) ≡ 2 + (length (header x.read.names) + length (bytes_r x.read.timers rules)) = ap length bytes ∙ simp length-append (omega arith) in
      omega (arith, eu, x.ended)

  pub descends_whole : {r : Step} {z : Place} → r ≡ Ok z → z.at ≡ l → z.to ≡ u → z.start ≡ b → z.number ≡ length ws → z.end ≡ m - v₀ → Descends text (program text) before (set (set last 0 c) 1 (m - c)) starts ends r
  descends_whole {r} {z} d ea et es en eo = record {
    writes = writes d (record { tree = whole; is = is_whole ∙ ap (accepted whole) (sym ea); ended = omega (arith, size); tells_it = refl; wrote = all_stored });
    named = λ q n h. subst (λ (p : Program). TableHolds text starts ends (length p.names) p.names) (same_value (sym is_whole ∙ h)) (subst (λ (k : ℕ). TableHolds text starts ends k x.read.names) x.named x.held);
    watched = λ q n v h i. placed q (same_value (sym is_whole ∙ h)) v (done_place (sym d ∙ i));
    timed = λ q n v h i. sym (ap (λ (o : Place). o.end) (done_place (sym d ∙ i))) ∙ eo ∙ sym (ap length x.timed ∙ table_long watched limits v₀ (m - v₀)) ∙ ap (λ (p : Program). length p.timers) (same_value (sym is_whole ∙ h));
  }
    where
      placed : (q : Program) → whole ≡ q → (v : Place) → z ≡ v → (v.number ≡ length q.watches) × WatchesRead text q v.start
      placed q h v i = subst (λ (p : Program). (v.number ≡ length p.watches) × WatchesRead text p v.start) h
          (subst (λ (o : Place). (o.number ≡ length ws) × WatchesRead text whole o.start) i (en, subst (WatchesRead text whole) (sym es) stand))
