-- The ways through a whole text: its declarations, its rules, then its watches and its end. Assumes nothing.
use mathlib.Core.Path.{◌≡◌, refl, sym, ap, ap₂, subst, fun_ext, ◌∙◌}
use mathlib.Core.List.{List, [], ◌∷◌, ◌++◌, append-nil}
use Prim.Native.Nat.{ℕ, zero, suc, ◌+◌, ◌*◌, ◌≤◌}
use native.Mathlib.Nat.{le_refl}
use native.Mathlib.Omega.{arith}
use lib.ListN.{length, get_or, drop, length-append}
use lib.Seq.{sets, drop-append_seam}
use Rattle.limits.specs.Limits.{text_limit, name_limit, watch_limit, no_token}
use Rattle.lexer.specs.Token.{input_word, var_word, fault}
use Rattle.lexer.specs.Lexer.{token_at}
use Rattle.semantics.specs.Program.{Name, Timer, Watch, Program}
use Rattle.grammar.specs.Parsed.{Parsed, accepted, refused, and_then}
use Rattle.grammar.specs.Declarations.{declarations, spellings}
use Rattle.grammar.specs.Timers.{WithTimers, timers_from}
use Rattle.grammar.specs.Inner.Names.{Named}
use Rattle.grammar.specs.Rules.{Ruled, rules_from}
use Rattle.grammar.specs.Watches.{watches_from}
use Rattle.grammar.specs.Inner.Bytes.{header}
use Rattle.grammar.specs.Parse.{end_at, program}
use Rattle.grammar.proofs.Whole.{Ends, Names, declarations_fit, named, timers_named}
use Rattle.grammar.proofs.Size.{Pays, declarations_pay}
use Rattle.grammar.proofs.SizeText.{timed_bytes, timers_pay}
use Rattle.grammar.proofs.DerivedTimers.{TimersReads, timers_derive}
use Rattle.lexer.specs.declared.Place.{Place}
use Rattle.lexer.specs.Results.{Step}
use Rattle.std.specs.Prelude.{Ok, Err}
use Rattle.limits.specs.declared.Refusal.{Refusal}
use Rattle.limits.specs.Refusals.{refusal_number, refusal_place}
use Rattle.phrases.proofs.Writing.{got, refused_part}
use Rattle.rules.specs.Inner.Timers.{table_timers}
use Rattle.declarations.specs.Inner.Timers.{TimersStand, TimersHeld, timers_header, DeclaresTimers}
use Rattle.declarations.proofs.Loop.{header_append}
use Rattle.declarations.specs.Inner.Tables.{TableHolds, header_after}
use Rattle.declarations.proofs.Known.{AllDeclared, header_joined}
use Rattle.declarations.proofs.Entries.{step_refused}
use Rattle.grammar.proofs.Combine.{then_then}
use Rattle.expressions.proofs.Steps.{done_place}
use Rattle.watches.proofs.Reading.{watches_fault}
use Rattle.leb128.proofs.Stores.{sets_append}
use Rattle.translate.specs.Inner.Descent.{Declarations, heading_of, HeadingRead, ReadsHeading, scope_after, scope_of_watches, tail_from}

-- ---- what follows what

-- the program of its parts
abbrev pub made : Declarations → Ruled → List Watch → Program
made d r ws = record { inputs = d.inputs; names = d.names; timers = d.timers; rules = r.rules; watches = ws }

-- the watches and the end of the text after the rules
abbrev pub closed : List ℕ → Declarations → Ruled → ℕ → Parsed Program
closed text d r n = and_then (watches_from watch_limit (scope_of_watches text d) [] n) (λ ws m. and_then (end_at text r.known m) (λ u l. accepted (made d r ws) l))

-- no token behind the rules
pub closed_fault : (text : List ℕ) (d : Declarations) (r : Ruled) (n q : ℕ) → token_at text n ≡ fault q → closed text d r n ≡ refused no_token q
closed_fault text d r n q e = rw (watches_fault (scope_of_watches text d) [] n watch_limit e)

pub closed_tail : (text : List ℕ) (d : Declarations) (r : Ruled) (n : ℕ) → closed text d r n ≡ and_then (tail_from (scope_of_watches text d) r.known n) (λ ws m. accepted (made d r ws) m)
unfolding tail_from
closed_tail text d r n = go (watches_from watch_limit (scope_of_watches text d) [] n)
  where
    inner : (ws : List Watch) (p : Parsed (Unit {0})) → ◌≡◌ {A = Parsed Program} (and_then p (λ u l. accepted (made d r ws) l)) (and_then (and_then p (λ u l. accepted ws l)) (λ us m. accepted (made d r us) m))
    inner ws (accepted u l) = refl
    inner ws (refused k q) = refl

    go : (p : Parsed (List Watch)) → ◌≡◌ {A = Parsed Program} (and_then p (λ ws m. and_then (end_at text r.known m) (λ u l. accepted (made d r ws) l))) (and_then (and_then p (λ ws m. and_then (end_at text r.known m) (λ u l. accepted ws l))) (λ us m. accepted (made d r us) m))
    go (accepted ws m) = inner ws (end_at text r.known m)
    go (refused k q) = refl

-- the rules after the declarations
abbrev pub ruled : List ℕ → Declarations → ℕ → Parsed Program
ruled text d n = and_then (rules_from 65 d.timers (scope_after text d) [] n) (λ r m. closed text d r m)

pub program_heading : (text : List ℕ) → program text ≡ and_then (heading_of text) (λ d n. ruled text d n)
unfolding program heading_of
program_heading text =
    sym (then_then (declarations input_word text [] 0) _ _
    ∙ ap (λ (f : List Name → ℕ → Parsed Program). and_then (declarations input_word text [] 0) f)
    (fun_ext λ inputs. fun_ext λ n1. then_then (declarations var_word text inputs n1) _ _
    ∙ ap (λ (f : List Name → ℕ → Parsed Program). and_then (declarations var_word text inputs n1) f)
    (fun_ext λ names. fun_ext λ n2. then_then (timers_from 65 text (length inputs) (length names) (record { names = names; timers = [] }) n2) _ _)))

-- ---- timers of two tables

same_timer : (x : Timer) (i w n : ℕ) → x.id ≡ i → w ≡ x.watched → n ≡ x.limit → x ≡ record { id = i; watched = w; limit = n }
same_timer x i w n a b d = ap (λ (j : ℕ). record { id = j; watched = x.watched; limit = x.limit }) a ∙ ap (λ (j : ℕ). record { id = i; watched = j; limit = x.limit }) (sym b) ∙ ap (λ (j : ℕ). record { id = i; watched = w; limit = j }) (sym d)

stand_table : (watched limits : List ℕ) (i : ℕ) (ts : List Timer) → TimersStand watched limits i ts → ts ≡ table_timers watched limits i (length ts)
unfolding table_timers
stand_table watched limits i [] h = refl
stand_table watched limits i (x ∷ xs) h = ap₂ (λ (y : Timer) (ys : List Timer). y ∷ ys) (same_timer x i (get_or watched i 0) (get_or limits i 0) h.0.0 h.0.1 h.0.2) (stand_table watched limits (suc i) xs h.1)

pub table_long : (watched limits : List ℕ) (i n : ℕ) → length (table_timers watched limits i n) ≡ n
unfolding table_timers
table_long watched limits i zero = refl
table_long watched limits i (suc n) = ap suc (table_long watched limits (suc i) n)

-- ---- the ways through the declarations

-- names without timers yet
abbrev pub untimed : List Name → WithTimers
untimed names = record { names = names; timers = [] }

module _ (text : List ℕ) where
  pub inputs_refused : (k p : ℕ) → declarations input_word text [] 0 ≡ refused k p → heading_of text ≡ refused k p
  unfolding heading_of
  inputs_refused k p e = rw e

  module _ (inputs : List Name) (n1 : ℕ) (e : declarations input_word text [] 0 ≡ accepted inputs n1) where
    pub variables_refused : (k p : ℕ) → declarations var_word text inputs n1 ≡ refused k p → heading_of text ≡ refused k p
    unfolding heading_of
    variables_refused k p f = rw (e, f)

    module _ (names : List Name) (n2 : ℕ) (f : declarations var_word text inputs n1 ≡ accepted names n2) where
      pub timers_refused : (k p : ℕ) → timers_from 65 text (length inputs) (length names) (untimed names) n2 ≡ refused k p → heading_of text ≡ refused k p
      unfolding heading_of
      timers_refused k p g = rw (e, f, g)

      pub all_accepted : (x : WithTimers) (n3 : ℕ) → timers_from 65 text (length inputs) (length names) (untimed names) n2 ≡ accepted x n3 → heading_of text ≡ accepted (record { inputs = length inputs; names = x.names; timers = x.timers }) n3
      unfolding heading_of
      all_accepted x n3 g = rw (e, f, g)

  module _ (short : length text ≤ text_limit) where
    -- the inputs that are accepted: few names, few bytes, within the text
    pub inputs_few : (inputs : List Name) (n1 : ℕ) → declarations input_word text [] 0 ≡ accepted inputs n1 → (length inputs ≤ name_limit) × (n1 ≤ length text) × (2 * length (header inputs) ≤ 3 * n1)
    unfolding declarations header
    inputs_few inputs n1 e =
        let g = subst (Ends (length text) (Names text 0)) e (declarations_fit text 65 input_word [] 0 0 (omega arith) (tt, omega arith, omega arith, tt)) in
        let p = subst (Pays (λ (l : List Name). length (header l)) (length text) 0) e (declarations_pay text 65 input_word [] 0 (omega arith) (omega arith)) in
        (g.0.1, g.1, omega (arith, p.0))

    pub names_few : (inputs names : List Name) (n1 n2 : ℕ) → declarations input_word text [] 0 ≡ accepted inputs n1 → declarations var_word text inputs n1 ≡ accepted names n2
        → (length names ≤ name_limit) × (length inputs ≤ length names) × (n2 ≤ length text) × (2 * length (header names) ≤ 3 * n2) × Named (spellings names)
    unfolding declarations header
    names_few inputs names n1 n2 e f =
        let g1 = subst (Ends (length text) (Names text 0)) e (declarations_fit text 65 input_word [] 0 0 (omega arith) (tt, omega arith, omega arith, tt)) in
        let p1 = subst (Pays (λ (l : List Name). length (header l)) (length text) 0) e (declarations_pay text 65 input_word [] 0 (omega arith) (omega arith)) in
        let g2 = subst (Ends (length text) (Names text (length inputs))) f (declarations_fit text 65 var_word inputs n1 (length inputs) g1.1 (g1.0.0, g1.0.1, le_refl (length inputs), g1.0.3)) in
        let p2 = subst (Pays (λ (l : List Name). length (header l)) (length text) 0) f (declarations_pay text 65 var_word inputs n1 g1.1 (omega (arith, p1.0))) in
        (g2.0.1, g2.0.2, g2.1, omega (arith, p2.0), named names g2.0.0 g2.0.3)

    pub all_few : (inputs names : List Name) (x : WithTimers) (n1 n2 n3 : ℕ) → declarations input_word text [] 0 ≡ accepted inputs n1 → declarations var_word text inputs n1 ≡ accepted names n2
        → timers_from 65 text (length inputs) (length names) (untimed names) n2 ≡ accepted x n3
        → (length x.names ≤ name_limit) × (length inputs ≤ length x.names) × (n3 ≤ length text) × (2 * length (header x.names) ≤ 3 * n3) × Named (spellings x.names)
    unfolding declarations header
    all_few inputs names x n1 n2 n3 e f g =
        let g1 = subst (Ends (length text) (Names text 0)) e (declarations_fit text 65 input_word [] 0 0 (omega arith) (tt, omega arith, omega arith, tt)) in
        let p1 = subst (Pays (λ (l : List Name). length (header l)) (length text) 0) e (declarations_pay text 65 input_word [] 0 (omega arith) (omega arith)) in
        let g2 = subst (Ends (length text) (Names text (length inputs))) f (declarations_fit text 65 var_word inputs n1 (length inputs) g1.1 (g1.0.0, g1.0.1, le_refl (length inputs), g1.0.3)) in
        let p2 = subst (Pays (λ (l : List Name). length (header l)) (length text) 0) f (declarations_pay text 65 var_word inputs n1 g1.1 (omega (arith, p1.0))) in
        let g3 = subst (Ends (length text) (λ (y : WithTimers). Names text (length inputs) y.names)) g (timers_named text (length inputs) names 65 (untimed names) [] (sym (append-nil names)) n2 (length inputs) g2.1 g2.0) in
        let p3 = subst (Pays (timed_bytes text (length inputs) names) (length text) 0) g (timers_pay text (length inputs) names 65 (untimed names) [] (sym (append-nil names)) n2 g2.1 (omega (arith, p2.0))) in
        (g3.0.1, g3.0.2, g3.1, omega (arith, p3.0), named x.names g3.0.0 g3.0.3)

-- ---- what reading the declarations leaves

pub never : {A X : Type 0} (a : A) (n k p : ℕ) → ◌≡◌ {A = Parsed A} (accepted a n) (refused k p) → X
never a n k p e = let z : ◌≡◌ {A = ℕ} 0 1 = cc in let f : ⊥ = omega arith in absurd f

-- the declarations of inputs, then those of variables
module _ (text before mid after e0 s1 e1 s2 e2 : List ℕ) (a t c b u m : ℕ) (x : AllDeclared input_word text [] 0 2 before mid e0 s1 e1 a t c) (y : AllDeclared var_word text x.all a t mid after e1 s2 e2 b u m) where
  first_end : t ≡ 2 + length (header x.all)
  unfolding header_after
  first_end = x.ended

  joined : header y.all ≡ header x.all ++ header_after x.all y.all
  joined = header_joined var_word text x.all a y.read

  pub end_is : 2 + length (header y.all) ≡ u
  end_is =
      let l : length (header y.all) ≡ length (header x.all) + length (header_after x.all y.all) = ap length joined ∙ simp length-append in
      omega (arith, first_end, y.ended)

  stored : after ≡ sets before 2 (header y.all)
  unfolding header_after
  stored =
      y.wrote
      ∙ ap (λ (l : List ℕ). sets l t (header_after x.all y.all)) x.wrote
      ∙ ap (λ (k : ℕ). sets (sets before 2 (header x.all)) k (header_after x.all y.all)) first_end
      ∙ sym (sets_append before 2 (header x.all) (header_after x.all y.all))
      ∙ ap (sets before 2) (sym joined)

  -- no timer yet
  pub held_untimed : (watched limits : List ℕ) → TimersHeld text s2 e2 watched limits m m (untimed y.all)
  held_untimed watched limits = record {
    known = record { table = y.held; variables = y.all; others = []; split = sym (append-nil y.all); many = sym y.counted; stand = y.stand (x.stand tt) };
    timed = tt;
    as_many = omega arith;
  }

  -- then those of timers
  module _ (short : length text ≤ text_limit) (last s3 e3 watched limits : List ℕ) {r : Step} (d : DeclaresTimers text c m (untimed y.all) b u after last s3 e3 watched limits r) where
    same_parse : timers_from 65 text c m (untimed y.all) b ≡ timers_from 65 text (length x.all) (length y.all) (untimed y.all) b
    same_parse = rw (x.counted, y.counted)

    pub heading_refused : {e : Refusal} → r ≡ Err e → heading_of text ≡ refused (refusal_number e) (refusal_place e)
    heading_refused g = timers_refused text x.all a x.read y.all b y.read _ _ (sym same_parse ∙ refused_part d.writes g)

    pub heading_read : {p : Place} → r ≡ Ok p → HeadingRead text before last s3 e3 watched limits p.at p.to c p.number m
    unfolding timers_header
    heading_read {p} g =
        let z = got d.writes g in
        let is : timers_from 65 text (length x.all) (length y.all) (untimed y.all) b ≡ accepted z.tree p.at = sym same_parse ∙ z.is in
        let few = names_few text short x.all y.all a b x.read y.read in
        let more = subst (TimersReads text (length x.all) y.all (untimed y.all) b) is (timers_derive text (length x.all) y.all 65 (untimed y.all) [] (sym (append-nil y.all)) b few.2) in
        let behind : header (drop m z.tree.names) ≡ header more.names = ap (λ (l : List Name). header (drop m l)) more.is_names ∙ ap (λ (k : ℕ). header (drop k (y.all ++ more.names))) y.counted ∙ ap header (drop-append_seam y.all more.names) in
        let whole : header z.tree.names ≡ header y.all ++ header (drop m z.tree.names) = ap header more.is_names ∙ header_append y.all more.names ∙ ap (λ (l : List ℕ). header y.all ++ l) (sym behind) in
        let long : length (header z.tree.names) ≡ length (header y.all) + length (header (drop m z.tree.names)) = ap length whole ∙ simp length-append in
        let kept = d.held z.tree p.at z.is in
        let count : p.number ≡ m + length z.tree.timers = z.tells_it ∙ kept.as_many in
        record {
          read = record { inputs = length x.all; names = z.tree.names; timers = z.tree.timers };
          is_read = all_accepted text x.all a x.read y.all b y.read z.tree p.at is;
          ended = omega (arith, z.ended, long, end_is);
          counted = x.counted;
          named = z.tells_it;
          wrote = z.wrote ∙ ap (λ (l : List ℕ). sets l u (header (drop m z.tree.names))) stored ∙ ap (λ (k : ℕ). sets (sets before 2 (header y.all)) k (header (drop m z.tree.names))) (sym end_is)
              ∙ sym (sets_append before 2 (header y.all) (header (drop m z.tree.names))) ∙ ap (sets before 2) (sym whole);
          held = subst (λ (k : ℕ). TableHolds text s3 e3 k z.tree.names) (sym z.tells_it) kept.known.table;
          ordered = omega (arith, count);
          timed = stand_table watched limits m z.tree.timers kept.timed ∙ ap (table_timers watched limits m) (omega (arith, count));
        }

-- ---- the answer

pub refused_heading : (text before after' starts ends watched limits : List ℕ) {r : Step} {e : Refusal} → r ≡ Err e → heading_of text ≡ refused (refusal_number e) (refusal_place e) → ReadsHeading text before after' starts ends watched limits r
refused_heading text before after' starts ends watched limits g f = record { refuses = λ k h. f ∙ passed (sym g ∙ h); reads = λ x h. step_refused (sym g ∙ h) }
  where
    passed : {k l : Refusal} → ◌≡◌ {A = Step} (Err k) (Err l) → ◌≡◌ {A = Parsed Declarations} (refused (refusal_number k) (refusal_place k)) (refused (refusal_number l) (refusal_place l))
    passed {k} {l} h = let i : k ≡ l = cc in ap (λ (x : Refusal). refused (refusal_number x) (refusal_place x)) i

pub done_heading : (text before after' starts ends watched limits : List ℕ) {r : Step} {x : Place} → r ≡ Ok x → HeadingRead text before after' starts ends watched limits x.at x.to x.start x.number x.end → ReadsHeading text before after' starts ends watched limits r
done_heading text before after' starts ends watched limits {x = x} g d = record {
  refuses = λ k h. step_refused (sym h ∙ g);
  reads = λ y h. subst (λ (z : Place). HeadingRead text before after' starts ends watched limits z.at z.to z.start z.number z.end) (done_place (sym g ∙ h)) d;
}
