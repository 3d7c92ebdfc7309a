-- A token refused by 2 begins no text of the bare grammar: the record `NoneGoOn`. Assumes nothing.
use mathlib.Core.Path.{◌≡◌, refl, ap, ap₂, sym, ◌∙◌, subst}
use mathlib.Core.List.{List, [], ◌∷◌, ◌++◌, append_assoc, append-nil}
use mathlib.Core.Bool.{Bool, cond, true, false}
use Prim.Native.Nat.{ℕ, zero, suc, ◌-◌, ◌≤◌, ◌<◌}
use native.Mathlib.Nat.{le_refl}
use native.Mathlib.Omega.{arith}
use lib.ListN.{length}
use lib.Dec.{ltb}
use borrow.Author.Tests.{ltb-false}
use Rattle.limits.specs.Limits.{text_limit, watch_limit}
use Rattle.lexer.specs.Bytes.{bytes, part}
use Rattle.lexer.specs.Token.{Kind, kind_number, ending, name, input_word, var_word, timer_word, watch_word, is, TokenRead, token, fault, spelling_of}
use Rattle.lexer.specs.Lexer.{over_long, token_at}
use Rattle.lexer.proofs.Laws.{cond_prop, token_at_moved}
use Rattle.semantics.specs.Program.{Timer, Rule, target, all_true, taken, known_first, free}
use Rattle.grammar.specs.Parsed.{Parsed, accepted, refused, and_then, on_token}
use Rattle.grammar.specs.Expressions.{Scope}
use Rattle.grammar.specs.Declarations.{spellings, declarations}
use Rattle.grammar.specs.Timers.{WithTimers, timers_from}
use Rattle.grammar.specs.Rules.{rule_at, ruled, rules_from}
use Rattle.grammar.specs.Watches.{watches_from}
use Rattle.grammar.specs.Parse.{end_at, program, parse}
use Rattle.grammar.specs.Derivation.{Tokens, Stands, Spells, normal}
use Rattle.grammar.proofs.Bytes.{part_length, heads}
use Rattle.lexer.specs.Spelling.{SpellsName, Spelling}
use Rattle.lexer.proofs.Spellings.{is_fixed}
use Rattle.grammar.proofs.Standing.{stands_in, spells_in, is_read, Seen, seen_capitals, written, normally}
use Rattle.grammar.proofs.Derived.{sign_stands}
use Rattle.grammar.proofs.Whole.{Ends, Names, declarations_fit}
use Rattle.grammar.proofs.Normal.{name-seen, normal_twice, normal_length}
use Rattle.grammar.proofs.SameRule.{formulas_same}
use Rattle.faults.specs.Grammar as G
use Rattle.faults.specs.Grammar.{AreNames, AreDeclarations, AreTimers, IsRule, AreRules, AreWatches, IsText, BeginsNone, NoneGoOn}
use Rattle.faults.proofs.TextPlaces.{refused_parse}
use Rattle.faults.proofs.ViableText.{allowed_before}
use Rattle.faults.proofs.Languages.{Joins}
use Rattle.faults.proofs.Sole.{Ahead, BlockedAt, Sole, by_other, nothing_sole, behind, narrow, second, then_sole, cond_sole, token_sole, NoSign, not_sign, first_ahead}
use Rattle.faults.proofs.SoleParts.{Anything, apart, id_sole, whole_expression_sole}
use Rattle.faults.proofs.SoleConditions.{whole_condition_sole}
use Rattle.faults.proofs.SoleForms.{Word, declared_of, declarations_sole}
use Rattle.faults.proofs.SoleTimers.{timer_of, timers_sole}
use Rattle.faults.proofs.SoleRules.{RuleRest, rule_of, formulas_sole}
use Rattle.faults.proofs.SoleWatches.{watches_ends, watches_sole}

-- ---- of what is accepted nothing is said

abbrev Empty : Tokens → Type 0
Empty ys = ys ≡ []

abbrev Failing : {A : Type 0} → (Tokens → Type 0) → (Tokens → Type 0) → List ℕ → ℕ → Parsed A → Type 0
Failing L S text at (accepted a n) = Unit {0}
Failing L S text at (refused number place) = number ≡ 2 → BlockedAt L S text at place

module _ {A B : Type 0} (L M N S S2 : Tokens → Type 0) (text : List ℕ) (at : ℕ) (h : at ≤ length text) (inv : (zs : Tokens) → N zs → Joins L M zs) (follow : (xs ys : Tokens) → M xs → S2 ys → S (xs ++ ys)) where
  then_failing : (p : Parsed A) (f : A → ℕ → Parsed B) → Sole L S text at p → ((a : A) (n : ℕ) → n ≤ length text → p ≡ accepted a n → Failing M S2 text n (f a n)) → Failing N S2 text at (and_then p f)
  then_failing (accepted a n) f x g = let i = spells_in normally text at n x.says.tokens h x.says.spells in go (f a n) (g a n i.1 refl) i.1
    where
      go : (r : Parsed B) → Failing M S2 text n r → n ≤ length text → Failing N S2 text at r
      go (accepted b m) y i = tt
      go (refused k q) y i = (second {B = B} {L = L} {M = M} {N = N} {S = S} {S2 = S2} h inv follow n x.says i (refused k q) (record { says = y })).says
  then_failing (refused k q) f x g = (then_sole {B = B} {L = L} {M = M} {N = N} {S = S} {S2 = S2} h inv follow {A = A} {p = refused k q} {f = λ a n. refused 0 0} x (λ a n i j e. by_other 0 (λ z. omega (arith, z)))).says

same_failing : {A B : Type 0} (L S : Tokens → Type 0) (text : List ℕ) (at : ℕ) (r : Parsed A) (f : A → ℕ → B) → Failing L S text at r → Failing L S text at (and_then r (λ a n. accepted (f a n) n))
same_failing L S text at (accepted a n) f x = tt
same_failing L S text at (refused k q) f x = x

-- ---- rules

module _ (names : List (List ℕ)) (good : AreNames names) where
  rule_sole : (xs : List Timer) (sc : Scope) (at : ℕ) (k : Kind) (s n : ℕ) → at ≤ length sc.text → token_at sc.text at ≡ token k s n → is k name ≡ true → Sole (IsRule names) Anything sc.text at (rule_at xs sc s n)
  unfolding rule_at over_long is kind_number
  rule_sole xs sc at k s n h e t =
      let u = part sc.text s n in
      let nm = (sign_stands written sc.text name refl at k s n h e t).1 in
      let r = sign_stands normally sc.text name refl at k s n h e t in
      let mv = token_at_moved sc.text at k s n h e in
      let seen = subst (Seen normally) (sym (name-seen u nm)) (seen_capitals u) in
      id_sole names good sc at s s n _
      (λ v o. cond_sole (taken xs sc.known v) (λ x. by_other 6 (λ q. omega (arith, q)))
      (λ x.
      let short = ltb-false 16 (n - s) o in
      let l = normal_length u ∙ part_length sc.text s n mv.1 mv.2 in
      behind (normal u) r.0 goes (rw (formulas_same sc u (normal u) (sym (normal_twice u nm)) v n) (formulas_sole names good sc (normal u) (record { is_word = r.1.is_word; short = omega arith; no_word = r.1.no_word }) seen v n mv.2))))
    where
      goes : (us xs ys : Tokens) → normal (part sc.text s n) ∷ us ≡ xs ++ ys → IsRule names xs → Anything ys → (zs : Tokens) × (xs ≡ normal (part sc.text s n) ∷ zs) × RuleRest names good (normal (part sc.text s n)) zs
      goes us xs ys q l z =
          let x = rule_of names good xs l in
          let i : normal (part sc.text s n) ≡ x.0 = heads (q ∙ ap (λ (y : Tokens). y ++ ys) x.2) in
          (x.1, x.2 ∙ ap (λ (v : List ℕ). v ∷ x.1) (sym i), subst (λ (v : List ℕ). RuleRest names good v x.1) (sym i) x.4)

  -- what follows the rules begins with no name
  rules_sole : (f : ℕ) (os : List Timer) (sc : Scope) (done : List Rule) (at : ℕ) → at ≤ length sc.text → Sole (AreRules names) (NoSign SpellsName) sc.text at (rules_from f os sc done at)
  unfolding rules_from is kind_number
  rules_sole zero os sc done at h = by_other 6 (λ e. omega (arith, e))
  rules_sole (suc f) os sc done at h =
      token_sole sc.text at
      (λ k s n e. cond_sole (is k name)
      (λ t.
      let st = sign_stands normally sc.text name refl at k s n h e t in
      narrow h (λ us xs ys ah q l z. some_rules k s n e (name_end k t) us xs ys (ah k s n e) q l z st.1)
      (then_sole {L = IsRule names} {M = AreRules names} {N = Joins (IsRule names) (AreRules names)} {S = Anything} {S2 = NoSign SpellsName} h (λ zs j. j) (λ xs ys l z. tt) (rule_sole os sc at k s n h e t)
      (λ r m i j q. rules_sole f os (ruled os sc (target r)) (done ++ (r ∷ [])) m j)))
      (λ t. nothing_sole _ (λ us xs ys ah q l z. none_left_lem k s n e t us xs ys (ah k s n e) q l)))
    where
      name_end : (k : Kind) → is k name ≡ true → k ≡ ending → ⊥
      name_end k t z = let r : true ≡ false = sym t ∙ ap (λ (x : Kind). is x name) z in let w : ◌≡◌ {A = ℕ} 0 1 = cc in omega arith

      -- with a name some rules begin
      some_rules : (k : Kind) (s n : ℕ) → token_at sc.text at ≡ token k s n → (k ≡ ending → ⊥) → (us xs ys : Tokens) → Ahead k (normal (part sc.text s n)) us → us ≡ xs ++ ys → AreRules names xs → NoSign SpellsName ys → SpellsName (normal (part sc.text s n)) → Joins (IsRule names) (AreRules names) xs
      some_rules k s n e ne us xs ys ah q G.AreRules.none z nm = absurd (subst (NoSign SpellsName) (sym q ∙ (ah.1 ne).1) z nm)
      some_rules k s n e ne us xs ys ah q (G.AreRules.more ts vs x r) z nm = (ts, vs, refl, x, r)

      none_left_lem : (k : Kind) (s n : ℕ) → token_at sc.text at ≡ token k s n → is k name ≡ false → (us xs ys : Tokens) → Ahead k (normal (part sc.text s n)) us → us ≡ xs ++ ys → AreRules names xs → xs ≡ []
      none_left_lem k s n e t us xs ys ah q G.AreRules.none = refl
      none_left_lem k s n e t us xs ys ah q (G.AreRules.more ts vs x r) =
          let y = rule_of names good ts x in
          absurd (first_ahead sc.text at k s n h e us ((y.1 ++ vs) ++ ys) y.0 ah (q ∙ ap (λ (l : Tokens). (l ++ vs) ++ ys) y.2) name y.3 (apart k name refl t))

  -- ---- the end

  end_failing : (text : List ℕ) (known : List Bool) (at : ℕ) → Failing Empty Empty text at (end_at text known at)
  unfolding end_at is kind_number
  end_failing text known at = go (token_at text at) refl
    where
      P : Parsed (Unit {0}) → Type 0
      P r = Failing Empty Empty text at r

      blocks : (k : Kind) (s n : ℕ) → (k ≡ ending → ⊥) → (us xs ys : Tokens) → Ahead k (normal (part text s n)) us → us ≡ xs ++ ys → Empty xs → Empty ys → ⊥
      blocks k s n ne us xs ys ah q l z =
          let y = ah.1 ne in
          let w : ◌≡◌ {A = ℕ} 0 1 = cc in
          omega arith

      go : (x : TokenRead) → token_at text at ≡ x → P (on_token x (λ k s n. cond (is k ending) (cond (all_true known) (accepted tt n) (refused 6 s)) (refused 2 s)))
      go (fault p) e = λ q. absurd (omega (arith, q))
      go (token k s n) e =
          cond_prop P (is k ending) _ _ (λ u. cond_prop P (all_true known) _ _ (λ v. tt) (λ v q. absurd (omega (arith, q))))
          (λ u q. record { before = []; end = at; spells = refl; kind = k; next = n; stands = e; blocked = blocks k s n (apart k ending refl u) })

  -- ---- the whole text

  abbrev Rules : Tokens → Type 0
  Rules = Joins (AreRules names) (AreWatches names)

  abbrev Timed : Tokens → Type 0
  Timed = Joins AreTimers Rules

  abbrev Variables : Tokens → Type 0
  Variables = Joins (AreDeclarations (bytes "var")) Timed

  abbrev TextOf : Tokens → Type 0
  TextOf = Joins (AreDeclarations (bytes "input")) Variables

  -- rules begin with a name, watches with `watch`
  rules_ends : (k : Kind) → Spelling k (spelling_of k) → (name ≡ k → ⊥) → (watch_word ≡ k → ⊥) → (xs ys : Tokens) → Rules xs → Empty ys → NoSign (Word k) (xs ++ ys)
  rules_ends k sp un wn xs ys (rs, ws, q, G.AreRules.none, w) z =
      subst (λ (l : Tokens). NoSign (Word k) (l ++ ys)) (sym q) (watches_ends names good (Word k) (λ e. not_sign watch_word k (bytes "watch") (spelling_of k) refl sp wn e) ws ys w z)
  rules_ends k sp un wn xs ys (rs, ws, q, G.AreRules.more ts vs x r, w) z =
      let y = rule_of names good ts x in
      subst (λ (l : Tokens). NoSign (Word k) (l ++ ys)) (sym (q ∙ ap (λ (l : Tokens). (l ++ vs) ++ ws) y.2)) (λ e. not_sign name k y.0 (spelling_of k) y.3 sp un e)

  -- `watch` is no name
  no_name : SpellsName (bytes "watch") → ⊥
  unfolding is kind_number
  no_name nm = not_sign name watch_word (bytes "watch") (bytes "watch") nm refl (apart name watch_word refl refl) refl

  -- timers begin with `timer`
  timed_ends : (k : Kind) → Spelling k (spelling_of k) → (name ≡ k → ⊥) → (watch_word ≡ k → ⊥) → (timer_word ≡ k → ⊥) → (xs ys : Tokens) → Timed xs → Empty ys → NoSign (Word k) (xs ++ ys)
  timed_ends k sp un wn tn xs ys (os, rs, q, G.AreTimers.none, r) z = subst (λ (l : Tokens). NoSign (Word k) (l ++ ys)) (sym q) (rules_ends k sp un wn rs ys r z)
  timed_ends k sp un wn tn xs ys (os, rs, q, G.AreTimers.more ts us d m, r) z =
      let y = timer_of ts d in
      subst (λ (l : Tokens). NoSign (Word k) (l ++ ys)) (sym (q ∙ ap (λ (l : Tokens). (l ++ us) ++ rs) y.1)) (λ e. not_sign timer_word k (bytes "timer") (spelling_of k) refl sp tn e)

  variables_end : (xs ys : Tokens) → Variables xs → Empty ys → NoSign (Word input_word) (xs ++ ys)
  unfolding is kind_number
  variables_end xs ys (vs, rs, q, G.AreDeclarations.none, r) z = subst (λ (l : Tokens). NoSign (Word input_word) (l ++ ys)) (sym q) (timed_ends input_word refl (apart name input_word refl refl) (apart watch_word input_word refl refl) (apart timer_word input_word refl refl) rs ys r z)
  variables_end xs ys (vs, rs, q, G.AreDeclarations.more ts us d m, r) z =
      let y = declared_of [] (bytes "var") ts d in
      subst (λ (l : Tokens). NoSign (Word input_word) (l ++ ys)) (sym (q ∙ ap (λ (l : Tokens). (l ++ us) ++ rs) y.1)) (λ e. not_sign var_word input_word (bytes "var") (bytes "input") refl refl (apart var_word input_word refl refl) e)

  program_failing : (text : List ℕ) → Failing TextOf Empty text 0 (program text)
  unfolding program declarations is_fixed is kind_number
  program_failing text =
      then_failing (AreDeclarations (bytes "input")) Variables TextOf (NoSign (Word input_word)) Empty text 0 (omega arith) (λ zs j. j) variables_end (declarations input_word text [] 0) _ (declarations_sole text 65 input_word refl refl [] (omega arith) (omega arith) 0 (omega arith))
      (λ inputs n1 h1 e1.
      let g1 = subst (Ends (length text) (Names text 0)) e1 (declarations_fit text 65 input_word [] 0 0 (omega arith) (tt, omega arith, omega arith, tt)) in
      then_failing (AreDeclarations (bytes "var")) Timed Variables (NoSign (Word var_word)) Empty text n1 h1 (λ zs j. j) (timed_ends var_word refl (apart name var_word refl refl) (apart watch_word var_word refl refl) (apart timer_word var_word refl refl)) (declarations var_word text inputs n1) _
      (declarations_sole text 65 var_word refl refl inputs g1.0.1 (omega arith) n1 h1)
      (λ base n2 h2 e2.
      let g2 = subst (Ends (length text) (Names text (length inputs))) e2 (declarations_fit text 65 var_word inputs n1 (length inputs) h1 (g1.0.0, g1.0.1, le_refl (length inputs), g1.0.3)) in
      let x0 : WithTimers = record { names = base; timers = [] } in
      then_failing AreTimers Rules Timed (NoSign (Word timer_word)) Empty text n2 h2 (λ zs j. j) (rules_ends timer_word refl (apart name timer_word refl refl) (apart watch_word timer_word refl refl)) (timers_from 65 text (length inputs) (length base) x0 n2) _
      (timers_sole text (length inputs) (length base) 65 x0 g2.0.1 (omega arith) n2 h2)
      (λ x n3 h3 e3.
      let declared = x.names in
      let sc : Scope = record { text = text; names = spellings declared; known = known_first (length inputs) (length declared) } in
      let sw : Scope = record { text = text; names = spellings declared; known = free (length declared) } in
      then_failing (AreRules names) (AreWatches names) Rules (NoSign SpellsName) Empty text n3 h3 (λ zs j. j) (watches_ends names good SpellsName no_name) (rules_from 65 x.timers sc [] n3) _ (rules_sole 65 x.timers sc [] n3 h3)
      (λ ruled n4 h4 e4. then_failing (AreWatches names) Empty (AreWatches names) (NoSign (Word watch_word)) Empty text n4 h4 (λ zs l. (zs, [], sym (append-nil zs), l, refl)) (λ xs ys l z. subst (NoSign (Word watch_word)) (ap₂ (λ (u v : Tokens). u ++ v) (sym l) (sym z)) tt) (watches_from watch_limit sw [] n4) _ (watches_sole names good sw watch_limit [] n4 h4)
      (λ watches n5 h5 e5. same_failing Empty Empty text n5 (end_at text ruled.known n5) _ (end_failing text ruled.known n5))))))

  parse_failing : (text : List ℕ) → Failing TextOf Empty text 0 (parse text)
  unfolding parse
  parse_failing text = cond_prop (Failing TextOf Empty text 0) (ltb text_limit (length text)) _ _ (λ t q. absurd (omega (arith, q))) (λ t. program_failing text)

-- ---- the tokens before a place are the same, however they were found

begins_after : (text : List ℕ) (at n e : ℕ) (w : List ℕ) (ts : Tokens) (k : Kind) (place next : ℕ) → at ≤ length text → (st : Stands normal text at n w) → Spells normal text n e ts → token_at text e ≡ token k place next → st.start < place
begins_after text at n e w ts k place next h st sp q =
    let i = (stands_in normally text at n w h st).1 in
    let j = spells_in normally text n e ts i sp in
    let m = token_at_moved text e k place next j.1 q in
    omega (arith, j.0, m.0)

same_before : (text : List ℕ) (place : ℕ) (k : Kind) (next end : ℕ) (k2 : Kind) (next2 end2 : ℕ) (at : ℕ) (ts us : Tokens) → at ≤ length text → Spells normal text at end ts → token_at text end ≡ token k place next → Spells normal text at end2 us → token_at text end2 ≡ token k2 place next2 → (ts ≡ us) × (end ≡ end2)
same_before text place k next end k2 next2 end2 at [] [] h g e g2 e2 = (refl, sym g ∙ g2)
same_before text place k next end k2 next2 end2 at [] (u ∷ us) h g e (n, st, g2) e2 =
    let l = begins_after text at n end2 u us k2 place next2 h st g2 e2 in
    let q : token st.kind st.start n ≡ token k place next = sym (is_read st) ∙ (ap (token_at text) g ∙ e) in
    let r : st.start ≡ place = cc in
    absurd (omega arith)
same_before text place k next end k2 next2 end2 at (t ∷ ts) [] h (n, st, g) e g2 e2 =
    let l = begins_after text at n end t ts k place next h st g e in
    let q : token st.kind st.start n ≡ token k2 place next2 = sym (is_read st) ∙ (ap (token_at text) g2 ∙ e2) in
    let r : st.start ≡ place = cc in
    absurd (omega arith)
same_before text place k next end k2 next2 end2 at (t ∷ ts) (u ∷ us) h (n, st, g) e (m, su, g2) e2 =
    let q : token st.kind st.start n ≡ token su.kind su.start m = sym (is_read st) ∙ is_read su in
    let i : n ≡ m = cc in
    let j : st.start ≡ su.start = cc in
    let w : t ≡ u = sym st.spelled ∙ (rw (i, j) su.spelled) in
    let x = same_before text place k next end k2 next2 end2 n ts us (stands_in normally text at n t h st).1 g e (subst (λ (y : ℕ). Spells normal text y end2 us) (sym i) g2) e2 in
    (ap (λ (v : List ℕ). v ∷ ts) w ∙ ap (λ (l : Tokens). u ∷ l) x.0, x.1)

-- ---- the claims

begins_none : (L S : Tokens → Type 0) (text : List ℕ) (at place : ℕ) → S [] → BlockedAt L S text at place → BeginsNone L text at place
begins_none L S text at place s b =
    record {
      before = b.before;
      end = b.end;
      spells = b.spells;
      kind = b.kind;
      next = b.next;
      stands = b.stands;
      none_begun = λ ne more l. b.blocked (normal (part text place b.next) ∷ more) (b.before ++ normal (part text place b.next) ∷ more) [] (λ z. absurd (ne z), λ z. (more, refl)) (sym (append-nil (b.before ++ normal (part text place b.next) ∷ more))) l s;
      none_ended = λ z l. b.blocked [] b.before [] (λ q. refl, λ ne. absurd (ne z)) refl l s;
    }

text_of : (ts : Tokens) (x : IsText ts) → TextOf x.names x.are_names ts
text_of ts x =
    let rest = x.rules ++ x.watches in
    let timed = x.timers ++ rest in
    let order : ts ≡ x.inputs ++ (x.variables ++ timed) = x.in_order ∙ (append_assoc (x.inputs ++ x.variables ++ x.timers) x.rules x.watches ∙ (append_assoc (x.inputs ++ x.variables) x.timers rest ∙ append_assoc x.inputs x.variables timed)) in
    (x.inputs, x.variables ++ timed, order, x.are_inputs, (x.variables, timed, refl, x.are_variables, (x.timers, rest, refl, x.are_timers, (x.rules, x.watches, refl, x.are_rules, x.are_watches))))

texts : (text : List ℕ) (place : ℕ) → parse text ≡ refused 2 place → (before : Tokens) (end : ℕ) → Spells normal text 0 end before → (kind : Kind) (next : ℕ) → token_at text end ≡ token kind place next → (us : Tokens) → Ahead kind (normal (part text place next)) us → IsText (before ++ us) → ⊥
texts text place e before end sp kind next st us ah x =
    let b = (rw e at (parse_failing x.names x.are_names text)) refl in
    let s = same_before text place b.kind b.next b.end kind next end 0 b.before before (omega arith) b.spells b.stands sp st in
    let q : token b.kind place b.next ≡ token kind place next = sym b.stands ∙ (ap (token_at text) s.1 ∙ st) in
    let i : kind ≡ b.kind = cc in
    let j : next ≡ b.next = cc in
    let ah2 : Ahead b.kind (normal (part text place b.next)) us = rw (← i, ← j) ah in
    b.blocked us (before ++ us) [] ah2 (ap (λ (l : Tokens). l ++ us) s.0 ∙ sym (append-nil (before ++ us))) (text_of (before ++ us) x) refl

pub none_go_on : NoneGoOn
none_go_on = record {
  expressions = λ sc names at place good h e. begins_none _ _ sc.text at place ((tt, tt), tt) ((rw e at (whole_expression_sole names good sc at h)).says refl);
  conditions = λ sc names at place good h e. begins_none _ _ sc.text at place ((((tt, tt), tt), tt), tt) ((rw e at (whole_condition_sole names good sc at h)).says refl);
  texts = λ text place e.
      let b = allowed_before.texts text place e in
      let p = refused_parse text 2 place e in
      record {
        before = b.before;
        end = b.end;
        spells = b.spells;
        kind = b.kind;
        next = b.next;
        stands = b.stands;
        none_begun = λ ne more l. texts text place p b.before b.end b.spells b.kind b.next b.stands (normal (part text place b.next) ∷ more) (λ z. absurd (ne z), λ z. (more, refl)) l;
        none_ended = λ z l. texts text place p b.before b.end b.spells b.kind b.next b.stands [] (λ q. refl, λ ne. absurd (ne z)) (subst IsText (sym (append-nil b.before)) l);
      };
}
