-- Where a refusal of declarations, of timers, of rules, of watches and of a whole text stands: its place is within the text, and its number is a fault's.
-- Assumes nothing.
use mathlib.Core.Path.{◌≡◌, refl}
use mathlib.Core.List.{List, [], ◌∷◌, ◌++◌}
use mathlib.Core.Bool.{Bool, true, ◌&&◌}
use Prim.Native.Nat.{ℕ, zero, suc, ◌-◌, ◌≤◌}
use native.Mathlib.Omega.{arith}
use lib.ListN.{length}
use lib.Dec.{ltb, leb, eqb}
use lib.IntN.{ℤ, pos, neg_ℤ}
use lib.Signed.{le_z}
use borrow.Author.Tests.{ltb-false}
use Rattle.limits.specs.Limits.{case_limit, text_limit, name_limit, time_limit, watch_limit}
use Rattle.limits.specs.Answer as A
use Rattle.arith.specs.Values.{is_int32}
use Rattle.lexer.specs.Bytes.{part}
use Rattle.lexer.specs.Token.{Kind, name, ending, digits, open_square, tilde, bar, plus, minus, init_word, semicolon, close_round, arrow, is, TokenRead, token, fault, input_word, var_word, timer_word, watch_word}
use Rattle.lexer.specs.Lexer.{token_at, same_token, over_long, value_of}
use Rattle.lexer.specs.Names.{id_of}
use Rattle.lexer.proofs.Laws.{cond_prop, Moved, token_moved, Faulted, token_faulted}
use Rattle.semantics.specs.Program.{Name, Condition, Timer, Rule, Watch, Program, target, all_true, taken, known_first, free}
use Rattle.grammar.specs.Parsed.{Parsed, accepted, refused, and_then, on_token, phrase, followed, item_bound}
use Rattle.grammar.specs.Expressions.{Scope, with_id, whole_expression}
use Rattle.grammar.specs.Conditions.{listed}
use Rattle.grammar.specs.Declarations.{in_range, signed_digits, bound_at, spellings, new_name, start_at, declaration, declarations_from, declarations}
use Rattle.grammar.specs.Timers.{timer_name, WithTimers, is_watchable, watched_at, limit_at, timer_declaration, timers_from}
use Rattle.grammar.specs.Rules.{Spanned, case_at, cases_from, list_from, plain_list, Compared, agrees, differs, on_compared, on_found, on_wanted, part_from, kind_at, parts_from, first_found, agreeing_list, function_at, change_at, pair_at, formula_at, formulas, rule_at, ruled, rules_from}
use Rattle.grammar.specs.Watches.{later_at, after_first, watch_at, watches_from}
use Rattle.grammar.specs.Accepts.{IsFault, one_to_nine, a_timer, a_watch}
use Rattle.grammar.specs.Parse.{end_at, program, parse, answer_of, program_of}
use Rattle.grammar.proofs.Combine.{option_prop}
use Rattle.grammar.proofs.Places.{Within, then_within, cond_within, option_within, token_within, phrase_within, followed_within, id_within, whole_expression_within, listed_within}

-- ---- declarations

module _ (text : List ℕ) where
  signed_within : (test : ℤ → Bool) (signed : ℤ → ℤ) (k : Kind) (s n : ℕ) → s ≤ length text → n ≤ length text → Within (length text) (signed_digits test signed text k s n)
  unfolding signed_digits
  signed_within test signed k s n l m =
      let z = signed (pos (value_of (part text s n))) in
      cond_within (length text) (is k digits) _ _ (cond_within (length text) (is_int32 z && test z) _ _ m (omega arith, omega arith, l)) (omega arith, omega arith, l)

  bound_within : (test : ℤ → Bool) (at : ℕ) → at ≤ length text → Within (length text) (bound_at test text at)
  unfolding bound_at
  bound_within test at h =
      token_within text at _ h
      (λ k s n l m. cond_within (length text) (is k minus) _ _ (token_within text n _ m (λ k s n l m. signed_within test neg_ℤ k s n l m)) (signed_within test (λ z. z) k s n l m))

  name_within : (names : List Name) (at : ℕ) → at ≤ length text → Within (length text) (new_name text names at)
  unfolding new_name
  name_within names at h =
      token_within text at _ h
      (λ k s n l m.
      cond_within (length text) (is k name) _ _
      (option_within (length text) (id_of (spellings names) (part text s n)) _ _
      (cond_within (length text) (over_long s n) _ _ (omega arith, omega arith, l) (cond_within (length text) (ltb (length names) name_limit) _ _ m (omega arith, omega arith, l)))
      (λ i. (omega arith, omega arith, l)))
      (omega arith, omega arith, l))

  start_within : (low high : ℤ) (at : ℕ) → at ≤ length text → Within (length text) (start_at text low high at)
  unfolding start_at
  start_within low high at h =
      token_within text at _ h
      (λ k s n l m.
      cond_within (length text) (is k init_word) _ _
      (then_within (length text) (bound_at (in_range low high) text n) _ (bound_within (in_range low high) n m) (λ z e i. followed_within text _ z e i))
      (cond_within (length text) (is k semicolon) _ _ (cond_within (length text) (in_range low high (pos 0)) _ _ m (omega arith, omega arith, l)) (omega arith, omega arith, l)))

  declaration_within : (names : List Name) (at : ℕ) → at ≤ length text → Within (length text) (declaration text names at)
  unfolding declaration
  declaration_within names at h =
      then_within (length text) (new_name text names at) _ (name_within names at h)
      (λ w n1 h1. then_within (length text) (bound_at (λ z. true) text n1) _ (bound_within (λ z. true) n1 h1)
      (λ low n2 h2. then_within (length text) (phrase text _ n2) _ (phrase_within text _ n2 h2)
      (λ u n3 h3. then_within (length text) (bound_at (le_z low) text n3) _ (bound_within (le_z low) n3 h3)
      (λ high n4 h4. then_within (length text) (start_at text low high n4) _ (start_within low high n4 h4) (λ start n5 h5. h5)))))

  declarations_within : (f : ℕ) (word : Kind) (names : List Name) (at : ℕ) → at ≤ length text → Within (length text) (declarations_from f word text names at)
  unfolding declarations_from
  declarations_within zero word names at h = h
  declarations_within (suc f) word names at h =
      token_within text at _ h
      (λ k s n l m.
      cond_within (length text) (is k word) _ _
      (then_within (length text) (declaration text names n) _ (declaration_within names n m) (λ x e i. declarations_within f word (names ++ (x ∷ [])) e i))
      h)

  -- ---- the comparison of the two lists

  -- the place of what agrees, or differs, is within the text
  abbrev Near : Compared → Type 0
  Near (agrees n) = n ≤ length text
  Near (differs p) = p ≤ length text

  compared_near : (c : Compared) (f : ℕ → Compared) → Near c → ((n : ℕ) → n ≤ length text → Near (f n)) → Near (on_compared c f)
  compared_near (agrees n) f h g = g n h
  compared_near (differs p) f h g = h

  found_near : (at : ℕ) (test : Kind → ℕ → ℕ → Bool) (next : ℕ → Compared) → at ≤ length text → ((n : ℕ) → n ≤ length text → Near (next n)) → Near (on_found (token_at text at) test next)
  found_near at test next h g = go (token_at text at) (token_moved text at h) (token_faulted text at)
    where
      go : (r : TokenRead) → Moved at (length text) r → Faulted (length text) r → Near (on_found r test next)
      go (token k s n) m e = cond_prop Near (test k s n) _ _ (λ t. g n m.2) (λ t. omega (arith, m.1, m.2))
      go (fault p) m e = omega arith

  -- the wanted token may be read anywhere: what is no token stands within the text
  wanted_near : (from : ℕ) (f : Kind → ℕ → ℕ → Compared) → ((k : Kind) (s n : ℕ) → Near (f k s n)) → Near (on_wanted (token_at text from) f)
  wanted_near from f g = go (token_at text from) (token_faulted text from)
    where
      go : (r : TokenRead) → Faulted (length text) r → Near (on_wanted r f)
      go (token k s n) e = g k s n
      go (fault p) e = omega arith

  part_near : (f from to at : ℕ) → at ≤ length text → Near (part_from f text from to at)
  unfolding part_from
  part_near zero from to at h = h
  part_near (suc f) from to at h =
      cond_prop Near (ltb from to) _ _ (λ t. wanted_near from _ (λ k s n. found_near at (same_token text k s n) _ h (λ m i. part_near f n to m i))) (λ t. h)

  kind_near : (w : Kind) (at : ℕ) → at ≤ length text → Near (kind_at text w at)
  unfolding kind_at
  kind_near w at h = found_near at _ _ h (λ n m. m)

  parts_near : (cases : List Spanned) (at : ℕ) → at ≤ length text → Near (parts_from text cases at)
  unfolding parts_from
  parts_near [] at h = h
  parts_near (c ∷ []) at h =
      compared_near (part_from (length text) text c.span.from c.span.to at) _ (part_near (length text) c.span.from c.span.to at h) (λ n m. kind_near close_round n m)
  parts_near (c ∷ d ∷ cs) at h =
      compared_near (part_from (length text) text c.span.from c.span.to at) _ (part_near (length text) c.span.from c.span.to at h)
      (λ n m. compared_near (kind_at text bar n) _ (kind_near bar n m) (λ e i. parts_near (d ∷ cs) e i))

  first_found_within : {A : Type 0} (r : Parsed A) (d : Compared) → Within (length text) r → Near d → Within (length text) (first_found r d)
  unfolding first_found
  first_found_within r (agrees n) h g = h
  first_found_within (accepted a n) (differs m) h g = (omega arith, omega arith, g)
  first_found_within (refused k q) (differs m) h g =
      cond_within (length text) (ltb q m) _ _ h
      (cond_within (length text) (eqb q m) _ _ (cond_within (length text) (leb k 5) _ _ h (omega arith, omega arith, g)) (omega arith, omega arith, g))

-- ---- rules

module _ (sc : Scope) where
  case_within : (w : List ℕ) (at n : ℕ) → n ≤ length sc.text → Within (length sc.text) (case_at sc w at n)
  unfolding case_at
  case_within w at n h =
      then_within (length sc.text) (listed sc n) _ (listed_within sc n h)
      (λ c n1 h1. then_within (length sc.text) (phrase sc.text _ n1) _ (phrase_within sc.text _ n1 h1)
      (λ u n2 h2. then_within (length sc.text) (whole_expression sc n2) _ (whole_expression_within sc n2 h2) (λ e n3 h3. followed_within sc.text _ _ n3 h3)))

  cases_within : (left : ℕ) (w : List ℕ) (done : List Spanned) (at : ℕ) → at ≤ length sc.text → Within (length sc.text) (cases_from left sc w done at)
  unfolding cases_from
  cases_within zero w done at h =
      token_within sc.text at _ h (λ k s n l m. cond_within (length sc.text) (is k open_square) _ _ (omega arith, omega arith, l) (omega arith, omega arith, l))
  cases_within (suc left) w done at h =
      token_within sc.text at _ h
      (λ k s n l m.
      cond_within (length sc.text) (is k open_square) _ _
      (then_within (length sc.text) (case_at sc w at n) _ (case_within w at n m)
      (λ c n1 h1. token_within sc.text n1 _ h1 (λ k2 s2 n2 l2 m2. cond_within (length sc.text) (is k2 bar) _ _ (cases_within left w (done ++ (c ∷ [])) n2 m2) h1)))
      (omega arith, omega arith, l))

  list_within : (left : ℕ) (done : List Condition) (at : ℕ) → at ≤ length sc.text → Within (length sc.text) (list_from left sc done at)
  unfolding list_from
  list_within zero done at h = token_within sc.text at _ h (λ k s n l m. cond_within (length sc.text) (is k open_square) _ _ (omega arith, omega arith, l) (omega arith, omega arith, l))
  list_within (suc left) done at h =
      token_within sc.text at _ h
      (λ k s n l m.
      cond_within (length sc.text) (is k open_square) _ _
      (then_within (length sc.text) (listed sc n) _ (listed_within sc n m)
      (λ c n1 h1. token_within sc.text n1 _ h1 (λ k2 s2 n2 l2 m2. cond_within (length sc.text) (is k2 bar) _ _ (list_within left (done ++ (c ∷ [])) n2 m2) h1)))
      (omega arith, omega arith, l))

  agreeing_within : (cases : List Spanned) (at : ℕ) → at ≤ length sc.text → Within (length sc.text) (agreeing_list sc cases at)
  unfolding agreeing_list plain_list
  agreeing_within cases at h =
      first_found_within sc.text (plain_list sc at) (parts_from sc.text cases at)
      (then_within (length sc.text) (list_from case_limit sc [] at) _ (list_within case_limit [] at h) (λ cs n m. followed_within sc.text _ cs n m))
      (parts_near sc.text cases at h)

  function_within : (w : List ℕ) (v at : ℕ) → at ≤ length sc.text → Within (length sc.text) (function_at sc w v at)
  unfolding function_at
  function_within w v at h =
      then_within (length sc.text) (phrase sc.text _ at) _ (phrase_within sc.text _ at h)
      (λ u n1 h1. then_within (length sc.text) (whole_expression sc n1) _ (whole_expression_within sc n1 h1) (λ e n2 h2. followed_within sc.text _ _ n2 h2))

  change_within : (w : List ℕ) (v at : ℕ) → at ≤ length sc.text → Within (length sc.text) (change_at sc w v at)
  unfolding change_at
  change_within w v at h =
      then_within (length sc.text) (phrase sc.text _ at) _ (phrase_within sc.text _ at h)
      (λ u n1 h1. then_within (length sc.text) (cases_from case_limit sc w [] n1) _ (cases_within case_limit w [] n1 h1)
      (λ cases n2 h2. then_within (length sc.text) (phrase sc.text _ n2) _ (phrase_within sc.text _ n2 h2)
      (λ u n3 h3. then_within (length sc.text) (agreeing_list sc cases n3) _ (agreeing_within cases n3 h3) (λ ds n4 h4. followed_within sc.text _ _ n4 h4))))

  formula_within : (w : List ℕ) (v at : ℕ) → at ≤ length sc.text → Within (length sc.text) (formula_at sc w v at)
  unfolding formula_at
  formula_within w v at h =
      then_within (length sc.text) (phrase sc.text _ at) _ (phrase_within sc.text _ at h)
      (λ u n m. token_within sc.text n _ m (λ k s e l i. cond_within (length sc.text) (is k tilde) _ _ (change_within w v e i) (function_within w v n m)))

  pair_within : (w : List ℕ) (v at : ℕ) → at ≤ length sc.text → Within (length sc.text) (pair_at sc w v at)
  unfolding pair_at
  pair_within w v at h =
      then_within (length sc.text) (phrase sc.text _ at) _ (phrase_within sc.text _ at h)
      (λ u n1 h1. then_within (length sc.text) (cases_from case_limit sc w [] n1) _ (cases_within case_limit w [] n1 h1)
      (λ ups n2 h2. then_within (length sc.text) (phrase sc.text _ n2) _ (phrase_within sc.text _ n2 h2)
      (λ u n3 h3. then_within (length sc.text) (cases_from (case_limit - length ups) sc w [] n3) _ (cases_within (case_limit - length ups) w [] n3 h3) (λ downs n4 h4. followed_within sc.text _ _ n4 h4))))

  formulas_within : (w : List ℕ) (v at : ℕ) → at ≤ length sc.text → Within (length sc.text) (formulas sc w v at)
  unfolding formulas
  formulas_within w v at h = token_within sc.text at _ h (λ k s n l m. cond_within (length sc.text) (is k plus) _ _ (pair_within w v n m) (formula_within w v at h))

  rule_within : (xs : List Timer) (s n : ℕ) → s ≤ length sc.text → n ≤ length sc.text → Within (length sc.text) (rule_at xs sc s n)
  unfolding rule_at
  rule_within xs s n l m =
      id_within sc s s n _ l
      (λ v. cond_within (length sc.text) (taken xs sc.known v) _ _ (omega arith, omega arith, l) (formulas_within (part sc.text s n) v n m))

rules_within : (f : ℕ) (xs : List Timer) (sc : Scope) (done : List Rule) (at : ℕ) → at ≤ length sc.text → Within (length sc.text) (rules_from f xs sc done at)
unfolding rules_from
rules_within zero xs sc done at h = (omega arith, omega arith, h)
rules_within (suc f) xs sc done at h =
    token_within sc.text at _ h
    (λ k s n l m.
    cond_within (length sc.text) (is k name) _ _
    (then_within (length sc.text) (rule_at xs sc s n) _ (rule_within sc xs s n l m) (λ r e i. rules_within f xs (ruled xs sc (target r)) (done ++ (r ∷ [])) e i))
    h)

-- ---- watches

module _ (sc : Scope) where
  later_within : (c : Condition) (at : ℕ) → at ≤ length sc.text → Within (length sc.text) (later_at sc c at)
  unfolding later_at
  later_within c at h =
      then_within (length sc.text) (phrase sc.text _ at) _ (phrase_within sc.text _ at h)
      (λ u n1 h1. then_within (length sc.text) (listed sc n1) _ (listed_within sc n1 h1) (λ d n2 h2. followed_within sc.text _ _ n2 h2))

  pub watch_within : (at : ℕ) → at ≤ length sc.text → Within (length sc.text) (watch_at sc at)
  unfolding watch_at after_first
  watch_within at h =
      then_within (length sc.text) (phrase sc.text _ at) _ (phrase_within sc.text _ at h)
      (λ u n1 h1. then_within (length sc.text) (listed sc n1) _ (listed_within sc n1 h1)
      (λ c n2 h2. token_within sc.text n2 _ h2 (λ k s n l m. cond_within (length sc.text) (is k arrow) _ _ (later_within c n m) (followed_within sc.text _ _ n2 h2))))

-- ---- refusals of any number of a text's

-- what is accepted ends within len bytes; a refusal has the number of a fault and its place is within them, or at their end
abbrev pub Placed : {A : Type 0} → ℕ → Parsed A → Type 0
Placed len (accepted a n) = n ≤ len
Placed len (refused k q) = IsFault k × (q ≤ len)

placed : {A : Type 0} (len : ℕ) (p : Parsed A) → Within len p → Placed len p
placed len (accepted a n) h = h
placed len (refused k q) h = (one_to_nine h.0 h.1, h.2)

then_placed : {A B : Type 0} (len : ℕ) (p : Parsed A) (f : A → ℕ → Parsed B) → Placed len p → ((a : A) (n : ℕ) → n ≤ len → Placed len (f a n)) → Placed len (and_then p f)
then_placed len (accepted a n) f h g = g a n h
then_placed len (refused k q) f h g = h

token_placed : {A : Type 0} (text : List ℕ) (at : ℕ) (f : Kind → ℕ → ℕ → Parsed A) → at ≤ length text → ((k : Kind) (s n : ℕ) → s ≤ length text → n ≤ length text → Placed (length text) (f k s n)) → Placed (length text) (on_token (token_at text at) f)
token_placed text at f h g = go (token_at text at) (token_moved text at h) (token_faulted text at)
  where
    go : (r : TokenRead) → Moved at (length text) r → Faulted (length text) r → Placed (length text) (on_token r f)
    go (token k s n) m e = g k s n (omega (arith, m.1, m.2)) m.2
    go (fault p) m e = (one_to_nine (omega arith) (omega arith), omega arith)

pub watches_placed : (left : ℕ) (sc : Scope) (done : List Watch) (at : ℕ) → at ≤ length sc.text → Placed (length sc.text) (watches_from left sc done at)
unfolding watches_from
watches_placed zero sc done at h = token_placed sc.text at _ h (λ k s n l m. cond_prop (Placed (length sc.text)) (is k watch_word) _ _ (λ t. (a_watch refl, l)) (λ t. h))
watches_placed (suc left) sc done at h =
    token_placed sc.text at _ h
    (λ k s n l m. cond_prop (Placed (length sc.text)) (is k watch_word) _ _
    (λ t. then_placed (length sc.text) (watch_at sc n) _ (placed (length sc.text) (watch_at sc n) (watch_within sc n m)) (λ w e i. watches_placed left sc (done ++ (w ∷ [])) e i)) (λ t. h))

-- ---- timers

module _ (text : List ℕ) (inputs first : ℕ) where
  watched_placed : (names : List Name) (at : ℕ) → at ≤ length text → Placed (length text) (watched_at text inputs first names at)
  unfolding watched_at with_id
  watched_placed names at h =
      token_placed text at _ h
      (λ k s n l m. cond_prop P (is k name) _ _
      (λ e. cond_prop P (over_long s n) _ _ (λ t. (one_to_nine (omega arith) (omega arith), l))
      (λ t. option_prop P (id_of (spellings names) (part text s n)) _ _ (λ z. (one_to_nine (omega arith) (omega arith), l))
      (λ i ei. cond_prop P (is_watchable inputs first names i) _ _ (λ t. m) (λ t. (a_timer refl, l)))))
      (λ e. (one_to_nine (omega arith) (omega arith), l)))
    where
      P : Parsed ℕ → Type 0
      P p = Placed (length text) p

  limit_within : (at : ℕ) → at ≤ length text → Within (length text) (limit_at text at)
  unfolding limit_at
  limit_within at h =
      token_within text at _ h
      (λ k s n l m.
      let v = value_of (part text s n) in
      cond_within (length text) (is k digits) _ _ (cond_within (length text) (leb 1 v && leb v time_limit) _ _ m (omega arith, omega arith, l)) (omega arith, omega arith, l))

  pub timer_placed : (x : WithTimers) (at : ℕ) → at ≤ length text → Placed (length text) (timer_declaration text inputs first x at)
  unfolding timer_declaration
  timer_placed x at h =
      let len = length text in
      then_placed len (new_name text x.names at) _ (placed len (new_name text x.names at) (name_within text x.names at h))
      (λ t n1 h1. then_placed len (phrase text _ n1) _ (placed len (phrase text _ n1) (phrase_within text _ n1 h1))
      (λ u n2 h2. then_placed len (watched_at text inputs first (x.names ++ (timer_name t ∷ [])) n2) _ (watched_placed (x.names ++ (timer_name t ∷ [])) n2 h2)
      (λ w n3 h3. then_placed len (phrase text _ n3) _ (placed len (phrase text _ n3) (phrase_within text _ n3 h3))
      (λ u n4 h4. then_placed len (limit_at text n4) _ (placed len (limit_at text n4) (limit_within n4 h4))
      (λ n n5 h5. placed len (followed text _ _ n5) (followed_within text _ _ n5 h5))))))

  pub timers_placed : (f : ℕ) (x : WithTimers) (at : ℕ) → at ≤ length text → Placed (length text) (timers_from f text inputs first x at)
  unfolding timers_from
  timers_placed zero x at h = h
  timers_placed (suc f) x at h =
      token_placed text at _ h
      (λ k s n l m. cond_prop (Placed (length text)) (is k timer_word) _ _
      (λ t. then_placed (length text) (timer_declaration text inputs first x n) _ (timer_placed x n m) (λ y e i. timers_placed f y e i)) (λ t. h))

-- ---- the whole text

end_within : (text : List ℕ) (known : List Bool) (at : ℕ) → at ≤ length text → Within (length text) (end_at text known at)
unfolding end_at
end_within text known at h =
    token_within text at _ h
    (λ k s n l m. cond_within (length text) (is k ending) _ _ (cond_within (length text) (all_true known) _ _ m (omega arith, omega arith, l)) (omega arith, omega arith, l))

program_placed : (text : List ℕ) → Placed (length text) (program text)
unfolding program declarations
program_placed text =
    let len = length text in
    then_placed len (declarations input_word text [] 0) _ (placed len (declarations input_word text [] 0) (declarations_within text item_bound input_word [] 0 (omega arith)))
    (λ inputs n1 h1. then_placed len (declarations var_word text inputs n1) _ (placed len (declarations var_word text inputs n1) (declarations_within text item_bound var_word inputs n1 h1))
    (λ names n2 h2. then_placed len (timers_from item_bound text (length inputs) (length names) (record { names = names; timers = [] }) n2) _ (timers_placed text (length inputs) (length names) item_bound (record { names = names; timers = [] }) n2 h2)
    (λ x n3 h3.
    let sc : Scope = record { text = text; names = spellings x.names; known = known_first (length inputs) (length x.names) } in
    let sw : Scope = record { text = text; names = spellings x.names; known = free (length x.names) } in
    then_placed len (rules_from item_bound x.timers sc [] n3) _ (placed len (rules_from item_bound x.timers sc [] n3) (rules_within item_bound x.timers sc [] n3 h3))
    (λ ruled n4 h4. then_placed len (watches_from watch_limit sw [] n4) _ (watches_placed watch_limit sw [] n4 h4)
    (λ watches n5 h5. then_placed len (end_at text ruled.known n5) _ (placed len (end_at text ruled.known n5) (end_within text ruled.known n5 h5)) (λ u n6 h6. h6))))))

parse_placed : (text : List ℕ) → Placed (length text) (parse text)
unfolding parse
parse_placed text = cond_prop (Placed (length text)) (ltb text_limit (length text)) _ _ (λ t. (one_to_nine (omega arith) (omega arith), omega arith)) (λ t. program_placed text)

-- and so within the limit of texts, since a longer text is refused at 0
pub parse_limited : (text : List ℕ) → Placed text_limit (parse text)
unfolding parse
parse_limited text =
    cond_prop (Placed text_limit) (ltb text_limit (length text)) _ _ (λ t. (one_to_nine (omega arith) (omega arith), omega arith))
    (λ t. wider (ltb-false text_limit (length text) t) (program text) (program_placed text))
  where
    wider : length text ≤ text_limit → (p : Parsed Program) → Placed (length text) p → Placed text_limit p
    wider l (accepted q n) h = omega arith
    wider l (refused k q) h = (h.0, omega (arith, h.1))

-- the same of the answer that a service cites
pub program_refused : (text : List ℕ) (number place : ℕ) → program_of text ≡ A.refused number place → IsFault number × (place ≤ length text)
unfolding program_of
program_refused text number place = go (parse text) (parse_placed text)
  where
    go : (r : Parsed Program) → Placed (length text) r → answer_of r ≡ A.refused number place → IsFault number × (place ≤ length text)
    go (accepted p n) h e = let z : ◌≡◌ {A = ℕ} 0 1 = cc in absurd (omega arith)
    go (refused k q) h e = let i : k ≡ number = cc in let j : q ≡ place = cc in rw (← i, ← j) h

-- 10 is none of a text's
pub not_ten : (number : ℕ) → IsFault number → number ≡ 10 → ⊥
not_ten number (one_to_nine h g) e = omega (arith, h, g, e)
not_ten number (a_timer h) e = omega (arith, h, e)
not_ten number (a_watch h) e = omega (arith, h, e)
