-- What a parser accepts is spelled by the tokens that it went past, and uses only values that may be used: expressions and conditions.
-- One law a combinator. Assumes nothing.
use mathlib.Core.Path.{◌≡◌, refl, ap, ◌∙◌, subst}
use mathlib.Core.List.{List, [], ◌∷◌, ◌++◌}
use mathlib.Core.Bool.{Bool, true, false, cond}
use mathlib.Core.Option.{Option, none, some}
use Prim.Native.Nat.{ℕ, zero, suc, ◌+◌, ◌≤◌}
use native.Mathlib.Omega.{arith}
use lib.ListN.{length, get_or, get_elem?, length-map}
use lib.Dec.{ltb, lt→ltb}
use lib.IntN.{pos}
use borrow.Author.Tests.{ltb-false}
use Rattle.limits.specs.Limits.{bracket_limit, number_limit}
use Rattle.lexer.specs.Bytes.{bytes, part}
use Rattle.lexer.specs.Token.{Kind, kind_number, ending, name, digits, open_round, close_round, open_square, close_square, tilde, ampersand, bar, minus, is, TokenRead, token, fault}
use Rattle.lexer.specs.Token as T
use Rattle.lexer.specs.Spelling.{Spelling, SpellsName}
use Rattle.lexer.specs.Lexer.{token_at, over_long, value_of}
use Rattle.lexer.specs.Names.{id_of}
use Rattle.lexer.proofs.Laws.{cond_prop, token_at_moved}
use Rattle.lexer.proofs.Same.{same_kind}
use Rattle.arith.proofs.Laws.{mag_int32}
use Rattle.semantics.specs.Program.{Expression, previous, operation, negate, Condition, negated, UsableE, UsableC}
use Rattle.grammar.specs.Parsed.{Parsed, accepted, refused, and_then, on_token, sign, expected, rest, chain}
use Rattle.grammar.specs.Expressions.{Scope, with_id, current_at, previous_value_at, constant_at, primary, negative, factor, product_of, sum_of, term, expression, bracket, whole_expression}
use Rattle.grammar.specs.Conditions.{comparison_by, compared, comparison_at, opposite as opposed, inverted, atom, Connective, and_also, or_else, connect, and_of, or_of, conjunction, condition, square, whole_condition, listed}
use Rattle.grammar.specs.Derivation.{Stands, Spells, Level, LevelC, SpellsE, a_number, a_current, a_previous, brackets, plain, opposite, one_factor, product, one_term, sum, SpellsC, not_square, one_atom, conjoined, one_conjunction, disjoined, normal, normals}
use Rattle.grammar.specs.Derivation as D
use Rattle.grammar.proofs.Combine.{token_prop, then_prop, option_prop, one_sign}
use Rattle.grammar.proofs.Bytes.{place_in}
use Rattle.grammar.proofs.Normal.{other_seen, previous-seen, id_names}
use Rattle.grammar.proofs.Phrases.{previous_name_lem}
use Rattle.lexer.proofs.Spellings.{word_not}
use Rattle.grammar.proofs.NotEnd.{not_end, operator_end, products_end, sums-end, comparisons-end, ands-end, ors-end}
use Rattle.grammar.proofs.Standing.{stands, stands_spelled, spells_in, spells_append, product_sign, sum_sign, comparison_sign, only_sign, View, written, normally}

module _ (v : View) (text : List ℕ) where
  -- tokens that spell e stand from `at` up to n
  pub record Derived {A : Type 0} (R : List (List ℕ) → A → Type 0) (at n : ℕ) (e : A) : Type 0 where
    pub tokens : List (List ℕ)
    pub spells : Spells v.see text at n tokens
    pub derives : R tokens e

  abbrev pub Derives : {A : Type 0} → (List (List ℕ) → A → Type 0) → ℕ → Parsed A → Type 0
  Derives R at (accepted e n) = Derived R at n e
  Derives R at (refused k q) = Unit {0}

  -- one token before a part
  pub before : {A : Type 0} (Q R : List (List ℕ) → A → Type 0) (w : List ℕ) → ((ts : List (List ℕ)) (x : A) → Q ts x → R (w ∷ ts) x) → (at n : ℕ) → Stands v.see text at n w → (p : Parsed A) → Derives Q n p → Derives R at p
  before Q R w f at n st (accepted x m) d = record { tokens = w ∷ d.tokens; spells = (n, st, d.spells); derives = f d.tokens x d.derives }
  before Q R w f at n st (refused k q) d = tt

  -- ... that makes something of it
  pub making : {A B : Type 0} (Q : List (List ℕ) → A → Type 0) (R : List (List ℕ) → B → Type 0) (make : A → B) (w : List ℕ) → ((ts : List (List ℕ)) (x : A) → Q ts x → R (w ∷ ts) (make x)) → (at n : ℕ) → Stands v.see text at n w → (p : Parsed A) → Derives Q n p → Derives R at (and_then p (λ x m. accepted (make x) m))
  making Q R make w f at n st (accepted x m) d = record { tokens = w ∷ d.tokens; spells = (n, st, d.spells); derives = f d.tokens x d.derives }
  making Q R make w f at n st (refused k q) d = tt

  -- the same tokens, another form
  pub weaker : {A : Type 0} (Q R : List (List ℕ) → A → Type 0) → ((ts : List (List ℕ)) (x : A) → Q ts x → R ts x) → (at : ℕ) (p : Parsed A) → Derives Q at p → Derives R at p
  weaker Q R f at (accepted x m) d = record { tokens = d.tokens; spells = d.spells; derives = f d.tokens x d.derives }
  weaker Q R f at (refused k q) d = tt

  -- a part, a token, a part
  pub joined : (a n m l : ℕ) (w : List ℕ) (ts us : List (List ℕ)) → Spells v.see text a n ts → Stands v.see text n m w → Spells v.see text m l us → Spells v.see text a l (ts ++ w ∷ us)
  joined a n m l w ts us h st g = spells_append v text a n l ts (w ∷ us) h (m, st, g)

  module _ {O A : Type 0} (Q R : List (List ℕ) → A → Type 0) (join : O → A → A → A) (operator : Kind → Option O) (no_end : operator ending ≡ none) (one : (ts : List (List ℕ)) (a : A) → Q ts a → R ts a) (more : (k : Kind) (w : List ℕ) (o : O) (ts us : List (List ℕ)) (a b : A) → operator k ≡ some o → Spelling k w → R ts a → Q us b → R (ts ++ w ∷ us) (join o a b)) (operand : ℕ → Parsed A) (ho : (at : ℕ) → at ≤ length text → Derives Q at (operand at)) where
    rest_derives : (f at : ℕ) (a : A) (n : ℕ) → n ≤ length text → Derived R at n a → Derives R at (rest join operator operand text f a n)
    unfolding rest
    rest_derives zero at a n l h = h
    rest_derives (suc f) at a n l h =
        token_prop (Derives R at) (token_at text n) _ (λ k q. tt)
        (λ k s m et. option_prop (Derives R at) (operator k) _ _ (λ z. h)
        (λ o eo.
        let ne = operator_end operator no_end k o eo in
        let mv = token_at_moved text n k s m l et in
        then_prop (Derives R at) (operand m) _ (λ k q. tt)
        (λ b n2 es.
        let d : Derived Q m n2 b = subst (Derives Q m) es (ho m mv.2) in
        rest_derives f at (join o a b) n2 (spells_in v text m n2 d.tokens mv.2 d.spells).1
        (record {
          tokens = h.tokens ++ v.see (part text s m) ∷ d.tokens;
          spells = joined at n m n2 (v.see (part text s m)) h.tokens d.tokens h.spells (stands v text n k s m l ne et) d.spells;
          derives = more k (v.see (part text s m)) o h.tokens d.tokens a b eo (stands_spelled v text n k s m l ne et) h.derives d.derives;
        }))))

    pub chain_derives : (at : ℕ) → at ≤ length text → Derives R at (chain join operator operand text at)
    unfolding chain
    chain_derives at l =
        then_prop (Derives R at) (operand at) _ (λ k q. tt)
        (λ a n es.
        let d : Derived Q at n a = subst (Derives Q at) es (ho at l) in
        rest_derives (suc (length text)) at a n (spells_in v text at n d.tokens l d.spells).1 (record { tokens = d.tokens; spells = d.spells; derives = one d.tokens a d.derives }))

  -- a sign that is read is spelled as its kind says
  pub sign_stands : (w : Kind) → is ending w ≡ false → (a : ℕ) (k : Kind) (s n : ℕ) → a ≤ length text → token_at text a ≡ token k s n → is k w ≡ true → Stands v.see text a n (v.see (part text s n)) × Spelling w (v.see (part text s n))
  sign_stands w ne a k s n h et e =
      let q : k ≡ w = same_kind k w e in
      let no = not_end k w ne e in
      (stands v text a k s n h no et, subst (λ (x : Kind). Spelling x (v.see (part text s n))) q (stands_spelled v text a k s n h no et))

  -- a sign of one spelling
  pub sign_is : (w : Kind) (z : List ℕ) → ((x : List ℕ) → Spelling w x → x ≡ z) → is ending w ≡ false → (a : ℕ) (k : Kind) (s n : ℕ) → a ≤ length text → token_at text a ≡ token k s n → is k w ≡ true → Stands v.see text a n z
  sign_is w z f ne a k s n h et e = let r = sign_stands w ne a k s n h et e in subst (Stands v.see text a n) (f (v.see (part text s n)) r.1) r.0

  -- a part and one sign after it
  pub record Closed {A : Type 0} (Q : List (List ℕ) → A → Type 0) (z : List ℕ) (ts : List (List ℕ)) (x : A) : Type 0 where
    pub inner : List (List ℕ)
    pub is_closed : ts ≡ inner ++ z ∷ []
    pub derives : Q inner x

  pub sign_derives : {A : Type 0} (Q : List (List ℕ) → A → Type 0) (w : Kind) (z : List ℕ) → ((x : List ℕ) → Spelling w x → x ≡ z) → is ending w ≡ false → (at : ℕ) (x : A) (n : ℕ) → n ≤ length text → Derived Q at n x → Derives (Closed Q z) at (and_then (expected text (sign w) n) (λ u m. accepted x m))
  unfolding expected
  sign_derives Q w z f ne at x n h d = go (token_at text n) refl
    where
      go : (r : TokenRead) → token_at text n ≡ r → Derives (Closed Q z) at (and_then (on_token r (λ k s n. cond (is k w) (accepted (tt {0}) n) (refused 2 s))) (λ u m. accepted x m))
      go (fault p) e = tt
      go (token k s m) e = close (is k w) refl
        where
          close : (t : Bool) → is k w ≡ t → Derives (Closed Q z) at (and_then (cond t (accepted (tt {0}) m) (refused 2 s)) (λ u m. accepted x m))
          close true t =
              record {
                tokens = d.tokens ++ z ∷ [];
                spells = joined at n m m z d.tokens [] d.spells (sign_is w z f ne n k s m h e t) refl;
                derives = record { inner = d.tokens; is_closed = refl; derives = d.derives };
              }
          close false t = tt

-- ---- expressions

module _ (sc : Scope) where
  -- the tokens spell an expression or a condition, whose values may be used here
  abbrev pub ScopedE : Level → ℕ → List (List ℕ) → Expression → Type 0
  ScopedE v l ts e = SpellsE (normals sc.names) v l ts e × (length sc.names ≡ length sc.known → UsableE sc.known e)

  abbrev pub ScopedC : LevelC → ℕ → List (List ℕ) → Condition → Type 0
  ScopedC v l ts c = SpellsC (normals sc.names) v l ts c × (length sc.names ≡ length sc.known → UsableC sc.known c)

  -- what follows the `(` of a bracket, with l brackets left before it
  abbrev ClosedE : ℕ → List (List ℕ) → Expression → Type 0
  ClosedE zero ts e = ⊥
  ClosedE (suc l) ts e = Closed normally sc.text (ScopedE D.expression l) (bytes ")") ts e

  bracketed : (l : ℕ) (ts : List (List ℕ)) (e : Expression) → ClosedE l ts e → ScopedE D.primary l (bytes "(" ∷ ts) e
  bracketed zero ts e c = absurd c
  bracketed (suc l) ts e c = rw c.is_closed (brackets c.inner e c.derives.0, c.derives.1)

  id_derives : {A : Type 0} (R : List (List ℕ) → A → Type 0) (at p s n : ℕ) (f : ℕ → Parsed A) → SpellsName (part sc.text s n) → ((i : ℕ) → get_elem? (normals sc.names) i ≡ some (normal (part sc.text s n)) → Derives normally sc.text R at (f i)) → Derives normally sc.text R at (with_id sc p s n f)
  unfolding with_id
  id_derives R at p s n f nm h =
      cond_prop (Derives normally sc.text R at) (over_long s n) _ _ (λ e. tt)
      (λ e. option_prop (Derives normally sc.text R at) (id_of sc.names (part sc.text s n)) _ _ (λ z. tt)
      (λ v ev. h v (id_names sc.names (part sc.text s n) v (word_not (part sc.text s n) nm.no_word) ev)))

  module _ (l : ℕ) (inner : ℕ → ℕ → Parsed Expression) (hi : (s n : ℕ) → n ≤ length sc.text → Derives normally sc.text (ClosedE l) n (inner s n)) where
    abbrev P : ℕ → Parsed Expression → Type 0
    P at p = Derives normally sc.text (ScopedE D.primary l) at p

    pub primary_derives : (at : ℕ) → at ≤ length sc.text → P at (primary inner sc at)
    unfolding primary constant_at current_at previous_value_at is kind_number
    primary_derives at h =
        token_prop (P at) (token_at sc.text at) _ (λ k q. tt)
        (λ k s n et.
        let w = part sc.text s n in
        cond_prop (P at) (is k digits) _ _
        (λ e.
        let d = (sign_stands written sc.text digits refl at k s n h et e).1 in
        let q : normal w ≡ w = other_seen digits w refl refl d in
        cond_prop (P at) (ltb number_limit (value_of w)) _ _ (λ t. tt)
        (λ t. record { tokens = w ∷ []; spells = (n, subst (Stands normal sc.text at n) q (sign_stands normally sc.text digits refl at k s n h et e).0, refl); derives = (a_number w d (ltb-false number_limit (value_of w) t), λ g. mag_int32 (pos (value_of w)) (omega (arith, ltb-false number_limit (value_of w) t))) }))
        (λ n1. cond_prop (P at) (is k name) _ _
        (λ e.
        let nm = (sign_stands written sc.text name refl at k s n h et e).1 in
        id_derives (ScopedE D.primary l) at s s n _ nm
        (λ i ei. cond_prop (P at) (get_or sc.known i false) _ _
        (λ t. record { tokens = normal w ∷ []; spells = (n, (sign_stands normally sc.text name refl at k s n h et e).0, refl); derives = (a_current (normal w) i ei, λ g. t) }) (λ t. tt)))
        (λ n2. cond_prop (P at) (is k T.previous) _ _
        (λ e.
        let x = part sc.text (s + 1) n in
        let r = previous_name_lem sc.text at k s n h (not_end k T.previous refl e) et (same_kind k T.previous e) in
        id_derives (ScopedE D.primary l) at s (s + 1) n _ r.1
        (λ i ei. record {
          tokens = (bytes "_" ++ normal x) ∷ [];
          spells = (n, subst (Stands normal sc.text at n) (ap normal r.0 ∙ previous-seen x r.1) (sign_stands normally sc.text T.previous refl at k s n h et e).0, refl);
          derives = (a_previous (normal x) i ei, λ g. lt→ltb i (length sc.known) (omega (arith, g, length-map sc.names normal, place_in (normals sc.names) i (normal x) ei)));
        }))
        (λ n3. cond_prop (P at) (is k open_round) _ _
        (λ e.
        let mv = token_at_moved sc.text at k s n h et in
        before normally sc.text (ClosedE l) (ScopedE D.primary l) (bytes "(") (bracketed l) at n (sign_is normally sc.text open_round (bytes "(") (λ x q. q) refl at k s n h et e) (inner s n) (hi s n mv.2))
        (λ n4. tt)))))

    pub factor_derives : (at : ℕ) → at ≤ length sc.text → Derives normally sc.text (ScopedE D.factor l) at (factor inner sc at)
    unfolding factor negative is kind_number
    factor_derives at h =
        token_prop (Derives normally sc.text (ScopedE D.factor l) at) (token_at sc.text at) _ (λ k q. tt)
        (λ k s n et.
        let mv = token_at_moved sc.text at k s n h et in
        cond_prop (Derives normally sc.text (ScopedE D.factor l) at) (is k minus) _ _
        (λ e. making normally sc.text (ScopedE D.primary l) (ScopedE D.factor l) (λ x. negate x) (bytes "-") (λ ts x d. (opposite ts x d.0, d.1)) at n (sign_is normally sc.text minus (bytes "-") (λ x q. q) refl at k s n h et e) (primary inner sc n) (primary_derives n mv.2))
        (λ e. weaker normally sc.text (ScopedE D.primary l) (ScopedE D.factor l) (λ ts x d. (plain ts x d.0, d.1)) at (primary inner sc at) (primary_derives at h)))

    pub term_derives : (at : ℕ) → at ≤ length sc.text → Derives normally sc.text (ScopedE D.term l) at (term inner sc at)
    unfolding term
    term_derives at h =
        chain_derives normally sc.text (ScopedE D.factor l) (ScopedE D.term l) operation product_of products_end (λ ts a d. (one_factor ts a d.0, d.1))
        (λ k w o ts us a b e sp d f. (product w o ts us a b (product_sign k w sp o e) d.0 f.0, λ g. (d.1 g, f.1 g))) (factor inner sc) factor_derives at h

    pub expression_derives : (at : ℕ) → at ≤ length sc.text → Derives normally sc.text (ScopedE D.expression l) at (expression inner sc at)
    unfolding expression
    expression_derives at h =
        chain_derives normally sc.text (ScopedE D.term l) (ScopedE D.expression l) operation sum_of sums-end (λ ts a d. (one_term ts a d.0, d.1))
        (λ k w o ts us a b e sp d f. (sum w o ts us a b (sum_sign k w sp o e) d.0 f.0, λ g. (d.1 g, f.1 g))) (term inner sc) term_derives at h

  pub bracket_derives : (l s n : ℕ) → n ≤ length sc.text → Derives normally sc.text (ClosedE l) n (bracket l sc s n)
  unfolding bracket is kind_number
  bracket_derives zero s n h = tt
  bracket_derives (suc l) s n h =
      then_prop (Derives normally sc.text (ClosedE (suc l)) n) (expression (λ s n. bracket l sc s n) sc n) _ (λ k q. tt)
      (λ e m es.
      let d : Derived normally sc.text (ScopedE D.expression l) n m e = subst (Derives normally sc.text (ScopedE D.expression l) n) es (expression_derives l (λ s n. bracket l sc s n) (bracket_derives l) n h) in
      rw (one_sign sc.text close_round e m) (sign_derives normally sc.text (ScopedE D.expression l) close_round (bytes ")") (λ x q. q) refl n e m (spells_in normally sc.text n m d.tokens h d.spells).1 d))

  -- an expression that is accepted is spelled by the tokens from where it starts to where it ends
  pub whole_expression_derives : (at : ℕ) → at ≤ length sc.text → Derives normally sc.text (ScopedE D.expression bracket_limit) at (whole_expression sc at)
  unfolding whole_expression
  whole_expression_derives at h = expression_derives bracket_limit (λ s n. bracket bracket_limit sc s n) (bracket_derives bracket_limit) at h

  -- ---- conditions

  abbrev pub ClosedC : ℕ → List (List ℕ) → Condition → Type 0
  ClosedC zero ts c = ⊥
  ClosedC (suc l) ts c = Closed normally sc.text (ScopedC D.condition l) (bytes "]") ts c

  squared : (l : ℕ) (ts : List (List ℕ)) (c : Condition) → ClosedC l ts c → ScopedC D.atom l (bytes "[" ∷ ts) c
  squared zero ts c h = absurd h
  squared (suc l) ts c h = rw h.is_closed (D.SpellsC.square h.inner c h.derives.0, h.derives.1)

  not_squared : (l : ℕ) (ts : List (List ℕ)) (c : Condition) → ClosedC l ts c → ScopedC D.atom l (bytes "~" ∷ bytes "[" ∷ ts) (negated c)
  not_squared zero ts c h = absurd h
  not_squared (suc l) ts c h = rw h.is_closed (not_square h.inner c h.derives.0, h.derives.1)

  -- `&` and `|`
  and_derives : (l : ℕ) (k : Kind) (w : List ℕ) (o : Connective) (ts us : List (List ℕ)) (a b : Condition) → and_of k ≡ some o → Spelling k w → ScopedC D.conjunction l ts a → ScopedC D.atom l us b → ScopedC D.conjunction l (ts ++ w ∷ us) (connect o a b)
  unfolding and_of connect
  and_derives l k w o ts us a b e sp d f = let r = only_sign k w sp ampersand and_also o e in rw (r.0, ← r.1) (conjoined ts us a b d.0 f.0, λ g. (d.1 g, f.1 g))

  or_derives : (l : ℕ) (k : Kind) (w : List ℕ) (o : Connective) (ts us : List (List ℕ)) (a b : Condition) → or_of k ≡ some o → Spelling k w → ScopedC D.condition l ts a → ScopedC D.conjunction l us b → ScopedC D.condition l (ts ++ w ∷ us) (connect o a b)
  unfolding or_of connect
  or_derives l k w o ts us a b e sp d f = let r = only_sign k w sp bar or_else o e in rw (r.0, ← r.1) (disjoined ts us a b d.0 f.0, λ g. (d.1 g, f.1 g))

  module _ (l : ℕ) (inner : ℕ → ℕ → Parsed Expression) (hi : (s n : ℕ) → n ≤ length sc.text → Derives normally sc.text (ClosedE l) n (inner s n)) (inside : ℕ → ℕ → Parsed Condition) (hd : (s n : ℕ) → n ≤ length sc.text → Derives normally sc.text (ClosedC l) n (inside s n)) where
    abbrev A : ℕ → Parsed Condition → Type 0
    A at p = Derives normally sc.text (ScopedC D.atom l) at p

    compared_derives : (at : ℕ) (a : Expression) (n : ℕ) → n ≤ length sc.text → Derived normally sc.text (ScopedE D.expression l) at n a → A at (compared inner sc a n)
    unfolding compared
    compared_derives at a n h d =
        token_prop (A at) (token_at sc.text n) _ (λ k q. tt)
        (λ k s m et. option_prop (A at) (comparison_by k) _ _ (λ z. tt)
        (λ o eo.
        let ne = operator_end comparison_by comparisons-end k o eo in
        let mv = token_at_moved sc.text n k s m h et in
        then_prop (A at) (expression inner sc m) _ (λ k q. tt)
        (λ b n2 es.
        let f : Derived normally sc.text (ScopedE D.expression l) m n2 b = subst (Derives normally sc.text (ScopedE D.expression l) m) es (expression_derives l inner hi m mv.2) in
        let w = normal (part sc.text s m) in
        record {
          tokens = d.tokens ++ w ∷ f.tokens;
          spells = joined normally sc.text at n m n2 w d.tokens f.tokens d.spells (stands normally sc.text n k s m h ne et) f.spells;
          derives = (D.SpellsC.compared w o d.tokens f.tokens a b (comparison_sign k w (stands_spelled normally sc.text n k s m h ne et) o eo) d.derives.0 f.derives.0, λ g. (d.derives.1 g, f.derives.1 g));
        })))

    comparison_derives : (at : ℕ) → at ≤ length sc.text → A at (comparison_at inner sc at)
    unfolding comparison_at
    comparison_derives at h =
        then_prop (A at) (expression inner sc at) _ (λ k q. tt)
        (λ a n es.
        let d : Derived normally sc.text (ScopedE D.expression l) at n a = subst (Derives normally sc.text (ScopedE D.expression l) at) es (expression_derives l inner hi at h) in
        compared_derives at a n (spells_in normally sc.text at n d.tokens h d.spells).1 d)

    inverted_derives : (at n : ℕ) → n ≤ length sc.text → Stands normal sc.text at n (bytes "~") → A at (inverted inside sc n)
    unfolding inverted opposed is kind_number
    inverted_derives at n h st =
        token_prop (A at) (token_at sc.text n) _ (λ k q. tt)
        (λ k s m et.
        let mv = token_at_moved sc.text n k s m h et in
        cond_prop (A at) (is k open_square) _ _
        (λ e. inverse at n m st (sign_is normally sc.text open_square (bytes "[") (λ x q. q) refl n k s m h et e) (inside s m) (hd s m mv.2))
        (λ e. tt))
      where
        inverse : (at n m : ℕ) → Stands normal sc.text at n (bytes "~") → Stands normal sc.text n m (bytes "[") → (p : Parsed Condition) → Derives normally sc.text (ClosedC l) m p → A at (and_then p (λ c n. accepted (negated c) n))
        inverse at n m st su (accepted c i) d = record { tokens = bytes "~" ∷ bytes "[" ∷ d.tokens; spells = (n, st, (m, su, d.spells)); derives = not_squared l d.tokens c d.derives }
        inverse at n m st su (refused k q) d = tt

    pub atom_derives : (at : ℕ) → at ≤ length sc.text → A at (atom inner inside sc at)
    unfolding atom is kind_number
    atom_derives at h =
        token_prop (A at) (token_at sc.text at) _ (λ k q. tt)
        (λ k s n et.
        let mv = token_at_moved sc.text at k s n h et in
        cond_prop (A at) (is k tilde) _ _
        (λ e. inverted_derives at n mv.2 (sign_is normally sc.text tilde (bytes "~") (λ x q. q) refl at k s n h et e))
        (λ e. cond_prop (A at) (is k open_square) _ _
        (λ e2. before normally sc.text (ClosedC l) (ScopedC D.atom l) (bytes "[") (squared l) at n (sign_is normally sc.text open_square (bytes "[") (λ x q. q) refl at k s n h et e2) (inside s n) (hd s n mv.2))
        (λ e2. comparison_derives at h)))

    pub conjunction_derives : (at : ℕ) → at ≤ length sc.text → Derives normally sc.text (ScopedC D.conjunction l) at (conjunction inner inside sc at)
    unfolding conjunction
    conjunction_derives at h =
        chain_derives normally sc.text (ScopedC D.atom l) (ScopedC D.conjunction l) connect and_of ands-end (λ ts a d. (one_atom ts a d.0, d.1)) (and_derives l)
        (atom inner inside sc) atom_derives at h

    condition_derives : (at : ℕ) → at ≤ length sc.text → Derives normally sc.text (ScopedC D.condition l) at (condition inner inside sc at)
    unfolding condition
    condition_derives at h =
        chain_derives normally sc.text (ScopedC D.conjunction l) (ScopedC D.condition l) connect or_of ors-end (λ ts a d. (one_conjunction ts a d.0, d.1)) (or_derives l)
        (conjunction inner inside sc) conjunction_derives at h

  pub square_derives : (l s n : ℕ) → n ≤ length sc.text → Derives normally sc.text (ClosedC l) n (square l sc s n)
  unfolding square is kind_number
  square_derives zero s n h = tt
  square_derives (suc l) s n h =
      let inner : ℕ → ℕ → Parsed Expression = λ s n. bracket l sc s n in
      let inside : ℕ → ℕ → Parsed Condition = λ s n. square l sc s n in
      then_prop (Derives normally sc.text (ClosedC (suc l)) n) (condition inner inside sc n) _ (λ k q. tt)
      (λ c m es.
      let d : Derived normally sc.text (ScopedC D.condition l) n m c = subst (Derives normally sc.text (ScopedC D.condition l) n) es (condition_derives l inner (bracket_derives l) inside (square_derives l) n h) in
      rw (one_sign sc.text close_square c m) (sign_derives normally sc.text (ScopedC D.condition l) close_square (bytes "]") (λ x q. q) refl n c m (spells_in normally sc.text n m d.tokens h d.spells).1 d))

  -- `[c]` of a rule form, after its bracket
  pub listed_scoped : (at : ℕ) → at ≤ length sc.text → Derives normally sc.text (Closed normally sc.text (ScopedC D.condition bracket_limit) (bytes "]")) at (listed sc at)
  unfolding listed whole_condition square
  listed_scoped at h = square_derives (suc bracket_limit) 0 at h

  pub listed_derives : (at : ℕ) → at ≤ length sc.text → Derives normally sc.text (Closed normally sc.text (SpellsC (normals sc.names) D.condition bracket_limit) (bytes "]")) at (listed sc at)
  listed_derives at h =
      weaker normally sc.text (Closed normally sc.text (ScopedC D.condition bracket_limit) (bytes "]")) (Closed normally sc.text (SpellsC (normals sc.names) D.condition bracket_limit) (bytes "]"))
      (λ ts c d. record { inner = d.inner; is_closed = d.is_closed; derives = d.derives.0 }) at (listed sc at) (listed_scoped at h)
