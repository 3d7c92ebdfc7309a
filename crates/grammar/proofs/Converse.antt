-- Tokens that spell an expression or a condition are read as it where they stand, if its values may be used there and what follows
-- does not go on with it. Assumes nothing.
use mathlib.Core.Path.{◌≡◌, refl, ap, sym, ◌∙◌}
use mathlib.Core.List.{List, [], ◌∷◌, ◌++◌}
use mathlib.Core.Bool.{Bool, true, false}
use mathlib.Core.Option.{Option, none, some}
use Prim.Native.Nat.{ℕ, zero, suc, ◌+◌, ◌-◌, ◌≤◌, ◌<◌}
use native.Mathlib.Omega.{arith}
use lib.ListN.{length, get_or, get_elem?}
use lib.IntN.{pos}
use borrow.Author.Tests.{le-ltb}
use Rattle.limits.specs.Limits.{bracket_limit, number_limit}
use Rattle.lexer.specs.Bytes.{bytes, part}
use Rattle.lexer.specs.Token.{Kind, kind_number, name, digits, open_round, close_round, open_square, close_square, tilde, ampersand, bar, minus, plus, star, slash, mod_word, is, TokenRead, token, fault}
use Rattle.lexer.specs.Token as T
use Rattle.lexer.specs.Lexer.{token_at, over_long, value_of}
use Rattle.lexer.proofs.Laws.{token_at_moved}
use Rattle.lexer.proofs.Same.{same_kind}
use Rattle.arith.specs.Values.{Operation, Comparison}
use Rattle.semantics.specs.Program.{Expression, constant, current, previous, operation, negate, Condition, comparison, negated, both, either, UsableE, UsableC}
use Rattle.grammar.specs.Parsed.{Parsed, accepted, refused, expected, rest, chain}
use Rattle.grammar.specs.Expressions.{Scope, with_id, current_at, previous_value_at, constant_at, primary, negative, factor, product_of, sum_of, term, expression, bracket, whole_expression}
use Rattle.grammar.specs.Conditions.{comparison_by, compared, comparison_at, opposite as opposed, inverted, atom, and_also, or_else, connect, and_of, or_of, conjunction, condition, square, whole_condition, listed}
use Rattle.lexer.specs.Spelling.{IsDigits, Spelling, SpellsName}
use Rattle.grammar.specs.Derivation.{Spells, ProductSign, SumSign, ComparisonSign, Level, SpellsE, a_number, a_current, a_previous, brackets, plain, opposite, one_factor, product, one_term, sum, LevelC, SpellsC, not_square, one_atom, conjoined, one_conjunction, disjoined, normal, normals}
use Rattle.grammar.specs.Derivation as D
use Rattle.grammar.specs.Inner.Names.{Named}
use Rattle.grammar.proofs.Combine.{one_sign, never}
use Rattle.grammar.proofs.Bytes.{part_length, tails}
use Rattle.grammar.proofs.Normal.{normal_length, previous-seen, other_seen, each_normal, seen_id}
use Rattle.grammar.proofs.Phrases.{previous_name_lem, previous_end}
use Rattle.grammar.proofs.Standing.{at_kind, split, stands_in, spells_in, is_read, normally, stands_raw}

-- ---- loops

module _ {O A : Type 0} (join : O → A → A → A) (operator : Kind → Option O) (operand : ℕ → Parsed A) (text : List ℕ) where
  rest_stops : (f : ℕ) (e : A) (n : ℕ) (k : Kind) (s m : ℕ) → token_at text n ≡ token k s m → operator k ≡ none → rest join operator operand text f e n ≡ accepted e n
  unfolding rest
  rest_stops zero e n k s m et ek = refl
  rest_stops (suc f) e n k s m et ek = rw (et, ek)

  rest_goes : (f : ℕ) (e : A) (n : ℕ) (k : Kind) (s m : ℕ) (o : O) (b : A) (l : ℕ) → token_at text n ≡ token k s m → operator k ≡ some o → operand m ≡ accepted b l → rest join operator operand text (suc f) e n ≡ rest join operator operand text f (join o e b) l
  unfolding rest
  rest_goes f e n k s m o b l et ek eb = rw (et, ek, eb)

  -- a chain that has come to n with e
  record Loops (p : Parsed A) (e : A) (a n : ℕ) : Type 0 where
    fuel : ℕ
    enough : suc (length text) + a ≤ fuel + n
    is_rest : p ≡ rest join operator operand text fuel e n

  -- ... stops where no operator follows
  loops_stop : (p : Parsed A) (e : A) (a n : ℕ) → Loops p e a n → (k : Kind) (s m : ℕ) → token_at text n ≡ token k s m → operator k ≡ none → p ≡ accepted e n
  loops_stop p e a n x k s m et ek = x.is_rest ∙ rest_stops x.fuel e n k s m et ek

  -- ... begins with an operand
  chain_begins : (e : A) (a n : ℕ) → a ≤ n → operand a ≡ accepted e n → Loops (chain join operator operand text a) e a n
  unfolding chain
  chain_begins e a n h r = record { fuel = suc (length text); enough = omega arith; is_rest = rw r }

  loops_goes : (p : Parsed A) (e : A) (a n : ℕ) → n ≤ length text → Loops p e a n → (k : Kind) (s m : ℕ) (o : O) (b : A) (l : ℕ) → n < l → token_at text n ≡ token k s m → operator k ≡ some o → operand m ≡ accepted b l → Loops p (join o e b) a l
  loops_goes p e a n i x k s m o b l j et ek eb = go x.fuel x.enough x.is_rest
    where
      go : (f : ℕ) → suc (length text) + a ≤ f + n → p ≡ rest join operator operand text f e n → Loops p (join o e b) a l
      go zero en h = absurd (omega arith)
      go (suc f) en h = record { fuel = f; enough = omega arith; is_rest = h ∙ rest_goes f e n k s m o b l et ek eb }

-- ---- signs of operations

-- the kind that a sign is of
pub record SignKind {O : Type 0} (operator : Kind → Option O) (w : List ℕ) (o : O) : Type 0 where
  pub kind : Kind
  pub spelling : Spelling kind w
  pub is_operator : operator kind ≡ some o

-- ... and goes on with a sign and an operand
chain_joins : {O A : Type 0} (join : O → A → A → A) (operator : Kind → Option O) (operand : ℕ → Parsed A) (text : List ℕ) (p : Parsed A) (w : List ℕ) (o : O) (ts us : List (List ℕ)) (x y : A) (c : SignKind operator w o) (a n : ℕ) → a ≤ length text → Spells normal text a n (ts ++ w ∷ us) → ((i s m : ℕ) → Spells normal text a i ts → token_at text i ≡ token c.kind s m → Loops join operator operand text p x a i) → ((m : ℕ) → m ≤ length text → Spells normal text m n us → operand m ≡ accepted y n) → Loops join operator operand text p (join o x y) a n
chain_joins join operator operand text p w o ts us x y c a n h g first second =
    let q = split normally text a n ts (w ∷ us) g in
    let i = q.place in
    let m = q.second.0 in
    let st = q.second.1 in
    let sp = spells_in normally text a i ts h q.first in
    let mv = stands_in normally text i m w sp.1 st in
    let sq = spells_in normally text m n us mv.1 q.second.2 in
    let et = at_kind normally text c.kind w c.spelling i m sp.1 st in
    loops_goes join operator operand text p x a i sp.1 (first i st.start m q.first et) c.kind st.start m o y n (omega (arith, mv.0, sq.0)) et c.is_operator (second m mv.1 q.second.2)

pub product_kind : (w : List ℕ) (o : Operation) → ProductSign w o → SignKind product_of w o
unfolding product_of is kind_number
product_kind w o D.times = record { kind = star; spelling = refl; is_operator = refl }
product_kind w o D.over = record { kind = slash; spelling = refl; is_operator = refl }
product_kind w o D.modulus = record { kind = mod_word; spelling = refl; is_operator = refl }

-- a sum's sign does not go on with a product
pub sum_kind : (w : List ℕ) (o : Operation) → SumSign w o → (k : SignKind sum_of w o) × (product_of k.kind ≡ none)
unfolding sum_of product_of is kind_number
sum_kind w o D.plus = (record { kind = plus; spelling = refl; is_operator = refl }, refl)
sum_kind w o D.minus = (record { kind = minus; spelling = refl; is_operator = refl }, refl)

-- a kind that does not go on with an expression
abbrev pub Stop : Kind → Type 0
Stop k = (product_of k ≡ none) × (sum_of k ≡ none)

pub comparison_kind : (w : List ℕ) (o : Comparison) → ComparisonSign w o → (k : SignKind comparison_by w o) × Stop k.kind
unfolding comparison_by sum_of product_of is kind_number
comparison_kind w o D.equals = (record { kind = T.equals; spelling = refl; is_operator = refl }, (refl, refl))
comparison_kind w o D.differs = (record { kind = T.not_equal; spelling = refl; is_operator = refl }, (refl, refl))
comparison_kind w o D.below = (record { kind = T.less; spelling = refl; is_operator = refl }, (refl, refl))
comparison_kind w o D.at_most = (record { kind = T.less_equal; spelling = refl; is_operator = refl }, (refl, refl))
comparison_kind w o D.above = (record { kind = T.greater; spelling = refl; is_operator = refl }, (refl, refl))
comparison_kind w o D.at_least = (record { kind = T.greater_equal; spelling = refl; is_operator = refl }, (refl, refl))

-- ---- expressions

module _ (sc : Scope) (good : Named sc.names) where
  abbrev In : ℕ → ℕ → ℕ → Parsed Expression
  In l s n = bracket l sc s n

  -- what each level's reader does with tokens that spell an expression
  abbrev Reader : Level → ℕ → List (List ℕ) → Expression → Type 0
  Reader D.primary l ts e = (a n : ℕ) → a ≤ length sc.text → Spells normal sc.text a n ts → primary (In l) sc a ≡ accepted e n
  Reader D.factor l ts e = (a n : ℕ) → a ≤ length sc.text → Spells normal sc.text a n ts → factor (In l) sc a ≡ accepted e n
  Reader D.term l ts e = (a n : ℕ) → a ≤ length sc.text → Spells normal sc.text a n ts → Loops operation product_of (factor (In l) sc) sc.text (term (In l) sc a) e a n
  Reader D.expression l ts e = (a n : ℕ) → a ≤ length sc.text → Spells normal sc.text a n ts → (k : Kind) (s m : ℕ) → token_at sc.text n ≡ token k s m → product_of k ≡ none → Loops operation sum_of (term (In l) sc) sc.text (expression (In l) sc a) e a n

  number_reads : (l : ℕ) (w : List ℕ) → IsDigits w → value_of w ≤ number_limit → Reader D.primary l (w ∷ []) (constant (pos (value_of w)))
  unfolding primary constant_at is kind_number
  number_reads l w d h a n i g =
      let st = g.1 in
      let u = part sc.text st.start g.0 in
      let q : u ≡ w = sym (other_seen digits u refl refl (stands_raw normally sc.text digits w d a g.0 i st)) ∙ st.spelled in
      rw (at_kind normally sc.text digits w d a g.0 i st, q, le-ltb number_limit (value_of w) h, g.2)

  -- a name that stands from s to n is known by its id
  pub named_id : {A : Type 0} (p s n i : ℕ) (w : List ℕ) (f : ℕ → Parsed A) → s ≤ n → n ≤ length sc.text → SpellsName (part sc.text s n) → normal (part sc.text s n) ≡ w → get_elem? (normals sc.names) i ≡ some w → with_id sc p s n f ≡ f i
  unfolding with_id over_long
  named_id p s n i w f h l nm e ei =
      let short = (each_normal sc.names good i w ei).short in
      let lw : length w ≡ n - s = sym (ap length e) ∙ (normal_length (part sc.text s n) ∙ part_length sc.text s n h l) in
      rw (le-ltb 16 (n - s) (omega arith), seen_id sc.names good i w ei (part sc.text s n) nm e)

  -- a name of the text spells a name
  pub spells_normal : (i : ℕ) (w : List ℕ) → get_elem? (normals sc.names) i ≡ some w → SpellsName w
  spells_normal i w ei = let nm = each_normal sc.names good i w ei in record { is_word = nm.is_word; no_word = nm.no_word }

  current_reads : (l : ℕ) (w : List ℕ) (i : ℕ) → get_elem? (normals sc.names) i ≡ some w → get_or sc.known i false ≡ true → Reader D.primary l (w ∷ []) (current i)
  unfolding primary current_at is kind_number
  current_reads l w i ei ek a n j g =
      let st = g.1 in
      let nm = spells_normal i w ei in
      let mv = token_at_moved sc.text a st.kind st.start g.0 j (is_read st) in
      rw (at_kind normally sc.text name w nm a g.0 j st, named_id {A = Expression} st.start st.start g.0 i w _ mv.1 mv.2 (stands_raw normally sc.text name w nm a g.0 j st) st.spelled ei, ek, g.2)

  previous_reads : (l : ℕ) (w : List ℕ) (i : ℕ) → get_elem? (normals sc.names) i ≡ some w → Reader D.primary l ((bytes "_" ++ w) ∷ []) (previous i)
  unfolding primary previous_value_at is kind_number
  previous_reads l w i ei a n j g =
      let st = g.1 in
      let u = part sc.text (st.start + 1) g.0 in
      let at = at_kind normally sc.text T.previous (bytes "_" ++ w) (record { rest = w; is_cons = refl; is_name = spells_normal i w ei }) a g.0 j st in
      let r = previous_name_lem sc.text a T.previous st.start g.0 j previous_end at refl in
      let mv = token_at_moved sc.text a st.kind st.start g.0 j (is_read st) in
      let t : normal u ≡ w = tails (sym (previous-seen u r.1) ∙ (ap normal (sym r.0) ∙ st.spelled)) in
      rw (at, named_id {A = Expression} st.start (st.start + 1) g.0 i w _ (omega arith) mv.2 r.1 t ei, g.2)

  -- an expression and what follows it
  read_expression_lem : (l : ℕ) (ts : List (List ℕ)) (e : Expression) → Reader D.expression l ts e → (a n : ℕ) → a ≤ length sc.text → Spells normal sc.text a n ts → (k : Kind) (s m : ℕ) → token_at sc.text n ≡ token k s m → Stop k → expression (In l) sc a ≡ accepted e n
  read_expression_lem l ts e r a n i g k s m et st = loops_stop operation sum_of (term (In l) sc) sc.text (expression (In l) sc a) e a n (r a n i g k s m et st.0) k s m et st.1

  bracket_reads : (l : ℕ) (ts : List (List ℕ)) (e : Expression) → Reader D.expression l ts e → Reader D.primary (suc l) (bytes "(" ∷ ts ++ bytes ")" ∷ []) e
  unfolding primary bracket expected is kind_number product_of sum_of
  bracket_reads l ts e r a n i g =
      let st = g.1 in
      let mv = stands_in normally sc.text a g.0 (bytes "(") i st in
      let p = split normally sc.text g.0 n ts (bytes ")" ∷ []) g.2 in
      let sp = spells_in normally sc.text g.0 p.place ts mv.1 p.first in
      let su = p.second.1 in
      let close = at_kind normally sc.text close_round (bytes ")") refl p.place p.second.0 sp.1 su in
      rw (at_kind normally sc.text open_round (bytes "(") refl a g.0 i st, read_expression_lem l ts e r g.0 p.place mv.1 p.first close_round su.start p.second.0 close (refl, refl), one_sign sc.text close_round e p.place, close, p.second.2)

  primary_minus : (l a s m : ℕ) → token_at sc.text a ≡ token minus s m → primary (In l) sc a ≡ refused 2 s
  unfolding primary is kind_number
  primary_minus l a s m et = rw et

  primary-fault : (l a p : ℕ) → token_at sc.text a ≡ fault p → primary (In l) sc a ≡ refused 1 p
  unfolding primary
  primary-fault l a p et = rw et

  -- what is a primary is no `-`
  plain_reads : (l : ℕ) (ts : List (List ℕ)) (e : Expression) → Reader D.primary l ts e → Reader D.factor l ts e
  unfolding factor
  plain_reads l ts e r a n i g = go (token_at sc.text a) refl (r a n i g)
    where
      go : (t : TokenRead) → token_at sc.text a ≡ t → primary (In l) sc a ≡ accepted e n → factor (In l) sc a ≡ accepted e n
      go (fault p) et h = never 1 p n e (sym (primary-fault l a p et) ∙ h)
      go (token k s m) et h = by (is k minus) refl
        where
          by : (t : Bool) → is k minus ≡ t → factor (In l) sc a ≡ accepted e n
          by true t = never 2 s n e (sym (primary_minus l a s m (et ∙ ap (λ (y : Kind). token y s m) (same_kind k minus t))) ∙ h)
          by false t = rw (et, t) h

  opposite_reads : (l : ℕ) (ts : List (List ℕ)) (e : Expression) → Reader D.primary l ts e → Reader D.factor l (bytes "-" ∷ ts) (negate e)
  unfolding factor negative is kind_number
  opposite_reads l ts e r a n i g =
      let mv = stands_in normally sc.text a g.0 (bytes "-") i g.1 in
      rw (at_kind normally sc.text minus (bytes "-") refl a g.0 i g.1, r g.0 n mv.1 g.2)

  factor_reads : (l : ℕ) (ts : List (List ℕ)) (e : Expression) → Reader D.factor l ts e → Reader D.term l ts e
  unfolding term
  factor_reads l ts e r a n i g = chain_begins operation product_of (factor (In l) sc) sc.text e a n (spells_in normally sc.text a n ts i g).0 (r a n i g)

  product_reads : (l : ℕ) (w : List ℕ) (o : Operation) (ts us : List (List ℕ)) (x y : Expression) → ProductSign w o → Reader D.term l ts x → Reader D.factor l us y → Reader D.term l (ts ++ w ∷ us) (operation o x y)
  product_reads l w o ts us x y ps r q a n i g =
      chain_joins operation product_of (factor (In l) sc) sc.text (term (In l) sc a) w o ts us x y (product_kind w o ps) a n i g (λ j s m h et. r a j i h) (λ m j h. q m n j h)

  term_reads : (l : ℕ) (ts : List (List ℕ)) (e : Expression) → Reader D.term l ts e → Reader D.expression l ts e
  unfolding expression
  term_reads l ts e r a n i g k s m et ek =
      chain_begins operation sum_of (term (In l) sc) sc.text e a n (spells_in normally sc.text a n ts i g).0 (loops_stop operation product_of (factor (In l) sc) sc.text (term (In l) sc a) e a n (r a n i g) k s m et ek)

  sum_reads : (l : ℕ) (w : List ℕ) (o : Operation) (ts us : List (List ℕ)) (x y : Expression) → SumSign w o → Reader D.expression l ts x → Reader D.term l us y → Reader D.expression l (ts ++ w ∷ us) (operation o x y)
  sum_reads l w o ts us x y ps r q a n i g k2 s2 m2 et2 ek2 =
      chain_joins operation sum_of (term (In l) sc) sc.text (expression (In l) sc a) w o ts us x y (sum_kind w o ps).0 a n i g
      (λ j s m h et. r a j i h (sum_kind w o ps).0.kind s m et (sum_kind w o ps).1)
      (λ m j h. loops_stop operation product_of (factor (In l) sc) sc.text (term (In l) sc m) y m n (q m n j h) k2 s2 m2 et2 ek2)

  reads : (v : Level) (l : ℕ) (ts : List (List ℕ)) (e : Expression) → SpellsE (normals sc.names) v l ts e → UsableE sc.known e → Reader v l ts e
  reads v l ts e (a_number w d h) u = number_reads _ w d h
  reads v l ts e (a_current w i ei) u = current_reads _ w i ei u
  reads v l ts e (a_previous w i ei) u = previous_reads _ w i ei
  reads v l ts e (brackets us x d) u = bracket_reads _ us x (reads D.expression _ us x d u)
  reads v l ts e (plain us x d) u = plain_reads _ us x (reads D.primary _ us x d u)
  reads v l ts e (opposite us x d) u = opposite_reads _ us x (reads D.primary _ us x d u)
  reads v l ts e (one_factor us x d) u = factor_reads _ us x (reads D.factor _ us x d u)
  reads v l ts e (product w o us ws x y ps d f) u = product_reads _ w o us ws x y ps (reads D.term _ us x d u.0) (reads D.factor _ ws y f u.1)
  reads v l ts e (one_term us x d) u = term_reads _ us x (reads D.term _ us x d u)
  reads v l ts e (sum w o us ws x y ps d f) u = sum_reads _ w o us ws x y ps (reads D.expression _ us x d u.0) (reads D.term _ ws y f u.1)

  -- tokens that spell an expression are read as it, where a token follows that does not go on with it
  pub spelled_expression : (ts : List (List ℕ)) (e : Expression) → SpellsE (normals sc.names) D.expression bracket_limit ts e → UsableE sc.known e → (a n : ℕ) → a ≤ length sc.text → Spells normal sc.text a n ts → (k : Kind) (s m : ℕ) → token_at sc.text n ≡ token k s m → Stop k → whole_expression sc a ≡ accepted e n
  unfolding whole_expression
  spelled_expression ts e d u a n i g k s m et st = read_expression_lem bracket_limit ts e (reads D.expression bracket_limit ts e d u) a n i g k s m et st

  -- ---- conditions

  abbrev Sq : ℕ → ℕ → ℕ → Parsed Condition
  Sq l s n = square l sc s n

  abbrev ReaderC : LevelC → ℕ → List (List ℕ) → Condition → Type 0
  ReaderC D.atom l ts c = (a n : ℕ) → a ≤ length sc.text → Spells normal sc.text a n ts → (k : Kind) (s m : ℕ) → token_at sc.text n ≡ token k s m → Stop k → atom (In l) (Sq l) sc a ≡ accepted c n
  ReaderC D.conjunction l ts c = (a n : ℕ) → a ≤ length sc.text → Spells normal sc.text a n ts → (k : Kind) (s m : ℕ) → token_at sc.text n ≡ token k s m → Stop k → Loops connect and_of (atom (In l) (Sq l) sc) sc.text (conjunction (In l) (Sq l) sc a) c a n
  ReaderC D.condition l ts c = (a n : ℕ) → a ≤ length sc.text → Spells normal sc.text a n ts → (k : Kind) (s m : ℕ) → token_at sc.text n ≡ token k s m → Stop k → and_of k ≡ none → Loops connect or_of (conjunction (In l) (Sq l) sc) sc.text (condition (In l) (Sq l) sc a) c a n

  -- an expression begins with no `~` and no `[`
  expression_tilde : (l a s m : ℕ) → token_at sc.text a ≡ token tilde s m → expression (In l) sc a ≡ refused 2 s
  unfolding expression term chain factor primary is kind_number
  expression_tilde l a s m et = rw et

  expression-square : (l a s m : ℕ) → token_at sc.text a ≡ token open_square s m → expression (In l) sc a ≡ refused 2 s
  unfolding expression term chain factor primary is kind_number
  expression-square l a s m et = rw et

  expression-fault : (l a p : ℕ) → token_at sc.text a ≡ fault p → expression (In l) sc a ≡ refused 1 p
  unfolding expression term chain factor
  expression-fault l a p et = rw et

  -- so a comparison is an atom
  comparison-atom : (l a : ℕ) (x : Expression) (n : ℕ) → expression (In l) sc a ≡ accepted x n → atom (In l) (Sq l) sc a ≡ comparison_at (In l) sc a
  unfolding atom
  comparison-atom l a x n h = go (token_at sc.text a) refl
    where
      go : (t : TokenRead) → token_at sc.text a ≡ t → atom (In l) (Sq l) sc a ≡ comparison_at (In l) sc a
      go (fault p) et = never 1 p n x (sym (expression-fault l a p et) ∙ h)
      go (token k s m) et = by (is k tilde) refl (is k open_square) refl
        where
          by : (t : Bool) → is k tilde ≡ t → (u : Bool) → is k open_square ≡ u → atom (In l) (Sq l) sc a ≡ comparison_at (In l) sc a
          by true t u v = never 2 s n x (sym (expression_tilde l a s m (et ∙ ap (λ (y : Kind). token y s m) (same_kind k tilde t))) ∙ h)
          by false t true v = never 2 s n x (sym (expression-square l a s m (et ∙ ap (λ (y : Kind). token y s m) (same_kind k open_square v))) ∙ h)
          by false t false v = rw (et, t, v)

  compared_reads : (l : ℕ) (w : List ℕ) (o : Comparison) (ts us : List (List ℕ)) (x y : Expression) → ComparisonSign w o → Reader D.expression l ts x → Reader D.expression l us y → ReaderC D.atom l (ts ++ w ∷ us) (comparison o x y)
  unfolding comparison_at compared
  compared_reads l w o ts us x y ps r q a n i g k2 s2 m2 et2 st2 =
      let c = (comparison_kind w o ps).0 in
      let p = split normally sc.text a n ts (w ∷ us) g in
      let m = p.second.0 in
      let st = p.second.1 in
      let sp = spells_in normally sc.text a p.place ts i p.first in
      let mv = stands_in normally sc.text p.place m w sp.1 st in
      let et = at_kind normally sc.text c.kind w c.spelling p.place m sp.1 st in
      let ex = read_expression_lem l ts x r a p.place i p.first c.kind st.start m et (comparison_kind w o ps).1 in
      let ey = read_expression_lem l us y q m n mv.1 p.second.2 k2 s2 m2 et2 st2 in
      comparison-atom l a x p.place ex ∙ rw (ex, et, c.is_operator, ey)

  -- a condition and the `]` after it
  closing_reads : (l : ℕ) (ts : List (List ℕ)) (c : Condition) → ReaderC D.condition l ts c → (s a n : ℕ) → a ≤ length sc.text → Spells normal sc.text a n (ts ++ bytes "]" ∷ []) → square (suc l) sc s a ≡ accepted c n
  unfolding square expected is kind_number product_of sum_of and_of or_of
  closing_reads l ts c r s a n i g =
      let p = split normally sc.text a n ts (bytes "]" ∷ []) g in
      let st = p.second.1 in
      let sp = spells_in normally sc.text a p.place ts i p.first in
      let close = at_kind normally sc.text close_square (bytes "]") refl p.place p.second.0 sp.1 st in
      let x = r a p.place i p.first close_square st.start p.second.0 close (refl, refl) refl in
      let y = loops_stop connect or_of (conjunction (In l) (Sq l) sc) sc.text (condition (In l) (Sq l) sc a) c a p.place x close_square st.start p.second.0 close refl in
      rw (y, one_sign sc.text close_square c p.place, close, p.second.2)

  square_reads : (l : ℕ) (ts : List (List ℕ)) (c : Condition) → ReaderC D.condition l ts c → ReaderC D.atom (suc l) (bytes "[" ∷ ts ++ bytes "]" ∷ []) c
  unfolding atom is kind_number
  square_reads l ts c r a n i g k2 s2 m2 et2 st2 =
      let mv = stands_in normally sc.text a g.0 (bytes "[") i g.1 in
      rw (at_kind normally sc.text open_square (bytes "[") refl a g.0 i g.1) (closing_reads l ts c r g.1.start g.0 n mv.1 g.2)

  not_reads : (l : ℕ) (ts : List (List ℕ)) (c : Condition) → ReaderC D.condition l ts c → ReaderC D.atom (suc l) (bytes "~" ∷ bytes "[" ∷ ts ++ bytes "]" ∷ []) (negated c)
  unfolding atom inverted opposed is kind_number
  not_reads l ts c r a n i g k2 s2 m2 et2 st2 =
      let mv = stands_in normally sc.text a g.0 (bytes "~") i g.1 in
      let h = g.2 in
      let mw = stands_in normally sc.text g.0 h.0 (bytes "[") mv.1 h.1 in
      rw (at_kind normally sc.text tilde (bytes "~") refl a g.0 i g.1, at_kind normally sc.text open_square (bytes "[") refl g.0 h.0 mv.1 h.1, closing_reads l ts c r h.1.start h.0 n mw.1 h.2)

  atom_reads : (l : ℕ) (ts : List (List ℕ)) (c : Condition) → ReaderC D.atom l ts c → ReaderC D.conjunction l ts c
  unfolding conjunction
  atom_reads l ts c r a n i g k s m et st = chain_begins connect and_of (atom (In l) (Sq l) sc) sc.text c a n (spells_in normally sc.text a n ts i g).0 (r a n i g k s m et st)

  conjoined_reads : (l : ℕ) (ts us : List (List ℕ)) (x y : Condition) → ReaderC D.conjunction l ts x → ReaderC D.atom l us y → ReaderC D.conjunction l (ts ++ bytes "&" ∷ us) (both x y)
  unfolding and_of product_of sum_of is kind_number connect
  conjoined_reads l ts us x y r q a n i g k2 s2 m2 et2 st2 =
      chain_joins connect and_of (atom (In l) (Sq l) sc) sc.text (conjunction (In l) (Sq l) sc a) (bytes "&") and_also ts us x y (record { kind = ampersand; spelling = refl; is_operator = refl }) a n i g
      (λ j s m h et. r a j i h ampersand s m et (refl, refl)) (λ m j h. q m n j h k2 s2 m2 et2 st2)

  conjunction_reads : (l : ℕ) (ts : List (List ℕ)) (c : Condition) → ReaderC D.conjunction l ts c → ReaderC D.condition l ts c
  unfolding condition
  conjunction_reads l ts c r a n i g k s m et st ea =
      chain_begins connect or_of (conjunction (In l) (Sq l) sc) sc.text c a n (spells_in normally sc.text a n ts i g).0 (loops_stop connect and_of (atom (In l) (Sq l) sc) sc.text (conjunction (In l) (Sq l) sc a) c a n (r a n i g k s m et st) k s m et ea)

  disjoined_reads : (l : ℕ) (ts us : List (List ℕ)) (x y : Condition) → ReaderC D.condition l ts x → ReaderC D.conjunction l us y → ReaderC D.condition l (ts ++ bytes "|" ∷ us) (either x y)
  unfolding and_of or_of product_of sum_of is kind_number connect
  disjoined_reads l ts us x y r q a n i g k2 s2 m2 et2 st2 ea2 =
      chain_joins connect or_of (conjunction (In l) (Sq l) sc) sc.text (condition (In l) (Sq l) sc a) (bytes "|") or_else ts us x y (record { kind = bar; spelling = refl; is_operator = refl }) a n i g
      (λ j s m h et. r a j i h bar s m et (refl, refl) refl)
      (λ m j h. loops_stop connect and_of (atom (In l) (Sq l) sc) sc.text (conjunction (In l) (Sq l) sc m) y m n (q m n j h k2 s2 m2 et2 st2) k2 s2 m2 et2 ea2)

  reads_c : (v : LevelC) (l : ℕ) (ts : List (List ℕ)) (c : Condition) → SpellsC (normals sc.names) v l ts c → UsableC sc.known c → ReaderC v l ts c
  reads_c v l ts c (D.SpellsC.compared w o us ws x y ps d f) u = compared_reads _ w o us ws x y ps (reads D.expression _ us x d u.0) (reads D.expression _ ws y f u.1)
  reads_c v l ts c (D.SpellsC.square us x d) u = square_reads _ us x (reads_c D.condition _ us x d u)
  reads_c v l ts c (not_square us x d) u = not_reads _ us x (reads_c D.condition _ us x d u)
  reads_c v l ts c (one_atom us x d) u = atom_reads _ us x (reads_c D.atom _ us x d u)
  reads_c v l ts c (conjoined us ws x y d f) u = conjoined_reads _ us ws x y (reads_c D.conjunction _ us x d u.0) (reads_c D.atom _ ws y f u.1)
  reads_c v l ts c (one_conjunction us x d) u = conjunction_reads _ us x (reads_c D.conjunction _ us x d u)
  reads_c v l ts c (disjoined us ws x y d f) u = disjoined_reads _ us ws x y (reads_c D.condition _ us x d u.0) (reads_c D.conjunction _ ws y f u.1)

  -- tokens that spell a condition and a `]` after it are read as a `[c]` of a rule form
  pub spelled_listed : (ts : List (List ℕ)) (c : Condition) → SpellsC (normals sc.names) D.condition bracket_limit ts c → UsableC sc.known c → (a n : ℕ) → a ≤ length sc.text → Spells normal sc.text a n (ts ++ bytes "]" ∷ []) → listed sc a ≡ accepted c n
  unfolding listed whole_condition square
  spelled_listed ts c d u a n i g = closing_reads bracket_limit ts c (reads_c D.condition bracket_limit ts c d u) 0 a n i g
