-- How far parsers read, and how much of an image what they accept makes: by the tokens that spell it. Assumes nothing.
use mathlib.Core.Path.{◌≡◌, refl, ◌∙◌, subst}
use mathlib.Core.List.{List, [], ◌∷◌, ◌++◌}
use Prim.Native.Nat.{ℕ, zero, suc, ◌+◌, ◌-◌, ◌*◌, ◌≤◌, ◌<◌}
use native.Mathlib.Omega.{arith}
use lib.ListN.{length, length-append, length-map}
use Rattle.limits.specs.Limits.{bracket_limit}
use Rattle.lexer.specs.Bytes.{bytes, part}
use Rattle.lexer.specs.Lexer.{token_at}
use Rattle.lexer.proofs.Laws.{cond_prop, token_at_moved}
use Rattle.semantics.specs.Program.{Expression, operation, negate, Condition, comparison, negated, both, either}
use Rattle.bytecode.specs.Instructions.{operation_code, comparison_code}
use Rattle.grammar.specs.Parsed.{Parsed, accepted, refused, Wanted, is_wanted, expected, phrase}
use Rattle.grammar.specs.Expressions.{Scope, primary, factor, term, expression, bracket, whole_expression}
use Rattle.grammar.specs.Conditions.{Connective, and_also, or_else, connect, connective_code, atom, conjunction, square, listed}
use Rattle.lexer.specs.Spelling.{IsDigits}
use Rattle.grammar.specs.Derivation.{Stands, Spells, Level, SpellsE, a_number, a_current, a_previous, brackets, plain, opposite, one_factor, product, one_term, sum, LevelC, SpellsC, not_square, one_atom, conjoined, one_conjunction, disjoined, normal, normals}
use Rattle.grammar.specs.Derivation as D
use Rattle.grammar.specs.Inner.Bytes.{bytes_e, bytes_c}
use Rattle.grammar.proofs.Combine.{token_prop, then_prop}
use Rattle.grammar.proofs.Bytes.{digits_bytes, id_bytes, place_in, part_length}
use Rattle.grammar.proofs.Standing.{is_read, stands_in, spells_in, View, normally}
use Rattle.grammar.proofs.Derived.{Derives, ScopedE, ScopedC, ClosedC, primary_derives, factor_derives, term_derives, expression_derives, bracket_derives, whole_expression_derives, atom_derives, conjunction_derives, square_derives, listed_scoped}
pub use Rattle.grammar.proofs.NotEnd.{operator_end, products_end, sums-end, ands-end, ors-end, comparisons-end, not_end}

-- an accepted part that starts at `at` has a byte at least, ends within the text, and twice its code's bytes are at most three times
-- its own, and one
abbrev pub Grown : {A : Type 0} → (A → List ℕ) → ℕ → ℕ → Parsed A → Type 0
Grown code len at (accepted e n) = (at < n) × (n ≤ len) × (2 * length (code e) + 3 * at ≤ 3 * n + 1)
Grown code len at (refused r q) = Unit {0}

-- an accepted part ends at or after where it begins, within the text
abbrev pub Kept : {A : Type 0} → ℕ → ℕ → Parsed A → Type 0
Kept len at (accepted e n) = (at ≤ n) × (n ≤ len)
Kept len at (refused r q) = Unit {0}

pub kept_later : {A : Type 0} (len at n : ℕ) (p : Parsed A) → at ≤ n → Kept len n p → Kept len at p
kept_later len at n (accepted e m) i g = (omega arith, g.1)
kept_later len at n (refused r q) i g = tt

-- ---- fixed tokens

module _ (text : List ℕ) where
  expected_kept : (w : Wanted) (at : ℕ) → at ≤ length text → Kept (length text) at (expected text w at)
  unfolding expected
  expected_kept w at h =
      token_prop (Kept (length text) at) (token_at text at) _ (λ r q. tt)
      (λ k s n et. let mv = token_at_moved text at k s n h et in cond_prop (Kept (length text) at) (is_wanted text w k s n) _ _ (λ e. (omega arith, mv.2)) (λ e. tt))

  pub phrase_kept : (ws : List Wanted) (at : ℕ) → at ≤ length text → Kept (length text) at (phrase text ws at)
  unfolding phrase
  phrase_kept [] at h = (omega arith, h)
  phrase_kept (w ∷ ws) at h =
      then_prop (Kept (length text) at) (expected text w at) _ (λ r q. tt)
      (λ u n e. let g = subst (Kept (length text) at) e (expected_kept w at h) in kept_later (length text) at n (phrase text ws n) g.0 (phrase_kept ws n g.1))

-- ---- the bytes of tokens

-- a token's bytes after its first
unfoldable pub later_bytes : List ℕ → ℕ
later_bytes [] = 0
later_bytes (b ∷ l) = length l

-- a token has a byte at least
abbrev pub bytes_of : List (List ℕ) → ℕ
bytes_of [] = 0
bytes_of (w ∷ ws) = suc (later_bytes w + bytes_of ws)

pub bytes_append : (ts us : List (List ℕ)) → bytes_of (ts ++ us) ≡ bytes_of ts + bytes_of us
bytes_append [] us = omega arith
bytes_append (t ∷ ts) us = omega (arith, bytes_append ts us)

pub token_bytes : (w : List ℕ) → 1 ≤ length w → suc (later_bytes w) ≡ length w
unfolding later_bytes
token_bytes [] h = absurd (omega arith)
token_bytes (b ∷ l) h = refl

stands_bytes : (v : View) (text : List ℕ) (a n : ℕ) (w : List ℕ) → a ≤ length text → Stands v.see text a n w → suc (later_bytes w) + a ≤ n
stands_bytes v text a n w h st =
    let mv = token_at_moved text a st.kind st.start n h (is_read st) in
    let l : length w ≡ n - st.start = subst (λ (x : List ℕ). length x ≡ n - st.start) st.spelled (v.sized (part text st.start n) ∙ part_length text st.start n mv.1 mv.2) in
    omega (arith, l, mv.0, token_bytes w (omega (arith, l)))

-- the tokens of a part of a text have no more bytes than it
pub spells_bytes : (v : View) (text : List ℕ) (a n : ℕ) (ts : List (List ℕ)) → a ≤ length text → Spells v.see text a n ts → bytes_of ts + a ≤ n
spells_bytes v text a n [] h g = omega (arith, g)
spells_bytes v text a n (t ∷ ts) h g =
    omega (arith, stands_bytes v text a g.0 t h g.1, spells_bytes v text g.0 n ts (stands_in v text a g.0 t h g.1).1 g.2)

-- ---- expressions and conditions

-- tokens have a byte at least, and twice the bytes of the code that they make are at most three times theirs, and one
abbrev pub Makes : {A : Type 0} → (A → List ℕ) → List (List ℕ) → A → Type 0
Makes code ts e = (1 ≤ bytes_of ts) × (2 * length (code e) ≤ 3 * bytes_of ts + 1)

-- two parts joined by a token make their code and an instruction
join_makes : {A B C : Type 0} (ca : A → List ℕ) (cb : B → List ℕ) (cc' : C → List ℕ) (x : A) (y : B) (z : C) (k : ℕ) (ts us : List (List ℕ)) (w : List ℕ) → cc' z ≡ ca x ++ (cb y ++ (k ∷ [])) → Makes ca ts x → Makes cb us y → Makes cc' (ts ++ w ∷ us) z
join_makes ca cb cc' x y z k ts us w e h g = let b = bytes_append ts (w ∷ us) in (omega (arith, b), rw e (simp length-append (omega (arith, b))))

-- a token before a part may make an instruction after it
before_makes : {A B : Type 0} (ca : A → List ℕ) (cb : B → List ℕ) (x : A) (z : B) (k : ℕ) (ts : List (List ℕ)) (w : List ℕ) → cb z ≡ ca x ++ (k ∷ []) → Makes ca ts x → Makes cb (w ∷ ts) z
before_makes ca cb x z k ts w e h = (omega arith, rw e (simp length-append (omega arith)))

-- brackets make nothing
bracket_makes : {A : Type 0} (code : A → List ℕ) (x : A) (ts : List (List ℕ)) (v w : List ℕ) → Makes code ts x → Makes code (v ∷ ts ++ w ∷ []) x
bracket_makes code x ts v w h = let b = bytes_append ts (w ∷ []) in (omega (arith, b), omega (arith, b))

pub digits_some : (w : List ℕ) → IsDigits w → 1 ≤ length w
digits_some [] d = absurd d
digits_some (b ∷ l) d = omega arith

pub connect_code : (o : Connective) (a b : Condition) → bytes_c (connect o a b) ≡ bytes_c a ++ (bytes_c b ++ (connective_code o ∷ []))
unfolding bytes_c connect
connect_code and_also a b = refl
connect_code or_else a b = refl

module _ (names : List (List ℕ)) (few : length names ≤ 64) where
  pub expression_makes : (v : Level) (l : ℕ) (ts : List (List ℕ)) (e : Expression) → SpellsE names v l ts e → Makes bytes_e ts e
  unfolding bytes_e
  expression_makes v l ts e (a_number w d h) = (omega arith, omega (arith, digits_bytes w (digits_some w d), token_bytes w (digits_some w d), digits_some w d))
  expression_makes v l ts e (a_current w i ei) = (omega arith, omega (arith, id_bytes i (omega (arith, place_in names i w ei))))
  expression_makes v l ts e (a_previous w i ei) = (omega arith, omega (arith, id_bytes i (omega (arith, place_in names i w ei))))
  expression_makes v l ts e (brackets us x d) = bracket_makes bytes_e x us _ _ (expression_makes D.expression _ us x d)
  expression_makes v l ts e (plain us x d) = expression_makes D.primary _ us x d
  expression_makes v l ts e (opposite us x d) = before_makes bytes_e bytes_e x (negate x) 9 us _ refl (expression_makes D.primary _ us x d)
  expression_makes v l ts e (one_factor us x d) = expression_makes D.factor _ us x d
  expression_makes v l ts e (product w o us ws x y ps d f) = join_makes bytes_e bytes_e bytes_e x y (operation o x y) (operation_code o) us ws w refl (expression_makes D.term _ us x d) (expression_makes D.factor _ ws y f)
  expression_makes v l ts e (one_term us x d) = expression_makes D.term _ us x d
  expression_makes v l ts e (sum w o us ws x y ps d f) = join_makes bytes_e bytes_e bytes_e x y (operation o x y) (operation_code o) us ws w refl (expression_makes D.expression _ us x d) (expression_makes D.term _ ws y f)

  pub condition_makes : (v : LevelC) (l : ℕ) (ts : List (List ℕ)) (c : Condition) → SpellsC names v l ts c → Makes bytes_c ts c
  unfolding bytes_c
  condition_makes v l ts c (D.SpellsC.compared w o us ws x y ps d f) = join_makes bytes_e bytes_e bytes_c x y (comparison o x y) (comparison_code o) us ws w refl (expression_makes D.expression _ us x d) (expression_makes D.expression _ ws y f)
  condition_makes v l ts c (D.SpellsC.square us x d) = bracket_makes bytes_c x us _ _ (condition_makes D.condition _ us x d)
  condition_makes v l ts c (not_square us x d) = before_makes bytes_c bytes_c x (negated x) 16 (bytes "[" ∷ us ++ bytes "]" ∷ []) (bytes "~") refl (bracket_makes bytes_c x us (bytes "[") (bytes "]") (condition_makes D.condition _ us x d))
  condition_makes v l ts c (one_atom us x d) = condition_makes D.atom _ us x d
  condition_makes v l ts c (conjoined us ws x y d f) = join_makes bytes_c bytes_c bytes_c x y (both x y) 17 us ws _ refl (condition_makes D.conjunction _ us x d) (condition_makes D.atom _ ws y f)
  condition_makes v l ts c (one_conjunction us x d) = condition_makes D.conjunction _ us x d
  condition_makes v l ts c (disjoined us ws x y d f) = join_makes bytes_c bytes_c bytes_c x y (either x y) 18 us ws _ refl (condition_makes D.condition _ us x d) (condition_makes D.conjunction _ ws y f)

-- ---- what is accepted

-- tokens from n on that make a part, with nothing before them from `at` on that is no token of the text
grown_by : {A : Type 0} (R : List (List ℕ) → A → Type 0) (code : A → List ℕ) → ((ts : List (List ℕ)) (x : A) → R ts x → Makes code ts x) → (text : List ℕ) (at n : ℕ) → at ≤ n → n ≤ length text → (p : Parsed A) → Derives normally text R n p → Grown code (length text) at p
grown_by R code f text at n i h (accepted x m) d =
    let g = f d.tokens x d.derives in
    let b = spells_bytes normally text n m d.tokens h d.spells in
    (omega (arith, b, g.0), (spells_in normally text n m d.tokens h d.spells).1, omega (arith, b, g.1))
grown_by R code f text at n i h (refused k q) d = tt

module _ (sc : Scope) (few : length sc.names ≤ 64) where
  few2 : length (normals sc.names) ≤ 64
  few2 = omega (arith, few, length-map sc.names normal)

  abbrev pub Reads : {A : Type 0} → (A → List ℕ) → (ℕ → Parsed A) → Type 0
  Reads code p = (at : ℕ) → at ≤ length sc.text → Grown code (length sc.text) at (p at)

  abbrev inner : ℕ → ℕ → ℕ → Parsed Expression
  inner left s n = bracket left sc s n

  abbrev inside : ℕ → ℕ → ℕ → Parsed Condition
  inside left s n = square left sc s n

  grown_e : (v : Level) (left at : ℕ) (p : Parsed Expression) → at ≤ length sc.text → Derives normally sc.text (ScopedE sc v left) at p → Grown bytes_e (length sc.text) at p
  grown_e v left at p h d = grown_by (ScopedE sc v left) bytes_e (λ ts e d. expression_makes (normals sc.names) few2 v left ts e d.0) sc.text at at (omega arith) h p d

  grown_c : (v : LevelC) (left at : ℕ) (p : Parsed Condition) → at ≤ length sc.text → Derives normally sc.text (ScopedC sc v left) at p → Grown bytes_c (length sc.text) at p
  grown_c v left at p h d = grown_by (ScopedC sc v left) bytes_c (λ ts c d. condition_makes (normals sc.names) few2 v left ts c d.0) sc.text at at (omega arith) h p d

  pub primary_grown : (left : ℕ) → Reads bytes_e (λ at. primary (inner left) sc at)
  primary_grown left at h = grown_e D.primary left at (primary (inner left) sc at) h (primary_derives sc left (inner left) (bracket_derives sc left) at h)

  pub factor_grown : (left : ℕ) → Reads bytes_e (λ at. factor (inner left) sc at)
  factor_grown left at h = grown_e D.factor left at (factor (inner left) sc at) h (factor_derives sc left (inner left) (bracket_derives sc left) at h)

  pub term_grown : (left : ℕ) → Reads bytes_e (λ at. term (inner left) sc at)
  term_grown left at h = grown_e D.term left at (term (inner left) sc at) h (term_derives sc left (inner left) (bracket_derives sc left) at h)

  pub expression_grown : (left : ℕ) → Reads bytes_e (λ at. expression (inner left) sc at)
  expression_grown left at h = grown_e D.expression left at (expression (inner left) sc at) h (expression_derives sc left (inner left) (bracket_derives sc left) at h)

  pub whole_expression_grown : Reads bytes_e (λ at. whole_expression sc at)
  whole_expression_grown at h = grown_e D.expression bracket_limit at (whole_expression sc at) h (whole_expression_derives sc at h)

  pub atom_grown : (left : ℕ) → Reads bytes_c (λ at. atom (inner left) (inside left) sc at)
  atom_grown left at h = grown_c D.atom left at (atom (inner left) (inside left) sc at) h (atom_derives sc left (inner left) (bracket_derives sc left) (inside left) (square_derives sc left) at h)

  pub conjunction_grown : (left : ℕ) → Reads bytes_c (λ at. conjunction (inner left) (inside left) sc at)
  conjunction_grown left at h = grown_c D.conjunction left at (conjunction (inner left) (inside left) sc at) h (conjunction_derives sc left (inner left) (bracket_derives sc left) (inside left) (square_derives sc left) at h)

  -- the `]` after a condition makes nothing
  closed_makes : (left : ℕ) (ts : List (List ℕ)) (c : Condition) → ClosedC sc left ts c → Makes bytes_c ts c
  closed_makes zero ts c d = absurd d
  closed_makes (suc left) ts c d =
      let g = condition_makes (normals sc.names) few2 D.condition left d.inner c d.derives.0 in
      let b = bytes_append d.inner (bytes "]" ∷ []) in
      rw d.is_closed (omega (arith, b, g.0), omega (arith, b, g.1))

  pub square_grown : (left s n : ℕ) → s < n → n ≤ length sc.text → Grown bytes_c (length sc.text) s (square left sc s n)
  square_grown left s n i h = grown_by (ClosedC sc left) bytes_c (closed_makes left) sc.text s n (omega arith) h (square left sc s n) (square_derives sc left s n h)

  pub listed_grown : Reads bytes_c (λ at. listed sc at)
  listed_grown at h = grown_by (ClosedC sc (suc bracket_limit)) bytes_c (closed_makes (suc bracket_limit)) sc.text at at (omega arith) h (listed sc at) (listed_scoped sc at h)
