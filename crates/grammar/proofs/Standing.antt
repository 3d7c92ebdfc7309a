-- Tokens that stand in a text: from what is read to the tokens listed, and back. Assumes nothing.
use mathlib.Core.Path.{◌≡◌, refl, ap, sym, ◌∙◌, subst}
use mathlib.Core.List.{List, [], ◌∷◌, ◌++◌, append_assoc}
use mathlib.Core.Bool.{true, cond}
use mathlib.Core.Option.{Option, none, some}
use Prim.Native.Nat.{ℕ, ◌≤◌, ◌<◌}
use native.Mathlib.Omega.{arith}
use lib.ListN.{length}
use Rattle.lexer.specs.Bytes.{bytes, part, capitals}
use Rattle.lexer.specs.Token.{Kind, ending, is, TokenRead, token}
use Rattle.lexer.specs.Token as T
use Rattle.lexer.specs.Spelling.{SpellsName, Spelling, TokenFrom, Separated, FirstRead, a_token, the_end, no_token_lem}
use Rattle.lexer.specs.Lexer.{token_at, same_name}
use Rattle.lexer.proofs.Laws.{cond_prop, token_at_moved}
use Rattle.lexer.proofs.Same.{same_kind, same_name_lem, names_same}
use Rattle.lexer.proofs.Capitals.{capitals_twice}
use Rattle.lexer.proofs.Longest.{tokens_exactly}
use Rattle.arith.specs.Values.{Operation, add, subtract, multiply, divide, modulo, Comparison, equal, not_equal, less, less_equal, greater, greater_equal}
use Rattle.grammar.specs.Expressions.{product_of, sum_of}
use Rattle.grammar.specs.Conditions.{comparison_by}
use Rattle.grammar.specs.Derivation.{as_written, normal, Stands, Spells, SumSign, ProductSign, ComparisonSign}
use Rattle.grammar.specs.Derivation as D
use Rattle.lexer.proofs.Spellings.{token_spelled, one_kind}
use Rattle.grammar.proofs.Distinct.{same_itself}
use Rattle.grammar.proofs.Normal.{normal_length, normal_spelled, normal_twice, previous-seen, name-seen}

-- ---- ways of seeing a token

pub record View : Type 0 where
  pub see : List ℕ → List ℕ
  -- tokens keep their kind and length
  pub kept : (k : Kind) (w : List ℕ) → Spelling k w → Spelling k (see w)
  pub sized : (w : List ℕ) → length (see w) ≡ length w
  -- `_` stays
  pub behind : (u : List ℕ) → SpellsName u → see (bytes "_" ++ u) ≡ bytes "_" ++ see u
  -- a name is the same as what is seen of it
  pub alike : (u w : List ℕ) → SpellsName u → see u ≡ w → same_name w u ≡ true

abbrev pub written : View
written = record { see = as_written; kept = λ k w h. h; sized = λ w. refl; behind = λ u h. refl; alike = λ u w h e. subst (λ (x : List ℕ). same_name w x ≡ true) (sym e) (same_itself w) }

abbrev pub normally : View
normally = record { see = normal; kept = normal_spelled; sized = normal_length; behind = previous-seen; alike = λ u w h e. names_same w u (subst (λ (x : List ℕ). capitals x ≡ capitals u) e (normal_twice u h)) }

-- what is seen of each name that is the same as w
abbrev pub Seen : View → List ℕ → Type 0
Seen v w = (u : List ℕ) → SpellsName u → same_name w u ≡ true → v.see u ≡ w

pub seen_capitals : (x : List ℕ) → Seen normally (capitals x)
seen_capitals x u g e = name-seen u g ∙ (sym (same_name_lem (capitals x) u e) ∙ capitals_twice x)

-- ---- what stands is what is read

-- a token that stands is read
pub is_read : {see : List ℕ → List ℕ} {text : List ℕ} {a n : ℕ} {w : List ℕ} (st : Stands see text a n w) → token_at text a ≡ token st.kind st.start n
is_read {see} {text} {a} {n} st = tokens_exactly.only text a _ (a_token st.kind st.start n st.separated st.is_token)

module _ (text : List ℕ) where
  first_token : (a : ℕ) (k : Kind) (s n : ℕ) (r : TokenRead) → FirstRead text a r → r ≡ token k s n → s < n → Separated text a s × TokenFrom text s n k
  first_token a k s n r (a_token j p m sep t) e l =
      let i : j ≡ k = cc in
      let q : p ≡ s = cc in
      let o : m ≡ n = cc in
      (subst (Separated text a) q sep, subst (λ (x : Kind). TokenFrom text s n x) i (subst (λ (x : ℕ). TokenFrom text s x j) o (subst (λ (x : ℕ). TokenFrom text x m j) q t)))
  first_token a k s n r (the_end sep) e l = let q : length text ≡ s = cc in let o : length text ≡ n = cc in absurd (omega arith)
  first_token a k s n r (no_token_lem p sep l2 f g) e l = let z : ◌≡◌ {A = ℕ} 0 1 = cc in absurd (omega arith)

  -- the end of the text is read where only space is left
  pub end_read : (a : ℕ) → Separated text a (length text) → token_at text a ≡ token ending (length text) (length text)
  end_read a sep = tokens_exactly.only text a _ (the_end sep)

  end_first : (a s n : ℕ) (r : TokenRead) → FirstRead text a r → r ≡ token ending s n → Separated text a (length text)
  end_first a s n r (a_token j p m sep t) e = let i : j ≡ ending = cc in absurd (subst (λ (x : Kind). Spelling x (part text p m)) i t.spells)
  end_first a s n r (the_end sep) e = sep
  end_first a s n r (no_token_lem p sep l2 f g) e = let z : ◌≡◌ {A = ℕ} 0 1 = cc in absurd (omega arith)

  pub end_separated : (a s n : ℕ) → a ≤ length text → token_at text a ≡ token ending s n → Separated text a (length text)
  end_separated a s n h e = end_first a s n (token_at text a) (tokens_exactly.reads text a h) e

module _ (v : View) (text : List ℕ) where
  -- a token that is read, and has a byte, stands there
  pub stands_read : (a : ℕ) (k : Kind) (s n : ℕ) → a ≤ length text → s < n → token_at text a ≡ token k s n → (w : List ℕ) → v.see (part text s n) ≡ w → Stands v.see text a n w
  stands_read a k s n h l e w q =
      let f = first_token text a k s n (token_at text a) (tokens_exactly.reads text a h) e l in
      record { kind = k; start = s; separated = f.0; is_token = f.1; spelled = q }

  -- a token that is read, and is not the end, stands there
  pub stands : (a : ℕ) (k : Kind) (s n : ℕ) → a ≤ length text → (k ≡ ending → ⊥) → token_at text a ≡ token k s n → Stands v.see text a n (v.see (part text s n))
  stands a k s n h ne e = stands_read a k s n h ((token_at_moved text a k s n h e).3 ne) e (v.see (part text s n)) refl

  pub stands_spelled : (a : ℕ) (k : Kind) (s n : ℕ) → a ≤ length text → (k ≡ ending → ⊥) → token_at text a ≡ token k s n → Spelling k (v.see (part text s n))
  stands_spelled a k s n h ne e = v.kept k (part text s n) (token_spelled text a k s n h ((token_at_moved text a k s n h e).3 ne) e)

  pub stands_kind : (a n : ℕ) (w : List ℕ) → a ≤ length text → (st : Stands v.see text a n w) → Spelling st.kind w
  stands_kind a n w h st = subst (Spelling st.kind) st.spelled (v.kept st.kind (part text st.start n) st.is_token.spells)

  -- ... and so is its part of the text
  pub stands_raw : (k : Kind) (w : List ℕ) → Spelling k w → (a n : ℕ) → a ≤ length text → (st : Stands v.see text a n w) → Spelling k (part text st.start n)
  stands_raw k w sp a n h st = subst (λ (x : Kind). Spelling x (part text st.start n)) (one_kind st.kind k w (stands_kind a n w h st) sp) st.is_token.spells

  -- a token whose spelling is of a kind is read as one of that kind
  pub at_kind : (k : Kind) (w : List ℕ) → Spelling k w → (a n : ℕ) → a ≤ length text → (st : Stands v.see text a n w) → token_at text a ≡ token k st.start n
  at_kind k w sp a n h st = is_read st ∙ ap (λ (x : Kind). token x st.start n) (one_kind st.kind k w (stands_kind a n w h st) sp)

  -- ---- lists of tokens

  pub spells_append : (a b c : ℕ) (ts us : List (List ℕ)) → Spells v.see text a b ts → Spells v.see text b c us → Spells v.see text a c (ts ++ us)
  spells_append a b c [] us h g = subst (λ (x : ℕ). Spells v.see text x c us) (sym h) g
  spells_append a b c (t ∷ ts) us h g = (h.0, h.1, spells_append h.0 b c ts us h.2 g)

  pub spells_append_left : (a b c : ℕ) (ts us vs : List (List ℕ)) → Spells v.see text a b ts → Spells v.see text b c (us ++ vs) → Spells v.see text a c (ts ++ us ++ vs)
  spells_append_left a b c ts us vs h g = subst (Spells v.see text a c) (sym (append_assoc ts us vs)) (spells_append a b c ts (us ++ vs) h g)

  -- a list of tokens in two parts stands in two parts
  pub record Split (a n : ℕ) (ts us : List (List ℕ)) : Type 0 where
    pub place : ℕ
    pub first : Spells v.see text a place ts
    pub second : Spells v.see text place n us

  pub split : (a n : ℕ) (ts us : List (List ℕ)) → Spells v.see text a n (ts ++ us) → Split a n ts us
  split a n [] us h = record { place = a; first = refl; second = h }
  split a n (t ∷ ts) us h =
      let r = split h.0 n ts us h.2 in
      record { place = r.place; first = (h.0, h.1, r.first); second = r.second }

  pub stands_in : (a n : ℕ) (w : List ℕ) → a ≤ length text → Stands v.see text a n w → (a < n) × (n ≤ length text)
  stands_in a n w h st =
      (omega (arith, st.separated.ordered), st.is_token.within)

  -- tokens stand within the text
  pub spells_in : (a n : ℕ) (ts : List (List ℕ)) → a ≤ length text → Spells v.see text a n ts → (a ≤ n) × (n ≤ length text)
  spells_in a n [] h g = (omega (arith, g), subst (λ (x : ℕ). x ≤ length text) g h)
  spells_in a n (t ∷ ts) h g =
      let mv = stands_in a g.0 t h g.1 in
      let r = spells_in g.0 n ts mv.1 g.2 in
      (omega (arith, mv.0, r.0), r.1)

-- ---- signs of operations

module _ (k : Kind) (w : List ℕ) (sp : Spelling k w) where
  told : (v : Kind) → is k v ≡ true → Spelling v w
  told v e = subst (λ (x : Kind). Spelling x w) (same_kind k v e) sp

  pub product_sign : (o : Operation) → product_of k ≡ some o → ProductSign w o
  unfolding product_of
  product_sign o =
      cond_prop P (is k T.star) _ _ (λ e h. let q : multiply ≡ o = cc in rw (told T.star e, ← q) D.times)
      (λ n. cond_prop P (is k T.slash) _ _ (λ e h. let q : divide ≡ o = cc in rw (told T.slash e, ← q) D.over)
      (λ n. cond_prop P (is k T.mod_word) _ _ (λ e h. let q : modulo ≡ o = cc in rw (told T.mod_word e, ← q) D.modulus)
      (λ n h. let z : ◌≡◌ {A = ℕ} 0 1 = cc in absurd (omega arith))))
    where
      P : Option Operation → Type 0
      P x = x ≡ some o → ProductSign w o

  pub sum_sign : (o : Operation) → sum_of k ≡ some o → SumSign w o
  unfolding sum_of
  sum_sign o =
      cond_prop P (is k T.plus) _ _ (λ e h. let q : add ≡ o = cc in rw (told T.plus e, ← q) D.plus)
      (λ n. cond_prop P (is k T.minus) _ _ (λ e h. let q : subtract ≡ o = cc in rw (told T.minus e, ← q) D.minus)
      (λ n h. let z : ◌≡◌ {A = ℕ} 0 1 = cc in absurd (omega arith)))
    where
      P : Option Operation → Type 0
      P x = x ≡ some o → SumSign w o

  pub comparison_sign : (o : Comparison) → comparison_by k ≡ some o → ComparisonSign w o
  unfolding comparison_by
  comparison_sign o =
      cond_prop P (is k T.equals) _ _ (λ e h. let q : equal ≡ o = cc in rw (told T.equals e, ← q) D.equals)
      (λ n. cond_prop P (is k T.not_equal) _ _ (λ e h. let q : not_equal ≡ o = cc in rw (told T.not_equal e, ← q) D.differs)
      (λ n. cond_prop P (is k T.less) _ _ (λ e h. let q : less ≡ o = cc in rw (told T.less e, ← q) D.below)
      (λ n. cond_prop P (is k T.less_equal) _ _ (λ e h. let q : less_equal ≡ o = cc in rw (told T.less_equal e, ← q) D.at_most)
      (λ n. cond_prop P (is k T.greater) _ _ (λ e h. let q : greater ≡ o = cc in rw (told T.greater e, ← q) D.above)
      (λ n. cond_prop P (is k T.greater_equal) _ _ (λ e h. let q : greater_equal ≡ o = cc in rw (told T.greater_equal e, ← q) D.at_least)
      (λ n h. let z : ◌≡◌ {A = ℕ} 0 1 = cc in absurd (omega arith)))))))
    where
      P : Option Comparison → Type 0
      P x = x ≡ some o → ComparisonSign w o

  -- the sign of the kind v, where no other is an operator
  pub only_sign : {O : Type 0} (v : Kind) (c o : O) → cond (is k v) (some c) none ≡ some o → Spelling v w × (c ≡ o)
  only_sign {O} v c o = cond_prop (λ (x : Option O). x ≡ some o → Spelling v w × (c ≡ o)) (is k v) _ _ (λ e h. (told v e, cc)) (λ n h. let z : ◌≡◌ {A = ℕ} 0 1 = cc in absurd (omega arith))
