-- The round brackets of expressions, conditions and their lists close in pairs. So a no-change list that reads as a list of conditions and
-- its `)` agrees with the first list just up to that `)`, or differs from it before. Assumes nothing.
use mathlib.Core.Path.{◌≡◌, refl, ap, ◌∙◌}
use mathlib.Core.List.{List, [], ◌∷◌, ◌++◌}
use mathlib.Core.Bool.{cond}
use mathlib.Core.Option.{Option, none, some}
use Prim.Native.Nat.{ℕ, zero, suc}
use native.Mathlib.Omega.{arith}
use Rattle.arith.specs.Values.{Operation, Comparison}
use Rattle.semantics.specs.Program.{Expression, Condition, Case}
use Rattle.lexer.specs.Bytes.{bytes, same_bytes}
use Rattle.lexer.specs.Token.{Kind, kind_number, name, previous, digits, open_round, close_round}
use Rattle.lexer.proofs.Laws.{cond_prop}
use Rattle.lexer.proofs.Same.{same_bytes_lem}
use Rattle.grammar.specs.Derivation as D
use Rattle.lexer.specs.Spelling.{IsDigits, Spelling}
use Rattle.grammar.specs.Derivation.{Tokens, IsName, SumSign, ProductSign, ComparisonSign, Level, LevelC, SpellsE, a_number, a_current, a_previous, brackets, plain, opposite, one_factor, product, one_term, sum, SpellsC, compared, square, not_square, one_atom, conjoined, one_conjunction, disjoined, normals}
use Rattle.grammar.specs.Spelled.{squared, SpellsCases, one_case, more_cases}
use Rattle.grammar.specs.Inner.Names.{Named}
use Rattle.lexer.proofs.Spellings.{one_kind}
use Rattle.grammar.proofs.Normal.{each_normal}

-- ---- open brackets

abbrev down : ℕ → Option ℕ
down zero = none
down (suc d) = some d

-- how many round brackets are open depth_then a token; none if it closes one that is not open
abbrev pub depth_by : List ℕ → ℕ → Option ℕ
depth_by w d = cond (same_bytes w (bytes "(")) (some (suc d)) (cond (same_bytes w (bytes ")")) (down d) (some d))

abbrev pub depth_then : Option ℕ → (ℕ → Option ℕ) → Option ℕ
depth_then none f = none
depth_then (some d) f = f d

abbrev pub depth : Tokens → ℕ → Option ℕ
depth [] d = some d
depth (w ∷ ts) d = depth_then (depth_by w d) (λ e. depth ts e)

abbrev pub Balanced : Tokens → Type 0
Balanced ts = (d : ℕ) → depth ts d ≡ some d

pub depth_append : (ts us : Tokens) (d : ℕ) → depth (ts ++ us) d ≡ depth_then (depth ts d) (λ e. depth us e)
depth_append [] us d = refl
depth_append (w ∷ ts) us d = go (depth_by w d) (λ e. depth_append ts us e)
  where
    go : (o : Option ℕ) → ((e : ℕ) → depth (ts ++ us) e ≡ depth_then (depth ts e) (λ e. depth us e)) → depth_then o (λ e. depth (ts ++ us) e) ≡ depth_then (depth_then o (λ e. depth ts e)) (λ e. depth us e)
    go none h = refl
    go (some e) h = h e

-- a token that is no round bracket
other_kind : (k : Kind) (w : List ℕ) → Spelling k w → (k ≡ open_round → ⊥) → (k ≡ close_round → ⊥) → (d : ℕ) → depth_by w d ≡ some d
other_kind k w h f g d =
    cond_prop (λ (o : Option ℕ). o ≡ some d) (same_bytes w (bytes "(")) _ _ (λ e. absurd (f (one_kind k open_round w h (same_bytes_lem w (bytes "(") e))))
    (λ e. cond_prop (λ (o : Option ℕ). o ≡ some d) (same_bytes w (bytes ")")) _ _ (λ e2. absurd (g (one_kind k close_round w h (same_bytes_lem w (bytes ")") e2)))) (λ e2. refl))

kinds_differ : (a b : Kind) → (kind_number a ≡ kind_number b → ⊥) → a ≡ b → ⊥
kinds_differ a b h e = h (ap kind_number e)

name_other : (w : List ℕ) → IsName w → (d : ℕ) → depth_by w d ≡ some d
unfolding kind_number
name_other w h d = other_kind name w (record { is_word = h.is_word; no_word = h.no_word }) (kinds_differ name open_round (λ e. omega (arith, e))) (kinds_differ name close_round (λ e. omega (arith, e))) d

digits_other : (w : List ℕ) → IsDigits w → (d : ℕ) → depth_by w d ≡ some d
unfolding kind_number
digits_other w h d = other_kind digits w h (kinds_differ digits open_round (λ e. omega (arith, e))) (kinds_differ digits close_round (λ e. omega (arith, e))) d

previous_other : (w : List ℕ) → IsName w → (d : ℕ) → depth_by (bytes "_" ++ w) d ≡ some d
unfolding kind_number
previous_other w h d =
    other_kind previous (95 ∷ w) (record { rest = w; is_cons = refl; is_name = record { is_word = h.is_word; no_word = h.no_word } }) (kinds_differ previous open_round (λ e. omega (arith, e))) (kinds_differ previous close_round (λ e. omega (arith, e))) d

-- ---- balanced tokens

one_balanced : (w : List ℕ) → ((d : ℕ) → depth_by w d ≡ some d) → Balanced (w ∷ [])
one_balanced w h d = rw (h d)

joined_balanced : (w : List ℕ) (ts us : Tokens) → ((d : ℕ) → depth_by w d ≡ some d) → Balanced ts → Balanced us → Balanced (ts ++ w ∷ us)
joined_balanced w ts us h f g d = depth_append ts (w ∷ us) d ∙ rw (f d, h d) (g d)

round_balanced : (ts : Tokens) → Balanced ts → Balanced (bytes "(" ∷ ts ++ bytes ")" ∷ [])
unfolding same_bytes
round_balanced ts f d = depth_append ts (bytes ")" ∷ []) (suc d) ∙ rw (f (suc d))

square_balanced : (ts : Tokens) → Balanced ts → Balanced (bytes "[" ∷ ts ++ bytes "]" ∷ [])
unfolding same_bytes
square_balanced ts f d = depth_append ts (bytes "]" ∷ []) d ∙ rw (f d)

sum_other : (w : List ℕ) (o : Operation) → SumSign w o → (d : ℕ) → depth_by w d ≡ some d
unfolding same_bytes
sum_other w o D.plus d = refl
sum_other w o D.minus d = refl

product_other : (w : List ℕ) (o : Operation) → ProductSign w o → (d : ℕ) → depth_by w d ≡ some d
unfolding same_bytes
product_other w o D.times d = refl
product_other w o D.over d = refl
product_other w o D.modulus d = refl

comparison_other : (w : List ℕ) (o : Comparison) → ComparisonSign w o → (d : ℕ) → depth_by w d ≡ some d
unfolding same_bytes
comparison_other w o D.equals d = refl
comparison_other w o D.differs d = refl
comparison_other w o D.below d = refl
comparison_other w o D.at_most d = refl
comparison_other w o D.above d = refl
comparison_other w o D.at_least d = refl

minus_balanced : (ts : Tokens) → Balanced ts → Balanced (bytes "-" ∷ ts)
unfolding same_bytes
minus_balanced ts f d = f d

tilde-balanced : (ts : Tokens) → Balanced ts → Balanced (bytes "~" ∷ ts)
unfolding same_bytes
tilde-balanced ts f d = f d

and-other : (d : ℕ) → depth_by (bytes "&") d ≡ some d
unfolding same_bytes
and-other d = refl

or-other : (d : ℕ) → depth_by (bytes "|") d ≡ some d
unfolding same_bytes
or-other d = refl

module _ (names : List (List ℕ)) (good : Named names) where
  balanced_e : (v : Level) (l : ℕ) (ts : Tokens) (e : Expression) → SpellsE (normals names) v l ts e → Balanced ts
  balanced_e v l ts e (a_number w h g) = one_balanced w (digits_other w h)
  balanced_e v l ts e (a_current w i h) = one_balanced w (name_other w (each_normal names good i w h))
  balanced_e v l ts e (a_previous w i h) = one_balanced (bytes "_" ++ w) (previous_other w (each_normal names good i w h))
  balanced_e v l ts e (brackets us x d) = round_balanced us (balanced_e _ _ us x d)
  balanced_e v l ts e (plain us x d) = balanced_e _ _ us x d
  balanced_e v l ts e (opposite us x d) = minus_balanced us (balanced_e _ _ us x d)
  balanced_e v l ts e (one_factor us x d) = balanced_e _ _ us x d
  balanced_e v l ts e (product w o us vs a b g c d) = joined_balanced w us vs (product_other w o g) (balanced_e _ _ us a c) (balanced_e _ _ vs b d)
  balanced_e v l ts e (one_term us x d) = balanced_e _ _ us x d
  balanced_e v l ts e (sum w o us vs a b g c d) = joined_balanced w us vs (sum_other w o g) (balanced_e _ _ us a c) (balanced_e _ _ vs b d)

  balanced_c : (v : LevelC) (l : ℕ) (ts : Tokens) (c : Condition) → SpellsC (normals names) v l ts c → Balanced ts
  balanced_c v l ts e (compared w o us vs a b g c d) = joined_balanced w us vs (comparison_other w o g) (balanced_e _ _ us a c) (balanced_e _ _ vs b d)
  balanced_c v l ts e (square us x d) = square_balanced us (balanced_c _ _ us x d)
  balanced_c v l ts e (not_square us x d) = tilde-balanced (bytes "[" ∷ us ++ bytes "]" ∷ []) (square_balanced us (balanced_c _ _ us x d))
  balanced_c v l ts e (one_atom us x d) = balanced_c _ _ us x d
  balanced_c v l ts e (conjoined us vs a b c d) = joined_balanced (bytes "&") us vs and-other (balanced_c _ _ us a c) (balanced_c _ _ vs b d)
  balanced_c v l ts e (one_conjunction us x d) = balanced_c _ _ us x d
  balanced_c v l ts e (disjoined us vs a b c d) = joined_balanced (bytes "|") us vs or-other (balanced_c _ _ us a c) (balanced_c _ _ vs b d)

  pub balanced_squared : (l : ℕ) (ts : Tokens) (c : Condition) → SpellsC (normals names) D.condition l ts c → Balanced (squared ts)
  balanced_squared l ts c d = square_balanced ts (balanced_c _ _ ts c d)

  pub balanced_more : (ts us : Tokens) → Balanced ts → Balanced us → Balanced (ts ++ bytes "|" ∷ us)
  balanced_more ts us f g = joined_balanced (bytes "|") ts us or-other f g

  pub balanced_cases : (v : List ℕ) (ts ls : Tokens) (ks : List Case) → SpellsCases (normals names) v ts ls ks → Balanced ls
  balanced_cases v ts ls ks (one_case us vs k s c e) = balanced_squared _ us _ c
  balanced_cases v ts ls ks (more_cases us vs ws ms k js s c e r) = balanced_more (squared us) ms (balanced_squared _ us _ c) (balanced_cases v ws ms js r)
