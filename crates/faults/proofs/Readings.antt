-- What a parser accepts ends where reading token by token comes to; what it refuses it refuses at what is read there: by 1 what is no
-- token, by 2 to 8, 23 or 30, a token or the end. One law a combinator. Here: expressions and conditions. Assumes nothing.
use mathlib.Core.Path.{◌≡◌, refl}
use mathlib.Core.List.{List, [], ◌∷◌}
use mathlib.Core.Bool.{Bool, true, false, cond}
use mathlib.Core.Option.{Option, none, some}
use Prim.Native.Nat.{ℕ, zero, suc, ◌+◌, ◌≤◌}
use native.Mathlib.Omega.{arith}
use lib.ListN.{length, get_or}
use lib.Dec.{ltb}
use Rattle.limits.specs.Limits.{bracket_limit, number_limit}
use Rattle.lexer.specs.Bytes.{part}
use Rattle.lexer.specs.Token.{Kind, name, digits, open_round, open_square, tilde, minus, is, TokenRead, token, fault}
use Rattle.lexer.specs.Token as T
use Rattle.lexer.specs.Lexer.{token_at, over_long, value_of}
use Rattle.lexer.specs.Names.{id_of}
use Rattle.semantics.specs.Program.{Expression, Condition, operation}
use Rattle.grammar.specs.Parsed.{Parsed, accepted, refused, and_then, on_token, on_option, Wanted, is_wanted, expected, phrase, followed, rest, chain}
use Rattle.grammar.specs.Expressions.{Scope, with_id, current_at, previous_value_at, constant_at, primary, negative, factor, product_of, sum_of, term, expression, bracket, whole_expression}
use Rattle.grammar.specs.Conditions.{comparison_by, compared, comparison_at, opposite, inverted, atom, connect, and_of, or_of, conjunction, condition, square, whole_condition, listed}
use Rattle.faults.proofs.Reaching as Reach
use Rattle.faults.proofs.Reaching.{Reaches, joined, reaches_within}

-- the refusal of what is read
abbrev pub RefusalOf : ℕ → ℕ → TokenRead → Type 0
RefusalOf number place (token k s n) = (2 ≤ number) × (number ≡ 9 → ⊥) × (s ≡ place)
RefusalOf number place (fault p) = (number ≡ 1) × (p ≡ place)

-- reading comes from a place to what is refused
abbrev pub RefusedFrom : List ℕ → ℕ → ℕ → ℕ → Type 0
RefusedFrom text at number place = (b : ℕ) × Reaches text at b × RefusalOf number place (token_at text b)

abbrev FoundFrom : {A : Type 0} → List ℕ → ℕ → Parsed A → Type 0
FoundFrom text at (accepted a n) = Reaches text at n
FoundFrom text at (refused number place) = RefusedFrom text at number place

pub record ReadsFrom {A : Type 0} (text : List ℕ) (at : ℕ) (r : Parsed A) : Type 0 where
  pub found : FoundFrom text at r

-- ---- combinators

pub ends_at : {A : Type 0} {text : List ℕ} {at n : ℕ} (a : A) → Reaches text at n → ReadsFrom text at (accepted a n)
ends_at a c = record { found = c }

pub past : {A : Type 0} {text : List ℕ} {at n : ℕ} {k : Kind} {s : ℕ} (a : A) → token_at text at ≡ token k s n → ReadsFrom text at (accepted a n)
past {k = k} {s = s} a e = record { found = Reach.more k s _ e Reach.none }

-- what is accepted ends within the text
pub read_within : {A : Type 0} {text : List ℕ} {at n : ℕ} {a : A} {r : Parsed A} → ReadsFrom text at r → r ≡ accepted a n → at ≤ length text → n ≤ length text
read_within {text = text} h e l = reaches_within text l (rw e at h).found

pub behind : {A : Type 0} {text : List ℕ} {at n : ℕ} {r : Parsed A} → Reaches text at n → ReadsFrom text n r → ReadsFrom text at r
behind {text = text} {r = accepted b m} h q = record { found = joined text h q.found }
behind {text = text} {r = refused number place} h q = record { found = (q.found.0, joined text h q.found.1, q.found.2) }

pub step : {A : Type 0} {text : List ℕ} {at n : ℕ} {k : Kind} {s : ℕ} {r : Parsed A} → token_at text at ≡ token k s n → ReadsFrom text n r → ReadsFrom text at r
step {k = k} {s = s} e h = behind (Reach.more k s _ e Reach.none) h

pub here : {A : Type 0} {text : List ℕ} {at n : ℕ} {k : Kind} {s : ℕ} (number : ℕ) → token_at text at ≡ token k s n → 2 ≤ number → number ≤ 8 → ReadsFrom {A = A} text at (refused number s)
here {at = at} number e h g = record { found = (at, Reach.none, rw e (h, λ z. omega (arith, g, z), refl)) }

-- a wrong w of a timer, a 17th watch
pub above_nine : {A : Type 0} {text : List ℕ} {at n : ℕ} {k : Kind} {s : ℕ} (number : ℕ) → token_at text at ≡ token k s n → 10 ≤ number → ReadsFrom {A = A} text at (refused number s)
above_nine {at = at} number e h = record { found = (at, Reach.none, rw e (omega arith, λ z. omega (arith, z), refl)) }

-- the refusals of a token
pub not_allowed_lem : {A : Type 0} {text : List ℕ} {at n : ℕ} {k : Kind} {s : ℕ} → token_at text at ≡ token k s n → ReadsFrom {A = A} text at (refused 2 s)
not_allowed_lem e = here 2 e (omega arith) (omega arith)

pub then_reads : {A B : Type 0} {text : List ℕ} {at : ℕ} {p : Parsed A} {f : A → ℕ → Parsed B} → ReadsFrom text at p → ((a : A) (n : ℕ) → p ≡ accepted a n → ReadsFrom text n (f a n)) → ReadsFrom text at (and_then p f)
then_reads {p = accepted a n} h g = behind h.found (g a n refl)
then_reads {p = refused k q} h g = record { found = h.found }

pub cond_reads : {A : Type 0} {text : List ℕ} {at : ℕ} {a b : Parsed A} (t : Bool) → ReadsFrom text at a → ReadsFrom text at b → ReadsFrom text at (cond t a b)
cond_reads true f g = f
cond_reads false f g = g

pub option_reads : {A B : Type 0} {text : List ℕ} {at : ℕ} {b : Parsed B} {f : A → Parsed B} (o : Option A) → ReadsFrom text at b → ((a : A) → ReadsFrom text at (f a)) → ReadsFrom text at (on_option o b f)
option_reads none g h = g
option_reads (some a) g h = h a

pub token_reads : {A : Type 0} (text : List ℕ) (at : ℕ) {f : Kind → ℕ → ℕ → Parsed A} → ((k : Kind) (s n : ℕ) → token_at text at ≡ token k s n → ReadsFrom text at (f k s n)) → ReadsFrom text at (on_token (token_at text at) f)
token_reads {A} text at {f} g = go (token_at text at) refl
  where
    go : (r : TokenRead) → token_at text at ≡ r → ReadsFrom text at (on_token r f)
    go (token k s n) e = g k s n e
    go (fault p) e = record { found = (at, Reach.none, rw e (refl, refl)) }

module _ (text : List ℕ) where
  expected_reads : (w : Wanted) (at : ℕ) → ReadsFrom text at (expected text w at)
  unfolding expected
  expected_reads w at = token_reads text at (λ k s n e. cond_reads (is_wanted text w k s n) (past tt e) (not_allowed_lem e))

  pub phrase_reads : (ws : List Wanted) (at : ℕ) → ReadsFrom text at (phrase text ws at)
  unfolding phrase
  phrase_reads [] at = ends_at tt Reach.none
  phrase_reads (w ∷ ws) at = then_reads (expected_reads w at) (λ u n q. phrase_reads ws n)

  pub followed_reads : {A : Type 0} (ws : List Wanted) (x : A) (at : ℕ) → ReadsFrom text at (followed text ws x at)
  unfolding followed
  followed_reads ws x at = then_reads (phrase_reads ws at) (λ u n q. ends_at x Reach.none)

  module _ {O A : Type 0} (join : O → A → A → A) (operator : Kind → Option O) (operand : ℕ → Parsed A) (ho : (at : ℕ) → ReadsFrom text at (operand at)) where
    pub rest_reads : (f : ℕ) (a : A) (n : ℕ) → ReadsFrom text n (rest join operator operand text f a n)
    unfolding rest
    rest_reads zero a n = ends_at a Reach.none
    rest_reads (suc f) a n = token_reads text n (λ k s m e. option_reads (operator k) (ends_at a Reach.none) (λ o. step e (then_reads (ho m) (λ b l q. rest_reads f (join o a b) l))))

    pub chain_reads : (at : ℕ) → ReadsFrom text at (chain join operator operand text at)
    unfolding chain
    chain_reads at = then_reads (ho at) (λ a n q. rest_reads (suc (length text)) a n)

-- ---- expressions and conditions

module _ (sc : Scope) where
  -- a parser of what stands from a place on, and of what begins with the token that stands from s to n
  abbrev Anywhere : {A : Type 0} → (ℕ → Parsed A) → Type 0
  Anywhere p = (at : ℕ) → ReadsFrom sc.text at (p at)

  abbrev Inside : {A : Type 0} → (ℕ → ℕ → Parsed A) → Type 0
  Inside q = (at : ℕ) (k : Kind) (s n : ℕ) → token_at sc.text at ≡ token k s n → ReadsFrom sc.text at (q s n)

  module _ (at : ℕ) (k : Kind) (s n : ℕ) (e : token_at sc.text at ≡ token k s n) where
    pub id_reads : {A : Type 0} (s2 : ℕ) {f : ℕ → Parsed A} → ((i : ℕ) → ReadsFrom sc.text at (f i)) → ReadsFrom sc.text at (with_id sc s s2 n f)
    unfolding with_id
    id_reads s2 g = cond_reads (over_long s2 n) (here 8 e (omega arith) (omega arith)) (option_reads (id_of sc.names (part sc.text s2 n)) (here 4 e (omega arith) (omega arith)) g)

    current_reads : ReadsFrom sc.text at (current_at sc s n)
    unfolding current_at
    current_reads = id_reads s (λ i. cond_reads (get_or sc.known i false) (past _ e) (here 5 e (omega arith) (omega arith)))

    previous_reads : ReadsFrom sc.text at (previous_value_at sc s n)
    unfolding previous_value_at
    previous_reads = id_reads (s + 1) (λ i. past _ e)

    number_reads : ReadsFrom sc.text at (constant_at sc s n)
    unfolding constant_at
    number_reads = cond_reads (ltb number_limit (value_of (part sc.text s n))) (here 3 e (omega arith) (omega arith)) (past _ e)

  module _ (inner : ℕ → ℕ → Parsed Expression) (hi : Inside inner) where
    primary_reads : Anywhere (λ at. primary inner sc at)
    unfolding primary
    primary_reads at =
        token_reads sc.text at
        (λ k s n e.
        cond_reads (is k digits) (number_reads at k s n e)
        (cond_reads (is k name) (current_reads at k s n e)
        (cond_reads (is k T.previous) (previous_reads at k s n e)
        (cond_reads (is k open_round) (hi at k s n e) (not_allowed_lem e)))))

    factor_reads : Anywhere (λ at. factor inner sc at)
    unfolding factor negative
    factor_reads at = token_reads sc.text at (λ k s n e. cond_reads (is k minus) (step e (then_reads (primary_reads n) (λ x j q. ends_at _ Reach.none))) (primary_reads at))

    term_reads : Anywhere (λ at. term inner sc at)
    unfolding term
    term_reads at = chain_reads sc.text operation product_of (factor inner sc) factor_reads at

    expression_reads : Anywhere (λ at. expression inner sc at)
    unfolding expression
    expression_reads at = chain_reads sc.text operation sum_of (term inner sc) term_reads at

  bracket_reads : (left : ℕ) → Inside (λ s n. bracket left sc s n)
  unfolding bracket
  bracket_reads zero at k s n e = here 8 e (omega arith) (omega arith)
  bracket_reads (suc left) at k s n e = step e (then_reads (expression_reads (λ s n. bracket left sc s n) (bracket_reads left) n) (λ x j q. followed_reads sc.text _ x j))

  pub whole_expression_reads : Anywhere (λ at. whole_expression sc at)
  unfolding whole_expression
  whole_expression_reads at = expression_reads (λ s n. bracket bracket_limit sc s n) (bracket_reads bracket_limit) at

  module _ (inner : ℕ → ℕ → Parsed Expression) (hi : Inside inner) (inside : ℕ → ℕ → Parsed Condition) (hc : Inside inside) where
    compared_reads : (a : Expression) → Anywhere (λ at. compared inner sc a at)
    unfolding compared
    compared_reads a n = token_reads sc.text n (λ k s m e. option_reads (comparison_by k) (not_allowed_lem e) (λ o. step e (then_reads (expression_reads inner hi m) (λ b j q. ends_at _ Reach.none))))

    comparison_reads : Anywhere (λ at. comparison_at inner sc at)
    unfolding comparison_at
    comparison_reads at = then_reads (expression_reads inner hi at) (λ a n q. compared_reads a n)

    inverted_reads : Anywhere (λ at. inverted inside sc at)
    unfolding inverted opposite
    inverted_reads at = token_reads sc.text at (λ k s n e. cond_reads (is k open_square) (then_reads (hc at k s n e) (λ c j q. ends_at _ Reach.none)) (not_allowed_lem e))

    atom_reads : Anywhere (λ at. atom inner inside sc at)
    unfolding atom
    atom_reads at = token_reads sc.text at (λ k s n e. cond_reads (is k tilde) (step e (inverted_reads n)) (cond_reads (is k open_square) (hc at k s n e) (comparison_reads at)))

    conjunction_reads : Anywhere (λ at. conjunction inner inside sc at)
    unfolding conjunction
    conjunction_reads at = chain_reads sc.text connect and_of (atom inner inside sc) atom_reads at

    condition_reads : Anywhere (λ at. condition inner inside sc at)
    unfolding condition
    condition_reads at = chain_reads sc.text connect or_of (conjunction inner inside sc) conjunction_reads at

  square_reads : (left : ℕ) → Inside (λ s n. square left sc s n)
  unfolding square
  square_reads zero at k s n e = here 8 e (omega arith) (omega arith)
  square_reads (suc left) at k s n e =
      step e
      (then_reads (condition_reads (λ s n. bracket left sc s n) (bracket_reads left) (λ s n. square left sc s n) (square_reads left) n) (λ c j q. followed_reads sc.text _ c j))

  pub listed_reads : Anywhere (λ at. listed sc at)
  unfolding listed whole_condition
  listed_reads at =
      then_reads (condition_reads (λ s n. bracket bracket_limit sc s n) (bracket_reads bracket_limit) (λ s n. square bracket_limit sc s n) (square_reads bracket_limit) at)
      (λ c j q. followed_reads sc.text _ c j)
