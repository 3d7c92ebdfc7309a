-- A rule reads the same with any name that is the same in place of its own. Assumes nothing.
use mathlib.Core.Path.{◌≡◌, refl, ap}
use mathlib.Core.List.{List, [], ◌∷◌, ◌++◌}
use mathlib.Core.Bool.{cond}
use Prim.Native.Nat.{ℕ, zero, suc, ◌+◌, ◌-◌}
use lib.ListN.{length}
use Rattle.limits.specs.Limits.{case_limit, not_allowed}
use Rattle.lexer.specs.Bytes.{part, capitals}
use Rattle.lexer.specs.Token.{Kind, open_square, bar, greater, is, TokenRead, token, fault}
use Rattle.lexer.specs.Lexer.{token_at}
use Rattle.lexer.proofs.Same.{same_left}
use Rattle.grammar.specs.Parsed.{Parsed, accepted, refused, and_then, on_token, Wanted, own, own_previous, expected, phrase}
use Rattle.grammar.specs.Expressions.{Scope}
use Rattle.grammar.specs.Conditions.{listed}
use Rattle.grammar.specs.Forms.{value_opening, change_opening, no_change_opening, rule_opening, case_value_opening, turned_opening, falling_opening}
use Rattle.grammar.specs.Rules.{Spanned, case_at, cases_from, function_at, change_at, pair_at, formula_at, formulas}

then_same : {A B : Type 0} (p : Parsed A) (f g : A → ℕ → Parsed B) → ((a : A) (n : ℕ) → f a n ≡ g a n) → and_then p f ≡ and_then p g
then_same (accepted a n) f g h = h a n
then_same (refused k q) f g h = refl

token_same : {A : Type 0} (t : TokenRead) (f g : Kind → ℕ → ℕ → Parsed A) → ((k : Kind) (s n : ℕ) → f k s n ≡ g k s n) → on_token t f ≡ on_token t g
token_same (token k s n) f g h = h k s n
token_same (fault p) f g h = refl

module _ (sc : Scope) (w d : List ℕ) (e : capitals w ≡ capitals d) where
  own_same : (at : ℕ) → expected sc.text (own w) at ≡ expected sc.text (own d) at
  unfolding expected
  own_same at = token_same (token_at sc.text at) _ _ (λ k s n. rw (same_left w d (part sc.text s n) e))

  previous_same : (at : ℕ) → expected sc.text (own_previous w) at ≡ expected sc.text (own_previous d) at
  unfolding expected
  previous_same at = token_same (token_at sc.text at) _ _ (λ k s n. rw (same_left w d (part sc.text (s + 1) n) e))

  -- phrases that want the same
  abbrev SameWanted : List Wanted → List Wanted → Type 0
  SameWanted [] [] = Unit {0}
  SameWanted [] (v ∷ vs) = ⊥
  SameWanted (u ∷ us) [] = ⊥
  SameWanted (u ∷ us) (v ∷ vs) = ((at : ℕ) → expected sc.text u at ≡ expected sc.text v at) × SameWanted us vs

  phrase_same : (us vs : List Wanted) → SameWanted us vs → (at : ℕ) → phrase sc.text us at ≡ phrase sc.text vs at
  unfolding phrase
  phrase_same [] [] h at = refl
  phrase_same [] (v ∷ vs) h at = absurd h
  phrase_same (u ∷ us) [] h at = absurd h
  phrase_same (u ∷ us) (v ∷ vs) h at = rw (h.0 at) (then_same (expected sc.text v at) _ _ (λ a n. phrase_same us vs h.1 n))

  value_same : (at : ℕ) → phrase sc.text (value_opening w) at ≡ phrase sc.text (value_opening d) at
  value_same at = phrase_same (value_opening w) (value_opening d) (own_same, ((λ at. refl), ((λ at. refl), tt))) at

  case_value_same : (at : ℕ) → phrase sc.text (case_value_opening w) at ≡ phrase sc.text (case_value_opening d) at
  case_value_same at = phrase_same (case_value_opening w) (case_value_opening d) ((λ at. refl), (own_same, ((λ at. refl), ((λ at. refl), tt)))) at

  change_opening_same : (at : ℕ) → phrase sc.text (change_opening w) at ≡ phrase sc.text (change_opening d) at
  change_opening_same at = phrase_same (change_opening w) (change_opening d) ((λ at. refl), (own_same, ((λ at. refl), (previous_same, ((λ at. refl), ((λ at. refl), tt)))))) at

  no_change_same : (at : ℕ) → phrase sc.text (no_change_opening w) at ≡ phrase sc.text (no_change_opening d) at
  no_change_same at =
      phrase_same (no_change_opening w) (no_change_opening d)
      ((λ at. refl), ((λ at. refl), (own_same, ((λ at. refl), ((λ at. refl), ((λ at. refl), (own_same, ((λ at. refl), (previous_same, ((λ at. refl), ((λ at. refl), ((λ at. refl), tt)))))))))))) at

  rising_opening_same : (at : ℕ) → phrase sc.text (turned_opening greater w) at ≡ phrase sc.text (turned_opening greater d) at
  rising_opening_same at =
      phrase_same (turned_opening greater w) (turned_opening greater d) ((λ at. refl), ((λ at. refl), ((λ at. refl), (own_same, ((λ at. refl), (previous_same, ((λ at. refl), tt))))))) at

  falling_opening_same : (at : ℕ) → phrase sc.text (falling_opening w) at ≡ phrase sc.text (falling_opening d) at
  falling_opening_same at =
      phrase_same (falling_opening w) (falling_opening d)
      ((λ at. refl), ((λ at. refl), (own_same, ((λ at. refl), ((λ at. refl), ((λ at. refl), ((λ at. refl), (own_same, ((λ at. refl), (previous_same, ((λ at. refl), tt))))))))))) at

  pub case_same : (at n : ℕ) → case_at sc w at n ≡ case_at sc d at n
  unfolding case_at
  case_same at n = then_same (listed sc n) _ _ (λ c n1. rw (case_value_same n1))

  pub cases_same : (left : ℕ) (done : List Spanned) (at : ℕ) → cases_from left sc w done at ≡ cases_from left sc d done at
  unfolding cases_from
  cases_same zero done at = refl
  cases_same (suc left) done at =
      token_same (token_at sc.text at) _ _
      (λ k s n. ap (λ (x : Parsed (List Spanned)). cond (is k open_square) x (refused not_allowed s))
      (rw (case_same at n)
      (then_same (case_at sc d at n) _ _
      (λ c n1. token_same (token_at sc.text n1) _ _ (λ k2 s2 n2. ap (λ (x : Parsed (List Spanned)). cond (is k2 bar) x (accepted (done ++ (c ∷ [])) n1)) (cases_same left (done ++ (c ∷ [])) n2))))))

  function_same : (v at : ℕ) → function_at sc w v at ≡ function_at sc d v at
  unfolding function_at
  function_same v at = rw (value_same at)

  change_same : (v at : ℕ) → change_at sc w v at ≡ change_at sc d v at
  unfolding change_at
  change_same v at =
      rw (change_opening_same at)
      (then_same (phrase sc.text (change_opening d) at) _ _
      (λ u n1. rw (cases_same case_limit [] n1) (then_same (cases_from case_limit sc d [] n1) _ _ (λ cases n2. rw (no_change_same n2)))))

  formula_same : (v at : ℕ) → formula_at sc w v at ≡ formula_at sc d v at
  unfolding formula_at
  formula_same v at = then_same (phrase sc.text rule_opening at) _ _ (λ u n. token_same (token_at sc.text n) _ _ (λ k s m. rw (change_same v m, function_same v n)))

  pair_same : (v at : ℕ) → pair_at sc w v at ≡ pair_at sc d v at
  unfolding pair_at
  pair_same v at =
      rw (rising_opening_same at)
      (then_same (phrase sc.text (turned_opening greater d) at) _ _
      (λ u n1. rw (cases_same case_limit [] n1)
      (then_same (cases_from case_limit sc d [] n1) _ _
      (λ ups n2. rw (falling_opening_same n2)
      (then_same (phrase sc.text (falling_opening d) n2) _ _ (λ u2 n3. rw (cases_same (case_limit - length ups) [] n3)))))))

  pub formulas_same : (v at : ℕ) → formulas sc w v at ≡ formulas sc d v at
  unfolding formulas
  formulas_same v at = token_same (token_at sc.text at) _ _ (λ k s n. rw (pair_same v n, formula_same v at))
