-- Kinds by number: a test such as `kind == 17` decides `is (kind_of kind) open_round` both ways. Assumes nothing.
use mathlib.Core.Path.{◌≡◌, refl, ap, sym, ◌∙◌}
use mathlib.Core.List.{List, [], ◌∷◌}
use mathlib.Core.Bool.{Bool, true, false, cond}
use Prim.Native.Nat.{ℕ, zero, suc, ◌+◌, ◌≤◌, ◌<◌}
use native.Mathlib.Omega.{arith}
use lib.ListN.{length, get_or, get_or-eq_default}
use lib.Dec.{eqb, leb}
use borrow.Author.Tests.{eq-eqb, ne_eqb, eqb-true, eqb-false, leb-true, leb-false}
use Rattle.lexer.specs.Token.{Kind, kind_number, unknown, ending, name, previous, digits, input_word, var_word, init_word, mod_word, next_word, dots, arrow, less_equal, greater_equal, not_equal, semicolon, colon, open_round, close_round, open_square, close_square, tilde, ampersand, bar, equals, less, greater, plus, minus, star, slash, other_case, watch_word, always_word, after_word, timer_word, of_word, limit_word, is, last_kind}
use Rattle.lexer.specs.Results.{kinds, kind_of}
use Rattle.lexer.proofs.Laws.{cond_prop, both_true}

-- the kind of a kind's number is that kind
pub number_kind : (w : Kind) → kind_of (kind_number w) ≡ w
unfolding kind_of kind_number
number_kind unknown = refl
number_kind ending = refl
number_kind name = refl
number_kind previous = refl
number_kind digits = refl
number_kind input_word = refl
number_kind var_word = refl
number_kind init_word = refl
number_kind mod_word = refl
number_kind next_word = refl
number_kind dots = refl
number_kind arrow = refl
number_kind less_equal = refl
number_kind greater_equal = refl
number_kind not_equal = refl
number_kind semicolon = refl
number_kind colon = refl
number_kind open_round = refl
number_kind close_round = refl
number_kind open_square = refl
number_kind close_square = refl
number_kind tilde = refl
number_kind ampersand = refl
number_kind bar = refl
number_kind equals = refl
number_kind less = refl
number_kind greater = refl
number_kind plus = refl
number_kind minus = refl
number_kind star = refl
number_kind slash = refl
number_kind other_case = refl
number_kind watch_word = refl
number_kind always_word = refl
number_kind after_word = refl
number_kind timer_word = refl
number_kind of_word = refl
number_kind limit_word = refl

-- the kinds are those of the numbers from i on
abbrev counted : ℕ → List Kind → Bool
counted i [] = true
counted i (w ∷ l) = let r = counted (suc i) l in cond (eqb (kind_number w) i) r false

all_counted : counted 0 kinds ≡ true
unfolding kind_number
all_counted = refl

counted-at : (l : List Kind) (i k : ℕ) → counted i l ≡ true → k < length l → kind_number (get_or l k unknown) ≡ i + k
counted-at [] i k h lt = absurd (omega arith)
counted-at (w ∷ l) i zero h lt = omega (arith, eqb-true (kind_number w) i (both_true (eqb (kind_number w) i) (counted (suc i) l) h).0)
counted-at (w ∷ l) i (suc k) h lt = omega (arith, counted-at l (suc i) k (both_true (eqb (kind_number w) i) (counted (suc i) l) h).1 (omega arith))

-- the number of a number's kind is that number
pub kind_number_lem : (k : ℕ) → k ≤ last_kind → kind_number (kind_of k) ≡ k
unfolding kind_of
kind_number_lem k h = omega (arith, counted-at kinds 0 k all_counted (omega arith))

-- a number's kind, compared with a kind
pub is_kind : (k : ℕ) (w : Kind) → k ≤ last_kind → is (kind_of k) w ≡ eqb k (kind_number w)
unfolding is
is_kind k w h = ap (λ (n : ℕ). eqb n (kind_number w)) (kind_number_lem k h)

pub kind_is : (k : ℕ) (w : Kind) → k ≡ kind_number w → is (kind_of k) w ≡ true
unfolding is
kind_is k w e = eq-eqb _ _ (ap kind_number (ap kind_of e ∙ number_kind w))

pub kind_is_not : (k : ℕ) (w : Kind) → k ≤ last_kind → (k ≡ kind_number w → ⊥) → is (kind_of k) w ≡ false
kind_is_not k w h f = is_kind k w h ∙ ne_eqb _ _ f

-- only the end has the end's number
pub ending_number : (k : ℕ) → k ≤ last_kind → kind_of k ≡ ending → k ≡ 1
unfolding kind_number
ending_number k h e = sym (kind_number_lem k h) ∙ ap kind_number e

-- a kind with its number, and whether it is unknown
module _ (w : Kind) (k : ℕ) (e : k ≡ kind_number w) where
  pub is_unknown : k ≡ 0 → is w unknown ≡ true
  unfolding is kind_number
  is_unknown z = eq-eqb _ _ (sym e ∙ z)

  pub is_known : (k ≡ 0 → ⊥) → is w unknown ≡ false
  unfolding is kind_number
  is_known f = ne_eqb _ _ (λ z. f (e ∙ z))

-- a number of a known kind lies between 1 and the last
pub known_number : (k : ℕ) → is (kind_of k) unknown ≡ false → (1 ≤ k) × (k ≤ last_kind)
unfolding is kind_number kind_of
known_number k e =
    let known = eqb-false (kind_number (kind_of k)) 0 e in
    cond_prop (λ (x : ℕ). (1 ≤ k) × (k ≤ last_kind)) (leb k last_kind) 0 0
    (λ t. let low : k ≤ last_kind = leb-true k last_kind t in let some : k ≡ 0 → ⊥ = λ z. known (kind_number_lem k low ∙ z) in (omega arith, low))
    (λ t. absurd (known (ap kind_number (get_or-eq_default kinds unknown (leb-false k last_kind t)))))
