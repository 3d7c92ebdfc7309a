-- Laws of tokens that are expected: one, and one after another as the code goes. Assumes nothing.
use mathlib.Core.Path.{◌≡◌, refl, sym, ap, ◌∙◌}
use mathlib.Core.Bool.{true, false}
use mathlib.Core.List.{List, [], ◌∷◌, ◌++◌}
use Prim.Native.Nat.{ℕ, ◌≤◌}
use borrow.Author.Tests.{eq-eqb}
use Rattle.limits.specs.Limits.{not_allowed}
use Rattle.lexer.specs.Token.{kind_number, is, last_kind}
use Rattle.lexer.specs.Results.{kind_of, reached_at}
use Rattle.lexer.specs.declared.Place.{Place}
use Rattle.lexer.specs.Results.{Step}
use Rattle.std.specs.Prelude.{Ok, Err}
use Rattle.limits.specs.declared.Refusal.{Refusal}
use Rattle.lexer.proofs.KindNumbers.{kind_number_lem, kind_is_not}
use Rattle.lexer.proofs.Tokens.{Answers, is_token, is_fault}
use Rattle.grammar.specs.Parsed.{Parsed, accepted, refused, and_then, Wanted, is_wanted, expected, phrase}
use Rattle.phrases.specs.Inner.Steps.{parsed_of, nothing}

-- ---- kinds by their numbers

pub same_kinds : (k w : ℕ) → k ≡ w → is (kind_of k) (kind_of w) ≡ true
unfolding is
same_kinds k w e = eq-eqb _ _ (ap (λ (x : ℕ). kind_number (kind_of x)) e)

pub other_kinds : (k w : ℕ) → k ≤ last_kind → w ≤ last_kind → (k ≡ w → ⊥) → is (kind_of k) (kind_of w) ≡ false
other_kinds k w h i f = kind_is_not k (kind_of w) h (λ e. f (e ∙ kind_number_lem w i))

-- ---- one token, from what was read

module _ (text : List ℕ) (at : ℕ) (w : Wanted) {t : Step} (a : Answers text at t) where
  pub faulty : {e : Refusal} → t ≡ Err e → parsed_of nothing t ≡ expected text w at
  unfolding expected
  faulty {e} g = let f = is_fault text at t a e g in rw (g, f.0, f.1)

  module _ {p : Place} (g : t ≡ Ok p) where
    pub wanted : {r : Step} → r ≡ reached_at p.end 0 0 → is_wanted text w (kind_of p.kind) p.start p.end ≡ true → parsed_of nothing r ≡ expected text w at
    unfolding expected
    wanted e h = rw (e, (is_token text at t a p g).0, h)

    pub unwanted : is_wanted text w (kind_of p.kind) p.start p.end ≡ false → refused not_allowed p.start ≡ expected text w at
    unfolding expected
    unwanted h = rw ((is_token text at t a p g).0, h)

-- ---- tokens one after another

then_none : (p : Parsed (Unit {0})) → and_then p (λ u n. accepted tt n) ≡ p
then_none (accepted u n) = refl
then_none (refused k q) = refl

module _ (text : List ℕ) where
  pub phrase_append : (xs ys : List Wanted) (at : ℕ) → phrase text (xs ++ ys) at ≡ and_then (phrase text xs at) (λ u n. phrase text ys n)
  unfolding phrase
  phrase_append [] ys at = refl
  phrase_append (x ∷ xs) ys at = go (expected text x at) (λ n. phrase_append xs ys n)
    where
      go : (p : Parsed (Unit {0})) → ((n : ℕ) → phrase text (xs ++ ys) n ≡ and_then (phrase text xs n) (λ u m. phrase text ys m)) → and_then p (λ u n. phrase text (xs ++ ys) n) ≡ and_then (and_then p (λ u n. phrase text xs n)) (λ u n. phrase text ys n)
      go (accepted u n) h = h n
      go (refused k q) h = refl

  -- the last token
  pub last : {q : Parsed (Unit {0})} (w : Wanted) (at : ℕ) → q ≡ expected text w at → q ≡ phrase text (w ∷ []) at
  unfolding phrase
  last w at e = e ∙ sym (then_none (expected text w at))

  -- a refusal of the first token is the answer
  pub stops : {r : Step} {e : Refusal} (w : Wanted) (ws : List Wanted) (at : ℕ) → parsed_of nothing r ≡ expected text w at → r ≡ Err e → parsed_of nothing r ≡ phrase text (w ∷ ws) at
  unfolding phrase
  stops w ws at e g = rw (← e, g)

  -- after the first token the others follow
  pub goes_on_lem : {r : Step} {x : Place} {q : Parsed (Unit {0})} (w : Wanted) (ws : List Wanted) (at : ℕ) → parsed_of nothing r ≡ expected text w at → r ≡ Ok x → q ≡ phrase text ws x.at → q ≡ phrase text (w ∷ ws) at
  unfolding phrase
  goes_on_lem w ws at e g h = rw (← e, g) h

  -- the same of several first tokens
  pub stops_in : {r : Step} {e : Refusal} (xs ys : List Wanted) (at : ℕ) → parsed_of nothing r ≡ phrase text xs at → r ≡ Err e → parsed_of nothing r ≡ phrase text (xs ++ ys) at
  stops_in xs ys at e g = rw (phrase_append xs ys at, ← e, g)

  pub goes_past : {r : Step} {x : Place} {q : Parsed (Unit {0})} (xs ys : List Wanted) (at : ℕ) → parsed_of nothing r ≡ phrase text xs at → r ≡ Ok x → q ≡ phrase text ys x.at → q ≡ phrase text (xs ++ ys) at
  goes_past xs ys at e g h = rw (phrase_append xs ys at, ← e, g) h
