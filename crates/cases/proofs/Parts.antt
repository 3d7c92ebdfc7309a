-- Laws of parts of a rule: refusals of what was read ahead, passed on. Assumes nothing.
use mathlib.Core.Path.{◌≡◌, refl, ap, sym, ◌∙◌}
use mathlib.Core.List.{List, ◌∷◌}
use Prim.Native.Nat.{ℕ}
use Rattle.limits.specs.Limits.{no_token}
use Rattle.lexer.specs.Token.{TokenRead, token, fault}
use Rattle.lexer.specs.Lexer.{token_at}
use Rattle.lexer.specs.declared.Place.{Place}
use Rattle.lexer.specs.Results.{Step}
use Rattle.std.specs.Prelude.{Err}
use Rattle.limits.specs.declared.Refusal.{Refusal}
use Rattle.limits.specs.Refusals.{refusal_number, refusal_place}
use Rattle.grammar.specs.Parsed.{Parsed, accepted, refused, and_then, on_token, Wanted, expected, phrase}
use Rattle.grammar.proofs.Combine.{apart, same_end}
use Rattle.phrases.specs.Inner.Steps.{Writes}
use Rattle.phrases.proofs.Writing.{same_refusal, refuses}
use Rattle.expressions.specs.Inner.Steps.{Followed, looked_ahead, Parses}
use Rattle.expressions.proofs.Steps.{Refuses, refused_by}
use Rattle.cases.specs.Inner.Places.{place_only}

-- a refusal of an expression or a condition, passed on
pub not_read : {A B C : Type 0} {bytes : A → List ℕ} {told : Place → C} {tells : A → C} {p : Parsed A} {to : ℕ} {before after : List ℕ} {text : List ℕ} {code : B → List ℕ} {w : Parsed B} {u : ℕ} {b a : List ℕ} {r : Step} {e : Refusal} → Parses text code w u b a r → r ≡ Err e → (Refuses text w (refusal_number e) (refusal_place e) → p ≡ refused (refusal_number e) (refusal_place e)) → Writes bytes told tells p to before after r
not_read c f g = refuses f (g (refused_by c f))

-- ---- what goes on by reading a token is refused where what stands behind the first part is none

pub phrase_fault : (text : List ℕ) (w : Wanted) (ws : List Wanted) (n q : ℕ) → token_at text n ≡ fault q → phrase text (w ∷ ws) n ≡ refused no_token q
unfolding phrase expected
phrase_fault text w ws n q e = rw e

module _ {A B : Type 0} (text : List ℕ) (f : A → ℕ → Parsed B) (g : (a : A) (n q : ℕ) → token_at text n ≡ fault q → f a n ≡ refused no_token q) where
  pub behind_refused : (p : Parsed A) {k q : ℕ} → Refuses text p k q → and_then p f ≡ refused k q
  unfolding looked_ahead
  behind_refused (accepted a n) {k} {q} e = go (token_at text n) refl e.looked
    where
      go : (r : TokenRead) → token_at text n ≡ r → ◌≡◌ {A = Parsed (Followed A)} (on_token r (λ w s m. accepted (record { part = a; kind = w; start = s; end = m }) n)) (refused k q) → f a n ≡ refused k q
      go (token w s m) i d = apart d
      go (fault p) i d = g a n p i ∙ same_refusal d
  behind_refused (refused l r) e = same_refusal e.looked

-- what was read, of which only the place is known
pub record Placed {A : Type 0} (p : Parsed A) (n : ℕ) : Type 0 where
  pub tree : A
  pub is : p ≡ accepted tree n

pub placed : {A : Type 0} (p : Parsed A) {n : ℕ} → place_only p ≡ accepted tt n → Placed p n
unfolding place_only
placed (accepted a m) e = record { tree = a; is = ap (accepted a) (same_end e) }
placed (refused k q) e = apart (sym e)
