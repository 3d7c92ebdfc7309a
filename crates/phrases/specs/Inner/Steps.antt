-- What an answer of the translator's functions stands for, and what they write. Document 01, "Who can cause which refusal". Assumes
-- nothing.
use Rattle.std.specs.Prelude.{ℕ, ◌+◌, ◌≡◌, List, ℤ, length}
use Rattle.std.proofs.lemmas.List.Edits.{sets}
use Rattle.lexer.specs.declared.Place.{Place}
use Rattle.lexer.specs.Results.{Step}
use Rattle.std.specs.Prelude.{Ok, Err}
use Rattle.limits.specs.Refusals.{refusal_number, refusal_place}
use Rattle.grammar.specs.Parsed.{Parsed, accepted, refused, and_then}

-- the place after what was read, with what is told there; or a refusal's number and place
abbrev pub parsed_of : {A : Type 0} → (Place → A) → Step → Parsed A
parsed_of told (Ok x) = accepted (told x) x.at
parsed_of told (Err e) = refused (refusal_number e) (refusal_place e)

-- what is told: nothing but the place; a count, an id or another place; the value of a bound; and the end of the bytes written besides
abbrev pub nothing : Place → Unit {0}
nothing x = tt

abbrev pub number_told : Place → ℕ
number_told x = x.number

abbrev pub value_told : Place → ℤ
value_told x = x.value

abbrev pub written : {B : Type 0} → (Place → B) → Place → ℕ × B
written told x = (x.to, told x)

-- what is answered for a part a that ends at n
abbrev pub answered : {A B : Type 0} → (A → List ℕ) → (A → B) → ℕ → A → ℕ → Parsed (ℕ × B)
answered bytes tells to a n = accepted (to + length (bytes a), tells a) n

-- a function answers the place after what reads as p, the end of its bytes and what else the part tells; and has stored the bytes as
-- far as there is room
pub record Writes {A B : Type 0} (bytes : A → List ℕ) (told : Place → B) (tells : A → B) (p : Parsed A) (to : ℕ) (before after : List ℕ) (r : Step) : Type 0 where
  pub answer : parsed_of (written told) r ≡ and_then p (answered bytes tells to)
  pub wrote : (a : A) (n : ℕ) → p ≡ accepted a n → after ≡ sets before to (bytes a)
