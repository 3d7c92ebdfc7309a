-- Laws of what functions answer and write: what an answer says of the part read, and what answers make a contract. Assumes nothing.
use mathlib.Core.Path.{◌≡◌, refl, ap, ap₂, sym, ◌∙◌, subst}
use mathlib.Core.List.{List}
use Prim.Native.Nat.{ℕ, ◌+◌}
use lib.ListN.{length}
use lib.Seq.{sets}
use Rattle.lexer.specs.declared.Place.{Place}
use Rattle.lexer.specs.Results.{Step}
use Rattle.std.specs.Prelude.{Ok, Err}
use Rattle.limits.specs.declared.Refusal.{Refusal}
use Rattle.limits.specs.Refusals.{refusal_number, refusal_place}
use Rattle.grammar.specs.Parsed.{Parsed, accepted, refused, and_then}
use Rattle.grammar.proofs.Combine.{apart, same_value, same_end}
use Rattle.phrases.specs.Inner.Steps.{parsed_of, nothing, written, answered, Writes}

pub same_refusal : {A B : Type 0} {k q l r : ℕ} → ◌≡◌ {A = Parsed A} (refused k q) (refused l r) → ◌≡◌ {A = Parsed B} (refused k q) (refused l r)
same_refusal e = cc

-- an accepted part, with the place x after it
pub record Got {A B : Type 0} (bytes : A → List ℕ) (told : Place → B) (tells : A → B) (p : Parsed A) (to : ℕ) (before after : List ℕ) (x : Place) : Type 0 where
  pub tree : A
  pub is : p ≡ accepted tree x.at
  pub ended : x.to ≡ to + length (bytes tree)
  pub tells_it : told x ≡ tells tree
  pub wrote : after ≡ sets before to (bytes tree)

module _ {A B : Type 0} {bytes : A → List ℕ} {told : Place → B} {tells : A → B} {p : Parsed A} {to : ℕ} {before after : List ℕ} where
  module _ {r : Step} (c : Writes bytes told tells p to before after r) where
    pub got : {x : Place} → r ≡ Ok x → Got bytes told tells p to before after x
    got {x} d = go p refl (sym (ap (parsed_of (written told)) d) ∙ c.answer)
      where
        go : (q : Parsed A) → p ≡ q → ◌≡◌ {A = Parsed (ℕ × B)} (accepted (x.to, told x) x.at) (and_then q (answered bytes tells to)) → Got bytes told tells p to before after x
        go (accepted a m) e f =
            let i : p ≡ accepted a x.at = e ∙ ap (accepted a) (sym (same_end f)) in
            record { tree = a; is = i; ended = ap (λ (q : ℕ × B). q.0) (same_value f); tells_it = ap (λ (q : ℕ × B). q.1) (same_value f); wrote = c.wrote a x.at i }
        go (refused k q) e f = apart f

    pub refused_part : {e : Refusal} → r ≡ Err e → p ≡ refused (refusal_number e) (refusal_place e)
    refused_part {e} d = go p refl (sym (ap (parsed_of (written told)) d) ∙ c.answer)
      where
        go : (w : Parsed A) → p ≡ w → ◌≡◌ {A = Parsed (ℕ × B)} (refused (refusal_number e) (refusal_place e)) (and_then w (answered bytes tells to)) → p ≡ refused (refusal_number e) (refusal_place e)
        go (accepted a m) g f = apart (sym f)
        go (refused l m) g f = g ∙ same_refusal (sym f)

  pub writes : {r : Step} {x : Place} → r ≡ Ok x → Got bytes told tells p to before after x → Writes bytes told tells p to before after r
  writes {x = x} d g = record {
    answer = ap (parsed_of (written told)) d ∙ ap₂ (λ (t : ℕ) (b : B). accepted (t, b) x.at) g.ended g.tells_it ∙ sym (ap (λ (w : Parsed A). and_then w (answered bytes tells to)) g.is);
    wrote = λ a m e. g.wrote ∙ ap (λ (b : A). sets before to (bytes b)) (same_value (sym g.is ∙ e));
  }

  pub refuses : {r : Step} {e : Refusal} → r ≡ Err e → p ≡ refused (refusal_number e) (refusal_place e) → Writes bytes told tells p to before after r
  refuses d e = record { answer = rw (d, e); wrote = λ a m f. apart (sym f ∙ e) }

  -- a refusal of the fixed tokens at hand, passed on
  pub not_expected : {r : Step} {w : Parsed (Unit {0})} {e : Refusal} → parsed_of nothing r ≡ w → r ≡ Err e → (w ≡ refused (refusal_number e) (refusal_place e) → p ≡ refused (refusal_number e) (refusal_place e)) → Writes bytes told tells p to before after r
  not_expected i f g = refuses f (g (sym i ∙ ap (parsed_of nothing) f))

-- a refusal of a part, passed on
pub not_part : {A B C D : Type 0} {bytes : A → List ℕ} {told : Place → B} {tells : A → B} {p : Parsed A} {to : ℕ} {before after : List ℕ} {code : C → List ℕ} {said : Place → D} {says : C → D} {w : Parsed C} {u : ℕ} {b a : List ℕ} {r : Step} {e : Refusal} → Writes code said says w u b a r → r ≡ Err e → (w ≡ refused (refusal_number e) (refusal_place e) → p ≡ refused (refusal_number e) (refusal_place e)) → Writes bytes told tells p to before after r
not_part c d g = refuses d (g (refused_part c d))

-- fixed tokens that were found
pub found : {r : Step} {w : Parsed (Unit {0})} {x : Place} → parsed_of nothing r ≡ w → r ≡ Ok x → w ≡ accepted tt x.at
found i f = sym i ∙ ap (parsed_of nothing) f

-- a part under another name
pub reads_as : {A B : Type 0} {bytes : A → List ℕ} {told : Place → B} {tells : A → B} {p q : Parsed A} {to : ℕ} {before after : List ℕ} {r : Step} → q ≡ p → Writes bytes told tells p to before after r → Writes bytes told tells q to before after r
reads_as {A} {bytes = bytes} {told = told} {tells = tells} {to = to} {before = before} {after = after} {r = r} e c = subst (λ (x : Parsed A). Writes bytes told tells x to before after r) (sym e) c
