-- The ways through the list of conditions of a no-change formula. Assumes nothing.
use mathlib.Core.Path.{◌≡◌, refl, ap, sym, ◌∙◌}
use mathlib.Core.List.{List, [], ◌∷◌, ◌++◌}
use mathlib.Core.Bool.{true, false}
use Prim.Native.Nat.{ℕ, zero, suc, ◌-◌, ◌≤◌}
use native.Mathlib.Omega.{arith}
use lib.ListN.{length}
use Rattle.limits.specs.Limits.{case_limit, no_token, not_allowed, too_many}
use Rattle.lexer.specs.Token.{Kind, kind_number, close_round, open_square, bar, is, token, fault}
use Rattle.lexer.specs.Lexer.{token_at}
use Rattle.lexer.specs.Results.{kind_of, Lies}
use Rattle.lexer.specs.declared.Place.{Place}
use Rattle.lexer.specs.Results.{Step}
use Rattle.std.specs.Prelude.{Ok, Err}
use Rattle.limits.specs.declared.Refusal.{Refusal}
use Rattle.limits.specs.declared.Refusal.TheVariants.{NoToken}
use Rattle.limits.specs.Refusals.{refusal_number, refusal_place}
use Rattle.lexer.proofs.Tokens.{Answers, is_token}
use Rattle.semantics.specs.Program.{Condition}
use Rattle.grammar.specs.Parsed.{Parsed, accepted, refused, and_then, sign, expected, phrase, followed}
use Rattle.grammar.specs.Expressions.{Scope}
use Rattle.grammar.specs.Conditions.{listed}
use Rattle.grammar.specs.Rules.{list_from, plain_list}
use Rattle.grammar.specs.Inner.Bytes.{bytes_c}
use Rattle.grammar.proofs.Growth.{listed_grown}
use Rattle.expressions.specs.Inner.Steps.{Room}
use Rattle.expressions.specs.Inner.Readers.{StandsAt}
use Rattle.expressions.proofs.Steps.{Refuses, Accepted, told, untold, room_after, room_next}
use Rattle.phrases.specs.Inner.Steps.{parsed_of, nothing}
use Rattle.cases.specs.Inner.Places.{place_only}
use Rattle.cases.proofs.Parts.{behind_refused}

-- the token at a place
pub record Found (text : List ℕ) (at k s n : ℕ) : Type 0 where
  pub read : token_at text at ≡ token (kind_of k) s n
  pub lies : Lies (length text) at k s n

pub found_token : (text : List ℕ) (at : ℕ) {t : Step} {x : Place} → Answers text at t → t ≡ Ok x → Found text at x.kind x.start x.end
found_token text at {t} {x} a e = let f = is_token text at t a x e in record { read = f.0; lies = f.1 }

-- behind it there is as much room
pub room_token : {text : List ℕ} {at t k s n : ℕ} → Room text at t → Found text at k s n → Room text n t
room_token r f = record { short = r.short; within = f.lies.within r.within; room = omega (arith, r.room, f.lies.after, f.lies.ordered) }

-- ---- a list with `left` conditions left to read

module _ (sc : Scope) (done : List Condition) (a : ℕ) where
  pub list_fault : {q : ℕ} (left : ℕ) → token_at sc.text a ≡ fault q → list_from left sc done a ≡ refused no_token q
  unfolding list_from
  list_fault zero e = rw e
  list_fault (suc left) e = rw e

  module _ {k : Kind} {s n : ℕ} (e : token_at sc.text a ≡ token k s n) where
    pub list_full : is k open_square ≡ true → list_from 0 sc done a ≡ refused too_many s
    unfolding list_from
    list_full f = rw (e, f)

    pub list_other : (left : ℕ) → is k open_square ≡ false → list_from left sc done a ≡ refused not_allowed s
    unfolding list_from
    list_other zero f = rw (e, f)
    list_other (suc left) f = rw (e, f)

    module _ (left : ℕ) (f : is k open_square ≡ true) where
      pub list_refused : {l q : ℕ} → Refuses sc.text (listed sc n) l q → list_from (suc left) sc done a ≡ refused l q
      unfolding list_from
      list_refused r = rw (e, f) (behind_refused sc.text _ (λ c m q g. rw g) (listed sc n) r)

      module _ {c : Condition} {n1 : ℕ} (g : listed sc n ≡ accepted c n1) {k2 : Kind} {s2 n2 : ℕ} (h : token_at sc.text n1 ≡ token k2 s2 n2) where
        pub list_more : is k2 bar ≡ true → list_from (suc left) sc done a ≡ list_from left sc (done ++ (c ∷ [])) n2
        unfolding list_from
        list_more i = rw (e, f, g, h, i)

        pub list_last : is k2 bar ≡ false → list_from (suc left) sc done a ≡ accepted (done ++ (c ∷ [])) n1
        unfolding list_from
        list_last i = rw (e, f, g, h, i)

-- ---- the list and its closing bracket

only_place : {A : Type 0} (x : A) (p : Parsed (Unit {0})) → place_only (and_then {B = A} (and_then {B = Unit {0}} p (λ u m. accepted tt m)) (λ u m. accepted x m)) ≡ p
unfolding place_only
only_place x (accepted u m) = refl
only_place x (refused k q) = refl

module _ (sc : Scope) (at : ℕ) where
  plain_refused : {k q : ℕ} → list_from case_limit sc [] at ≡ refused k q → place_only (plain_list sc at) ≡ refused k q
  unfolding plain_list place_only
  plain_refused e = rw e

  plain_closed : {cs : List Condition} {n : ℕ} → list_from case_limit sc [] at ≡ accepted cs n → place_only (plain_list sc at) ≡ expected sc.text (sign close_round) n
  unfolding plain_list place_only followed phrase
  plain_closed {cs} {n} e = rw e (only_place cs (expected sc.text (sign close_round) n))

-- the invariant: the list is what is left of it after the conditions done
pub record Listing (sc : Scope) (at a left : ℕ) : Type 0 where
  pub done : List Condition
  pub same : list_from case_limit sc [] at ≡ list_from left sc done a
  pub room : Room sc.text a 0

pub listing_first : {sc : Scope} {at : ℕ} → Room sc.text at 0 → Listing sc at at case_limit
listing_first r = record { done = []; same = refl; room = r }

module _ {sc : Scope} {at a left : ℕ} (w : Listing sc at a left) where
  -- ... comes to a refusal
  pub listing_fault : {r : Step} {e : Refusal} → r ≡ Err e → (token_at sc.text a ≡ fault (refusal_place e)) × (e ≡ NoToken (refusal_place e)) → parsed_of nothing r ≡ place_only (plain_list sc at)
  listing_fault d f = rw (d ∙ ap Err f.1) (sym (plain_refused sc at (w.same ∙ list_fault sc w.done a left f.0)))

  module _ {k s n : ℕ} (f : Found sc.text a k s n) where
    pub listing_full : is (kind_of k) open_square ≡ true → left ≡ 0 → refused too_many s ≡ place_only (plain_list sc at)
    listing_full i z = sym (plain_refused sc at (w.same ∙ (ap (λ (l : ℕ). list_from l sc w.done a) z ∙ list_full sc w.done a f.read i)))

    pub listing_other : is (kind_of k) open_square ≡ false → refused not_allowed s ≡ place_only (plain_list sc at)
    listing_other i = sym (plain_refused sc at (w.same ∙ list_other sc w.done a f.read left i))

    module _ (z : left ≡ 0 → ⊥) where
      some_left : list_from left sc w.done a ≡ list_from (suc (left - 1)) sc w.done a
      some_left = let e : left ≡ suc (left - 1) = omega arith in ap (λ (l : ℕ). list_from l sc w.done a) e

      pub listing_room : Room sc.text n 0
      listing_room = record { short = w.room.short; within = f.lies.within w.room.within; room = omega arith }

      module _ (i : is (kind_of k) open_square ≡ true) where
        pub listing_refused : {s : Step} {e : Refusal} → s ≡ Err e → Refuses sc.text (listed sc n) (refusal_number e) (refusal_place e) → parsed_of nothing s ≡ place_only (plain_list sc at)
        listing_refused d r = rw d (sym (plain_refused sc at (w.same ∙ (some_left ∙ list_refused sc w.done a f.read (left - 1) i r))))

        module _ {before after : List ℕ} {h : Place} {t : ℕ} (x : Accepted sc.text bytes_c (listed sc n) 0 before after h t) where
          here : StandsAt sc.text h
          here = x.stands

          pub listing_last : (h.kind ≡ kind_number bar → ⊥) → place_only (plain_list sc at) ≡ expected sc.text (sign close_round) h.at
          listing_last j = plain_closed sc at (w.same ∙ (some_left ∙ list_last sc w.done a f.read (left - 1) i x.is here.read (untold here bar j)))

          pub listing_more : length sc.names ≤ 64 → h.kind ≡ kind_number bar → Listing sc at h.end (left - 1)
          listing_more few j =
              let r = room_after listing_room (listed_grown sc few n listing_room.within) x in
              let m = room_next r here in
              record {
                done = w.done ++ (x.tree ∷ []);
                same = w.same ∙ (some_left ∙ list_more sc w.done a f.read (left - 1) i x.is here.read (told here bar j));
                room = record { short = m.short; within = m.within; room = omega arith };
              }
