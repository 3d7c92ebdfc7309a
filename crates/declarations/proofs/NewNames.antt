-- Laws of a new name: the ways through its tests, and the table with it. Assumes nothing.
use mathlib.Core.Path.{◌≡◌, refl, sym, ap, ◌∙◌}
use mathlib.Core.Bool.{true, false, false≢true}
use mathlib.Core.List.{List, [], ◌∷◌, ◌++◌}
use mathlib.Core.Option.{none, some}
use mathlib.Core.Option as O
use Prim.Native.Nat.{ℕ, ◌≤◌, ◌<◌}
use native.Mathlib.Numerals.{add-one}
use native.Mathlib.Omega.{arith}
use lib.ListN.{length, get_or, set}
use lib.Seq.{get_or-set_same, get_or-set_other}
use borrow.Author.Tests.{lt-ltb, le-ltb}
use Rattle.limits.specs.Limits.{name_limit, no_token, not_allowed, wrong_name, too_many}
use Rattle.lexer.specs.Bytes.{part}
use Rattle.lexer.specs.Token.{Kind, name, is, token, fault}
use Rattle.lexer.specs.Lexer.{token_at, over_long}
use Rattle.lexer.specs.Names.{id_of, table_names}
use Rattle.lexer.proofs.Table.{names-add}
use Rattle.semantics.specs.Program.{Name}
use Rattle.grammar.specs.Parsed.{accepted, refused}
use Rattle.grammar.specs.Declarations.{spellings, new_name}
use Rattle.lexer.specs.Results.{reached_at, found_id}
use Rattle.lexer.specs.declared.Place.{Place}
use Rattle.lexer.specs.Results.{Step}
use Rattle.std.specs.Prelude.{Ok, Err, Option, Some, None, is_some}
use Rattle.limits.specs.declared.Refusal.{Refusal}
use Rattle.limits.specs.declared.Refusal.TheVariants.{NoToken, NotAllowed, TooMany, WrongName}
use Rattle.limits.specs.Refusals.{refusal_number, refusal_place}
use Rattle.grammar.proofs.Combine.{same_value, same_end, never}
use Rattle.declarations.specs.Inner.Tables.{TableRoom, TableHolds, Names}
use Rattle.declarations.proofs.Entries.{step_refused}

-- ---- the definition, test by test

module _ (text : List ℕ) (names : List Name) (at : ℕ) where
  name_fault : (p : ℕ) → token_at text at ≡ fault p → new_name text names at ≡ refused no_token p
  unfolding new_name
  name_fault p e = rw e

  module _ (k : Kind) (s n : ℕ) (e : token_at text at ≡ token k s n) where
    no_name : is k name ≡ false → new_name text names at ≡ refused not_allowed s
    unfolding new_name
    no_name f = rw (e, f)

    module _ (f : is k name ≡ true) where
      known_name : (i : ℕ) → id_of (spellings names) (part text s n) ≡ some i → new_name text names at ≡ refused wrong_name s
      unfolding new_name
      known_name i g = rw (e, f, g)

      module _ (g : id_of (spellings names) (part text s n) ≡ none) where
        long_name : over_long s n ≡ true → new_name text names at ≡ refused too_many s
        unfolding new_name
        long_name l = rw (e, f, g, l)

        last_name : over_long s n ≡ false → name_limit ≤ length names → new_name text names at ≡ refused too_many s
        unfolding new_name
        last_name l h = rw (e, f, g, l, le-ltb _ _ h)

        fresh_name : over_long s n ≡ false → length names < name_limit → new_name text names at ≡ accepted (part text s n) n
        unfolding new_name
        fresh_name l h = rw (e, f, g, l, lt-ltb _ _ h)

-- ---- an id that was looked for

pub an_id : (o : Option ℕ) {i : O.Option ℕ} → i ≡ found_id o → is_some o ≡ true → (n : ℕ) × (i ≡ some n)
an_id (Some n) e f = (n, e)
an_id None e f = absurd (false≢true f)

pub no_id : (o : Option ℕ) {i : O.Option ℕ} → i ≡ found_id o → is_some o ≡ false → i ≡ none
no_id (Some n) e f = absurd (false≢true (sym f))
no_id None e f = e

-- ---- the answer

module _ (text starts ends : List ℕ) (at count : ℕ) (starts' ends' : List ℕ) where
  abbrev Answers : Step → Type 0
  Answers r = ((names : List Name) → TableHolds text starts ends count names → Names text names at count ends starts' ends' r) × ((x : Place) → r ≡ Ok x → count < 64)

  refuses : {r : Step} (e : Refusal) → r ≡ Err e → ((names : List Name) → TableHolds text starts ends count names → new_name text names at ≡ refused (refusal_number e) (refusal_place e)) → Answers r
  refuses e g f =
      (λ names h. record { answer = rw (g, f names h); named = λ w n i. never _ _ n w (sym (f names h) ∙ i); ended = λ w n i. never _ _ n w (sym (f names h) ∙ i) }, λ x i. step_refused (sym g ∙ i))

  pub faulty_name : {r : Step} (e : Refusal) → r ≡ Err e → (token_at text at ≡ fault (refusal_place e)) × (e ≡ NoToken (refusal_place e)) → Answers r
  faulty_name e g f = refuses _ (g ∙ ap Err f.1) (λ names h. name_fault text names at (refusal_place e) f.0)

  module _ (k : Kind) (s n : ℕ) (e : token_at text at ≡ token k s n) where
    pub refuses_other : is k name ≡ false → Answers (Err (NotAllowed s))
    refuses_other f = refuses (NotAllowed s) refl (λ names h. no_name text names at k s n e f)

    module _ (f : is k name ≡ true) where
      pub refuses_known : (i : ℕ) → id_of (table_names text starts ends count) (part text s n) ≡ some i → Answers (Err (WrongName s))
      refuses_known i g = refuses (WrongName s) refl (λ names h. known_name text names at k s n e f i (rw h.spelled at g))

      module _ (g : id_of (table_names text starts ends count) (part text s n) ≡ none) where
        pub refuses_long : over_long s n ≡ true → Answers (Err (TooMany s))
        refuses_long l = refuses (TooMany s) refl (λ names h. long_name text names at k s n e f (rw h.spelled at g) l)

        pub refuses_last : over_long s n ≡ false → name_limit ≤ count → Answers (Err (TooMany s))
        refuses_last l m = refuses (TooMany s) refl (λ names h. last_name text names at k s n e f (rw h.spelled at g) l (omega (arith, h.counted)))

        pub takes_name : over_long s n ≡ false → count < name_limit → TableRoom starts ends count → (starts' ≡ set starts count s) × (ends' ≡ set ends count n) → {r : Step} → r ≡ reached_at n 0 0 → Answers r
        takes_name l m room a d = (
          λ names h.
              let fresh = fresh_name text names at k s n e f (rw h.spelled at g) l (omega (arith, h.counted)) in
              record {
                answer = rw (d, fresh);
                named = λ w q i. rw (a.0, a.1, add-one count) (names-add text starts ends count s n (omega (arith, room.in_starts)) (omega (arith, room.in_ends))) ∙ ap (λ (x : List (List ℕ)). x ++ (part text s n ∷ [])) h.spelled ∙ ap (λ (x : List ℕ). spellings names ++ (x ∷ [])) (same_value (sym fresh ∙ i));
                ended = λ w q i. (ap (λ (l : List ℕ). get_or l count 0) a.1 ∙ get_or-set_same ends count n 0 (omega (arith, room.in_ends)) ∙ same_end (sym fresh ∙ i), λ j b. ap (λ (l : List ℕ). get_or l j 0) a.1 ∙ get_or-set_other ends count j n 0 (omega (arith, b)));
              },
          λ q i. m,
        )
