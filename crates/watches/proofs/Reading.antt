-- The ways through the loop of watches. Assumes nothing.
use mathlib.Core.Path.{◌≡◌, refl, ap, ap₂, sym, ◌∙◌, subst}
use mathlib.Core.Bool.{true, false}
use mathlib.Core.List.{List, [], ◌∷◌, ◌++◌}
use Prim.Native.Nat.{ℕ, zero, suc, ◌+◌, ◌-◌, ◌≤◌}
use native.Mathlib.Omega.{arith}
use lib.IntN.{pos}
use lib.ListN.{length, length-append}
use Rattle.limits.specs.Limits.{watch_limit, no_token, too_many_watches}
use Rattle.lexer.specs.Token.{Kind, kind_number, watch_word, is, token, fault}
use Rattle.lexer.specs.Lexer.{token_at}
use Rattle.lexer.specs.Results.{kind_of}
use Rattle.lexer.specs.declared.Place.{Place}
use Rattle.lexer.specs.Results.{Step}
use Rattle.std.specs.Prelude.{Ok, Err}
use Rattle.limits.specs.declared.Refusal.{Refusal}
use Rattle.limits.specs.declared.Refusal.TheVariants.{NoToken, TooManyWatches}
use Rattle.limits.specs.Refusals.{refusal_number, refusal_place}
use Rattle.lexer.proofs.KindNumbers.{kind_number_lem}
use Rattle.semantics.specs.Program.{Watch}
use Rattle.grammar.specs.Parsed.{accepted, refused}
use Rattle.grammar.specs.Expressions.{Scope}
use Rattle.grammar.specs.Watches.{watch_at, watches_from}
use Rattle.grammar.proofs.Size.{Pays}
use Rattle.expressions.specs.Inner.Steps.{Room, looked_ahead}
use Rattle.expressions.specs.Inner.Readers.{StandsAt}
use Rattle.expressions.proofs.Steps.{told, untold, refused_now, room_next}
use Rattle.phrases.specs.Inner.Steps.{Writes}
use Rattle.phrases.proofs.Writing.{writes, refuses}
use Rattle.cases.proofs.Listing.{Found}
use Rattle.watches.specs.Inner.Codes.{no_code, watches_told, watches_behind}
use Rattle.watches.proofs.Sizes.{watch_bytes, watch_pays}

-- ---- watches with `left` of them left to read

module _ (sc : Scope) (done : List Watch) (a : ℕ) where
  pub watches_fault : {q : ℕ} (left : ℕ) → token_at sc.text a ≡ fault q → watches_from left sc done a ≡ refused no_token q
  unfolding watches_from
  watches_fault zero e = rw e
  watches_fault (suc left) e = rw e

  module _ {k : Kind} {s n : ℕ} (e : token_at sc.text a ≡ token k s n) where
    pub watches_end : (left : ℕ) → is k watch_word ≡ false → watches_from left sc done a ≡ accepted done a
    unfolding watches_from
    watches_end zero i = rw (e, i)
    watches_end (suc left) i = rw (e, i)

    module _ (i : is k watch_word ≡ true) where
      watches_full : watches_from 0 sc done a ≡ refused too_many_watches s
      unfolding watches_from
      watches_full = rw (e, i)

      module _ (left : ℕ) where
        pub watches_refused : {l q : ℕ} → watch_at sc n ≡ refused l q → watches_from (suc left) sc done a ≡ refused l q
        unfolding watches_from
        watches_refused g = rw (e, i, g)

        pub watches_more : {w : Watch} {m : ℕ} → watch_at sc n ≡ accepted w m → watches_from (suc left) sc done a ≡ watches_from left sc (done ++ (w ∷ [])) m
        unfolding watches_from
        watches_more g = rw (e, i, g)

-- ---- the loop

-- a token at hand
abbrev pub token_place : ℕ → ℕ → ℕ → ℕ → Place
token_place a k s n = record { at = a; kind = k; start = s; end = n; to = 0; number = 0; value = pos 0 }

-- what was read so far, with the token behind it
pub record Reading (sc : Scope) (at a k s n count : ℕ) : Type 0 where
  pub done : List Watch
  pub counted : length done ≡ count
  pub few : count ≤ watch_limit
  pub same : watches_from watch_limit sc [] at ≡ watches_from (watch_limit - count) sc done a
  pub room : Room sc.text a 0
  pub stands : StandsAt sc.text (token_place a k s n)

pub reading_first : (sc : Scope) (h : Place) → Room sc.text h.at 0 → StandsAt sc.text h → Reading sc h.at h.at h.kind h.start h.end 0
reading_first sc h r st = record { done = []; counted = refl; few = omega arith; same = refl; room = r; stands = record { kind = st.kind; read = st.read; numbered = st.numbered } }

module _ {sc : Scope} {at a k s n count : ℕ} (x : Reading sc at a k s n count) where
  abbrev Answer : Step → Type 0
  Answer r = Writes no_code watches_told watches_behind (looked_ahead sc.text (watches_from watch_limit sc [] at)) 0 [] [] r

  pub reading_end : (k ≡ kind_number watch_word → ⊥) → Answer (Ok (record { at = a; kind = k; start = s; end = n; to = 0; number = count; value = pos 0 }))
  unfolding looked_ahead
  reading_end i = writes refl (record {
    tree = record { part = x.done; kind = x.stands.kind; start = s; end = n };
    is = rw (x.same ∙ watches_end sc x.done a x.stands.read (watch_limit - count) (untold x.stands watch_word i), x.stands.read);
    ended = omega arith;
    tells_it = ap₂ (λ (c w : ℕ). (c, w, s, n)) (sym x.counted) x.stands.numbered;
    wrote = refl;
  })

  module _ (i : k ≡ kind_number watch_word) where
    pub reading_full : count ≡ watch_limit → Answer (Err (TooManyWatches s))
    reading_full z =
        let e : watch_limit - count ≡ 0 = omega arith in
        refuses refl (refused_now (x.same ∙ (ap (λ (l : ℕ). watches_from l sc x.done a) e ∙ watches_full sc x.done a x.stands.read (told x.stands watch_word i)))).looked

    pub reading_room : Room sc.text n 0
    reading_room = room_next x.room x.stands

    module _ (z : count ≡ watch_limit → ⊥) where
      some_left : watches_from (watch_limit - count) sc x.done a ≡ watches_from (suc (watch_limit - (count + 1))) sc x.done a
      some_left = let e : watch_limit - count ≡ suc (watch_limit - (count + 1)) = omega (arith, x.few) in ap (λ (l : ℕ). watches_from l sc x.done a) e

      pub reading_refused : {r : Step} {e : Refusal} → r ≡ Err e → watch_at sc n ≡ refused (refusal_number e) (refusal_place e) → Answer r
      reading_refused d e = refuses d (refused_now (x.same ∙ (some_left ∙ watches_refused sc x.done a x.stands.read (told x.stands watch_word i) (watch_limit - (count + 1)) e))).looked

      module _ {w : Watch} {m : ℕ} (e : watch_at sc n ≡ accepted w m) where
        more : watches_from watch_limit sc [] at ≡ watches_from (watch_limit - (count + 1)) sc (x.done ++ (w ∷ [])) m
        more = x.same ∙ (some_left ∙ watches_more sc x.done a x.stands.read (told x.stands watch_word i) (watch_limit - (count + 1)) e)

        pub reading_fault : {r : Step} {e : Refusal} → r ≡ Err e → (token_at sc.text m ≡ fault (refusal_place e)) × (e ≡ NoToken (refusal_place e)) → Answer r
        reading_fault d f = refuses (d ∙ ap Err f.1) (refused_now (more ∙ watches_fault sc (x.done ++ (w ∷ [])) m (watch_limit - (count + 1)) f.0)).looked

        pub reading_more : length sc.names ≤ 64 → {k2 s2 n2 : ℕ} → Found sc.text m k2 s2 n2 → Reading sc at m k2 s2 n2 (count + 1)
        reading_more few f = record {
          done = x.done ++ (w ∷ []);
          counted = length-append x.done (w ∷ []) ∙ ap (λ (y : ℕ). y + 1) x.counted;
          few = omega (arith, x.few, z);
          same = more;
          room = record { short = x.room.short; within = (subst (Pays watch_bytes (length sc.text) n) e (watch_pays sc few n reading_room.within)).1; room = omega arith };
          stands = record { kind = kind_of _; read = f.read; numbered = sym (kind_number_lem _ f.lies.known_kind) };
        }
