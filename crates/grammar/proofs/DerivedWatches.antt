-- Watches that are accepted are spelled by the tokens that were read. Assumes nothing.
use mathlib.Core.Path.{◌≡◌, refl, sym, ◌∙◌, subst}
use mathlib.Core.List.{List, [], ◌∷◌, ◌++◌, append_assoc, append-nil}
use mathlib.Core.Option.{none, some}
use Prim.Native.Nat.{ℕ, zero, suc, ◌≤◌}
use native.Mathlib.Omega.{arith}
use lib.ListN.{length}
use Rattle.limits.specs.Limits.{bracket_limit}
use Rattle.lexer.specs.Bytes.{bytes}
use Rattle.lexer.specs.Token.{kind_number, arrow, watch_word, is}
use Rattle.lexer.specs.Lexer.{token_at}
use Rattle.lexer.proofs.Laws.{cond_prop, token_at_moved}
use Rattle.lexer.proofs.Spellings.{is_fixed}
use Rattle.semantics.specs.Program.{Condition, Watch}
use Rattle.grammar.specs.Parsed.{Parsed, accepted, refused, phrase, followed}
use Rattle.grammar.specs.Expressions.{Scope}
use Rattle.grammar.specs.Conditions.{listed}
use Rattle.grammar.specs.Forms.{formula_closing, function_closing, watch_opening, later_opening}
use Rattle.grammar.specs.Watches.{later_at, after_first, watch_at, watches_from}
use Rattle.grammar.specs.Derivation.{Stands, Spells, SpellsC, normal, normals}
use Rattle.grammar.specs.Derivation as D
use Rattle.grammar.specs.Spelled.{SpellsWatch, alone, paired, SpellsWatches}
use Rattle.grammar.specs.Spelled as S
use Rattle.grammar.proofs.Combine.{token_prop, then_prop}
use Rattle.grammar.proofs.Standing.{spells_in, spells_append, normally}
use Rattle.grammar.proofs.Phrases.{signs, fixed_stands, phrase_spells, wanted_tokens}
use Rattle.grammar.proofs.Derived.{Derived, Derives, Closed, before, listed_derives}

module _ (sc : Scope) where
  -- `c]`
  abbrev InSquare : List (List ℕ) → Condition → Type 0
  InSquare ts c = Closed normally sc.text (SpellsC (normals sc.names) D.condition bracket_limit) (bytes "]") ts c

  -- what follows `watch: G([c]`, where `c]` has the tokens ts
  abbrev Following : List (List ℕ) → List (List ℕ) → Watch → Type 0
  Following ts us w = SpellsWatch (normals sc.names) (bytes "watch" ∷ wanted_tokens watch_opening ++ (ts ++ us)) w

  alone_is : (ts : List (List ℕ)) (c : Condition) → InSquare ts c → Following ts (wanted_tokens formula_closing) (record { first = c; later = none })
  alone_is ts c f = rw f.is_closed (alone f.inner c f.derives)

  paired_is : (ts us : List (List ℕ)) (c d : Condition) → InSquare ts c → InSquare us d → Following ts (bytes "->" ∷ wanted_tokens later_opening ++ (us ++ wanted_tokens function_closing)) (record { first = c; later = some d })
  paired_is ts us c d f g = rw (f.is_closed, g.is_closed) (paired f.inner g.inner c d f.derives g.derives)

  -- `X([c]));` after `->`
  later_derives : (ts : List (List ℕ)) (c : Condition) → InSquare ts c → (at : ℕ) → at ≤ length sc.text → Derives normally sc.text (λ us w. Following ts (bytes "->" ∷ us) w) at (later_at sc c at)
  unfolding later_at followed signs is_fixed kind_number
  later_derives ts c f at h =
      then_prop R (phrase sc.text later_opening at) _ (λ k q. tt)
      (λ u n1 e1.
      let s1 = phrase_spells normally sc.text later_opening refl tt at u n1 h e1 in
      let i1 = (spells_in normally sc.text at n1 (wanted_tokens later_opening) h s1).1 in
      then_prop R (listed sc n1) _ (λ k q. tt)
      (λ d n2 e2.
      let x = subst (Derives normally sc.text InSquare n1) e2 (listed_derives sc n1 i1) in
      let i2 = (spells_in normally sc.text n1 n2 x.tokens i1 x.spells).1 in
      then_prop R (phrase sc.text function_closing n2) _ (λ k q. tt)
      (λ u2 n3 e3.
      let s3 = phrase_spells normally sc.text function_closing refl tt n2 u2 n3 i2 e3 in
      record {
        tokens = wanted_tokens later_opening ++ (x.tokens ++ wanted_tokens function_closing);
        spells = spells_append normally sc.text at n1 n3 (wanted_tokens later_opening) (x.tokens ++ wanted_tokens function_closing) s1 (spells_append normally sc.text n1 n2 n3 x.tokens (wanted_tokens function_closing) x.spells s3);
        derives = paired_is ts x.tokens c d f x.derives;
      })))
    where
      R : Parsed Watch → Type 0
      R p = Derives normally sc.text (λ us w. Following ts (bytes "->" ∷ us) w) at p

  after_derives : (ts : List (List ℕ)) (c : Condition) → InSquare ts c → (at : ℕ) → at ≤ length sc.text → Derives normally sc.text (Following ts) at (after_first sc c at)
  unfolding after_first followed signs is_fixed kind_number
  after_derives ts c f at h =
      token_prop R (token_at sc.text at) _ (λ k q. tt)
      (λ k s n et.
      let mv = token_at_moved sc.text at k s n h et in
      cond_prop R (is k arrow) _ _
      (λ e. before normally sc.text (λ us w. Following ts (bytes "->" ∷ us) w) (Following ts) (bytes "->") (λ us w d. d) at n (fixed_stands normally sc.text arrow refl at k s n h et e) (later_at sc c n) (later_derives ts c f n mv.2))
      (λ e. then_prop R (phrase sc.text formula_closing at) _ (λ k q. tt)
      (λ u n1 e1. record { tokens = wanted_tokens formula_closing; spells = phrase_spells normally sc.text formula_closing refl tt at u n1 h e1; derives = alone_is ts c f })))
    where
      R : Parsed Watch → Type 0
      R p = Derives normally sc.text (Following ts) at p

  -- a watch, after its word
  pub watch_derives : (at : ℕ) → at ≤ length sc.text → Derives normally sc.text (λ ts w. SpellsWatch (normals sc.names) (bytes "watch" ∷ ts) w) at (watch_at sc at)
  unfolding watch_at signs is_fixed kind_number
  watch_derives at h =
      then_prop R (phrase sc.text watch_opening at) _ (λ k q. tt)
      (λ u n1 e1.
      let s1 = phrase_spells normally sc.text watch_opening refl tt at u n1 h e1 in
      let i1 = (spells_in normally sc.text at n1 (wanted_tokens watch_opening) h s1).1 in
      then_prop R (listed sc n1) _ (λ k q. tt)
      (λ c n2 e2.
      let x = subst (Derives normally sc.text InSquare n1) e2 (listed_derives sc n1 i1) in
      let i2 = (spells_in normally sc.text n1 n2 x.tokens i1 x.spells).1 in
      whole n1 n2 x.tokens s1 x.spells (after_first sc c n2) (after_derives x.tokens c x.derives n2 i2)))
    where
      R : Parsed Watch → Type 0
      R p = Derives normally sc.text (λ ts w. SpellsWatch (normals sc.names) (bytes "watch" ∷ ts) w) at p

      whole : (n1 n2 : ℕ) (ts : List (List ℕ)) → Spells normal sc.text at n1 (wanted_tokens watch_opening) → Spells normal sc.text n1 n2 ts → (p : Parsed Watch) → Derives normally sc.text (Following ts) n2 p → R p
      whole n1 n2 ts s1 s2 (accepted w m) d =
          record {
            tokens = wanted_tokens watch_opening ++ (ts ++ d.tokens);
            spells = spells_append normally sc.text at n1 m (wanted_tokens watch_opening) (ts ++ d.tokens) s1 (spells_append normally sc.text n1 n2 m ts d.tokens s2 d.spells);
            derives = d.derives;
          }
      whole n1 n2 ts s1 s2 (refused k q) d = tt

-- watches from a place to another, after those done, with so many left to read
pub record WatchesRead (text : List ℕ) (names : List (List ℕ)) (left : ℕ) (done : List Watch) (at end : ℕ) (ws : List Watch) : Type 0 where
  pub more : List Watch
  pub is_more : ws ≡ done ++ more
  pub tokens : List (List ℕ)
  pub spells : Spells normal text at end tokens
  pub derives : SpellsWatches (normals names) tokens more
  pub counted : length more ≤ left

abbrev pub WatchesReads : List ℕ → List (List ℕ) → ℕ → List Watch → ℕ → Parsed (List Watch) → Type 0
WatchesReads text names left done at (accepted ws n) = WatchesRead text names left done at n ws
WatchesReads text names left done at (refused k q) = Unit {0}

no_more : (text : List ℕ) (names : List (List ℕ)) (left : ℕ) (done : List Watch) (at : ℕ) → WatchesRead text names left done at at done
no_more text names left done at = record { more = []; is_more = sym (append-nil done); tokens = []; spells = refl; derives = S.SpellsWatches.none; counted = omega arith }

pub watches_derive : (left : ℕ) (sc : Scope) (done : List Watch) (at : ℕ) → at ≤ length sc.text → WatchesReads sc.text sc.names left done at (watches_from left sc done at)
unfolding watches_from is_fixed kind_number
watches_derive zero sc done at h =
    let R : Parsed (List Watch) → Type 0 = WatchesReads sc.text sc.names zero done at in
    token_prop R (token_at sc.text at) _ (λ k q. tt) (λ k s n et. cond_prop R (is k watch_word) _ _ (λ e. tt) (λ e. no_more sc.text sc.names zero done at))
watches_derive (suc left) sc done at h =
    token_prop R (token_at sc.text at) _ (λ k q. tt)
    (λ k s n et.
    let mv = token_at_moved sc.text at k s n h et in
    cond_prop R (is k watch_word) _ _
    (λ e. then_prop R (watch_at sc n) _ (λ k q. tt)
    (λ w m ew.
    let d = subst (Derives normally sc.text (λ ts w. SpellsWatch (normals sc.names) (bytes "watch" ∷ ts) w) n) ew (watch_derives sc n mv.2) in
    let i = (spells_in normally sc.text n m d.tokens mv.2 d.spells).1 in
    next n m w (fixed_stands normally sc.text watch_word refl at k s n h et e) d (watches_from left sc (done ++ (w ∷ [])) m) (watches_derive left sc (done ++ (w ∷ [])) m i)))
    (λ e. no_more sc.text sc.names (suc left) done at))
  where
    R : Parsed (List Watch) → Type 0
    R p = WatchesReads sc.text sc.names (suc left) done at p

    next : (n m : ℕ) (w : Watch) → Stands normal sc.text at n (bytes "watch") → Derived normally sc.text (λ ts w. SpellsWatch (normals sc.names) (bytes "watch" ∷ ts) w) n m w → (p : Parsed (List Watch)) → WatchesReads sc.text sc.names left (done ++ (w ∷ [])) m p → R p
    next n m w st d (accepted ws i) q =
        record {
          more = w ∷ q.more;
          is_more = q.is_more ∙ append_assoc done (w ∷ []) q.more;
          tokens = (bytes "watch" ∷ d.tokens) ++ q.tokens;
          spells = spells_append normally sc.text at m i (bytes "watch" ∷ d.tokens) q.tokens (n, st, d.spells) q.spells;
          derives = S.SpellsWatches.more (bytes "watch" ∷ d.tokens) q.tokens w q.more d.derives q.derives;
          counted = omega (arith, q.counted);
        }
    next n m w st d (refused k p) q = tt
