-- Laws of the loop over declarations: what it has read makes the whole with what is left. Assumes nothing.
use mathlib.Core.Path.{◌≡◌, refl, sym, ap, ap₂, subst, ◌∙◌}
use mathlib.Core.Bool.{true, false}
use mathlib.Core.List.{List, [], ◌∷◌, ◌++◌, append_assoc, append-nil}
use Prim.Native.Nat.{ℕ, suc, ◌+◌, ◌-◌, ◌*◌, ◌≤◌, ◌<◌}
use native.Mathlib.Omega.{arith}
use lib.ListN.{length, drop, length-append}
use lib.Seq.{sets, drop-append_seam}
use Rattle.limits.specs.Limits.{no_token}
use Rattle.lexer.specs.Token.{Kind, is, token, fault}
use Rattle.lexer.specs.Lexer.{token_at}
use Rattle.lexer.specs.Results.{reached_at}
use Rattle.lexer.specs.declared.Place.{Place}
use Rattle.lexer.specs.Results.{Step}
use Rattle.std.specs.Prelude.{Ok, Err}
use Rattle.limits.specs.declared.Refusal.{Refusal}
use Rattle.limits.specs.declared.Refusal.TheVariants.{NoToken}
use Rattle.limits.specs.Refusals.{refusal_number, refusal_place}
use Rattle.semantics.specs.Program.{Name}
use Rattle.grammar.specs.Parsed.{accepted, refused}
use Rattle.grammar.specs.Declarations.{declaration, declarations_from, declarations}
use Rattle.grammar.specs.Inner.Bytes.{header}
use Rattle.phrases.proofs.Writing.{got, refused_part, writes}
use Rattle.phrases.proofs.Writing as W
use Rattle.leb128.proofs.Stores.{sets_append}
use Rattle.grammar.proofs.Combine.{same_value, never}
use Rattle.declarations.specs.Inner.Tables.{TableRoom, TableHolds, RangesBehind, DeclaresOne, header_after, DeclaresAll, FewDeclared}

pub header_append : (l k : List Name) → header (l ++ k) ≡ header l ++ header k
unfolding header
header_append [] k = refl
header_append (x ∷ l) k = simp append_assoc (rw (header_append l k))

-- ---- one turn of the definition

module _ (fuel : ℕ) (word : Kind) (text : List ℕ) (all : List Name) (at : ℕ) where
  turn_fault : (p : ℕ) → token_at text at ≡ fault p → declarations_from (suc fuel) word text all at ≡ refused no_token p
  unfolding declarations_from
  turn_fault p e = rw e

  module _ (k : Kind) (s n : ℕ) (e : token_at text at ≡ token k s n) where
    turn_end : is k word ≡ false → declarations_from (suc fuel) word text all at ≡ accepted all at
    unfolding declarations_from
    turn_end f = rw (e, f)

    turn_refused : (r p : ℕ) → is k word ≡ true → declaration text all n ≡ refused r p → declarations_from (suc fuel) word text all at ≡ refused r p
    unfolding declarations_from
    turn_refused r p f g = rw (e, f, g)

    turn_more : (x : Name) (m : ℕ) → is k word ≡ true → declaration text all n ≡ accepted x m → declarations_from (suc fuel) word text all at ≡ declarations_from fuel word text (all ++ (x ∷ [])) m
    unfolding declarations_from
    turn_more x m f g = rw (e, f, g)

-- ---- the loop has come to the place a, with the names declared here, and their bytes from `to` up to t

pub record Going (word : Kind) (text : List ℕ) (names : List Name) (at to : ℕ) (before ends₀ starts ends after : List ℕ) (a known t : ℕ) : Type 0 where
  pub fuel : ℕ
  pub enough : 64 ≤ fuel + known
  pub new : List Name
  pub held : TableHolds text starts ends known (names ++ new)
  pub stand : RangesBehind text ends₀ 0 names → RangesBehind text ends 0 (names ++ new)
  pub goes : declarations word text names at ≡ declarations_from (suc fuel) word text (names ++ new) a
  pub ended : t ≡ to + length (header new)
  pub wrote : after ≡ sets before to (header new)

module _ (word : Kind) (text : List ℕ) (names : List Name) (at to : ℕ) (before : List ℕ) where
  pub begins : (starts₀ ends₀ : List ℕ) (count : ℕ) → TableHolds text starts₀ ends₀ count names → Going word text names at to before ends₀ starts₀ ends₀ before at count to
  unfolding declarations header
  begins starts₀ ends₀ count h = record {
    fuel = 64;
    enough = omega arith;
    new = [];
    held = rw append-nil h;
    stand = λ r. rw append-nil r;
    goes = rw append-nil;
    ended = omega arith;
    wrote = refl;
  }

  refuses : (after' ends₀ starts ends : List ℕ) {r : Step} (e : Refusal) → r ≡ Err e → declarations word text names at ≡ refused (refusal_number e) (refusal_place e) → DeclaresAll word text names at to before after' ends₀ starts ends r
  refuses after' ends₀ starts ends e h f = record { writes = W.refuses h f; named = λ all n g. never _ _ n all (sym f ∙ g); ranged = λ stand all n g. never _ _ n all (sym f ∙ g) }

  module _ (ends₀ starts ends after' : List ℕ) (a known t : ℕ) (g : Going word text names at to before ends₀ starts ends after' a known t) where
    pub stops_fault : {r : Step} {e : Refusal} → r ≡ Err e → (token_at text a ≡ fault (refusal_place e)) × (e ≡ NoToken (refusal_place e)) → DeclaresAll word text names at to before after' ends₀ starts ends r
    stops_fault {e = e} h f = refuses after' ends₀ starts ends _ (h ∙ ap Err f.1) (g.goes ∙ turn_fault g.fuel word text (names ++ g.new) a (refusal_place e) f.0)

    module _ (k : Kind) (s n : ℕ) (e : token_at text a ≡ token k s n) where
      pub ends_all : {r : Step} → r ≡ reached_at a t known → is k word ≡ false → DeclaresAll word text names at to before after' ends₀ starts ends r
      unfolding header_after
      ends_all i f =
          let d = g.goes ∙ turn_end g.fuel word text (names ++ g.new) a k s n e f in
          let seam : drop (length names) (names ++ g.new) ≡ g.new = drop-append_seam names g.new in
          record {
            writes = writes i (record { tree = names ++ g.new; is = d; ended = rw seam g.ended; tells_it = g.held.counted; wrote = rw seam g.wrote });
            named = λ all m j. subst (λ (l : List Name). TableHolds text starts ends (length l) l) (same_value (sym d ∙ j)) (rw g.held.counted at g.held);
            ranged = λ r all m j. subst (λ (l : List Name). RangesBehind text ends 0 l) (same_value (sym d ∙ j)) (g.stand r);
          }

      module _ (f : is k word ≡ true) (mid starts' ends' : List ℕ) where
        module _ {one : Step} (d : DeclaresOne text (names ++ g.new) n t known after' mid ends starts' ends' one) where
          pub stops_at : {x : Refusal} → one ≡ Err x → DeclaresAll word text names at to before mid ends₀ starts' ends' one
          stops_at h = refuses mid ends₀ starts' ends' _ h (g.goes ∙ turn_refused g.fuel word text (names ++ g.new) a k s n e _ _ f (refused_part d.writes h))

          pub more : {x : Place} → known < 64 → one ≡ Ok x → Going word text names at to before ends₀ starts' ends' mid x.at (known + 1) x.to
          more {x} few h =
              let y = got d.writes h in
              let bytes = header_append g.new (y.tree ∷ []) in
              let fuel' : g.fuel ≡ suc (g.fuel - 1) = omega (arith, g.enough) in
              let left : declarations_from g.fuel word text ((names ++ g.new) ++ (y.tree ∷ [])) x.at ≡ declarations_from (suc (g.fuel - 1)) word text (names ++ (g.new ++ (y.tree ∷ []))) x.at = rw (append_assoc, ← fuel') in
              let placed : sets after' t (header (y.tree ∷ [])) ≡ sets (sets before to (header g.new)) (to + length (header g.new)) (header (y.tree ∷ [])) = ap₂ (λ (l : List ℕ) (i : ℕ). sets l i (header (y.tree ∷ []))) g.wrote g.ended in
              record {
                fuel = g.fuel - 1;
                enough = omega (arith, g.enough);
                new = g.new ++ (y.tree ∷ []);
                held = rw append_assoc at (d.named y.tree x.at y.is);
                stand = λ r. rw append_assoc at (d.ranged (g.stand r) y.tree x.at y.is);
                goes = g.goes ∙ turn_more g.fuel word text (names ++ g.new) a k s n e y.tree x.at f y.is ∙ left;
                ended = rw bytes (simp length-append (omega (arith, y.ended, g.ended)));
                wrote = rw bytes (d.writes.wrote y.tree x.at y.is ∙ placed ∙ sym (sets_append before to (header g.new) (header (y.tree ∷ []))));
              }

-- a refusal says nothing of them, and the end of the loop what holds there
pub few_refused : (to : ℕ) {r : Step} {e : Refusal} → r ≡ Err e → FewDeclared to r
few_refused to e = rw e tt

pub few_reached : (to : ℕ) {r : Step} {a t known : ℕ} → r ≡ reached_at a t known → known ≤ 64 → t ≤ to + 15 * known → FewDeclared to r
few_reached to e h i = rw e (h, i)

-- ---- the invariant: as many names as there may be, no more than fifteen bytes for each, and the loop going on from any list of names
-- that the table held first

pub record Turning (word : Kind) (text : List ℕ) (at to : ℕ) (before starts₀ ends₀ : List ℕ) (count : ℕ) (starts ends after : List ℕ) (a known t : ℕ) : Type 0 where
  pub few : known ≤ 64
  pub bytes : t ≤ to + 15 * known
  pub starts_kept : length starts ≡ length starts₀
  pub ends_kept : length ends ≡ length ends₀
  pub after_kept : length after ≡ length before
  pub going : (names : List Name) → TableHolds text starts₀ ends₀ count names → Going word text names at to before ends₀ starts ends after a known t

module _ (word : Kind) (text : List ℕ) (at to : ℕ) (before starts₀ ends₀ : List ℕ) (count : ℕ) where
  pub turning : TableRoom starts₀ ends₀ count → Turning word text at to before starts₀ ends₀ count starts₀ ends₀ before at count to
  turning r = record {
    few = r.few;
    bytes = omega arith;
    starts_kept = refl;
    ends_kept = refl;
    after_kept = refl;
    going = λ names h. begins word text names at to before starts₀ ends₀ count h;
  }

  module _ (starts ends after' : List ℕ) (a known t : ℕ) (g : Turning word text at to before starts₀ ends₀ count starts ends after' a known t) where
    pub room : TableRoom starts₀ ends₀ count → TableRoom starts ends known
    room r = record { few = g.few; in_starts = omega (arith, r.in_starts, g.starts_kept); in_ends = omega (arith, r.in_ends, g.ends_kept) }

    module _ (k : Kind) (s n : ℕ) (e : token_at text a ≡ token k s n) (f : is k word ≡ true) (mid starts' ends' : List ℕ) {one : Step}
        (d : (names : List Name) → TableHolds text starts ends known names → DeclaresOne text names n t known after' mid ends starts' ends' one)
        (l : (x : Place) → one ≡ Ok x → (known < 64) × (x.to ≤ t + 15))
      where
        pub turns-out : {x : Refusal} → one ≡ Err x → (names : List Name) → TableHolds text starts₀ ends₀ count names → DeclaresAll word text names at to before mid ends₀ starts' ends' one
        turns-out h names held =
            let go = g.going names held in
            stops_at word text names at to before ends₀ starts ends after' a known t go k s n e f mid starts' ends' (d (names ++ go.new) go.held) h

        pub turns_on : {y : Place} → one ≡ Ok y → length starts' ≡ length starts → length ends' ≡ length ends → length mid ≡ length after' → Turning word text at to before starts₀ ends₀ count starts' ends' mid y.at (known + 1) y.to
        turns_on {y} h x z w =
            let m = l y h in
            record {
              few = omega (arith, m.0);
              bytes = omega (arith, m.1, g.bytes);
              starts_kept = x ∙ g.starts_kept;
              ends_kept = z ∙ g.ends_kept;
              after_kept = w ∙ g.after_kept;
              going = λ names held. let go = g.going names held in
                  more word text names at to before ends₀ starts ends after' a known t go k s n e f mid starts' ends' (d (names ++ go.new) go.held) m.0 h;
            }
