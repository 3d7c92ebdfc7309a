-- Laws of a declaration: its name, then its range. Assumes nothing.
use mathlib.Core.Path.{◌≡◌, refl, sym, ap, ◌∙◌}
use mathlib.Core.List.{List, [], ◌∷◌, ◌++◌}
use Prim.Native.Nat.{ℕ, ◌+◌, ◌≤◌, ◌<◌}
use native.Mathlib.Omega.{arith}
use lib.ListN.{get_or, length-append}
use Rattle.semantics.specs.Program.{Name, Range}
use Rattle.grammar.specs.Parsed.{Parsed, accepted, refused, and_then}
use Rattle.grammar.specs.Declarations.{spellings, new_name, declaration}
use Rattle.grammar.specs.Inner.Bytes.{header}
use Rattle.lexer.specs.declared.Place.{Place}
use Rattle.lexer.specs.Results.{Step}
use Rattle.std.specs.Prelude.{Ok, Err}
use Rattle.limits.specs.declared.Refusal.{Refusal}
use Rattle.limits.specs.Refusals.{refusal_number, refusal_place}
use Rattle.phrases.specs.Inner.Steps.{parsed_of, nothing, answered, Writes}
use Rattle.phrases.proofs.Writing.{got, refuses}
use Rattle.grammar.proofs.Combine.{then_then, never}
use Rattle.declarations.specs.Inner.Ranges.{declared_range, range_bytes}
use Rattle.declarations.specs.Inner.Tables.{TableHolds, Names, DeclaresOne}
use Rattle.declarations.proofs.Numbers.{range_bytes_lem}
use Rattle.declarations.proofs.Steps.{After, after, refused_then}
use Rattle.declarations.proofs.Standing.{stand_kept, stand_more}

-- the name with spelling w
abbrev spelled_as : List ℕ → Range → Name
spelled_as w r = record { spelling = w; range = r }

-- ---- the definition: a new name, then its range

no_new_name : (text : List ℕ) (names : List Name) (at k p : ℕ) → new_name text names at ≡ refused k p → declaration text names at ≡ refused k p
unfolding declaration
no_new_name text names at k p e = rw e

named-range : (text : List ℕ) (names : List Name) (at : ℕ) (w : List ℕ) (n : ℕ) → new_name text names at ≡ accepted w n → declaration text names at ≡ and_then (declared_range text n) (λ r m. accepted (spelled_as w r) m)
unfolding declaration declared_range
named-range text names at w n e = rw e (simp then_then)

-- no more than fifteen bytes are written
pub few_bytes : (p : Parsed Range) (to : ℕ) (before after' : List ℕ) (r : Step) (x : Place) → Writes range_bytes nothing (λ _. tt) p to before after' r → r ≡ Ok x → x.to ≤ to + 15
few_bytes p to before after' r x h g = let a = got h g in omega (arith, a.ended, range_bytes_lem a.tree)

-- ---- the answer

pub spellings_more : (names : List Name) (x : Name) → spellings (names ++ (x ∷ [])) ≡ spellings names ++ (x.spelling ∷ [])
spellings_more [] x = refl
spellings_more (y ∷ names) x = ap (λ (l : List (List ℕ)). y.spelling ∷ l) (spellings_more names x)

pub step_refused : {e : Refusal} {x : Place} {A : Type 0} → ◌≡◌ {A = Step} (Err e) (Ok x) → A
step_refused h = let z : ◌≡◌ {A = ℕ} 0 1 = cc in absurd (omega arith)

module _ (text starts ends : List ℕ) (at to count : ℕ) (before mid starts' ends' : List ℕ) where
  abbrev Answers : Step → Type 0
  Answers r = ((names : List Name) → TableHolds text starts ends count names → DeclaresOne text names at to count before mid ends starts' ends' r) × ((x : Place) → r ≡ Ok x → (count < 64) × (x.to ≤ to + 15))

  module _ {named : Step} (h : (names : List Name) → TableHolds text starts ends count names → Names text names at count ends starts' ends' named) where
    pub unnamed : {e : Refusal} → named ≡ Err e → Answers named
    unnamed {e} g = (
      λ names held.
          let i = no_new_name text names at _ _ (refused_then (λ (x : List ℕ). tt {0}) (new_name text names at) (refusal_number e) (refusal_place e) (sym (h names held).answer ∙ ap (parsed_of nothing) g)) in
          record { writes = refuses g i; named = λ y n f. never _ _ n y (sym i ∙ f); ranged = λ stand y n f. never _ _ n y (sym i ∙ f) },
      λ y f. step_refused (sym g ∙ f),
    )

    module _ {next : Place} (g : named ≡ Ok next) {r : Step} (w : Writes range_bytes nothing (λ _. tt) (declared_range text next.at) to before mid r) where
      module _ (names : List Name) (held : TableHolds text starts ends count names) where
        new : After (λ (x : List ℕ). tt {0}) (new_name text names at) tt next.at
        new = after (λ (x : List ℕ). tt {0}) (new_name text names at) tt next.at (sym (h names held).answer ∙ ap (parsed_of nothing) g)

        is : declaration text names at ≡ and_then (declared_range text next.at) (λ r m. accepted (spelled_as new.0 r) m)
        is = named-range text names at new.0 next.at new.1

        declared : DeclaresOne text names at to count before mid ends starts' ends' r
        unfolding header range_bytes
        declared = record {
          writes = record {
            answer = w.answer ∙ sym (ap (λ (p : Parsed Name). and_then p (answered (λ (x : Name). header (x ∷ [])) (λ (x : Name). tt {0}) to)) is ∙ then_then (declared_range text next.at) _ _);
            wrote = λ x m f. let a = after (spelled_as new.0) (declared_range text next.at) x m (sym is ∙ f) in rw a.2 (w.wrote a.0 m a.1);
          };
          named = λ x m f.
              let a = after (spelled_as new.0) (declared_range text next.at) x m (sym is ∙ f) in
              record {
                counted = simp length-append (omega (arith, held.counted));
                spelled = (h names held).named new.0 next.at new.1 ∙ sym (spellings_more names x ∙ ap (λ (y : Name). spellings names ++ (y.spelling ∷ [])) a.2);
              };
          ranged = λ stand x m f.
              let a = after (spelled_as new.0) (declared_range text next.at) x m (sym is ∙ f) in
              let k = (h names held).ended new.0 next.at new.1 in
              let own : declared_range text (get_or ends' count 0) ≡ accepted x.range m = ap (declared_range text) k.0 ∙ a.1 ∙ ap (λ (y : Name). accepted y.range m) (sym a.2) in
              stand_more text ends' names x (stand_kept text ends ends' 0 names (λ j l b. k.1 j (omega (arith, b, held.counted))) stand) (m, ap (λ (j : ℕ). declared_range text (get_or ends' j 0)) (sym held.counted) ∙ own);
        }

      pub entered : count < 64 → Answers r
      entered few = (declared, λ x f. (few, few_bytes (declared_range text next.at) to before mid r x w f))
