-- Rule sets do not meet: each answers and is left as if it were alone. Assumes nothing.
use Prim.Native.Nat.{ℕ, zero, suc}
use native.Mathlib.Omega.{arith}
use mathlib.Core.Path.{◌≡◌, refl, ap, ◌∙◌}
use mathlib.Core.List.{List, [], ◌∷◌, map}
use mathlib.Core.Option.{Option, some}
use lib.Dec.{eqb-suc-suc}
use lib.ListN.{get_elem?}
use borrow.Author.Tests.{ne_eqb}
use Rattle.shares.specs.Farm.{Post, RuleSet, Turn, visited, still, Event, posts, round, posted_to, happens, left_sets, happening, own, does, alone}

at_map : {A B : Type 0} (f : A → B) (xs : List A) (i : ℕ) (x : A) → get_elem? xs i ≡ some x → get_elem? (map f xs) i ≡ some (f x)
at_map f [] i x e = let z : ◌≡◌ {A = ℕ} 0 1 = cc in absurd (omega arith)
at_map f (y ∷ xs) zero x e = let q : y ≡ x = cc in rw q
at_map f (y ∷ xs) (suc i) x e = at_map f xs i x e

at_posted : (p : Post) (xs : List RuleSet) (i j : ℕ) (x : RuleSet) → get_elem? xs i ≡ some x → get_elem? (posted_to j p xs) i ≡ some (does (own i (posts j p)) x)
at_posted p [] i j x e = let z : ◌≡◌ {A = ℕ} 0 1 = cc in absurd (omega arith)
at_posted p (y ∷ xs) zero zero x e = let q : y ≡ x = cc in rw q
at_posted p (y ∷ xs) zero (suc j) x e = let q : y ≡ x = cc in rw (q, ne_eqb 0 (suc j) (λ h. omega arith))
at_posted p (y ∷ xs) (suc i) zero x e = rw (ne_eqb (suc i) 0 (λ h. omega arith)) (at_map still xs i x e)
at_posted p (y ∷ xs) (suc i) (suc j) x e = rw (eqb-suc-suc i j) (at_posted p xs i j x e)

at_event : (e : Event) (xs : List RuleSet) (i : ℕ) (x : RuleSet) → get_elem? xs i ≡ some x → get_elem? (happens e xs) i ≡ some (does (own i e) x)
at_event (posts j p) xs i x h = at_posted p xs i j x h
at_event round xs i x h = at_map visited xs i x h

-- For any events, and any memories, images and states of the others: the turns of set i are its turns alone.
pub isolated : (events : List Event) (xs : List RuleSet) (i : ℕ) (x : RuleSet) → get_elem? xs i ≡ some x
    → map (λ (ts : List Turn). get_elem? ts i) (happening events xs) ≡ map some (alone (map (own i) events) x)
isolated [] xs i x h = refl
isolated (e ∷ es) xs i x h =
    let q = at_event e xs i x h in
    ap (λ (t : Option Turn). t ∷ map (λ (ts : List Turn). get_elem? ts i) (happening es (left_sets (happens e xs)))) q
    ∙ ap (λ (l : List (Option Turn)). some (does (own i e) x) ∷ l) (isolated es (left_sets (happens e xs)) i (does (own i e) x).left (at_map (λ t. t.left) (happens e xs) i (does (own i e) x) q))
