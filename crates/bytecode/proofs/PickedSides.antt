-- The picks of a variable before its settle, along the walk: the sides picked so far are those that the walk knows of. Assumes nothing.
use Prim.Native.Nat.{ℕ, zero, suc}
use mathlib.Core.Path.{◌≡◌, refl, sym, ap, ◌∙◌, subst}
use mathlib.Core.Bool.{Bool, true, false, not, cond, true≢false}
use mathlib.Core.List.{List, [], ◌∷◌, ◌++◌, append_assoc, append-nil}
use mathlib.Core.Option.{Option, none, some}
use lib.Dec.{T, eqb, ltb}
use lib.ListN.{length, get_or, set}
use lib.Seq.{get_or-set_same}
use borrow.Author.Tests.{eqb-true, eqb-false}
use Rattle.arith.proofs.Basics.{T_not_false, and_right}
use Rattle.semantics.specs.Program.{Range, Side, Sided}
use Rattle.bytecode.specs.Instructions.{Instruction, settle}
use Rattle.bytecode.specs.Signature.{Sort, Role, pushes, computes, tests, opens, picks, lets, settles, times, signature}
use Rattle.bytecode.specs.Check.{Picks, Known, known, may_follow, may_end, unset, fresh, opened}
use Rattle.bytecode.specs.Allowed.{picks_by, left_by, left_by_all, AllowedIn, Allowed}
use Rattle.bytecode.specs.Sound.{ids_in, side_in, sides_of}
use Rattle.bytecode.proofs.Soundness.{some_inj, none≢some, unset_inside}
use Rattle.bytecode.proofs.Sides.{Shape, shape_first, shape_next, shape_sided}
use Rattle.bytecode.proofs.Exactly.{Places, Walked}
use Rattle.bytecode.proofs.Paired.{id_of, fresh_id, opened_id, opened_some, ahead, places_from_lem}

-- the sides l of the picks of v so far: the last is the one known; none were picked of a variable that is neither settled nor let, and whose
-- picks await no settle
pub record SidesKept (v : ℕ) (o : Option Picks) (ids : List Bool) (l : List Side) : Type 0 where
  pub picked : (p : Picks) → o ≡ some p → p.id ≡ v → Shape l p.side
  pub unpicked : (id_of o ≡ some v → ⊥) → get_or ids v false ≡ false → l ≡ []

abbrev pub SidesIn : ℕ → Known → List Side → Type 0
SidesIn v (known vs g o ids) l = SidesKept v o ids l

pub sides_first : (v : ℕ) (ids : List Bool) → SidesKept v none ids []
sides_first v ids = record { picked = λ p e. none≢some p e; unpicked = λ n i. refl }

-- ---- one instruction

pub set_unset : (ids : List Bool) (u v : ℕ) → get_or (set ids u true) v false ≡ false → get_or ids v false ≡ false
set_unset [] zero v e = e
set_unset [] (suc u) v e = e
set_unset (b ∷ ids) zero zero e = absurd (true≢false e)
set_unset (b ∷ ids) zero (suc v) e = e
set_unset (b ∷ ids) (suc u) zero e = e
set_unset (b ∷ ids) (suc u) (suc v) e = set_unset ids u v e

pub unset_false : (ids : List Bool) (v : ℕ) → T (unset ids v) → get_or ids v false ≡ false
unset_false ids v h = T_not_false (get_or ids v false) (and_right (ltb v (length ids)) (not (get_or ids v false)) h)

module _ (v : ℕ) (ids : List Bool) (l : List Side) where
  same_sides : (o : Option Picks) → SidesKept v o ids l → SidesKept v o ids (l ++ [])
  same_sides o k = subst (λ (x : List Side). SidesKept v o ids x) (sym (append-nil l)) k

  -- a pick of v, and one of another
  grown : (o : Option Picks) (side : Side) → T (fresh o side v) → get_or ids v false ≡ false → SidesKept v o ids l → Shape (l ++ side ∷ []) side
  grown none side f n k = subst (λ (x : List Side). Shape (x ++ side ∷ []) side) (sym (k.unpicked (λ e. none≢some v e) n)) (shape_first side f)
  grown (some p) side f n k = shape_next l p.side side (k.picked p refl (fresh_id p side v f)) (and_right (eqb p.id v) (may_follow p.side side) f)

  elsewhere : (o : Option Picks) (side : Side) (u : ℕ) → T (fresh o side u) → (u ≡ v → ⊥) → SidesKept v o ids l → get_or ids v false ≡ false → l ≡ []
  elsewhere none side u f d k n = k.unpicked (λ e. none≢some v e) n
  elsewhere (some p) side u f d k n = k.unpicked (λ e. d (sym (fresh_id p side u f) ∙ some_inj e)) n

  pick_kept : (o : Option Picks) (side : Side) (u : ℕ) → T (fresh o side u) → T (unset ids u) → SidesKept v o ids l
      → SidesKept v (some (record { side = side; id = u })) ids (l ++ side_in v (picks side u))
  pick_kept o side u f n k = go (eqb u v) (eqb-true u v) (eqb-false u v)
    where
      go : (b : Bool) → (b ≡ true → u ≡ v) → (b ≡ false → u ≡ v → ⊥) → SidesKept v (some (record { side = side; id = u })) ids (l ++ cond b (side ∷ []) [])
      go true y m =
          let e : u ≡ v = y refl in
          let h : Shape (l ++ side ∷ []) side = grown o side (subst (λ (w : ℕ). T (fresh o side w)) e f) (unset_false ids v (subst (λ (w : ℕ). T (unset ids w)) e n)) k in
          record { picked = λ p q w. subst (λ (x : Picks). Shape (l ++ side ∷ []) x.side) (some_inj q) h; unpicked = λ d i. absurd (d (ap some e)) }
      go false y m =
          record {
            picked = λ p q w. absurd (m refl (ap (λ (x : Picks). x.id) (some_inj q) ∙ w));
            unpicked = λ d i. append-nil l ∙ elsewhere o side u f (m refl) k i;
          }

  let_kept : (o : Option Picks) (u : ℕ) → SidesKept v o ids l → SidesKept v o (set ids u true) (l ++ [])
  let_kept o u k =
      record {
        picked = λ p e w. subst (λ (x : List Side). Shape x p.side) (sym (append-nil l)) (k.picked p e w);
        unpicked = λ d i. append-nil l ∙ k.unpicked d (set_unset ids u v i);
      }

  settle_kept : (o : Option Picks) (u : ℕ) → T (opened o u) → T (unset ids u) → SidesKept v o ids l → SidesKept v none (set ids u true) (l ++ [])
  settle_kept o u h n k =
      record {
        picked = λ p e w. none≢some p e;
        unpicked = λ d i. append-nil l ∙ k.unpicked (λ e. other i (some_inj (sym (opened_some o u h) ∙ e))) (set_unset ids u v i);
      }
    where
      other : get_or (set ids u true) v false ≡ false → u ≡ v → ⊥
      other i e = true≢false (sym (get_or-set_same ids u true false (unset_inside ids u n)) ∙ (ap (λ (w : ℕ). get_or (set ids u true) w false) e ∙ i))

  kept_in : (r : Role) (rest : List Sort) (g : Bool) (o : Option Picks) → AllowedIn r rest g o ids → SidesKept v o ids l → SidesKept v (picks_by r o) (ids_in r ids) (l ++ side_in v r)
  kept_in (pushes fits) rest g o a k = same_sides o k
  kept_in computes rest g o a k = same_sides o k
  kept_in tests rest g o a k = same_sides o k
  kept_in opens rest g o a k = same_sides o k
  kept_in (picks side u) rest g o a k = pick_kept o side u a.3 a.2 k
  kept_in (lets u) rest g o a k = let_kept o u k
  kept_in (settles u) rest g o a k = settle_kept o u a.3 a.2 k
  kept_in (times t w n) rest g o a k = let_kept o t k

pub sides_step : (v : ℕ) (i : Instruction) (c : Known) (l : List Side) → Allowed i c → SidesIn v c l → SidesIn v (left_by i c) (l ++ side_in v (signature i).role)
sides_step v i (known vs g o ids) l a k = kept_in v ids l (signature i).role a.rest g o a.in_role k

-- ---- a whole code

sides_after : (v : ℕ) (is : List Instruction) (c : Known) (l : List Side) → Places is c → SidesIn v c l → SidesIn v (left_by_all is c) (l ++ sides_of v is)
sides_after v [] c l p k = subst (λ (x : List Side). SidesIn v c x) (sym (append-nil l)) k
sides_after v (i ∷ is) c l p k =
    subst (λ (x : List Side). SidesIn v (left_by_all is (left_by i c)) x) (append_assoc l (side_in v (signature i).role) (sides_of v is))
    (sides_after v is (left_by i c) (l ++ side_in v (signature i).role) p.1 (sides_step v i c l p.0 k))

settle_sided : (v : ℕ) (c : Known) (l : List Side) → Allowed (settle v) c → SidesIn v c l → Sided l
settle_sided v (known vs g o ids) l a k = go o a.in_role.3 k
  where
    go : (o : Option Picks) → T (opened o v) → SidesKept v o ids l → Sided l
    go none h k = absurd h
    go (some p) h k = shape_sided l p.side (k.picked p refl (opened_id p v h)) (and_right (eqb p.id v) (may_end p.side) h)

module _ {ns : List Range} {code : List ℕ} {at : ℕ} {last : Option Instruction} {ids : List Bool} (w : Walked ns code at last (known [] false none ids)) where
  -- the picks before one settle are all code 20, or some 24 and then some 25
  pub settle_has_sides : (before : List Instruction) (v : ℕ) (after : List Instruction) → w.instructions ≡ before ++ settle v ∷ after → Sided (sides_of v before)
  settle_has_sides before v after e =
      settle_sided v (left_by_all before (known [] false none ids)) (sides_of v before) (places_from_lem w before (settle v) after e).0
      (sides_after v before (known [] false none ids) [] (ahead w before (settle v) after e) (sides_first v ids))
