-- Names that are pairwise distinct have ids that are their places. Assumes nothing.
use mathlib.Core.Path.{◌≡◌, refl, ap, sym, ◌∙◌, subst}
use mathlib.Core.List.{List, [], ◌∷◌, ◌++◌}
use mathlib.Core.Bool.{Bool, true, false, cond}
use mathlib.Core.Option.{none, some}
use Prim.Native.Nat.{ℕ, zero, suc, ◌+◌}
use native.Mathlib.Omega.{arith}
use lib.ListN.{get_elem?}
use Rattle.lexer.specs.Lexer.{same_name}
use Rattle.lexer.specs.Names.{id_from, id_of}
use Rattle.lexer.proofs.Same.{same_name_lem, names_same}
use Rattle.grammar.specs.Spelled.{Apart, Distinct}

pub same_itself : (w : List ℕ) → same_name w w ≡ true
same_itself w = names_same w w refl

-- what is not the same one way is not the same the other
apart_back : (a b : List ℕ) → same_name a b ≡ false → same_name b a ≡ false
apart_back a b e = go (same_name b a) refl
  where
    go : (t : Bool) → same_name b a ≡ t → same_name b a ≡ false
    go true t =
        let y : true ≡ false = sym (names_same a b (sym (same_name_lem b a t))) ∙ e in
        let z : ◌≡◌ {A = ℕ} 0 1 = cc in
        absurd (omega arith)
    go false t = t

-- ---- a name that is new

from_none : (l : List (List ℕ)) (w : List ℕ) (i : ℕ) → id_from l w i ≡ none → Apart w l
unfolding id_from
from_none [] w i e = tt
from_none (x ∷ l) w i e = go (same_name w x) refl (λ h. from_none l w (i + 1) h) e
  where
    go : (t : Bool) → same_name w x ≡ t → (id_from l w (i + 1) ≡ none → Apart w l) → cond t (some i) (id_from l w (i + 1)) ≡ none → Apart w (x ∷ l)
    go true t f h = let z : ◌≡◌ {A = ℕ} 0 1 = cc in absurd (omega arith)
    go false t f h = (t, f h)

none_from : (l : List (List ℕ)) (w : List ℕ) (i : ℕ) → Apart w l → id_from l w i ≡ none
unfolding id_from
none_from [] w i a = refl
none_from (x ∷ l) w i a = rw (a.0, none_from l w (i + 1) a.1)

pub new_apart : (names : List (List ℕ)) (w : List ℕ) → id_of names w ≡ none → Apart w names
unfolding id_of
new_apart names w e = from_none names w 0 e

pub apart-new : (names : List (List ℕ)) (w : List ℕ) → Apart w names → id_of names w ≡ none
unfolding id_of
apart-new names w a = none_from names w 0 a

-- ---- names one by one

apart_snoc : (x w : List ℕ) (l : List (List ℕ)) → Apart x l → same_name x w ≡ false → Apart x (l ++ w ∷ [])
apart_snoc x w [] a e = (e, tt)
apart_snoc x w (y ∷ l) a e = (a.0, apart_snoc x w l a.1 e)

pub distinct_snoc : (l : List (List ℕ)) (w : List ℕ) → Distinct l → Apart w l → Distinct (l ++ w ∷ [])
distinct_snoc [] w d a = (tt, tt)
distinct_snoc (x ∷ l) w d a = (apart_snoc x w l d.0 (apart_back w x a.0), distinct_snoc l w d.1 a.1)

apart_at : (x w : List ℕ) (l rest : List (List ℕ)) → Apart x (l ++ w ∷ rest) → same_name x w ≡ false
apart_at x w [] rest a = a.0
apart_at x w (y ∷ l) rest a = apart_at x w l rest a.1

pub distinct_at : (l : List (List ℕ)) (w : List ℕ) (rest : List (List ℕ)) → Distinct (l ++ w ∷ rest) → Apart w l
distinct_at [] w rest d = tt
distinct_at (x ∷ l) w rest d = (apart_back x w (apart_at x w l rest d.0), distinct_at l w rest d.1)

-- ---- ids

apart_place : (x : List ℕ) (l : List (List ℕ)) (i : ℕ) (w : List ℕ) → Apart x l → get_elem? l i ≡ some w → same_name w x ≡ false
apart_place x [] i w a e = let z : ◌≡◌ {A = ℕ} 0 1 = cc in absurd (omega arith)
apart_place x (y ∷ l) zero w a e = let q : y ≡ w = cc in apart_back x w (subst (λ (v : List ℕ). same_name x v ≡ false) q a.0)
apart_place x (y ∷ l) (suc i) w a e = apart_place x l i w a.1 e

place_from : (l : List (List ℕ)) (i j : ℕ) (w : List ℕ) → Distinct l → get_elem? l i ≡ some w → id_from l w j ≡ some (j + i)
unfolding id_from
place_from [] i j w d e = let z : ◌≡◌ {A = ℕ} 0 1 = cc in absurd (omega arith)
place_from (x ∷ l) zero j w d e =
    let q : x ≡ w = cc in
    let t : same_name w x ≡ true = subst (λ (v : List ℕ). same_name w v ≡ true) (sym q) (same_itself w) in
    let h : j ≡ j + 0 = omega arith in
    rw t (ap some h)
place_from (x ∷ l) (suc i) j w d e =
    let h : j + 1 + i ≡ j + suc i = omega arith in
    rw (apart_place x l i w d.0 e, place_from l i (j + 1) w d.1 e) (ap some h)

-- the place of a name is its id
pub place_id : (names : List (List ℕ)) (i : ℕ) (w : List ℕ) → Distinct names → get_elem? names i ≡ some w → id_of names w ≡ some i
unfolding id_of
place_id names i w d e = let h : 0 + i ≡ i = omega arith in place_from names i 0 w d e ∙ ap some h
