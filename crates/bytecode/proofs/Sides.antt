-- Sides taken one by one, as the walk takes them, and as one list, as the paragraph says it. Assumes nothing.
use Prim.Native.Nat.{ℕ, zero, suc}
use mathlib.Core.Path.{◌≡◌, refl, sym, ap, ◌∙◌, subst}
use mathlib.Core.List.{List, [], ◌∷◌, ◌++◌, append_assoc}
use lib.Dec.{T}
use lib.ListN.{replicate}
use Rattle.semantics.specs.Program.{Side, changing, rising, falling, Sided, all_changing_lem, up_then_down}
use Rattle.bytecode.specs.Check.{may_begin, may_follow, may_end}

replicate_more : (n : ℕ) (x : Side) → replicate n x ++ x ∷ [] ≡ replicate (suc n) x
replicate_more zero x = refl
replicate_more (suc n) x = ap {B = List Side} (λ l. x ∷ l) (replicate_more n x)

downs_more : (n m : ℕ) → (replicate n rising ++ replicate m falling) ++ falling ∷ [] ≡ replicate n rising ++ replicate (suc m) falling
downs_more n m = append_assoc (replicate n rising) (replicate m falling) (falling ∷ []) ∙ ap (λ (l : List Side). replicate n rising ++ l) (replicate_more m falling)

-- ---- the sides picked so far, and the last of them

pub data Shape : List Side → Side → Type 0 where
  level : (n : ℕ) → Shape (replicate (suc n) changing) changing
  up : (n : ℕ) → Shape (replicate (suc n) rising) rising
  down : (n m : ℕ) → Shape (replicate (suc n) rising ++ replicate (suc m) falling) falling

pub shape_first : (a : Side) → T (may_begin a) → Shape (a ∷ []) a
shape_first changing h = level 0
shape_first rising h = up 0
shape_first falling h = absurd h

pub shape_next : (l : List Side) (a b : Side) → Shape l a → T (may_follow a b) → Shape (l ++ b ∷ []) b
shape_next l a changing (level n) h = subst (λ (x : List Side). Shape x changing) (sym (replicate_more (suc n) changing)) (level (suc n))
shape_next l a rising (level n) h = absurd h
shape_next l a falling (level n) h = absurd h
shape_next l a changing (up n) h = absurd h
shape_next l a rising (up n) h = subst (λ (x : List Side). Shape x rising) (sym (replicate_more (suc n) rising)) (up (suc n))
shape_next l a falling (up n) h = down n 0
shape_next l a changing (down n m) h = absurd h
shape_next l a rising (down n m) h = absurd h
shape_next l a falling (down n m) h = subst (λ (x : List Side). Shape x falling) (sym (downs_more (suc n) (suc m))) (down n (suc m))

pub shape_sided : (l : List Side) (a : Side) → Shape l a → T (may_end a) → Sided l
shape_sided l a (level n) h = all_changing_lem n
shape_sided l a (up n) h = absurd h
shape_sided l a (down n m) h = up_then_down n m

pub shape_last : (l : List Side) (a : Side) → Shape l a → (xs : List Side) × (l ≡ xs ++ a ∷ [])
shape_last l a (level n) = (replicate n changing, sym (replicate_more n changing))
shape_last l a (up n) = (replicate n rising, sym (replicate_more n rising))
shape_last l a (down n m) = (replicate (suc n) rising ++ replicate m falling, sym (downs_more (suc n) m))

-- ---- a whole list: its first begins, each follows the one before, its last ends

abbrev pub Follows : Side → List Side → Type 0
Follows a [] = T (may_end a)
Follows a (b ∷ l) = T (may_follow a b) × Follows b l

abbrev pub Walks : List Side → Type 0
Walks [] = ⊥
Walks (a ∷ l) = T (may_begin a) × Follows a l

levels : (n : ℕ) → Follows changing (replicate n changing)
levels zero = tt
levels (suc n) = (tt, levels n)

falls : (m : ℕ) → Follows falling (replicate m falling)
falls zero = tt
falls (suc m) = (tt, falls m)

rises : (n m : ℕ) → Follows rising (replicate n rising ++ replicate (suc m) falling)
rises zero m = (tt, falls m)
rises (suc n) m = (tt, rises n m)

pub sided_walks : (l : List Side) → Sided l → Walks l
sided_walks l (all_changing_lem n) = (tt, levels n)
sided_walks l (up_then_down n m) = (tt, rises n m)

follows_in_lem : (x : Side) (xs : List Side) (a b : Side) (ys : List Side) → Follows x (xs ++ a ∷ b ∷ ys) → T (may_follow a b)
follows_in_lem x [] a b ys h = h.1.0
follows_in_lem x (y ∷ xs) a b ys h = follows_in_lem y xs a b ys h.1

walks_in : (xs : List Side) (a b : Side) (ys : List Side) → Walks (xs ++ a ∷ b ∷ ys) → T (may_follow a b)
walks_in [] a b ys h = h.1.0
walks_in (x ∷ xs) a b ys h = follows_in_lem x xs a b ys h.1

follows_end : (x : Side) (xs : List Side) (a : Side) → Follows x (xs ++ a ∷ []) → T (may_end a)
follows_end x [] a h = h.1
follows_end x (y ∷ xs) a h = follows_end y xs a h.1

walks_end : (xs : List Side) (a : Side) → Walks (xs ++ a ∷ []) → T (may_end a)
walks_end [] a h = h.1
walks_end (x ∷ xs) a h = follows_end x xs a h.1

-- ---- what follows or ends the sides picked so far

pub sided_begins : (b : Side) (ys : List Side) → Sided (b ∷ ys) → T (may_begin b)
sided_begins b ys s = (sided_walks (b ∷ ys) s).0

pub sided_follows : (l : List Side) (a b : Side) (ys : List Side) → Shape l a → Sided (l ++ b ∷ ys) → T (may_follow a b)
sided_follows l a b ys h s =
    let x = shape_last l a h in
    let e : l ++ b ∷ ys ≡ x.0 ++ a ∷ b ∷ ys = ap (λ (z : List Side). z ++ b ∷ ys) x.1 ∙ append_assoc x.0 (a ∷ []) (b ∷ ys) in
    walks_in x.0 a b ys (sided_walks _ (subst Sided e s))

pub sided_ends : (l : List Side) (a : Side) → Shape l a → Sided l → T (may_end a)
sided_ends l a h s = let x = shape_last l a h in walks_end x.0 a (sided_walks _ (subst Sided x.1 s))
