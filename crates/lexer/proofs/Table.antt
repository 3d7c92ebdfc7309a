-- Laws of the table of names. Assumes nothing.
use mathlib.Core.Path.{◌≡◌, refl, ap}
use mathlib.Core.List.{List, [], ◌∷◌, ◌++◌}
use mathlib.Core.Option.{none, some}
use mathlib.Core.Bool.{true, false}
use Prim.Native.Nat.{ℕ, zero, suc, ◌+◌, ◌-◌, ◌≤◌, ◌<◌}
use native.Mathlib.Nat.{sub-zero}
use native.Mathlib.Numerals.{add-one}
use native.Mathlib.Omega.{arith}
use lib.ListN.{length, get_or, drop, set}
use lib.Seq.{drop-cons}
use Rattle.lexer.specs.Bytes.{part, capitals}
use Rattle.lexer.specs.Lexer.{same_name}
use Rattle.lexer.specs.Names.{id_from, id_of, table_names, Table}
use Rattle.lexer.proofs.Same.{same_left}

pub names_none : (text starts ends : List ℕ) → table_names text starts ends 0 ≡ []
unfolding table_names
names_none text [] ends = refl
names_none text (s ∷ starts) [] = refl
names_none text (s ∷ starts) (e ∷ ends) = refl

module _ (text starts ends : List ℕ) (n i : ℕ) (t : Table starts ends n) where
  -- the names from i on
  abbrev pub from : List (List ℕ)
  from = table_names text (drop i starts) (drop i ends) (n - i)

  names_step : i < n → from ≡ part text (get_or starts i 0) (get_or ends i 0) ∷ table_names text (drop (i + 1) starts) (drop (i + 1) ends) (n - (i + 1))
  unfolding table_names
  names_step h =
      let m : n - i ≡ suc (n - (i + 1)) = omega arith in
      rw (drop-cons starts i 0 (omega (arith, t.in_starts)), drop-cons ends i 0 (omega (arith, t.in_ends)), m, add-one i)

  module _ (w : List ℕ) where
    pub id_here : i < n → same_name w (part text (get_or starts i 0) (get_or ends i 0)) ≡ true → id_from from w i ≡ some i
    unfolding id_from
    id_here h e = rw (names_step h, e)

    pub id_next : i < n → same_name w (part text (get_or starts i 0) (get_or ends i 0)) ≡ false → id_from from w i ≡ id_from (table_names text (drop (i + 1) starts) (drop (i + 1) ends) (n - (i + 1))) w (i + 1)
    unfolding id_from
    id_next h e = rw (names_step h, e)

    pub id_none : n ≤ i → id_from from w i ≡ none
    unfolding id_from
    id_none h =
        let z : n - i ≡ 0 = omega arith in
        rw (z, names_none text (drop i starts) (drop i ends))

-- all of them
pub id_start : (text starts ends : List ℕ) (n : ℕ) (w : List ℕ) → id_from (table_names text (drop 0 starts) (drop 0 ends) (n - 0)) w 0 ≡ id_of (table_names text starts ends n) w
unfolding id_of
id_start text starts ends n w = ap (λ (m : ℕ). id_from (table_names text starts ends m) w 0) (sub-zero n)

-- names that are the same have the same id
from_same : (l : List (List ℕ)) (a b : List ℕ) (i : ℕ) → capitals a ≡ capitals b → id_from l a i ≡ id_from l b i
unfolding id_from
from_same [] a b i e = refl
from_same (x ∷ l) a b i e = rw (same_left a b x e, from_same l a b (i + 1) e)

pub id_same : (names : List (List ℕ)) (a b : List ℕ) → capitals a ≡ capitals b → id_of names a ≡ id_of names b
unfolding id_of
id_same names a b e = from_same names a b 0 e

-- a name more
pub names-add : (text starts ends : List ℕ) (n s e : ℕ) → n < length starts → n < length ends → table_names text (set starts n s) (set ends n e) (suc n) ≡ table_names text starts ends n ++ (part text s e ∷ [])
unfolding table_names
names-add text [] ends n s e hs he = absurd (omega arith)
names-add text (a ∷ starts) [] n s e hs he = absurd (omega arith)
names-add text (a ∷ starts) (b ∷ ends) zero s e hs he = ap (λ (l : List (List ℕ)). part text s e ∷ l) (names_none text starts ends)
names-add text (a ∷ starts) (b ∷ ends) (suc n) s e hs he = ap (λ (l : List (List ℕ)). part text a b ∷ l) (names-add text starts ends n s e (omega arith) (omega arith))
