-- Laws of the cases of a pair: what holds of both lists holds of the cases that they are read as. Assumes nothing.
use Prim.Native.Nat.{ℕ, suc, ◌+◌, ◌≤◌}
use native.Mathlib.Omega.{arith}
use mathlib.Core.Path.{◌≡◌, refl, sym, ap, ap₂, ◌∙◌, subst}
use mathlib.Core.Bool.{Bool}
use mathlib.Core.List.{List, [], ◌∷◌, ◌++◌, append_assoc}
use lib.ListN.{length, replicate, length-append}
use Rattle.semantics.specs.Program.{Side, changing, rising, falling, Case, UsableK, Sided, up_then_down, sides}
use Rattle.bytecode.specs.Instructions.{pick_code}
use Rattle.grammar.specs.Pairs.{on_side, pair_cases}
use Rattle.grammar.specs.Rules.{Spanned, cases_of}
use Rattle.grammar.specs.Spelled.{SpellsCases, one_case, more_cases}
use Rattle.grammar.specs.Inner.Bytes.{bytes_k, bytes_picked}

pub length_cases : (cs : List Spanned) → length (cases_of cs) ≡ length cs
length_cases [] = refl
length_cases (c ∷ cs) = ap suc (length_cases cs)

pub counted_cases : (cs : List Spanned) (ks : List Case) → cases_of cs ≡ ks → length cs ≡ length ks
counted_cases cs ks e = sym (length_cases cs) ∙ ap length e

-- ---- values may be used

usable_on : (known : List Bool) (side : Side) (ks : List Case) → UsableK known ks → UsableK known (on_side side ks)
usable_on known side [] u = tt
usable_on known side (k ∷ ks) u = (u.0, u.1, usable_on known side ks u.2)

usable_off : (known : List Bool) (side : Side) (ks : List Case) → UsableK known (on_side side ks) → UsableK known ks
usable_off known side [] u = tt
usable_off known side (k ∷ ks) u = (u.0, u.1, usable_off known side ks u.2)

usable_both : (known : List Bool) (ks js : List Case) → UsableK known ks → UsableK known js → UsableK known (ks ++ js)
usable_both known [] js u w = w
usable_both known (k ∷ ks) js u w = (u.0, u.1, usable_both known ks js u.2 w)

usable_first : (known : List Bool) (ks js : List Case) → UsableK known (ks ++ js) → UsableK known ks
usable_first known [] js u = tt
usable_first known (k ∷ ks) js u = (u.0, u.1, usable_first known ks js u.2)

usable_second : (known : List Bool) (ks js : List Case) → UsableK known (ks ++ js) → UsableK known js
usable_second known [] js u = u
usable_second known (k ∷ ks) js u = usable_second known ks js u.2

pub pair_usable : (known : List Bool) (ups downs : List Case) → UsableK known ups → UsableK known downs → UsableK known (pair_cases ups downs)
pair_usable known ups downs u w = usable_both known (on_side rising ups) (on_side falling downs) (usable_on known rising ups u) (usable_on known falling downs w)

pub ups_usable : (known : List Bool) (ups downs : List Case) → UsableK known (pair_cases ups downs) → UsableK known ups
ups_usable known ups downs u = usable_off known rising ups (usable_first known (on_side rising ups) (on_side falling downs) u)

pub downs_usable : (known : List Bool) (ups downs : List Case) → UsableK known (pair_cases ups downs) → UsableK known downs
downs_usable known ups downs u = usable_off known falling downs (usable_second known (on_side rising ups) (on_side falling downs) u)

-- ---- sides

sides_on : (side : Side) (ks : List Case) → sides (on_side side ks) ≡ replicate (length ks) side
sides_on side [] = refl
sides_on side (k ∷ ks) = ap {B = List Side} (λ l. side ∷ l) (sides_on side ks)

sides_both : (ks js : List Case) → sides (ks ++ js) ≡ sides ks ++ sides js
sides_both [] js = refl
sides_both (k ∷ ks) js = ap {B = List Side} (λ l. k.side ∷ l) (sides_both ks js)

pub pair_sided : (ups downs : List Case) → 1 ≤ length ups → 1 ≤ length downs → Sided (sides (pair_cases ups downs))
pair_sided [] downs h i = let f : ⊥ = omega arith in absurd f
pair_sided (k ∷ ups) [] h i = let f : ⊥ = omega arith in absurd f
pair_sided (k ∷ ups) (j ∷ downs) h i =
    subst Sided (sym (sides_both (on_side rising (k ∷ ups)) (on_side falling (j ∷ downs)) ∙ ap₂ ◌++◌ (sides_on rising (k ∷ ups)) (sides_on falling (j ∷ downs)))) (up_then_down (length ups) (length downs))

-- the cases of a list are all changing
pub cases_level : (names : List (List ℕ)) (w : List ℕ) (ts ls : List (List ℕ)) (ks : List Case) → SpellsCases names w ts ls ks → on_side changing ks ≡ ks
cases_level names w ts ls ks (one_case us vs k s c e) = ap {B = List Case} (λ x. record { side = x; condition = k.condition; value = k.value } ∷ []) (sym s)
cases_level names w ts ls ks (more_cases us vs cs ms k js s c e r) =
    ap₂ ◌∷◌ (ap {B = Case} (λ x. record { side = x; condition = k.condition; value = k.value }) (sym s)) (cases_level names w cs ms js r)

-- ---- bytes

pub picked_side : (side : Side) (v : ℕ) (ks : List Case) → bytes_picked (pick_code side) v ks ≡ bytes_k v (on_side side ks)
unfolding bytes_picked bytes_k
picked_side side v [] = refl
picked_side side v (k ∷ ks) = rw (picked_side side v ks)

pub picked_length : (pick v : ℕ) (ks : List Case) → length (bytes_picked pick v ks) ≡ length (bytes_k v ks)
unfolding bytes_picked bytes_k
picked_length pick v [] = refl
picked_length pick v (k ∷ ks) = simp length-append (omega (arith, picked_length pick v ks))

pub bytes_both : (v : ℕ) (ks js : List Case) → bytes_k v (ks ++ js) ≡ bytes_k v ks ++ bytes_k v js
unfolding bytes_k
bytes_both v [] js = refl
bytes_both v (k ∷ ks) js = rw (bytes_both v ks js) (simp append_assoc)

pub pair_bytes : (v : ℕ) (ups downs : List Case) → bytes_k v (pair_cases ups downs) ≡ bytes_picked (pick_code rising) v ups ++ bytes_picked (pick_code falling) v downs
pair_bytes v ups downs = bytes_both v (on_side rising ups) (on_side falling downs) ∙ sym (ap₂ ◌++◌ (picked_side rising v ups) (picked_side falling v downs))

pub pair_length : (v : ℕ) (ups downs : List Case) → length (bytes_k v (pair_cases ups downs)) ≡ length (bytes_k v ups) + length (bytes_k v downs)
pair_length v ups downs =
    ap length (pair_bytes v ups downs) ∙ (length-append (bytes_picked (pick_code rising) v ups) (bytes_picked (pick_code falling) v downs)
    ∙ ap₂ ◌+◌ (picked_length (pick_code rising) v ups) (picked_length (pick_code falling) v downs))
