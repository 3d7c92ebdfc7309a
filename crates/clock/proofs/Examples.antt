-- Worked examples as one table, by one computed test: the autumn hour, a change of fourteen hours and more, an offset that is not the
-- entry's directly before, the ends of the limits. Assumes nothing.
use mathlib.Core.Path.{◌≡◌}
use mathlib.Core.Bool.{Bool, true, ◌&&◌}
use mathlib.Core.List.{List, [], ◌∷◌}
use lib.Dec.{T}
use lib.IntN.{ℤ, pos, negsuc}
use Rattle.arith.specs.Values.{eq_z}
use Rattle.arith.proofs.Basics.{T_true, and_left, and_right, eq_z→≡}
use Rattle.clock.specs.Clock.{entries_of, entries_fit, is_table, offset_from, offset_at, local_at, day_of, minute_of, repeats_in, is_again, again_of}

-- a table, a UTC minute, and what is filled
pub data Example : Type 0 where
  at : List ℤ → ℤ → ℤ → ℤ → ℤ → Example

abbrev pub Holds : Example → Type 0
Holds (at l u day minute again) =
    (is_table l ≡ true) × (day_of (local_at (entries_of l) u) ≡ day) × (minute_of (local_at (entries_of l) u) ≡ minute) × (again_of (entries_of l) u ≡ again)

abbrev pub AllHold : List Example → Type 0
AllHold [] = Unit {0}
AllHold (e ∷ es) = Holds e × AllHold es

abbrev test : Example → Bool
test (at l u day minute again) =
    is_table l && (eq_z (day_of (local_at (entries_of l) u)) day && (eq_z (minute_of (local_at (entries_of l) u)) minute && eq_z (again_of (entries_of l) u) again))

abbrev test_all : List Example → Bool
test_all [] = true
test_all (e ∷ es) = test e && test_all es

tested : (es : List Example) → T (test_all es) → AllHold es
tested [] t = tt
tested (at l u day minute again ∷ es) t =
    let h = and_left (test (at l u day minute again)) (test_all es) t in
    let i = and_right (is_table l) _ h in
    let j = and_right (eq_z (day_of (local_at (entries_of l) u)) day) _ i in (
      (T_true _ (and_left (is_table l) _ h), eq_z→≡ _ _ (and_left (eq_z (day_of (local_at (entries_of l) u)) day) _ i), eq_z→≡ _ _ (and_left (eq_z (minute_of (local_at (entries_of l) u)) minute) _ j), eq_z→≡ _ _ (and_right (eq_z (minute_of (local_at (entries_of l) u)) minute) _ j)),
      tested es (and_right (test (at l u day minute again)) (test_all es) t),
    )

-- the clock goes forward on 31 March 2024 and back from 3:00 to 2:00 on 27 October
abbrev pub berlin : List ℤ
berlin = pos 28530780 ∷ pos 120 ∷ pos 28833180 ∷ pos 60 ∷ []

-- back by 26 hours at minute 1
abbrev pub dateline : List ℤ
dateline = pos 0 ∷ pos 840 ∷ pos 1 ∷ negsuc 719 ∷ []

abbrev twice : List ℤ
twice = pos 0 ∷ pos 120 ∷ pos 1000 ∷ pos 100 ∷ pos 1010 ∷ pos 0 ∷ []

abbrev pub examples : List Example
examples =
    -- 1:59 before the hour that comes twice; 2:00 and 2:59 the first time; the same the second time; 3:00
    at berlin (pos 28833119) (pos 20023) (pos 119) (pos 0)
    ∷ at berlin (pos 28833120) (pos 20023) (pos 120) (pos 0)
    ∷ at berlin (pos 28833179) (pos 20023) (pos 179) (pos 0)
    ∷ at berlin (pos 28833180) (pos 20023) (pos 120) (pos 1)
    ∷ at berlin (pos 28833239) (pos 20023) (pos 179) (pos 1)
    ∷ at berlin (pos 28833240) (pos 20023) (pos 180) (pos 0)
    -- the first offset, before its own minute
    ∷ at berlin (pos 0) (pos 0) (pos 120) (pos 0)
    -- below zero; the earlier minute is below 0 too
    ∷ at dateline (pos 1) (negsuc 0) (pos 721) (pos 1)
    ∷ at dateline (pos 1560) (pos 0) (pos 840) (pos 1)
    ∷ at dateline (pos 1561) (pos 0) (pos 841) (pos 0)
    -- the offset before last repeats it, the last does not
    ∷ at twice (pos 1010) (pos 0) (pos 1010) (pos 1)
    -- the last minute and the largest offset
    ∷ at (pos 0 ∷ pos 840 ∷ []) (pos 2147483647) (pos 1491308) (pos 967) (pos 0)
    ∷ []

pub examples_hold : AllHold examples
unfolding is_table entries_of entries_fit local_at offset_at offset_from day_of minute_of is_again repeats_in
examples_hold = tested examples tt
