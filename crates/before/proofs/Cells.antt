-- States with and without elapsed times: their numbers tell whether there is any timer. Document 02, A.7. Assumes nothing.
use Prim.Native.Nat.{ℕ, zero, suc, ◌+◌, ◌≤◌}
use native.Mathlib.Omega.{arith}
use mathlib.Core.Path.{◌≡◌, refl, ap, ◌∙◌}
use mathlib.Core.Bool.{Bool, true, false, ◌&&◌}
use mathlib.Core.List.{List, [], ◌∷◌, ◌++◌}
use lib.IntN.{ℤ}
use lib.ListN.{length, length-append}
use Rattle.semantics.specs.Program.{Range, within}
use Rattle.semantics.specs.Shape.{Shape, name_count, has_timer, time_ranges, cells, all_within}
use Rattle.semantics.proofs.Timers.{times_append}

times_some : (ls : List ℕ) → has_timer ls ≡ true → 1 ≤ length (time_ranges ls)
times_some [] e = let z : ◌≡◌ {A = ℕ} 0 1 = cc in omega arith
times_some (zero ∷ ls) e = times_some ls e
times_some (suc n ∷ ls) e = omega arith

times_none : (ls : List ℕ) → has_timer ls ≡ false → time_ranges ls ≡ []
times_none [] e = refl
times_none (zero ∷ ls) e = times_none ls e
times_none (suc n ∷ ls) e = let z : ◌≡◌ {A = ℕ} 0 1 = cc in let b : ⊥ = omega arith in absurd b

-- the first numbers are those of the names
front_within : (ns ms : List Range) (zs : List ℤ) → length zs ≤ length ns → all_within (ns ++ ms) zs ≡ all_within ns zs
front_within [] [] [] h = refl
front_within [] (m ∷ ms) [] h = refl
front_within [] ms (z ∷ zs) h = let b : ⊥ = omega arith in absurd b
front_within (n ∷ ns) ms [] h = refl
front_within (n ∷ ns) ms (z ∷ zs) h = ap (λ (b : Bool). within n z && b) (front_within ns ms zs (omega arith))

module _ (k : Shape) where
  cells_are : cells k ≡ k.ranges ++ time_ranges k.limits
  cells_are = times_append k.ranges (time_ranges k.limits)

  cells_length : length (cells k) ≡ name_count k + length (time_ranges k.limits)
  cells_length = ap length cells_are ∙ length-append k.ranges (time_ranges k.limits)

  -- as many numbers as names: no timer
  pub no_elapsed : length (cells k) ≡ name_count k → has_timer k.limits ≡ false
  no_elapsed e = go (has_timer k.limits) refl
    where
      go : (b : Bool) → has_timer k.limits ≡ b → b ≡ false
      go true h = let f : ⊥ = omega (arith, times_some k.limits h, cells_length) in absurd f
      go false h = refl

  -- more of them: some timer
  pub some_elapsed : (length (cells k) ≡ name_count k → ⊥) → has_timer k.limits ≡ true
  some_elapsed n = go (has_timer k.limits) refl
    where
      go : (b : Bool) → has_timer k.limits ≡ b → b ≡ true
      go true h = refl
      go false h = absurd (n (cells_length ∙ rw (times_none k.limits h) (omega arith)))

  pub names_within : (zs : List ℤ) → length zs ≤ name_count k → all_within (cells k) zs ≡ all_within k.ranges zs
  names_within zs h = ap (λ (ns : List Range). all_within ns zs) cells_are ∙ front_within k.ranges (time_ranges k.limits) zs h

  -- the names among them
  pub names_first : name_count k ≤ length (cells k)
  names_first = omega (arith, cells_length)
