-- A timer's equations in the document's own words. Document 02, A.7. Assumes nothing.
use Prim.Native.Nat.{ℕ, zero, suc, ◌+◌, min, ◌≤◌, ◌<◌}
use native.Mathlib.Omega.{arith}
use mathlib.Core.Path.{◌≡◌, refl, ap}
use mathlib.Core.Bool.{Bool, true, false, ◌&&◌, ◌||◌, cond}
use lib.Dec.{T, leb, leb→le}
use lib.IntN.{ℤ, pos, negsuc, ◌+ℤ◌}
use lib.Signed.{le_z, lt_z}
use borrow.Author.Tests.{leb-true, leb-false}
use Rattle.arith.specs.Values.{eq_z}
use Rattle.semantics.specs.Program.{within, bit_range}
use Rattle.semantics.specs.Shape.{millis_of, elapsed, due}
use Rattle.arith.proofs.Basics.{and_right, and_both, eq_z_self, eq_z_true}

-- values of a range 0..1
data Bit : ℤ → Type 0 where
  off : Bit (pos 0)
  on : Bit (pos 1)

bit : (z : ℤ) → T (within bit_range z) → Bit z
unfolding within
bit (pos zero) h = off
bit (pos (suc zero)) h = on
bit (pos (suc (suc n))) h = let l : suc (suc n) ≤ 1 = leb→le (suc (suc n)) 1 (and_right (leb 0 (suc (suc n))) (leb (suc (suc n)) 1) h) in let b : ⊥ = omega arith in absurd b
bit (negsuc n) h = absurd h

-- If w is 0 or rose from 0, elapsed is 0; else the smaller of N and elapsed plus milliseconds.
pub elapsed_said : (ms n : ℕ) (before now since : ℤ) → T (within bit_range before) → T (within bit_range now)
    → elapsed ms n before now since ≡ cond (eq_z now (pos 0) || eq_z before (pos 0) && lt_z before now) 0 (min n (millis_of since + ms))
unfolding elapsed
elapsed_said ms n before now since g h = go (bit before g) (bit now h)
  where
    go : {before now : ℤ} → Bit before → Bit now
        → cond (eq_z now (pos 0) || eq_z before (pos 0)) 0 (min n (millis_of since + ms)) ≡ cond (eq_z now (pos 0) || eq_z before (pos 0) && lt_z before now) 0 (min n (millis_of since + ms))
    go off off = refl
    go off on = refl
    go on off = refl
    go on on = refl

-- the smaller of N and elapsed plus milliseconds, in whole numbers
pub elapsed_exact : (e ms n : ℕ) → pos (min n (millis_of (pos e) + ms)) ≡ cond (le_z (pos n) (pos e +ℤ pos ms)) (pos n) (pos e +ℤ pos ms)
elapsed_exact e ms n = go (leb n (e + ms)) (leb-true n (e + ms)) (leb-false n (e + ms))
  where
    go : (b : Bool) → (b ≡ true → n ≤ e + ms) → (b ≡ false → e + ms < n) → pos (min n (e + ms)) ≡ cond b (pos n) (pos (e + ms))
    go true y f = let h : n ≤ e + ms = y refl in ap pos (omega arith)
    go false y f = let h : e + ms < n = f refl in ap pos (omega arith)

-- t is 1 exactly if w is 1 and elapsed is N
pub due_if : (n : ℕ) (now e : ℤ) → now ≡ pos 1 → e ≡ pos n → due n now e ≡ pos 1
unfolding due
due_if n now e g h = rw (g, h, eq_z_self (pos n))

pub due_only_if : (n : ℕ) (now e : ℤ) → due n now e ≡ pos 1 → (now ≡ pos 1) × (e ≡ pos n)
unfolding due
due_only_if n now e h = go (eq_z now (pos 1) && eq_z e (pos n)) (and_both (eq_z now (pos 1)) (eq_z e (pos n))) h
  where
    go : (b : Bool) → (b ≡ true → (eq_z now (pos 1) ≡ true) × (eq_z e (pos n) ≡ true)) → cond b (pos 1) (pos 0) ≡ pos 1 → (now ≡ pos 1) × (e ≡ pos n)
    go true f h = (eq_z_true now (pos 1) (f refl).0, eq_z_true e (pos n) (f refl).1)
    go false f h = let z : ◌≡◌ {A = ℕ} 0 1 = ap millis_of h in let b : ⊥ = omega arith in absurd b
