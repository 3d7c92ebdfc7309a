-- A charge and a refusal of rolvenko_charge never meet: every charge is below 9 · 2 ^ 56, and no refusal is. Assumes nothing.
use mathlib.Core.Path.{◌≡◌}
use mathlib.Core.List.{List}
use Prim.Native.Nat.{ℕ, ◌*◌, ◌^◌, ◌≤◌, ◌<◌}
use native.Mathlib.Omega.{arith}
use lib.IntN.{ℤ}
use Rattle.limits.specs.Answer.{accepted, refused}
use Rattle.bytecode.proofs.CheckNumbers.{too_long_lem, broken}
use Rattle.charge.specs.Charge.{Charge, charge_of}
use Rattle.charge.proofs.Laws.{charge_exact}
use Rattle.charge.proofs.Refusals.{ChargeRefusal, of_check, wrong_trace, not_chargeable_lem, too_large, charge_numbers}
use Rattle.rolvenko.specs.Packed.{packed_charge}

nine : {number : ℕ} → ChargeRefusal number → 9 ≤ number
nine (of_check too_long_lem) = omega arith
nine (of_check broken) = omega arith
nine wrong_trace = omega arith
nine not_chargeable_lem = omega arith
nine too_large = omega arith

module _ (image : List ℕ) (id : ℕ) (cells minutes : List ℤ) (threshold rate above : ℤ) where
  pub charge_below : (c : Charge) → charge_of image id cells minutes threshold rate above ≡ accepted c → packed_charge (accepted c) < 9 * 2 ^ 56
  charge_below c e = let x = charge_exact image id cells minutes threshold rate above c e in omega (arith, x.within, x.remainder)

  pub refusal_from : (number place : ℕ) → charge_of image id cells minutes threshold rate above ≡ refused number place → 9 * 2 ^ 56 ≤ packed_charge (refused number place)
  refusal_from number place e = omega (arith, nine (charge_numbers image id cells minutes threshold rate above number place e))
