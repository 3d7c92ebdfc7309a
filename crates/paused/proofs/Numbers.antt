-- A count, stored as a number. Assumes nothing.
use Prim.Native.Nat.{ℕ, ◌<◌, ◌^◌}
use mathlib.Core.Path.{◌≡◌, sym, subst, ◌∙◌}
use lib.IntN.{ℤ, pos}
use mir.Syntax.{w32}
use mir.Val.{SFits, to_z, of_z}
use Rattle.arith.proofs.Laws.{same32}

pub kept : {x : ℕ} {z : ℤ} → x < 2 ^ 31 → z ≡ pos x → to_z w32 (of_z w32 z) ≡ pos x
kept h e = same32 (subst (SFits w32) (sym e) (record { sfits = h })) ∙ e
