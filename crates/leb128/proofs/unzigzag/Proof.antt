-- `leb128::unzigzag` meets its contract. Assumes nothing.
use Prim.Native.Nat.{ℕ, ◌/◌, ◌^◌, ◌<◌}
use native.Mathlib.Omega.{arith}
use lib.IntN.{negsuc}
use borrow.Author.Rules.{rules}
use borrow.Author.Tests.{eq-eqb, ne_eqb}
use mir.Syntax.{w32}
use mir.Val.{SFits}
use mir.Facts.{to_z_pos}
use Rattle.arith.proofs.Laws.{same32}
use Rattle.leb128.specs.Numbers.{unzigzag as unzigzagOf}
use Rattle.leb128.proofs.Signs.{mirror_pos}
use Rattle.leb128.proofs.unzigzag.Statement.{statement}
use Rattle.leb128.proofs.unzigzag.Tie as tie

half : (u : ℕ) → u < 2 ^ 32 → u / 2 < 2 ^ 31
half u h = omega arith

half_fits : (u : ℕ) → u < 2 ^ 32 → SFits w32 (negsuc (u / 2))
half_fits u h = record { sfits = half u h }

returns : tie.Need-returns-then-u-eq0
unfolding unzigzagOf
returns c = rw (to_z_pos w32 (half _ c.requires), eq-eqb _ _ c.if-u-eq0.true)

sub-result : tie.Need-overflow_sub-result
sub-result c = rw (to_z_pos w32 (half _ c.requires), mirror_pos) (half_fits _ c.requires)

returns-2 : tie.Need-returns
unfolding unzigzagOf
returns-2 c =
    rw (to_z_pos w32 (half _ c.requires), mirror_pos, same32 (half_fits _ c.requires), ne_eqb _ _ c.if-u-eq0.false)

pub unzigzag_spec : {M : Type 1} → statement M
unzigzag_spec = tie.close (tie.spec (λ c. search rules) returns sub-result returns-2)
