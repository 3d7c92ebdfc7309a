-- `trace_text::signed` meets its contract. Assumes nothing.
use mathlib.Core.Path.{◌≡◌, refl, ap}
use mathlib.Core.Bool.{Bool, true, false}
use Prim.Native.Nat.{ℕ, zero, suc, ◌-◌, ◌^◌, ◌≤◌, ◌<◌}
use native.Mathlib.Omega.{arith}
use lib.IntN.{pos, negsuc, neg_ℤ}
use borrow.Author.Tests.{leb-true}
use borrow.Author.Rules.{rules}
use mir.Syntax.{w32}
use mir.Val.{SFits}
use mir.Facts.{to_z_pos}
use Rattle.arith.proofs.Laws.{same32}
use Rattle.leb128.proofs.Signs.{mirror_pos}
use Rattle.trace_text.specs.Inner.Stages.{in_word32, signed}
use Rattle.trace_text.proofs.signed.Statement.{statement}
use Rattle.trace_text.proofs.signed.Tie as tie

-- the magnitude is at most 2 ^ 31, and less for a number that is not negative
in_32 : (negative : Bool) (v : ℕ) → in_word32 negative v ≡ true → v ≤ 2 ^ 31
in_32 true v e = leb-true v 2147483648 e
in_32 false v e = let h = leb-true v 2147483647 e in omega arith

plain : (v : ℕ) → in_word32 false v ≡ true → v < 2 ^ 31
plain v e = let h = leb-true v 2147483647 e in omega arith

before : (v : ℕ) → v ≤ 2 ^ 31 → (v ≡ 0 → ⊥) → v - 1 < 2 ^ 31
before v h n = omega arith

below : {m : ℕ} → m < 2 ^ 31 → SFits w32 (negsuc m)
below h = record { sfits = h }

sign_of_zero : (negative : Bool) → pos 0 ≡ signed negative 0
sign_of_zero true = refl
sign_of_zero false = refl

negated : (v : ℕ) → (v ≡ 0 → ⊥) → negsuc (v - 1) ≡ neg_ℤ (pos v)
negated zero n = absurd (n refl)
negated (suc v) n = ap negsuc (omega arith)

returns : tie.Need-returns-then-v-eq0
returns c = rw c.if-v-eq0.true (sign_of_zero c.args.negative)

cast-before : tie.Need-overflow_cast-before
cast-before c = record { sfits = before c.args.v (in_32 c.args.negative c.args.v c.requires) c.if-v-eq0.false }

sub-result : tie.Need-overflow_sub-result
sub-result c =
    rw (to_z_pos w32 (before c.args.v (in_32 c.args.negative c.args.v c.requires) c.if-v-eq0.false), mirror_pos) (record { sfits = before c.args.v (in_32 c.args.negative c.args.v c.requires) c.if-v-eq0.false })

returns-2 : tie.Need-returns-then-negative
returns-2 c =
    let h = before c.args.v (in_32 c.args.negative c.args.v c.requires) c.if-v-eq0.false in
    rw (to_z_pos w32 h, mirror_pos, same32 (below h), c.if-negative.true) (negated c.args.v c.if-v-eq0.false)

cast-result : tie.Need-overflow_cast-result
cast-result c = record { sfits = plain c.args.v (rw c.if-negative.false at c.requires) }

returns-3 : tie.Need-returns
returns-3 c = rw (to_z_pos w32 (plain c.args.v (rw c.if-negative.false at c.requires)), c.if-negative.false)

pub signed_spec : {M : Type 1} → statement M
signed_spec = tie.close (tie.spec returns (λ c. search rules) cast-before sub-result returns-2 cast-result returns-3)
