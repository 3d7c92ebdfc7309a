-- Laws of signed numbers between bounds, and of the bytes that are written. Assumes nothing.
use mathlib.Core.Path.{◌≡◌, sym, ◌∙◌}
use mathlib.Core.Bool.{true, false≢true}
use mathlib.Core.List.{List, [], ◌++◌}
use Prim.Native.Nat.{ℕ, ◌+◌, ◌^◌, ◌≤◌, ◌<◌}
use native.Mathlib.Omega.{arith}
use lib.IntN.{ℤ, pos, negsuc, neg_ℤ, ◌-ℤ◌, +ℤ_idl}
use lib.ListN.{length, length-append}
use lib.Seq.{sets}
use lib.Signed.{le_z}
use borrow.Author.Tests.{leb-true}
use mir.Syntax.{w32, w64}
use mir.Val.{SFits, to_z, of_z}
use mir.Facts.{to_z_pos}
use Rattle.arith.proofs.Laws.{mag_neg, same32}
use Rattle.leb128.specs.Numbers.{number, zigzag}
use Rattle.leb128.proofs.Laws.{at_most_five}
use Rattle.semantics.specs.Program.{Range}
use Rattle.leb128.proofs.Stores.{sets_append}
use Rattle.declarations.specs.Inner.Ranges.{range_bytes}

-- what a signed local gives back
abbrev pub kept : ℤ → ℤ
kept z = to_z w32 (of_z w32 z)

-- ---- bounds

-- what lies between two 32-bit numbers is one
pub between : (a z b : ℤ) → le_z a z ≡ true → le_z z b ≡ true → SFits w32 a → SFits w32 b → SFits w32 z
between a (pos n) (pos m) p q f g = let h : m < 2 ^ 31 = g.sfits in record { sfits = omega (arith, leb-true n m q) }
between a (pos n) (negsuc m) p q f g = absurd (false≢true q)
between (pos m) (negsuc n) b p q f g = absurd (false≢true p)
between (negsuc m) (negsuc n) b p q f g = let h : m < 2 ^ 31 = f.sfits in record { sfits = omega (arith, leb-true n m p) }

-- ---- the value of digits with its sign, in 64 bits
module _ (v : ℕ) (h : v ≤ 2 ^ 32) where
  pub held : to_z w64 v ≡ pos v
  held = to_z_pos w64 (omega arith)

  pub negated : pos 0 -ℤ to_z w64 v ≡ neg_ℤ (pos v)
  negated = rw (held, +ℤ_idl)

  pub negated_fits : SFits w64 (neg_ℤ (pos v))
  negated_fits = record { sfits = omega (arith, mag_neg (pos v)) }

  pub negates : SFits w64 (pos 0 -ℤ to_z w64 v)
  negates = rw negated negated_fits

-- ---- bytes

-- a number takes five bytes at most
pub near : (to a : ℕ) (z : ℤ) → a ≡ to + length (number (zigzag z)) → a ≤ to + 5
near to a z e = omega (arith, at_most_five (zigzag z))

-- a number written at `to`, up to end
abbrev pub Number : List ℕ → List ℕ → ℕ → ℕ → ℤ → Type 0
Number before after to end z = (end ≡ to + length (number (zigzag z))) × (after ≡ sets before to (number (zigzag z)))

pub number_kept : (before after : List ℕ) (to end : ℕ) (z : ℤ) → SFits w32 z → Number before after to end (kept z) → Number before after to end z
number_kept before after to end z f n = rw (same32 f) at n

-- three numbers, each written behind the one before
pub three_written : (before m1 m2 after : List ℕ) (to a b end : ℕ) (r : Range) → Number before m1 to a r.low → Number m1 m2 a b r.high → Number m2 after b end r.start → (end ≡ to + length (range_bytes r)) × (after ≡ sets before to (range_bytes r))
unfolding range_bytes
three_written before m1 m2 after to a b end range p q r =
    let x = number (zigzag range.low) in
    let y = number (zigzag range.high) in
    let z = number (zigzag range.start) in
    let e1 : sets before to (x ++ (y ++ (z ++ []))) ≡ sets m1 a (y ++ (z ++ [])) = sets_append before to x (y ++ (z ++ [])) ∙ rw (p.0, p.1) in
    let e2 : sets m1 a (y ++ (z ++ [])) ≡ sets m2 b (z ++ []) = sets_append m1 a y (z ++ []) ∙ rw (q.0, q.1) in
    let e3 : sets m2 b (z ++ []) ≡ after = sets_append m2 b z [] ∙ sym r.1 in
    (simp length-append (omega (arith, p.0, q.0, r.0)), sym (e1 ∙ e2 ∙ e3))

pub range_bytes_lem : (r : Range) → length (range_bytes r) ≤ 15
unfolding range_bytes
range_bytes_lem r = simp length-append (omega (arith, at_most_five (zigzag r.low), at_most_five (zigzag r.high), at_most_five (zigzag r.start)))
