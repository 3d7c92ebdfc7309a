-- Laws of parsers one after another. Assumes nothing.
use mathlib.Core.Path.{◌≡◌, ap}
use Prim.Native.Nat.{ℕ}
use native.Mathlib.Omega.{arith}
use Rattle.grammar.specs.Parsed.{Parsed, accepted, refused, and_then}

-- p is accepted up to n, with a value of which b is made
abbrev pub After : {A B : Type 0} → (A → B) → Parsed A → B → ℕ → Type 0
After {A} f p b n = (a : A) × (p ≡ accepted a n) × (b ≡ f a)

pub after : {A B : Type 0} (f : A → B) (p : Parsed A) (b : B) (n : ℕ) → and_then p (λ a m. accepted (f a) m) ≡ accepted b n → After f p b n
after f (accepted a m) b n e = let en : m ≡ n = cc in let eb : b ≡ f a = cc in (a, ap (λ (k : ℕ). accepted a k) en, eb)
after f (refused k q) b n e = let z : ◌≡◌ {A = ℕ} 0 1 = cc in absurd (omega arith)

pub refused_then : {A B : Type 0} (f : A → B) (p : Parsed A) (k q : ℕ) → and_then p (λ a m. accepted (f a) m) ≡ refused k q → p ≡ refused k q
refused_then f (accepted a m) k q e = let z : ◌≡◌ {A = ℕ} 0 1 = cc in absurd (omega arith)
refused_then f (refused r s) k q e = cc
