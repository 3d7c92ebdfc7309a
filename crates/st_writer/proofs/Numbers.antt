-- Numbers of the code as they are read, and as they are printed. Assumes nothing.
use Prim.Native.Nat.{ℕ, ◌+◌, ◌/◌, ◌%◌, ◌^◌, ◌<◌}
use native.Mathlib.Numerals.{add-one}
use native.Mathlib.Omega.{arith}
use mathlib.Core.Path.{◌≡◌, refl, ap, subst, ◌∙◌}
use mathlib.Core.Bool.{false}
use mathlib.Core.List.{List, [], ◌∷◌, ◌++◌}
use lib.Dec.{eqb}
use lib.IntN.{ℤ, pos, negsuc}
use lib.ListN.{drop}
use Rattle.lexer.specs.Bytes.{bytes}
use Rattle.leb128.specs.Numbers.{number, zigzag, unzigzag, Read, got, nothing, number_at}
use Rattle.leb128.proofs.Signs.{unzigzag_zigzag}
use Rattle.leb128.proofs.RoundTrip.{drop_behind, number_at_lem}
use Rattle.semantics.specs.Program as P
use Rattle.trace_text.specs.Output.{unsigned_decimal}
use Rattle.st.specs.Syntax.{Identifier}
use Rattle.st.specs.Printed.{expression_printed}
use Rattle.st_program.specs.Written.{expression_in_st}
use Rattle.st_writer.specs.Inner.Fronts.{Fronts}
use Rattle.st_writer.specs.Inner.Operands.{constant, current, previous, operand_in_st, constant_printed, leaf_printed, PrintsLeaf}

-- ---- as they are read

same_got : {a b m n : ℕ} → ◌≡◌ {A = Read ℕ} (got a m) (got b n) → (a ≡ b) × (m ≡ n)
same_got e = (cc, cc)

pub number_read : (code : List ℕ) (at v next n : ℕ) (c : List ℕ) → got v next ≡ number_at code at → n < 2 ^ 32 → drop at code ≡ number n ++ c → (v ≡ n) × (drop next code ≡ c)
number_read code at v next n c r h e =
    let s = same_got (r ∙ number_at_lem code at n c h e) in
    (s.0, ap (λ (k : ℕ). drop k code) s.1 ∙ drop_behind code at (number n) c e)

pub none_got : {A : Type 0} {a : A} {n : ℕ} → ◌≡◌ {A = Read A} nothing (got a n) → ⊥
none_got e = let z : ◌≡◌ {A = ℕ} 0 1 = cc in omega arith

pub number_unread : (code : List ℕ) (at n : ℕ) (c : List ℕ) → nothing ≡ number_at code at → n < 2 ^ 32 → drop at code ≡ number n ++ c → ⊥
number_unread code at n c r h e = none_got (r ∙ number_at_lem code at n c h e)

-- the number of a leaf
pub leaf_none : (names : List Identifier) (code : List ℕ) (op at : ℕ) (m : List ℕ) (to : ℕ) → nothing ≡ number_at code at → PrintsLeaf names code op at m m to at to
leaf_none names code op at m to r = record { same = refl; found = λ n c h e. absurd (number_unread code at n c r h e) }

pub leaf_put : (names : List Identifier) (code : List ℕ) (op at v next : ℕ) (m₀ m₁ : List ℕ) (to p : ℕ) → got v next ≡ number_at code at → Fronts (leaf_printed names op v) m₀ m₁ to p
    → PrintsLeaf names code op at m₀ m₁ to next p
leaf_put names code op at v next m₀ m₁ to p r w =
    record {
      same = w.same;
      found = λ n c h e. let x = number_read code at v next n c r h e in (x.1, subst (λ (k : ℕ). Fronts (leaf_printed names op k) m₀ m₁ to p) x.0 w);
    }

-- ---- as they are printed

pub constant_even : (n : ℕ) (l : List ℕ) → n % 2 ≡ 0 → constant_printed n l ≡ unsigned_decimal (n / 2) ++ l
unfolding unzigzag expression_in_st expression_printed
constant_even n l h = rw h

pub constant-odd : (n : ℕ) (l : List ℕ) → eqb (n % 2) 0 ≡ false → constant_printed n l ≡ bytes "(-" ++ (unsigned_decimal (n / 2 + 1) ++ (41 ∷ l))
unfolding unzigzag expression_in_st expression_printed
constant-odd n l h = rw (h, add-one (n / 2))

nameless : (names : List Identifier) (z : ℤ) → expression_in_st names (P.constant z) ≡ expression_in_st [] (P.constant z)
unfolding expression_in_st
nameless names (pos n) = refl
nameless names (negsuc n) = refl

pub constant_leaf : (names : List Identifier) (z : ℤ) (l : List ℕ) → expression_printed (operand_in_st names (constant z)) l ≡ leaf_printed names 1 (zigzag z) l
unfolding operand_in_st leaf_printed
constant_leaf names z l = rw (unzigzag_zigzag z) (ap (λ e. expression_printed e l) (nameless names z))

pub current_leaf : (names : List Identifier) (i : ℕ) (l : List ℕ) → expression_printed (operand_in_st names (current i)) l ≡ leaf_printed names 2 i l
unfolding operand_in_st leaf_printed expression_printed
current_leaf names i l = refl

pub previous-leaf : (names : List Identifier) (i : ℕ) (l : List ℕ) → expression_printed (operand_in_st names (previous i)) l ≡ leaf_printed names 3 i l
unfolding operand_in_st leaf_printed expression_printed
previous-leaf names i l = refl
