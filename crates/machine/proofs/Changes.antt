-- Laws of the instructions that change current values, with the ranges of the names in lent memory. Assumes nothing.
use mathlib.Core.Path.{◌≡◌, refl, sym, ap, ◌∙◌}
use mathlib.Core.Bool.{Bool, true, false, ◌&&◌}
use mathlib.Core.List.{List, [], ◌∷◌, map}
use Prim.Native.Nat.{ℕ, zero, suc, ◌-◌, ◌≤◌, ◌<◌}
use borrow.Author.Tests.{lt-ltb, le-ltb}
use lib.Dec.{ltb}
use lib.IntN.{ℤ}
use lib.ListN.{length, get_or, set, length-map}
use lib.Signed.{le_z}
use Rattle.arith.specs.Values.{ok, refusal}
use Rattle.semantics.specs.Program.{Range, Side, within, no_range, range_at}
use Rattle.semantics.specs.Formula.{State, at}
use Rattle.semantics.specs.Shape.{Setting}
use Rattle.semantics.specs.ReferenceScan.{moves, stays, picked}
use Rattle.bytecode.specs.Instructions.{assign, pick, settle}
use Rattle.machine.specs.Step.{machine, perform}
use Rattle.machine.specs.Inner.Memory.{held_of, RangesIn}
use Rattle.machine.proofs.Stack.{not_none, held_top, pop-top}

get_d_map : {A B : Type 0} (f : A → B) (xs : List A) (i : ℕ) (d : A) → get_or (map f xs) i (f d) ≡ f (get_or xs i d)
get_d_map f [] i d = refl
get_d_map f (x ∷ xs) zero d = refl
get_d_map f (x ∷ xs) (suc i) d = get_d_map f xs i d

module _ (ns : List Range) (low high : List ℤ) (names : RangesIn ns low high) where
  pub names_length : length ns ≡ length low
  names_length = sym (length-map ns (λ n. n.low)) ∙ ap length names.lows

  -- the range of a name is what its low and its high say
  pub range_at_lem : (i : ℕ) (z : ℤ) → within (range_at ns i) z ≡ (le_z (at low i) z && le_z z (at high i))
  unfolding within
  range_at_lem i z = rw (← names.lows, ← names.highs, get_d_map (λ n. n.low) ns i no_range, get_d_map (λ n. n.high) ns i no_range)

module _ (ns : Setting) (low high : List ℤ) (names : RangesIn ns.ranges low high) where
  declared_here : (i : ℕ) → i < length low → ltb i (length ns.ranges) ≡ true
  declared_here i h = rw (names_length ns.ranges low high names) (lt-ltb i (length low) h)

  undeclared_here : (i : ℕ) → length low ≤ i → ltb i (length ns.ranges) ≡ false
  undeclared_here i h = rw (names_length ns.ranges low high names) (le-ltb i (length low) h)

  -- the value on top of n ≠ 0 held in l
  module _ (s : State) (l : List ℤ) (n : ℕ) (c : Bool) (t : State) (i : ℕ) (some : n ≡ 0 → ⊥) where
    pub assign_undeclared : length low ≤ i → refusal 11 ≡ perform ns s (assign i) c (held_of l n) t
    assign_undeclared h = rw (pop-top l n _ some, undeclared_here i h)

    pub pick_undeclared : (side : Side) → length low ≤ i → refusal 11 ≡ perform ns s (pick side i) c (held_of l n) t
    pick_undeclared side h = rw (pop-top l n _ some, undeclared_here i h)

    module _ (h : i < length low) where
      pub assign_outside : (le_z (at low i) (at l (n - 1)) && le_z (at l (n - 1)) (at high i)) ≡ false → refusal 17 ≡ perform ns s (assign i) c (held_of l n) t
      assign_outside e = rw (pop-top l n _ some, declared_here i h, range_at_lem ns.ranges low high names i (at l (n - 1)), e)

      pub assign_inside : (le_z (at low i) (at l (n - 1)) && le_z (at l (n - 1)) (at high i)) ≡ true
          → ok (machine false c (held_of l (n - 1)) (set t i (at l (n - 1)))) ≡ perform ns s (assign i) c (held_of l n) t
      assign_inside e = rw (pop-top l n _ some, declared_here i h, range_at_lem ns.ranges low high names i (at l (n - 1)), e)

      pub pick_refused : (side : Side) → moves side (at s i) (at l (n - 1)) ≡ false → refusal (stays side) ≡ perform ns s (pick side i) c (held_of l n) t
      unfolding picked
      pick_refused side e = rw (pop-top l n _ some, declared_here i h, e)

      -- a value on the side wanted is assigned
      pub pick_moved : (side : Side) → moves side (at s i) (at l (n - 1)) ≡ true → perform ns s (assign i) true (held_of l n) t ≡ perform ns s (pick side i) c (held_of l n) t
      unfolding picked
      pick_moved side e = rw (held_top l n (not_none n some), declared_here i h, e)

module _ (ns : Setting) (s : State) (l : List ℤ) (n i : ℕ) (t : State) (size : length ns.ranges ≡ length s) where
  pub settle_undeclared : (c : Bool) → length s ≤ i → refusal 11 ≡ perform ns s (settle i) c (held_of l n) t
  settle_undeclared c h = rw (size, le-ltb i (length s) h)

  pub settle_picked : (c : Bool) → i < length s → c ≡ true → ok (machine false false (held_of l n) t) ≡ perform ns s (settle i) c (held_of l n) t
  settle_picked c h e = rw (size, lt-ltb i (length s) h, e)

  pub settle_kept : (c : Bool) → i < length s → c ≡ false → ok (machine false false (held_of l n) (set t i (at s i))) ≡ perform ns s (settle i) c (held_of l n) t
  settle_kept c h e = rw (size, lt-ltb i (length s) h, e)
