-- How long printed decimals and lines are, and what a buffer with room for them holds. Assumes nothing.
use mathlib.Core.Path.{◌≡◌, refl, sym, ap, ◌∙◌}
use mathlib.Core.Bool.{Bool, true, false}
use mathlib.Core.List.{List, [], ◌∷◌, ◌++◌, map}
use Prim.Native.Nat.{ℕ, zero, suc, ◌+◌, ◌-◌, ◌*◌, ◌/◌, ◌%◌, ◌^◌, ◌≤◌, ◌<◌, min}
use native.Mathlib.Nat.{pow-suc}
use native.Mathlib.Numerals.{add-one}
use native.Mathlib.Omega.{arith}
use lib.Dec.{leb, ltb}
use lib.IntN.{ℤ, pos, negsuc}
use lib.ListN.{length, take, drop, get_or, length-append, length-take, take-append-drop}
use lib.Seq.{sets, sets-eq, length-sets, take_at, take_all, take-append-add, drop-cons, length-take-le}
use mir.Syntax.{w32}
use mir.Val.{SFits}
use borrow.Author.Tests.{leb-true, leb-false, ltb-true, ltb-false}
use Rattle.trace_text.specs.Output.{unsigned_decimal, decimal_of, spaced, head_line, row_line, refused_line, Put}
use Rattle.leb128.proofs.Stores.{sets_past, sets_append}
use Rattle.trace_text.proofs.Printing.{decimal_small, decimal_more, head_is, row_is, refused_is}

-- ---- decimals

pub digits_length : (k n : ℕ) → n < 10 ^ suc k → length (unsigned_decimal n) ≤ suc k
digits_length zero n h = rw (decimal_small n (omega arith)) (omega arith)
digits_length (suc k) n h = by (ltb n 10) (ltb-true n 10) (ltb-false n 10) (digits_length k (n / 10)) where
  e : 10 ^ suc (suc k) ≡ 10 ^ suc k * 10
  e = pow-suc 10 (suc k)

  by : (t : Bool) → (t ≡ true → n < 10) → (t ≡ false → 10 ≤ n) → (n / 10 < 10 ^ suc k → length (unsigned_decimal (n / 10)) ≤ suc k) → length (unsigned_decimal n) ≤ suc (suc k)
  by true y f g = rw (decimal_small n (y refl)) (omega arith)
  by false y f g =
      let l = g (omega (arith, e)) in
      rw (decimal_more n (f refl), length-append (unsigned_decimal (n / 10)) ((48 + n % 10) ∷ [])) (omega arith)

-- ---- signed numbers

below_ten : (n : ℕ) → n < 2 ^ 32 → length (unsigned_decimal n) ≤ 10
below_ten n h = digits_length 9 n (omega arith)

below_twenty : (n : ℕ) → n < 2 ^ 64 → length (unsigned_decimal n) ≤ 20
below_twenty n h = digits_length 19 n (omega arith)

decimal_length : (z : ℤ) → SFits w32 z → length (decimal_of z) ≤ 11
unfolding decimal_of
decimal_length (pos n) f = let h = f.sfits in omega (arith, below_ten n (omega arith))
decimal_length (negsuc n) f = let h = f.sfits in omega (arith, below_ten (n + 1) (omega arith))

-- each value has at most twelve bytes, its space included
pub values_more : (zs : List ℤ) (i : ℕ) → i < length zs → SFits w32 (get_or zs i (pos 0))
    → length (spaced (map decimal_of (drop i zs))) ≤ 12 + length (spaced (map decimal_of (drop (i + 1) zs)))
values_more zs i h f =
    let l = decimal_length (get_or zs i (pos 0)) f in
    rw (add-one, drop-cons zs i (pos 0) h, length-append (decimal_of (get_or zs i (pos 0))) (spaced (map decimal_of (drop (suc i) zs)))) (omega arith)

-- ---- lines, with numbers of 64 bits and names of 16 bytes

pub row_length_lem : (number : ℕ) (zs : List ℤ) (refusal : ℕ) → number < 2 ^ 64 → refusal < 2 ^ 64 → length (spaced (map decimal_of zs)) ≤ 12 * length zs
    → length (row_line number zs refusal) ≤ 12 * length zs + 42
row_length_lem number zs refusal n r v =
    let a = below_twenty number n in
    let b = below_twenty refusal r in
    rw (← (row_is number zs refusal)) (simp length-append (omega arith))

pub refused_length : (number place : ℕ) → number < 2 ^ 64 → place < 2 ^ 64 → length (refused_line number place) ≤ 53
refused_length number place n p =
    let a = below_twenty number n in
    let b = below_twenty place p in
    rw (← (refused_is number place)) (simp length-append (omega arith))

abbrev pub AllShort : List (List ℕ) → Type 0
AllShort [] = Unit {0}
AllShort (name ∷ names) = (length name ≤ 16) × AllShort names

names_length : (names : List (List ℕ)) → AllShort names → length (spaced names) ≤ 17 * length names
names_length [] t = omega arith
names_length (name ∷ names) t =
    let h = names_length names t.1 in
    rw (length-append name (spaced names)) (omega arith)

pub head_length : (names : List (List ℕ)) → AllShort names → length names ≤ 64 → length (head_line names) ≤ 1100
head_length names t l =
    let h = names_length names t in
    rw (← (head_is names)) (simp length-append (omega arith))

-- ---- a buffer with room holds all that was put behind its first bytes
pub put_all : {l : List ℕ} {at : ℕ} {xs k : List ℕ} {p : ℕ} → Put l at xs k p → at + length xs ≤ length l → take p k ≡ take at l ++ xs
put_all {l} {at} {xs} {k} {p} h r =
    let e : p ≡ at + length xs = let g = h.place in omega arith in
    let n : length (take at l ++ xs) ≡ p = simp (length-append, length-take) (omega arith) in
    rw (h.memory, sets-eq xs l at r) (take_at (take at l ++ xs) (drop (at + length xs) l) p n)

-- a buffer without room holds what there is room for
pub put_cut : {l : List ℕ} {at : ℕ} {xs k : List ℕ} {p : ℕ} → Put l at xs k p → at ≤ length l → take p k ≡ take (length l) (take at l ++ xs)
put_cut {l} {at} {xs} {k} {p} h i = by (leb (at + length xs) (length l)) (leb-true (at + length xs) (length l)) (leb-false (at + length xs) (length l)) where
  n : length (take at l) ≡ at
  n = length-take-le at l i

  by : (t : Bool) → (t ≡ true → at + length xs ≤ length l) → (t ≡ false → length l < at + length xs) → take p k ≡ take (length l) (take at l ++ xs)
  by true y f = let g = y refl in put_all h g ∙ sym (take_all (length l) (take at l ++ xs) (rw length-append (omega (arith, n))))
  by false y f =
      let g = f refl in
      let m = length l - at in
      let e : length (take m xs) ≡ m = length-take-le m xs (omega (arith, n)) in
      let w : sets l at xs ≡ sets l at (take m xs) =
      ap (sets l at) (sym (take-append-drop m xs)) ∙ sets_append l at (take m xs) (drop m xs)
      ∙ sets_past (sets l at (take m xs)) _ (drop m xs) (rw length-sets (omega (arith, n)))
      in
      let q : p ≡ min (at + length (take m xs)) (length l) = let r = h.place in omega arith in
      let c : take (length l) (take at l ++ xs) ≡ take at l ++ take m xs =
      ap (λ (j : ℕ). take j (take at l ++ xs)) (let v : length l ≡ length (take at l) + m = omega (arith, n) in v) ∙ take-append-add (take at l) xs m
      in
      put_all {xs = take m xs} (record { memory = h.memory ∙ w; place = q }) (omega (arith, n)) ∙ sym c
