-- What is read back from the memory after a store, over any place and length. Assumes nothing.
use Prim.Native.Nat.{ℕ, zero, suc, ◌+◌, ◌-◌, ◌*◌, ◌/◌, ◌%◌, ◌^◌, ◌≤◌, ◌<◌}
use native.Mathlib.Omega.{arith}
use mathlib.Core.Path.{◌≡◌, refl, sym, ap, ◌∙◌}
use mathlib.Core.Bool.{Bool, true, false, cond}
use mathlib.Core.List.{List, [], ◌∷◌, ◌++◌, append_assoc}
use mathlib.Core.Option.{some}
use lib.Dec.{eqb}
use borrow.Author.Tests.{eqb-true}
use lib.IntN.{ℤ, pos}
use lib.ListN.{length, get_or, take, drop, set, get_or-append}
use lib.Seq.{sets, sets-eq, length-sets, get_or-set_other, drop-set-lt, drop-set-add, take-set-le, take_at, drop_at, get_or-append-add, length-take-le}
use Rattle.limits.specs.Limits.{image_limit, name_limit, stack_limit, state_limit}
use Rattle.leb128.proofs.Stores.{sets_front}
use Rattle.paused.specs.declared.Checkpoint.{Checkpoint}
use Rattle.paused.specs.declared.Layout.{Layout}
use Rattle.paused.proofs.Clipped.{clipped_most}
use Rattle.paused.specs.Memory.{largest_number, part_limit, clipped, slice, checkpoint_of, parts_at, timers_at, layout_of, waiting_length, waiting_in, waiting_of, flag_of, checkpoint_cells, layout_cells, timer_cells, with_layout, row_place, waiting_place, timers_place}

-- ---- one number

pub get_d_sets_before : (vs l : List ℤ) (i j : ℕ) → j < i → get_or (sets l i vs) j (pos 0) ≡ get_or l j (pos 0)
get_d_sets_before [] l i j h = refl
get_d_sets_before (v ∷ vs) l i j h = get_d_sets_before vs (set l i v) (suc i) j (omega arith) ∙ get_or-set_other l i j v (pos 0) (λ e. omega arith)

pub get_d_sets_behind : (vs l : List ℤ) (i j : ℕ) → i + length vs ≤ j → get_or (sets l i vs) j (pos 0) ≡ get_or l j (pos 0)
get_d_sets_behind [] l i j h = refl
get_d_sets_behind (v ∷ vs) l i j h = get_d_sets_behind vs (set l i v) (suc i) j (omega arith) ∙ get_or-set_other l i j v (pos 0) (λ e. omega arith)

pub get_d_sets_same : (vs l : List ℤ) (i j : ℕ) → i + length vs ≤ length l → j < length vs → get_or (sets l i vs) (i + j) (pos 0) ≡ get_or vs j (pos 0)
get_d_sets_same vs l i j h k =
    let q : length (take i l) ≡ i = length-take-le i l (omega arith) in
    let e : i + j ≡ length (take i l) + j = omega arith in
    rw (sets-eq vs l i h, e, append_assoc) (get_or-append-add (take i l) (vs ++ drop (i + length vs) l) j (pos 0) ∙ get_or-append vs (drop (i + length vs) l) (pos 0) j k)

-- ---- a slice

pub slice_sets_behind : (vs l : List ℤ) (i at n : ℕ) → i + length vs ≤ at → slice at n (sets l i vs) ≡ slice at n l
slice_sets_behind [] l i at n h = refl
slice_sets_behind (v ∷ vs) l i at n h = slice_sets_behind vs (set l i v) (suc i) at n (omega arith) ∙ ap (take n) (drop-set-lt at l i v (omega arith))

slice_set_before : (l : List ℤ) (i at n : ℕ) (v : ℤ) → at + n ≤ i → slice at n (set l i v) ≡ slice at n l
slice_set_before l i at n v h =
    let e : i ≡ at + (i - at) = omega arith in
    rw e (rw (drop-set-add at l (i - at) v) (take-set-le n (drop at l) (i - at) v (omega arith)))

pub slice_sets_before : (vs l : List ℤ) (i at n : ℕ) → at + n ≤ i → slice at n (sets l i vs) ≡ slice at n l
slice_sets_before [] l i at n h = refl
slice_sets_before (v ∷ vs) l i at n h = slice_sets_before vs (set l i v) (suc i) at n (omega arith) ∙ slice_set_before l i at n v h

pub slice_sets_same : (vs l : List ℤ) (i : ℕ) → i + length vs ≤ length l → slice i (length vs) (sets l i vs) ≡ vs
slice_sets_same vs l i h =
    let q : length (take i l) ≡ i = length-take-le i l (omega arith) in
    rw (sets-eq vs l i h, append_assoc, drop_at (take i l) (vs ++ drop (i + length vs) l) i q) (take_at vs (drop (i + length vs) l) (length vs) refl)

-- ---- what stands in the memory depends on its numbers

pub clipped_alike : (l m : List ℤ) (i most : ℕ) → get_or l i (pos 0) ≡ get_or m i (pos 0) → clipped l i most ≡ clipped m i most
unfolding clipped
clipped_alike l m i most e = rw e

pub clipped-is : (l : List ℤ) (i x most : ℕ) → get_or l i (pos 0) ≡ pos x → x ≤ most → clipped l i most ≡ x
unfolding clipped
clipped-is l i x most e h = rw e (omega arith)

flag_is : (l : List ℤ) (i : ℕ) (b : Bool) → get_or l i (pos 0) ≡ pos (flag_of b) → eqb (clipped l i 1) 1 ≡ b
flag_is l i true e = rw (clipped-is l i 1 1 e (omega arith))
flag_is l i false e = rw (clipped-is l i 0 1 e (omega arith))

-- numbers that are read back as they are
pub record Readable (p : Checkpoint) : Type 0 where
  pub phases : p.phase ≤ 3
  pub numbers : p.number ≤ largest_number
  pub places : p.place ≤ image_limit
  pub counts : p.steps ≤ image_limit
  pub stack : p.held ≤ stack_limit

pub checkpoint_stored : (l : List ℤ) (p : Checkpoint) → 7 ≤ length l → Readable p → checkpoint_of (sets l 0 (checkpoint_cells p)) ≡ p
unfolding checkpoint_of
checkpoint_stored l p h r =
    let e = sets_front l (checkpoint_cells p) h in
    rw (
      e,
      clipped-is (checkpoint_cells p ++ drop 7 l) 0 p.phase 3 refl r.phases,
      clipped-is (checkpoint_cells p ++ drop 7 l) 1 p.number 30 refl r.numbers,
      clipped-is (checkpoint_cells p ++ drop 7 l) 2 p.place image_limit refl r.places,
      clipped-is (checkpoint_cells p ++ drop 7 l) 3 p.steps image_limit refl r.counts,
      clipped-is (checkpoint_cells p ++ drop 7 l) 4 p.held stack_limit refl r.stack,
      flag_is (checkpoint_cells p ++ drop 7 l) 5 p.picked refl,
      flag_is (checkpoint_cells p ++ drop 7 l) 6 p.passing refl,
    )

parts_alike : (l m : List ℤ) → ((j : ℕ) → 120 ≤ j → j < 124 → get_or l j (pos 0) ≡ get_or m j (pos 0)) → parts_at l ≡ parts_at m
unfolding parts_at
parts_alike l m e =
    rw (
      clipped_alike l m 120 part_limit (e 120 (omega arith) (omega arith)),
      clipped_alike l m 121 part_limit (e 121 (omega arith) (omega arith)),
      clipped_alike l m 122 part_limit (e 122 (omega arith) (omega arith)),
      clipped_alike l m 123 part_limit (e 123 (omega arith) (omega arith)),
    )

pub layout_alike : (l m : List ℤ) → ((j : ℕ) → 8 ≤ j → j < 13 → get_or l j (pos 0) ≡ get_or m j (pos 0)) → ((j : ℕ) → 120 ≤ j → j < 124 → get_or l j (pos 0) ≡ get_or m j (pos 0)) → layout_of l ≡ layout_of m
unfolding layout_of
layout_alike l m e t =
    rw (
      clipped_alike l m 8 image_limit (e 8 (omega arith) (omega arith)),
      clipped_alike l m 9 (clipped m 8 image_limit) (e 9 (omega arith) (omega arith)),
      clipped_alike l m 10 state_limit (e 10 (omega arith) (omega arith)),
      clipped_alike l m 11 name_limit (e 11 (omega arith) (omega arith)),
      e 12 (omega arith) (omega arith),
      parts_alike l m t,
    )

-- a layout that is read back as it is
pub record LayoutReadable (f : Layout) : Type 0 where
  pub images : f.image ≤ image_limit
  pub bases : f.base ≤ f.image
  pub sizes : f.size ≤ state_limit
  pub few : f.names ≤ name_limit
  pub bits : f.timers < 2 ^ 64
  pub untimed : f.size ≡ f.names → f.timers ≡ 0

-- four numbers of 16 bits together
parts_joined : (n : ℕ) → n < 2 ^ 64 → n % 65536 + 65536 * (n / 65536 % 65536 + 65536 * (n / 65536 / 65536 % 65536 + 65536 * (n / 65536 / 65536 / 65536 % 65536))) ≡ n
parts_joined n h = omega arith

parts_stored : (l : List ℤ) (n : ℕ) → 124 ≤ length l → n < 2 ^ 64 → parts_at (sets l timers_place (timer_cells n)) ≡ n
unfolding parts_at
parts_stored l n h b =
    rw (
      clipped-is (sets l 120 (timer_cells n)) 120 (n % 65536) part_limit (get_d_sets_same (timer_cells n) l 120 0 h (omega arith)) (omega arith),
      clipped-is (sets l 120 (timer_cells n)) 121 (n / 65536 % 65536) part_limit (get_d_sets_same (timer_cells n) l 120 1 h (omega arith)) (omega arith),
      clipped-is (sets l 120 (timer_cells n)) 122 (n / 65536 / 65536 % 65536) part_limit (get_d_sets_same (timer_cells n) l 120 2 h (omega arith)) (omega arith),
      clipped-is (sets l 120 (timer_cells n)) 123 (n / 65536 / 65536 / 65536 % 65536) part_limit (get_d_sets_same (timer_cells n) l 120 3 h (omega arith)) (omega arith),
    )
    (parts_joined n b)

timers_stored : (l : List ℤ) (size names n : ℕ) → 124 ≤ length l → n < 2 ^ 64 → (size ≡ names → n ≡ 0) → timers_at size names (sets l timers_place (timer_cells n)) ≡ n
timers_stored l size names n h b z = by (eqb size names) (eqb-true size names)
  where
    by : (t : Bool) → (t ≡ true → size ≡ names) → cond t 0 (parts_at (sets l timers_place (timer_cells n))) ≡ n
    by true y = sym (z (y refl))
    by false y = parts_stored l n h b

pub layout_stored : (l : List ℤ) (f : Layout) → 124 ≤ length l → LayoutReadable f → layout_of (with_layout f l) ≡ f
unfolding layout_of
layout_stored l f h r =
    let a = sets l 8 (layout_cells f) in
    let la : length a ≡ length l = length-sets l 8 (layout_cells f) in
    let at : (j : ℕ) → j < 5 → get_or (with_layout f l) (8 + j) (pos 0) ≡ get_or (layout_cells f) j (pos 0) = λ j k.
    get_d_sets_before (timer_cells f.timers) a 120 (8 + j) (omega arith) ∙ get_d_sets_same (layout_cells f) l 8 j (omega arith) k in
    rw (
      clipped-is (with_layout f l) 8 f.image image_limit (at 0 (omega arith)) r.images,
      clipped-is (with_layout f l) 9 f.base f.image (at 1 (omega arith)) r.bases,
      clipped-is (with_layout f l) 10 f.size state_limit (at 2 (omega arith)) r.sizes,
      clipped-is (with_layout f l) 11 f.names name_limit (at 3 (omega arith)) r.few,
      at 4 (omega arith),
      timers_stored a f.size f.names f.timers (omega (arith, la)) r.bits r.untimed,
    )

pub waiting_alike : (l m : List ℤ) → get_or l waiting_place (pos 0) ≡ get_or m waiting_place (pos 0) → ((n : ℕ) → n ≤ name_limit → slice row_place n l ≡ slice row_place n m) → waiting_of l ≡ waiting_of m
unfolding waiting_of waiting_length
waiting_alike l m e f = rw (clipped_alike l m waiting_place (name_limit + 1) e) (by (clipped m waiting_place (name_limit + 1)) (clipped_most m waiting_place (name_limit + 1)))
  where
    by : (n : ℕ) → n ≤ name_limit + 1 → waiting_in n l ≡ waiting_in n m
    by zero h = refl
    by (suc n) h = ap some (f n (omega arith))
