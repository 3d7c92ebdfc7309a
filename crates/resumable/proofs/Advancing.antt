-- The tests before an instalment. Assumes nothing.
use Prim.Native.Nat.{ℕ, ◌≤◌, ◌<◌, ◌-◌, min}
use native.Mathlib.Omega.{arith}
use mathlib.Core.Path.{◌≡◌}
use mathlib.Core.List.{List}
use lib.IntN.{ℤ}
use lib.ListN.{length, take, drop, length-take, length-drop}
use borrow.Author.Tests.{eq-eqb, ne_eqb, lt-ltb, le-ltb}
use Rattle.limits.specs.Limits.{image_limit, paused_length}
use Rattle.paused.specs.declared.Checkpoint.{Checkpoint}
use Rattle.paused.specs.declared.Layout.{Layout}
use Rattle.paused.specs.declared.Response.TheVariants as R
use Rattle.paused.specs.Memory.{checkpoint_of, layout_of}
use Rattle.machine.proofs.Stack.{not_none}
use Rattle.resumable.specs.Instalment.{after_call, instalment, advance_of}

module _ (image : List ℕ) (n : ℕ) (cells : List ℤ) where
  pub advance_elsewhere : (length cells ≡ paused_length → ⊥) → after_call R.Idle cells ≡ advance_of image n cells
  unfolding advance_of
  advance_elsewhere h = rw (ne_eqb (length cells) paused_length h)

  module _ (l : length cells ≡ paused_length) (p : Checkpoint) (e : p ≡ checkpoint_of cells) where
    pub advance_idle : p.phase ≡ 0 → after_call R.Idle cells ≡ advance_of image n cells
    unfolding advance_of
    advance_idle z = rw (eq-eqb (length cells) paused_length l, ← e, eq-eqb p.phase 0 z)

    pub advance_over : (p.phase ≡ 0 → ⊥) → (p.phase ≡ 1 → ⊥) → after_call (R.Done 0) cells ≡ advance_of image n cells
    unfolding advance_of
    advance_over y z = rw (eq-eqb (length cells) paused_length l, ← e, ne_eqb p.phase 0 y, ne_eqb p.phase 1 z)

    module _ (y : p.phase ≡ 0 → ⊥) (z : p.phase ≡ 1) where
      pub advance_zero : n ≡ 0 → after_call (R.Done 0) cells ≡ advance_of image n cells
      unfolding advance_of
      advance_zero h = rw (eq-eqb (length cells) paused_length l, ← e, ne_eqb p.phase 0 y, eq-eqb p.phase 1 z, le-ltb 0 n (omega arith))

      module _ (some : n ≡ 0 → ⊥) (f : Layout) (g : f ≡ layout_of cells) where
        pub advance_other : (length image ≡ f.image → ⊥) → after_call (R.Done 0) cells ≡ advance_of image n cells
        unfolding advance_of
        advance_other h =
            rw (eq-eqb (length cells) paused_length l, ← e, ← g, ne_eqb p.phase 0 y, eq-eqb p.phase 1 z, lt-ltb 0 n (not_none n some), ne_eqb (length image) f.image h)

        module _ (h : length image ≡ f.image) where
          pub advance_past : length image - f.base ≤ p.place → after_call (R.Done 0) cells ≡ advance_of image n cells
          unfolding advance_of
          advance_past q =
              rw (
                eq-eqb (length cells) paused_length l,
                ← e,
                ← g,
                ne_eqb p.phase 0 y,
                eq-eqb p.phase 1 z,
                lt-ltb 0 n (not_none n some),
                eq-eqb (length image) f.image h,
                le-ltb p.place (length image - f.base) q,
              )

          pub advance_goes : p.place < length image - f.base → instalment (drop f.base image) (min n image_limit) cells p f ≡ advance_of image n cells
          unfolding advance_of
          advance_goes q =
              rw (
                eq-eqb (length cells) paused_length l,
                ← e,
                ← g,
                ne_eqb p.phase 0 y,
                eq-eqb p.phase 1 z,
                lt-ltb 0 n (not_none n some),
                eq-eqb (length image) f.image h,
                lt-ltb p.place (length image - f.base) q,
              )

pub rest_short : (base most : ℕ) (l : List ℕ) → length l ≤ most → length (take (length l - base) (drop base l)) ≤ most
rest_short base most l h = simp (length-take, length-drop) (omega arith)
