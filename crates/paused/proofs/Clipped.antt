-- What the numbers read from the memory are at most. Assumes nothing.
use Prim.Native.Nat.{ℕ, ◌≤◌}
use native.Mathlib.Omega.{arith}
use mathlib.Core.List.{List}
use lib.IntN.{ℤ}
use Rattle.limits.specs.Limits.{image_limit, name_limit, stack_limit, state_limit}
use Rattle.paused.specs.declared.Checkpoint.{Checkpoint}
use Rattle.paused.specs.declared.Layout.{Layout}
use Rattle.paused.specs.Memory.{clipped, checkpoint_of, layout_of}

pub clipped_most : (cells : List ℤ) (i most : ℕ) → clipped cells i most ≤ most
unfolding clipped
clipped_most cells i most = omega arith

pub record CheckpointWithin (p : Checkpoint) : Type 0 where
  pub phases : p.phase ≤ 3
  pub places : p.place ≤ image_limit
  pub counts : p.steps ≤ image_limit
  pub stack : p.held ≤ stack_limit

pub checkpoint_within : (cells : List ℤ) → CheckpointWithin (checkpoint_of cells)
unfolding checkpoint_of
checkpoint_within cells =
    record { phases = clipped_most cells 0 3; places = clipped_most cells 2 image_limit; counts = clipped_most cells 3 image_limit; stack = clipped_most cells 4 stack_limit }

pub record LayoutWithin (f : Layout) : Type 0 where
  pub images : f.image ≤ image_limit
  pub bases : f.base ≤ f.image
  pub sizes : f.size ≤ state_limit
  pub few : f.names ≤ name_limit

pub layout_within : (cells : List ℤ) → LayoutWithin (layout_of cells)
unfolding layout_of
layout_within cells =
    record {
      images = clipped_most cells 8 image_limit;
      bases = clipped_most cells 9 (clipped cells 8 image_limit);
      sizes = clipped_most cells 10 state_limit;
      few = clipped_most cells 11 name_limit;
    }
