-- What the running code of an instalment asks: auxiliary definitions for proofs. Assumes nothing.
use Rattle.std.specs.Prelude.{ℕ, ◌≤◌, ◌≡◌, List, ℤ, length}
use Rattle.limits.specs.Limits.{image_limit, state_limit, stack_limit, paused_length}
use Rattle.paused.specs.declared.Checkpoint.{Checkpoint}
use Rattle.paused.specs.Memory.{checkpoint_of}

-- room for the current values and the values held; where the scan stopped
pub record RoomToRun (memory cur vals : List ℤ) (p : Checkpoint) (size : ℕ) : Type 0 where
  pub cells : length memory ≡ paused_length
  pub few : size ≤ state_limit
  pub current : length cur ≡ size
  pub room : length vals ≡ stack_limit
  pub held : p.held ≤ stack_limit

-- the same before there is room
pub record ReadyToRun (memory : List ℤ) (p : Checkpoint) : Type 0 where
  pub cells : length memory ≡ paused_length
  pub held : p.held ≤ stack_limit

-- a scan is under way, and steps are asked for
pub record UnderWay (memory : List ℤ) (p : Checkpoint) (steps : ℕ) : Type 0 where
  pub cells : length memory ≡ paused_length
  pub stands : p ≡ checkpoint_of memory
  pub phase : p.phase ≡ 1
  pub some : steps ≡ 0 → ⊥

-- a code that is no longer than an image, and a scan that stopped no further
pub record Short (code : List ℕ) (n : ℕ) (p : Checkpoint) : Type 0 where
  pub bytes : length code ≤ image_limit
  pub budget : n ≤ image_limit
  pub place : p.place ≤ image_limit
  pub steps : p.steps ≤ image_limit

-- what a run left can be kept
pub record Keepable (memory cur vals : List ℤ) (before n place : ℕ) : Type 0 where
  pub cells : length memory ≡ paused_length
  pub current : length cur ≤ state_limit
  pub room : length vals ≡ stack_limit
  pub reached : place ≤ image_limit
  pub earlier : before ≤ image_limit
  pub steps : n ≤ image_limit
