-- What the running code asks of numbers that it stores: auxiliary definitions for proofs. Assumes nothing.
use Rattle.std.specs.Prelude.{◌^◌, ◌<◌}
use Rattle.paused.specs.declared.Checkpoint.{Checkpoint}
use Rattle.paused.specs.declared.Layout.{Layout}

-- numbers that 32 bits hold
pub record SmallCheckpoint (p : Checkpoint) : Type 0 where
  pub phase : p.phase < 2 ^ 31
  pub place : p.place < 2 ^ 31
  pub steps : p.steps < 2 ^ 31
  pub held : p.held < 2 ^ 31

pub record SmallLayout (s : Layout) : Type 0 where
  pub image : s.image < 2 ^ 31
  pub base : s.base < 2 ^ 31
  pub size : s.size < 2 ^ 31
  pub names : s.names < 2 ^ 31
  pub millis : s.millis < 2 ^ 31
