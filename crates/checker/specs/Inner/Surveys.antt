-- A header that was read, for the walk over the code behind it: auxiliary definitions for proofs. Assumes nothing.
use Rattle.std.specs.Prelude.{ℕ, ◌≤◌, ◌≡◌, List, length}
use Rattle.limits.specs.Limits.{image_limit}
use Rattle.limits.specs.Answer.{accepted}
use Rattle.semantics.specs.Program.{Range}
use Rattle.bytecode.specs.Check.{check_header}
use Rattle.bytecode.specs.Results.{Extends}

pub record ReadHeader (image : List ℕ) (inputs names place : ℕ) : Type 0 where
  pub short : length image ≤ image_limit
  pub ranges : List Range
  pub read : check_header image ≡ accepted (record { inputs = inputs; ranges = ranges; place = place })
  pub many : length ranges ≡ names
  pub extends : Extends (length image) inputs names place
