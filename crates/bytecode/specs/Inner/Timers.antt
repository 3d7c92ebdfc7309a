-- Code without timers from a place on, as a walk carries it along: for proofs and for the contracts of walks. Document 02, A.7. Assumes nothing.
use Rattle.std.specs.Prelude.{ℕ, ◌≡◌, List}
use Rattle.bytecode.specs.Parts.{limits_from}

-- no instruction from the place on gives a limit
abbrev pub NoTimers : List ℕ → ℕ → Type 0
NoTimers code at = (f : ℕ) (ls : List ℕ) → limits_from code f at ls ≡ ls
