-- Code that is read from its last instruction to its first. Assumes nothing.
use Rattle.std.specs.Prelude.{ℕ, List, [], ◌∷◌, ◌++◌}
use Rattle.bytecode.specs.Instructions.{Instruction, encode}

-- the bytes of the instructions in reverse order, then l
unfoldable pub mirrored : List Instruction → List ℕ → List ℕ
mirrored [] l = l
mirrored (i ∷ is) l = mirrored is (encode i ++ l)
