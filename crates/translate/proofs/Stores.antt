-- Runs of stores: what comes behind two counts that are stored last. Assumes nothing.
use mathlib.Core.Path.{◌≡◌, ap, ◌∙◌}
use mathlib.Core.List.{List, ◌∷◌}
use native.Mathlib.Omega.{arith}
use lib.ListN.{set}
use lib.Seq.{sets}
use Rattle.leb128.proofs.Stores.{set_before}

module _ {A : Type 0} where
  -- the two counts, stored behind all else
  pub counts_last : (l : List A) (a b : A) (xs : List A) → set (set (sets l 2 xs) 0 a) 1 b ≡ sets l 0 (a ∷ b ∷ xs)
  counts_last l a b xs =
      ap (λ (k : List A). set k 1 b) (set_before l 2 0 a xs (omega arith)) ∙ set_before (set l 0 a) 2 1 b xs (omega arith)
