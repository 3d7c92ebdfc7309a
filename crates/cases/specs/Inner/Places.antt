-- What the answer of a list that is only read stands for. Assumes nothing.
use Rattle.grammar.specs.Parsed.{Parsed, accepted, refused}

-- the place after what reads as p, or its refusal
unfoldable pub place_only : {A : Type 0} → Parsed A → Parsed (Unit {0})
place_only (accepted a n) = accepted tt n
place_only (refused k p) = refused k p
