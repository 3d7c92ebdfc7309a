-- Calls of the program one after the other. Assumes nothing.
use Rattle.std.specs.Prelude.{ℕ, List, [], ◌++◌}
use Rattle.tracer.specs.Session.{Session, fed_over, put_over, at_end}

-- From where the program stands, the input that is left is fed in calls, each of which takes some of its bytes, however the input is
-- divided into parts and wherever a call stops; then it ends. The bytes put out, joined.
pub data Calls : Session → List ℕ → List ℕ → Type 0 where
  ends : {s : Session} → Calls s [] (at_end s)
  call : {s : Session} (taken : List ℕ) {left out : List ℕ} → Calls (fed_over s taken) left out → Calls s (taken ++ left) (put_over s taken ++ out)
