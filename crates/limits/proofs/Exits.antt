-- What the exit of a `?` answers: the refusal that the call answered. Assumes nothing.
use Rattle.std.proofs.Common.{◌≡◌, sym, ◌∙◌, ap}
use Rattle.std.specs.Prelude.{Result, Err, IsErr}
use Rattle.std.specs.Result.{IsErrAnd}
use Rattle.std.proofs.lemmas.Result.{err_from_is_err_and}
use Rattle.limits.specs.declared.Refusal.{Refusal}

pub refused_as : {B : Type 0} {s : Result B Refusal} {e : Refusal} → IsErr s × IsErrAnd s (λ y. y ≡ e) → s ≡ Err e
refused_as {s = s} h = let p = err_from_is_err_and s h.1 in p.1 ∙ ap Err p.2

-- of a call with an answer of the same type, that answer
pub handed_on : {A : Type 0} {r s : Result A Refusal} {e : Refusal} → IsErr s × IsErrAnd s (λ y. y ≡ e) → r ≡ Err e → s ≡ r
handed_on h g = refused_as h ∙ sym g
