-- A number that is read is below 2 ^ 32, and `signed_at` is what its definition makes of what is read unsigned. Assumes nothing.
use Rattle.std.proofs.Common.{sym, ap, subst, ◌∙◌, ℕ, ℤ, rules, FitsSigned, w32}
use Rattle.arith.proofs.Laws.{same32}
use Rattle.leb128.specs.Numbers.{Read, got, ◌then◌, unzigzag, signed_at}
use Rattle.leb128.specs.Results.{number_read}
use Rattle.leb128.proofs.Laws.{Below32, below}
use Rattle.leb128.proofs.signed_at.Goals as goal

-- the definition, of what is read unsigned
abbrev signed : Read ℕ → Read ℤ
signed r = r then λ u next. got (unzigzag u) next

pub returns-in_err-u : goal.returns-in_err-u
unfolding signed_at
returns-in_err-u c = rw c.from_residual.ensures (ap signed (sym (ap number_read c.in_err-u.was) ∙ c.unsigned_at.ensures))

pub unzigzag-requires : goal.unzigzag-requires
unzigzag-requires c = subst Below32 (sym c.in_ok-u.ensures) (below _ _)

pub returns : goal.returns
unfolding signed_at
returns c =
    let f : FitsSigned w32 c.unzigzag.result = search rules in
    rw (same32 f, c.unzigzag.ensures) (ap signed c.in_ok-u.ensures)
