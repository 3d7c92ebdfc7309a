-- `shapes::place_time` meets its contract. Assumes nothing.
use mathlib.Core.Path.{refl}
use borrow.Author.Rules.{rules}
use Rattle.shapes.proofs.place_time.Statement.{statement}
use Rattle.shapes.proofs.place_time.Tie as tie

returns : tie.Need-returns-then-n-eq0
returns c = record { passed = λ e. (refl, refl, refl); placed = λ h. absurd (h c.if-n-eq0.true) }

returns-2 : tie.Need-returns
returns-2 c = record { passed = λ e. absurd (c.if-n-eq0.false e); placed = λ h. (rw c.with_bit.ensures, c.put_count.ensures, c.put_count-2.ensures) }

pub place_time_spec : {M : Type 1} → statement M
place_time_spec =
    tie.close
    (tie.spec returns (λ c κs. search rules) (λ c κs. search rules) (λ c. search rules) (λ c κs. search rules) (λ c. search rules) (λ c. search rules) returns-2)
