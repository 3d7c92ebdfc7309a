-- `leb128::put_byte` meets its contract: a store out of range leaves the list as it is. Assumes nothing.
use mathlib.Core.Path.{◌≡◌, refl, sym, ap, ◌∙◌}
use mathlib.Core.Logic.{⊎_elim}
use lib.ListN.{length, set, length-set}
use lib.Seq.{set_out}
use borrow.Author.Rules.{rules}
use Rattle.leb128.proofs.put_byte.Statement.{statement}
use Rattle.leb128.proofs.put_byte.Tie as tie

-- the list where the branches meet
stored : (c : tie.Joined-at-out) → c.if-at-out.out ≡ set c.args.out.now c.args.at c.args.b
stored c = ⊎_elim (λ w. w.out-is) (λ w. w.out-is ∙ sym (set_out _ _ _ w.if-at-out.false)) c.if-at-out.branch-raw

pub put_byte_spec : {M : Type 1} → statement M
put_byte_spec = tie.close (tie.spec (λ c. search rules) (λ c. search rules) (λ c. ap length (stored c) ∙ simp length-set) (λ c. (refl, stored c)))
