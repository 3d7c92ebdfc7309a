-- `rounds::in_limit` meets its contract, by the numbers left in the table (Limits). Assumes nothing.
use mathlib.Core.Path.{sym, ◌∙◌}
use lib.ListN.{length}
use borrow.Author.Tests.{not-true, not-false}
use borrow.Author.Rules.{rules}
use Rattle.rounds.proofs.Limits.{limit_end, limit_many, limit_cut, limit_out, limit_next}
use Prim.Native.Nat.{ℕ, ◌<◌}
use borrow.Fn.Kinds.{In}
use borrow.Fn.PlainCycle.{Measures, is, falls, and}
use Rattle.rounds.proofs.in_limit.Reads as in_limit
use Rattle.rounds.proofs.in_limit.Kinds as in-limit-kinds
use Rattle.rounds.proofs.+in_limit.Lts-in_limit as in-limit-lts
use Rattle.rounds.proofs.share_fits.Reads as share-fits-reads
use Rattle.rounds.proofs.+in_limit.{statement}
use Rattle.rounds.proofs.+in_limit.Tie.{close}

abbrev μ_in_limit : Measures 1 in-limit-kinds.ps ℕ
μ_in_limit κs a = length a.1.0.now

abbrev in_limit_at : ℕ → In 1 in-limit-kinds.ps
in_limit_at t = and 1 in-limit-kinds.ps (is 1 in-limit-kinds.ps μ_in_limit t) in_limit.Pre

abbrev in_limit_below : ℕ → In 1 in-limit-kinds.ps
in_limit_below t =
    and 1 in-limit-kinds.ps (falls 1 in-limit-kinds.ps ◌<◌ μ_in_limit t) in_limit.Pre

abbrev claims : ℕ → in-limit-lts.Claims
claims t = (share-fits-reads.Asked, share-fits-reads.Learnt, in_limit_below t, in_limit.Post)

in_limit_returns : (t : ℕ) → in-limit-lts.Need-returns-then-table-lt1 (claims t) (in_limit_at t) in_limit.Post
in_limit_returns t c = limit_end c.args.most c.args.table.now c.if-table-lt1.true

in_limit_returns_2 : (t : ℕ) → in-limit-lts.Need-returns-then-most-lt1 (claims t) (in_limit_at t) in_limit.Post
in_limit_returns_2 t c = limit_many c.args.most c.args.table.now c.if-table-lt1.false c.if-most-lt1.true

in_limit_returns_3 : (t : ℕ) → in-limit-lts.Need-returns-then-table-lt3 (claims t) (in_limit_at t) in_limit.Post
in_limit_returns_3 t c = limit_cut c.args.most c.args.table.now c.if-table-lt1.false c.if-table-lt3.true

in_limit_returns_4 : (t : ℕ) → in-limit-lts.Need-returns-then-not-fits (claims t) (in_limit_at t) in_limit.Post
in_limit_returns_4 t c = limit_out c.args.most c.args.table.now c.if-most-lt1.false c.if-table-lt3.false (sym (not-true _ c.if-not-fits.true-raw) ∙ c.share_fits-fits.ensures)

in_limit_returns_5 : (t : ℕ) → in-limit-lts.Need-returns (claims t) (in_limit_at t) in_limit.Post
in_limit_returns_5 t c = limit_next c.args.most c.args.table.now c.if-most-lt1.false c.if-table-lt3.false (sym (not-false _ c.if-not-fits.false-raw) ∙ c.share_fits-fits.ensures) c.in_limit.result c.in_limit.ensures

pub +in_limit_spec : {M : Type 1} → statement M
+in_limit_spec =
    close
    μ_in_limit
    λ t. in-limit-lts.spec
    (claims t) (in_limit_at t) in_limit.Post (in_limit_returns t) (in_limit_returns_2 t) (in_limit_returns_3 t) (λ c. search rules)
    (λ c κs. search rules) (in_limit_returns_4 t) (λ c. search rules) (λ c. search rules) (λ c. search rules) (λ c κs. search rules)
    (in_limit_returns_5 t)
