-- No rows or refusals of another set change a set's values or the number of its rounds. Assumes nothing.
use Prim.Native.Nat.{ℕ, ◌*◌, ◌-◌, ◌≤◌, ◌<◌}
use native.Mathlib.Omega.{arith}
use mathlib.Core.Path.{◌≡◌, refl, sym, ap, ◌∙◌}
use mathlib.Core.List.{List, [], ◌∷◌, map}
use mathlib.Core.Option.{some}
use lib.IntN.{ℤ}
use lib.ListN.{length, get_elem?}
use Rattle.limits.specs.Limits.{share_limit}
use Rattle.limits.specs.Answer.{accepted}
use Rattle.bytecode.specs.Parts.{instructions_in}
use Rattle.scan.specs.Services.{scan_of}
use Rattle.paused.specs.declared.Response.TheVariants as R
use Rattle.rounds.specs.Visits.{visit_of}
use Rattle.shares.specs.Farm.{posting, Visit, visit, visiting, finished_after, rounds_for, RuleSet, Turn, Event, happening, Own, own_post, own_visit, not_own, own, does, alone, posts_first, posts_after, visits_among}
use Rattle.shares.proofs.Exact.{Waiting, shares_exact}
use Rattle.shares.proofs.Isolated.{isolated}

-- the visits of a set alone
visits_alone : (os : List Own) (x : RuleSet) → visits_among os (alone os x) ≡ (visiting x.image x.share (posts_after os) (posting (posts_first os) x.cells) x.state).each
visits_alone [] x = refl
visits_alone (own_post p ∷ os) x = visits_alone os (does (own_post p) x).left
visits_alone (own_visit ∷ os) x =
    ap (λ (vs : List Visit). visit (visit_of x.image x.share x.cells x.state).reply (visit_of x.image x.share x.cells x.state).state ∷ vs) (visits_alone os (does own_visit x).left)
visits_alone (not_own ∷ os) x = visits_alone os x

some_same : (a b : List Turn) → map some a ≡ map some b → a ≡ b
some_same [] [] e = refl
some_same [] (y ∷ b) e = let z : ◌≡◌ {A = ℕ} 0 1 = cc in absurd (omega arith)
some_same (x ∷ a) [] e = let z : ◌≡◌ {A = ℕ} 0 1 = cc in absurd (omega arith)
some_same (x ∷ a) (y ∷ b) e =
    let p : x ≡ y = cc in
    let q : map some a ≡ map some b = cc in
    rw (p, some_same a b q)

-- whatever happens to the others, the scan of the row that waits is finished in that number of the set's visits
pub isolated_exact : (events : List Event) (xs : List RuleSet) (i : ℕ) (x : RuleSet) → get_elem? xs i ≡ some x → (turns : List Turn)
    → map (λ (ts : List Turn). get_elem? ts i) (happening events xs) ≡ map some turns
    → (row : List ℤ) → Waiting row (posting (posts_first (map (own i) events)) x.cells) → 0 < x.share → x.share ≤ share_limit
    → (scan_of x.image x.state row).answer ≡ accepted tt → 0 < instructions_in x.image
    → length (posts_after (map (own i) events)) ≡ rounds_for (instructions_in x.image) x.share
    → visits_among (map (own i) events) turns
    ≡ finished_after (rounds_for (instructions_in x.image) x.share - 1) x.share x.state
    (visit (R.Done (instructions_in x.image - (rounds_for (instructions_in x.image) x.share - 1) * x.share)) (scan_of x.image x.state row).state)
isolated_exact events xs i x at turns e row w a b ok h l =
    let os = map (own i) events in
    let t : turns ≡ alone os x = some_same turns (alone os x) (sym e ∙ isolated events xs i x at) in
    ap (visits_among os) t ∙ visits_alone os x
    ∙ (shares_exact x.image x.state row x.share a b (posting (posts_first os) x.cells) w ok h (posts_after os) l).visits
