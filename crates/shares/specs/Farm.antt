-- Rule sets that are visited in rounds, with rows posted between. Document 02, A.9. Assumes nothing.
use Rattle.std.specs.Prelude.{ℕ, zero, suc, ◌+◌, ◌-◌, ◌/◌, cond, List, [], ◌∷◌, ◌++◌, map, eqb, ℤ, replicate}
use Rattle.std.proofs.Math.Option.{Option, none, some}
use Rattle.semantics.specs.Formula.{State}
use Rattle.paused.specs.declared.Response.{Response}
use Rattle.paused.specs.declared.Response.TheVariants as R
use Rattle.lifecycle.specs.Calls.{post_of}
use Rattle.rounds.specs.Visits.{visit_of}

-- ---- visits to one rule set, with rows posted between

-- a row, and the image that it is posted by
pub record Post : Type 0 where
  pub image : List ℕ
  pub row : List ℤ

abbrev pub posting : List Post → List ℤ → List ℤ
posting [] cells = cells
posting (p ∷ ps) cells = posting ps (post_of p.image p.row cells).cells

-- what a visit answered, and the state it left
pub record Visit : Type 0 where
  pub reply : Response
  pub state : State

abbrev pub visit : Response → State → Visit
visit r s = record { reply = r; state = s }

-- the visits, and the memory after the last of them: a visit, then its posts, for each list of posts
pub record Visits : Type 0 where
  pub each : List Visit
  pub cells : List ℤ

abbrev pub then_visits : Visit → Visits → Visits
then_visits v r = record { each = v ∷ r.each; cells = r.cells }

abbrev pub visiting : List ℕ → ℕ → List (List Post) → List ℤ → State → Visits
visiting image share [] cells s = record { each = []; cells = cells }
visiting image share (p ∷ ps) cells s =
    then_visits (visit (visit_of image share cells s).reply (visit_of image share cells s).state)
    (visiting image share ps (posting p (visit_of image share cells s).cells) (visit_of image share cells s).state)

-- k visits that are not finished, then the one that is
abbrev pub finished_after : ℕ → ℕ → State → Visit → List Visit
finished_after k share s v = replicate k (visit (R.Unfinished share) s) ++ (v ∷ [])

-- steps divided by share, called up
abbrev pub rounds_for : ℕ → ℕ → ℕ
rounds_for c share = (c + share - 1) / share

-- ---- several rule sets

pub record RuleSet : Type 0 where
  pub image : List ℕ
  pub share : ℕ
  pub cells : List ℤ
  pub state : State

-- what a call to a rule set answered, and the set left
pub record Turn : Type 0 where
  pub reply : Option Response
  pub left : RuleSet

abbrev pub with_cells : RuleSet → List ℤ → State → RuleSet
with_cells x cells s = record { image = x.image; share = x.share; cells = cells; state = s }

abbrev pub turn_with : Option Response → RuleSet → Turn
turn_with r x = record { reply = r; left = x }

abbrev pub posted : Post → RuleSet → Turn
posted p x = turn_with (some (post_of p.image p.row x.cells).reply) (with_cells x (post_of p.image p.row x.cells).cells x.state)

abbrev pub visited : RuleSet → Turn
visited x =
    turn_with (some (visit_of x.image x.share x.cells x.state).reply)
    (with_cells x (visit_of x.image x.share x.cells x.state).cells (visit_of x.image x.share x.cells x.state).state)

-- no call
abbrev pub still : RuleSet → Turn
still x = turn_with none x

-- A row is posted to one set; a round visits all of them.
pub data Event : Type 0 where
  posts : ℕ → Post → Event
  round : Event

abbrev pub posted_to : ℕ → Post → List RuleSet → List Turn
posted_to i p [] = []
posted_to zero p (x ∷ xs) = posted p x ∷ map still xs
posted_to (suc i) p (x ∷ xs) = still x ∷ posted_to i p xs

abbrev pub happens : Event → List RuleSet → List Turn
happens (posts i p) xs = posted_to i p xs
happens round xs = map visited xs

abbrev pub left_sets : List Turn → List RuleSet
left_sets ts = map (λ t. t.left) ts

-- the turns of every set, event by event
abbrev pub happening : List Event → List RuleSet → List (List Turn)
happening [] xs = []
happening (e ∷ es) xs = happens e xs ∷ happening es (left_sets (happens e xs))

-- ---- one rule set alone

pub data Own : Type 0 where
  own_post : Post → Own
  own_visit : Own
  not_own : Own

-- what an event is to set i: its own posts, a visit for each round, and nothing of the others
abbrev pub own : ℕ → Event → Own
own i (posts j p) = cond (eqb i j) (own_post p) not_own
own i round = own_visit

abbrev pub does : Own → RuleSet → Turn
does (own_post p) x = posted p x
does own_visit x = visited x
does not_own x = still x

abbrev pub alone : List Own → RuleSet → List Turn
alone [] x = []
alone (e ∷ es) x = does e x ∷ alone es (does e x).left

-- ---- the visits of one set among its turns

-- the posts to a set before its first visit, and those after each visit
abbrev pub posts_first : List Own → List Post
posts_first [] = []
posts_first (own_post p ∷ os) = p ∷ posts_first os
posts_first (own_visit ∷ os) = []
posts_first (not_own ∷ os) = posts_first os

abbrev pub posts_after : List Own → List (List Post)
posts_after [] = []
posts_after (own_post p ∷ os) = posts_after os
posts_after (own_visit ∷ os) = posts_first os ∷ posts_after os
posts_after (not_own ∷ os) = posts_after os

-- what a turn answered, and the state it left
abbrev pub visit_in : Option Response → State → Visit
visit_in none s = visit R.Idle s
visit_in (some r) s = visit r s

abbrev pub visits_among : List Own → List Turn → List Visit
visits_among [] ts = []
visits_among (o ∷ os) [] = []
visits_among (own_visit ∷ os) (t ∷ ts) = visit_in t.reply t.left.state ∷ visits_among os ts
visits_among (own_post p ∷ os) (t ∷ ts) = visits_among os ts
visits_among (not_own ∷ os) (t ∷ ts) = visits_among os ts
