-- Rule sets whose images, memories and states are lent together. Document 02, A.9. Assumes nothing.
use Rattle.std.specs.Prelude.{ℕ, zero, suc, ◌≡◌, List, [], ◌∷◌, ◌++◌, map, ℤ, length}
use Rattle.limits.specs.Limits.{paused_length}
use Rattle.paused.specs.declared.Response.{Response}
use Rattle.rounds.specs.Visits.{visit_of, AfterRound, round_is, round_from}
use Rattle.shares.specs.Farm.{RuleSet, visited, left_sets}

abbrev pub table_of : List RuleSet → List ℕ
table_of [] = []
table_of (x ∷ xs) = length x.image ∷ (length x.state ∷ (x.share ∷ table_of xs))

abbrev pub images_of : List RuleSet → List ℕ
images_of [] = []
images_of (x ∷ xs) = x.image ++ images_of xs

abbrev pub memories_of : List RuleSet → List ℤ
memories_of [] = []
memories_of (x ∷ xs) = x.cells ++ memories_of xs

abbrev pub joined_states : List RuleSet → List ℤ
joined_states [] = []
joined_states (x ∷ xs) = x.state ++ joined_states xs

-- every memory has its length
abbrev pub Whole : List RuleSet → Type 0
Whole [] = Unit {0}
Whole (x ∷ xs) = (length x.cells ≡ paused_length) × Whole xs

abbrev pub visit_replies : List RuleSet → List Response
visit_replies [] = []
visit_replies (x ∷ xs) = (visit_of x.image x.share x.cells x.state).reply ∷ visit_replies xs

-- ---- several rounds

-- rounds over joined memory, each on what the one before left
abbrev pub rounds_from : ℕ → List ℕ → List ℕ → List ℤ → List ℤ → List AfterRound
rounds_from zero table images paused states = []
rounds_from (suc k) table images paused states =
    round_from table images paused states ∷ rounds_from k table images (round_from table images paused states).paused (round_from table images paused states).states

-- the visits of as many rounds, set by set
abbrev pub visit_rounds : ℕ → List RuleSet → List AfterRound
visit_rounds zero xs = []
visit_rounds (suc k) xs =
    round_is (visit_replies xs) (memories_of (left_sets (map visited xs))) (joined_states (left_sets (map visited xs))) ∷ visit_rounds k (left_sets (map visited xs))
