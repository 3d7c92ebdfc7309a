-- A round over joined memory is the visits of its sets: cut by the table, the memory gives the sets back. Assumes nothing.
use Prim.Native.Nat.{ℕ, zero, suc}
use mathlib.Core.Path.{◌≡◌, refl, sym, ap, ◌∙◌}
use mathlib.Core.List.{List, [], ◌∷◌, ◌++◌, map}
use lib.ListN.{length, take, drop}
use lib.Seq.{take-append_seam, drop-append_seam}
use Rattle.limits.specs.Limits.{paused_length}
use Rattle.rounds.specs.Visits.{AfterRound, round_is, round_from}
use Rattle.shares.specs.Farm.{RuleSet, visited, left_sets}
use Rattle.shares.proofs.Lengths.{visit_same}
use Rattle.shares.specs.Joined.{table_of, images_of, memories_of, joined_states, Whole, visit_replies, rounds_from, visit_rounds}

taken : {A : Type 0} (n : ℕ) (a b : List A) → length a ≡ n → take n (a ++ b) ≡ a
taken n a b e = ap (λ (k : ℕ). take k (a ++ b)) (sym e) ∙ take-append_seam a b

dropped : {A : Type 0} (n : ℕ) (a b : List A) → length a ≡ n → drop n (a ++ b) ≡ b
dropped n a b e = ap (λ (k : ℕ). drop k (a ++ b)) (sym e) ∙ drop-append_seam a b

pub cut_joined : (xs : List RuleSet) → Whole xs
    → round_from (table_of xs) (images_of xs) (memories_of xs) (joined_states xs) ≡ round_is (visit_replies xs) (memories_of (left_sets (map visited xs))) (joined_states (left_sets (map visited xs)))
cut_joined [] w = refl
cut_joined (x ∷ xs) w =
    rw (
      taken (length x.image) x.image (images_of xs) refl,
      dropped (length x.image) x.image (images_of xs) refl,
      taken paused_length x.cells (memories_of xs) w.0,
      dropped paused_length x.cells (memories_of xs) w.0,
      taken (length x.state) x.state (joined_states xs) refl,
      dropped (length x.state) x.state (joined_states xs) refl,
      cut_joined xs w.1,
    )

-- ---- several rounds: the table cuts what a round left as it cut what the round was lent

images_kept : (xs : List RuleSet) → images_of (left_sets (map visited xs)) ≡ images_of xs
images_kept [] = refl
images_kept (x ∷ xs) = ap (λ (l : List ℕ). x.image ++ l) (images_kept xs)

table_kept : (xs : List RuleSet) → table_of (left_sets (map visited xs)) ≡ table_of xs
table_kept [] = refl
table_kept (x ∷ xs) = rw ((visit_same x.image x.share x.cells x.state).values, table_kept xs)

whole_kept : (xs : List RuleSet) → Whole xs → Whole (left_sets (map visited xs))
whole_kept [] w = tt
whole_kept (x ∷ xs) w = ((visit_same x.image x.share x.cells x.state).memory ∙ w.0, whole_kept xs w.1)

pub cut_rounds : (k : ℕ) (xs : List RuleSet) → Whole xs → rounds_from k (table_of xs) (images_of xs) (memories_of xs) (joined_states xs) ≡ visit_rounds k xs
cut_rounds zero xs w = refl
cut_rounds (suc k) xs w =
    let next = cut_rounds k (left_sets (map visited xs)) (whole_kept xs w) in
    rw (cut_joined xs w) (ap (λ (l : List AfterRound). round_is (visit_replies xs) (memories_of (left_sets (map visited xs))) (joined_states (left_sets (map visited xs))) ∷ l)
    (rw (table_kept xs, images_kept xs) at next))
