-- Visits to rule sets, and rounds of them: what they answer and leave, for any memory. Document 02, A.9. Assumes nothing.
use Rattle.std.specs.Prelude.{ℕ, zero, suc, Bool, true, false, ◌&&◌, cond, List, [], ◌∷◌, ◌++◌, ltb, leb, ℤ, length, take, drop}
use Rattle.limits.specs.Limits.{paused_length, set_limit, share_limit, out_of_share}
use Rattle.semantics.specs.Formula.{State}
use Rattle.paused.specs.declared.Response.{Response}
use Rattle.paused.specs.declared.Response.TheVariants as R
use Rattle.paused.specs.Responses.{steps_in}
use Rattle.resumable.specs.Instalment.{AfterCall, advance_of}
use Rattle.lifecycle.specs.Calls.{AfterFinish, after_finish, begin_of, finish_of}

-- a share of 1 to 65,536 steps
abbrev pub share_in_limit : ℕ → Bool
share_in_limit share = ltb 0 share && leb share share_limit

-- ---- a visit

-- the finish's answer, with the steps of this visit
abbrev pub with_steps : ℕ → Response → Response
with_steps k (R.Done n) = R.Done k
with_steps k (R.Refused number place n) = R.Refused number place k
with_steps k (R.Unfinished n) = R.Unfinished k
with_steps k R.Idle = R.Idle

abbrev pub told_with : ℕ → AfterFinish → AfterFinish
told_with k f = after_finish (with_steps k f.reply) f.cells f.state

-- the finish is asked for after the share
abbrev pub asked : State → AfterCall → AfterFinish
asked s a = told_with (steps_in a.reply) (finish_of s a.cells)

abbrev pub given : List ℕ → ℕ → List ℤ → State → AfterFinish
given image share cells s = asked s (advance_of image share cells)

-- A refused start is answered instead. After an idle one share and finish are idle too.
abbrev pub visit_from : List ℕ → ℕ → State → Response → List ℤ → AfterFinish
visit_from image share s (R.Refused number place n) cells = after_finish (R.Refused number place n) cells s
visit_from image share s (R.Done n) cells = given image share cells s
visit_from image share s (R.Unfinished n) cells = given image share cells s
visit_from image share s R.Idle cells = given image share cells s

unfoldable pub visit_of : List ℕ → ℕ → List ℤ → State → AfterFinish
visit_of image share cells s =
    cond (share_in_limit share) (visit_from image share s (begin_of image s cells).reply (begin_of image s cells).cells) (after_finish (R.Refused out_of_share 0 0) cells s)

-- ---- a round, over memory lent for all rule sets together

-- what a round left of the memories and the states, and the answers of its visits
pub record AfterRound : Type 0 where
  pub replies : List Response
  pub paused : List ℤ
  pub states : List ℤ

abbrev pub round_is : List Response → List ℤ → List ℤ → AfterRound
round_is rs paused states = record { replies = rs; paused = paused; states = states }

abbrev pub and_rest : AfterFinish → AfterRound → AfterRound
and_rest v r = round_is (v.reply ∷ r.replies) (v.cells ++ r.paused) (v.state ++ r.states)

-- The table has three numbers a set: bytes of its image, numbers of its state, its share. The lent memory is cut by them in order.
abbrev pub round_from : List ℕ → List ℕ → List ℤ → List ℤ → AfterRound
round_from (bytes ∷ (size ∷ (share ∷ sets))) images paused states =
    and_rest (visit_of (take bytes images) share (take paused_length paused) (take size states)) (round_from sets (drop bytes images) (drop paused_length paused) (drop size states))
round_from (bytes ∷ (size ∷ [])) images paused states = round_is [] paused states
round_from (bytes ∷ []) images paused states = round_is [] paused states
round_from [] images paused states = round_is [] paused states

-- as many sets as there are, each with its share in limit
abbrev pub sets_in_limit : ℕ → List ℕ → Bool
sets_in_limit (suc most) (bytes ∷ (size ∷ (share ∷ sets))) = share_in_limit share && sets_in_limit most sets
sets_in_limit zero (bytes ∷ sets) = false
sets_in_limit (suc most) (bytes ∷ (size ∷ [])) = false
sets_in_limit (suc most) (bytes ∷ []) = false
sets_in_limit most [] = true

abbrev pub table_in_limit : List ℕ → Bool
table_in_limit sets = ltb 0 (length sets) && sets_in_limit set_limit sets

-- 25 before any visit: nothing moves, and it is the one answer
pub data Rounded : Type 0 where
  out_of_limit : Rounded
  visits : AfterRound → Rounded

unfoldable pub round_of : List ℕ → List ℕ → List ℤ → List ℤ → Rounded
round_of sets images paused states = cond (table_in_limit sets) (visits (round_from sets images paused states)) out_of_limit
