-- What the calls of a scan in instalments answer, by the undivided scan alone. Document 02, A.8. Assumes nothing.
use Rattle.std.specs.Prelude.{ℕ, zero, suc, ◌+◌, ◌-◌, ◌≤◌, ◌<◌, min, ◌≡◌, cond, List, [], ◌∷◌, ◌++◌, ltb, ℤ, length}
use Rattle.std.proofs.Math.Option.{Option, none, some}
use Rattle.limits.specs.Limits.{state_differs}
use Rattle.limits.specs.Answer.{Answer, accepted, refused}
use Rattle.semantics.specs.Formula.{State}
use Rattle.bytecode.specs.Check.{check_of}
use Rattle.bytecode.specs.Parts.{shape_in}
use Rattle.scan.specs.Services.{AfterScan, scan_of}
use Rattle.paused.specs.declared.Response.{Response}
use Rattle.paused.specs.declared.Response.TheVariants as R
use Rattle.paused.specs.Responses.{steps_in}
use Rattle.resumable.specs.Instalment.{advance_of}
use Rattle.lifecycle.specs.Calls.{same_values, may_post, post_of, begin_of, finish_of}

-- An instalment is lent the image of the scan under way.
pub data Call : Type 0 where
  post : List ℕ → List ℤ → Call
  begin : List ℕ → State → Call
  advance_scan : ℕ → Call
  finish : State → Call

-- the reply, and at a finish the state left
pub record Said : Type 0 where
  pub reply : Response
  pub left : Option State

abbrev pub says : Response → Said
says r = record { reply = r; left = none }

abbrev pub says_leaving : Response → State → Said
says_leaving r s = record { reply = r; left = some s }

-- ---- the calls on memory

-- what was said, the image of the last start that was done, the memory left
pub record Played : Type 0 where
  pub said : Said
  pub image : List ℕ
  pub cells : List ℤ

abbrev pub played : Said → List ℕ → List ℤ → Played
played a image cells = record { said = a; image = image; cells = cells }

abbrev pub image_after : Response → List ℕ → List ℕ → List ℕ
image_after (R.Done n) new old = new
image_after (R.Refused number place n) new old = old
image_after (R.Unfinished n) new old = old
image_after R.Idle new old = old

abbrev pub plays : Call → List ℕ → List ℤ → Played
plays (post i row) image cells = played (says (post_of i row cells).reply) image (post_of i row cells).cells
plays (begin i s) image cells = played (says (begin_of i s cells).reply) (image_after (begin_of i s cells).reply i image) (begin_of i s cells).cells
plays (advance_scan n) image cells = played (says (advance_of image n cells).reply) image (advance_of image n cells).cells
plays (finish s) image cells = played (says_leaving (finish_of s cells).reply (finish_of s cells).state) image (finish_of s cells).cells

abbrev pub play : List Call → List ℕ → List ℤ → List Said
play [] image cells = []
play (c ∷ cs) image cells = (plays c image cells).said ∷ play cs (plays c image cells).image (plays c image cells).cells

-- ---- what is expected

-- a scan that is not over: what it was started on, and the steps done
pub record Scan : Type 0 where
  pub image : List ℕ
  pub start : State
  pub row : List ℤ
  pub done : ℕ

abbrev pub whole : Scan → AfterScan
whole o = scan_of o.image o.start o.row

-- what was said, the row that waits, the scan that is not over
pub record Expected : Type 0 where
  pub said : Said
  pub waiting : Option (List ℤ)
  pub scan : Option Scan

abbrev pub expect : Said → Option (List ℤ) → Option Scan → Expected
expect a w o = record { said = a; waiting = w; scan = o }

-- 9, 11, then 12 for the row; a refused one replaces nothing
abbrev pub expect_post : Answer (Unit {0}) → List ℤ → Option (List ℤ) → Option Scan → Expected
expect_post (refused number place) row w o = expect (says (R.Refused number place 0)) w o
expect_post (accepted u) row w o = expect (says (R.Done 0)) (some row) o

-- A scan that is refused before its first instruction is refused at its start.
abbrev pub expect_begin : List ℕ → State → List ℤ → Answer (Unit {0}) → ℕ → Expected
expect_begin image s row (refused number place) zero = expect (says (R.Refused number place 0)) none none
expect_begin image s row (refused number place) (suc n) = expect (says (R.Done 0)) none (some (record { image = image; start = s; row = row; done = 0 }))
expect_begin image s row (accepted u) n = expect (says (R.Done 0)) none (some (record { image = image; start = s; row = row; done = 0 }))

-- as many steps as are given, or as are left
abbrev pub steps_now : ℕ → Scan → ℕ
steps_now n o = min n ((whole o).steps - o.done)

abbrev pub further_by : ℕ → Scan → Scan
further_by k o = record { image = o.image; start = o.start; row = o.row; done = o.done + k }

abbrev pub expect_end : State → Scan → Option (List ℤ) → Answer (Unit {0}) → Expected
expect_end s o w (refused number place) = expect (says_leaving (R.Refused number place (whole o).steps) s) w none
expect_end s o w (accepted u) =
    cond (same_values s o.start) (expect (says_leaving (R.Done (whole o).steps) (whole o).state) w none) (expect (says_leaving (R.Refused state_differs 0 0) s) w (some o))

abbrev pub expects : Call → Option (List ℤ) → Option Scan → Expected
expects (post image row) w o = expect_post (may_post (check_of image) (shape_in image) row) row w o
expects (begin image s) w (some o) = expect (says (R.Unfinished 0)) w (some o)
expects (begin image s) none none = expect (says R.Idle) none none
expects (begin image s) (some row) none = expect_begin image s row (scan_of image s row).answer (scan_of image s row).steps
expects (advance_scan n) w none = expect (says R.Idle) w none
expects (advance_scan n) w (some o) = expect (says (R.Done (steps_now n o))) w (some (further_by (steps_now n o) o))
expects (finish s) w none = expect (says_leaving R.Idle s) w none
expects (finish s) w (some o) = cond (ltb o.done (whole o).steps) (expect (says_leaving (R.Unfinished 0) s) w (some o)) (expect_end s o w (whole o).answer)

abbrev pub expected_said : List Call → Option (List ℤ) → Option Scan → List Said
expected_said [] w o = []
expected_said (c ∷ cs) w o = (expects c w o).said ∷ expected_said cs (expects c w o).waiting (expects c w o).scan

-- ---- any division into instalments gives the result, total steps and state of the undivided scan

-- Calls that leave a scan not over: instalments of any sizes, posts and starts at any time, finishes that are too early or answer 24.
abbrev pub NotOver : List Call → Option (List ℤ) → Scan → Type 0
NotOver [] w o = Unit {0}
NotOver (post image row ∷ cs) w o = NotOver cs (expects (post image row) w (some o)).waiting o
NotOver (begin image s ∷ cs) w o = NotOver cs w o
NotOver (advance_scan n ∷ cs) w o = NotOver cs w (further_by (steps_now n o) o)
NotOver (finish s ∷ cs) w o = ((expects (finish s) w (some o)).scan ≡ some o) × NotOver cs (expects (finish s) w (some o)).waiting o

-- the steps that instalments are given, and those that they report
abbrev pub given_by : Call → ℕ
given_by (post image row) = 0
given_by (begin image s) = 0
given_by (advance_scan n) = n
given_by (finish s) = 0

abbrev pub given_in : List Call → ℕ
given_in [] = 0
given_in (c ∷ cs) = given_by c + given_in cs

abbrev pub done_in : List Said → ℕ
done_in [] = 0
done_in (a ∷ more) = steps_in a.reply + done_in more

-- the undivided scan as a finish answers it
abbrev pub response_of : Answer (Unit {0}) → ℕ → Response
response_of (refused number place) n = R.Refused number place n
response_of (accepted u) n = R.Done n

abbrev pub said_of : AfterScan → Said
said_of a = says_leaving (response_of a.answer a.steps) a.state

-- the scan that a start leaves
abbrev pub begun_scan : List ℕ → State → List ℤ → Scan
begun_scan image s row = record { image = image; start = s; row = row; done = 0 }

-- What a start of a row says, calls that leave its scan not over, and a finish with the state of the start: the instalments did as many steps
-- as were given, or those of the undivided scan; if these are all, the finish answers its result and total steps, and leaves its state.
pub record AsUndivided (image : List ℕ) (s : State) (row : List ℤ) (calls : List Call) (said : List Said) : Type 0 where
  pub between : List Said
  pub last : Said
  pub each : said ≡ says (R.Done 0) ∷ (between ++ (last ∷ []))
  pub one : length between ≡ length calls
  pub total : done_in between ≡ min (given_in calls) (scan_of image s row).steps
  pub early : given_in calls < (scan_of image s row).steps → last ≡ says_leaving (R.Unfinished 0) s
  pub undivided : (scan_of image s row).steps ≤ given_in calls → last ≡ said_of (scan_of image s row)
