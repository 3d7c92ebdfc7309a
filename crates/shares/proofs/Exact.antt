-- A scan is finished in exactly as many visits as its steps divided by its share, rounded up, whatever is posted between. Assumes nothing.
use Prim.Native.Nat.{ℕ, zero, suc, ◌+◌, ◌*◌, ◌-◌, ◌/◌, ◌%◌, ◌≤◌, ◌<◌}
use native.Mathlib.Omega.{arith}
use native.Mathlib.Nat.{zero-mul, suc-mul, div-add-mod', mod-lt}
use mathlib.Core.Path.{◌≡◌, refl, sym, ap, subst, ◌∙◌}
use mathlib.Core.Bool.{true, false}
use mathlib.Core.List.{List, [], ◌∷◌}
use mathlib.Core.Option.{none, some}
use lib.Arith.{digits_div}
use lib.IntN.{ℤ}
use lib.ListN.{length, take}
use lib.Seq.{take_all}
use Rattle.before.specs.Before.{before_code}
use Rattle.limits.specs.Limits.{paused_length, share_limit}
use Rattle.limits.specs.Answer.{accepted, refused}
use Rattle.semantics.specs.Formula.{State}
use Rattle.semantics.specs.ReferenceScan.{with_inputs}
use Rattle.semantics.specs.Shape.{has_timer}
use Rattle.bytecode.specs.Parts.{header_of, code_of, limits_of, instructions_in}
use Rattle.bytecode.proofs.Limits.{no_timers_end, none_has_timer, row_length_untimed}
use Rattle.scan.specs.Services.{AfterScan, scan_code, scan_of}
use Rattle.paused.specs.declared.Response.{Response}
use Rattle.paused.specs.declared.Response.TheVariants as R
use Rattle.paused.specs.Memory.{checkpoint_of, waiting_of}
use Rattle.lifecycle.specs.Calls.{AfterFinish}
use Rattle.divided.proofs.Agrees.{Agrees}
use Rattle.divided.proofs.May.{may}
use Rattle.rounds.specs.Visits.{share_in_limit, given, visit_of}
use Rattle.shares.specs.Farm.{Post, posting, Visit, visit, Visits, visiting, finished_after, rounds_for}
use Rattle.scan.proofs.Steps.{scan_steps_lem}
use Rattle.shares.proofs.Given.{Kept, posting_keeps, Left, scan_at, goes_on_lem, ends, ends_refused, in_limit, Ready, ready_later, ready_first, ready_refused}

-- ---- steps divided by share, rounded up

-- of t steps with d done, k more shares are not enough, and one more is
abbrev Within : ℕ → ℕ → ℕ → ℕ → Type 0
Within zero share d t = t ≤ d + share
Within (suc k) share d t = (d + share < t) × Within k share (d + share) t

within : (k share d t : ℕ) → d + k * share < t → t ≤ d + k * share + share → Within k share d t
within zero share d t a b = omega (arith, zero-mul share)
within (suc k) share d t a b = (omega (arith, suc-mul k share), within k share (d + share) t (omega (arith, suc-mul k share)) (omega (arith, suc-mul k share)))

pub record RoundedUp (c share : ℕ) : Type 0 where
  pub earlier : ℕ
  pub is : rounds_for c share ≡ suc earlier
  pub enough : Within earlier share 0 c

rounded : (c share : ℕ) → 0 < c → 0 < share → RoundedUp c share
rounded c share a b =
    let q = (c - 1) / share in
    let m = (c - 1) % share in
    let e : q * share + m ≡ c - 1 = div-add-mod' (c - 1) share in
    let h : m < share = mod-lt (c - 1) b in
    let f : c + share - 1 ≡ suc q * share + m = omega (arith, suc-mul q share) in
    record {
      earlier = q;
      is = ap (λ (n : ℕ). n / share) f ∙ digits_div (suc q) h;
      enough = within q share 0 c (omega arith) (omega arith);
    }

-- ---- the visits of one scan

-- what the visits answered and left; then there is no scan
pub record Finished (image : List ℕ) (v : Visits) (each : List Visit) : Type 0 where
  pub visits : v.each ≡ each
  pub over : (checkpoint_of v.cells).phase ≡ 0

module _ (image : List ℕ) (s : State) (row : List ℤ) (share : ℕ) (limit : share_in_limit share ≡ true) where
  -- how this scan ends
  Ends : (ℕ → Response) → State → Type 0
  Ends last t =
      (d : ℕ) (cells : List ℤ) → Kept image cells (some (scan_at image s row d)) → (scan_of image s row).steps ≤ d + share → d ≤ (scan_of image s row).steps
      → Left image (given image share cells s) (last ((scan_of image s row).steps - d)) t none

  visits_from : (last : ℕ → Response) (t : State) → Ends last t → (k d : ℕ) (ps : List (List Post)) (cells : List ℤ) → length ps ≡ suc k → d ≤ (scan_of image s row).steps
      → Within k share d (scan_of image s row).steps → Ready image s row share d cells
      → Finished image (visiting image share ps cells s) (finished_after k share s (visit (last ((scan_of image s row).steps - (d + k * share))) t))
  unfolding Ends
  visits_from last t ending zero d (p ∷ []) cells l h w y =
      let x = subst (λ (v : AfterFinish). Left image v (last ((scan_of image s row).steps - d)) t none) (sym y.visits) (ending d y.found y.kept w h) in
      let n : (scan_of image s row).steps - (d + 0 * share) ≡ (scan_of image s row).steps - d = omega (arith, zero-mul share) in
      record { visits = rw (x.reply, x.state, n); over = (posting_keeps image p _ none x.kept).agrees.scan }
  visits_from last t ending (suc k) d (p ∷ ps) cells l h w y =
      let x = subst (λ (v : AfterFinish). Left image v (R.Unfinished share) s (some (scan_at image s row (d + share)))) (sym y.visits) (goes_on_lem image s row share d y.found y.kept w.0) in
      let z = posting_keeps image p _ (some (scan_at image s row (d + share))) x.kept in
      let next =
      visits_from last t ending k (d + share) ps (posting p (visit_of image share cells s).cells) (omega arith) (omega (arith, w.0)) w.1
      (ready_later image s row share limit (posting p (visit_of image share cells s).cells) (d + share) z) in
      let n : (scan_of image s row).steps - (d + share + k * share) ≡ (scan_of image s row).steps - (d + suc k * share) = omega (arith, suc-mul k share) in
      record {
        visits =
            rw (x.reply, x.state)
            (ap (λ (vs : List Visit). visit (R.Unfinished share) s ∷ vs) (next.visits ∙ ap (λ (j : ℕ). finished_after k share s (visit (last j) t)) n));
        over = rw x.state next.over;
      }
  visits_from last t ending zero d [] cells l h w y = let f : ⊥ = omega arith in absurd f
  visits_from last t ending (suc k) d [] cells l h w y = let f : ⊥ = omega arith in absurd f
  visits_from last t ending zero d (p ∷ (q ∷ ps)) cells l h w y = let f : ⊥ = omega arith in absurd f

  visits_all : (last : ℕ → Response) (t : State) → Ends last t → (between : List (List Post)) (cells : List ℤ) (c : ℕ) → (scan_of image s row).steps ≡ c → 0 < c → 0 < share
      → length between ≡ rounds_for c share → Ready image s row share 0 cells
      → Finished image (visiting image share between cells s) (finished_after (rounds_for c share - 1) share s (visit (last (c - (rounds_for c share - 1) * share)) t))
  visits_all last t ending between cells c n h a l y =
      let u = rounded c share h a in
      let j : rounds_for c share - 1 ≡ u.earlier = ap (λ (k : ℕ). k - 1) u.is ∙ omega arith in
      let m : (scan_of image s row).steps - (0 + u.earlier * share) ≡ c - u.earlier * share = omega (arith, n) in
      subst (λ (q : ℕ). Finished image (visiting image share between cells s) (finished_after q share s (visit (last (c - q * share)) t))) (sym j)
      (subst (λ (q : ℕ). Finished image (visiting image share between cells s) (finished_after u.earlier share s (visit (last q) t))) m
      (visits_from last t ending u.earlier 0 between cells (l ∙ u.is) (omega arith) (subst (λ (q : ℕ). Within u.earlier share 0 q) (sym n) u.enough) y))

-- memory with a row that waits and no scan
pub record Waiting (row cells : List ℤ) : Type 0 where
  pub long : length cells ≡ paused_length
  pub free : (checkpoint_of cells).phase ≡ 0
  pub waits : waiting_of cells ≡ some row

agrees : (image : List ℕ) (row cells : List ℤ) → Waiting row cells → Agrees image cells (some row) none
agrees image row cells x = record { long = x.long; waits = x.waits; scan = x.free }

module _ (image : List ℕ) (s : State) (row : List ℤ) (share : ℕ) (a : 0 < share) (b : share ≤ share_limit) (cells : List ℤ) (x : Waiting row cells) where
  -- The first r - 1 visits are not finished and do their share; visit r does what is left and finishes the scan.
  pub shares_exact : (scan_of image s row).answer ≡ accepted tt → 0 < instructions_in image → (between : List (List Post)) → length between ≡ rounds_for (instructions_in image) share
      → Finished image (visiting image share between cells s)
      (finished_after (rounds_for (instructions_in image) share - 1) share s
      (visit (R.Done (instructions_in image - (rounds_for (instructions_in image) share - 1) * share)) (scan_of image s row).state))
  unfolding Ends
  shares_exact e h between l =
      visits_all image s row share (in_limit share a b) R.Done (scan_of image s row).state (λ d found kept w g. ends image s row share d found kept w g e) between cells (instructions_in image)
      (scan_steps_lem image s row e) h a l (ready_first image s row share (in_limit share a b) cells (agrees image row cells x) e)

  -- so are the visits of a scan that is refused at work
  pub refused_exact : (number place : ℕ) → (scan_of image s row).answer ≡ refused number place → 0 < (scan_of image s row).steps → (between : List (List Post))
      → length between ≡ rounds_for (scan_of image s row).steps share
      → Finished image (visiting image share between cells s)
      (finished_after (rounds_for (scan_of image s row).steps share - 1) share s
      (visit (R.Refused number place ((scan_of image s row).steps - (rounds_for (scan_of image s row).steps share - 1) * share)) s))
  unfolding Ends
  refused_exact number place e h between l =
      visits_all image s row share (in_limit share a b) (λ n. R.Refused number place n) s (λ d found kept w g. ends_refused image s row share d found kept w g number place e) between cells
      (scan_of image s row).steps refl h a l
      (ready_refused image s row share (in_limit share a b) cells (agrees image row cells x) number place ((scan_of image s row).steps - 1) e (omega arith))

  -- An empty code finishes at its first visit: the inputs are taken.
  pub empty_code : before_code image s row ≡ accepted tt → code_of image ≡ []
      → ((visit_of image share cells s).reply ≡ R.Done 0) × (((visit_of image share cells s).state ≡ with_inputs s row) × ((checkpoint_of (visit_of image share cells s).cells).phase ≡ 0))
  unfolding scan_code
  empty_code e c =
      let m = may image s row e in
      let u : has_timer (limits_of image) ≡ false = none_has_timer image (no_timers_end (code_of image) 0 (rw c (omega arith))) in
      let r : take (header_of image).inputs row ≡ row = take_all (header_of image).inputs row (omega (arith, m.rows, row_length_untimed image u)) in
      let w : scan_of image s row ≡ record { answer = accepted tt; steps = 0; state = with_inputs s row } = m.whole ∙ rw (c, r) in
      let k : (scan_of image s row).answer ≡ accepted tt = ap (λ (r : AfterScan). r.answer) w in
      let n : (scan_of image s row).steps ≡ 0 = ap (λ (r : AfterScan). r.steps) w in
      let y = ready_first image s row share (in_limit share a b) cells (agrees image row cells x) k in
      let z = subst (λ (v : AfterFinish). Left image v (R.Done ((scan_of image s row).steps - 0)) (scan_of image s row).state none) (sym y.visits) (ends image s row share 0 y.found y.kept (omega arith) (omega arith) k) in
      (z.reply ∙ ap R.Done (omega arith), (z.state ∙ ap (λ (r : AfterScan). r.state) w, z.kept.agrees.scan))
