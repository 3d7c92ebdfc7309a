-- A visit by what the undivided scan says: its start, its share, its finish; and rows posted between. Assumes nothing.
use Prim.Native.Nat.{ℕ, suc, ◌+◌, ◌-◌, ◌≤◌, ◌<◌, min}
use native.Mathlib.Omega.{arith}
use mathlib.Core.Path.{◌≡◌, refl, ap, subst, ◌∙◌}
use mathlib.Core.Bool.{true}
use mathlib.Core.List.{List, [], ◌∷◌}
use mathlib.Core.Option.{Option, none, some}
use lib.IntN.{ℤ}
use borrow.Author.Tests.{lt-ltb, le-ltb, le-leb}
use Rattle.limits.specs.Answer.{accepted, refused}
use Rattle.semantics.specs.Formula.{State}
use Rattle.bytecode.specs.Check.{check_of}
use Rattle.bytecode.specs.Parts.{shape_in}
use Rattle.scan.specs.Services.{scan_of}
use Rattle.paused.specs.declared.Response.{Response}
use Rattle.paused.specs.declared.Response.TheVariants as R
use Rattle.resumable.specs.Instalment.{advance_of}
use Rattle.lifecycle.specs.Calls.{may_post, post_of, begin_of, AfterFinish, finish_of}
use Rattle.divided.specs.Expected.{Scan, Said, Expected, post, begin, finish, plays, expects, image_after, expect, says, says_leaving}
use Rattle.divided.proofs.Agrees.{Agrees}
use Rattle.divided.proofs.Posting.{post_agrees}
use Rattle.divided.proofs.Starting.{begin_agrees}
use Rattle.divided.proofs.Instalments.{advance_agrees}
use Rattle.divided.proofs.Finishing.{finish_agrees}
use Rattle.divided.proofs.Yardstick.{posted_scan, same_itself}
use Rattle.rounds.specs.Visits.{share_in_limit, with_steps, given, visit_from, visit_of}
use Rattle.shares.specs.Farm.{Post, posting}

-- the memory agrees with a scan that is not over, whatever row waits
pub record Kept (image : List ℕ) (cells : List ℤ) (o : Option Scan) : Type 0 where
  pub waiting : Option (List ℤ)
  pub agrees : Agrees image cells waiting o

-- ---- rows posted

pub posting_keeps : (image : List ℕ) (ps : List Post) (cells : List ℤ) (o : Option Scan) → Kept image cells o → Kept image (posting ps cells) o
posting_keeps image [] cells o x = x
posting_keeps image (p ∷ ps) cells o x =
    let m = post_agrees x.agrees p.image p.row in
    posting_keeps image ps _ o
    (record {
      waiting = (expects (post p.image p.row) x.waiting o).waiting;
      agrees =
          subst (Agrees image (post_of p.image p.row cells).cells (expects (post p.image p.row) x.waiting o).waiting)
          (posted_scan (may_post (check_of p.image) (shape_in p.image) p.row) p.row x.waiting o)
          m.agrees;
    })

-- ---- share and finish

pub record Left (image : List ℕ) (v : AfterFinish) (r : Response) (s : State) (o : Option Scan) : Type 0 where
  pub reply : v.reply ≡ r
  pub state : v.state ≡ s
  pub kept : Kept image v.cells o

module _ (image : List ℕ) (s : State) (row : List ℤ) where
  -- the scan with so many steps done
  abbrev pub scan_at : ℕ → Scan
  scan_at d = record { image = image; start = s; row = row; done = d }

  abbrev steps : ℕ
  steps = (scan_of image s row).steps

  module _ (share d : ℕ) (cells : List ℤ) (x : Kept image cells (some (scan_at d))) where
    finishes : (k : ℕ) (e : Expected) → min share (steps - d) ≡ k → expects (finish s) x.waiting (some (scan_at (d + k))) ≡ e
        → (r : Response) (t : State) → e.said ≡ record { reply = r; left = some t } → Left image (given image share cells s) (with_steps k r) t e.scan
    finishes k e q f r t u =
        let a = advance_agrees image cells x.waiting (some (scan_at d)) share x.agrees in
        let ar : (advance_of image share cells).reply ≡ R.Done k = ap (λ (z : Said). z.reply) a.said ∙ ap R.Done q in
        let b = subst (λ (j : ℕ). Agrees image (advance_of image share cells).cells x.waiting (some (scan_at (d + j)))) q a.agrees in
        let m = finish_agrees image (advance_of image share cells).cells x.waiting (some (scan_at (d + k))) s b in
        let g : ◌≡◌ {A = Said} (plays (finish s) image (advance_of image share cells).cells).said (record { reply = r; left = some t }) = m.said ∙ ap (λ (z : Expected). z.said) f ∙ u in
        let fr : (finish_of s (advance_of image share cells).cells).reply ≡ r = ap (λ (z : Said). z.reply) g in
        let fs : ◌≡◌ {A = Option State} (some (finish_of s (advance_of image share cells).cells).state) (some t) = ap (λ (z : Said). z.left) g in
        record {
          reply = rw (ar, fr);
          state = cc;
          kept = record { waiting = _; agrees = subst (λ (z : Expected). Agrees image (finish_of s (advance_of image share cells).cells).cells z.waiting z.scan) f m.agrees };
        }

    pub goes_on_lem : d + share < steps → Left image (given image share cells s) (R.Unfinished share) s (some (scan_at (d + share)))
    goes_on_lem h = finishes share (expect (says_leaving (R.Unfinished 0) s) x.waiting (some (scan_at (d + share)))) (omega arith) (rw (lt-ltb (d + share) steps h)) (R.Unfinished 0) s refl

    pub ends : steps ≤ d + share → d ≤ steps → (scan_of image s row).answer ≡ accepted tt → Left image (given image share cells s) (R.Done (steps - d)) (scan_of image s row).state none
    ends h l e = finishes (steps - d) (expect (says_leaving (R.Done steps) (scan_of image s row).state) x.waiting none) (omega arith) (rw (le-ltb (d + (steps - d)) steps (omega arith), e, same_itself s)) (R.Done steps) (scan_of image s row).state refl

    pub ends_refused : steps ≤ d + share → d ≤ steps → (number place : ℕ) → (scan_of image s row).answer ≡ refused number place
        → Left image (given image share cells s) (R.Refused number place (steps - d)) s none
    ends_refused h l number place e = finishes (steps - d) (expect (says_leaving (R.Refused number place steps) s) x.waiting none) (omega arith) (rw (le-ltb (d + (steps - d)) steps (omega arith), e)) (R.Refused number place steps) s refl

-- ---- the start

same_image_lem : (r : Response) (image : List ℕ) → image_after r image image ≡ image
same_image_lem (R.Done n) image = refl
same_image_lem (R.Refused number place n) image = refl
same_image_lem (R.Unfinished n) image = refl
same_image_lem R.Idle image = refl

pub in_limit : (share : ℕ) → 0 < share → share ≤ 65536 → share_in_limit share ≡ true
in_limit share a b = rw (lt-ltb 0 share a, le-leb share 65536 b)

-- a visit that finds this scan, or starts it
pub record Ready (image : List ℕ) (s : State) (row : List ℤ) (share d : ℕ) (cells : List ℤ) : Type 0 where
  pub found : List ℤ
  pub visits : visit_of image share cells s ≡ given image share found s
  pub kept : Kept image found (some (scan_at image s row d))

module _ (image : List ℕ) (s : State) (row : List ℤ) (share : ℕ) (limit : share_in_limit share ≡ true) (cells : List ℤ) where
  begun : (w : Option (List ℤ)) (o : Option Scan) → Agrees image cells w o → (d : ℕ) (e : Expected) → expects (begin image s) w o ≡ e → e.scan ≡ some (scan_at image s row d)
      → ((c : List ℤ) → visit_from image share s e.said.reply c ≡ given image share c s) → Ready image s row share d cells
  unfolding visit_of
  begun w o x d e q h v =
      let m = begin_agrees image cells image s w o x in
      let r : (begin_of image s cells).reply ≡ e.said.reply = ap (λ (z : Said). z.reply) m.said ∙ ap (λ (z : Expected). z.said.reply) q in
      let a = subst (λ (i : List ℕ). Agrees i (begin_of image s cells).cells (expects (begin image s) w o).waiting (expects (begin image s) w o).scan) (same_image_lem (begin_of image s cells).reply image) m.agrees in
      record {
        found = (begin_of image s cells).cells;
        visits = rw (limit, r) (v (begin_of image s cells).cells);
        kept = record { waiting = _; agrees = subst (λ (z : Option Scan). Agrees image (begin_of image s cells).cells (expects (begin image s) w o).waiting z) (ap (λ (z : Expected). z.scan) q ∙ h) a };
      }

  pub ready_later : (d : ℕ) → Kept image cells (some (scan_at image s row d)) → Ready image s row share d cells
  ready_later d x = begun x.waiting (some (scan_at image s row d)) x.agrees d _ refl refl (λ c. refl)

  pub ready_first : Agrees image cells (some row) none → (scan_of image s row).answer ≡ accepted tt → Ready image s row share 0 cells
  ready_first x e = begun (some row) none x 0 (expect (says (R.Done 0)) none (some (scan_at image s row 0))) (rw e) refl (λ c. refl)

  -- a scan that is refused at work
  pub ready_refused : Agrees image cells (some row) none → (number place n : ℕ) → (scan_of image s row).answer ≡ refused number place → (scan_of image s row).steps ≡ suc n → Ready image s row share 0 cells
  ready_refused x number place n e f = begun (some row) none x 0 (expect (says (R.Done 0)) none (some (scan_at image s row 0))) (rw (e, f)) refl (λ c. refl)
