-- A.8's theorem: whatever the calls, they answer and leave what the undivided scan says. Assumes nothing.
use mathlib.Core.Path.{◌≡◌, refl, ap, ◌∙◌}
use mathlib.Core.List.{List, [], ◌∷◌}
use mathlib.Core.Option.{Option, none}
use Prim.Native.Nat.{ℕ}
use lib.IntN.{ℤ}
use lib.ListN.{length}
use Rattle.limits.specs.Limits.{paused_length}
use Rattle.paused.specs.Memory.{checkpoint_of, waiting_of}
use Rattle.divided.specs.Expected.{Call, post, begin, advance_scan, finish, Said, plays, play, Scan, expects, expected_said}
use Rattle.divided.proofs.Agrees.{Agrees, Matches}
use Rattle.divided.proofs.Posting.{post_agrees}
use Rattle.divided.proofs.Starting.{begin_agrees}
use Rattle.divided.proofs.Instalments.{advance_agrees}
use Rattle.divided.proofs.Finishing.{finish_agrees}

-- one call
pub call_agrees : (c : Call) (image : List ℕ) (cells : List ℤ) (w : Option (List ℤ)) (o : Option Scan) → Agrees image cells w o → Matches (plays c image cells) (expects c w o)
call_agrees (post i row) image cells w o x = post_agrees x i row
call_agrees (begin i s) image cells w o x = begin_agrees image cells i s w o x
call_agrees (advance_scan n) image cells w o x = advance_agrees image cells w o n x
call_agrees (finish s) image cells w o x = finish_agrees image cells w o s x

-- any list of calls
pub calls_agree : (calls : List Call) (image : List ℕ) (cells : List ℤ) (w : Option (List ℤ)) (o : Option Scan) → Agrees image cells w o → play calls image cells ≡ expected_said calls w o
calls_agree [] image cells w o x = refl
calls_agree (c ∷ cs) image cells w o x =
    let m = call_agrees c image cells w o x in
    ap (λ (a : Said). a ∷ play cs (plays c image cells).image (plays c image cells).cells) m.said
    ∙ ap (λ (l : List Said). (expects c w o).said ∷ l) (calls_agree cs (plays c image cells).image (plays c image cells).cells (expects c w o).waiting (expects c w o).scan m.agrees)

-- from any memory without a scan, zeros among them
pub as_undivided : (calls : List Call) (cells : List ℤ) → length cells ≡ paused_length → (checkpoint_of cells).phase ≡ 0 → play calls [] cells ≡ expected_said calls (waiting_of cells) none
as_undivided calls cells l p = calls_agree calls [] cells (waiting_of cells) none (record { long = l; waits = refl; scan = p })
