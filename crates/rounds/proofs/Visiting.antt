-- A visit by its three calls. Assumes nothing.
use Prim.Native.Nat.{ℕ}
use mathlib.Core.Path.{◌≡◌, sym, ◌∙◌}
use mathlib.Core.Bool.{true, false}
use mathlib.Core.List.{List}
use lib.IntN.{ℤ}
use Rattle.paused.specs.Responses.{steps_in}
use Rattle.semantics.specs.Formula.{State}
use Rattle.paused.specs.declared.Response.{Response}
use Rattle.paused.specs.declared.Response.TheVariants as R
use Rattle.resumable.specs.Instalment.{after_call, advance_of}
use Rattle.lifecycle.specs.Calls.{AfterFinish, after_finish, begin_of, finish_of}
use Rattle.rounds.specs.Visits.{share_in_limit, with_steps, given, visit_from, visit_of}

module _ (image : List ℕ) (share : ℕ) (cells : List ℤ) (s : State) where
  pub gives : (a : Response) (cells₁ : List ℤ) → after_call a cells₁ ≡ advance_of image share cells → (k : ℕ) → k ≡ steps_in a
      → (f : Response) (cells₂ : List ℤ) (t : State) → after_finish f cells₂ t ≡ finish_of s cells₁ → (r : Response) → r ≡ with_steps k f → after_finish r cells₂ t ≡ given image share cells s
  gives a cells₁ e k h f cells₂ t q r w = rw (w, h, ← e, ← q)

  pub visit_out : false ≡ share_in_limit share → after_finish (R.Refused 25 0 0) cells s ≡ visit_of image share cells s
  unfolding visit_of
  visit_out h = rw (← h)

  module _ (fits : true ≡ share_in_limit share) (b : Response) (cells₁ : List ℤ) (e : after_call b cells₁ ≡ begin_of image s cells) where
    pub visit_refused : (number place n : ℕ) → b ≡ R.Refused number place n → after_finish (R.Refused number place n) cells₁ s ≡ visit_of image share cells s
    unfolding visit_of
    visit_refused number place n q = rw (← fits, ← e, q)

    pub visit_gives : (a : AfterFinish) → a ≡ given image share cells₁ s → visit_from image share s b cells₁ ≡ given image share cells₁ s → a ≡ visit_of image share cells s
    unfolding visit_of
    visit_gives a g q = rw (← fits, ← e) (g ∙ sym q)
