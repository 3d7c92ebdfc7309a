-- The ways of a text: its translation is refused, or its image is replayed. Assumes nothing.
use Prim.Native.Nat.{ℕ}
use mathlib.Core.Path.{◌≡◌, sym, ap, ◌∙◌}
use mathlib.Core.List.{List}
use lib.IntN.{ℤ}
use lib.ListN.{length, take}
use lib.Seq.{length-take-le}
use Rattle.limits.specs.Answer.{accepted, refused}
use Rattle.semantics.specs.Formula.{State}
use Rattle.translate.specs.Services.{AfterTranslation, translation_of}
use Rattle.scan.specs.Services.{start_of}
use Rattle.translate.proofs.Kept.{image_inside}
use Rattle.correctness.proofs.Demand2.{demand_2}
use Rattle.std.specs.Prelude.{Result, Err}
use Rattle.limits.specs.declared.Refusal.{Refusal}
use Rattle.limits.specs.Refusals.{refusal_number, refusal_place}
use Rattle.replay.specs.Replay.{rows_of, replay_rows, replay_of}
use Rattle.replay.specs.Results.{lent, after_replay}

module _ (text image left : List ℕ) (cells : List ℤ) (lengths : List ℕ) (s : State) (numbers steps : List ℕ) (trace : List ℤ) where
  pub text_refused : (e : Refusal) → record { answer = refused (refusal_number e) (refusal_place e); buffer = left } ≡ translation_of text image
      → after_replay (Err e) (lent left s numbers steps trace) ≡ replay_of text cells lengths (lent image s numbers steps trace)
  unfolding replay_of
  text_refused x e =
      let k : left ≡ image = ap {A = AfterTranslation} (λ t. t.buffer) e ∙ demand_2.untouched text image (refusal_number x) (refusal_place x) (sym (ap {A = AfterTranslation} (λ t. t.answer) e)) in
      rw (← e, k)

  pub text_replayed : (n : ℕ) (r : Result ℕ Refusal) (s₁ : State) (numbers₁ steps₁ : List ℕ) (trace₁ : List ℤ) → record { answer = accepted n; buffer = left } ≡ translation_of text image
      → after_replay r (lent left s₁ numbers₁ steps₁ trace₁)
      ≡ replay_rows (start_of (take n left) s) (length (take n left)) (take n left) (rows_of cells lengths) (lent left s numbers steps trace)
      → after_replay r (lent left s₁ numbers₁ steps₁ trace₁) ≡ replay_of text cells lengths (lent image s numbers steps trace)
  unfolding replay_of
  text_replayed n r s₁ numbers₁ steps₁ trace₁ e h = rw (← e) (rw (length-take-le n left (image_inside text image left n e)) at h)
