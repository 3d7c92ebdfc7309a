-- `rolvenko::rolvenko_replay` meets its contract: demand 3 holds where the definition's answer is no refusal.
use Rattle.std.proofs.Common.{◌≡◌, ap, subst, ◌∙◌, List, ℕ, ℤ}
use Rattle.std.specs.Prelude.{Result}
use Rattle.limits.specs.Answer.{Answer}
use Rattle.limits.specs.declared.Refusal.{Refusal}
use Rattle.replay.specs.Replay.{Lent, AfterReplay, replay_of, ShownIf}
use Rattle.replay.specs.Results.{after_replay, ShownBy}
use Rattle.rolvenko.specs.Packed.{packed_translation}
use Rattle.rolvenko.proofs.rolvenko_replay.Goals as goal

shown : (text lengths : List ℕ) (cells : List ℤ) (m left : Lent) (r : Result ℕ Refusal) → after_replay r left ≡ replay_of text cells lengths m → ShownBy r text cells lengths m left
    → ShownIf (replay_of text cells lengths m).answer text cells lengths m left
shown text lengths cells m left r h x = subst (λ (a : Answer ℕ). ShownIf a text cells lengths m left) (ap {A = AfterReplay} (λ y. y.answer) h) x

pub returns-clause-shown_if : goal.returns-clause-shown_if
returns-clause-shown_if c = shown _ _ _ _ _ c.replay.result c.replay.ensures.trace_after c.replay.ensures.shown_by
