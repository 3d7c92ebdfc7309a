-- `structured_text::structured_text` meets its contract. Assumes nothing.
use borrow.Author.Rules.{rules}
use Rattle.structured_text.proofs.Service.{long_refused}
use Rattle.structured_text.proofs.structured_text.Statement.{statement}
use Rattle.structured_text.proofs.structured_text.Tie as tie

pub structured_text_spec : {M : Type 1} → statement M
structured_text_spec = tie.close (tie.spec (λ c κs. search rules) (λ c. search rules) (λ c. search rules) (λ c κs. search rules) (λ c. search rules) (λ c. search rules) (λ c κs. search rules) (λ c. search rules) (λ c. search rules) (λ c. long_refused _ _ c.if-text-le-TEXT_LIMIT.false))
