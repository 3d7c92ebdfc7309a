-- What the contracts of this crate cite. Assumes nothing.
use Rattle.std.specs.Prelude.{cond, ℕ, ◌≤◌, List, [], ◌∷◌, eqb, length}
use Rattle.limits.specs.Limits.{case_limit}
use Rattle.semantics.specs.Program.{Rule, all_true}
use Rattle.grammar.specs.Inner.Bytes.{bytes_r}
use Rattle.expressions.specs.declared.scope.Names.{Names}
use Rattle.arith.specs.Inner.Flags.{flags_of}
use Rattle.lexer.specs.Results.{reached_at}
use Rattle.lexer.specs.Results.{Step}
use Rattle.std.specs.Prelude.{Err}
use Rattle.limits.specs.declared.Refusal.TheVariants.{NotAllowed, WrongRule}

-- the code of a rule, without its timers
abbrev pub code_of_rule : Rule → List ℕ
code_of_rule r = bytes_r [] (r ∷ [])

-- room for where as many conditions stand as a rule may have
pub record SpanRoom (from upto : List ℕ) : Type 0 where
  pub in_from : case_limit ≤ length from
  pub in_upto : case_limit ≤ length upto

-- what is answered where no rule follows: at the end of the text 6 if a variable has no rule, elsewhere 2
unfoldable pub end_of : ℕ → ℕ → ℕ → Names → ℕ → ℕ → Step
end_of kind s n names t done = cond (eqb kind 1) (cond (all_true (flags_of names.count names.known)) (reached_at n t done) (Err (WrongRule s))) (Err (NotAllowed s))
