-- Operators and signs are not the end of a text. Assumes nothing.
use mathlib.Core.Path.{◌≡◌, refl, ap, sym, ◌∙◌}
use mathlib.Core.Bool.{true, false}
use mathlib.Core.Option.{Option, none, some}
use Prim.Native.Nat.{ℕ}
use native.Mathlib.Omega.{arith}
use Rattle.lexer.specs.Token.{Kind, kind_number, ending, is}
use Rattle.lexer.proofs.Laws.{apart}
use Rattle.grammar.specs.Expressions.{product_of, sum_of}
use Rattle.grammar.specs.Conditions.{comparison_by, and_of, or_of}

-- an operator is not the end
pub operator_end : {O : Type 0} (operator : Kind → Option O) → operator ending ≡ none → (k : Kind) (o : O) → operator k ≡ some o → k ≡ ending → ⊥
operator_end operator h k o e f = let g : operator ending ≡ some o = ap operator (sym f) ∙ e in let z : ◌≡◌ {A = ℕ} 0 1 = cc in omega arith

pub products_end : product_of ending ≡ none
unfolding product_of is kind_number
products_end = refl

pub sums-end : sum_of ending ≡ none
unfolding sum_of is kind_number
sums-end = refl

pub ands-end : and_of ending ≡ none
unfolding and_of is kind_number
ands-end = refl

pub ors-end : or_of ending ≡ none
unfolding or_of is kind_number
ors-end = refl

pub comparisons-end : comparison_by ending ≡ none
unfolding comparison_by is kind_number
comparisons-end = refl

-- a token that is told as one of these kinds is not the end
pub not_end : (k w : Kind) → is ending w ≡ false → is k w ≡ true → k ≡ ending → ⊥
not_end k w f e = apart k w e f
