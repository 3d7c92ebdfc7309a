-- The sides of the cases of an accepted text's rules. Assumes nothing.
use Prim.Native.Nat.{ℕ, suc, ◌≤◌}
use native.Mathlib.Omega.{arith}
use mathlib.Core.Path.{◌≡◌, sym, ap, ap₂, subst}
use mathlib.Core.List.{List, [], ◌∷◌}
use lib.ListN.{length, replicate}
use Rattle.semantics.specs.Program.{Side, changing, Case, Rule, Sided, all_changing_lem, sides, SidedAll}
use Rattle.grammar.specs.Spelled.{SpellsCases, one_case, more_cases, a_change, a_function, a_pair, SpellsRules}
use Rattle.grammar.specs.Spelled as S
use Rattle.grammar.proofs.Pairing.{pair_sided}

module _ (names : List (List ℕ)) where
  cases_sides : (w : List ℕ) (ts ls : List (List ℕ)) (ks : List Case) → SpellsCases names w ts ls ks → (n : ℕ) × (sides ks ≡ replicate (suc n) changing)
  cases_sides w ts ls ks (one_case us vs k s c e) = (0, ap {B = List Side} (λ x. x ∷ []) s)
  cases_sides w ts ls ks (more_cases us vs cs ms k js s c e r) = let h = cases_sides w cs ms js r in (suc h.0, ap₂ ◌∷◌ s h.1)

  cases_some : (w : List ℕ) (ts ls : List (List ℕ)) (ks : List Case) → SpellsCases names w ts ls ks → 1 ≤ length ks
  cases_some w ts ls ks (one_case us vs k s c e) = omega arith
  cases_some w ts ls ks (more_cases us vs cs ms k js s c e r) = omega arith

  pub rules_sided : (ts : List (List ℕ)) (rs : List Rule) → SpellsRules names ts rs → SidedAll rs
  rules_sided ts rs S.SpellsRules.none = tt
  rules_sided ts rs (S.SpellsRules.more us vs r qs (a_change v i xs ls ks cs ei d room e) q) = let h = cases_sides v xs ls ks d in (subst Sided (sym h.1) (all_changing_lem h.0), rules_sided vs qs q)
  rules_sided ts rs (S.SpellsRules.more us vs r qs (a_pair v i xs ls ys ms ks js ei d f room) q) = (pair_sided ks js (cases_some v xs ls ks d) (cases_some v ys ms js f), rules_sided vs qs q)
  rules_sided ts rs (S.SpellsRules.more us vs r qs (a_function v i xs e ei d) q) = (tt, rules_sided vs qs q)
