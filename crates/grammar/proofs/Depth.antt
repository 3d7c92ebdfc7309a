-- The most values that the code of a text's rules holds at the same time: by derivations. Assumes nothing.
use mathlib.Core.Path.{◌≡◌, refl}
use mathlib.Core.List.{List, [], ◌∷◌, ◌++◌}
use Prim.Native.Nat.{ℕ, ◌+◌, ◌*◌, ◌≤◌, max}
use native.Mathlib.Omega.{arith}
use lib.ListN.{length}
use Rattle.limits.specs.Limits.{bracket_limit}
use Rattle.semantics.specs.Program.{Expression, Condition, Side, rising, falling, Case, Rule, function, change}
use Rattle.bytecode.specs.Translation.{depth_e, depth_c, ShallowK, Shallow}
use Rattle.grammar.specs.Derivation.{Level, SpellsE, a_number, a_current, a_previous, brackets, plain, opposite, one_factor, product, one_term, sum, LevelC, SpellsC, not_square, one_atom, conjoined, one_conjunction, disjoined}
use Rattle.grammar.specs.Derivation as D
use Rattle.grammar.specs.Pairs.{on_side, pair_cases}
use Rattle.grammar.specs.Spelled.{SpellsCases, one_case, more_cases, a_change, a_function, a_pair, SpellsRules}
use Rattle.grammar.specs.Spelled as S

-- ---- expressions and conditions, with l brackets left to open

abbrev most_e : Level → ℕ → ℕ
most_e D.primary l = 2 * l + 1
most_e D.factor l = 2 * l + 1
most_e D.term l = 2 * l + 2
most_e D.expression l = 2 * l + 3

abbrev most_c : LevelC → ℕ → ℕ
most_c D.atom l = 2 * l + 4
most_c D.conjunction l = 2 * l + 5
most_c D.condition l = 2 * l + 6

module _ (names : List (List ℕ)) where
  expression_depth : (v : Level) (l : ℕ) (ts : List (List ℕ)) (e : Expression) → SpellsE names v l ts e → depth_e e ≤ most_e v l
  expression_depth v l ts e (a_number w d h) = omega arith
  expression_depth v l ts e (a_current w i ei) = omega arith
  expression_depth v l ts e (a_previous w i ei) = omega arith
  expression_depth v l ts e (brackets us x d) = omega (arith, expression_depth D.expression _ us x d)
  expression_depth v l ts e (plain us x d) = expression_depth D.primary _ us x d
  expression_depth v l ts e (opposite us x d) = expression_depth D.primary _ us x d
  expression_depth v l ts e (one_factor us x d) = omega (arith, expression_depth D.factor _ us x d)
  expression_depth v l ts e (product w o us ws x y ps d f) = omega (arith, expression_depth D.term _ us x d, expression_depth D.factor _ ws y f)
  expression_depth v l ts e (one_term us x d) = omega (arith, expression_depth D.term _ us x d)
  expression_depth v l ts e (sum w o us ws x y ps d f) = omega (arith, expression_depth D.expression _ us x d, expression_depth D.term _ ws y f)

  pub condition_depth : (v : LevelC) (l : ℕ) (ts : List (List ℕ)) (c : Condition) → SpellsC names v l ts c → depth_c c ≤ most_c v l
  condition_depth v l ts c (D.SpellsC.compared w o us ws x y ps d f) = omega (arith, expression_depth D.expression _ us x d, expression_depth D.expression _ ws y f)
  condition_depth v l ts c (D.SpellsC.square us x d) = omega (arith, condition_depth D.condition _ us x d)
  condition_depth v l ts c (not_square us x d) = omega (arith, condition_depth D.condition _ us x d)
  condition_depth v l ts c (one_atom us x d) = omega (arith, condition_depth D.atom _ us x d)
  condition_depth v l ts c (conjoined us ws x y d f) = omega (arith, condition_depth D.conjunction _ us x d, condition_depth D.atom _ ws y f)
  condition_depth v l ts c (one_conjunction us x d) = omega (arith, condition_depth D.conjunction _ us x d)
  condition_depth v l ts c (disjoined us ws x y d f) = omega (arith, condition_depth D.condition _ us x d, condition_depth D.conjunction _ ws y f)

-- ---- cases and rules

abbrev pub depth_k : List Case → ℕ
depth_k [] = 0
depth_k (k ∷ ks) = max (max (depth_c k.condition) (depth_e k.value)) (depth_k ks)

depth_on : (side : Side) (ks : List Case) → depth_k (on_side side ks) ≡ depth_k ks
depth_on side [] = refl
depth_on side (k ∷ ks) = rw (depth_on side ks)

depth_both : (ks js : List Case) → depth_k ks ≤ 38 → depth_k js ≤ 38 → depth_k (ks ++ js) ≤ 38
depth_both [] js h i = i
depth_both (k ∷ ks) js h i = omega (arith, depth_both ks js (omega arith) i)

pair_depth : (ups downs : List Case) → depth_k ups ≤ 38 → depth_k downs ≤ 38 → depth_k (pair_cases ups downs) ≤ 38
pair_depth ups downs h i = depth_both (on_side rising ups) (on_side falling downs) (omega (arith, depth_on rising ups)) (omega (arith, depth_on falling downs))

pair_some : (ups downs : List Case) → 1 ≤ length ups → 1 ≤ length (pair_cases ups downs)
pair_some [] downs h = let f : ⊥ = omega arith in absurd f
pair_some (k ∷ ups) downs h = omega arith

abbrev pub depth_r : Rule → ℕ
depth_r (function v e) = depth_e e
depth_r (change v ks cs) = depth_k ks

abbrev pub depth_rules : List Rule → ℕ
depth_rules [] = 0
depth_rules (r ∷ rs) = max (depth_r r) (depth_rules rs)

module _ (names : List (List ℕ)) where
  cases_depth : (w : List ℕ) (ts ls : List (List ℕ)) (ks : List Case) → SpellsCases names w ts ls ks → (1 ≤ length ks) × (depth_k ks ≤ 38)
  cases_depth w ts ls ks (one_case us vs k s c e) =
      (omega arith, omega (arith, condition_depth names D.condition bracket_limit us k.condition c, expression_depth names D.expression bracket_limit vs k.value e))
  cases_depth w ts ls ks (more_cases us vs cs ms k js s c e r) =
      (omega arith, omega (arith, condition_depth names D.condition bracket_limit us k.condition c, expression_depth names D.expression bracket_limit vs k.value e, (cases_depth w cs ms js r).1))

  pub rules_depth : (ts : List (List ℕ)) (rs : List Rule) → SpellsRules names ts rs → depth_rules rs ≤ 38
  rules_depth ts rs S.SpellsRules.none = omega arith
  rules_depth ts rs (S.SpellsRules.more us vs r qs (a_change v i xs ls ks cs ei d room e) q) = omega (arith, (cases_depth v xs ls ks d).1, rules_depth vs qs q)
  rules_depth ts rs (S.SpellsRules.more us vs r qs (a_pair v i xs ls ys ms ks js ei d f room) q) = omega (arith, pair_depth ks js (cases_depth v xs ls ks d).1 (cases_depth v ys ms js f).1, rules_depth vs qs q)
  rules_depth ts rs (S.SpellsRules.more us vs r qs (a_function v i xs e ei d) q) = omega (arith, expression_depth names D.expression bracket_limit xs e d, rules_depth vs qs q)

  cases_shallow : (ks : List Case) → depth_k ks ≤ 38 → ShallowK ks
  cases_shallow [] h = tt
  cases_shallow (k ∷ ks) h = (omega arith, omega arith, cases_shallow ks (omega arith))

  -- never over 40 values held, and at least one case
  pub rules_shallow : (ts : List (List ℕ)) (rs : List Rule) → SpellsRules names ts rs → Shallow rs
  rules_shallow ts rs S.SpellsRules.none = tt
  rules_shallow ts rs (S.SpellsRules.more us vs r qs (a_change v i xs ls ks cs ei d room e) q) = let c = cases_depth v xs ls ks d in ((c.0, cases_shallow ks c.1), rules_shallow vs qs q)
  rules_shallow ts rs (S.SpellsRules.more us vs r qs (a_pair v i xs ls ys ms ks js ei d f room) q) =
      let c = cases_depth v xs ls ks d in
      ((pair_some ks js c.0, cases_shallow (pair_cases ks js) (pair_depth ks js c.1 (cases_depth v ys ms js f).1)), rules_shallow vs qs q)
  rules_shallow ts rs (S.SpellsRules.more us vs r qs (a_function v i xs e ei d) q) = (omega (arith, expression_depth names D.expression bracket_limit xs e d), rules_shallow vs qs q)
