-- How large the code of a watch is, where it ends, and that its conditions are fit to be worked out. Assumes nothing.
use mathlib.Core.Path.{◌≡◌, refl, subst}
use mathlib.Core.Bool.{Bool}
use mathlib.Core.List.{List}
use mathlib.Core.Option.{Option, none, some}
use Prim.Native.Nat.{ℕ, ◌+◌, ◌*◌, ◌≤◌}
use native.Mathlib.Omega.{arith}
use lib.ListN.{length, length-append}
use Rattle.limits.specs.Limits.{stack_limit, bracket_limit}
use Rattle.lexer.specs.Token.{arrow, is, kind_number}
use Rattle.lexer.specs.Lexer.{token_at}
use Rattle.lexer.proofs.Laws.{cond_prop, token_at_moved}
use Rattle.semantics.specs.Program.{Condition, Watch, UsableC}
use Rattle.bytecode.specs.Translation.{depth_c}
use Rattle.grammar.specs.Parsed.{Parsed, accepted, refused, phrase, followed}
use Rattle.grammar.specs.Expressions.{Scope}
use Rattle.grammar.specs.Conditions.{listed}
use Rattle.grammar.specs.Derivation as D
use Rattle.grammar.specs.Derivation.{normals}
use Rattle.grammar.specs.Forms.{formula_closing, function_closing, watch_opening, later_opening}
use Rattle.grammar.specs.Watches.{later_at, after_first, watch_at}
use Rattle.grammar.specs.Inner.Bytes.{bytes_c}
use Rattle.grammar.proofs.Combine.{token_prop, then_prop}
use Rattle.grammar.proofs.Depth.{condition_depth}
use Rattle.grammar.proofs.Derived.{Derives, listed_scoped}
use Rattle.grammar.proofs.Standing.{normally}
use Rattle.grammar.proofs.Growth.{Grown, listed_grown}
use Rattle.grammar.proofs.Size.{Pays, Long, phrase_long}
use Rattle.watches.specs.Inner.Codes.{code_of_watch}

abbrev pub watch_bytes : Watch → ℕ
watch_bytes w = length (code_of_watch w)

module _ (sc : Scope) (few : length sc.names ≤ 64) where
  abbrev P : ℕ → Parsed Watch → Type 0
  P at p = Pays watch_bytes (length sc.text) at p

  -- after a first condition whose bytes are paid for with two to spare
  later_pays : (c : Condition) (from at : ℕ) → at ≤ length sc.text → 2 * length (bytes_c c) + 3 * from ≤ 3 * at → P from (later_at sc c at)
  unfolding later_at followed is kind_number
  later_pays c from at h i =
      then_prop (P from) (phrase sc.text later_opening at) _ (λ k q. tt)
      (λ u n1 e1. let g1 = subst (Long 3 (length sc.text) at) e1 (phrase_long sc.text later_opening (refl, (refl, (refl, tt))) at h) in
      then_prop (P from) (listed sc n1) _ (λ k q. tt)
      (λ d n2 e2. let g2 = subst (Grown bytes_c (length sc.text) n1) e2 (listed_grown sc few n1 g1.1) in
      then_prop (P from) (phrase sc.text function_closing n2) _ (λ k q. tt)
      (λ v n3 e3. let g3 = subst (Long 3 (length sc.text) n2) e3 (phrase_long sc.text function_closing (refl, (refl, (refl, tt))) n2 g2.1) in
      (simp length-append (omega (arith, i, g1.0, g2.2, g3.0)), g3.1))))

  pub watch_pays : (at : ℕ) → at ≤ length sc.text → P at (watch_at sc at)
  unfolding watch_at after_first followed is kind_number
  watch_pays at h =
      then_prop (P at) (phrase sc.text watch_opening at) _ (λ k q. tt)
      (λ u n1 e1. let g1 = subst (Long 4 (length sc.text) at) e1 (phrase_long sc.text watch_opening (refl, (refl, (refl, (refl, tt)))) at h) in
      then_prop (P at) (listed sc n1) _ (λ k q. tt)
      (λ c n2 e2. let g2 = subst (Grown bytes_c (length sc.text) n1) e2 (listed_grown sc few n1 g1.1) in
      token_prop (P at) (token_at sc.text n2) _ (λ k q. tt)
      (λ k s n et. let mv = token_at_moved sc.text n2 k s n g2.1 et in
      cond_prop (P at) (is k arrow) _ _
      (λ y. later_pays c at n mv.2 (omega (arith, g1.0, g2.2, mv.0, mv.1)))
      (λ y. then_prop (P at) (phrase sc.text formula_closing n2) _ (λ k q. tt)
      (λ v n3 e3. let g3 = subst (Long 2 (length sc.text) n2) e3 (phrase_long sc.text formula_closing (refl, (refl, tt)) n2 g2.1) in
      (simp length-append (omega (arith, g1.0, g2.2, g3.0)), g3.1))))))

-- ---- what a condition needs to be worked out

pub record Fit (known : List Bool) (c : Condition) : Type 0 where
  pub usable : UsableC known c
  pub shallow : depth_c c ≤ stack_limit

abbrev pub FitLater : List Bool → Option Condition → Type 0
FitLater known none = Unit {0}
FitLater known (some d) = Fit known d

abbrev FitAll : List Bool → Parsed Watch → Type 0
FitAll known (accepted w n) = Fit known w.first × FitLater known w.later
FitAll known (refused k q) = Unit {0}

module _ (sc : Scope) (few : length sc.names ≤ 64) (long : length sc.names ≡ length sc.known) where
  listed_fit : (at : ℕ) → at ≤ length sc.text → (c : Condition) (n : ℕ) → listed sc at ≡ accepted c n → Fit sc.known c
  listed_fit at h c n e =
      let d = subst (Derives normally sc.text _ at) e (listed_scoped sc at h) in
      record { usable = d.derives.derives.1 long; shallow = omega (arith, condition_depth (normals sc.names) D.condition bracket_limit d.derives.inner c d.derives.derives.0) }

  within : (at : ℕ) → at ≤ length sc.text → (c : Condition) (n : ℕ) → listed sc at ≡ accepted c n → n ≤ length sc.text
  within at h c n e = (subst (Grown bytes_c (length sc.text) at) e (listed_grown sc few at h)).1

  later_fit : (c : Condition) → Fit sc.known c → (at : ℕ) → at ≤ length sc.text → FitAll sc.known (later_at sc c at)
  unfolding later_at followed is kind_number
  later_fit c f at h =
      then_prop (FitAll sc.known) (phrase sc.text later_opening at) _ (λ k q. tt)
      (λ u n1 e1. let g1 = subst (Long 3 (length sc.text) at) e1 (phrase_long sc.text later_opening (refl, (refl, (refl, tt))) at h) in
      then_prop (FitAll sc.known) (listed sc n1) _ (λ k q. tt)
      (λ d n2 e2. then_prop (FitAll sc.known) (phrase sc.text function_closing n2) _ (λ k q. tt)
      (λ v n3 e3. (f, listed_fit n1 g1.1 d n2 e2))))

  watch_fits : (at : ℕ) → at ≤ length sc.text → FitAll sc.known (watch_at sc at)
  unfolding watch_at after_first followed is kind_number
  watch_fits at h =
      then_prop (FitAll sc.known) (phrase sc.text watch_opening at) _ (λ k q. tt)
      (λ u n1 e1. let g1 = subst (Long 4 (length sc.text) at) e1 (phrase_long sc.text watch_opening (refl, (refl, (refl, (refl, tt)))) at h) in
      then_prop (FitAll sc.known) (listed sc n1) _ (λ k q. tt)
      (λ c n2 e2. let f = listed_fit n1 g1.1 c n2 e2 in let i = within n1 g1.1 c n2 e2 in
      token_prop (FitAll sc.known) (token_at sc.text n2) _ (λ k q. tt)
      (λ k s n et. let mv = token_at_moved sc.text n2 k s n i et in
      cond_prop (FitAll sc.known) (is k arrow) _ _
      (λ y. later_fit c f n mv.2)
      (λ y. then_prop (FitAll sc.known) (phrase sc.text formula_closing n2) _ (λ k q. tt)
      (λ v n3 e3. (f, tt))))))

  pub watch_fit : (at : ℕ) → at ≤ length sc.text → (w : Watch) (n : ℕ) → watch_at sc at ≡ accepted w n → Fit sc.known w.first × FitLater sc.known w.later
  watch_fit at h w n e = subst (FitAll sc.known) e (watch_fits at h)
