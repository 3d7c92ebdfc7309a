-- The instructions of a condition, one by one. Assumes nothing.
use Prim.Native.Nat.{ℕ, ◌^◌, ◌≤◌, ◌<◌}
use native.Mathlib.Omega.{arith}
use mathlib.Core.Path.{◌≡◌, refl, sym}
use mathlib.Core.Bool.{Bool, true, false, ◌&&◌, cond, false≢true}
use mathlib.Core.List.{List, [], ◌∷◌, ◌++◌}
use mathlib.Core.Option.{Option, some}
use lib.Dec.{eqb, leb, ltb, ltb→lt}
use lib.IntN.{ℤ}
use lib.ListN.{length}
use borrow.Author.Tests.{ne_eqb, lt-leb}
use Rattle.arith.specs.Values.{Outcome, ok, refusal, ◌>>=◌, arithmetic, negation}
use Rattle.semantics.specs.Program.{changing, rising, falling, Expression, Condition, UsableE, UsableC}
use Rattle.semantics.specs.Program as P
use Rattle.semantics.specs.Formula.{State}
use Rattle.semantics.specs.Shape.{Setting}
use Rattle.bytecode.specs.Instructions.{Instruction, constant, current, previous, operation, negate, comparison, negated, both, either, gate, pick, assign, settle, timer, instruction_of}
use Rattle.bytecode.specs.Translation.{code_e, code_c}
use Rattle.bytecode.specs.Signature.{Role, pushes, computes, tests, opens, picks, lets, settles, times}
use Rattle.bytecode.proofs.RoundTrip.{Small}
use Rattle.bytecode.proofs.Timeless.{TimelessIn}
use Rattle.bytecode.proofs.Soundness.{known_inside}
use Rattle.machine.specs.Step.{Machine, machine, perform}
use Rattle.machine.specs.Inner.Groups.{performed}
use Rattle.evaluation.specs.Inner.Instructions.{CalculatesIn, Calculates, CalculatesOr}

-- an instruction of a condition passes nothing over
abbrev pub Calm : Outcome Machine → Type 0
Calm (ok (machine p c vs t)) = p ≡ false
Calm (refusal k) = Unit {0}

calm_cond : (b : Bool) (o p : Outcome Machine) → Calm o → Calm p → Calm (cond b o p)
calm_cond true o p x y = x
calm_cond false o p x y = y

and_no : (a : Bool) {b : Bool} → b ≡ false → (a && b) ≡ false
and_no true e = e
and_no false e = refl

between : (low high code : ℕ) → high < code → (leb low code && leb code high) ≡ false
between low high code h = and_no (leb low code) (lt-leb code high h)

-- ---- code bytes over 18

module _ (ns : Setting) (s : State) (c : Bool) (vs : List ℤ) (t : State) where
  abbrev Refuses : Option Instruction → Type 0
  Refuses o = CalculatesOr o → refusal 11 ≡ performed ns s o c vs t

  skip : (b : Bool) (x o : Option Instruction) → b ≡ false → Refuses o → Refuses (cond b x o)
  skip true x o e f = absurd (false≢true (sym e))
  skip false x o e f = f

  choose : (b : Bool) (i : Instruction) (o : Option Instruction) → (Calculates i → ⊥) → Refuses o → Refuses (cond b (some i) o)
  choose true i o bad f = λ p. absurd (bad p)
  choose false i o bad f = f

  pub late : (code n : ℕ) → 19 ≤ code → CalculatesOr (instruction_of code n) → refusal 11 ≡ performed ns s (instruction_of code n) c vs t
  unfolding instruction_of
  late code n h =
      skip (eqb code 1) _ _ (ne_eqb code 1 (λ e. omega arith))
      (skip (eqb code 2) _ _ (ne_eqb code 2 (λ e. omega arith))
      (skip (eqb code 3) _ _ (ne_eqb code 3 (λ e. omega arith))
      (skip (leb 4 code && leb code 8) _ _ (between 4 8 code (omega arith))
      (skip (eqb code 9) _ _ (ne_eqb code 9 (λ e. omega arith))
      (skip (leb 10 code && leb code 15) _ _ (between 10 15 code (omega arith))
      (skip (eqb code 16) _ _ (ne_eqb code 16 (λ e. omega arith))
      (skip (eqb code 17) _ _ (ne_eqb code 17 (λ e. omega arith))
      (skip (eqb code 18) _ _ (ne_eqb code 18 (λ e. omega arith))
      (choose (eqb code 19) gate _ (λ p. p)
      (choose (eqb code 20) (pick changing n) _ (λ p. p)
      (choose (eqb code 21) (assign n) _ (λ p. p)
      (choose (eqb code 22) (settle n) _ (λ p. p)
      (choose (eqb code 24) (pick rising n) _ (λ p. p)
      (choose (eqb code 25) (pick falling n) _ (λ p. p) (λ p. refl)))))))))))))))

  calm_bind : (o : Outcome ℤ) (ws : List ℤ) → Calm (o >>= λ z. ok (machine false c (z ∷ ws) t))
  calm_bind (ok z) ws = refl
  calm_bind (refusal k) ws = tt

  pub calm : (i : Instruction) → Calculates i → Calm (perform ns s i c vs t)
  calm i p = go i vs p
    where
      go : (i : Instruction) (ws : List ℤ) → Calculates i → Calm (perform ns s i c ws t)
      go (constant z) ws p = calm_cond (ltb (length ws) 40) _ _ refl tt
      go (current i) ws p = calm_cond (ltb i (length ns.ranges)) _ _ (calm_cond (ltb (length ws) 40) _ _ refl tt) tt
      go (previous i) ws p = calm_cond (ltb i (length ns.ranges)) _ _ (calm_cond (ltb (length ws) 40) _ _ refl tt) tt
      go (operation o) [] p = tt
      go (operation o) (b ∷ []) p = tt
      go (operation o) (b ∷ a ∷ ws) p = calm_bind (arithmetic o a b) ws
      go negate [] p = tt
      go negate (a ∷ ws) p = calm_bind (negation a) ws
      go (comparison o) [] p = tt
      go (comparison o) (b ∷ []) p = tt
      go (comparison o) (b ∷ a ∷ ws) p = refl
      go negated [] p = tt
      go negated (a ∷ ws) p = refl
      go both [] p = tt
      go both (b ∷ []) p = tt
      go both (b ∷ a ∷ ws) p = refl
      go either [] p = tt
      go either (b ∷ []) p = tt
      go either (b ∷ a ∷ ws) p = refl
      go gate ws p = absurd p
      go (pick side v) ws p = absurd p
      go (assign v) ws p = absurd p
      go (settle v) ws p = absurd p
      go (timer u w n) ws p = absurd p

-- ---- the code of a condition

-- a condition has no timer
pub calculates_timeless : (r : Role) → CalculatesIn r → TimelessIn r
calculates_timeless (pushes fits) p = tt
calculates_timeless computes p = tt
calculates_timeless tests p = tt
calculates_timeless opens p = absurd p
calculates_timeless (picks side v) p = absurd p
calculates_timeless (lets v) p = absurd p
calculates_timeless (settles v) p = absurd p
calculates_timeless (times t w n) p = p

-- small operands, and only instructions of conditions
abbrev pub Fit : List Instruction → Type 0
Fit [] = Unit {0}
Fit (i ∷ is) = Small i × Calculates i × Fit is

fit_append : (is js : List Instruction) → Fit is → Fit js → Fit (is ++ js)
fit_append [] js f g = g
fit_append (i ∷ is) js f g = (f.0, f.1, fit_append is js f.2 g)

module _ (ids : List Bool) (few : length ids < 2 ^ 32) where
  fit_E : (e : Expression) → UsableE ids e → Fit (code_e e)
  fit_E (P.constant z) u = (u, tt, tt)
  fit_E (P.current i) u = (omega (arith, known_inside ids i u), tt, tt)
  fit_E (P.previous i) u = (omega (arith, ltb→lt i (length ids) u), tt, tt)
  fit_E (P.operation o a b) u = fit_append (code_e a ++ code_e b) (operation o ∷ []) (fit_append (code_e a) (code_e b) (fit_E a u.0) (fit_E b u.1)) (tt, tt, tt)
  fit_E (P.negate a) u = fit_append (code_e a) (negate ∷ []) (fit_E a u) (tt, tt, tt)

  pub fit_C : (x : Condition) → UsableC ids x → Fit (code_c x)
  fit_C (P.comparison o a b) u = fit_append (code_e a ++ code_e b) (comparison o ∷ []) (fit_append (code_e a) (code_e b) (fit_E a u.0) (fit_E b u.1)) (tt, tt, tt)
  fit_C (P.negated a) u = fit_append (code_c a) (negated ∷ []) (fit_C a u) (tt, tt, tt)
  fit_C (P.both a b) u = fit_append (code_c a ++ code_c b) (both ∷ []) (fit_append (code_c a) (code_c b) (fit_C a u.0) (fit_C b u.1)) (tt, tt, tt)
  fit_C (P.either a b) u = fit_append (code_c a ++ code_c b) (either ∷ []) (fit_append (code_c a) (code_c b) (fit_C a u.0) (fit_C b u.1)) (tt, tt, tt)
