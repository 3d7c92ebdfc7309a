-- The code of a watch, as it stands in front of the memory lent for it. Assumes nothing.
use mathlib.Core.Path.{◌≡◌, refl, ap, sym, ◌∙◌}
use mathlib.Core.Bool.{true, false}
use mathlib.Core.List.{List, [], ◌∷◌, ◌++◌, append_assoc}
use mathlib.Core.Option.{Option, none, some}
use Prim.Native.Nat.{ℕ, zero, suc, ◌+◌, ◌-◌, ◌^◌, ◌≤◌, ◌<◌}
use native.Mathlib.Omega.{arith}
use lib.Dec.{ltb→lt, lt→ltb}
use lib.ListN.{length, get_or, take, drop, length-append}
use lib.Seq.{sets, take_at, drop_at}
use Rattle.semantics.specs.Program.{Expression, constant, current, previous, operation, negate, Condition, comparison, negated, both, either, Watch, UsableE, UsableC, free}
use Rattle.semantics.proofs.Reference.{length_known}
use Rattle.bytecode.specs.Instructions.{comparison_code}
use Rattle.bytecode.proofs.SmallOperands.{known_inside}
use Rattle.grammar.specs.Inner.Bytes.{bytes_e, bytes_c}
use Rattle.grammar.proofs.Image.{condition_emitted}
use Rattle.evaluation.specs.Conditions.{ConditionCode}
use Rattle.leb128.proofs.Stores.{sets_front}
use Rattle.watches.specs.Inner.Codes.{bytes_later, code_of_watch}
use Rattle.watches.proofs.Sizes.{Fit, FitLater}
use Rattle.watch.specs.Inner.Reports.{LaterCode, WatchCode}

-- a condition's code is never empty
some_code : (c : Condition) → length (bytes_c c) ≡ 0 → ⊥
unfolding bytes_c
some_code (comparison o a b) e = omega (arith, e, length-append (bytes_e a) (bytes_e b ++ (comparison_code o ∷ [])), length-append (bytes_e b) (comparison_code o ∷ []))
some_code (negated a) e = omega (arith, e, length-append (bytes_c a) (16 ∷ []))
some_code (both a b) e = omega (arith, e, length-append (bytes_c a) (bytes_c b ++ (17 ∷ [])), length-append (bytes_c b) (17 ∷ []))
some_code (either a b) e = omega (arith, e, length-append (bytes_c a) (bytes_c b ++ (18 ∷ [])), length-append (bytes_c b) (18 ∷ []))

-- ---- a state may be longer than the names: their values stand at the same places

free_at : (n i : ℕ) → i < n → get_or (free n) i false ≡ true
free_at zero i h = absurd (omega (arith, h))
free_at (suc n) zero h = refl
free_at (suc n) (suc i) h = free_at n i (omega arith)

module _ (names size : ℕ) (h : names ≤ size) where
  longer_E : (e : Expression) → UsableE (free names) e → UsableE (free size) e
  longer_E (constant z) u = u
  longer_E (current i) u = free_at size i (omega (arith, h, known_inside (free names) i u, length_known names names))
  longer_E (previous i) u = lt→ltb i (length (free size)) (omega (arith, h, ltb→lt i (length (free names)) u, length_known names names, length_known size size))
  longer_E (operation o a b) u = (longer_E a u.0, longer_E b u.1)
  longer_E (negate a) u = longer_E a u

  longer_C : (c : Condition) → UsableC (free names) c → UsableC (free size) c
  longer_C (comparison o a b) u = (longer_E a u.0, longer_E b u.1)
  longer_C (negated a) u = longer_C a u
  longer_C (both a b) u = (longer_C a u.0, longer_C b u.1)
  longer_C (either a b) u = (longer_C a u.0, longer_C b u.1)

  module _ (few : size < 2 ^ 32) where
    coded : (c : Condition) (code : List ℕ) → Fit (free names) c → code ≡ bytes_c c → ConditionCode c size code
    coded c code f e = record { spelled = e ∙ condition_emitted c; usable = longer_C c f.usable; shallow = f.shallow; few = few }

    later_coded : (o : Option Condition) (code : List ℕ) → FitLater (free names) o → code ≡ bytes_later o → LaterCode o size code
    later_coded none code f e = ap length e
    later_coded (some d) code f e = (coded d code f e, λ z. some_code d (sym (ap length e) ∙ z))

module _ (w : Watch) (names size middle end : ℕ) (before after : List ℕ) (longer : names ≤ size) (few : size < 2 ^ 32) (f : Fit (free names) w.first) (g : FitLater (free names) w.later) (hm : middle ≡ 0 + length (bytes_c w.first)) (he : end ≡ 0 + length (code_of_watch w)) (room : length (code_of_watch w) ≤ length before) (wrote : after ≡ sets before 0 (code_of_watch w)) where
  abbrev xs : List ℕ
  xs = bytes_c w.first

  abbrev ys : List ℕ
  ys = bytes_later w.later

  abbrev zs : List ℕ
  zs = drop (length (xs ++ ys)) before

  in_front : after ≡ xs ++ (ys ++ zs)
  in_front = wrote ∙ sets_front before (xs ++ ys) room ∙ append_assoc xs ys zs

  sized : end ≡ length xs + length ys
  sized = he ∙ ap (λ (n : ℕ). 0 + n) (length-append xs ys) ∙ plain (length xs + length ys)
    where
      plain : (n : ℕ) → 0 + n ≡ n
      plain n = omega arith

  pub watch_code : WatchCode w size middle end after
  watch_code = record {
    ordered = omega (arith, hm, sized);
    first = coded names size longer few w.first (take middle after) f (ap (take middle) in_front ∙ take_at xs (ys ++ zs) middle (omega (arith, hm)));
    later = later_coded names size longer few w.later (take (end - middle) (drop middle after)) g
        (ap (λ (l : List ℕ). take (end - middle) (drop middle l)) in_front
        ∙ ap (take (end - middle)) (drop_at xs (ys ++ zs) middle (omega (arith, hm)))
        ∙ take_at ys zs (end - middle) (omega (arith, hm, sized)));
  }

  pub code_inside : end ≤ length after
  code_inside = omega (arith, sized, ap length in_front ∙ length-append xs (ys ++ zs), length-append ys zs)
