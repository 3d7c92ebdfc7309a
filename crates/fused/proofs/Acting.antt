-- Instructions that put a value on top or work on those on top, one after the other. Assumes nothing.
use Rattle.std.specs.Prelude.{Some, None}
use Prim.Native.Nat.{ℕ, ◌+◌, ◌≤◌, ◌<◌}
use native.Mathlib.Omega.{arith}
use mathlib.Core.Path.{◌≡◌, refl, sym, ap, subst, ◌∙◌}
use mathlib.Core.Bool.{true, false, not, ◌&&◌}
use mathlib.Core.List.{List, []}
use mathlib.Core.Logic.{◌⊎◌, inl, inr}
use mathlib.Core.Option.{Option, some}
use lib.IntN.{ℤ}
use lib.ListN.{length, get_or}
use Rattle.arith.specs.Values.{ok, compares}
use Rattle.semantics.specs.Shape.{Setting}
use Rattle.arith.specs.Inner.Flags.{flags_of}
use Rattle.bytecode.specs.Instructions.{Instruction, operation, comparison, gate, operation_of, comparison_of, instruction_of, has_operand, decoded}
use Rattle.bytecode.specs.Check.{Known, known, guard, advance}
use Rattle.bytecode.specs.Signature.{truth}
use Rattle.bytecode.proofs.Codes.{operation_of_lem, comparison_of_lem, no_operand}
use Rattle.checker.specs.declared.advance.Walk.{Walk}
use Rattle.checker.specs.Inner.Walk.{Advanced, known_of, only, sorts_of, open_of, picks_of, advanced_known, Small, SmallAfter}
use Rattle.checker.proofs.Steps.{comparison_is, gate_is, only_one}
use Rattle.machine.specs.declared.Stepped.TheVariants as S
use Rattle.machine.specs.Step.{machine, perform}
use Rattle.machine.specs.Inner.Memory.{held_of, RangesIn}
use Rattle.machine.specs.Inner.Groups.{truth_of}
use Rattle.machine.proofs.Codes.{truth_comparison, related_same}
use Rattle.machine.proofs.Stack.{held_top}
use Rattle.fused.specs.declared.Progress.{Progress}
use Rattle.fused.specs.declared.Moved.TheVariants as M
use Rattle.fused.specs.Inner.Passes.{Ready, Moves}
use Rattle.fused.specs.Inner.Leaps.{Goes, lastly, first}
use Rattle.fused.specs.Inner.Acts.{Acted, done_of, ActedBy, ActedOnce, AtHand, DoneBy, RelatedBy, StretchedBy, Shut, shut_of}
use Rattle.fused.proofs.Joining.{arrives, alone}
use Rattle.fused.proofs.Fusing.{Fusing, goes_far, goes_ready, fusing_leaps}

-- ---- one instruction

-- the walk behind it, what is held behind it, and that the machine finds the same
pub done_acts : {code : List ℕ} {low high prev cur vals : List ℤ} {b : Progress} {i : Instruction} {next : ℕ} (h : AtHand code low high prev cur vals b i next) (k : Walk) (vals₁ : List ℤ) (a : Advanced)
    → a ≡ Some k → advanced_known a ≡ advance i (known_of b.walk) → SmallAfter a → (held : ℕ)
    → ((ns : Setting) → RangesIn ns.ranges low high → ok (machine false b.picked (held_of vals₁ held) cur) ≡ perform ns prev i b.picked (held_of vals b.walk.held) cur)
    → (r : Acted) → r ≡ done_of b k next → ActedOnce code low high prev b vals cur vals₁ r
done_acts {code} {low} {high} {prev} {cur} {vals} {b} {i} {next} h k vals₁ a is e small held acts r q =
    let on : Progress = record { walk = k; at = next; picked = b.picked; passing = false } in
    let m : Moves code low high prev b vals cur vals₁ cur on = arrives h.ready h.acting code next k vals₁ cur (some i) h.fetched h.inside a is e small (S.Next (record { held = held; picked = b.picked; passing = false })) acts (M.On on) refl in
    subst (λ (x : Acted). ActedOnce code low high prev b vals cur vals₁ x) (sym q) (refl, refl, lastly b vals cur vals₁ cur on m)

-- one is as many as it is
pub once_acts : (code : List ℕ) (low high prev : List ℤ) (b : Progress) (vals cur vals₁ : List ℤ) (r : Acted) → ActedOnce code low high prev b vals cur vals₁ r → ActedBy code low high prev b vals cur vals₁ r
once_acts code low high prev b vals cur vals₁ (Some (k, n)) h = (h.1, subst (λ (m : ℕ). Goes code low high prev m b vals cur k vals₁ cur) (sym h.0) h.2)
once_acts code low high prev b vals cur vals₁ None h = h

module _ (code : List ℕ) (low high prev : List ℤ) (b : Progress) (vals cur vals₁ : List ℤ) (r : Acted) (h : ActedOnce code low high prev b vals cur vals₁ r) where
  pub once_on : (k : Progress) (n : ℕ) → r ≡ Some (k, n) → (k.passing ≡ false) × Goes code low high prev 1 b vals cur k vals₁ cur
  once_on k n e = let o = subst (λ (x : Acted). ActedOnce code low high prev b vals cur vals₁ x) e h in (o.1, o.2)

  pub once_none : r ≡ None → vals₁ ≡ vals
  once_none e = subst (λ (x : Acted). ActedOnce code low high prev b vals cur vals₁ x) e h

-- a code byte without an operand is at hand
module _ {code : List ℕ} {low high prev cur vals : List ℤ} {b : Progress} (r : Ready low high prev cur vals b) (go : b.passing ≡ false) (inside : b.at < length code) where
  pub lone_at_hand : (byte : ℕ) → get_or code b.at 0 ≡ byte → has_operand byte ≡ false → (i : Instruction) → instruction_of byte 0 ≡ some i → AtHand code low high prev cur vals b i (b.at + 1)
  lone_at_hand byte is has i e =
      record { ready = r; acting = go; inside = omega (arith, inside); fetched = alone code b inside byte is has ∙ ap (λ (o : Option Instruction). decoded o (b.at + 1)) e }

  pub operation_at_hand : (byte : ℕ) → get_or code b.at 0 ≡ byte → 4 ≤ byte → byte ≤ 8 → AtHand code low high prev cur vals b (operation (operation_of byte)) (b.at + 1)
  operation_at_hand byte is least most = lone_at_hand byte is (no_operand byte least (omega arith)) (operation (operation_of byte)) (operation_of_lem byte 0 least most)

  pub comparison_at_hand : (byte : ℕ) → get_or code b.at 0 ≡ byte → 10 ≤ byte → byte ≤ 15 → AtHand code low high prev cur vals b (comparison (comparison_of byte)) (b.at + 1)
  comparison_at_hand byte is least most = lone_at_hand byte is (no_operand byte (omega arith) (omega arith)) (comparison (comparison_of byte)) (comparison_of_lem byte 0 least most)

-- comparisons of a code byte
pub comparison_acts : (byte : ℕ) → byte ≤ 15 → (next : ℕ) (b : Progress) (vals vals₁ : List ℤ) (r : Acted) → RelatedBy byte 0 next b vals vals₁ r → DoneBy (comparison (comparison_of byte)) next b vals vals₁ r
comparison_acts byte most next b vals vals₁ r d =
    d (comparison (comparison_of byte)) (comparison_is (comparison_of byte) (known_of b.walk)) (λ ns s t k vs. related_same (compares (comparison_of byte)) (truth_of byte) k vs t (λ x y. sym (truth_comparison byte x y (omega (arith, most)))))

-- ---- several

pub goes_on_lem : {code : List ℕ} {low high prev : List ℤ} (n : ℕ) (b : Progress) (vals cur : List ℤ) (m : Progress) (vals₁ cur₁ : List ℤ) → Goes code low high prev n b vals cur m vals₁ cur₁ → length vals₁ ≡ length vals → length cur₁ ≡ length cur
    → (j : ℕ) (k : Progress) (vals₂ cur₂ : List ℤ) → Goes code low high prev j m vals₁ cur₁ k vals₂ cur₂ → Goes code low high prev (n + j) b vals cur k vals₂ cur₂
goes_on_lem _ _ _ _ _ _ _ (lastly b vals cur vals₁ cur₁ m o) deep wide j k vals₂ cur₂ g = first j b vals cur vals₁ cur₁ m vals₂ cur₂ k o deep wide g
goes_on_lem {code} {low} {high} {prev} _ _ _ _ _ _ _ (first n b vals cur vals₃ cur₃ l vals₁ cur₁ m o deeper wider rest) deep wide j k vals₂ cur₂ g =
    let e : 1 + (n + j) ≡ 1 + n + j = omega arith in
    subst (λ (s : ℕ). Goes code low high prev s b vals cur k vals₂ cur₂) e
    (first (n + j) b vals cur vals₃ cur₃ l vals₂ cur₂ k o deeper wider (goes_on_lem n l vals₃ cur₃ m vals₁ cur₁ rest (deep ∙ sym deeper) (wide ∙ sym wider) j k vals₂ cur₂ g))

-- one, and another behind it
pub then_acts : {code : List ℕ} {low high prev : List ℤ} {b : Progress} {vals cur vals₁ vals₂ : List ℤ} (p q : Progress) (j : ℕ) (r : Acted) → (p.passing ≡ false) × Goes code low high prev 1 b vals cur p vals₁ cur → length vals₁ ≡ length vals
    → ActedOnce code low high prev p vals₁ cur vals₂ r → r ≡ Some (q, j) → ActedBy code low high prev b vals cur vals₂ (Some (q, 2))
then_acts {code} {low} {high} {prev} {b} {vals} {cur} {vals₁} {vals₂} p q j r g deep h e =
    let o = once_on code low high prev p vals₁ cur vals₂ r h q j e in
    (o.0, goes_on_lem 1 b vals cur p vals₁ cur g.1 deep refl 1 q vals₂ cur o.1)

-- one, and none behind it
pub then_stays : {code : List ℕ} {low high prev : List ℤ} {b : Progress} {vals cur vals₁ vals₂ : List ℤ} (p : Progress) (r : Acted) → (p.passing ≡ false) × Goes code low high prev 1 b vals cur p vals₁ cur
    → ActedOnce code low high prev p vals₁ cur vals₂ r → r ≡ None → ActedBy code low high prev b vals cur vals₂ (Some (p, 1))
then_stays {code} {low} {high} {prev} {b} {vals} {cur} {vals₁} {vals₂} p r g h e =
    subst (λ (l : List ℤ). ActedBy code low high prev b vals cur l (Some (p, 1))) (sym (once_none code low high prev p vals₁ cur vals₂ r h e)) g

module _ {code : List ℕ} {low high prev : List ℤ} {b : Progress} {vals cur : List ℤ} where
  pub stretch_begins : Ready low high prev cur vals b → b.passing ≡ false → StretchedBy code low high prev b vals cur 0 b vals
  stretch_begins r go = record { ready = r; acting = go; deep = refl; goes = inl (refl, refl, refl) }

  module _ {n : ℕ} {k : Progress} {vals₁ : List ℤ} (s : StretchedBy code low high prev b vals cur n k vals₁) where
    pub stretch_far : b.at + n ≤ k.at
    stretch_far = by s.goes
      where
        by : ((n ≡ 0) × (k ≡ b) × (vals₁ ≡ vals)) ⊎ Goes code low high prev n b vals cur k vals₁ cur → b.at + n ≤ k.at
        by (inl x) = omega (arith, ap (λ (p : Progress). p.at) x.1, x.0)
        by (inr g) = (goes_far n b vals cur k vals₁ cur g).0

    pub stretch_inside : b.at ≤ length code → k.at ≤ length code
    stretch_inside l = by s.goes
      where
        by : ((n ≡ 0) × (k ≡ b) × (vals₁ ≡ vals)) ⊎ Goes code low high prev n b vals cur k vals₁ cur → k.at ≤ length code
        by (inl x) = omega (arith, ap (λ (p : Progress). p.at) x.1, l)
        by (inr g) = (goes_far n b vals cur k vals₁ cur g).1

    -- and those behind it
    pub stretch_on : (j : ℕ) (q : Progress) (vals₂ : List ℤ) → (q.passing ≡ false) × Goes code low high prev j k vals₁ cur q vals₂ cur → length vals₂ ≡ length vals₁ → StretchedBy code low high prev b vals cur (n + j) q vals₂
    stretch_on j q vals₂ g deeper =
        record { ready = goes_ready j k vals₁ cur q vals₂ cur g.1 s.ready deeper refl; acting = g.0; deep = deeper ∙ s.deep; goes = inr (by s.goes) }
      where
        by : ((n ≡ 0) × (k ≡ b) × (vals₁ ≡ vals)) ⊎ Goes code low high prev n b vals cur k vals₁ cur → Goes code low high prev (n + j) b vals cur q vals₂ cur
        by (inl x) =
            let e : j ≡ n + j = omega (arith, x.0) in
            subst (λ (t : ℕ). Goes code low high prev t b vals cur q vals₂ cur) e
            (subst (λ (p : Progress). Goes code low high prev j p vals cur q vals₂ cur) x.1 (subst (λ (l : List ℤ). Goes code low high prev j k l cur q vals₂ cur) x.2 g.1))
        by (inr h) = goes_on_lem n b vals cur k vals₁ cur h s.deep refl j q vals₂ cur g.1

    -- or none
    pub stretch_stops : (vals₂ : List ℤ) (r : Acted) → ActedBy code low high prev k vals₁ cur vals₂ r → r ≡ None → StretchedBy code low high prev b vals cur n k vals₂
    stretch_stops vals₂ r h e =
        let same : vals₂ ≡ vals₁ = subst (λ (x : Acted). ActedBy code low high prev k vals₁ cur vals₂ x) e h in
        subst (λ (l : List ℤ). StretchedBy code low high prev b vals cur n k l) (sym same) s

pub fusing_stretches : {code : List ℕ} {low high prev : List ℤ} {inputs : ℕ} {cur₀ vals₀ cur vals : List ℤ} {b : Progress} {steps n : ℕ} {k : Progress} {vals₁ : List ℤ}
    → Fusing code low high prev inputs cur₀ vals₀ cur vals b steps → StretchedBy code low high prev b vals cur n k vals₁ → Fusing code low high prev inputs cur₀ vals₀ cur vals₁ k (steps + n)
fusing_stretches {code} {low} {high} {prev} {inputs} {cur₀} {vals₀} {cur} {vals} {b} {steps} {n} {k} {vals₁} f s = by s.goes
  where
    by : ((n ≡ 0) × (k ≡ b) × (vals₁ ≡ vals)) ⊎ Goes code low high prev n b vals cur k vals₁ cur → Fusing code low high prev inputs cur₀ vals₀ cur vals₁ k (steps + n)
    by (inl x) =
        let e : steps ≡ steps + n = omega (arith, x.0) in
        subst (λ (t : ℕ). Fusing code low high prev inputs cur₀ vals₀ cur vals₁ k t) e
        (subst (λ (p : Progress). Fusing code low high prev inputs cur₀ vals₀ cur vals₁ p steps) (sym x.1) (subst (λ (l : List ℤ). Fusing code low high prev inputs cur₀ vals₀ cur l b steps) (sym x.2) f))
    by (inr g) = fusing_leaps n b vals cur k vals₁ cur g f s.deep refl

-- ---- a gate on a no

module _ {code : List ℕ} {low high prev cur vals : List ℤ} {b : Progress} (r : Ready low high prev cur vals b) (go : b.passing ≡ false) (inside : b.at < length code) (s : Shut code vals b) where
  abbrev gated : Known
  gated = known [] true (picks_of b.walk.picking) (flags_of b.walk.names b.walk.known)

  shut_is : known_of (shut_of b).walk ≡ gated
  unfolding sorts_of
  shut_is = refl

  shut-known : some (known_of (shut_of b).walk) ≡ advance gate (known_of b.walk)
  shut-known =
      let w = b.walk in
      let e : guard (not (open_of w.gate) && only truth (sorts_of w.held w.sorts)) gated ≡ some gated = rw (s.none_open, s.one, only_one w.sorts 1 (omega arith), s.truth_held) in
      ap (λ (x : Known). some x) shut_is ∙ sym (gate_is (open_of w.gate) (picks_of w.picking) (flags_of w.names w.known) (sorts_of w.held w.sorts) ∙ e)

  shut_small : Small (shut_of b).walk
  shut_small = record { few_held = omega arith; sorts_low = omega arith; few_names = r.small.few_names; known_low = r.small.known_low }

  pub shut_goes : Goes code low high prev 1 b vals cur (shut_of b) vals cur
  unfolding instruction_of has_operand
  shut_goes =
      lastly b vals cur vals cur (shut_of b)
      (arrives r go code (b.at + 1) (shut_of b).walk vals cur (some gate) (alone code b inside 19 s.is refl) (omega arith) (Some (shut_of b).walk) refl shut-known shut_small
      (S.Next (record { held = 0; picked = b.picked; passing = true }))
      (λ ns q. rw (s.one, held_top vals 1 (omega arith), s.no)) (M.On (shut_of b)) refl)
