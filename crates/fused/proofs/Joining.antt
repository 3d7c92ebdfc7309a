-- The walk and the machine hold as many values; what one instruction does to both. Assumes nothing.
use Rattle.std.specs.Prelude.{Some, None}
use Prim.Native.Nat.{ℕ, ◌+◌, ◌≤◌, ◌<◌}
use native.Mathlib.Omega.{arith}
use mathlib.Core.Path.{◌≡◌, refl, sym, ap, subst, ◌∙◌}
use mathlib.Core.Bool.{Bool, true, false, cond, false≢true}
use mathlib.Core.List.{List, [], ◌∷◌}
use mathlib.Core.Option.{Option, none, some}
use lib.IntN.{ℤ, pos}
use lib.ListN.{length, get_or}
use Rattle.arith.specs.Values.{ok}
use Rattle.semantics.specs.Program.{Range}
use Rattle.semantics.specs.Shape.{Setting}
use Rattle.leb128.specs.Numbers.{Read, got, nothing, number_at}
use Rattle.bytecode.specs.Instructions.{Instruction, instruction_of, has_operand, decoded, fetch_one}
use Rattle.bytecode.specs.Check.{advance}
use Rattle.bytecode.proofs.Soundness.{none≢some, ids_of}
use Rattle.bytecode.proofs.SoundLimits.{ids_kept}
use Rattle.bytecode.specs.Signature.{signature}
use Rattle.bytecode.proofs.Timeless.{TimelessIn, one_timeless}
use Rattle.bytecode.proofs.Fetching.{fetch_alone, fetch_number, fetch_malformed}
use Rattle.checker.specs.declared.advance.Walk.{Walk}
use Rattle.arith.proofs.Flags.{length_flags}
use Rattle.checker.specs.Inner.Walk.{Advanced, known_of, open_of, advanced_known, advance_by, SmallAfter}
use Rattle.checker.proofs.Bits.{length_sorts}
use Rattle.checker.proofs.Walking.{judges_malformed, judges_broken}
use Rattle.machine.specs.declared.Registers.{Registers}
use Rattle.machine.specs.declared.Stepped.{Stepped}
use Rattle.machine.specs.declared.Stepped.TheVariants as S
use Rattle.machine.specs.Step.{Machine, machine, step}
use Rattle.machine.specs.Inner.Memory.{held_of, machine_of, step_outcome, stepped, RangesIn}
use Rattle.machine.proofs.Refusals.{Matches, Kept as KeptBy, timeless_stands, step_keeps}
use Rattle.machine.proofs.Changes.{names_length}
use Rattle.machine.proofs.Stack.{length_held}
use Rattle.fused.specs.declared.Progress.{Progress}
use Rattle.fused.specs.declared.Moved.{Moved}
use Rattle.fused.specs.Inner.Passes.{registers_of, moved_of, Ready, Strides, BreaksAt, Moves, MovesBy}

-- ---- ranges of which only lows and highs are known

abbrev pub ranges_by : List ℤ → List ℤ → List Range
ranges_by [] high = []
ranges_by (l ∷ low) [] = []
ranges_by (l ∷ low) (h ∷ high) = record { low = l; high = h; start = pos 0 } ∷ ranges_by low high

-- and no timers
abbrev pub setting_by : List ℤ → List ℤ → Setting
setting_by low high = record { ranges = ranges_by low high; timers = []; millis = 0 }

ranges_by_lem : (low high : List ℤ) → length high ≡ length low → RangesIn (ranges_by low high) low high
ranges_by_lem [] [] e = record { lows = refl; highs = refl }
ranges_by_lem [] (h ∷ high) e = let b : ⊥ = omega arith in absurd b
ranges_by_lem (l ∷ low) [] e = let b : ⊥ = omega arith in absurd b
ranges_by_lem (l ∷ low) (h ∷ high) e = let r = ranges_by_lem low high (omega arith) in record { lows = ap (λ (ls : List ℤ). l ∷ ls) r.lows; highs = ap (λ (hs : List ℤ). h ∷ hs) r.highs }

-- ---- as many values are held

held_none : (vals : List ℤ) → held_of vals 0 ≡ []
unfolding held_of
held_none vals = refl

matches : (w : Walk) (p c : Bool) (vals cur : List ℤ) → (p ≡ true → open_of w.gate ≡ true) → Matches (known_of w) (machine p c (held_of vals (cond p 0 w.held)) cur)
matches w false c vals cur h = length_held vals w.held ∙ sym (length_sorts w.held w.sorts)
matches w true c vals cur h = (h refl, held_none vals)

pub aligned : (w : Walk) (p c : Bool) (n : ℕ) (vals cur : List ℤ) → Matches (known_of w) (machine p c (held_of vals n) cur) → held_of vals n ≡ held_of vals (cond p 0 w.held)
aligned w false c n vals cur m = let e : n ≡ w.held = sym (length_held vals n) ∙ m ∙ length_sorts w.held w.sorts in rw e
aligned w true c n vals cur m = m.1 ∙ sym (held_none vals)

pub opens : (w : Walk) (p c : Bool) (n : ℕ) (vals cur : List ℤ) → Matches (known_of w) (machine p c (held_of vals n) cur) → p ≡ true → open_of w.gate ≡ true
opens w false c n vals cur m e = absurd (false≢true e)
opens w true c n vals cur m e = m.0

-- an instruction leaves as many names
pub names_stay : (i : Instruction) (w k : Walk) → advance i (known_of w) ≡ some (known_of k) → k.names ≡ w.names
names_stay i w k e = sym (length_flags k.names k.known) ∙ ids_kept i (known_of w) (known_of k) e ∙ length_flags w.names w.known

module _ {low high prev cur vals : List ℤ} {b : Progress} (r : Ready low high prev cur vals b) where
  -- the ranges that the memory stands for, with any starts
  pub here : RangesIn (ranges_by low high) low high
  here = ranges_by_lem low high r.named.highs

  -- the machine goes on as the walk does
  pub kept : (i : Instruction) (k : Walk) → TimelessIn (signature i).role → (ns : Setting) → RangesIn ns.ranges low high → advance i (known_of b.walk) ≡ some (known_of k) → KeptBy (known_of k) (step ns prev i (machine_of (registers_of b) vals cur))
  kept i k y ns q e =
      let size : length (ids_of (known_of b.walk)) ≡ length ns.ranges = length_flags b.walk.names b.walk.known ∙ r.sized ∙ sym (names_length ns.ranges low high q) in
      step_keeps ns prev i (known_of b.walk) (known_of k) (machine_of (registers_of b) vals cur) (timeless_stands ns prev (signature i).role y) (omega arith) e (matches b.walk b.passing b.picked vals cur r.opened)

  -- ---- an instruction that is not passed over

  module _ (go : b.passing ≡ false) (code : List ℕ) (next : ℕ) (k : Walk) (vals₁ cur₁ : List ℤ) where
    abbrev doing : Registers
    doing = record { held = b.walk.held; picked = b.picked; passing = false }

    not_passing : machine_of doing vals cur ≡ machine_of (registers_of b) vals cur
    not_passing = rw go

    module _ (o : Strides code b.walk b.at k next) where
      takes : (t : Registers) → ((ns : Setting) → RangesIn ns.ranges low high → ok (machine_of t vals₁ cur₁) ≡ step ns prev o.instruction (machine_of doing vals cur))
          → Moves code low high prev b vals cur vals₁ cur₁ (record { walk = k; at = next; picked = t.picked; passing = t.passing })
      takes t a =
          record {
            stride = o;
            acted = λ ns q. sym (acts ns q) ∙ ap (λ (vs : List ℤ). ok (machine t.passing t.picked vs cur₁)) (aligned k t.passing t.picked t.held vals₁ cur₁ (matched ns q));
            opened = opens k t.passing t.picked t.held vals₁ cur₁ (matched (setting_by low high) here);
          }
        where
          acts : (ns : Setting) → RangesIn ns.ranges low high → ok (machine_of t vals₁ cur₁) ≡ step ns prev o.instruction (machine_of (registers_of b) vals cur)
          acts ns q = a ns q ∙ ap (λ (m : Machine). step ns prev o.instruction m) not_passing

          matched : (ns : Setting) → RangesIn ns.ranges low high → Matches (known_of k) (machine_of t vals₁ cur₁)
          matched ns q = subst (KeptBy (known_of k)) (sym (acts ns q)) (kept o.instruction k (one_timeless code b.at o.instruction next o.fetched) ns q o.advanced)

      done : (s : Stepped) → ((ns : Setting) → RangesIn ns.ranges low high → step_outcome s vals₁ cur₁ ≡ step ns prev o.instruction (machine_of doing vals cur))
          → MovesBy code low high prev b vals cur vals₁ cur₁ (moved_of k next s)
      done (S.Next t) a = takes t a
      done (S.Refused number) a =
          record { stride = o; acted = λ ns q. sym (a ns q ∙ ap (λ (m : Machine). step ns prev o.instruction m) not_passing) }

    -- read as this instruction, with this place behind it
    pub arrives : (o : Option Instruction) → fetch_one code b.at ≡ decoded o next → next ≤ length code → (a : Advanced) → a ≡ Some k → advanced_known a ≡ advance_by o (known_of b.walk) → SmallAfter a
        → (s : Stepped) → ((ns : Setting) → RangesIn ns.ranges low high → step_outcome s vals₁ cur₁ ≡ stepped ns prev o (machine_of doing vals cur))
        → (m : Moved) → m ≡ moved_of k next s → MovesBy code low high prev b vals cur vals₁ cur₁ m
    arrives none f inside a is e small s acts m q = none≢some _ (sym e ∙ ap advanced_known is)
    arrives (some i) f inside a is e small s acts m q =
        subst (λ x. MovesBy code low high prev b vals cur vals₁ cur₁ x) (sym q) (done (record { instruction = i; fetched = f; inside = inside; advanced = sym e ∙ ap advanced_known is; small = subst SmallAfter is small }) s acts)

-- ---- the instruction at hand

module _ (code : List ℕ) (b : Progress) (inside : b.at < length code) where
  pub breaks : (o : Option Instruction) (next : ℕ) → fetch_one code b.at ≡ decoded o next → (a : Advanced) → a ≡ None → advanced_known a ≡ advance_by o (known_of b.walk) → BreaksAt code b
  breaks o next f a is e = judges_broken code b.at (known_of b.walk) inside o next f (sym e ∙ ap advanced_known is)

  -- whatever its operand, the code byte breaks
  pub breaks_otherwise : ((n : ℕ) → advance_by (instruction_of (get_or code b.at 0) n) (known_of b.walk) ≡ none) → BreaksAt code b
  breaks_otherwise h = by (has_operand (get_or code b.at 0)) refl
    where
      read : has_operand (get_or code b.at 0) ≡ true → (r : Read ℕ) → number_at code (b.at + 1) ≡ r → BreaksAt code b
      read t nothing e = judges_malformed code b.at (known_of b.walk) inside (fetch_malformed code b.at inside t e)
      read t (got n next) e = judges_broken code b.at (known_of b.walk) inside (instruction_of (get_or code b.at 0) n) next (fetch_number code b.at n next inside t e) (h n)

      by : (t : Bool) → has_operand (get_or code b.at 0) ≡ t → BreaksAt code b
      by true t = read t (number_at code (b.at + 1)) refl
      by false t = judges_broken code b.at (known_of b.walk) inside (instruction_of (get_or code b.at 0) 0) (b.at + 1) (fetch_alone code b.at inside t) (h 0)

  module _ (byte : ℕ) (is : get_or code b.at 0 ≡ byte) where
    pub alone : has_operand byte ≡ false → fetch_one code b.at ≡ decoded (instruction_of byte 0) (b.at + 1)
    alone has = fetch_alone code b.at inside (ap has_operand is ∙ has) ∙ rw is

    module _ (has : has_operand byte ≡ true) where
      pub with_operand : (n next : ℕ) → number_at code (b.at + 1) ≡ got n next → fetch_one code b.at ≡ decoded (instruction_of byte n) next
      with_operand n next e = fetch_number code b.at n next inside (ap has_operand is ∙ has) e ∙ rw is

      pub malformed : number_at code (b.at + 1) ≡ nothing → BreaksAt code b
      malformed e = judges_malformed code b.at (known_of b.walk) inside (fetch_malformed code b.at inside (ap has_operand is ∙ has) e)
