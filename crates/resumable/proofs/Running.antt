-- A run from what stands in the memory. Assumes nothing.
use Prim.Native.Nat.{ℕ, ◌+◌, ◌≤◌}
use native.Mathlib.Omega.{arith}
use mathlib.Core.Path.{◌≡◌, refl, sym, ap, subst, ◌∙◌}
use mathlib.Core.List.{List, [], ◌∷◌}
use lib.IntN.{ℤ}
use lib.ListN.{length, length-take, length-drop}
use Rattle.resumable.specs.Inner.Room.{RoomToRun, Short}
use Rattle.limits.specs.Limits.{image_limit, stack_limit}
use Rattle.semantics.specs.Shape.{Setting}
use Rattle.semantics.specs.ReferenceScan.{with_inputs}
use Rattle.arith.proofs.Flags.{length_flags}
use Rattle.machine.specs.Runs.{Ran, run}
use Rattle.machine.specs.Inner.Memory.{machine_of, step_outcome, ran_of, RangesIn, TimingIn, NamedIn, Few}
use Rattle.machine.specs.Inner.Dispatch.{RanTo}
use Rattle.machine.specs.declared.Executed.{Executed}
use Rattle.machine.specs.declared.Timing.{Timing}
use Rattle.machine.specs.declared.Stepped.{Stepped}
use Rattle.machine.specs.declared.Stepped.TheVariants.{Next, Refused}
use Rattle.machine.proofs.Stack.{length_held}
use Rattle.machine.proofs.Untimed.{whole_run}
use Rattle.runs.proofs.Divided.{run_place}
use Rattle.runs.proofs.Sizes.{Sized, SizedIn, run_sized}
use Rattle.paused.specs.declared.Response.TheVariants as R
use Rattle.machine.proofs.Copies.{over_all}
use Rattle.paused.specs.declared.Checkpoint.{Checkpoint}
use Rattle.paused.specs.declared.Layout.{Layout}
use Rattle.paused.specs.Memory.{held_place, start_place, current_place, low_place, high_place, slice}
use Rattle.resumable.specs.Instalment.{after_call, ranges_between, setting_in, standing, ran_from, left_after, left_by_run, instalment}

pub length_slice : (at n : ℕ) (l : List ℤ) → at + n ≤ length l → length (slice at n l) ≡ n
length_slice at n l h = simp (length-take, length-drop) (omega arith)

pub ranges_between_lem : (ls hs : List ℤ) → length ls ≡ length hs → RangesIn (ranges_between ls hs) ls hs
ranges_between_lem [] [] e = record { lows = refl; highs = refl }
ranges_between_lem [] (h ∷ hs) e = absurd (omega arith)
ranges_between_lem (l ∷ ls) [] e = absurd (omega arith)
ranges_between_lem (l ∷ ls) (h ∷ hs) e =
    let r = ranges_between_lem ls hs (omega arith) in
    record { lows = ap (λ x. l ∷ x) r.lows; highs = ap (λ x. h ∷ x) r.highs }

abbrev timing_of : Layout → Timing
timing_of f = record { names = f.names; timers = f.timers; millis = f.millis }

module _ {memory cur vals : List ℤ} {p : Checkpoint} (f : Layout) (y : RoomToRun memory cur vals p f.size) where
  pub length_list : (at : ℕ) → at ≤ 512 → length (slice at f.size memory) ≡ f.size
  length_list at h = length_slice at f.size memory (omega (arith, y.cells, y.few))

  pub ran_from_lem : (code : List ℕ) (n : ℕ) (d : Ran) (cur₁ vals₁ : List ℤ) → cur₁ ≡ with_inputs cur (slice current_place f.size memory) → vals₁ ≡ with_inputs vals (slice held_place stack_limit memory)
      → (a b c : ℕ) → a ≡ f.size → b ≡ f.size → c ≡ f.size
      → ((ns : Setting) → RangesIn ns.ranges (slice low_place a memory) (slice high_place b memory) → TimingIn ns (timing_of f)
      → d ≡ run ns (slice start_place c memory) code n p.place 0 (machine_of (record { held = p.held; picked = p.picked; passing = p.passing }) vals₁ cur₁))
      → d ≡ ran_from code n p f memory
  unfolding ran_from
  ran_from_lem code n d cur₁ vals₁ x z a b c qa qb qc e =
      let h : length (slice held_place stack_limit memory) ≡ stack_limit = length_slice held_place stack_limit memory (omega (arith, y.cells)) in
      let x₁ : cur₁ ≡ slice current_place f.size memory = x ∙ over_all (slice current_place f.size memory) cur (length_list current_place (omega arith) ∙ sym y.current) in
      let z₁ : vals₁ ≡ slice held_place stack_limit memory = z ∙ over_all (slice held_place stack_limit memory) vals (h ∙ sym y.room) in
      let r = ranges_between_lem (slice low_place f.size memory) (slice high_place f.size memory) (length_list low_place (omega arith) ∙ sym (length_list high_place (omega arith))) in
      e (setting_in f memory) (rw (qa, qb) r) (record { flags = refl; time = refl }) ∙ rw (qc, x₁, z₁)

module _ {memory cur vals : List ℤ} {p : Checkpoint} (f : Layout) (y : RoomToRun memory cur vals p f.size) (even : f.size ≡ f.names) where
  pub ran_untimed : (code : List ℕ) (n : ℕ) (r : Executed) (vs cs cur₁ vals₁ : List ℤ) → cur₁ ≡ with_inputs cur (slice current_place f.size memory) → vals₁ ≡ with_inputs vals (slice held_place stack_limit memory)
      → (a b c : ℕ) → a ≡ f.size → b ≡ f.size → c ≡ f.size
      → RanTo code (NamedIn (slice low_place a memory) (slice high_place b memory) f.size) (slice start_place c memory) vals₁ cur₁ f.size p.place n
      (record { held = p.held; picked = p.picked; passing = p.passing }) r vs cs
      → ran_of r vs cs ≡ ran_from code n p f memory
  ran_untimed code n r vs cs cur₁ vals₁ x z a b c qa qb qc t =
      let l : length (slice start_place c memory) ≤ f.size = omega (arith, length_slice start_place c memory (omega (arith, y.cells, y.few))) in
      ran_from_lem f y code n (ran_of r vs cs) cur₁ vals₁ x z a b c qa qb qc
      (λ ns ranged timed. whole_run t l ns (record { ranged = ranged; named = ap length timed.flags ∙ length_flags f.names f.timers ∙ sym even }))

-- what the run of an instalment leaves
module _ {memory cur vals : List ℤ} {p : Checkpoint} (f : Layout) (y : RoomToRun memory cur vals p f.size) {code : List ℕ} {n : ℕ} (h : Short code n p)
    (r : Executed) (vals₁ cur₁ : List ℤ) (e : ran_of r vals₁ cur₁ ≡ ran_from code n p f memory) where
  begun_sized : Sized f.size (standing p f.size memory)
  begun_sized = (rw length_held y.held, length_list f y current_place (omega arith))

  few_by : (o : Stepped) → SizedIn f.size (step_outcome o vals₁ cur₁) → Few o
  few_by (Next m) z = rw length_held at z.0
  few_by (Refused k) z = tt

  pub few_left : Few r.last
  unfolding ran_from
  few_left = few_by r.last (subst (λ (d : Ran). SizedIn f.size d.last) (sym e) (run_sized (setting_in f memory) (slice start_place f.size memory) f.size code n p.place 0 (standing p f.size memory) begun_sized))

  pub place_left : r.place ≤ image_limit
  unfolding ran_from
  place_left = subst (λ (d : Ran). d.place ≤ image_limit) (sym e) (run_place (setting_in f memory) (slice start_place f.size memory) code image_limit n p.place 0 (standing p f.size memory) h.place h.bytes)

  pub instalment_is : {left : List ℤ} → left ≡ left_after p.steps (length code) r.steps r.place (step_outcome r.last vals₁ cur₁) memory
      → after_call (R.Done r.steps) left ≡ instalment code n memory p f
  instalment_is {left} q = ap (λ (l : List ℤ). after_call (R.Done r.steps) l) q ∙ ap (λ (d : Ran). after_call (R.Done d.steps) (left_by_run p.steps (length code) d memory)) e
