-- What holds of every run of a sound image, with any budget. Assumes nothing.
use Prim.Native.Nat.{ℕ, zero, suc, ◌+◌, ◌≤◌, ◌<◌}
use native.Mathlib.Omega.{arith}
use mathlib.Core.Path.{◌≡◌, refl, sym, ap, ◌∙◌}
use mathlib.Core.Bool.{Bool, true, false}
use mathlib.Core.List.{List, [], ◌∷◌, map}
use mathlib.Core.Option.{Option, none, some}
use lib.Dec.{T, ltb}
use lib.IntN.{ℤ}
use lib.ListN.{length, get_or, set, take, replicate, length-map, get_or-append}
use borrow.Author.Tests.{ltb-true, le-ltb}
use Rattle.limits.specs.Answer.{accepted}
use Rattle.arith.specs.Values.{Outcome, ok, refusal}
use Rattle.semantics.specs.Program.{Range, no_range, range_at, bit_range}
use Rattle.semantics.specs.Formula.{State}
use Rattle.semantics.specs.Shape.{Shape, is_limit, timers_of, time_range, time_ranges, count_true, cells, setting_of}
use Rattle.semantics.proofs.Counted.{state_length_lem, cell_time}
use Rattle.semantics.proofs.Reference.{length_known}
use Rattle.semantics.proofs.Timers.{times_append}
use Rattle.bytecode.specs.Instructions.{Instruction, constant, current, previous, operation, negate, comparison, negated, both, either, gate, pick, assign, settle, timer}
use Rattle.bytecode.specs.Signature.{Role, signature}
use Rattle.bytecode.specs.Check.{Known, advance, suits, check_code, at_start, check_body, check_of}
use Rattle.bytecode.specs.Parts.{header_of, code_of, limit_in, limits_from, limits_of, shape_in}
use Rattle.bytecode.proofs.Soundness.{ids_of}
use Rattle.bytecode.proofs.RoundTrip.{fetch_next}
use Rattle.bytecode.proofs.Walk.{Stepped, check_stepped, check_sound}
use Rattle.bytecode.proofs.SoundHeader.{header_is}
use Rattle.bytecode.proofs.TimerPlaces.{timer_range}
use Rattle.bytecode.proofs.Limits.{limits_length}
use Rattle.bytecode.proofs.SoundLimits.{suits_own, Limited, limited_begins, limited_next, ids_kept, timer_named, timer_limit}
use Rattle.bytecode.proofs.Timeless.{OfTimer, of_timer}
use Rattle.machine.specs.Step.{Machine, machine, step}
use Rattle.machine.specs.Runs.{Ran, after_step, run}
use Rattle.machine.proofs.Refusals.{RefusedByRules, Kept, StandsIn, step_keeps, Stands}
use Rattle.machine.proofs.Ranges.{Within, AllWithin, FitIn, step_within, Fit}

-- ---- where a timer of sound code works

-- a 23 of sound code: its names, and the limit that the shape has of its timer
pub record Timely (k : Shape) (t w n : ℕ) : Type 0 where
  pub named : t < length k.ranges
  pub of_name : w < length k.ranges
  pub least : 1 ≤ n
  pub most : n ≤ 2147483647
  pub limit : get_or k.limits t 0 ≡ n
  pub own : range_at k.ranges t ≡ bit_range

abbrev pub TimelyIn : Shape → Role → Type 0
TimelyIn k r = OfTimer (Timely k) r

-- fewer timers stand before one than there are
count_before : (ls : List ℕ) (t : ℕ) → 1 ≤ get_or ls t 0 → count_true (take t (map is_limit ls)) < count_true (map is_limit ls)
count_before [] t h = let b : ⊥ = omega arith in absurd b
count_before (zero ∷ ls) zero h = let b : ⊥ = omega arith in absurd b
count_before (zero ∷ ls) (suc t) h = count_before ls t h
count_before (suc n ∷ ls) zero h = omega arith
count_before (suc n ∷ ls) (suc t) h = let i = count_before ls t h in omega arith

module _ (k : Shape) (even : length k.limits ≡ length k.ranges) (row : List ℤ) (s : State) where
  names_first : length k.ranges ≤ length (cells k)
  names_first = omega (arith, state_length_lem k)

  cell_name : (i : ℕ) → i < length k.ranges → range_at (cells k) i ≡ range_at k.ranges i
  cell_name i h = ap (λ (l : List Range). range_at l i) (times_append k.ranges (time_ranges k.limits)) ∙ get_or-append k.ranges (time_ranges k.limits) no_range i h

  timely_stands : (r : Role) → TimelyIn k r → StandsIn (setting_of k row) s r
  timely_stands = of_timer (Timely k) (Stands (setting_of k row) s) λ t w n x.
      let c = count_before k.limits t (omega (arith, x.limit, x.least)) in
      let m : length (timers_of k) ≡ length k.ranges = length-map k.limits is_limit ∙ even in
      (omega (arith, x.named, names_first), omega (arith, x.of_name, names_first), omega (arith, state_length_lem k), x.most)

  timely_fits : (old : Within (cells k) s) (r : Role) → TimelyIn k r → FitIn (setting_of k row) s old r
  timely_fits old = of_timer (Timely k) (Fit (setting_of k row) s old) λ t w n x.
      (cell_time k even t (omega (arith, x.limit, x.least)) ∙ ap time_range x.limit, cell_name t x.named ∙ x.own)

  -- ---- a run along the check's walk

  module _ (base : ℕ) (code : List ℕ) where
    -- the walk stands at a place, with the limits given so far
    pub record Walking (f at : ℕ) (last : Option Instruction) (c : Known) (ls : List ℕ) : Type 0 where
      pub sized : length (ids_of c) ≡ length k.ranges
      pub enough : length code ≤ at + f
      pub sound : check_code k.ranges base code f at last c ≡ accepted tt
      pub limited : Limited last c ls
      pub limits : limits_from code f at ls ≡ k.limits

    module _ (f at : ℕ) (last : Option Instruction) (c : Known) (ls : List ℕ) (x : Walking (suc f) at last c ls) (y : Stepped k.ranges base code f at last c) where
      abbrev given : List ℕ
      given = limit_in (signature y.instruction).role ls

      rest_limits : limits_from code f y.next given ≡ k.limits
      rest_limits = rw y.fetched at x.limits

      walking_on : Walking f y.next (some y.instruction) y.after given
      walking_on =
          record {
            sized = ids_kept y.instruction c y.after y.advanced ∙ x.sized;
            enough = omega (arith, x.enough, (fetch_next code at y.instruction y.next y.fetched).1);
            sound = y.goes;
            limited = limited_next k.ranges last y.instruction c y.after ls y.suited y.advanced x.limited;
            limits = rest_limits;
          }

      timely : TimelyIn k (signature y.instruction).role
      timely = by y.instruction y.suited y.advanced y.goes rest_limits
        where
          by : (i : Instruction) → T (suits k.ranges last i) → advance i c ≡ some y.after → check_code k.ranges base code f y.next (some i) y.after ≡ accepted tt
              → limits_from code f y.next (limit_in (signature i).role ls) ≡ k.limits → TimelyIn k (signature i).role
          by (constant z) s a g q = tt
          by (current v) s a g q = tt
          by (previous v) s a g q = tt
          by (operation o) s a g q = tt
          by negate s a g q = tt
          by (comparison o) s a g q = tt
          by negated s a g q = tt
          by both s a g q = tt
          by either s a g q = tt
          by gate s a g q = tt
          by (pick side v) s a g q = tt
          by (assign v) s a g q = tt
          by (settle v) s a g q = tt
          by (timer t w n) s a g q =
              let m = timer_named k.ranges last t w n c y.after ls s a x.limited in
              let given : get_or (limits_from code f y.next (set ls t n)) t 0 ≡ n = timer_limit k.ranges base code f at last c ls t w n y.next y.after x.limited.tabled.size a g in
              record {
                named = omega (arith, m.named, x.sized);
                of_name = omega (arith, m.of_name, x.sized);
                least = m.least;
                most = m.most;
                limit = rw q at given;
                own = timer_range (range_at k.ranges t) (suits_own k.ranges last t w n s);
              }

    -- what each instruction keeps where the walk stands, a run keeps
    module _ (R : Known → Outcome Machine → Type 0)
        (steps : (i : Instruction) (c d : Known) (m : Machine) → TimelyIn k (signature i).role → length (ids_of c) ≡ length k.ranges → advance i c ≡ some d → R c (ok m) → R d (step (setting_of k row) s i m))
        (Q : Outcome Machine → Type 0) (ends : (c : Known) (o : Outcome Machine) → R c o → Q o) where
      run_keeps : (budget f at n : ℕ) (last : Option Instruction) (c : Known) (ls : List ℕ) (m : Machine) → Walking f at last c ls → R c (ok m) → Q (run (setting_of k row) s code budget at n m).last
      run_keeps zero f at n last c ls m x r = ends c (ok m) r
      run_keeps (suc budget) zero at n last c ls m x r = rw (le-ltb at (length code) (omega (arith, x.enough))) (ends c (ok m) r)
      run_keeps (suc budget) (suc f) at n last c ls m x r = inside (ltb at (length code)) refl (λ next last₁ c₁ ls₁ m₁ x₁ r₁. run_keeps budget f next (n + 1) last₁ c₁ ls₁ m₁ x₁ r₁)
        where
          stepped : (o : Outcome Machine) (next : ℕ) (d : Known) → R d o → ((m₁ : Machine) → R d (ok m₁) → Q (run (setting_of k row) s code budget next (n + 1) m₁).last)
              → Q (after_step o (n + 1) at (λ m₁. run (setting_of k row) s code budget next (n + 1) m₁)).last
          stepped (ok m₁) next d h ih = ih m₁ h
          stepped (refusal j) next d h ih = ends d (refusal j) h

          inside : (b : Bool) → ltb at (length code) ≡ b
              → ((next : ℕ) (last₁ : Option Instruction) (c₁ : Known) (ls₁ : List ℕ) (m₁ : Machine) → Walking f next last₁ c₁ ls₁ → R c₁ (ok m₁) → Q (run (setting_of k row) s code budget next (n + 1) m₁).last)
              → Q (run (setting_of k row) s code (suc budget) at n m).last
          inside false b ih = rw b (ends c (ok m) r)
          inside true b ih =
              let y = check_stepped k.ranges base code f at last c (ltb-true at (length code) b) x.sound in
              let w = walking_on f at last c ls x y in
              rw (b, y.fetched)
              (stepped (step (setting_of k row) s y.instruction m) y.next y.after (steps y.instruction c y.after m (timely f at last c ls x y) x.sized y.advanced r)
              λ m₁ r₁. ih y.next (some y.instruction) y.after (limit_in (signature y.instruction).role ls) m₁ w r₁)

-- ---- a sound image

-- the first b instructions of an image's code, with a row's milliseconds: nothing held, s the previous and t the current values
abbrev pub run_of_image : List ℕ → List ℤ → State → State → ℕ → Ran
run_of_image image row s t b = run (setting_of (shape_in image) row) s (code_of image) b 0 0 (machine false false [] t)

module _ (image : List ℕ) (sound : check_of image ≡ accepted tt) (row : List ℤ) (s t : State) (budget : ℕ) where
  begins : Walking (shape_in image) (limits_length image) row s (header_of image).place (code_of image) (length (code_of image)) 0 none (at_start (header_of image)) (replicate (length (header_of image).ranges) 0)
  unfolding check_body code_of limits_of
  begins =
      let y = check_sound image sound in
      let h = header_is image y in
      let l = length_known (header_of image).inputs (length (header_of image).ranges) in
      record {
        sized = l;
        enough = omega arith;
        sound = rw h y.body;
        limited = limited_begins (at_start (header_of image)) (length (header_of image).ranges) (sym l);
        limits = refl;
      }

  -- sound code meets only 14 to 17 and 22
  pub sound_by_rules : RefusedByRules (run_of_image image row s t budget).last
  sound_by_rules =
      let k = shape_in image in
      let e = limits_length image in
      run_keeps k e row s (header_of image).place (code_of image) Kept
      (λ i c d m x l a r. step_keeps (setting_of k row) s i c d m (timely_stands k e row s (signature i).role x) (omega (arith, names_first k e row s)) a r)
      RefusedByRules kept-ends budget (length (code_of image)) 0 0 none (at_start (header_of image)) (replicate (length (header_of image).ranges) 0) (machine false false [] t) begins refl
    where
      kept-ends : (c : Known) (o : Outcome Machine) → Kept c o → RefusedByRules o
      kept-ends c (ok m) r = tt
      kept-ends c (refusal j) r = r

  -- every value stays in its range, and every elapsed time in 0..N
  pub sound_within : Within (cells (shape_in image)) s → Within (cells (shape_in image)) t → AllWithin (cells (shape_in image)) (run_of_image image row s t budget).last
  sound_within old w =
      let k = shape_in image in
      let e = limits_length image in
      run_keeps k e row s (header_of image).place (code_of image) (λ c o. AllWithin (cells k) o)
      (λ i c d m x l a r. step_within (setting_of k row) s old i (timely_fits k e row s old (signature i).role x) m r)
      (λ o. AllWithin (cells k) o) (λ c o r. r) budget (length (code_of image)) 0 0 none (at_start (header_of image)) (replicate (length (header_of image).ranges) 0) (machine false false [] t) begins w
