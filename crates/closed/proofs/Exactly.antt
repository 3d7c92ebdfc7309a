-- The closed profile accepts exactly the closed images; a closed image never refuses a row; 27 names the first refused scan. Assumes nothing.
use mathlib.Core.Path.{◌≡◌, refl, sym, ap, subst, ◌∙◌}
use mathlib.Core.Bool.{true, false, not, ◌&&◌}
use mathlib.Core.Logic.{◌↔◌}
use mathlib.Core.List.{List, [], ◌∷◌, map}
use mathlib.Core.Option.{some}
use Prim.Native.Nat.{ℕ, zero, suc, ◌+◌, ◌*◌}
use native.Mathlib.Omega.{arith}
use borrow.Author.Tests.{eq-eqb, leb-true, le-leb, not-true}
use lib.Dec.{T, leb}
use lib.IntN.{ℤ}
use lib.ListN.{length, take, get_elem?, length-map}
use lib.Signed.{le_z}
use Rattle.limits.specs.Answer.{Answer, accepted, refused}
use Rattle.arith.specs.Values.{Outcome, ok, refusal, is_int32}
use Rattle.arith.proofs.Basics.{and_left, and_right, and_T, and_both}
use Rattle.semantics.specs.Program.{Range, within}
use Rattle.semantics.specs.Formula.{State}
use Rattle.semantics.specs.ReferenceScan.{with_inputs}
use Rattle.bytecode.specs.Check.{check_of}
use Rattle.bytecode.specs.Parts.{header_of, code_of, limits_of, shape_in}
use Rattle.bytecode.specs.Translation.{RangesFit}
use Rattle.bytecode.proofs.Limits.{no_times}
use Rattle.semantics.specs.Shape.{has_timer, all_within, state_length}
use Rattle.machine.specs.Step.{Machine, machine}
use Rattle.machine.proofs.Refusals.{ByRules, RefusedByRules}
use Rattle.machine.proofs.Ranges.{Within}
use Rattle.machine.proofs.SoundRuns.{sound_by_rules}
use Rattle.scan.specs.Services.{AfterScan, finished, run_of, scan_code, start_of, scan_of, scans_of}
use Rattle.scan.proofs.SoundScans.{scan_within}
use Rattle.closed.specs.Closed.{product_of_sizes, input_ranges, is_small, Combination, combinations, combinations_of, Walked, every_accepted, refused_at, go_on, walked, scanning, closed_by, closed_of}
use Rattle.closed.specs.Claims.{InRangeState, InRangeRow, Closed, InRangeRows, AllAccepted, FirstRefused}
use Rattle.closed.proofs.Combining.{All, all_weaker, ◌∈◌, all_in, combinations_complete, in_paired}
use Rattle.closed.proofs.Profiles.{ways}
use Rattle.closed.proofs.Order.{Rising, values_in, combinations_rise, paired_rise, earlier_accepted}
use Rattle.closed.proofs.Scans.{header_fits, inputs_among, combinations_in, row_within, row_in_range_lem, scanning_code}

-- ---- what the end of a walk says

walked_through : (f : Combination → Answer (Unit {0})) (cs : List Combination) (n : ℕ) → walked f cs n ≡ every_accepted → All (λ c. f c ≡ accepted tt) cs
walked_through f [] n e = tt
walked_through f (c ∷ cs) n e = go (f c) refl e (λ q. walked_through f cs (n + 1) q)
  where
    go : (a : Answer (Unit {0})) → f c ≡ a → go_on a (walked f cs (n + 1)) (refused_at n c) ≡ every_accepted → (walked f cs (n + 1) ≡ every_accepted → All (λ d. f d ≡ accepted tt) cs)
        → (f c ≡ accepted tt) × All (λ d. f d ≡ accepted tt) cs
    go (accepted u) q p ih = (q, ih p)
    go (refused number place) q p ih = let z : ◌≡◌ {A = ℕ} 0 1 = cc in let b : ⊥ = omega arith in absurd b

walked_all : (f : Combination → Answer (Unit {0})) (cs : List Combination) (n : ℕ) → All (λ c. f c ≡ accepted tt) cs → walked f cs n ≡ every_accepted
walked_all f [] n h = refl
walked_all f (c ∷ cs) n h = rw h.0 (walked_all f cs (n + 1) h.1)

record Stopping (f : Combination → Answer (Unit {0})) (cs : List Combination) (k n : ℕ) (c : Combination) : Type 0 where
  at : ℕ
  count : n ≡ k + at
  stands : get_elem? cs at ≡ some c
  number : ℕ
  place : ℕ
  refuses : f c ≡ refused number place

walked_first : (f : Combination → Answer (Unit {0})) (cs : List Combination) (k n : ℕ) (c : Combination) → walked f cs k ≡ refused_at n c → Stopping f cs k n c
walked_first f [] k n c e = let z : ◌≡◌ {A = ℕ} 0 1 = cc in let b : ⊥ = omega arith in absurd b
walked_first f (d ∷ cs) k n c e = go (f d) refl e (λ q. walked_first f cs (k + 1) n c q)
  where
    go : (a : Answer (Unit {0})) → f d ≡ a → go_on a (walked f cs (k + 1)) (refused_at k d) ≡ refused_at n c → (walked f cs (k + 1) ≡ refused_at n c → Stopping f cs (k + 1) n c) → Stopping f (d ∷ cs) k n c
    go (accepted u) q p ih =
        let s = ih p in
        record { at = suc s.at; count = let h = s.count in omega arith; stands = s.stands; number = s.number; place = s.place; refuses = s.refuses }
    go (refused number place) q p ih =
        let e : d ≡ c = cc in
        let i : k ≡ n = cc in
        record { at = 0; count = omega arith; stands = ap some e; number = number; place = place; refuses = rw (← e) q }

-- ---- the ways of the service

accepted_by : (w : Walked) (state row : List ℤ) → (closed_by w state row).answer ≡ accepted tt → w ≡ every_accepted
accepted_by every_accepted state row e = refl
accepted_by (refused_at n c) state row e = let z : ◌≡◌ {A = ℕ} 0 1 = cc in let b : ⊥ = omega arith in absurd b

refused_by : (w : Walked) (state row : List ℤ) (n : ℕ) → (closed_by w state row).answer ≡ refused 27 n → (c : Combination) × (w ≡ refused_at n c)
refused_by every_accepted state row n e = let z : ◌≡◌ {A = ℕ} 0 1 = cc in let b : ⊥ = omega arith in absurd b
refused_by (refused_at m c) state row n e = let q : m ≡ n = cc in (c, ap (λ (k : ℕ). refused_at k c) q)

abbrev whole_walk : List ℕ → Walked
whole_walk image = walked (scanning image) (combinations_of (shape_in image)) 0

closed_accepted : (image : List ℕ) → (closed_of image).answer ≡ accepted tt → (check_of image ≡ accepted tt) × (is_small (shape_in image) ≡ true) × (whole_walk image ≡ every_accepted)
unfolding closed_of
closed_accepted image =
    ways image _ _ (λ x. (x (closed_by (whole_walk image))).answer ≡ accepted tt → (check_of image ≡ accepted tt) × (is_small (shape_in image) ≡ true) × (whole_walk image ≡ every_accepted))
    (λ number place d e. let z : ◌≡◌ {A = ℕ} 0 1 = cc in let b : ⊥ = omega arith in absurd b) (λ sound small e. (sound, small, accepted_by (whole_walk image) _ _ e))

-- ---- exactly

module _ (image : List ℕ) (untimed : has_timer (limits_of image) ≡ false) (s : State) where
  state_within : InRangeState (shape_in image) s → Within (header_of image).ranges s
  state_within h = record { size = rw (no_times image untimed) at h.size; ranges = rw (no_times image untimed) at h.ranges }

  state_in_range_lem : Within (header_of image).ranges s → InRangeState (shape_in image) s
  state_in_range_lem h = record { size = rw (no_times image untimed) h.size; ranges = rw (no_times image untimed) h.ranges }

-- every in-range state with every in-range row is a combination
combination_of_lem : (image : List ℕ) → check_of image ≡ accepted tt → has_timer (limits_of image) ≡ false → (s : State) (row : List ℤ) → InRangeState (shape_in image) s → InRangeRow (shape_in image) row
    → record { state = s; row = row } ∈ combinations_of (shape_in image)
unfolding combinations_of
combination_of_lem image sound untimed s row w v =
    in_paired s row (combinations (header_of image).ranges) (combinations (input_ranges (shape_in image))) (combinations_complete (header_of image).ranges s (state_within image untimed s w))
    (combinations_complete (input_ranges (shape_in image)) row (row_within (header_of image).inputs (header_of image).ranges (limits_of image) untimed (inputs_among image sound) row v))

pub closed_exactly : (image : List ℕ) → ((closed_of image).answer ≡ accepted tt) ↔ Closed image
unfolding closed_of is_small
closed_exactly image = (forth, back)
  where
    forth : (closed_of image).answer ≡ accepted tt → Closed image
    forth e =
        let p = closed_accepted image e in
        let all = walked_through (scanning image) (combinations_of (shape_in image)) 0 p.2 in
        let b = and_both (not (has_timer (limits_of image))) (leb (product_of_sizes (header_of image).ranges * product_of_sizes (input_ranges (shape_in image))) 65536) p.1 in
        let untimed = not-true (has_timer (limits_of image)) b.0 in
        record {
          sound = p.0;
          untimed = untimed;
          small = leb-true _ 65536 b.1;
          accepts = λ s row w v. all_in (λ c. scanning image c ≡ accepted tt) (record { state = s; row = row }) (combinations_of (shape_in image)) all (combination_of_lem image p.0 untimed s row w v);
        }

    back : Closed image → (closed_of image).answer ≡ accepted tt
    back k =
        let small = le-leb (product_of_sizes (header_of image).ranges * product_of_sizes (input_ranges (shape_in image))) 65536 k.small in
        let all =
        all_weaker (λ c. Within (header_of image).ranges c.state × Within (input_ranges (shape_in image)) c.row) (λ c. scanning image c ≡ accepted tt) (combinations_of (shape_in image))
        (λ c w. k.accepts c.state c.row (state_in_range_lem image k.untimed c.state w.0) (row_in_range_lem (header_of image).inputs (header_of image).ranges (limits_of image) k.untimed (inputs_among image k.sound) c.row w.1)) (combinations_in image k.sound) in
        rw (k.sound, k.untimed, small, walked_all (scanning image) (combinations_of (shape_in image)) 0 all)

-- ---- runs

starts_within : (ns : List Range) → RangesFit ns → T (all_within ns (map (λ n. n.start) ns))
unfolding within
starts_within [] f = tt
starts_within (n ∷ ns) f =
    let t = f.0.2 in
    let a = and_left (is_int32 n.start && le_z n.low n.start) (le_z n.start n.high) t in
    let b = and_right (is_int32 n.start && le_z n.low n.start) (le_z n.start n.high) t in
    and_T (within n n.start) (all_within ns (map (λ m. m.start) ns)) (and_T (le_z n.low n.start) (le_z n.start n.high) (and_right (is_int32 n.start) (le_z n.low n.start) a) b) (starts_within ns f.1)

scans_accepted : (image : List ℕ) → Closed image → (rows : List (List ℤ)) (s : State) → InRangeState (shape_in image) s → InRangeRows (shape_in image) rows → AllAccepted (scans_of image s rows)
scans_accepted image k [] s w h = tt
scans_accepted image k (r ∷ rs) s w h =
    let v = scan_within image k.sound s r (record { size = w.size; ranges = w.ranges }) in
    (k.accepts s r w h.0, scans_accepted image k rs (scan_of image s r).state (record { size = v.size; ranges = v.ranges }) h.1)

-- No list of in-range rows from the fresh start ever meets a refusal.
pub closed_runs : (image : List ℕ) → Closed image → (lent : State) → length lent ≡ state_length (shape_in image) → (rows : List (List ℤ)) → InRangeRows (shape_in image) rows
    → AllAccepted (scans_of image (start_of image lent).state rows)
unfolding start_of
closed_runs image k lent e rows h =
    let ns = (header_of image).ranges in
    let w : Within ns (map (λ n. n.start) ns) = record { size = length-map ns (λ n. n.start); ranges = starts_within ns (header_fits image k.sound) } in
    rw (k.sound, no_times image k.untimed, eq-eqb (length lent) (length ns) (rw (no_times image k.untimed) at e)) (scans_accepted image k rows (map (λ n. n.start) ns) (state_in_range_lem image k.untimed (map (λ n. n.start) ns) w) h)

-- ---- the first refused scan

finished_rules : (s : State) (n : ℕ) (o : Outcome Machine) (number place : ℕ) → RefusedByRules o → (finished s n o).answer ≡ refused number place → ByRules number × (place ≡ 0)
finished_rules s n (ok (machine b c vs t)) number place h e = let z : ◌≡◌ {A = ℕ} 0 1 = cc in let b : ⊥ = omega arith in absurd b
finished_rules s n (refusal k) number place h e =
    let q : k ≡ number = cc in
    let p : 0 ≡ place = cc in
    (subst ByRules q h, sym p)

all_at : {A : Type 0} (P : A → Type 0) (l : List A) (n : ℕ) (a : A) → All P l → get_elem? l n ≡ some a → P a
all_at P [] n a h e = let z : ◌≡◌ {A = ℕ} 0 1 = cc in let b : ⊥ = omega arith in absurd b
all_at P (x ∷ l) zero a h e = let q : x ≡ a = cc in subst P q h.0
all_at P (x ∷ l) (suc n) a h e = all_at P l n a h.1 e

module _ (image : List ℕ) (sound : check_of image ≡ accepted tt) (untimed : has_timer (limits_of image) ≡ false) where
  abbrev all : List Combination
  all = combinations_of (shape_in image)

  within_at : (n : ℕ) (c : Combination) → get_elem? all n ≡ some c → Within (header_of image).ranges c.state × Within (input_ranges (shape_in image)) c.row
  within_at n c e = all_at (λ c. Within (header_of image).ranges c.state × Within (input_ranges (shape_in image)) c.row) all n c (combinations_in image sound) e

  -- a combination that is refused is refused by a rule at work
  combination_rules : (n : ℕ) (c : Combination) (number place : ℕ) → get_elem? all n ≡ some c → scanning image c ≡ refused number place → ByRules number × (place ≡ 0)
  unfolding scan_code
  combination_rules n c number place e q =
      let w = within_at n c e in
      finished_rules c.state _ (run_of image c.state c.row).last number place
      (sound_by_rules image sound c.row c.state (with_inputs c.state (take (header_of image).inputs c.row)) (length (code_of image)))
      (ap (λ (a : AfterScan). a.answer) (sym (scanning_code image sound untimed c.state c.row w.0 w.1)) ∙ q)

  all_rise : Rising values_in all
  unfolding combinations_of
  all_rise = paired_rise (combinations (header_of image).ranges) (combinations (input_ranges (shape_in image))) (combinations_rise (header_of image).ranges) (combinations_rise (input_ranges (shape_in image)))

  first_from : (n : ℕ) (c : Combination) → is_small (shape_in image) ≡ true → walked (scanning image) all 0 ≡ refused_at n c → FirstRefused image n
  unfolding closed_of
  first_from n c small e =
      let s = walked_first (scanning image) all 0 n c e in
      let at : s.at ≡ n = let q = s.count in omega arith in
      let r = combination_rules s.at c s.number s.place s.stands s.refuses in
      let w = within_at s.at c s.stands in
      record {
        combination = c;
        state_in = state_in_range_lem image untimed c.state w.0;
        row_in = row_in_range_lem (header_of image).inputs (header_of image).ranges (limits_of image) untimed (inputs_among image sound) c.row w.1;
        number = s.number;
        refuses = s.refuses ∙ ap (refused s.number) r.1;
        before = λ t row u v l. earlier_accepted (scanning image) all 0 n c (record { state = t; row = row }) all_rise e (combination_of_lem image sound untimed t row u v) l;
        stands = subst (λ (k : ℕ). get_elem? all k ≡ some c) at s.stands;
        left = rw (sound, small, e);
      }

module _ (image : List ℕ) (n : ℕ) (e : (closed_of image).answer ≡ refused 27 n) where
  parts : (check_of image ≡ accepted tt) × (is_small (shape_in image) ≡ true) × ((c : Combination) × (whole_walk image ≡ refused_at n c))
  unfolding closed_of
  parts =
      ways image _ _ (λ x. (x (closed_by (whole_walk image))).answer ≡ refused 27 n → (check_of image ≡ accepted tt) × (is_small (shape_in image) ≡ true) × ((c : Combination) × (whole_walk image ≡ refused_at n c)))
      (λ number place d q. let k : number ≡ 27 = cc in absurd (d k)) (λ sound small q. (sound, small, refused_by (whole_walk image) _ _ n q)) e

  -- there is no timer, or 26 would come first
  untimed_by : has_timer (limits_of image) ≡ false
  unfolding is_small
  untimed_by = not-true (has_timer (limits_of image)) (and_both (not (has_timer (limits_of image))) _ parts.1).0

  -- 27 names the first scan that is refused, by its place, its state and its row;
  pub closed_first : FirstRefused image n
  closed_first = first_from image parts.0 untimed_by n parts.2.0 parts.1 parts.2.1

  -- a rule at work refuses it.
  pub first_by_rules : (f : FirstRefused image n) → ByRules f.number
  first_by_rules f = (combination_rules image parts.0 untimed_by n f.combination f.number 0 f.stands f.refuses).0
