-- The cells of a shape counted timer by timer, as the running code does it: lengths, starts, tests, places. Assumes nothing.
use Prim.Native.Nat.{ℕ, zero, suc, ◌+◌, ◌≤◌}
use native.Mathlib.Omega.{arith}
use mathlib.Core.Path.{◌≡◌, refl, sym, ap, ◌∙◌}
use mathlib.Core.Bool.{Bool, true, false, ◌&&◌}
use mathlib.Core.List.{List, [], ◌∷◌, ◌++◌, map}
use lib.IntN.{ℤ, pos}
use lib.ListN.{length, get_or, take, drop, replicate, length-append, length-map}
use lib.Seq.{get_or-append-add}
use lib.Signed.{le_z}
use Rattle.semantics.specs.Program.{Range, no_range, range_at, within}
use Rattle.semantics.specs.Formula.{State}
use Rattle.semantics.specs.Shape.{Shape, is_limit, timers_of, count_true, time_range, time_ranges, cells, state_length, starting_state, all_within, state_in_range, time_place}
use Rattle.semantics.proofs.Timers.{times_append}

abbrev flags : List ℕ → List Bool
flags ls = map is_limit ls

-- elapsed times by timer id, each in 0..N
abbrev pub times_within : List ℕ → List ℤ → Bool
times_within [] zs = true
times_within (zero ∷ ls) zs = times_within ls zs
times_within (suc n ∷ ls) [] = true
times_within (suc n ∷ ls) (z ∷ zs) = le_z (pos 0) z && le_z z (pos (suc n)) && times_within ls zs

times_length : (ls : List ℕ) → length (time_ranges ls) ≡ count_true (flags ls)
times_length [] = refl
times_length (zero ∷ ls) = times_length ls
times_length (suc n ∷ ls) = ap suc (times_length ls)

times_start : (ls : List ℕ) → map (λ r. r.start) (time_ranges ls) ≡ replicate (count_true (flags ls)) (pos 0)
times_start [] = refl
times_start (zero ∷ ls) = times_start ls
times_start (suc n ∷ ls) = ap (λ (l : List ℤ). pos 0 ∷ l) (times_start ls)

times_within_lem : (ls : List ℕ) (zs : List ℤ) → all_within (time_ranges ls) zs ≡ times_within ls zs
unfolding within
times_within_lem [] zs = refl
times_within_lem (zero ∷ ls) zs = times_within_lem ls zs
times_within_lem (suc n ∷ ls) [] = refl
times_within_lem (suc n ∷ ls) (z ∷ zs) = rw (times_within_lem ls zs)

times_at : (ls : List ℕ) (t : ℕ) → 1 ≤ get_or ls t 0 → range_at (time_ranges ls) (count_true (take t (flags ls))) ≡ time_range (get_or ls t 0)
times_at [] t h = let b : ⊥ = omega arith in absurd b
times_at (zero ∷ ls) zero h = let b : ⊥ = omega arith in absurd b
times_at (zero ∷ ls) (suc t) h = times_at ls t h
times_at (suc n ∷ ls) zero h = refl
times_at (suc n ∷ ls) (suc t) h = times_at ls t h

and_assoc : (a b c : Bool) → (a && (b && c)) ≡ (a && b && c)
and_assoc true b c = refl
and_assoc false b c = refl

map-append : (f : Range → ℤ) (ns ms : List Range) → map f (ns ++ ms) ≡ map f ns ++ map f ms
map-append f [] ms = refl
map-append f (n ∷ ns) ms = ap (λ (l : List ℤ). f n ∷ l) (map-append f ns ms)

pub within_nil : (ns : List Range) → all_within ns [] ≡ true
within_nil [] = refl
within_nil (n ∷ ns) = refl

within_append : (ns ms : List Range) (s : State) → all_within (ns ++ ms) s ≡ (all_within ns s && all_within ms (drop (length ns) s))
within_append [] ms s = refl
within_append (n ∷ ns) ms [] = sym (within_nil ms)
within_append (n ∷ ns) ms (z ∷ zs) = rw (within_append ns ms zs) (and_assoc (within n z) (all_within ns zs) (all_within ms (drop (length ns) zs)))

module _ (k : Shape) where
  all_cells : cells k ≡ k.ranges ++ time_ranges k.limits
  all_cells = times_append k.ranges (time_ranges k.limits)

  pub state_length_lem : state_length k ≡ length k.ranges + count_true (timers_of k)
  state_length_lem = ap (λ (l : List Range). length l) all_cells ∙ length-append k.ranges (time_ranges k.limits) ∙ ap (λ (n : ℕ). length k.ranges + n) (times_length k.limits)

  pub starting_state_lem : starting_state k ≡ map (λ n. n.start) k.ranges ++ replicate (count_true (timers_of k)) (pos 0)
  starting_state_lem = ap (λ (l : List Range). map (λ n. n.start) l) all_cells ∙ map-append (λ n. n.start) k.ranges (time_ranges k.limits) ∙ ap (λ (l : List ℤ). map (λ n. n.start) k.ranges ++ l) (times_start k.limits)

  pub state_in_range_lem : (s : State) → state_in_range k s ≡ (all_within k.ranges s && times_within k.limits (drop (length k.ranges) s))
  state_in_range_lem s = ap (λ (l : List Range). all_within l s) all_cells ∙ within_append k.ranges (time_ranges k.limits) s ∙ ap (λ (b : Bool). all_within k.ranges s && b) (times_within_lem k.limits (drop (length k.ranges) s))

  -- the cell of a timer's elapsed time, wherever the timer stands
  pub cell_time : length k.limits ≡ length k.ranges → (t : ℕ) → 1 ≤ get_or k.limits t 0 → range_at (cells k) (time_place (timers_of k) t) ≡ time_range (get_or k.limits t 0)
  cell_time l t h =
      let m : length (timers_of k) ≡ length k.ranges = length-map k.limits is_limit ∙ l in
      rw (m, all_cells) (get_or-append-add k.ranges (time_ranges k.limits) (count_true (take t (timers_of k))) no_range ∙ times_at k.limits t h)
