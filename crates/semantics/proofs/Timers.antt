-- Where the timers of a program stand in its states: the last names, and behind all names their elapsed times. Assumes nothing.
use Prim.Native.Nat.{ℕ, zero, suc, ◌+◌, ◌-◌, ◌≤◌, ◌<◌}
use native.Mathlib.Omega.{arith}
use mathlib.Core.Path.{◌≡◌, refl, sym, ap, ◌∙◌}
use mathlib.Core.Bool.{Bool, true, false}
use mathlib.Core.List.{List, [], ◌∷◌, ◌++◌, map}
use lib.IntN.{ℤ}
use lib.ListN.{length, get_or, take, replicate, length-append, length-replicate, length-map, get_or-append}
use lib.Seq.{append_snoc, get_or-append-add, get_or_at}
use Rattle.semantics.specs.Program.{Range, no_range, range_at, Timer, Program, ranges_of, bit_range, first_timer, Numbered, EachTimer, TimerFits, TimersFit}
use Rattle.semantics.specs.Shape.{shape_of, is_limit, has_timer, timers_of, count_true, time_range, time_ranges, with_times, cells, state_length, Setting, setting_of, time_place, time_cell}

-- ---- lists of timers

pub each_map : (P Q : Timer → Type 0) → ((x : Timer) → P x → Q x) → (ts : List Timer) → EachTimer P ts → EachTimer Q ts
each_map P Q f [] h = tt
each_map P Q f (x ∷ xs) h = (f x h.0, each_map P Q f xs h.1)

pub each_both : (P Q : Timer → Type 0) (ts : List Timer) → EachTimer P ts → EachTimer Q ts → EachTimer (λ x. P x × Q x) ts
each_both P Q [] g h = tt
each_both P Q (x ∷ xs) g h = ((g.0, h.0), each_both P Q xs g.1 h.1)

pub numbered_length : (i end : ℕ) (ts : List Timer) → Numbered i end ts → i + length ts ≡ end
numbered_length i end [] h = omega arith
numbered_length i end (x ∷ xs) h = let e : suc i + length xs ≡ end = numbered_length (suc i) end xs h.1 in omega arith

-- ids are counted up
pub numbered_from : (first i end : ℕ) (ts : List Timer) → first ≤ i → Numbered i end ts → EachTimer (λ x. (first ≤ x.id) × (x.id < end)) ts
numbered_from first i end [] l h = tt
numbered_from first i end (x ∷ xs) l h =
    let e : suc i + length xs ≡ end = numbered_length (suc i) end xs h.1 in
    let d : x.id ≡ i = h.0 in
    ((omega arith, omega arith), numbered_from first (suc i) end xs (omega arith) h.1)

-- what a list has of the timers in turn, at the place of each
module _ {A : Type 0} (f : Timer → A) (d : A) (first end : ℕ) (l : List A) where
  pub at_own : (ys : List A) (i : ℕ) (ts : List Timer) → Numbered i end ts → first + length ys ≡ i → l ≡ ys ++ map f ts → EachTimer (λ x. get_or l (x.id - first) d ≡ f x) ts
  at_own ys i [] h e s = tt
  at_own ys i (x ∷ xs) h e s =
      let c : x.id ≡ i = h.0 in
      let g : length ys ≡ x.id - first = omega arith in
      let m : length (ys ++ f x ∷ []) ≡ length ys + 1 = length-append ys (f x ∷ []) in
      (rw s (get_or_at ys (f x) (map f xs) d (x.id - first) g), at_own (ys ++ f x ∷ []) (suc i) xs h.1 (omega arith) (s ∙ sym (append_snoc ys (f x) (map f xs))))

-- ---- flags and ranges

append-nil : (ns : List Range) → ns ++ [] ≡ ns
append-nil [] = refl
append-nil (n ∷ ns) = ap (λ (l : List Range). n ∷ l) (append-nil ns)

flags_none : (i : ℕ) (ls : List ℕ) → map is_limit (replicate i 0 ++ ls) ≡ replicate i false ++ map is_limit ls
flags_none zero ls = refl
flags_none (suc i) ls = ap (λ (l : List Bool). false ∷ l) (flags_none i ls)

limited_true : (n : ℕ) → 1 ≤ n → is_limit n ≡ true
limited_true zero h = let b : ⊥ = omega arith in absurd b
limited_true (suc n) h = refl

flags_timers : (ts : List Timer) → EachTimer (λ x. 1 ≤ x.limit) ts → map is_limit (map (λ x. x.limit) ts) ≡ replicate (length ts) true
flags_timers [] h = refl
flags_timers (x ∷ xs) h = let o : 1 ≤ x.limit = h.0 in rw (limited_true x.limit o, flags_timers xs h.1)

count_true_lem : (t m : ℕ) → t ≤ m → count_true (take t (replicate m true)) ≡ t
count_true_lem zero m h = refl
count_true_lem (suc t) zero h = let b : ⊥ = omega arith in absurd b
count_true_lem (suc t) (suc m) h = ap suc (count_true_lem t m (omega arith))

pub count_last : (i t m : ℕ) → i ≤ t → t ≤ i + m → count_true (take t (replicate i false ++ replicate m true)) ≡ t - i
count_last zero t m g h = count_true_lem t m (omega arith) ∙ omega arith
count_last (suc i) zero m g h = let b : ⊥ = omega arith in absurd b
count_last (suc i) (suc t) m g h = count_last i t m (omega arith) (omega arith) ∙ omega arith

times_none : (i : ℕ) (ls : List ℕ) → time_ranges (replicate i 0 ++ ls) ≡ time_ranges ls
times_none zero ls = refl
times_none (suc i) ls = times_none i ls

pub timer_behind : (i : ℕ) (ls : List ℕ) → has_timer (replicate i 0 ++ ls) ≡ has_timer ls
timer_behind zero ls = refl
timer_behind (suc i) ls = timer_behind i ls

times_cons : (n : ℕ) (ls : List ℕ) → 1 ≤ n → time_ranges (n ∷ ls) ≡ time_range n ∷ time_ranges ls
times_cons zero ls h = let b : ⊥ = omega arith in absurd b
times_cons (suc n) ls h = refl

times_timers : (ts : List Timer) → EachTimer (λ x. 1 ≤ x.limit) ts → time_ranges (map (λ x. x.limit) ts) ≡ map (λ x. time_range x.limit) ts
times_timers [] h = refl
times_timers (x ∷ xs) h = times_cons x.limit (map (λ y. y.limit) xs) h.0 ∙ ap (λ (l : List Range). time_range x.limit ∷ l) (times_timers xs h.1)

pub times_append : (ns ms : List Range) → with_times ns ms ≡ ns ++ ms
times_append ns [] = sym (append-nil ns)
times_append ns (m ∷ ms) = refl

-- ---- a timer's own cells

-- In a state of n names with timers from first on: the name t, and its elapsed time behind the names; of each timer its w.
pub record Placed (k : Setting) (n first : ℕ) (owner : ℕ → ℕ) (x : Timer) : Type 0 where
  pub after : first ≤ x.id
  pub below : x.id < n
  pub watches : x.watched < first
  pub place : time_cell k x ≡ n + (x.id - first)
  pub owned : owner x.id ≡ x.watched
  pub own : range_at k.ranges x.id ≡ bit_range
  pub time : range_at k.ranges (time_cell k x) ≡ time_range x.limit

abbrev pub owner_of : Program → ℕ → ℕ
owner_of p i = get_or (map (λ x. x.watched) p.timers) (i - first_timer p) 0

module _ (p : Program) (fit : TimersFit p) where
  limits_one : EachTimer (λ x. 1 ≤ x.limit) p.timers
  limits_one = each_map (TimerFits (ranges_of p) p.inputs (first_timer p)) (λ x. 1 ≤ x.limit) (λ x h. h.least) p.timers fit.each

  pub timer_count : first_timer p + length p.timers ≡ length (ranges_of p)
  timer_count = numbered_length (first_timer p) (length (ranges_of p)) p.timers fit.numbered

  pub flags_last : timers_of (shape_of p) ≡ replicate (first_timer p) false ++ replicate (length p.timers) true
  flags_last = flags_none (first_timer p) (map (λ x. x.limit) p.timers) ∙ ap (λ (l : List Bool). replicate (first_timer p) false ++ l) (flags_timers p.timers limits_one)

  pub place_last : (t : ℕ) → first_timer p ≤ t → t ≤ length (ranges_of p) → time_place (timers_of (shape_of p)) t ≡ length (ranges_of p) + (t - first_timer p)
  place_last t g h =
      let c = timer_count in
      rw flags_last (
      let a : length (replicate (first_timer p) false ++ replicate (length p.timers) true) ≡ length (ranges_of p) = simp (length-append, length-replicate) (omega arith) in
      rw (a, count_last (first_timer p) t (length p.timers) g (omega arith))
      )

  pub cells_last : cells (shape_of p) ≡ ranges_of p ++ map (λ x. time_range x.limit) p.timers
  cells_last =
      times_append (ranges_of p) (time_ranges (shape_of p).limits) ∙ ap (λ (l : List Range). ranges_of p ++ l) (times_none (first_timer p) (map (λ x. x.limit) p.timers) ∙ times_timers p.timers limits_one)

  pub cells_length : state_length (shape_of p) ≡ length (ranges_of p) + length p.timers
  cells_length = rw cells_last (simp (length-append, length-map))

  pub cell_name : (i : ℕ) → i < length (ranges_of p) → range_at (cells (shape_of p)) i ≡ range_at (ranges_of p) i
  cell_name i h = ap (λ (l : List Range). range_at l i) (times_append (ranges_of p) (time_ranges (shape_of p).limits)) ∙ get_or-append (ranges_of p) (time_ranges (shape_of p).limits) no_range i h

  pub placed : (row : List ℤ) → EachTimer (Placed (setting_of (shape_of p) row) (length (ranges_of p)) (first_timer p) (owner_of p)) p.timers
  placed row =
      let n = length (ranges_of p) in
      let first = first_timer p in
      let ts = p.timers in
      let A : Timer → Type 0 = λ x. (first ≤ x.id) × (x.id < n) in
      let B : Timer → Type 0 = λ x. get_or (map (λ y. y.watched) ts) (x.id - first) 0 ≡ x.watched in
      let C : Timer → Type 0 = λ x. range_at (map (λ y. time_range y.limit) ts) (x.id - first) ≡ time_range x.limit in
      let D : Timer → Type 0 = TimerFits (ranges_of p) p.inputs first in
      let a : EachTimer A ts = numbered_from first first n ts (omega arith) fit.numbered in
      let b : EachTimer B ts = at_own (λ y. y.watched) 0 first n (map (λ y. y.watched) ts) [] first ts fit.numbered (omega arith) refl in
      let c : EachTimer C ts = at_own (λ y. time_range y.limit) no_range first n (map (λ y. time_range y.limit) ts) [] first ts fit.numbered (omega arith) refl in
      each_map (λ x. A x × (B x × (C x × D x))) (Placed (setting_of (shape_of p) row) n first (owner_of p)) (λ x h. one x h.0.0 h.0.1 h.1.0 h.1.1.0 h.1.1.1) ts
      (each_both A (λ x. B x × (C x × D x)) ts a (each_both B (λ x. C x × D x) ts b (each_both C D ts c fit.each)))
    where
      one : (x : Timer) → first_timer p ≤ x.id → x.id < length (ranges_of p) → owner_of p x.id ≡ x.watched
          → range_at (map (λ y. time_range y.limit) p.timers) (x.id - first_timer p) ≡ time_range x.limit → TimerFits (ranges_of p) p.inputs (first_timer p) x
          → Placed (setting_of (shape_of p) row) (length (ranges_of p)) (first_timer p) (owner_of p) x
      one x g h b c d =
          let e : time_place (timers_of (shape_of p)) x.id ≡ length (ranges_of p) + (x.id - first_timer p) = place_last x.id g (omega arith) in
          record {
            after = g;
            below = h;
            watches = d.no_timer_lem;
            place = e;
            owned = b;
            own = cell_name x.id h ∙ d.own;
            time = rw e (rw cells_last (get_or-append-add (ranges_of p) (map (λ y. time_range y.limit) p.timers) (x.id - first_timer p) no_range ∙ c));
          }
