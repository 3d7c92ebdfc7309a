-- The walk over the combinations: what the two loops of `walk` keep. Assumes nothing.
use mathlib.Core.Path.{◌≡◌, refl, sym, ◌∙◌}
use mathlib.Core.Bool.{true, false}
use mathlib.Core.List.{List, [], ◌∷◌}
use mathlib.Core.Option.{some}
use Prim.Native.Nat.{ℕ, zero, suc, ◌+◌, ◌-◌, ◌*◌, ◌/◌, ◌%◌, ◌≤◌, ◌<◌}
use native.Mathlib.Nat.{mul-le-mul, lt_of_mul-lt-mul_right, div-add-mod', mod-lt}
use native.Mathlib.Omega.{arith}
use native.Mathlib.Numerals.{add-one}
use lib.IntN.{ℤ}
use lib.ListN.{length, take, drop, get_elem?}
use Rattle.limits.specs.Answer.{Answer, accepted, refused}
use Rattle.semantics.specs.Program.{Range}
use Rattle.semantics.specs.Formula.{State}
use Rattle.machine.specs.Inner.Memory.{RangesIn}
use Rattle.closed.specs.Closed.{product_of_sizes, combinations, Combination, paired, Walked, every_accepted, refused_at, go_on, walked}
use Rattle.closed.specs.Inner.Parts.{next_of, is_refused, working, Walking, IsNth}
use Rattle.closed.proofs.Combining.{combinations_next, combinations_again, combinations_count}
use Rattle.closed.proofs.Numbering.{pair_at_lem}

abbrev Scans : Type 0
Scans = Combination → Answer (Unit {0})

-- the walk from a number on and before an end
abbrev pub ahead : Scans → List Range → List Range → ℕ → ℕ → Walked
ahead f ns is end n = walked f (take (end - n) (drop n (paired (combinations ns) (combinations is)))) n

-- before a state, the i-th, with a row of its own: what is left to walk makes the whole
pub record Outer (f : Scans) (ns is : List Range) (rows first end i done : ℕ) (state : State) (row : List ℤ) : Type 0 where
  pub state_at_lem : done < end → IsNth ns i state
  pub row_at : done < end → IsNth is (done - i * rows) row
  pub goes : ahead f ns is end first ≡ ahead f ns is end done

-- before a row with the i-th state; behind the last row, the first again
pub record Inner (f : Scans) (ns is : List Range) (rows first end i done : ℕ) (row : List ℤ) : Type 0 where
  pub row_at : done < i * rows + rows → IsNth is (done - i * rows) row
  pub again : done ≡ i * rows + rows → IsNth is 0 row
  pub goes : ahead f ns is end first ≡ ahead f ns is end done

stops : (a : Answer (Unit {0})) (more end : Walked) → true ≡ is_refused a → go_on a more end ≡ end
stops (accepted u) more end e = let z : ◌≡◌ {A = ℕ} 0 1 = cc in let b : ⊥ = omega arith in absurd b
stops (refused number place) more end e = refl

passes : (a : Answer (Unit {0})) (more end : Walked) → false ≡ is_refused a → go_on a more end ≡ more
passes (accepted u) more end e = refl
passes (refused number place) more end e = let z : ◌≡◌ {A = ℕ} 0 1 = cc in let b : ⊥ = omega arith in absurd b

pub stands_next : (ns : List Range) (i : ℕ) (s t : List ℤ) → IsNth ns i s → t ≡ next_of ns s → suc i < product_of_sizes ns → IsNth ns (suc i) t
stands_next ns i s t e q h = rw q (combinations_next ns i s e (omega (arith, combinations_count ns)))

stands_again : (ns : List Range) (i : ℕ) (s t : List ℤ) → IsNth ns i s → t ≡ next_of ns s → suc i ≡ product_of_sizes ns → IsNth ns 0 t
stands_again ns i s t e q h = rw q (combinations_again ns i s e (omega (arith, combinations_count ns)))

dropped_at : (l : List Combination) (n : ℕ) (c : Combination) → get_elem? l n ≡ some c → drop n l ≡ c ∷ drop (suc n) l
dropped_at [] n c e = let z : ◌≡◌ {A = ℕ} 0 1 = cc in let b : ⊥ = omega arith in absurd b
dropped_at (x ∷ l) zero c e = let q : x ≡ c = cc in rw q
dropped_at (x ∷ l) (suc n) c e = dropped_at l n c e

module _ (f : Scans) (ns is : List Range) (rows first end : ℕ) (e : rows ≡ product_of_sizes is) where
  -- the walk with the combination at hand
  at_hand : (i done : ℕ) (state : State) (row : List ℤ) → i * rows ≤ done → done < end → IsNth ns i state → IsNth is (done - i * rows) row
      → ahead f ns is end done ≡ go_on (f (record { state = state; row = row })) (ahead f ns is end (done + 1)) (refused_at done (record { state = state; row = row }))
  at_hand i done state row b h s r =
      let c : Combination = record { state = state; row = row } in
      let all = paired (combinations ns) (combinations is) in
      let q : end - done ≡ suc (end - (done + 1)) = omega arith in
      let m : i * length (combinations is) + (done - i * rows) ≡ done = rw (combinations_count is, ← e) (omega arith) in
      let d : drop done all ≡ c ∷ drop (suc done) all = dropped_at all done c (rw m at (pair_at_lem state row (combinations ns) (combinations is) i (done - i * rows) s r)) in
      rw (q, d, add-one done)

  pub outer_begins : (state : State) (row : List ℤ) → (first < end → IsNth ns (first / rows) state) → (first < end → IsNth is (first % rows) row) → Outer f ns is rows first end (first / rows) first state row
  outer_begins state row s r = record {
    state_at_lem = s;
    row_at = λ h. let q : first % rows ≡ first - first / rows * rows = omega (arith, div-add-mod' first rows) in rw (← q) (r h);
    goes = refl;
  }

  pub inner_begins : (i done : ℕ) (state : State) (row : List ℤ) → Outer f ns is rows first end i done state row → done < end → done < i * rows + rows → Inner f ns is rows first end i done row
  inner_begins i done state row o h k = record {
    row_at = λ l. o.row_at h;
    again = λ q. let b : ⊥ = omega arith in absurd b;
    goes = o.goes;
  }

  module _ (i done : ℕ) (state : State) (row : List ℤ) (s : IsNth ns i state) (n : Inner f ns is rows first end i done row) (b : i * rows ≤ done) (k : done < i * rows + rows) (h : done < end) where
    pub inner_stops : true ≡ is_refused (f (record { state = state; row = row })) → refused_at done (record { state = state; row = row }) ≡ ahead f ns is end first
    inner_stops r = sym (n.goes ∙ at_hand i done state row b h s (n.row_at k) ∙ stops (f (record { state = state; row = row })) _ _ r)

    pub inner_goes : (next : List ℤ) → false ≡ is_refused (f (record { state = state; row = row })) → next ≡ next_of is row → Inner f ns is rows first end i (done + 1) next
    inner_goes next r q =
        let j : done + 1 - i * rows ≡ suc (done - i * rows) = omega arith in
        record {
          row_at = λ l. rw j (stands_next is (done - i * rows) row next (n.row_at k) q (omega (arith, e)));
          again = λ l. stands_again is (done - i * rows) row next (n.row_at k) q (omega (arith, e));
          goes = n.goes ∙ at_hand i done state row b h s (n.row_at k) ∙ passes (f (record { state = state; row = row })) _ _ r;
        }

  -- the rows went round, or the end was reached
  pub inner_ends : (i done : ℕ) (state next : State) (row : List ℤ) → IsNth ns i state → Inner f ns is rows first end i done row → (done < end → done ≡ i * rows + rows) → end ≤ product_of_sizes ns * product_of_sizes is
      → next ≡ next_of ns state → Outer f ns is rows first end (i + 1) done next row
  inner_ends i done state next row s n g l q = record {
    state_at_lem = λ h. rw (add-one i) (stands_next ns i state next s q (lt_of_mul-lt-mul_right rows (more h)));
    row_at = λ h. let z : done - (i + 1) * rows ≡ 0 = omega (arith, g h) in rw z (n.again (g h));
    goes = n.goes;
  }
    where
      more : done < end → suc i * rows < product_of_sizes ns * rows
      more h = rw e (let a = (rw e at (g h)) in omega arith)

  pub outer_ends : (i done : ℕ) (state : State) (row : List ℤ) → Outer f ns is rows first end i done state row → end ≤ done → every_accepted ≡ ahead f ns is end first
  outer_ends i done state row o h = let z : end - done ≡ 0 = omega arith in sym (o.goes ∙ rw z)

-- ---- the numbers

-- the state that a number begins with
pub begins_behind : (first rows : ℕ) → 1 ≤ rows → first < first / rows * rows + rows
begins_behind first rows h = omega (arith, div-add-mod' first rows, mod-lt first h)

pub few_states : (i rows : ℕ) → 1 ≤ rows → i ≤ i * rows
few_states i rows h = let k : i * 1 ≤ i * rows = mul-le-mul {n₁ = i} {n₂ = i} (omega arith) h in omega arith

-- ---- the invariants

-- what the caller knows of the counts
abbrev pub Counted : List ℤ → List ℤ → List ℤ → List ℤ → ℕ → ℕ → (List Range → List Range → Type 0) → Type 0
Counted low high row_low row_high rows end P =
    (ns is : List Range) → RangesIn ns low high → RangesIn is row_low row_high → rows ≡ product_of_sizes is → end ≤ product_of_sizes ns * product_of_sizes is → P ns is

pub record AtState (code : List ℕ) (low high row_low row_high : List ℤ) (rows first end : ℕ) (state row work vals : List ℤ) (i done : ℕ) : Type 0 where
  pub memory : Walking low high row_low row_high state row work vals
  pub among : done ≤ end
  pub begun : done < end → i * rows ≤ done
  pub open_yet : done < end → done < i * rows + rows
  pub whole : Counted low high row_low row_high rows end λ ns is. Outer (working ns code) ns is rows first end i done state row

pub record AtRow (code : List ℕ) (low high row_low row_high : List ℤ) (rows first end stop : ℕ) (state row work vals : List ℤ) (i done : ℕ) : Type 0 where
  pub memory : Walking low high row_low row_high state row work vals
  pub among : done ≤ stop
  pub begun : i * rows ≤ done
  pub whole : Counted low high row_low row_high rows end λ ns is. Inner (working ns code) ns is rows first end i done row

-- lent memory keeps its lengths
pub walking_kept : {l h rl rh s r w v s₁ r₁ w₁ v₁ : List ℤ} → length s₁ ≡ length s → length r₁ ≡ length r → length w₁ ≡ length w → length v₁ ≡ length v
    → Walking l h rl rh s r w v → Walking l h rl rh s₁ r₁ w₁ v₁
walking_kept a b c d m = record { highs = m.highs; states = a ∙ m.states; works = c ∙ m.works; stack = d ∙ m.stack; row_highs = m.row_highs; rows = b ∙ m.rows; among = m.among }
