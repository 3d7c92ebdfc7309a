-- Visits to the sets of a table, one after the other. Assumes nothing.
use Prim.Native.Nat.{ℕ, suc, ◌+◌, ◌-◌, ◌≤◌, min}
use native.Mathlib.Omega.{arith}
use mathlib.Core.Path.{◌≡◌, sym, ap, ◌∙◌}
use mathlib.Core.List.{List, [], ◌∷◌, ◌++◌, append-nil}
use lib.IntN.{ℤ}
use lib.ListN.{length, get_or, take, drop, set, length-append, length-take, length-drop, drop_of_length-le}
use lib.Seq.{sets, take_all, take-length, take-append_seam, drop-append_seam}
use borrow.Rule.Slice.PartMut.{mid_of, post_of, put_mid}
use Rattle.limits.specs.Limits.{paused_length}
use Rattle.semantics.specs.Formula.{State}
use Rattle.paused.specs.declared.Response.{Response}
use Rattle.paused.specs.Responses.{packed_response}
use Rattle.lifecycle.specs.Calls.{after_finish}
use Rattle.leb128.proofs.Stores.{take_clip, drop_clip}
use Rattle.rounds.specs.Visits.{visit_of, round_from}
use Rattle.rounds.specs.Together.{answers_of, Together, together, visits_of}

-- ---- the table

-- the first set, then the others
pub turned : (table images : List ℕ) (paused states : List ℤ) (answers : List ℕ) (i : ℕ) → 3 ≤ length table
    → (r : Response) (cells : List ℤ) (s : State)
    → after_finish r cells s ≡ visit_of (take (get_or table 0 0) images) (get_or table 2 0) (take paused_length paused) (take (get_or table 1 0) states)
    → (p t : List ℤ) (a : List ℕ)
    → together p t a ≡ visits_of (drop 3 table) (drop (get_or table 0 0) images) (i + 1) (together (drop paused_length paused) (drop (get_or table 1 0) states) (set answers i (packed_response r)))
    → together (cells ++ p) (s ++ t) a ≡ visits_of table images i (together paused states answers)
turned [] images paused states answers i h r cells s e p t a q = let f : ⊥ = omega arith in absurd f
turned (x ∷ []) images paused states answers i h r cells s e p t a q = let f : ⊥ = omega arith in absurd f
turned (x ∷ (y ∷ [])) images paused states answers i h r cells s e p t a q = let f : ⊥ = omega arith in absurd f
turned (x ∷ (y ∷ (z ∷ table))) images paused states answers i h r cells s e p t a q =
    let m = round_from table (drop x images) (drop paused_length paused) (drop y states) in
    let j : i + 1 ≡ suc i = omega arith in
    rw (← e) (ap (λ (o : Together). together (cells ++ o.paused) (s ++ o.states) o.answers) q ∙ ap (λ (n : ℕ). together (cells ++ m.paused) (s ++ m.states) (sets (set answers i (packed_response r)) n (answers_of m.replies))) j)

-- ---- parts of lent memory: the first p were changed to vs, then the rest to ys

module _ (p : ℕ) (l vs : List ℤ) (e : length vs ≡ p) where
  left_long : length (vs ++ drop p l) - p ≡ length (drop p l)
  left_long = simp length-append (omega arith)

  pub rest_of : mid_of p (length (vs ++ drop p l) - p) (vs ++ drop p l) ≡ drop p l
  rest_of =
      let q : drop p (vs ++ drop p l) ≡ drop p l = ap (λ (n : ℕ). drop n (vs ++ drop p l)) (sym e) ∙ drop-append_seam vs (drop p l) in
      rw (q, left_long) (take-length (drop p l))

  pub rejoined : (ys : List ℤ) → put_mid p (length (vs ++ drop p l) - p) (vs ++ drop p l) ys ≡ vs ++ ys
  rejoined ys =
      let q : take p (vs ++ drop p l) ≡ vs = ap (λ (n : ℕ). take n (vs ++ drop p l)) (sym e) ∙ take-append_seam vs (drop p l) in
      let z : post_of p (length (vs ++ drop p l) - p) (vs ++ drop p l) ≡ [] =
      drop_of_length-le (drop p (vs ++ drop p l)) {i = length (vs ++ drop p l) - p} (omega (arith, length-drop p (vs ++ drop p l))) in
      rw (q, z) (ap (λ (x : List ℤ). vs ++ x) (append-nil ys))

module _ (table images : List ℕ) (paused states : List ℤ) (answers : List ℕ) (i : ℕ) (h : 3 ≤ length table) (p b n : ℕ) (ep : p ≡ min paused_length (length paused))
    (eb : b ≡ min (get_or table 0 0) (length images)) (en : n ≡ min (get_or table 1 0) (length states)) where
  pub turned_in : (r : Response) (vs s : List ℤ) → after_finish r vs s ≡ visit_of (take b images) (get_or table 2 0) (take p paused) (take n states)
      → length vs ≡ length (take p paused) → length s ≡ length (take n states)
      → (kept : List ℕ) → kept ≡ set answers i (packed_response r)
      → (ys ts : List ℤ) (a : List ℕ)
      → together ys ts a ≡ visits_of (take (length table - 3) (drop 3 table)) (take (length images - b) (drop b images)) (i + 1)
      (together (mid_of p (length (vs ++ drop p paused) - p) (vs ++ drop p paused)) (mid_of n (length (s ++ drop n states) - n) (s ++ drop n states)) kept)
      → together (put_mid p (length (vs ++ drop p paused) - p) (vs ++ drop p paused) ys) (put_mid n (length (s ++ drop n states) - n) (s ++ drop n states) ts) a
      ≡ visits_of table images i (together paused states answers)
  turned_in r vs s e lv ls kept k ys ts a q =
      let pl : length vs ≡ p = omega (arith, lv, length-take p paused) in
      let nl : length s ≡ n = omega (arith, ls, length-take n states) in
      let v : after_finish r vs s ≡ visit_of (take (get_or table 0 0) images) (get_or table 2 0) (take paused_length paused) (take (get_or table 1 0) states) =
      e ∙ rw (ep, eb, en, take_clip paused_length paused, take_clip (get_or table 0 0) images, take_clip (get_or table 1 0) states) in
      let tb : take (length table - 3) (drop 3 table) ≡ drop 3 table = take_all (length table - 3) (drop 3 table) (simp length-drop (omega arith)) in
      let ib : take (length images - b) (drop b images) ≡ drop (get_or table 0 0) images =
      take_all (length images - b) (drop b images) (simp length-drop (omega arith)) ∙ ap (λ (m : ℕ). drop m images) eb ∙ drop_clip (get_or table 0 0) images in
      let pb : mid_of p (length (vs ++ drop p paused) - p) (vs ++ drop p paused) ≡ drop paused_length paused = rest_of p paused vs pl ∙ ap (λ (m : ℕ). drop m paused) ep ∙ drop_clip paused_length paused in
      let sb : mid_of n (length (s ++ drop n states) - n) (s ++ drop n states) ≡ drop (get_or table 1 0) states = rest_of n states s nl ∙ ap (λ (m : ℕ). drop m states) en ∙ drop_clip (get_or table 1 0) states in
      rw (rejoined p paused vs pl ys, rejoined n states s nl ts) (turned table images paused states answers i h r vs s v ys ts a (rw (tb, ib, pb, sb, k) at q))
