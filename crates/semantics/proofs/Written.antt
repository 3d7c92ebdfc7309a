-- The trace that the reference scan finds satisfies a pair's formulas as they are written, `v > _v -> cases` and `v < _v -> cases`, too
-- (document 02, A.6). They have no unique trace: an unchanged value satisfies both. Assumes nothing.
use Prim.Native.Nat.{ℕ, zero, suc}
use native.Mathlib.Omega.{arith}
use mathlib.Core.Path.{◌≡◌, refl, sym}
use mathlib.Core.Bool.{Bool, true, false, cond, true≢false, or-true, or-false}
use mathlib.Core.List.{List, [], ◌∷◌, ◌++◌}
use mathlib.Core.Logic.{◌⊎◌, inl, inr}
use mathlib.Core.Option.{Option, none, some}
use lib.IntN.{ℤ, pos, negsuc}
use lib.ListN.{replicate}
use lib.Signed.{le_z, lt_z}
use borrow.Author.Tests.{le-ltb, leb-false, not-true}
use Rattle.arith.specs.Values.{Outcome, ok, refusal, ◌>>=◌, eq_z}
use Rattle.arith.proofs.Basics.{eq_z_self, ok≢refusal, ok_inj, Bound, bound, unbind, bind_assoc}
use Rattle.semantics.specs.Program.{Program, Range, Side, changing, rising, falling, Case, Rule, function, change, target, Sided, all_changing_lem, up_then_down, sides, SidedR, SidedAll, AgreesR, AgreesAll, WellFormed}
use Rattle.semantics.specs.Formula.{State, at, eval_e, eval_c, any_case, formulas_of_rule, same_side, of_side, rising_formula, falling_formula, all_changing, written_of_rule, written_of_rules, written_of, Holds, GX, All}
use Rattle.semantics.specs.Shape.{shape_of, cells}
use Rattle.semantics.specs.ReferenceScan.{moves, picked, try_case, try_cases, or_previous, new_value, reference_scan}
use Rattle.semantics.specs.Rows.{reply, reference_replies, accepted_states, trace_of, InRanges}
use Rattle.semantics.proofs.Unique.{NewAll, HoldsRule, rule_holds, picked_is}
use Rattle.semantics.proofs.Reference.{reference_next, all_append, all_start, all_cons}

-- ---- order

-- what is not at or below is not below
not_below : (a b : ℤ) → le_z a b ≡ false → lt_z a b ≡ false
not_below (pos a) (pos b) e = le-ltb a b (omega (arith, leb-false a b e))
not_below (pos a) (negsuc b) e = refl
not_below (negsuc a) (pos b) e = absurd (true≢false e)
not_below (negsuc a) (negsuc b) e = le-ltb b a (omega (arith, leb-false b a e))

lt_self : (a : ℤ) → lt_z a a ≡ false
lt_self (pos a) = le-ltb a a (omega arith)
lt_self (negsuc a) = le-ltb a a (omega arith)

-- ---- the sides of a rule that is a pair

-- no case that only changes
abbrev Turning : Side → Type 0
Turning changing = ⊥
Turning rising = Unit {0}
Turning falling = Unit {0}

abbrev Turns : List Side → Type 0
Turns [] = Unit {0}
Turns (x ∷ xs) = Turning x × Turns xs

still : (n : ℕ) → all_changing (replicate n changing) ≡ true
still zero = refl
still (suc n) = still n

downs : (m : ℕ) → Turns (replicate m falling)
downs zero = tt
downs (suc m) = (tt, downs m)

ups : (n m : ℕ) → Turns (replicate n rising ++ replicate m falling)
ups zero m = downs m
ups (suc n) m = (tt, ups n m)

plain_or_pair : (l : List Side) → Sided l → (all_changing l ≡ true) ⊎ ((all_changing l ≡ false) × Turns l)
plain_or_pair l (all_changing_lem n) = inl (still (suc n))
plain_or_pair l (up_then_down n m) = inr (refl, ups (suc n) (suc m))

-- ---- the cases of each side

module _ (ns : List Range) (s t : State) (v : ℕ) where
  -- a case whose condition is false
  part_passed : (b : Bool) (k : Case) (ks : List Case) (y : Bool) → eval_c s t k.condition ≡ ok false → any_case v ks s t ≡ ok y → any_case v (cond b (k ∷ ks) ks) s t ≡ ok y
  part_passed true k ks y p e = rw (p, e)
  part_passed false k ks y p e = e

  -- after a case that held no further one does
  part_quiet : (side : Side) (ks : List Case) (y : ℤ) (f : Option ℤ) → try_cases ns s t v (some y) ks ≡ ok f → any_case v (of_side side ks) s t ≡ ok false
  part_quiet side [] y f e = refl
  part_quiet side (k ∷ ks) y f e = go (λ q. part_quiet side ks y f q) (unbind (eval_c s t k.condition) _ f e)
    where
      go : (try_cases ns s t v (some y) ks ≡ ok f → any_case v (of_side side ks) s t ≡ ok false)
          → Bound (eval_c s t k.condition) (λ c. try_case ns s t v (some y) k.side k.value c >>= λ g. try_cases ns s t v g ks) f → any_case v (of_side side (k ∷ ks)) s t ≡ ok false
      go ih (bound true p q) = ok≢refusal f 15 (sym q)
      go ih (bound false p q) = part_passed (same_side side k.side) k (of_side side ks) false p (ih q)

  -- what the cases of each side come to
  data Parts (ks : List Case) : Option ℤ → Type 0 where
    none_held_lem : ((side : Side) → any_case v (of_side side ks) s t ≡ ok false) → Parts ks none
    one_held_lem : (z : ℤ) (side : Side) → (Turns (sides ks) → Turning side) → moves side (at s v) z ≡ true → any_case v (of_side side ks) s t ≡ ok (eq_z (at t v) z)
        → ((other : Side) → (b : Bool) × (any_case v (of_side other ks) s t ≡ ok b)) → Parts ks (some z)

  parts_passed : (k : Case) (ks : List Case) (f : Option ℤ) → eval_c s t k.condition ≡ ok false → Parts ks f → Parts (k ∷ ks) f
  parts_passed k ks f p (none_held_lem h) = none_held_lem λ side. part_passed (same_side side k.side) k (of_side side ks) false p (h side)
  parts_passed k ks f p (one_held_lem z side among m e h) =
      one_held_lem z side (λ w. among w.1) m (part_passed (same_side side k.side) k (of_side side ks) _ p e)
      λ other. let x = h other in (x.0, part_passed (same_side other k.side) k (of_side other ks) x.0 p x.1)

  same_side_lem : (side : Side) → same_side side side ≡ true
  same_side_lem changing = refl
  same_side_lem rising = refl
  same_side_lem falling = refl

  -- the case that held, of any side
  part_held : (b : Bool) (k : Case) (ks : List Case) (x : ℤ) → eval_c s t k.condition ≡ ok true → eval_e s t k.value ≡ ok x → any_case v ks s t ≡ ok false
      → (y : Bool) × (any_case v (cond b (k ∷ ks) ks) s t ≡ ok y)
  part_held true k ks x p q e = (eq_z (at t v) x, rw (p, q, e, or-false))
  part_held false k ks x p q e = (false, e)

  parts_held : (k : Case) (ks : List Case) (x z : ℤ) (f : Option ℤ) → eval_c s t k.condition ≡ ok true → eval_e s t k.value ≡ ok x → picked k.side ns s v x ≡ ok z
      → try_cases ns s t v (some z) ks ≡ ok f → f ≡ some z → Parts (k ∷ ks) f
  parts_held k ks x z f p q w r e =
      let d = picked_is ns s t v k.side x z w in
      rw e (one_held_lem z k.side (λ h. h.0) d.1
      (rw (same_side_lem k.side, p, q, part_quiet k.side ks z f r, or-false) (rw d.0))
      λ other. part_held (same_side other k.side) k (of_side other ks) x p q (part_quiet other ks z f r))

  -- the first value found stays
  pub found_stays : (ks : List Case) (y : ℤ) (f : Option ℤ) → try_cases ns s t v (some y) ks ≡ ok f → f ≡ some y
  found_stays [] y f e = sym (ok_inj e)
  found_stays (k ∷ ks) y f e = go (λ q. found_stays ks y f q) (unbind (eval_c s t k.condition) _ f e)
    where
      go : (try_cases ns s t v (some y) ks ≡ ok f → f ≡ some y)
          → Bound (eval_c s t k.condition) (λ c. try_case ns s t v (some y) k.side k.value c >>= λ g. try_cases ns s t v g ks) f → f ≡ some y
      go ih (bound true p q) = ok≢refusal f 15 (sym q)
      go ih (bound false p q) = ih q

  parts : (ks : List Case) (f : Option ℤ) → try_cases ns s t v none ks ≡ ok f → Parts ks f
  parts [] f e = rw (← ok_inj e) (none_held_lem λ side. refl)
  parts (k ∷ ks) f e = go (λ q. parts ks f q) (unbind (eval_c s t k.condition) _ f e)
    where
      go₂ : (x : ℤ) → eval_c s t k.condition ≡ ok true → eval_e s t k.value ≡ ok x → Bound (picked k.side ns s v x) (λ z. try_cases ns s t v (some z) ks) f → Parts (k ∷ ks) f
      go₂ x p q₁ (bound z q₂ q₃) = parts_held k ks x z f p q₁ q₂ q₃ (found_stays ks z f q₃)

      go₁ : eval_c s t k.condition ≡ ok true → Bound (eval_e s t k.value) (λ x. picked k.side ns s v x >>= (λ z. ok (some z)) >>= λ g. try_cases ns s t v g ks) f → Parts (k ∷ ks) f
      go₁ p (bound x q₁ q₂) = go₂ x p q₁ (unbind (picked k.side ns s v x) _ f (rw bind_assoc at q₂))

      go : (try_cases ns s t v none ks ≡ ok f → Parts ks f)
          → Bound (eval_c s t k.condition) (λ c. try_case ns s t v none k.side k.value c >>= λ g. try_cases ns s t v g ks) f → Parts (k ∷ ks) f
      go ih (bound false p q) = parts_passed k ks f p (ih q)
      go ih (bound true p q) = go₁ p (unbind (eval_e s t k.value) _ f (rw bind_assoc at q))

-- ---- a rule, and all

abbrev HoldsWritten : State → State → Rule → Type 0
HoldsWritten s t r = All (λ f. Holds f s t) (written_of_rule r)

module _ (ns : List Range) (s t : State) where
  pair_holds : (v : ℕ) (ks : List Case) (f : Option ℤ) → Turns (sides ks) → Parts ns s t v ks f → at t v ≡ or_previous s v f
      → All (λ g. Holds g s t) (rising_formula v (of_side rising ks) ∷ falling_formula v (of_side falling ks) ∷ [])
  unfolding rising_formula falling_formula moves
  pair_holds v ks f turns (none_held_lem h) e = (rw (h rising, e, lt_self), (rw (h falling, e, lt_self), tt))
  pair_holds v ks f turns (one_held_lem z changing among m w h) e = absurd (among turns)
  pair_holds v ks f turns (one_held_lem z rising among m w h) e =
      let d : lt_z z (at s v) ≡ false = not_below z (at s v) (not-true _ m) in
      (rw (w, e, eq_z_self, or-true), (rw ((h falling).1, e, d), tt))
  pair_holds v ks f turns (one_held_lem z falling among m w h) e =
      let d : lt_z (at s v) z ≡ false = not_below (at s v) z (not-true _ m) in
      (rw ((h rising).1, e, d), (rw (w, e, eq_z_self, or-true), tt))

  rule_written : (r : Rule) → AgreesR r → SidedR r → new_value ns s t r ≡ ok (at t (target r)) → HoldsWritten s t r
  unfolding HoldsRule formulas_of_rule written_of_rule new_value
  rule_written (function v e) same sided h = rule_holds ns s t (function v e) (at t v) same h refl
  rule_written (change v ks cs) same sided h = go (plain_or_pair (sides ks) sided)
    where
      pair : Turns (sides ks) → Bound (try_cases ns s t v none ks) (λ f. ok (or_previous s v f)) (at t v) → All (λ g. Holds g s t) (rising_formula v (of_side rising ks) ∷ falling_formula v (of_side falling ks) ∷ [])
      pair turns (bound f p q) = pair_holds v ks f turns (parts ns s t v ks f p) (sym (ok_inj q))

      go : (all_changing (sides ks) ≡ true) ⊎ ((all_changing (sides ks) ≡ false) × Turns (sides ks)) → HoldsWritten s t (change v ks cs)
      go (inl e) = rw e (rule_holds ns s t (change v ks cs) (at t v) same h refl)
      go (inr e) = rw e.0 (pair e.1 (unbind (try_cases ns s t v none ks) _ (at t v) h))

  rules_written : (rs : List Rule) → AgreesAll rs → SidedAll rs → NewAll ns s t rs → All (λ f. Holds f s t) (written_of_rules rs)
  rules_written [] same sided h = tt
  rules_written (r ∷ rs) same sided h =
      all_append (λ f. Holds f s t) (written_of_rule r) (written_of_rules rs) (rule_written r same.0 sided.0 h.0) (rules_written rs same.1 sided.1 h.1)

-- the trace that the reference scan finds from s on satisfies every formula as it is written
pub written_trace : (p : Program) → WellFormed p → (rows : List (List ℤ)) (s : State) → InRanges p s → All (λ f. GX f (trace_of s (reference_replies p s rows))) (written_of p)
written_trace p wf [] s g = all_start s (written_of p)
written_trace p wf (r ∷ rs) s g = go (reference_scan p s r) refl (λ t h. written_trace p wf rs t h) (written_trace p wf rs s g)
  where
    go : (o : Outcome State) → reference_scan p s r ≡ o → ((t : State) → InRanges p t → All (λ f. GX f (trace_of t (reference_replies p t rs))) (written_of p)) → All (λ f. GX f (trace_of s (reference_replies p s rs))) (written_of p)
        → All (λ f. GX f (trace_of s (reply s o ∷ reference_replies p (reply s o).state rs))) (written_of p)
    go (ok t) e ih c =
        let x = reference_next p wf s g r t e in
        all_cons s t (accepted_states (reference_replies p t rs)) (written_of p) (rules_written (cells (shape_of p)) s t p.rules wf.agrees wf.sided x.new) (ih t x.kept)
    go (refusal k) e ih c = c
