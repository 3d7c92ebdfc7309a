-- The test for `again` over the entries finds an earlier minute of the same day and minute exactly if there is one among all whole
-- minutes; the three values are those that document 02's sentences ask for, and no others are. Assumes nothing.
use mathlib.Core.Path.{◌≡◌, refl, sym, ap, ap₂, ◌∙◌}
use mathlib.Core.Logic.{◌⊎◌, inl, inr, ⊎_elim, ◌↔◌}
use mathlib.Core.Bool.{Bool, true, false, cond, true≢false, false≢true}
use mathlib.Core.List.{List, [], ◌∷◌}
use Prim.Native.Nat.{◌<◌}
use native.Mathlib.Omega.{arith}
use lib.Dec.{leb→le}
use lib.IntN.{ℤ, pos, negsuc, ◌+ℤ◌, ◌-ℤ◌, ◌*ℤ◌, +ℤ_comm, +ℤ_idr, +ℤ-neg_ℤ_cancel, -ℤ-+ℤ_cancel}
use lib.Signed.{le_z, lt_z, ◌≤ℤ◌, <ℤ_irrefl}
use Rattle.arith.specs.Values.{eq_z}
use Rattle.arith.proofs.Basics.{T_true, true_T, and_both, eq_z_true, eq_z_self}
use Rattle.clock.specs.Clock.{Entry, offset_from, offset_at, local_at, day_of, minute_of, Again, repeats, repeats_in, is_again, again_of, Shows}
use Rattle.clock.proofs.Entries.{local_is, again-start}
use Rattle.clock.proofs.Days.{exact, minute_least, minute_most, day_only, minute_only}

-- a local time is told by its day and minute
same_local : (a b : ℤ) → day_of a ≡ day_of b → minute_of a ≡ minute_of b → a ≡ b
same_local a b d m = sym (exact a) ∙ (ap₂ (λ (x y : ℤ). pos 1440 *ℤ x +ℤ y) d m ∙ exact b)

either : (b r : Bool) → (b ≡ true) ⊎ (r ≡ true) → cond b true r ≡ true
either true r e = refl
either false r (inl e) = absurd (false≢true e)
either false r (inr e) = e

which : (b r : Bool) → cond b true r ≡ true → (b ≡ true) ⊎ (r ≡ true)
which true r e = inl refl
which false r e = inr e

module _ (t : List Entry) (u : ℤ) where
  -- ---- what the test finds is an earlier minute of the same day and minute
  found : (o v : ℤ) → v ≡ local_at t u -ℤ o → lt_z v u ≡ true → eq_z (offset_at t v) o ≡ true → Again t u
  found o v e l q =
      let f : offset_at t v ≡ o = eq_z_true (offset_at t v) o q in
      let s : local_at t v ≡ local_at t u = local_is t v ∙ (ap₂ ◌+ℤ◌ e f ∙ -ℤ-+ℤ_cancel (local_at t u) o) in
      record { earlier = v; before = record { lt = true_T (lt_z v u) l }; same_day = ap day_of s; same_minute = ap minute_of s }

  found_under : (o : ℤ) → repeats t u o ≡ true → Again t u
  found_under o e =
      let b = and_both (lt_z (local_at t u -ℤ o) u) (eq_z (offset_at t (local_at t u -ℤ o)) o) e in
      found o (local_at t u -ℤ o) refl b.0 b.1

  found_in : (l : List Entry) → repeats_in t u l ≡ true → Again t u
  unfolding repeats_in
  found_in [] e = absurd (false≢true e)
  found_in (x ∷ l) e = ⊎_elim (found_under x.offset) (found_in l) (which (repeats t u x.offset) (repeats_in t u l) e)

  -- ---- and it finds one if there is any: the offset in force there is an entry's
  under : (v o : ℤ) → offset_at t v ≡ o → lt_z v u ≡ true → local_at t v ≡ local_at t u → repeats t u o ≡ true
  under v o f l s =
      let e : local_at t u -ℤ o ≡ v = ap (λ (z : ℤ). z -ℤ o) (sym s ∙ (local_is t v ∙ ap (λ (z : ℤ). v +ℤ z) f)) ∙ +ℤ-neg_ℤ_cancel v o in
      rw (e, l, f) (eq_z_self o)

  -- the offset in force is the one held before the entries, or an entry's
  among : (l : List Entry) (held v : ℤ) → repeats t u (offset_from held l v) ≡ true → (repeats t u held ≡ true) ⊎ (repeats_in t u l ≡ true)
  unfolding offset_from repeats_in
  among [] held v e = inl e
  among (x ∷ l) held v e = go (le_z x.minute v) (among l (cond (le_z x.minute v) x.offset held) v e)
    where
      go : (b : Bool) → (repeats t u (cond b x.offset held) ≡ true) ⊎ (repeats_in t u l ≡ true) → (repeats t u held ≡ true) ⊎ (cond (repeats t u x.offset) true (repeats_in t u l) ≡ true)
      go true (inl h) = inr (either (repeats t u x.offset) (repeats_in t u l) (inl h))
      go false (inl h) = inl h
      go b (inr h) = inr (either (repeats t u x.offset) (repeats_in t u l) (inr h))

-- a table without entries shifts nothing
unshifted : (u : ℤ) → repeats [] u (pos 0) ≡ true → ⊥
unfolding local_at offset_at offset_from
unshifted u e =
    let s : u +ℤ pos 0 +ℤ pos 0 ≡ u = +ℤ_idr (u +ℤ pos 0) ∙ +ℤ_idr u in
    let l : lt_z (u +ℤ pos 0 +ℤ pos 0) u ≡ true = (and_both (lt_z (u +ℤ pos 0 +ℤ pos 0) u) _ e).0 in
    <ℤ_irrefl {a = u} (record { lt = true_T (lt_z u u) (rw s at l) })

no_entries : (v : ℤ) → offset_at [] v ≡ pos 0
unfolding offset_at offset_from
no_entries v = refl

-- with the first entry's offset held before, all of them
among-entries : (x : Entry) (t : List Entry) (u v : ℤ) → repeats (x ∷ t) u (offset_at (x ∷ t) v) ≡ true → (repeats (x ∷ t) u x.offset ≡ true) ⊎ (repeats_in (x ∷ t) u (x ∷ t) ≡ true)
unfolding offset_at
among-entries x t u v e = among (x ∷ t) u (x ∷ t) x.offset v e

in_first : (x : Entry) (t : List Entry) (u : ℤ) → repeats (x ∷ t) u x.offset ≡ true → repeats_in (x ∷ t) u (x ∷ t) ≡ true
unfolding repeats_in
in_first x t u h = either (repeats (x ∷ t) u x.offset) (repeats_in (x ∷ t) u t) (inl h)

among_all : (t : List Entry) (u v : ℤ) → repeats t u (offset_at t v) ≡ true → is_again t u ≡ true
among_all [] u v e = absurd (unshifted u (rw (no_entries v) at e))
among_all (x ∷ t) u v e = sym (again-start (x ∷ t) u) ∙ ⊎_elim (in_first x t u) (λ h. h) (among-entries x t u v e)

pub again_exactly : (t : List Entry) (u : ℤ) → (is_again t u ≡ true) ↔ Again t u
again_exactly t u = (again_found, any_found)
  where
    any_found : Again t u → is_again t u ≡ true
    any_found a =
        let v = a.earlier in
        among_all t u v (under t u v (offset_at t v) refl (T_true (lt_z v u) a.before.lt) (same_local _ _ a.same_day a.same_minute))

    again_found : is_again t u ≡ true → Again t u
    again_found e = found_in t u t (again-start t u ∙ e)

-- ---- the values filled are those that the document asks for

pub shown : (t : List Entry) (u : ℤ) → Shows t u (day_of (local_at t u)) (minute_of (local_at t u)) (again_of t u)
shown t u = record {
  exactly = +ℤ_comm (offset_at t u) u ∙ (sym (local_is t u) ∙ sym (exact (local_at t u)));
  least = minute_least (local_at t u);
  most = minute_most (local_at t u);
  repeated = λ a. ap (λ (b : Bool). cond b (pos 1) (pos 0)) ((again_exactly t u).1 a);
  new = λ n. go (is_again t u) refl n;
}
  where
    go : (b : Bool) → is_again t u ≡ b → (Again t u → ⊥) → cond b (pos 1) (pos 0) ≡ pos 0
    go true e n = absurd (n ((again_exactly t u).0 e))
    go false e n = refl

-- and no others are
module _ (t : List Entry) (u : ℤ) where
  split : (d m : ℤ) → local_at t u ≡ pos 1440 *ℤ d +ℤ m → pos 0 ≤ℤ m → m ≤ℤ pos 1439 → (d ≡ day_of (local_at t u)) × (m ≡ minute_of (local_at t u))
  split d (pos m) e least most =
      let h : m < 1440 = omega (arith, leb→le m 1439 most.le) in
      (sym (ap day_of e ∙ day_only d m h), sym (ap minute_of e ∙ minute_only d m h))
  split d (negsuc m) e least most = absurd least.le

  pub shown_only : (day minute again : ℤ) → Shows t u day minute again → (day ≡ day_of (local_at t u)) × (minute ≡ minute_of (local_at t u)) × (again ≡ again_of t u)
  shown_only day minute again s =
      let p = split day minute (local_is t u ∙ (+ℤ_comm u (offset_at t u) ∙ s.exactly)) s.least s.most in
      (p.0, p.1, go (is_again t u) refl)
    where
      go : (b : Bool) → is_again t u ≡ b → again ≡ cond b (pos 1) (pos 0)
      go true e = s.repeated ((again_exactly t u).0 e)
      go false e = s.new (λ a. true≢false (sym ((again_exactly t u).1 a) ∙ e))
