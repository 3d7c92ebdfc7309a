-- The limits of a sound image's timers: each fits, and some name is none. Document 02, A.7. Assumes nothing.
use Prim.Native.Nat.{ℕ, zero, suc, ◌≤◌, ◌<◌}
use native.Mathlib.Omega.{arith}
use mathlib.Core.Path.{◌≡◌, refl, sym, ap, ◌∙◌}
use mathlib.Core.Bool.{Bool, false, false≢true}
use mathlib.Core.List.{List, [], ◌∷◌, map}
use mathlib.Core.Option.{none}
use lib.ListN.{length, get_or, drop, replicate}
use Rattle.limits.specs.Limits.{time_limit}
use Rattle.limits.specs.Answer.{accepted}
use Rattle.semantics.specs.Shape.{is_limit, timers_of, has_timer, count_true, state_length}
use Rattle.semantics.proofs.Counted.{state_length_lem}
use Rattle.semantics.proofs.Reference.{length_known}
use Rattle.bytecode.specs.Check.{at_start, check_body, check_of}
use Rattle.bytecode.specs.Parts.{code_of, limits_of, shape_in}
use Rattle.bytecode.proofs.Soundness.{ids_of, known_inside}
use Rattle.bytecode.proofs.Walk.{check_sound}
use Rattle.bytecode.proofs.SoundHeader.{header_is}
use Rattle.bytecode.proofs.Limits.{limits_length}
use Rattle.bytecode.proofs.SoundLimits.{Watched, untimed, watched, Tabled, Limited, limited_begins, limited_next, walk_keeps}

-- ---- a sound image

none_counted : (ls : List ℕ) → has_timer ls ≡ false → count_true (map is_limit ls) ≡ 0
none_counted [] h = refl
none_counted (zero ∷ ls) h = none_counted ls h
none_counted (suc n ∷ ls) h = absurd (false≢true (sym h))

count_most : (ls : List ℕ) → count_true (map is_limit ls) ≤ length ls
count_most [] = omega arith
count_most (zero ∷ ls) = let h = count_most ls in omega arith
count_most (suc n ∷ ls) = let h = count_most ls in omega arith

count_less : (ls : List ℕ) (w : ℕ) → w < length ls → get_or ls w 0 ≡ 0 → count_true (map is_limit ls) < length ls
count_less [] w l e = let b : ⊥ = omega arith in absurd b
count_less (zero ∷ ls) w l e = let h = count_most ls in omega arith
count_less (suc n ∷ ls) zero l e = let b : ⊥ = omega arith in absurd b
count_less (suc n ∷ ls) (suc w) l e = let h = count_less ls w (omega arith) e in omega arith

module _ (bytes : List ℕ) (sound : check_of bytes ≡ accepted tt) where
  whole : (ids : List Bool) × Tabled ids (limits_of bytes)
  unfolding limits_of code_of check_body
  whole =
      let y = check_sound bytes sound in
      let h = y.header in
      let code = drop h.place bytes in
      let z = walk_keeps Limited h.ranges (limited_next h.ranges) h.place code (length code) 0 none (at_start h) (replicate (length h.ranges) 0) y.body (limited_begins (at_start h) (length h.ranges) (sym (length_known h.inputs (length h.ranges)))) in
      rw (header_is bytes y) (ids_of z.1, z.2.tabled)

  -- every limit fits
  pub limits_most : (t : ℕ) → get_or (limits_of bytes) t 0 ≤ time_limit
  limits_most = whole.1.most

  few_names : length (limits_of bytes) ≤ 64
  few_names =
      let y = check_sound bytes sound in
      let n : length (limits_of bytes) ≡ length y.header.ranges = limits_length bytes ∙ ap (λ h. length h.ranges) (header_is bytes y) in
      omega (arith, y.fits.few)

  -- some name is no timer
  pub timers_most : count_true (timers_of (shape_in bytes)) ≤ 63
  timers_most = go whole.1.watches
    where
      go : Watched whole.0 (limits_of bytes) → count_true (map is_limit (limits_of bytes)) ≤ 63
      go (untimed e) = omega (arith, none_counted (limits_of bytes) e)
      go (watched w p) = let l = known_inside whole.0 w p.is_known in let c = count_less (limits_of bytes) w (omega (arith, whole.1.size)) p.unlimited in omega (arith, few_names)

  pub state_most : state_length (shape_in bytes) ≤ 127
  state_most = omega (arith, state_length_lem (shape_in bytes), timers_most, few_names, limits_length bytes)
