-- The walk over tokens that finds 21's place, and the walk over the names declared, as the code goes them. Assumes nothing.
use Prim.Native.Nat.{ℕ, suc, ◌+◌, ◌-◌, ◌≤◌, ◌<◌}
use native.Mathlib.Numerals.{add-one}
use native.Mathlib.Omega.{arith}
use mathlib.Core.Path.{◌≡◌, refl, ap, ◌∙◌}
use mathlib.Core.Bool.{Bool, true, false, ◌&&◌}
use mathlib.Core.List.{List, [], ◌∷◌}
use lib.ListN.{length, get_or, drop, drop_of_length-le}
use lib.Seq.{drop-cons}
use Rattle.lexer.specs.Bytes.{part}
use Rattle.lexer.specs.Token.{Kind, ending, is, token, fault}
use Rattle.lexer.specs.Lexer.{token_at}
use Rattle.lexer.specs.Names.{table_names, Table}
use Rattle.semantics.specs.Program.{Timer}
use Rattle.expressions.proofs.Scopes.{names_counted}
use Rattle.st_program.specs.Written.{is_st_word, none_st_word, no_timer}
use Rattle.st_writer.proofs.Laws.{name_at_lem}
use Rattle.structured_text.specs.Services.{declares_name, is_outside, reserved_from, reserved_place}

-- ---- tokens

-- what is left to walk finds the place
pub record Walking (text : List ℕ) (named : Bool) (at : ℕ) : Type 0 where
  pub fuel : ℕ
  pub enough : length text < at + fuel
  pub inside : at ≤ length text
  pub whole : reserved_from fuel text named at ≡ reserved_place text

pub walking : (text : List ℕ) → Walking text false 0
unfolding reserved_place
walking text = record { fuel = suc (length text); enough = omega arith; inside = omega arith; whole = refl }

module _ {text : List ℕ} {named : Bool} {at : ℕ} (w : Walking text named at) where
  step : reserved_from (suc (w.fuel - 1)) text named at ≡ reserved_place text
  step = let some : suc (w.fuel - 1) ≡ w.fuel = omega (arith, w.enough, w.inside) in ap (λ (f : ℕ). reserved_from f text named at) some ∙ w.whole

  pub walk_fault : (q : ℕ) → token_at text at ≡ fault q → 0 ≡ reserved_place text
  unfolding reserved_from
  walk_fault q t = rw t at step

  module _ (k : Kind) (s n : ℕ) (t : token_at text at ≡ token k s n) where
    pub walk_end : is k ending ≡ true → 0 ≡ reserved_place text
    unfolding reserved_from
    walk_end e = rw (t, e) at step

    module _ (e : is k ending ≡ false) where
      pub walk_here : is_outside k named (part text s n) ≡ true → s ≡ reserved_place text
      unfolding reserved_from
      walk_here h = rw (t, e, h) at step

      pub walk_next : is_outside k named (part text s n) ≡ false → at < n → n ≤ length text → Walking text (declares_name k) n
      unfolding reserved_from
      walk_next h l i = record { fuel = w.fuel - 1; enough = omega (arith, w.enough, w.inside); inside = i; whole = rw (t, e, h) at step }

-- ---- names

module _ (text : List ℕ) {starts ends : List ℕ} {n : ℕ} (t : Table starts ends n) (i : ℕ) where
  abbrev names : List (List ℕ)
  names = table_names text starts ends n

  names_from : i < n → drop i names ≡ part text (get_or starts i 0) (get_or ends i 0) ∷ drop (i + 1) names
  names_from h =
      let l : i < length names = omega (arith, names_counted text starts ends n t) in
      drop-cons names i [] l ∙ rw (add-one i, name_at_lem text starts ends n i t h)

  pub none_here : i < n → is_st_word (part text (get_or starts i 0) (get_or ends i 0)) ≡ true → false ≡ none_st_word (drop i names)
  none_here h e = rw (names_from h, e)

  pub none_next : i < n → is_st_word (part text (get_or starts i 0) (get_or ends i 0)) ≡ false → none_st_word (drop (i + 1) names) ≡ none_st_word (drop i names)
  none_next h e = rw (names_from h, e)

  pub none_left_lem : n ≤ i → true ≡ none_st_word (drop i names)
  none_left_lem h = let l : length names ≤ i = omega (arith, names_counted text starts ends n t) in rw (drop_of_length-le names l)

-- ---- timers, by how many there are

pub timed_lacks : (ts : List Timer) {n : ℕ} (b : Bool) → (n ≡ 0 → ⊥) → n ≡ length ts → false ≡ (no_timer ts && b)
timed_lacks [] b f e = absurd (f e)
timed_lacks (x ∷ xs) b f e = refl

pub untimed_has : (ts : List Timer) {n : ℕ} {r b : Bool} → n ≡ 0 → n ≡ length ts → r ≡ b → r ≡ (no_timer ts && b)
untimed_has [] z e q = q
untimed_has (x ∷ xs) z e q = absurd (omega (arith, z, e))
