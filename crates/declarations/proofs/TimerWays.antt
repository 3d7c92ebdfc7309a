-- Laws of a timer's parts: which w may stand there, N, and the ways through their tests. Assumes nothing.
use mathlib.Core.Path.{◌≡◌, refl, sym, ap, ◌∙◌}
use mathlib.Core.Bool.{Bool, true, false, ◌&&◌}
use mathlib.Core.List.{List, [], ◌∷◌, ◌++◌, map}
use mathlib.Core.Option.{none, some}
use Prim.Native.Nat.{ℕ, zero, suc, ◌^◌, ◌≤◌, ◌<◌, min}
use native.Mathlib.Omega.{arith}
use borrow.Author.Tests.{lt-ltb, le-ltb, le-leb, lt-leb}
use lib.IntN.{ℤ, pos}
use lib.ListN.{length, get_or}
use Rattle.limits.specs.Limits.{time_limit, no_token, not_allowed, out_of_limit, wrong_name, too_many, wrong_timer}
use Rattle.arith.specs.Values.{eq_z, equal, compares, lowest, highest}
use Rattle.lexer.specs.Bytes.{part}
use Rattle.lexer.specs.Token.{Kind, name, digits, dots, is, token, fault}
use Rattle.lexer.specs.Lexer.{token_at, over_long, value_of}
use Rattle.lexer.specs.Names.{id_of}
use Rattle.lexer.specs.declared.Place.{Place}
use Rattle.lexer.specs.Results.{Step}
use Rattle.std.specs.Prelude.{Ok}
use Rattle.semantics.specs.Program.{Name, Range, range_at, is_binary}
use Rattle.grammar.specs.Parsed.{Parsed, accepted, refused, sign, expected}
use Rattle.grammar.specs.Declarations.{in_range, bound_at, start_at, spellings}
use Rattle.grammar.specs.Expressions.{with_id}
use Rattle.grammar.specs.Timers.{is_watchable, watched_at, limit_at}
use Rattle.grammar.proofs.Combine.{apart, same_value}
use Rattle.declarations.specs.Inner.Ranges.{declared_range}
use Rattle.declarations.specs.Inner.Timers.{Watchables}
use Rattle.declarations.proofs.Ranges.{no_low, no_dots, no_high, no_start, whole_range}
use Rattle.declarations.proofs.Standing.{stand_at}

pub done_place : {x y : Place} → ◌≡◌ {A = Step} (Ok x) (Ok y) → x ≡ y
done_place e = cc

-- ---- the range that stands at a place

module _ (text : List ℕ) (at : ℕ) where
  pub low_refused : (k p : ℕ) → bound_at (in_range lowest highest) text at ≡ refused k p → (x : Range) (n : ℕ) → declared_range text at ≡ accepted x n → false ≡ is_binary x
  low_refused k p e x n h = apart (sym h ∙ no_low text at k p e)

  module _ (low : ℤ) (a : ℕ) (el : bound_at (in_range lowest highest) text at ≡ accepted low a) where
    pub dots_refused : (k p : ℕ) → expected text (sign dots) a ≡ refused k p → (x : Range) (n : ℕ) → declared_range text at ≡ accepted x n → false ≡ is_binary x
    dots_refused k p e x n h = apart (sym h ∙ no_dots text at low a el k p e)

    module _ (b : ℕ) (ed : expected text (sign dots) a ≡ accepted tt b) where
      pub high_refused : (k p : ℕ) → bound_at (in_range low highest) text b ≡ refused k p → (x : Range) (n : ℕ) → declared_range text at ≡ accepted x n → false ≡ is_binary x
      high_refused k p e x n h = apart (sym h ∙ no_high text at low a el b ed k p e)

      pub bounds_are : (high : ℤ) (c : ℕ) → bound_at (in_range low highest) text b ≡ accepted high c → (x : Range) (n : ℕ) → declared_range text at ≡ accepted x n → is_binary x ≡ (compares equal low (pos 0) && compares equal high (pos 1))
      unfolding is_binary compares
      bounds_are high c eh x n h = go (start_at text low high c) refl
        where
          go : (p : Parsed ℤ) → start_at text low high c ≡ p → (eq_z x.low (pos 0) && eq_z x.high (pos 1)) ≡ (eq_z low (pos 0) && eq_z high (pos 1))
          go (accepted start m) e = ap (λ (r : Range). eq_z r.low (pos 0) && eq_z r.high (pos 1)) (same_value (sym h ∙ whole_range text at low a el b ed high c eh start m e))
          go (refused k p) e = apart (sym h ∙ no_start text at low a el b ed high c eh k p e)

-- ---- a `var` of range 0..1

get_d_front : (l k : List Range) (i : ℕ) (d : Range) → i < length l → get_or (l ++ k) i d ≡ get_or l i d
get_d_front [] k i d h = absurd (omega (arith, h))
get_d_front (x ∷ l) k zero d h = refl
get_d_front (x ∷ l) k (suc i) d h = get_d_front l k i d (omega (arith, h))

map-append : (l k : List Name) → map (λ x. x.range) (l ++ k) ≡ map (λ x. x.range) l ++ map (λ x. x.range) k
map-append [] k = refl
map-append (x ∷ l) k = ap (λ (r : List Range). x.range ∷ r) (map-append l k)

ranges_many : (l : List Name) → length (map (λ x. x.range) l) ≡ length l
ranges_many [] = refl
ranges_many (x ∷ l) = omega (arith, ranges_many l)

module _ (text starts ends : List ℕ) (count inputs first : ℕ) (names : List Name) (id : ℕ) where
  pub an_input : id < inputs → false ≡ is_watchable inputs first names id
  unfolding is_watchable
  an_input h = rw (lt-leb _ _ h)

  pub a_timer : inputs ≤ id → first ≤ id → false ≡ is_watchable inputs first names id
  unfolding is_watchable
  a_timer l h = rw (le-leb _ _ l, le-ltb _ _ h)

  pub a_variable : inputs ≤ id → id < first → Watchables text starts ends count first names → {r : Bool} → ((x : Range) (n : ℕ) → declared_range text (get_or ends id 0) ≡ accepted x n → r ≡ is_binary x) → r ≡ is_watchable inputs first names id
  unfolding is_watchable
  a_variable l h w f =
      let s = stand_at text ends 0 w.variables w.stand id (omega (arith, w.many, h)) in
      let same : range_at (map (λ x. x.range) names) id ≡ range_at (map (λ x. x.range) w.variables) id =
      ap (λ (ns : List Name). range_at (map (λ x. x.range) ns) id) w.split ∙ ap (λ (ns : List Range). range_at ns id) (map-append w.variables w.others)
      ∙ get_d_front (map (λ x. x.range) w.variables) (map (λ x. x.range) w.others) id _ (omega (arith, ranges_many w.variables, w.many, h)) in
      rw (le-leb _ _ l, lt-ltb _ _ h, same) (f _ s.0 (ap (λ (k : ℕ). declared_range text (get_or ends k 0)) (omega arith) ∙ s.1))

-- ---- w

module _ (text : List ℕ) (inputs first : ℕ) (names : List Name) (at : ℕ) where
  pub w_fault : (p : ℕ) → token_at text at ≡ fault p → watched_at text inputs first names at ≡ refused no_token p
  unfolding watched_at
  w_fault p e = rw e

  module _ (k : Kind) (s n : ℕ) (e : token_at text at ≡ token k s n) where
    pub w_no_name : is k name ≡ false → watched_at text inputs first names at ≡ refused not_allowed s
    unfolding watched_at
    w_no_name f = rw (e, f)

    module _ (f : is k name ≡ true) where
      pub w_long : over_long s n ≡ true → watched_at text inputs first names at ≡ refused too_many s
      unfolding watched_at with_id
      w_long l = rw (e, f, l)

      module _ (l : over_long s n ≡ false) where
        pub w_unknown : id_of (spellings names) (part text s n) ≡ none → watched_at text inputs first names at ≡ refused wrong_name s
        unfolding watched_at with_id
        w_unknown g = rw (e, f, l, g)

        module _ (i : ℕ) (g : id_of (spellings names) (part text s n) ≡ some i) where
          pub w_found : is_watchable inputs first names i ≡ true → watched_at text inputs first names at ≡ accepted i n
          unfolding watched_at with_id
          w_found h = rw (e, f, l, g, h)

          pub w_wrong : is_watchable inputs first names i ≡ false → watched_at text inputs first names at ≡ refused wrong_timer s
          unfolding watched_at with_id
          w_wrong h = rw (e, f, l, g, h)

-- ---- N

module _ (text : List ℕ) (at : ℕ) where
  pub n_fault : (p : ℕ) → token_at text at ≡ fault p → limit_at text at ≡ refused no_token p
  unfolding limit_at
  n_fault p e = rw e

  module _ (k : Kind) (s n : ℕ) (e : token_at text at ≡ token k s n) where
    pub n_no_digits : is k digits ≡ false → limit_at text at ≡ refused not_allowed s
    unfolding limit_at
    n_no_digits f = rw (e, f)

    module _ (f : is k digits ≡ true) (v : ℕ) (g : v ≡ min (value_of (part text s n)) (2 ^ 32)) where
      pub n_low : v < 1 → limit_at text at ≡ refused out_of_limit s
      unfolding limit_at
      n_low h = rw (e, f, lt-leb 1 (value_of (part text s n)) (omega (arith, g, h)))

      pub n_high : 1 ≤ v → time_limit < v → limit_at text at ≡ refused out_of_limit s
      unfolding limit_at
      n_high l h = rw (e, f, le-leb 1 (value_of (part text s n)) (omega (arith, g, l)), lt-leb (value_of (part text s n)) 2147483647 (omega (arith, g, h)))

      pub n_in : 1 ≤ v → v ≤ time_limit → limit_at text at ≡ accepted v n
      unfolding limit_at
      n_in l h =
          let q : value_of (part text s n) ≡ v = omega (arith, g, h) in
          rw (e, f, le-leb 1 (value_of (part text s n)) (omega (arith, q, l)), le-leb (value_of (part text s n)) 2147483647 (omega (arith, q, h)), q)
