-- The ways out of check: too long, a broken header, the walk over the code. Assumes nothing.
use Prim.Native.Nat.{ℕ, ◌+◌, ◌≤◌, ◌<◌}
use mathlib.Core.Path.{◌≡◌, sym, ap, subst, ◌∙◌}
use mathlib.Core.Bool.{false}
use mathlib.Core.List.{List, [], map}
use mathlib.Core.Option.{none}
use native.Mathlib.Omega.{arith}
use lib.IntN.{ℤ}
use lib.ListN.{length, take, drop, length-map}
use lib.Seq.{sets, length-sets, length-take-le}
use borrow.Author.Tests.{le-leb, lt-leb}
use Rattle.std.specs.Prelude.{Result}
use Rattle.limits.specs.Answer.{accepted, refused}
use Rattle.limits.specs.Refusals.{stands_for}
use Rattle.limits.specs.declared.Refusal.{Refusal}
use Rattle.leb128.proofs.Stores.{take_sets}
use Rattle.semantics.specs.Program.{Range, known_first}
use Rattle.semantics.specs.Shape.{has_timer}
use Rattle.bytecode.specs.Check.{known, Header, check_header, check_code, check_body, check_of}
use Rattle.bytecode.specs.Parts.{code_of, limits_of}
use Rattle.bytecode.specs.Inner.Timers.{NoTimers}
use Rattle.bytecode.specs.Results.{HeaderStands}
use Rattle.bytecode.proofs.Limits.{none_has_timer}
use Rattle.bytecode.proofs.SoundHeader.{header_found}
use Rattle.checker.specs.declared.Verdict.TheVariants as J
use Rattle.checker.specs.Inner.Walk.{known_of, initial_walk}
use Rattle.checker.specs.Inner.Surveys.{ReadHeader}
use Rattle.checker.specs.Inner.Timed.{RangesStand}
use Rattle.checker.specs.Results.{Judges}
use Rattle.checker.proofs.Walking.{answers_whole}

-- numbers stored at the front of lent memory that has room for them
pub stored : (f : Range → ℤ) (ns : List Range) (n : ℕ) (l left : List ℤ) → length ns ≡ n → n ≤ length l → left ≡ sets l 0 (map f ns) → map f ns ≡ take n left
stored f ns n l left e h s =
    let q : length (map f ns) ≡ n = length-map ns f ∙ e in
    sym (ap (λ (k : ℕ). take k left) (sym q) ∙ rw s (take_sets l (map f ns) (omega arith)))

module _ (bytes : List ℕ) where
  pub too_long_lem : 65536 < length bytes → refused 9 0 ≡ check_of bytes
  unfolding check_of
  too_long_lem l = rw (lt-leb (length bytes) 65536 l)

  module _ (l : length bytes ≤ 65536) where
    pub broken_header : (at : ℕ) → check_header bytes ≡ refused 11 at → refused 11 at ≡ check_of bytes
    unfolding check_of
    broken_header at e = rw (le-leb (length bytes) 65536 l, e)

    pub whole_header : (h : Header) → check_header bytes ≡ accepted h → check_of bytes ≡ check_body bytes h
    unfolding check_of
    whole_header h e = rw (le-leb (length bytes) 65536 l, e)

    -- with the counts that were read
    pub walked_header : (inputs names place : ℕ) (ns : List Range) → check_header bytes ≡ accepted (record { inputs = inputs; ranges = ns; place = place }) → length ns ≡ names
        → check_of bytes ≡ check_code ns place (drop place bytes) (length (drop place bytes)) 0 none (known [] false none (known_first inputs names))
    unfolding check_body
    walked_header inputs names place ns e n = whole_header _ e ∙ rw n

    module _ (inputs names place : ℕ) (x : ReadHeader bytes inputs names place) where
      code_is : code_of bytes ≡ drop place bytes
      unfolding code_of
      code_is = ap (λ (h : Header). drop h.place bytes) (header_found bytes _ x.read)

      -- the fast walk over the code
      pub walked_sound : Judges (drop place bytes) 0 (known_of (initial_walk inputs names)) J.Sound → (accepted tt ≡ check_of bytes) × (has_timer (limits_of bytes) ≡ false)
      walked_sound j = (
        answers_whole (drop place bytes) inputs names (λ base. accepted tt) j.0 x.ranges place ∙ sym (walked_header inputs names place x.ranges x.read x.many),
        none_has_timer bytes (subst (λ (code : List ℕ). NoTimers code 0) (sym code_is) j.1),
      )

      pub walked_broken : (at : ℕ) → Judges (drop place bytes) 0 (known_of (initial_walk inputs names)) (J.Broken at) → refused 11 (place + at) ≡ check_of bytes
      walked_broken at j =
          answers_whole (drop place bytes) inputs names (λ base. refused 11 (base + at)) j x.ranges place ∙ sym (walked_header inputs names place x.ranges x.read x.many)

-- ---- the ranges in memory, and the walk over timers

module _ (bytes : List ℕ) {low₀ high₀ start₀ low high start : List ℤ} {inputs names place : ℕ} (x : HeaderStands (check_header bytes) (length bytes) low₀ high₀ start₀ low high start inputs names place) where
  long_enough : (f : Range → ℤ) (l left : List ℤ) → length l ≡ 64 → left ≡ sets l 0 (map f x.ranges) → names ≤ length left
  long_enough f l left e s = rw (s, length-sets) (omega (arith, x.extends.few))

  module _ (a : length low₀ ≡ 64) (b : length high₀ ≡ 64) (d : length start₀ ≡ 64) where
    room_low : names ≤ length low
    room_low = long_enough (λ n. n.low) low₀ low a x.lower

    ranges_stand : RangesStand x.ranges (take names low) (take names high) (take names start)
    ranges_stand =
        record {
          lower = stored (λ n. n.low) x.ranges names low₀ low x.many (omega arith) x.lower;
          upper = stored (λ n. n.high) x.ranges names high₀ high x.many (omega arith) x.upper;
          starting = stored (λ n. n.start) x.ranges names start₀ start x.many (omega arith) x.starting;
        }

    pub timed_walked : length bytes ≤ 65536 → (r : Result (Unit {0}) Refusal)
        → ((ns : List Range) → RangesStand ns (take names low) (take names high) (take names start)
        → stands_for r ≡ check_code ns place (drop place bytes) (length (drop place bytes)) 0 none (known [] false none (known_first inputs (length (take names low)))))
        → stands_for r ≡ check_of bytes
    timed_walked l r w =
        w x.ranges ranges_stand ∙ (rw (length-take-le names low room_low) (sym (walked_header bytes l inputs names place x.ranges x.read x.many)))
