-- What is read is the one encoding of what it gives: instructions, ranges and whole images. Assumes nothing.
use Prim.Native.Nat.{ℕ, zero, suc, ◌+◌, ◌-◌, ◌≤◌, ◌<◌}
use native.Mathlib.Numerals.{add-one}
use native.Mathlib.Omega.{arith}
use mathlib.Core.Path.{◌≡◌, refl, sym, ap, ◌∙◌, subst}
use mathlib.Core.Bool.{Bool, true, false, ◌&&◌, cond}
use mathlib.Core.List.{List, [], ◌∷◌, ◌++◌, append_assoc}
use mathlib.Core.Option.{Option, none, some}
use lib.Dec.{eqb, leb, ltb}
use lib.IntN.{ℤ}
use lib.ListN.{length, get_or, drop, drop_of_length-le}
use lib.Seq.{drop-cons}
use borrow.Author.Tests.{eqb-true, leb-true, ltb-true}
use Rattle.arith.proofs.Basics.{T_true, true_T, and_left, and_right}
use Rattle.semantics.specs.Program.{Range, changing, rising, falling}
use Rattle.leb128.specs.Numbers.{number, zigzag, unzigzag, Read, got, nothing, ◌then◌, number_at, signed_at}
use Rattle.leb128.proofs.Laws.{Bytes}
use Rattle.leb128.proofs.Signs.{zigzag_unzigzag}
use Rattle.leb128.proofs.RoundTrip.{one_spelling}
use Rattle.bytecode.specs.Instructions.{Instruction, constant, current, previous, operation, negate, comparison, negated, both, either, gate, pick, assign, settle, timer, operation_code, comparison_code, encode, encode_all, operation_of, comparison_of, instruction_of, has_operand, decoded, fetch_code, fetch_one, timer_at, fetch}
use Rattle.bytecode.specs.Translation.{encode_ranges}
use Rattle.bytecode.specs.Sound.{RangesAt, SpellsCode}
use Rattle.bytecode.proofs.RoundTrip.{byte_inside}
use Rattle.bytecode.proofs.Codes.{no_operand}

-- ---- the encoding of an instruction is its code byte and its operand

-- a property of each number from a on, up to k of them
among : (P : ℕ → Type 0) (a k c : ℕ) → a ≤ c → c < a + k → ((j : ℕ) → j < k → P (a + j)) → P c
among P a k c l m h = let e : a + (c - a) ≡ c = omega arith in subst P e (h (c - a) (omega arith))

-- a code byte is the code of the operation or comparison that it stands for
operation_code_lem : (c : ℕ) → 4 ≤ c → c ≤ 8 → operation_code (operation_of c) ≡ c
operation_code_lem c l m = among (λ n. operation_code (operation_of n) ≡ n) 4 5 c l (omega arith) five
  where
    five : (j : ℕ) → j < 5 → operation_code (operation_of (4 + j)) ≡ 4 + j
    five zero h = refl
    five (suc zero) h = refl
    five (suc (suc zero)) h = refl
    five (suc (suc (suc zero))) h = refl
    five (suc (suc (suc (suc zero)))) h = refl
    five (suc (suc (suc (suc (suc j))))) h = let f : ⊥ = omega arith in absurd f

comparison_code_lem : (c : ℕ) → 10 ≤ c → c ≤ 15 → comparison_code (comparison_of c) ≡ c
comparison_code_lem c l m = among (λ n. comparison_code (comparison_of n) ≡ n) 10 6 c l (omega arith) six
  where
    six : (j : ℕ) → j < 6 → comparison_code (comparison_of (10 + j)) ≡ 10 + j
    six zero h = refl
    six (suc zero) h = refl
    six (suc (suc zero)) h = refl
    six (suc (suc (suc zero))) h = refl
    six (suc (suc (suc (suc zero)))) h = refl
    six (suc (suc (suc (suc (suc zero))))) h = refl
    six (suc (suc (suc (suc (suc (suc j)))))) h = let f : ⊥ = omega arith in absurd f

module _ (c n : ℕ) (i : Instruction) where
  abbrev Encoded : Type 0
  Encoded = encode i ≡ cond (has_operand c) (c ∷ number n) (c ∷ [])

  case : (t : Bool) (a b : Option Instruction) → (t ≡ true → a ≡ some i → Encoded) → (t ≡ false → b ≡ some i → Encoded) → cond t a b ≡ some i → Encoded
  case true a b p q e = p refl e
  case false a b p q e = q refl e

  in_range_lem : (a b : ℕ) → (leb a c && leb c b) ≡ true → (a ≤ c) × (c ≤ b)
  in_range_lem a b t =
      let u = true_T (leb a c && leb c b) t in
      (leb-true a c (T_true (leb a c) (and_left (leb a c) (leb c b) u)), leb-true c b (T_true (leb c b) (and_right (leb a c) (leb c b) u)))

  -- of a single code byte
  single : (k : ℕ) (j : Instruction) → encode j ≡ cond (has_operand k) (k ∷ number n) (k ∷ []) → eqb c k ≡ true → some j ≡ some i → Encoded
  single k j h t e =
      let w : j ≡ i = cc in
      let d : c ≡ k = eqb-true c k t in
      rw (← w, d) h

  operation_encoded : (leb 4 c && leb c 8) ≡ true → some (operation (operation_of c)) ≡ some i → Encoded
  operation_encoded t e =
      let r = in_range_lem 4 8 t in
      let w : operation (operation_of c) ≡ i = cc in
      rw (← w, no_operand c r.0 (omega (arith, r.1)), operation_code_lem c r.0 r.1)

  comparison_encoded : (leb 10 c && leb c 15) ≡ true → some (comparison (comparison_of c)) ≡ some i → Encoded
  comparison_encoded t e =
      let r = in_range_lem 10 15 t in
      let w : comparison (comparison_of c) ≡ i = cc in
      rw (← w, no_operand c (omega (arith, r.0)) (omega (arith, r.1)), comparison_code_lem c r.0 r.1)

  unlisted : none ≡ some i → Encoded
  unlisted e = let f : ◌≡◌ {A = ℕ} 0 1 = cc in let b : ⊥ = omega arith in absurd b

  pub encode_of : instruction_of c n ≡ some i → Encoded
  unfolding instruction_of has_operand
  encode_of =
      case (eqb c 1) _ _ (single 1 (constant (unzigzag n)) (rw zigzag_unzigzag)) (λ z₁.
      case (eqb c 2) _ _ (single 2 (current n) refl) (λ z₂.
      case (eqb c 3) _ _ (single 3 (previous n) refl) (λ z₃.
      case (leb 4 c && leb c 8) _ _ operation_encoded (λ z₄.
      case (eqb c 9) _ _ (single 9 negate refl) (λ z₅.
      case (leb 10 c && leb c 15) _ _ comparison_encoded (λ z₆.
      case (eqb c 16) _ _ (single 16 negated refl) (λ z₇.
      case (eqb c 17) _ _ (single 17 both refl) (λ z₈.
      case (eqb c 18) _ _ (single 18 either refl) (λ z₉.
      case (eqb c 19) _ _ (single 19 gate refl) (λ z₁₀.
      case (eqb c 20) _ _ (single 20 (pick changing n) refl) (λ z₁₁.
      case (eqb c 21) _ _ (single 21 (assign n) refl) (λ z₁₂.
      case (eqb c 22) _ _ (single 22 (settle n) refl) (λ z₁₃.
      case (eqb c 24) _ _ (single 24 (pick rising n) refl) (λ z₁₄.
      case (eqb c 25) _ _ (single 25 (pick falling n) refl) (λ z₁₅. unlisted)))))))))))))))

-- ---- what is read at a place is the one encoding of it, followed by the rest

first_byte : (bytes : List ℕ) (at : ℕ) → at < length bytes → drop at bytes ≡ get_or bytes at 0 ∷ drop (at + 1) bytes
first_byte bytes at l = rw (add-one, drop-cons bytes at 0 l)

module _ (bytes : List ℕ) (at : ℕ) (h : Bytes bytes) where
  one_spelled : (i : Instruction) (next : ℕ) → fetch_one bytes at ≡ got i next → drop at bytes ≡ encode i ++ drop next bytes
  unfolding fetch_one
  one_spelled i next e = inside (ltb at (length bytes)) (ltb-true at (length bytes)) e
    where
      alone : at < length bytes → (o : Option Instruction) → instruction_of (get_or bytes at 0) 0 ≡ o → has_operand (get_or bytes at 0) ≡ false → decoded o (at + 1) ≡ got i next → drop at bytes ≡ encode i ++ drop next bytes
      alone l none d t q = let f : ◌≡◌ {A = ℕ} 0 1 = cc in let b : ⊥ = omega arith in absurd b
      alone l (some j) d t q =
          let a : j ≡ i = cc in
          let b : at + 1 ≡ next = cc in
          let c : encode j ≡ get_or bytes at 0 ∷ [] = encode_of (get_or bytes at 0) 0 j d ∙ rw t in
          rw (← a, ← b, c, first_byte bytes at l)

      numbered : at < length bytes → (n to : ℕ) → number_at bytes (at + 1) ≡ got n to → (o : Option Instruction) → instruction_of (get_or bytes at 0) n ≡ o → has_operand (get_or bytes at 0) ≡ true
          → decoded o to ≡ got i next → drop at bytes ≡ encode i ++ drop next bytes
      numbered l n to r none d t q = let f : ◌≡◌ {A = ℕ} 0 1 = cc in let b : ⊥ = omega arith in absurd b
      numbered l n to r (some j) d t q =
          let a : j ≡ i = cc in
          let b : to ≡ next = cc in
          let c : encode j ≡ get_or bytes at 0 ∷ number n = encode_of (get_or bytes at 0) n j d ∙ rw t in
          rw (← a, ← b, c, first_byte bytes at l) (ap (λ (x : List ℕ). get_or bytes at 0 ∷ x) (one_spelling bytes (at + 1) h n to r))

      read : at < length bytes → (r : Read ℕ) → number_at bytes (at + 1) ≡ r → has_operand (get_or bytes at 0) ≡ true
          → (r then λ n to. decoded (instruction_of (get_or bytes at 0) n) to) ≡ got i next → drop at bytes ≡ encode i ++ drop next bytes
      read l nothing r t q = let f : ◌≡◌ {A = ℕ} 0 1 = cc in let b : ⊥ = omega arith in absurd b
      read l (got n to) r t q = numbered l n to r (instruction_of (get_or bytes at 0) n) refl t q

      behind : at < length bytes → (t : Bool) → has_operand (get_or bytes at 0) ≡ t
          → cond t (number_at bytes (at + 1) then λ n to. decoded (instruction_of (get_or bytes at 0) n) to) (decoded (instruction_of (get_or bytes at 0) 0) (at + 1)) ≡ got i next → drop at bytes ≡ encode i ++ drop next bytes
      behind l true t q = read l (number_at bytes (at + 1)) refl t q
      behind l false t q = alone l (instruction_of (get_or bytes at 0) 0) refl t q

      inside : (t : Bool) → (t ≡ true → at < length bytes) → cond t (fetch_code bytes (get_or bytes at 0) (at + 1)) nothing ≡ got i next → drop at bytes ≡ encode i ++ drop next bytes
      inside true y q = behind (y refl) (has_operand (get_or bytes at 0)) refl q
      inside false y q = let f : ◌≡◌ {A = ℕ} 0 1 = cc in let b : ⊥ = omega arith in absurd b

  timer_spelled : (i : Instruction) (next : ℕ) → get_or bytes at 0 ≡ 23 → timer_at bytes (at + 1) ≡ got i next → drop at bytes ≡ encode i ++ drop next bytes
  unfolding timer_at
  timer_spelled i next b e = first (number_at bytes (at + 1)) refl e
    where
      whole : (t at₁ w at₂ n at₃ : ℕ) → number_at bytes (at + 1) ≡ got t at₁ → number_at bytes at₁ ≡ got w at₂ → number_at bytes at₂ ≡ got n at₃ → drop at bytes ≡ encode (timer t w n) ++ drop at₃ bytes
      whole t at₁ w at₂ n at₃ h₁ h₂ h₃ =
          rw (first_byte bytes at (byte_inside bytes at 22 b), b)
          (ap (λ (l : List ℕ). 23 ∷ l) (one_spelling bytes (at + 1) h t at₁ h₁ ∙ rw (one_spelling bytes at₁ h w at₂ h₂, one_spelling bytes at₂ h n at₃ h₃)
          (sym (append_assoc (number t) (number w ++ number n) (drop at₃ bytes) ∙ ap (λ (l : List ℕ). number t ++ l) (append_assoc (number w) (number n) (drop at₃ bytes))))))

      third : (t at₁ w at₂ : ℕ) → number_at bytes (at + 1) ≡ got t at₁ → number_at bytes at₁ ≡ got w at₂ → (r : Read ℕ) → number_at bytes at₂ ≡ r → (r then λ n at₃. got (timer t w n) at₃) ≡ got i next
          → drop at bytes ≡ encode i ++ drop next bytes
      third t at₁ w at₂ h₁ h₂ nothing h₃ q = let f : ◌≡◌ {A = ℕ} 0 1 = cc in let z : ⊥ = omega arith in absurd z
      third t at₁ w at₂ h₁ h₂ (got n at₃) h₃ q =
          let a : timer t w n ≡ i = cc in
          let c : at₃ ≡ next = cc in
          rw (← a, ← c) (whole t at₁ w at₂ n at₃ h₁ h₂ h₃)

      second : (t at₁ : ℕ) → number_at bytes (at + 1) ≡ got t at₁ → (r : Read ℕ) → number_at bytes at₁ ≡ r → (r then λ w at₂. number_at bytes at₂ then λ n at₃. got (timer t w n) at₃) ≡ got i next
          → drop at bytes ≡ encode i ++ drop next bytes
      second t at₁ h₁ nothing h₂ q = let f : ◌≡◌ {A = ℕ} 0 1 = cc in let z : ⊥ = omega arith in absurd z
      second t at₁ h₁ (got w at₂) h₂ q = third t at₁ w at₂ h₁ h₂ (number_at bytes at₂) refl q

      first : (r : Read ℕ) → number_at bytes (at + 1) ≡ r → (r then λ t at₁. number_at bytes at₁ then λ w at₂. number_at bytes at₂ then λ n at₃. got (timer t w n) at₃) ≡ got i next
          → drop at bytes ≡ encode i ++ drop next bytes
      first nothing h₁ q = let f : ◌≡◌ {A = ℕ} 0 1 = cc in let z : ⊥ = omega arith in absurd z
      first (got t at₁) h₁ q = second t at₁ h₁ (number_at bytes at₁) refl q

  pub fetch_spelled : (i : Instruction) (next : ℕ) → fetch bytes at ≡ got i next → drop at bytes ≡ encode i ++ drop next bytes
  unfolding fetch
  fetch_spelled i next e = go (eqb (get_or bytes at 0) 23) (eqb-true (get_or bytes at 0) 23) e
    where
      go : (b : Bool) → (b ≡ true → get_or bytes at 0 ≡ 23) → cond b (timer_at bytes (at + 1)) (fetch_one bytes at) ≡ got i next → drop at bytes ≡ encode i ++ drop next bytes
      go true y q = timer_spelled i next (y refl) q
      go false y q = one_spelled i next q

  pub signed_spelled : (z : ℤ) (next : ℕ) → signed_at bytes at ≡ got z next → drop at bytes ≡ number (zigzag z) ++ drop next bytes
  unfolding signed_at
  signed_spelled z next e = go (number_at bytes at) refl e
    where
      go : (r : Read ℕ) → number_at bytes at ≡ r → (r then λ u to. got (unzigzag u) to) ≡ got z next → drop at bytes ≡ number (zigzag z) ++ drop next bytes
      go nothing r q = let f : ◌≡◌ {A = ℕ} 0 1 = cc in let b : ⊥ = omega arith in absurd b
      go (got u to) r q =
          let a : unzigzag u ≡ z = cc in
          let b : to ≡ next = cc in
          rw (← a, ← b, zigzag_unzigzag) (one_spelling bytes at h u to r)

pub spells_encoded : (bytes : List ℕ) (at : ℕ) (is : List Instruction) → Bytes bytes → SpellsCode bytes at is → drop at bytes ≡ encode_all is
spells_encoded bytes at [] h s = drop_of_length-le bytes s
spells_encoded bytes at (i ∷ is) h s = fetch_spelled bytes at h i s.0 s.1 ∙ ap (λ (l : List ℕ). encode i ++ l) (spells_encoded bytes s.0 is h s.2)

pub ranges_encoded : (bytes : List ℕ) (at : ℕ) (ns : List Range) (end : ℕ) → Bytes bytes → RangesAt bytes at ns end → drop at bytes ≡ encode_ranges ns ++ drop end bytes
ranges_encoded bytes at [] end h r = ap (λ (n : ℕ). drop n bytes) r
ranges_encoded bytes at (n ∷ ns) end h r =
    rw (
      signed_spelled bytes at h n.low r.0 r.3,
      signed_spelled bytes r.0 h n.high r.1 r.4,
      signed_spelled bytes r.1 h n.start r.2 r.5,
      ranges_encoded bytes r.2 ns end h r.6,
    )
    (simp append_assoc)
