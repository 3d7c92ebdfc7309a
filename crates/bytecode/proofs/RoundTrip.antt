-- Instructions are read back from their bytes, wherever they stand. Assumes nothing.
use Prim.Native.Nat.{ℕ, zero, suc, ◌+◌, ◌-◌, ◌^◌, ◌≤◌, ◌<◌}
use native.Mathlib.Omega.{arith}
use mathlib.Core.Path.{◌≡◌, refl, sym, ap, ◌∙◌}
use mathlib.Core.Bool.{Bool, true, false, cond}
use mathlib.Core.List.{List, [], ◌∷◌, ◌++◌, append_assoc}
use mathlib.Core.Option.{Option, none, some}
use lib.Dec.{T, eqb, ltb}
use lib.ListN.{length, get_or, drop, length-append, length-drop}
use lib.Seq.{get_or-drop}
use borrow.Author.Tests.{lt-ltb, ltb-true, eqb-true}
use Rattle.arith.specs.Values.{is_int32, add, subtract, multiply, divide, modulo, equal, not_equal, less, less_equal, greater, greater_equal}
use Rattle.semantics.specs.Program.{changing, rising, falling}
use Rattle.leb128.specs.Numbers.{number, zigzag, Read, got, nothing, ◌then◌, number_at}
use Rattle.leb128.proofs.Signs.{unzigzag_zigzag}
use Rattle.leb128.proofs.RoundTrip.{drop_behind, number_at_lem, number_next, zigzag_small}
use Rattle.bytecode.specs.Instructions.{Instruction, constant, current, previous, operation, negate, comparison, negated, both, either, gate, pick, assign, settle, timer, encode, instruction_of, has_operand, decoded, fetch_code, fetch_one, timer_at, fetch}
use Rattle.bytecode.proofs.Fetching.{one_fetched}

-- ---- instructions

-- the operand is below 2 ^ 32
abbrev pub Small : Instruction → Type 0
Small (constant z) = T (is_int32 z)
Small (current i) = i < 2 ^ 32
Small (previous i) = i < 2 ^ 32
Small (operation o) = Unit {0}
Small negate = Unit {0}
Small (comparison o) = Unit {0}
Small negated = Unit {0}
Small both = Unit {0}
Small either = Unit {0}
Small gate = Unit {0}
Small (pick side i) = i < 2 ^ 32
Small (assign i) = i < 2 ^ 32
Small (settle i) = i < 2 ^ 32
Small (timer t w n) = (t < 2 ^ 32) × (w < 2 ^ 32) × (n < 2 ^ 32)

abbrev pub AllSmall : List Instruction → Type 0
AllSmall [] = Unit {0}
AllSmall (i ∷ is) = Small i × AllSmall is

pub record Begins (bytes : List ℕ) (at b : ℕ) (rest : List ℕ) : Type 0 where
  pub inside : at < length bytes
  pub first : get_or bytes at 0 ≡ b
  pub behind : drop (at + 1) bytes ≡ rest

pub begins : (bytes : List ℕ) (at b : ℕ) (rest : List ℕ) → drop at bytes ≡ b ∷ rest → Begins bytes at b rest
begins bytes at b rest h =
    let l : length (drop at bytes) ≡ suc (length rest) = ap length h in
    let k : length bytes - at ≡ suc (length rest) = rw length-drop at l in
    let z : at + 0 ≡ at = omega arith in
    record {
      inside = omega arith;
      first = rw z at (sym (get_or-drop at bytes 0 0) ∙ ap {A = List ℕ} (λ l. get_or l 0 0) h);
      behind = drop_behind bytes at (b ∷ []) rest h;
    }

alone : (bytes : List ℕ) (at c : ℕ) (i : Instruction) (rest : List ℕ) → has_operand c ≡ false → instruction_of c 0 ≡ some i → drop at bytes ≡ c ∷ rest
    → fetch bytes at ≡ got i (at + 1)
unfolding fetch_one
alone bytes at c i rest o e h =
    let b = begins bytes at c rest h in
    one_fetched bytes at i (at + 1) (rw (lt-ltb at (length bytes) b.inside, b.first, o, e))

with_number : (bytes : List ℕ) (at c n : ℕ) (i : Instruction) (rest : List ℕ) → has_operand c ≡ true → n < 2 ^ 32 → instruction_of c n ≡ some i
    → drop at bytes ≡ c ∷ number n ++ rest → fetch bytes at ≡ got i (at + suc (length (number n)))
unfolding fetch_one
with_number bytes at c n i rest o l e h =
    let b = begins bytes at c (number n ++ rest) h in
    let q : at + 1 + length (number n) ≡ at + suc (length (number n)) = omega arith in
    one_fetched bytes at i (at + suc (length (number n))) (rw (lt-ltb at (length bytes) b.inside, b.first, o, number_at_lem bytes (at + 1) n rest l b.behind, e, q))

timer_encoded : (bytes : List ℕ) (at t w n : ℕ) (rest : List ℕ) → t < 2 ^ 32 → w < 2 ^ 32 → n < 2 ^ 32 → drop at bytes ≡ 23 ∷ number t ++ (number w ++ (number n ++ rest))
    → fetch bytes at ≡ got (timer t w n) (at + suc (length (number t ++ (number w ++ number n))))
unfolding fetch timer_at
timer_encoded bytes at t w n rest a b c h =
    let g = begins bytes at 23 (number t ++ (number w ++ (number n ++ rest))) h in
    let h₁ : drop (at + 1 + length (number t)) bytes ≡ number w ++ (number n ++ rest) = drop_behind bytes (at + 1) (number t) _ g.behind in
    let h₂ : drop (at + 1 + length (number t) + length (number w)) bytes ≡ number n ++ rest = drop_behind bytes (at + 1 + length (number t)) (number w) _ h₁ in
    let q : at + 1 + length (number t) + length (number w) + length (number n) ≡ at + suc (length (number t ++ (number w ++ number n))) = simp length-append (omega arith) in
    rw (g.first, number_at_lem bytes (at + 1) t _ a g.behind, number_at_lem bytes (at + 1 + length (number t)) w _ b h₁, number_at_lem bytes (at + 1 + length (number t) + length (number w)) n rest c h₂, q)

pub fetch_encoded : (bytes : List ℕ) (at : ℕ) (i : Instruction) (rest : List ℕ) → Small i → drop at bytes ≡ encode i ++ rest → fetch bytes at ≡ got i (at + length (encode i))
unfolding instruction_of has_operand
fetch_encoded bytes at (constant z) rest l h = with_number bytes at 1 (zigzag z) (constant z) rest refl (zigzag_small z l) (rw unzigzag_zigzag) h
fetch_encoded bytes at (current i) rest l h = with_number bytes at 2 i (current i) rest refl l refl h
fetch_encoded bytes at (previous i) rest l h = with_number bytes at 3 i (previous i) rest refl l refl h
fetch_encoded bytes at (operation add) rest l h = alone bytes at 4 (operation add) rest refl refl h
fetch_encoded bytes at (operation subtract) rest l h = alone bytes at 5 (operation subtract) rest refl refl h
fetch_encoded bytes at (operation multiply) rest l h = alone bytes at 6 (operation multiply) rest refl refl h
fetch_encoded bytes at (operation divide) rest l h = alone bytes at 7 (operation divide) rest refl refl h
fetch_encoded bytes at (operation modulo) rest l h = alone bytes at 8 (operation modulo) rest refl refl h
fetch_encoded bytes at negate rest l h = alone bytes at 9 negate rest refl refl h
fetch_encoded bytes at (comparison equal) rest l h = alone bytes at 10 (comparison equal) rest refl refl h
fetch_encoded bytes at (comparison not_equal) rest l h = alone bytes at 11 (comparison not_equal) rest refl refl h
fetch_encoded bytes at (comparison less) rest l h = alone bytes at 12 (comparison less) rest refl refl h
fetch_encoded bytes at (comparison less_equal) rest l h = alone bytes at 13 (comparison less_equal) rest refl refl h
fetch_encoded bytes at (comparison greater) rest l h = alone bytes at 14 (comparison greater) rest refl refl h
fetch_encoded bytes at (comparison greater_equal) rest l h = alone bytes at 15 (comparison greater_equal) rest refl refl h
fetch_encoded bytes at negated rest l h = alone bytes at 16 negated rest refl refl h
fetch_encoded bytes at both rest l h = alone bytes at 17 both rest refl refl h
fetch_encoded bytes at either rest l h = alone bytes at 18 either rest refl refl h
fetch_encoded bytes at gate rest l h = alone bytes at 19 gate rest refl refl h
fetch_encoded bytes at (pick changing i) rest l h = with_number bytes at 20 i (pick changing i) rest refl l refl h
fetch_encoded bytes at (pick rising i) rest l h = with_number bytes at 24 i (pick rising i) rest refl l refl h
fetch_encoded bytes at (pick falling i) rest l h = with_number bytes at 25 i (pick falling i) rest refl l refl h
fetch_encoded bytes at (assign i) rest l h = with_number bytes at 21 i (assign i) rest refl l refl h
fetch_encoded bytes at (settle i) rest l h = with_number bytes at 22 i (settle i) rest refl l refl h
fetch_encoded bytes at (timer t w n) rest l h = timer_encoded bytes at t w n rest l.0 l.1 l.2 (simp append_assoc at h)

pub length_encode : (i : Instruction) → 1 ≤ length (encode i)
length_encode (constant z) = omega arith
length_encode (current i) = omega arith
length_encode (previous i) = omega arith
length_encode (operation o) = omega arith
length_encode negate = omega arith
length_encode (comparison o) = omega arith
length_encode negated = omega arith
length_encode both = omega arith
length_encode either = omega arith
length_encode gate = omega arith
length_encode (pick side i) = omega arith
length_encode (assign i) = omega arith
length_encode (settle i) = omega arith
length_encode (timer t w n) = omega arith

-- an encoded instruction stands inside the bytes
pub encoded_inside : (bytes : List ℕ) (at : ℕ) (i : Instruction) (rest : List ℕ) → drop at bytes ≡ encode i ++ rest → at < length bytes
encoded_inside bytes at i rest h =
    let l : length (drop at bytes) ≡ length (encode i ++ rest) = ap length h in
    let k : length bytes - at ≡ length (encode i ++ rest) = rw length-drop at l in
    let j : length (encode i ++ rest) ≡ length (encode i) + length rest = length-append (encode i) rest in
    omega (arith, length_encode i)

-- ---- a place behind is behind

-- the place behind a timer's operands
timer_next : (bytes : List ℕ) (at : ℕ) (i : Instruction) (next : ℕ) → timer_at bytes at ≡ got i next → at ≤ next
unfolding timer_at
timer_next bytes at i next e = first (number_at bytes at) refl e
  where
    third : (at₂ t w : ℕ) (r : Read ℕ) → number_at bytes at₂ ≡ r → at ≤ at₂ → (r then λ n at₃. got (timer t w n) at₃) ≡ got i next → at ≤ next
    third at₂ t w nothing h l q = let z : ◌≡◌ {A = ℕ} 0 1 = cc in omega arith
    third at₂ t w (got n at₃) h l q = let v : at₃ ≡ next = cc in omega (arith, number_next bytes at₂ n at₃ h)

    second : (at₁ t : ℕ) (r : Read ℕ) → number_at bytes at₁ ≡ r → at ≤ at₁ → (r then λ w at₂. number_at bytes at₂ then λ n at₃. got (timer t w n) at₃) ≡ got i next → at ≤ next
    second at₁ t nothing h l q = let z : ◌≡◌ {A = ℕ} 0 1 = cc in omega arith
    second at₁ t (got w at₂) h l q = third at₂ t w (number_at bytes at₂) refl (omega (arith, number_next bytes at₁ w at₂ h)) q

    first : (r : Read ℕ) → number_at bytes at ≡ r → (r then λ t at₁. number_at bytes at₁ then λ w at₂. number_at bytes at₂ then λ n at₃. got (timer t w n) at₃) ≡ got i next → at ≤ next
    first nothing h q = let z : ◌≡◌ {A = ℕ} 0 1 = cc in omega arith
    first (got t at₁) h q = second at₁ t (number_at bytes at₁) refl (omega (arith, number_next bytes at t at₁ h)) q

-- an instruction has at least one byte
pub one_next : (bytes : List ℕ) (at : ℕ) (i : Instruction) (next : ℕ) → fetch_one bytes at ≡ got i next → (at < length bytes) × (at < next)
unfolding fetch_one
one_next bytes at i next e = inside (ltb at (length bytes)) refl e
  where
    plain : (o : Option Instruction) (to : ℕ) → decoded o to ≡ got i next → at + 1 ≤ to → at < next
    plain none to q l = let z : ◌≡◌ {A = ℕ} 0 1 = cc in omega arith
    plain (some j) to q l = let w : to ≡ next = cc in omega arith

    numbered : (r : Read ℕ) → number_at bytes (at + 1) ≡ r → (r then λ n to. decoded (instruction_of (get_or bytes at 0) n) to) ≡ got i next → at < next
    numbered nothing h q = let z : ◌≡◌ {A = ℕ} 0 1 = cc in omega arith
    numbered (got n to) h q = plain (instruction_of (get_or bytes at 0) n) to q (number_next bytes (at + 1) n to h)

    behind : (b : Bool) → cond b (number_at bytes (at + 1) then λ n to. decoded (instruction_of (get_or bytes at 0) n) to) (decoded (instruction_of (get_or bytes at 0) 0) (at + 1)) ≡ got i next → at < next
    behind true q = numbered (number_at bytes (at + 1)) refl q
    behind false q = plain (instruction_of (get_or bytes at 0) 0) (at + 1) q (omega arith)

    inside : (b : Bool) → ltb at (length bytes) ≡ b → cond b (fetch_code bytes (get_or bytes at 0) (at + 1)) nothing ≡ got i next → (at < length bytes) × (at < next)
    inside true h q = (ltb-true at (length bytes) h, behind (has_operand (get_or bytes at 0)) q)
    inside false h q = let z : ◌≡◌ {A = ℕ} 0 1 = cc in let f : ⊥ = omega arith in absurd f

pub byte_inside : (bytes : List ℕ) (at n : ℕ) → get_or bytes at 0 ≡ suc n → at < length bytes
byte_inside [] at n e = let z : ◌≡◌ {A = ℕ} 0 (suc n) = e in let f : ⊥ = omega arith in absurd f
byte_inside (b ∷ bytes) zero n e = omega arith
byte_inside (b ∷ bytes) (suc at) n e = let h : at < length bytes = byte_inside bytes at n e in omega arith

pub fetch_next : (bytes : List ℕ) (at : ℕ) (i : Instruction) (next : ℕ) → fetch bytes at ≡ got i next → (at < length bytes) × (at < next)
unfolding fetch
fetch_next bytes at i next e = go (eqb (get_or bytes at 0) 23) (eqb-true (get_or bytes at 0) 23) e
  where
    go : (b : Bool) → (b ≡ true → get_or bytes at 0 ≡ 23) → cond b (timer_at bytes (at + 1)) (fetch_one bytes at) ≡ got i next → (at < length bytes) × (at < next)
    go true y q = let h : at + 1 ≤ next = timer_next bytes (at + 1) i next q in (byte_inside bytes at 22 (y refl), omega arith)
    go false y q = one_next bytes at i next q
