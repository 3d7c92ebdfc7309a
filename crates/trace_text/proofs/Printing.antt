-- Laws of the decimals and lines that are printed. Assumes nothing.
use mathlib.Core.Path.{◌≡◌, refl, sym, ap, ◌∙◌}
use mathlib.Core.Bool.{Bool, true, false, cond}
use mathlib.Core.List.{List, [], ◌∷◌, ◌++◌, map, append-nil, append_assoc}
use Prim.Native.Nat.{ℕ, zero, suc, ◌+◌, ◌-◌, ◌/◌, ◌%◌, ◌≤◌, ◌<◌}
use Rattle.std.specs.List.{zip}
use native.Mathlib.Numerals.{add-one}
use native.Mathlib.Omega.{arith}
use lib.Dec.{ltb}
use lib.IntN.{ℤ, pos, negsuc}
use lib.ListN.{length, take, length-append}
use borrow.Author.Tests.{lt-ltb, le-ltb, le-leb, ltb-true, ltb-false}
use Rattle.lexer.specs.Bytes.{bytes, part}
use Rattle.lexer.specs.Lexer.{is_digit, value_of, value_on}
use Rattle.trace_text.specs.Row.{all_digits, within32, number_of}
use Rattle.trace_text.specs.Output.{digits_up_to, unsigned_decimal, decimal_of, spaced, head_line, row_line, refused_line}
use Rattle.lexer.specs.Names.{table_names}
use Rattle.trace_text.specs.Inner.Stages.{signed}
use Rattle.trace_text.proofs.Decimals.{all_append, value_append, signs, number_signs}

-- ---- a decimal by its last digit

-- n digits suffice for n
one_more : (k n : ℕ) → n ≤ k → digits_up_to (suc k) n ≡ digits_up_to k n
unfolding digits_up_to
one_more zero n h = let e : n ≡ 0 = omega arith in rw e
one_more (suc k) n h = ap (λ (l : List ℕ). cond (ltb n 10) ((48 + n) ∷ []) (l ++ (48 + n % 10) ∷ [])) (one_more k (n / 10) (omega arith))

enough : (j n : ℕ) → digits_up_to (j + n) n ≡ unsigned_decimal n
unfolding unsigned_decimal
enough zero n = ap (λ (k : ℕ). digits_up_to k n) (omega arith)
enough (suc j) n = ap (λ (k : ℕ). digits_up_to k n) (omega arith) ∙ one_more (j + n) n (omega arith) ∙ enough j n

pub decimal_small : (n : ℕ) → n < 10 → unsigned_decimal n ≡ (48 + n) ∷ []
unfolding unsigned_decimal digits_up_to
decimal_small zero h = refl
decimal_small (suc n) h = rw (lt-ltb (suc n) 10 h)

pub decimal_more : (n : ℕ) → 10 ≤ n → unsigned_decimal n ≡ unsigned_decimal (n / 10) ++ (48 + n % 10) ∷ []
unfolding unsigned_decimal digits_up_to
decimal_more zero h = absurd (omega arith)
decimal_more (suc n) h =
    let e : n - suc n / 10 + suc n / 10 ≡ n = omega arith in
    rw (le-ltb (suc n) 10 h) (ap (λ (l : List ℕ). l ++ (48 + suc n % 10) ∷ []) (ap (λ (k : ℕ). digits_up_to k (suc n / 10)) (sym e) ∙ enough (n - suc n / 10) (suc n / 10)))

-- by the digits of a smaller number, or one digit
module _ (P : ℕ → Type 0) (small : (n : ℕ) → n < 10 → P n) (more : (n : ℕ) → 10 ≤ n → P (n / 10) → P n) where
  by_digits_below : (k n : ℕ) → n < k → P n
  by_digits_below zero n h = absurd (omega arith)
  by_digits_below (suc k) n h = by (ltb n 10) (ltb-true n 10) (ltb-false n 10) (by_digits_below k (n / 10)) where
    by : (t : Bool) → (t ≡ true → n < 10) → (t ≡ false → 10 ≤ n) → (n / 10 < k → P (n / 10)) → P n
    by true y f g = small n (y refl)
    by false y f g = let l = f refl in more n l (g (omega arith))

  pub by_digits : (n : ℕ) → P n
  by_digits n = by_digits_below (suc n) n (omega arith)

-- ---- a decimal that is printed is read back

digit_is : (d : ℕ) → d < 10 → is_digit (48 + d) ≡ true
unfolding is_digit
digit_is d h = rw (le-leb 48 (48 + d) (omega arith), lt-ltb (48 + d) 58 (omega arith))

pub record Reads (n : ℕ) : Type 0 where
  pub digits : all_digits (unsigned_decimal n) ≡ true
  pub value : value_of (unsigned_decimal n) ≡ n
  pub some_digits : 1 ≤ length (unsigned_decimal n)

pub reads : (n : ℕ) → Reads n
unfolding value_of value_on
reads = by_digits Reads
    (λ n h. let e = decimal_small n h in record { digits = rw (e, digit_is n h); value = rw e (omega arith); some_digits = rw e (omega arith) })
    (λ n h r. let e = decimal_more n h in let f = length-append (unsigned_decimal (n / 10)) ((48 + n % 10) ∷ []) in record {
      digits = rw (e, all_append (unsigned_decimal (n / 10)) ((48 + n % 10) ∷ []), r.digits, digit_is (n % 10) (omega arith));
      value = rw (e, value_append (unsigned_decimal (n / 10)) ((48 + n % 10) ∷ []) 0, r.value) (omega arith);
      some_digits = rw (e, f) (omega arith);
    })

number_of_lem : (negative : Bool) (l : List ℕ) → all_digits l ≡ true → 1 ≤ length l → number_of (signs negative l) ≡ within32 (signed negative (value_of l))
number_of_lem negative [] e h = absurd (omega arith)
number_of_lem negative (d ∷ ds) e h = number_signs negative d ds e

pub decimal_read : (z : ℤ) → number_of (decimal_of z) ≡ within32 z
unfolding decimal_of
decimal_read (pos n) = let r = reads n in number_of_lem false (unsigned_decimal n) r.digits r.some_digits ∙ (rw r.value)
decimal_read (negsuc n) =
    let r = reads (n + 1) in
    number_of_lem true (unsigned_decimal (n + 1)) r.digits r.some_digits ∙ (rw (r.value, add-one))

-- ---- lines

pub spaced_append : (xs ys : List (List ℕ)) → spaced (xs ++ ys) ≡ spaced xs ++ spaced ys
spaced_append [] ys = refl
spaced_append (x ∷ xs) ys = ap (λ (l : List ℕ). 32 ∷ l) (ap (λ (l : List ℕ). x ++ l) (spaced_append xs ys) ∙ sym (append_assoc x (spaced xs) (spaced ys)))

pub head_is : (names : List (List ℕ)) → (bytes "scan" ++ spaced names) ++ bytes " result\n" ≡ head_line names
unfolding head_line
head_is names = rw (spaced_append names (bytes "result" ∷ [])) (simp append_assoc)

pub row_is : (number : ℕ) (values : List ℤ) (refusal : ℕ)
    → (((unsigned_decimal number ++ spaced (map decimal_of values)) ++ (32 ∷ [])) ++ unsigned_decimal refusal) ++ (10 ∷ []) ≡ row_line number values refusal
unfolding row_line
row_is number values refusal = rw (spaced_append (map decimal_of values) (unsigned_decimal refusal ∷ [])) (simp (append_assoc, append-nil))

pub refused_is : (number place : ℕ)
    → (((bytes "refused " ++ unsigned_decimal number) ++ bytes " at ") ++ unsigned_decimal place) ++ (10 ∷ []) ≡ refused_line number place
unfolding refused_line
refused_is number place = simp (append_assoc, append-nil)

-- ---- a table of names

-- what a pair of bounds spells
abbrev pub spelled : List ℕ → ℕ × ℕ → List ℕ
spelled text p = part text p.0 p.1

pub names_zip : (text starts ends : List ℕ) (n : ℕ) → table_names text starts ends n ≡ map (spelled text) (take n (zip starts ends))
unfolding table_names
names_zip text [] ends zero = refl
names_zip text [] ends (suc n) = refl
names_zip text (s ∷ starts) [] zero = refl
names_zip text (s ∷ starts) [] (suc n) = refl
names_zip text (s ∷ starts) (e ∷ ends) zero = refl
names_zip text (s ∷ starts) (e ∷ ends) (suc n) = ap (λ (l : List (List ℕ)). part text s e ∷ l) (names_zip text starts ends n)
