-- Bytes put one before the other. Assumes nothing.
use mathlib.Core.Path.{◌≡◌, refl, sym, ap, subst, ◌∙◌}
use mathlib.Core.List.{List, [], ◌∷◌, ◌++◌, reverse, append_assoc}
use Prim.Native.Nat.{ℕ, zero, suc, ◌+◌, ◌-◌, ◌/◌, ◌%◌, ◌≤◌, ◌<◌}
use native.Mathlib.Numerals.{add-one}
use native.Mathlib.Omega.{arith}
use Rattle.std.proofs.lemmas.List.{get_or-reverse}
use lib.ListN.{length, set, drop, get_or, length-set}
use lib.Seq.{drop-cons, sets, set_out}
use Rattle.leb128.proofs.Stores.{set_before}
use Rattle.lexer.specs.Bytes.{part}
use Rattle.lexer.specs.Names.{table_names, Table}
use Rattle.trace_text.specs.Output.{unsigned_decimal}
use Rattle.trace_text.proofs.Printing.{decimal_more}
use Rattle.st_writer.specs.Inner.Fronts.{openings, Fronts}

pub fronts_nothing : (m : List ℕ) (to : ℕ) → Fronts (λ l. l) m m to to
fronts_nothing m to = record { same = refl; grows = λ l. omega arith; place = λ l h. refl; memory = λ o l h e. e }

pub fronts_then : {f g : List ℕ → List ℕ} {m n k : List ℕ} {to p q : ℕ} → Fronts f m n to p → Fronts g n k p q → Fronts (λ l. g (f l)) m k to q
fronts_then {f} {g} h i =
    record {
      same = i.same ∙ h.same;
      grows = λ l. let a = h.grows l in let b = i.grows (f l) in omega arith;
      place = λ l s. let b = i.grows (f l) in let a = h.place l (omega arith) in i.place (f l) (omega arith) ∙ a;
      memory = λ o l s e. let b = i.grows (f l) in let a = h.place l (omega arith) in i.memory o (f l) (omega arith) (h.memory o l (omega arith) e);
    }

-- the same bytes in front
pub as_front : {f g : List ℕ → List ℕ} {m n : List ℕ} {to p : ℕ} → ((l : List ℕ) → g l ≡ f l) → Fronts f m n to p → Fronts g m n to p
as_front e w =
    record {
      same = w.same;
      grows = λ l. rw (e l) (w.grows l);
      place = λ l. rw (e l) (w.place l);
      memory = λ o l. rw (e l) (w.memory o l);
    }

-- one byte, with room for it or not
pub byte_first : (m : List ℕ) (to b : ℕ) → to ≡ 0 → Fronts (λ l. b ∷ l) m m to 0
byte_first m to b z = record {
  same = refl;
  grows = λ l. omega arith;
  place = λ l h. omega arith;
  memory = λ o l h e. let f : ⊥ = omega arith in absurd f;
}

pub byte_stored : (m : List ℕ) (to b : ℕ) → 0 < to → Fronts (λ l. b ∷ l) m (set m (to - 1) b) to (to - 1)
byte_stored m to b z =
    record {
      same = length-set m (to - 1) b;
      grows = λ l. omega arith;
      place = λ l h. omega arith;
      memory = λ o l h e. let s : suc (to - 1) ≡ to = omega arith in
          rw e (set_before o to (to - 1) b l (omega arith) ∙ ap (λ (i : ℕ). sets (set o (to - 1) b) i l) (sym s));
    }

pub byte_past : (m : List ℕ) (to b : ℕ) → 0 < to → length m ≤ to - 1 → Fronts (λ l. b ∷ l) m m to (to - 1)
byte_past m to b z h = subst (λ (k : List ℕ). Fronts (λ l. b ∷ l) m k to (to - 1)) (set_out m (to - 1) b h) (byte_stored m to b z)

-- one bracket more
pub opens_more : (k : ℕ) (m i j : List ℕ) (to p q : ℕ) → Fronts (openings k) m i to p → Fronts (λ l. 40 ∷ l) i j p q → Fronts (openings (k + 1)) m j to q
unfolding openings
opens_more k m i j to p q a b = rw add-one (fronts_then a b)

pub opens_none : (m : List ℕ) (to : ℕ) → Fronts (openings 0) m m to to
unfolding openings
opens_none m to = fronts_nothing m to

-- ---- words, right to left

-- the next byte of a word from its end
pub word_turn : (m i j word : List ℕ) (k to p q b : ℕ) → k < length word → b ≡ get_or (reverse word) k b → Fronts (λ l. drop (length word - k) word ++ l) m i to p
    → Fronts (λ l. b ∷ l) i j p q → Fronts (λ l. drop (length word - (k + 1)) word ++ l) m j to q
word_turn m i j word k to p q b h g a w =
    let n = length word - (k + 1) in
    let e : suc n ≡ length word - k = omega arith in
    let f : length word - 1 - k ≡ n = omega arith in
    let r : get_or word n b ≡ b = sym (g ∙ get_or-reverse word k b h ∙ ap (λ (x : ℕ). get_or word x b) f) in
    let d : drop n word ≡ b ∷ drop (length word - k) word = drop-cons word n b (omega arith) ∙ ap (λ (x : ℕ). x ∷ drop (suc n) word) r ∙ ap (λ (x : ℕ). b ∷ drop x word) e in
    rw d (fronts_then a w)

-- ---- decimals

pub decimal_front : (m i j : List ℕ) (n to p q : ℕ) → 10 ≤ n → Fronts (λ l. (48 + n % 10) ∷ l) m i to p → Fronts (λ l. unsigned_decimal (n / 10) ++ l) i j p q → Fronts (λ l. unsigned_decimal n ++ l) m j to q
decimal_front m i j n to p q h a b =
    as_front (λ l. ap (λ (k : List ℕ). k ++ l) (decimal_more n h) ∙ append_assoc (unsigned_decimal (n / 10)) ((48 + n % 10) ∷ []) l) (fronts_then a b)

-- ---- names of the table

pub name_at_lem : (text starts ends : List ℕ) (n i : ℕ) → Table starts ends n → i < n → get_or (table_names text starts ends n) i [] ≡ part text (get_or starts i 0) (get_or ends i 0)
unfolding table_names
name_at_lem text [] ends n i t h = absurd (omega (arith, t.in_starts))
name_at_lem text (s ∷ ss) [] n i t h = absurd (omega (arith, t.in_ends))
name_at_lem text (s ∷ ss) (e ∷ es) zero i t h = absurd (omega arith)
name_at_lem text (s ∷ ss) (e ∷ es) (suc n) zero t h = refl
name_at_lem text (s ∷ ss) (e ∷ es) (suc n) (suc i) t h =
    name_at_lem text ss es n i (record { in_starts = omega (arith, t.in_starts); in_ends = omega (arith, t.in_ends) }) (omega arith)

name_past : (text starts ends : List ℕ) (n i : ℕ) → n ≤ i → get_or (table_names text starts ends n) i [] ≡ []
unfolding table_names
name_past text [] ends n i h = refl
name_past text (s ∷ ss) [] n i h = refl
name_past text (s ∷ ss) (e ∷ es) zero i h = refl
name_past text (s ∷ ss) (e ∷ es) (suc n) zero h = absurd (omega arith)
name_past text (s ∷ ss) (e ∷ es) (suc n) (suc i) h = name_past text ss es n i (omega arith)

pub no_name : (m text starts ends : List ℕ) (n i to : ℕ) → n ≤ i → Fronts (λ l. get_or (table_names text starts ends n) i [] ++ l) m m to to
no_name m text starts ends n i to h = as_front (λ l. ap (λ (k : List ℕ). k ++ l) (name_past text starts ends n i h)) (fronts_nothing m to)

pub a_name : (m k text starts ends : List ℕ) (n i to p : ℕ) → Table starts ends n → i < n → Fronts (λ l. part text (get_or starts i 0) (get_or ends i 0) ++ l) m k to p
    → Fronts (λ l. get_or (table_names text starts ends n) i [] ++ l) m k to p
a_name m k text starts ends n i to p t h w = as_front (λ l. ap (λ (k : List ℕ). k ++ l) (name_at_lem text starts ends n i t h)) w
