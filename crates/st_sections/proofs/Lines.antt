-- Lines and sections, right to left. Assumes nothing.
use Prim.Native.String.{String}
use Prim.Native.Nat.{ℕ, zero, suc, ◌-◌, ◌≤◌, ◌<◌}
use native.Mathlib.Omega.{arith}
use mathlib.Core.Path.{◌≡◌, refl, sym, ap, ◌∙◌}
use mathlib.Core.Bool.{Bool, true, false}
use mathlib.Core.List.{List, [], ◌∷◌, ◌++◌, map}
use lib.IntN.{ℤ, pos}
use lib.ListN.{length, get_or, take, drop, length-append, length-map, length-drop, drop_of_length-le}
use lib.Seq.{drop-cons, length-take-le, get_or-take}
use Rattle.lexer.specs.Bytes.{bytes}
use Rattle.st.specs.Syntax.{Identifier, Declaration}
use Rattle.st.specs.Printed.{statement_printed, statements_printed, declarations_printed, section_printed}
use Rattle.semantics.specs.Program.{Name}
use Rattle.grammar.specs.Declarations.{spellings}
use Rattle.st_program.specs.Written.{current_line, previous_line, variable_lines, saving_line}
use Rattle.st_writer.specs.Inner.Fronts.{Fronts}
use Rattle.st_writer.proofs.Laws.{fronts_nothing, fronts_then, as_front}
use Rattle.st_sections.specs.Inner.Lines.{declarations_of, line_for, with_previous, line_printed, lines_printed, inputs_printed, variables_printed, sections_printed}

-- ---- names with their starts

abbrev nameless : Declaration
nameless = record { name = []; start = pos 0 }

pub declarations_counted : (ws : List Identifier) (zs : List ℤ) → length ws ≤ length zs → length (declarations_of ws zs) ≡ length ws
unfolding declarations_of
declarations_counted [] zs h = refl
declarations_counted (w ∷ ws) [] h = absurd (omega arith)
declarations_counted (w ∷ ws) (z ∷ zs) h = ap suc (declarations_counted ws zs (omega arith))

declaration_at : (ws : List Identifier) (zs : List ℤ) (i : ℕ) → i < length ws → i < length zs → get_or (declarations_of ws zs) i nameless ≡ record { name = get_or ws i []; start = get_or zs i (pos 0) }
unfolding declarations_of
declaration_at [] zs i h g = absurd (omega arith)
declaration_at (w ∷ ws) [] i h g = absurd (omega arith)
declaration_at (w ∷ ws) (z ∷ zs) zero h g = refl
declaration_at (w ∷ ws) (z ∷ zs) (suc i) h g = declaration_at ws zs i (omega arith) (omega arith)

-- ---- one element more in front
module _ {A : Type 0} (xs : List A) (d : A) where
  one_more : (i : ℕ) → 0 < i → i ≤ length xs → drop (i - 1) xs ≡ get_or xs (i - 1) d ∷ drop i xs
  one_more i z h = let e : suc (i - 1) ≡ i = omega arith in drop-cons xs (i - 1) d (omega arith) ∙ ap (λ (k : ℕ). get_or xs (i - 1) d ∷ drop k xs) e

  none_more : {B : Type 0} (f : List A → B) (i : ℕ) → i ≡ length xs → f (drop i xs) ≡ f []
  none_more f i h = let l : length xs ≤ i = omega arith in ap f (drop_of_length-le xs l)

-- ---- the lines of the first names
module _ (ws : List Identifier) (zs : List ℤ) (n : ℕ) (few : n ≤ length ws) (long : length ws ≤ length zs) (previous : Bool) where
  abbrev firsts : List Declaration
  firsts = take n (declarations_of ws zs)

  firsts_counted : length firsts ≡ n
  firsts_counted = length-take-le n (declarations_of ws zs) (omega (arith, declarations_counted ws zs long))

  pub lines_begun : {m : List ℕ} {to : ℕ} → Fronts (lines_printed (map (line_for previous) (drop n firsts))) m m to to
  unfolding lines_printed
  lines_begun {m} {to} = as_front (λ l. none_more firsts nameless (λ (ds : List Declaration). lines_printed (map (line_for previous) ds) l) n (sym firsts_counted)) (fronts_nothing m to)

  pub lines_more : {m k j : List ℕ} {to p q : ℕ} (i : ℕ) → 0 < i → i ≤ n → Fronts (lines_printed (map (line_for previous) (drop i firsts))) m k to p
      → Fronts (line_printed (line_for previous (record { name = get_or ws (i - 1) []; start = get_or zs (i - 1) (pos 0) }))) k j p q → Fronts (lines_printed (map (line_for previous) (drop (i - 1) firsts))) m j to q
  unfolding lines_printed
  lines_more i z h a b =
      let e : drop (i - 1) firsts ≡ record { name = get_or ws (i - 1) []; start = get_or zs (i - 1) (pos 0) } ∷ drop i firsts =
      one_more firsts nameless i z (omega (arith, firsts_counted)) ∙ ap (λ (d : Declaration). d ∷ drop i firsts) (get_or-take n (declarations_of ws zs) (i - 1) nameless (omega arith) ∙ declaration_at ws zs (i - 1) (omega arith) (omega arith)) in
      as_front (λ l. ap (λ (ds : List Declaration). lines_printed (map (line_for previous) ds) l) e) (fronts_then a b)

-- ---- names from one on, each with its previous value
module _ (ws : List Identifier) (zs : List ℤ) (long : length ws ≤ length zs) where
  abbrev all : List Declaration
  all = declarations_of ws zs

  pub pairs_begun : {m : List ℕ} {to : ℕ} (n : ℕ) → n ≡ length ws → Fronts (lines_printed (with_previous (drop n all))) m m to to
  unfolding lines_printed with_previous
  pairs_begun {m} {to} n e = as_front (λ l. none_more all nameless (λ (ds : List Declaration). lines_printed (with_previous ds) l) n (e ∙ sym (declarations_counted ws zs long))) (fronts_nothing m to)

  pub pairs_more : {m k i j : List ℕ} {to p q r : ℕ} (n : ℕ) → 0 < n → n ≤ length ws → Fronts (lines_printed (with_previous (drop n all))) m k to p
      → Fronts (line_printed (line_for true (record { name = get_or ws (n - 1) []; start = get_or zs (n - 1) (pos 0) }))) k i p q
      → Fronts (line_printed (line_for false (record { name = get_or ws (n - 1) []; start = get_or zs (n - 1) (pos 0) }))) i j q r → Fronts (lines_printed (with_previous (drop (n - 1) all))) m j to r
  unfolding lines_printed with_previous
  pairs_more n z h a b c =
      let e : drop (n - 1) all ≡ record { name = get_or ws (n - 1) []; start = get_or zs (n - 1) (pos 0) } ∷ drop n all =
      one_more all nameless n z (omega (arith, declarations_counted ws zs long)) ∙ ap (λ (d : Declaration). d ∷ drop n all) (declaration_at ws zs (n - 1) (omega arith) (omega arith)) in
      as_front (λ l. ap (λ (ds : List Declaration). lines_printed (with_previous ds) l) e) (fronts_then (fronts_then a b) c)

-- ---- the previous-value lines
module _ (ws : List Identifier) {m : List ℕ} {to : ℕ} where
  pub savings_begun : (n : ℕ) → n ≡ length ws → Fronts (statements_printed (map saving_line (drop n ws))) m m to to
  unfolding statements_printed
  savings_begun n e = as_front (λ l. none_more ws [] (λ (ds : List Identifier). statements_printed (map saving_line ds) l) n e) (fronts_nothing m to)

  pub savings_more : {k j : List ℕ} {p q : ℕ} (n : ℕ) → 0 < n → n ≤ length ws → Fronts (statements_printed (map saving_line (drop n ws))) m k to p
      → Fronts (statement_printed (saving_line (get_or ws (n - 1) []))) k j p q → Fronts (statements_printed (map saving_line (drop (n - 1) ws))) m j to q
  unfolding statements_printed
  savings_more n z h a b = as_front (λ l. ap (λ (ds : List Identifier). statements_printed (map saving_line ds) l) (one_more ws [] n z h)) (fronts_then a b)

-- ---- sections

ended : (ds : List Declaration) (l : List ℕ) → declarations_printed ds l ≡ lines_printed ds (bytes "END_VAR\n" ++ l)
unfolding declarations_printed lines_printed
ended [] l = refl
ended (d ∷ ds) l = ap (line_printed d) (ended ds l)

lines_joined : (ds es : List Declaration) (l : List ℕ) → lines_printed (ds ++ es) l ≡ lines_printed ds (lines_printed es l)
unfolding lines_printed
lines_joined [] es l = refl
lines_joined (d ∷ ds) es l = ap (line_printed d) (lines_joined ds es l)

pairs_many : (ds : List Declaration) → length ds ≤ length (with_previous ds)
unfolding with_previous
pairs_many [] = omega arith
pairs_many (d ∷ ds) = omega (arith, pairs_many ds)

map_itself : (ds : List Declaration) → map (line_for false) ds ≡ ds
map_itself [] = refl
map_itself (d ∷ ds) = ap (λ (l : List Declaration). d ∷ l) (map_itself ds)

some_section : (word : String) (ds : List Declaration) (l : List ℕ) → 0 < length ds → section_printed word ds l ≡ bytes word ++ (10 ∷ lines_printed ds (bytes "END_VAR\n" ++ l))
unfolding section_printed
some_section word [] l h = absurd (omega arith)
some_section word (d ∷ ds) l h = ap (λ (k : List ℕ). bytes word ++ (10 ∷ k)) (ended (d ∷ ds) l)

no_variables : (n : ℕ) (ds : List Declaration) (l : List ℕ) → length ds ≡ 0 → variables_printed n ds l ≡ l
unfolding section_printed with_previous
no_variables zero [] l e = refl
no_variables (suc n) [] l e = refl
no_variables n (d ∷ ds) l e = absurd (omega arith)

module _ (n : ℕ) (ds : List Declaration) {m : List ℕ} {to : ℕ} where
  pub inputs_none : n ≡ 0 → Fronts (inputs_printed n ds) m m to to
  unfolding section_printed
  inputs_none e = as_front (λ l. ap (λ (k : ℕ). inputs_printed k ds l) e) (fronts_nothing m to)

  pub variables_none : length ds ≡ 0 → Fronts (variables_printed n ds) m m to to
  variables_none e = as_front (λ l. no_variables n ds l e) (fronts_nothing m to)

  pub inputs_whole : {k j h : List ℕ} {p q r : ℕ} → 0 < n → n ≤ length ds → Fronts (λ l. bytes "END_VAR\n" ++ l) m k to p → Fronts (lines_printed (map (line_for false) (take n ds))) k j p q
      → Fronts (λ l. bytes "VAR_INPUT\n" ++ l) j h q r → Fronts (inputs_printed n ds) m h to r
  inputs_whole z g a b c =
      let some : 0 < length (take n ds) = omega (arith, length-take-le n ds g) in
      as_front (λ l. some_section "VAR_INPUT" (take n ds) l some ∙ ap (λ (es : List Declaration). bytes "VAR_INPUT\n" ++ lines_printed es (bytes "END_VAR\n" ++ l)) (sym (map_itself (take n ds)))) (fronts_then (fronts_then a b) c)

  pub variables_whole : {k i j h : List ℕ} {p q r s : ℕ} → 0 < length ds → n ≤ length ds → Fronts (λ l. bytes "END_VAR\n" ++ l) m k to p → Fronts (lines_printed (with_previous (drop n ds))) k i p q
      → Fronts (lines_printed (map (line_for true) (take n ds))) i j q r → Fronts (λ l. bytes "VAR\n" ++ l) j h r s → Fronts (variables_printed n ds) m h to s
  variables_whole z g a b c d =
      let firsts = map (line_for true) (take n ds) in
      let own = with_previous (drop n ds) in
      let some : 0 < length (firsts ++ own) = omega (arith, length-append firsts own, length-map (take n ds) (line_for true), length-take-le n ds g, pairs_many (drop n ds), length-drop n ds) in
      as_front (λ l. some_section "VAR" (firsts ++ own) l some ∙ ap (λ (k : List ℕ). bytes "VAR\n" ++ k) (lines_joined firsts own (bytes "END_VAR\n" ++ l))) (fronts_then (fronts_then (fronts_then a b) c) d)

-- ---- the names of a program

abbrev starts_in : List Name → List ℤ
starts_in ns = map (λ n. n.range.start) ns

-- memory behind the starts does not count
declared_lines : (ns : List Name) (rest : List ℤ) → declarations_of (spellings ns) (starts_in ns ++ rest) ≡ map current_line ns
unfolding declarations_of
declared_lines [] rest = refl
declared_lines (n ∷ ns) rest = ap (λ (ds : List Declaration). current_line n ∷ ds) (declared_lines ns rest)

take_lines : (n : ℕ) (ns : List Name) → take n (map current_line ns) ≡ map current_line (take n ns)
take_lines zero ns = refl
take_lines (suc n) [] = refl
take_lines (suc n) (x ∷ ns) = ap (λ (ds : List Declaration). current_line x ∷ ds) (take_lines n ns)

drop_lines : (n : ℕ) (ns : List Name) → drop n (map current_line ns) ≡ map current_line (drop n ns)
drop_lines zero ns = refl
drop_lines (suc n) [] = refl
drop_lines (suc n) (x ∷ ns) = drop_lines n ns

previous_lines : (ns : List Name) → map (line_for true) (map current_line ns) ≡ map previous_line ns
previous_lines [] = refl
previous_lines (n ∷ ns) = ap (λ (ds : List Declaration). previous_line n ∷ ds) (previous_lines ns)

pair_lines : (ns : List Name) → with_previous (map current_line ns) ≡ variable_lines ns
unfolding with_previous
pair_lines [] = refl
pair_lines (n ∷ ns) = ap (λ (ds : List Declaration). current_line n ∷ previous_line n ∷ ds) (pair_lines ns)

-- what the sections hold is the program's
pub sections_program : (inputs : ℕ) (ns : List Name) (rest : List ℤ) (l : List ℕ) → sections_printed inputs (declarations_of (spellings ns) (starts_in ns ++ rest)) l
    ≡ section_printed "VAR_INPUT" (map current_line (take inputs ns)) (section_printed "VAR" (map previous_line (take inputs ns) ++ variable_lines (drop inputs ns)) l)
sections_program inputs ns rest l =
    ap (λ (ds : List Declaration). sections_printed inputs ds l) (declared_lines ns rest)
    ∙ ap (λ (ds : List Declaration). section_printed "VAR_INPUT" ds (section_printed "VAR" (map (line_for true) ds ++ with_previous (drop inputs (map current_line ns))) l)) (take_lines inputs ns)
    ∙ ap (λ (ds : List Declaration). section_printed "VAR_INPUT" (map current_line (take inputs ns)) (section_printed "VAR" (map (line_for true) (map current_line (take inputs ns)) ++ with_previous ds) l)) (drop_lines inputs ns)
    ∙ ap (λ (ds : List Declaration). section_printed "VAR_INPUT" (map current_line (take inputs ns)) (section_printed "VAR" (ds ++ with_previous (map current_line (drop inputs ns))) l)) (previous_lines (take inputs ns))
    ∙ ap (λ (ds : List Declaration). section_printed "VAR_INPUT" (map current_line (take inputs ns)) (section_printed "VAR" (map previous_line (take inputs ns) ++ ds) l)) (pair_lines (drop inputs ns))
