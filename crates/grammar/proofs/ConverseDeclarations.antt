-- Tokens that spell declarations are read as them. Assumes nothing.
use mathlib.Core.Path.{◌≡◌, refl, ap, sym, ◌∙◌, subst}
use mathlib.Core.List.{List, [], ◌∷◌, ◌++◌, append_assoc, append-nil, map-append}
use mathlib.Core.Bool.{Bool, true, false, ◌&&◌}
use mathlib.Core.Option.{none}
use Prim.Native.Nat.{ℕ, zero, suc, ◌+◌, ◌-◌, ◌≤◌, ◌<◌}
use native.Mathlib.Omega.{arith}
use lib.ListN.{length, length-append}
use lib.IntN.{ℤ}
use lib.Signed.{le_z}
use borrow.Author.Tests.{lt-ltb, le-ltb, eq-eqb}
use Rattle.limits.specs.Limits.{name_limit}
use Rattle.arith.specs.Values.{is_int32}
use Rattle.arith.proofs.Basics.{T_true, and_left, and_right, and_T}
use Rattle.lexer.specs.Bytes.{bytes}
use Rattle.lexer.specs.Token.{Kind, kind_number, digits, init_word, dots, semicolon, minus, is, token, spelling_of}
use Rattle.lexer.specs.Lexer.{token_at, over_long}
use Rattle.lexer.proofs.Laws.{token_at_moved}
use Rattle.semantics.specs.Program.{Range, Name, RangeFits}
use Rattle.grammar.specs.Parsed.{accepted, sign, phrase}
use Rattle.grammar.specs.Declarations.{in_range, signed_digits, bound_at, spellings, new_name, start_at, declaration, declarations_from}
use Rattle.grammar.specs.Derivation.{Stands, Spells, IsName, as_written}
use Rattle.grammar.specs.Spelled.{SpellsZ, positive, negative, SpellsStart, absent, given, Declares, declares, DeclareAll, Apart, Distinct}
use Rattle.grammar.specs.Spelled as S
use Rattle.grammar.proofs.Bytes.{part_length}
use Rattle.grammar.proofs.Distinct.{apart-new, distinct_at}
use Rattle.lexer.proofs.Spellings.{is_fixed}
use Rattle.grammar.proofs.Standing.{at_kind, split, stands_in, spells_in, is_read, written}
use Rattle.grammar.proofs.Phrases.{signs, fixed_at, name_at_lem, phrase_reads, followed_reads}

module _ (text : List ℕ) where
  -- ---- bounds

  bound_reads : (test : ℤ → Bool) (ts : List (List ℕ)) (z : ℤ) → SpellsZ ts z → is_int32 z ≡ true → test z ≡ true → (a n : ℕ) → a ≤ length text → Spells as_written text a n ts → bound_at test text a ≡ accepted z n
  unfolding bound_at signed_digits is_fixed is kind_number
  bound_reads test ts z (positive w d) fit pass a n h g =
      let st = g.1 in
      rw (at_kind written text digits w d a g.0 h st, st.spelled, fit, pass, g.2)
  bound_reads test ts z (negative w d) fit pass a n h g =
      let i = (stands_in written text a g.0 (bytes "-") h g.1).1 in
      let k = g.2 in
      rw (fixed_at written text minus refl a g.0 h g.1, at_kind written text digits w d g.0 k.0 i k.1, k.1.spelled, fit, pass, k.2)

  start_reads : (low high : ℤ) (vs : List (List ℕ)) (z : ℤ) → SpellsStart vs z → is_int32 z ≡ true → in_range low high z ≡ true → (a n : ℕ) → a ≤ length text → Spells as_written text a n (vs ++ bytes ";" ∷ []) → start_at text low high a ≡ accepted z n
  unfolding start_at signs is_fixed is kind_number
  start_reads low high vs z absent fit pass a n h g = rw (fixed_at written text semicolon refl a g.0 h g.1, pass, g.2)
  start_reads low high vs z (given ts y d) fit pass a n h g =
      let i = (stands_in written text a g.0 (bytes "init") h g.1).1 in
      let p = split written text g.0 n ts (bytes ";" ∷ []) g.2 in
      let j = (spells_in written text g.0 p.place ts i p.first).1 in
      rw (fixed_at written text init_word refl a g.0 h g.1, bound_reads (in_range low high) ts y d fit pass g.0 p.place i p.first, followed_reads written text (sign semicolon ∷ []) refl tt y p.place n j p.second)

  -- ---- a declaration

  pub name_reads : (names : List Name) (w : List ℕ) → IsName w → Apart w (spellings names) → length names < 64 → (a n : ℕ) → a ≤ length text → Stands as_written text a n w → new_name text names a ≡ accepted w n
  unfolding new_name over_long is kind_number
  name_reads names w nm apart room a n h st =
      let mv = token_at_moved text a st.kind st.start n h (is_read st) in
      let lw : length w ≡ n - st.start = sym (ap length st.spelled) ∙ part_length text st.start n mv.1 mv.2 in
      rw (name_at_lem written text w nm a n h st, st.spelled, apart-new (spellings names) w apart, le-ltb 16 (n - st.start) (omega arith), lt-ltb (length names) name_limit room)

  -- where a declaration's word stands, and what is read after it
  pub record DeclarationRead (word : Kind) (names : List Name) (a m : ℕ) (x : Name) : Type 0 where
    pub start : ℕ
    pub place : ℕ
    pub is_word : token_at text a ≡ token word start place
    pub within : place ≤ length text
    pub reads : declaration text names place ≡ accepted x m

  -- what each part of a declaration reads as makes the declaration
  declaration_goes : (names : List Name) (w : List ℕ) (r : Range) (a n1 n2 n3 n4 n5 : ℕ) → new_name text names a ≡ accepted w n1 → bound_at (λ z. true) text n1 ≡ accepted r.low n2 → phrase text (sign dots ∷ []) n2 ≡ accepted tt n3 → bound_at (le_z r.low) text n3 ≡ accepted r.high n4 → start_at text r.low r.high n4 ≡ accepted r.start n5 → declaration text names a ≡ accepted (record { spelling = w; range = r }) n5
  unfolding declaration
  declaration_goes names w r a n1 n2 n3 n4 n5 e1 e2 e3 e4 e5 = rw (e1, e2, e3, e4, e5)

  -- bounds and start, by their tests
  range_tests : (r : Range) → RangeFits r → (is_int32 r.low ≡ true) × (is_int32 r.high ≡ true) × (le_z r.low r.high ≡ true) × (is_int32 r.start ≡ true) × (in_range r.low r.high r.start ≡ true)
  unfolding in_range
  range_tests r fits =
      let z = r.start in
      let front = and_left (is_int32 z && le_z r.low z) (le_z z r.high) fits.2 in (
        T_true (is_int32 r.low) fits.0,
        T_true (is_int32 r.high) (and_left (is_int32 r.high) (le_z r.low r.high) fits.1),
        T_true (le_z r.low r.high) (and_right (is_int32 r.high) (le_z r.low r.high) fits.1),
        T_true (is_int32 z) (and_left (is_int32 z) (le_z r.low z) front),
        T_true (le_z r.low z && le_z z r.high) (and_T (le_z r.low z) (le_z z r.high) (and_right (is_int32 z) (le_z r.low z) front) (and_right (is_int32 z && le_z r.low z) (le_z z r.high) fits.2)),
      )

  declaration_reads : (word : Kind) → is_fixed word ≡ true → (names : List Name) (ts : List (List ℕ)) (x : Name) → Declares (spelling_of word) ts x → Apart x.spelling (spellings names) → length names < 64 → (a m : ℕ) → a ≤ length text → Spells as_written text a m ts → DeclarationRead word names a m x
  unfolding signs is_fixed kind_number
  declaration_reads word f names ts x (declares w ls hs vs r nm dl dh ds fits) apart room a m h g =
      let g1 : Spells as_written text a m ((spelling_of word ∷ w ∷ ls ++ bytes ".." ∷ hs) ++ (vs ++ bytes ";" ∷ [])) = subst (Spells as_written text a m) (append_assoc (spelling_of word ∷ w ∷ ls ++ bytes ".." ∷ hs) vs (bytes ";" ∷ [])) g in
      let p = split written text a m (spelling_of word ∷ w ∷ ls ++ bytes ".." ∷ hs) (vs ++ bytes ";" ∷ []) g1 in
      let q = split written text a p.place (spelling_of word ∷ w ∷ ls) (bytes ".." ∷ hs) p.first in
      let n0 = q.first.0 in
      let i0 = (stands_in written text a n0 (spelling_of word) h q.first.1).1 in
      let k = q.first.2 in
      let n1 = k.0 in
      let i1 = (stands_in written text n0 n1 w i0 k.1).1 in
      let n2 = q.place in
      let i2 = (spells_in written text n1 n2 ls i1 k.2).1 in
      let n3 = q.second.0 in
      let i3 = (stands_in written text n2 n3 (bytes "..") i2 q.second.1).1 in
      let n4 = p.place in
      let i4 = (spells_in written text n3 n4 hs i3 q.second.2).1 in
      let t = range_tests r fits in
      record {
        start = q.first.1.start;
        place = n0;
        is_word = fixed_at written text word f a n0 h q.first.1;
        within = i0;
        reads = declaration_goes names w r n0 n1 n2 n3 n4 m
            (name_reads names w nm apart room n0 n1 i0 k.1)
            (bound_reads (λ z. true) ls r.low dl t.0 refl n1 n2 i1 k.2)
            (phrase_reads written text (sign dots ∷ []) refl tt n2 n3 i2 (n3, q.second.1, refl))
            (bound_reads (le_z r.low) hs r.high dh t.1 t.2 n3 n4 i3 q.second.2)
            (start_reads r.low r.high vs r.start ds t.3 t.4 n4 m i4 p.second);
      }

  -- ---- all declarations that begin with a word

  declarations_on : (word : Kind) (f a s n m : ℕ) (names : List Name) (x : Name) → token_at text a ≡ token word s n → declaration text names n ≡ accepted x m → declarations_from (suc f) word text names a ≡ declarations_from f word text (names ++ (x ∷ [])) m
  unfolding declarations_from is
  declarations_on word f a s n m names x et e = rw (et, eq-eqb (kind_number word) (kind_number word) refl, e)

  declarations_stop : (word k : Kind) (f a s n : ℕ) (names : List Name) → token_at text a ≡ token k s n → is k word ≡ false → declarations_from f word text names a ≡ accepted names a
  unfolding declarations_from
  declarations_stop word k zero a s n names et e = refl
  declarations_stop word k (suc f) a s n names et e = rw (et, e)

  pub declarations_read : (word : Kind) → is_fixed word ≡ true → (f : ℕ) (names : List Name) (ts : List (List ℕ)) (l : List Name) → DeclareAll (spelling_of word) ts l → Distinct (spellings (names ++ l)) → length names + length l ≤ 64 → length l ≤ f → (a n : ℕ) → a ≤ length text → Spells as_written text a n ts → (k : Kind) (s m : ℕ) → token_at text n ≡ token k s m → is k word ≡ false → declarations_from f word text names a ≡ accepted (names ++ l) n
  declarations_read word fx f names ts l S.DeclareAll.none di few fuel a n h g k s m et nw =
      subst (λ (y : ℕ). declarations_from f word text names a ≡ accepted (names ++ []) y) g
      (declarations_stop word k f a s m names (subst (λ (y : ℕ). token_at text y ≡ token k s m) (sym g) et) nw ∙ ap (λ (y : List Name). accepted y a) (sym (append-nil names)))
  declarations_read word fx zero names ts l (S.DeclareAll.more us vs x k d r) di few fuel a n h g w s m et nw = absurd (omega arith)
  declarations_read word fx (suc f) names ts l (S.DeclareAll.more us vs x k d r) di few fuel a n h g w s m et nw =
      let p = split written text a n us vs g in
      let i = (spells_in written text a p.place us h p.first).1 in
      let apart : Apart x.spelling (spellings names) = distinct_at (spellings names) x.spelling (spellings k) (subst Distinct (map-append (λ (x : Name). x.spelling) names (x ∷ k)) di) in
      let c = declaration_reads word fx names us x d apart (omega arith) a p.place h p.first in
      let one : length (names ++ (x ∷ [])) ≡ length names + 1 = length-append names (x ∷ []) in
      let same : (names ++ (x ∷ [])) ++ k ≡ names ++ (x ∷ k) = append_assoc names (x ∷ []) k in
      declarations_on word f a c.start c.place p.place names x c.is_word c.reads
      ∙ (declarations_read word fx f (names ++ (x ∷ [])) vs k r (subst (λ (y : List Name). Distinct (spellings y)) (sym same) di) (omega arith) (omega arith) p.place n i p.second w s m et nw
      ∙ ap (λ (y : List Name). accepted y n) same)
