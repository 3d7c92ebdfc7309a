-- A token refused by 2 begins no form of fixed tokens and no declarations of the bare grammar. Assumes nothing.
use mathlib.Core.Path.{◌≡◌, refl, ap, sym, ◌∙◌, subst}
use mathlib.Core.List.{List, [], ◌∷◌, ◌++◌, append_assoc}
use mathlib.Core.Bool.{Bool, true, false, ◌&&◌}
use mathlib.Core.Option.{none}
use Prim.Native.Nat.{ℕ, zero, suc, ◌+◌, ◌≤◌, ◌<◌}
use native.Mathlib.Omega.{arith}
use lib.ListN.{length, length-append}
use lib.Dec.{ltb}
use lib.IntN.{ℤ, pos, neg_ℤ}
use borrow.Author.Tests.{ltb-true}
use Rattle.limits.specs.Limits.{name_limit}
use Rattle.arith.specs.Values.{is_int32}
use Rattle.lexer.specs.Bytes.{bytes, part}
use Rattle.lexer.specs.Token.{Kind, kind_number, name, digits, minus, dots, init_word, semicolon, is, token, spelling_of}
use Rattle.lexer.specs.Lexer.{token_at, over_long, value_of}
use Rattle.lexer.specs.Names.{id_of}
use Rattle.lexer.proofs.Laws.{cond_prop, token_at_moved}
use Rattle.semantics.specs.Program.{Name}
use Rattle.grammar.specs.Parsed.{Parsed, accepted, refused, Wanted, sign, is_wanted, expected, phrase, followed}
use Rattle.grammar.specs.Declarations.{in_range, signed_digits, bound_at, spellings, new_name, start_at, declaration, declarations_from}
use Rattle.lexer.specs.Spelling.{IsDigits, SpellsName}
use Rattle.grammar.specs.Derivation.{Tokens, Stands, normal}
use Rattle.grammar.specs.Spelled.{positive, negative, absent, given}
use Rattle.grammar.proofs.Bytes.{heads}
use Rattle.grammar.proofs.Combine.{Holds, token_prop, then_prop, option_prop, never}
use Rattle.lexer.proofs.Spellings.{is_fixed, fixed_spelling}
use Rattle.grammar.proofs.Standing.{stands, normally}
use Rattle.grammar.proofs.Derived.{sign_stands}
use Rattle.grammar.proofs.Phrases.{wanted_token, wanted_tokens, signs, fixed_stands, wanted_stands, signs_more, Owns, owns_more, expected_reads, SeenAll, seen_more}
use Rattle.faults.specs.Grammar as G
use Rattle.faults.specs.Grammar.{IsDeclaration, AreDeclarations}
use Rattle.faults.proofs.Languages.{Joins, These, OneOf, Bound, Start, High, Dots, Low, Declared}
use Rattle.faults.proofs.Sole.{Ahead, Sole, by_other, refused_sole, one_sole, nothing_sole, with_value, behind, narrow, then_sole, cond_sole, option_sole, token_sole, NoSign, not_sign, first_bytes, first_ahead}
use Rattle.faults.proofs.SoleParts.{Anything, apart}

pub one_of : {P : List ℕ → Type 0} (w : List ℕ) (us xs ys : Tokens) → w ∷ us ≡ xs ++ ys → OneOf P xs → xs ≡ w ∷ []
one_of w us xs ys q l = l.1 ∙ ap (λ (x : List ℕ). x ∷ []) (sym (heads (q ∙ ap (λ (y : Tokens). y ++ ys) l.1)))

-- the word of a kind
abbrev pub Word : Kind → List ℕ → Type 0
Word k w = w ≡ spelling_of k

module _ (text : List ℕ) where
  -- ---- fixed tokens

  not_wanted : (w : Wanted) (at : ℕ) (k : Kind) (s n : ℕ) → token_at text at ≡ token k s n → is_wanted text w k s n ≡ false → expected text w at ≡ refused 2 s
  unfolding expected
  not_wanted w at k s n e t = rw (e, t)

  expected_sole : (w : Wanted) (ws : List Wanted) → signs (w ∷ ws) ≡ true → Owns normally text (w ∷ ws) → SeenAll normally text (w ∷ ws) → (at : ℕ) → at ≤ length text → Sole (These (wanted_token w ∷ [])) Anything text at (expected text w at)
  unfolding expected
  expected_sole w ws f o seen at h =
      token_sole text at
      (λ k s n e. cond_sole (is_wanted text w k s n) (λ t. one_sole tt (wanted_stands normally text w ws f seen at k s n h e t) (λ us xs ys q l z. l))
      (λ t. refused_sole e (λ us xs ys ah q l z.
      let b = first_bytes k (normal (part text s n)) (wanted_token w) us ys ah (q ∙ ap (λ (y : Tokens). y ++ ys) l) in
      never 2 s n tt (sym (not_wanted w at k s n e t) ∙ expected_reads normally text w ws f o at n h (subst (Stands normal text at n) b.1 (stands normally text at k s n h b.0 e))))))

  pub phrase_sole : (ws : List Wanted) → signs ws ≡ true → Owns normally text ws → SeenAll normally text ws → (at : ℕ) → at ≤ length text → Sole (These (wanted_tokens ws)) Anything text at (phrase text ws at)
  unfolding phrase
  phrase_sole [] f o seen at h = nothing_sole tt (λ us xs ys ah q l z. l)
  phrase_sole (w ∷ ws) f o seen at h =
      then_sole {L = These (wanted_token w ∷ [])} {M = These (wanted_tokens ws)} {N = These (wanted_tokens (w ∷ ws))} {S = Anything} {S2 = Anything} h (λ zs q. (wanted_token w ∷ [], wanted_tokens ws, q, refl, refl)) (λ xs ys l z. tt)
      (expected_sole w ws f o seen at h) (λ u n i j e. phrase_sole ws (signs_more normally text w ws f) (owns_more normally text w ws o) (seen_more normally text w ws seen) n j)

  pub followed_by_sole : {A : Type 0} (ws : List Wanted) → signs ws ≡ true → Owns normally text ws → SeenAll normally text ws → (x : A) (at : ℕ) → at ≤ length text → Sole (These (wanted_tokens ws)) Anything text at (followed text ws x at)
  unfolding followed
  followed_by_sole ws f o seen x at h = with_value (λ u. x) (phrase_sole ws f o seen at h)

  -- ---- declarations

  signed_sole : (test : ℤ → Bool) (signed : ℤ → ℤ) (at : ℕ) (k : Kind) (s n : ℕ) → at ≤ length text → token_at text at ≡ token k s n → Sole (OneOf IsDigits) Anything text at (signed_digits test signed text k s n)
  unfolding signed_digits is kind_number
  signed_sole test signed at k s n h e =
      let z = signed (pos (value_of (part text s n))) in
      cond_sole (is k digits)
      (λ t. cond_sole (is_int32 z && test z) (λ x. one_sole z (sign_stands normally text digits refl at k s n h e t).0 (λ us xs ys q l y. one_of (normal (part text s n)) us xs ys q l)) (λ x. by_other 3 (λ q. omega (arith, q))))
      (λ t. refused_sole e (λ us xs ys ah q l y. first_ahead text at k s n h e us ys l.0 ah (q ∙ ap (λ (x : Tokens). x ++ ys) l.1) digits l.2 (apart k digits refl t)))

  bound_sole : (test : ℤ → Bool) (at : ℕ) → at ≤ length text → Sole Bound Anything text at (bound_at test text at)
  unfolding bound_at is_fixed is kind_number
  bound_sole test at h =
      token_sole text at
      (λ k s n e. cond_sole (is k minus)
      (λ t.
      let i = (token_at_moved text at k s n h e).2 in
      behind (bytes "-") (fixed_stands normally text minus refl at k s n h e t) (λ us xs ys q l y. minus_goes us xs ys q l) (token_sole text n (λ k2 s2 n2 e2. signed_sole test neg_ℤ n k2 s2 n2 i e2)))
      (λ t. narrow h (λ us xs ys ah q l y. no_minus k s n e t us xs ys (ah k s n e) q l) (signed_sole test (λ z. z) at k s n h e)))
    where
      minus_goes : (us xs ys : Tokens) → bytes "-" ∷ us ≡ xs ++ ys → Bound xs → (zs : Tokens) × (xs ≡ bytes "-" ∷ zs) × OneOf IsDigits zs
      minus_goes us xs ys q (z, positive w d) = absurd (not_sign minus digits (bytes "-") w refl d (apart minus digits refl refl) (heads q))
      minus_goes us xs ys q (z, negative w d) = (w ∷ [], refl, (w, refl, d))

      no_minus : (k : Kind) (s n : ℕ) → token_at text at ≡ token k s n → is k minus ≡ false → (us xs ys : Tokens) → Ahead k (normal (part text s n)) us → us ≡ xs ++ ys → Bound xs → OneOf IsDigits xs
      no_minus k s n e t us xs ys ah q (z, positive w d) = (w, refl, d)
      no_minus k s n e t us xs ys ah q (z, negative w d) = absurd (first_ahead text at k s n h e us (w ∷ ys) (bytes "-") ah q minus refl (apart k minus refl t))

  pub name_sole : (names : List Name) (at : ℕ) → at ≤ length text → Sole (OneOf SpellsName) Anything text at (new_name text names at)
  unfolding new_name is kind_number
  name_sole names at h =
      token_sole text at
      (λ k s n e. cond_sole (is k name)
      (λ t. option_sole (id_of (spellings names) (part text s n))
      (λ z. cond_sole (over_long s n) (λ x. by_other 8 (λ q. omega (arith, q)))
      (λ x. cond_sole (ltb (length names) name_limit) (λ y. one_sole _ (sign_stands normally text name refl at k s n h e t).0 (λ us xs ys q l y. one_of (normal (part text s n)) us xs ys q l)) (λ y. by_other 8 (λ q. omega (arith, q)))))
      (λ i z. by_other 4 (λ q. omega (arith, q))))
      (λ t. refused_sole e (λ us xs ys ah q l y. first_ahead text at k s n h e us ys l.0 ah (q ∙ ap (λ (x : Tokens). x ++ ys) l.1) name l.2 (apart k name refl t))))

  start_sole : (low high : ℤ) (at : ℕ) → at ≤ length text → Sole Start Anything text at (start_at text low high at)
  unfolding start_at is_fixed is kind_number signs
  start_sole low high at h =
      token_sole text at
      (λ k s n e. cond_sole (is k init_word)
      (λ t.
      let i = (token_at_moved text at k s n h e).2 in
      behind (bytes "init") (fixed_stands normally text init_word refl at k s n h e t) (λ us xs ys q l y. init-goes us xs ys q l)
      (then_sole {L = Bound} {M = These (bytes ";" ∷ [])} {N = Joins Bound (These (bytes ";" ∷ []))} {S = Anything} {S2 = Anything} i (λ zs j. j) (λ xs ys l z. tt) (bound_sole (in_range low high) n i)
      (λ z m j l q. followed_by_sole (sign semicolon ∷ []) refl tt tt z m l)))
      (λ t1. cond_sole (is k semicolon)
      (λ t. cond_sole (in_range low high (pos 0)) (λ x. one_sole _ (fixed_stands normally text semicolon refl at k s n h e t) (λ us xs ys q l y. only_end us xs ys q l)) (λ x. by_other 3 (λ q. omega (arith, q))))
      (λ t2. refused_sole e (λ us xs ys ah q l y. no_start k s n e t1 t2 us xs ys ah q l))))
    where
      init-goes : (us xs ys : Tokens) → bytes "init" ∷ us ≡ xs ++ ys → Start xs → (zs : Tokens) × (xs ≡ bytes "init" ∷ zs) × Joins Bound (These (bytes ";" ∷ [])) zs
      init-goes us xs ys q (ss, z, l, absent) = absurd (not_sign init_word semicolon (bytes "init") (bytes ";") refl refl (apart init_word semicolon refl refl) (heads (q ∙ ap (λ (x : Tokens). x ++ ys) l)))
      init-goes us xs ys q (ss, z, l, given ts y g) = (ts ++ bytes ";" ∷ [], l, (ts, bytes ";" ∷ [], refl, (y, g), refl))

      only_end : (us xs ys : Tokens) → bytes ";" ∷ us ≡ xs ++ ys → Start xs → xs ≡ bytes ";" ∷ []
      only_end us xs ys q (ss, z, l, absent) = l
      only_end us xs ys q (ss, z, l, given ts y g) = absurd (not_sign semicolon init_word (bytes ";") (bytes "init") refl refl (apart semicolon init_word refl refl) (heads (q ∙ ap (λ (x : Tokens). x ++ ys) l)))

      no_start : (k : Kind) (s n : ℕ) → token_at text at ≡ token k s n → is k init_word ≡ false → is k semicolon ≡ false → (us xs ys : Tokens) → Ahead k (normal (part text s n)) us → us ≡ xs ++ ys → Start xs → ⊥
      no_start k s n e t1 t2 us xs ys ah q (ss, z, l, absent) = first_ahead text at k s n h e us ys (bytes ";") ah (q ∙ ap (λ (x : Tokens). x ++ ys) l) semicolon refl (apart k semicolon refl t2)
      no_start k s n e t1 t2 us xs ys ah q (ss, z, l, given ts y g) = first_ahead text at k s n h e us ((ts ++ bytes ";" ∷ []) ++ ys) (bytes "init") ah (q ∙ ap (λ (x : Tokens). x ++ ys) l) init_word refl (apart k init_word refl t1)

  declaration_sole : (names : List Name) (at : ℕ) → at ≤ length text → Sole Declared Anything text at (declaration text names at)
  unfolding declaration signs is_fixed kind_number
  declaration_sole names at h =
      then_sole {L = OneOf SpellsName} {M = Low} {N = Declared} {S = Anything} {S2 = Anything} h (λ zs j. j) (λ xs ys l z. tt) (name_sole names at h)
      (λ w n1 i1 h1 e1. then_sole {L = Bound} {M = Dots} {N = Low} {S = Anything} {S2 = Anything} h1 (λ zs j. j) (λ xs ys l z. tt) (bound_sole _ n1 h1)
      (λ low n2 i2 h2 e2. then_sole {L = These (bytes ".." ∷ [])} {M = High} {N = Dots} {S = Anything} {S2 = Anything} h2 (λ zs j. j) (λ xs ys l z. tt) (phrase_sole (sign dots ∷ []) refl tt tt n2 h2)
      (λ u n3 i3 h3 e3. then_sole {L = Bound} {M = Start} {N = High} {S = Anything} {S2 = Anything} h3 (λ zs j. j) (λ xs ys l z. tt) (bound_sole _ n3 h3)
      (λ high n4 i4 h4 e4. with_value _ (start_sole low high n4 h4)))))

  pub declared_of : (word : List ℕ) (ts : Tokens) → IsDeclaration word ts → (zs : Tokens) × (ts ≡ word ∷ zs) × Declared zs
  declared_of word ts (G.IsDeclaration.declares w ls hs ss l h z nw sl sh sz) =
      let d = ss ++ bytes ";" ∷ [] in
      let c = hs ++ d in
      let b = ls ++ (bytes ".." ∷ c) in
      (w ∷ b, simp append_assoc, (w ∷ [], b, refl, (w, refl, nw), (ls, bytes ".." ∷ c, refl, (l, sl), (bytes ".." ∷ [], c, refl, refl, (hs, d, refl, (h, sh), (ss, z, refl, sz))))))

  -- a new name is one of at most 64
  pub name_fits : (names : List Name) (at : ℕ) → Holds (λ (w : List ℕ). length names < 64) (new_name text names at)
  unfolding new_name
  name_fits names at =
      let Q : Parsed (List ℕ) → Type 0 = Holds (λ (w : List ℕ). length names < 64) in
      token_prop Q (token_at text at) _ (λ k q. tt)
      (λ k s n e. cond_prop Q (is k name) _ _
      (λ t. option_prop Q (id_of (spellings names) (part text s n)) _ _ (λ z. cond_prop Q (over_long s n) _ _ (λ x. tt) (λ x. cond_prop Q (ltb (length names) name_limit) _ _ (λ y. ltb-true (length names) 64 y) (λ y. tt))) (λ i z. tt))
      (λ t. tt))

  declaration_fits : (names : List Name) (at : ℕ) → Holds (λ (x : Name). length names < 64) (declaration text names at)
  unfolding declaration
  declaration_fits names at =
      let P : Parsed Name → Type 0 = Holds (λ (x : Name). length names < 64) in
      then_prop P (new_name text names at) _ (λ k q. tt)
      (λ w n1 e1.
      let l : length names < 64 = fits (new_name text names at) (name_fits names at) w n1 e1 in
      then_prop P (bound_at _ text n1) _ (λ k q. tt) (λ low n2 e2. then_prop P (phrase text _ n2) _ (λ k q. tt) (λ u n3 e3. then_prop P (bound_at _ text n3) _ (λ k q. tt) (λ high n4 e4. then_prop P (start_at text low high n4) _ (λ k q. tt) (λ z n5 e5. l)))))
    where
      fits : (p : Parsed (List ℕ)) → Holds (λ (w : List ℕ). length names < 64) p → (w : List ℕ) (n : ℕ) → p ≡ accepted w n → length names < 64
      fits p g w n e = subst (Holds (λ (w : List ℕ). length names < 64)) e g

  pub declarations_sole : (f : ℕ) (word : Kind) → is_fixed word ≡ true → is word word ≡ true → (names : List Name) → length names ≤ 64 → 65 ≤ length names + f → (at : ℕ) → at ≤ length text → Sole (AreDeclarations (spelling_of word)) (NoSign (Word word)) text at (declarations_from f word text names at)
  unfolding declarations_from
  declarations_sole zero word fx it names l b at h = absurd (omega arith)
  declarations_sole (suc f) word fx it names l b at h =
      token_sole text at
      (λ k s n e. cond_sole (is k word)
      (λ t.
      let i = (token_at_moved text at k s n h e).2 in
      behind (spelling_of word) (fixed_stands normally text word fx at k s n h e t) goes
      (then_sole {L = Declared} {M = AreDeclarations (spelling_of word)} {N = Joins Declared (AreDeclarations (spelling_of word))} {S = Anything} {S2 = NoSign (Word word)} i (λ zs j. j) (λ xs ys l z. tt) (declaration_sole names n i)
      (λ x m j o q.
      let g : length names < 64 = subst (Holds (λ (x : Name). length names < 64)) q (declaration_fits names n) in
      let c = length-append names (x ∷ []) in
      declarations_sole f word fx it (names ++ (x ∷ [])) (omega arith) (omega arith) m o)))
      (λ t. nothing_sole names (λ us xs ys ah q d z. none_left_lem k s n e t us xs ys (ah k s n e) q d)))
    where
      goes : (us xs ys : Tokens) → spelling_of word ∷ us ≡ xs ++ ys → AreDeclarations (spelling_of word) xs → NoSign (Word word) ys → (zs : Tokens) × (xs ≡ spelling_of word ∷ zs) × Joins Declared (AreDeclarations (spelling_of word)) zs
      goes us xs ys q G.AreDeclarations.none z = absurd (subst (NoSign (Word word)) (sym q) z refl)
      goes us xs ys q (G.AreDeclarations.more ts vs d r) z = let x = declared_of (spelling_of word) ts d in (x.0 ++ vs, ap (λ (y : Tokens). y ++ vs) x.1, (x.0, vs, refl, x.2, r))

      none_left_lem : (k : Kind) (s n : ℕ) → token_at text at ≡ token k s n → is k word ≡ false → (us xs ys : Tokens) → Ahead k (normal (part text s n)) us → us ≡ xs ++ ys → AreDeclarations (spelling_of word) xs → xs ≡ []
      none_left_lem k s n e t us xs ys ah q G.AreDeclarations.none = refl
      none_left_lem k s n e t us xs ys ah q (G.AreDeclarations.more ts vs d r) =
          let x = declared_of (spelling_of word) ts d in
          absurd (first_ahead text at k s n h e us ((x.0 ++ vs) ++ ys) (spelling_of word) ah (q ∙ ap (λ (y : Tokens). (y ++ vs) ++ ys) x.1) word ((fixed_spelling word fx (spelling_of word)).1 refl) (apart k word it t))
