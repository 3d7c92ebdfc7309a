-- A token refused by 2 begins no watch of the bare grammar. Assumes nothing.
use mathlib.Core.Path.{◌≡◌, refl, ap, sym, ◌∙◌, subst}
use mathlib.Core.List.{List, [], ◌∷◌, ◌++◌}
use mathlib.Core.Bool.{false}
use Prim.Native.Nat.{ℕ, zero, suc, ◌≤◌}
use native.Mathlib.Omega.{arith}
use lib.ListN.{length}
use Rattle.lexer.specs.Bytes.{bytes, part}
use Rattle.lexer.specs.Token.{Kind, kind_number, close_round, arrow, watch_word, is, token}
use Rattle.lexer.specs.Lexer.{token_at}
use Rattle.lexer.proofs.Laws.{token_at_moved}
use Rattle.lexer.proofs.Spellings.{is_fixed}
use Rattle.semantics.specs.Program.{Condition, Watch}
use Rattle.grammar.specs.Expressions.{Scope}
use Rattle.grammar.specs.Forms.{formula_closing, function_closing, watch_opening, later_opening}
use Rattle.grammar.specs.Watches.{later_at, after_first, watch_at, watches_from}
use Rattle.grammar.specs.Derivation.{Tokens, normal}
use Rattle.grammar.proofs.Bytes.{heads}
use Rattle.grammar.proofs.Phrases.{fixed_stands, wanted_tokens, signs}
use Rattle.grammar.proofs.Standing.{normally}
use Rattle.faults.specs.Grammar as G
use Rattle.faults.specs.Grammar.{AreNames, IsWatch, AreWatches}
use Rattle.faults.proofs.Languages.{Joins, These, InSquare, Later, AfterFirst, alone, paired, WatchRest}
use Rattle.faults.proofs.Sole.{Ahead, Sole, by_other, nothing_sole, behind, narrow, then_sole, cond_sole, token_sole, NoSign, not_sign, first_ahead}
use Rattle.faults.proofs.SoleParts.{Anything, apart}
use Rattle.faults.proofs.SoleForms.{Word, phrase_sole, followed_by_sole}
use Rattle.faults.proofs.SoleRules.{listed_sole}

module _ (names : List (List ℕ)) (good : AreNames names) where
  watch_of_lem : (ts : Tokens) → IsWatch names ts → (zs : Tokens) × (ts ≡ bytes "watch" ∷ zs) × WatchRest names zs
  watch_of_lem ts (G.IsWatch.alone us x) =
      let c = us ++ bytes "]" ∷ [] in
      let b = c ++ wanted_tokens formula_closing in
      (wanted_tokens watch_opening ++ b, refl, (wanted_tokens watch_opening, b, refl, refl, (c, wanted_tokens formula_closing, refl, (us, bytes "]" ∷ [], refl, x, refl), alone)))
  watch_of_lem ts (G.IsWatch.paired us vs x y) =
      let d = vs ++ bytes "]" ∷ [] in
      let l = wanted_tokens later_opening ++ (d ++ wanted_tokens function_closing) in
      let c = us ++ bytes "]" ∷ [] in
      let b = c ++ bytes "->" ∷ l in (
        wanted_tokens watch_opening ++ b,
        refl,
        (wanted_tokens watch_opening, b, refl, refl, (c, bytes "->" ∷ l, refl, (us, bytes "]" ∷ [], refl, x, refl), paired l (wanted_tokens later_opening, d ++ wanted_tokens function_closing, refl, refl, (d, wanted_tokens function_closing, refl, (vs, bytes "]" ∷ [], refl, y, refl), refl)))),
      )

  -- watches begin with `watch`
  pub watches_ends : (P : List ℕ → Type 0) → (P (bytes "watch") → ⊥) → (xs ys : Tokens) → AreWatches names xs → ys ≡ [] → NoSign P (xs ++ ys)
  watches_ends P f xs ys G.AreWatches.none z = subst (NoSign P) (sym z) tt
  watches_ends P f xs ys (G.AreWatches.more ts vs x r) z = let y = watch_of_lem ts x in subst (λ (l : Tokens). NoSign P ((l ++ vs) ++ ys)) (sym y.1) f

  module _ (sc : Scope) where
    later_sole : (c : Condition) (at : ℕ) → at ≤ length sc.text → Sole (Later names) Anything sc.text at (later_at sc c at)
    unfolding later_at signs is_fixed is kind_number
    later_sole c at h =
        then_sole {L = These (wanted_tokens later_opening)} {M = Joins (InSquare names) (These (wanted_tokens function_closing))} {N = Later names} {S = Anything} {S2 = Anything} h (λ zs j. j) (λ xs ys l z. tt) (phrase_sole sc.text later_opening refl tt tt at h)
        (λ u n1 i1 h1 e1. then_sole {L = InSquare names} {M = These (wanted_tokens function_closing)} {N = Joins (InSquare names) (These (wanted_tokens function_closing))} {S = Anything} {S2 = Anything} h1 (λ zs j. j) (λ xs ys l z. tt) (listed_sole names good sc n1 h1)
        (λ d n2 i2 h2 e2. followed_by_sole sc.text function_closing refl tt tt _ n2 h2))

    after_sole : (c : Condition) (at : ℕ) → at ≤ length sc.text → Sole (AfterFirst names) Anything sc.text at (after_first sc c at)
    unfolding after_first signs is_fixed is kind_number
    after_sole c at h =
        token_sole sc.text at
        (λ k s n e. cond_sole (is k arrow)
        (λ t. behind (bytes "->") (fixed_stands normally sc.text arrow refl at k s n h e t) arrow-goes (later_sole c n (token_at_moved sc.text at k s n h e).2))
        (λ t. narrow h (λ us xs ys ah q l z. no_arrow k s n e t us xs ys (ah k s n e) q l) (followed_by_sole sc.text formula_closing refl tt tt _ at h)))
      where
        arrow-goes : (us xs ys : Tokens) → bytes "->" ∷ us ≡ xs ++ ys → AfterFirst names xs → Anything ys → (zs : Tokens) × (xs ≡ bytes "->" ∷ zs) × Later names zs
        arrow-goes us xs ys q alone z = absurd (not_sign arrow close_round (bytes "->") (bytes ")") refl refl (apart arrow close_round refl refl) (heads q))
        arrow-goes us xs ys q (paired vs x) z = (vs, refl, x)

        no_arrow : (k : Kind) (s n : ℕ) → token_at sc.text at ≡ token k s n → is k arrow ≡ false → (us xs ys : Tokens) → Ahead k (normal (part sc.text s n)) us → us ≡ xs ++ ys → AfterFirst names xs → These (wanted_tokens formula_closing) xs
        no_arrow k s n e t us xs ys ah q alone = refl
        no_arrow k s n e t us xs ys ah q (paired vs x) = absurd (first_ahead sc.text at k s n h e us (vs ++ ys) (bytes "->") ah q arrow refl (apart k arrow refl t))

    watch_sole : (at : ℕ) → at ≤ length sc.text → Sole (WatchRest names) Anything sc.text at (watch_at sc at)
    unfolding watch_at signs is_fixed is kind_number
    watch_sole at h =
        then_sole {L = These (wanted_tokens watch_opening)} {M = Joins (InSquare names) (AfterFirst names)} {N = WatchRest names} {S = Anything} {S2 = Anything} h (λ zs j. j) (λ xs ys l z. tt) (phrase_sole sc.text watch_opening refl tt tt at h)
        (λ u n1 i1 h1 e1. then_sole {L = InSquare names} {M = AfterFirst names} {N = Joins (InSquare names) (AfterFirst names)} {S = Anything} {S2 = Anything} h1 (λ zs j. j) (λ xs ys l z. tt) (listed_sole names good sc n1 h1)
        (λ c n2 i2 h2 e2. after_sole c n2 h2))

    none_left_lem : (at : ℕ) → at ≤ length sc.text → (k : Kind) (s n : ℕ) → token_at sc.text at ≡ token k s n → is k watch_word ≡ false → (us xs ys : Tokens) → Ahead k (normal (part sc.text s n)) us → us ≡ xs ++ ys → AreWatches names xs → xs ≡ []
    unfolding is kind_number
    none_left_lem at h k s n e t us xs ys ah q G.AreWatches.none = refl
    none_left_lem at h k s n e t us xs ys ah q (G.AreWatches.more ts vs x r) =
        let y = watch_of_lem ts x in
        absurd (first_ahead sc.text at k s n h e us ((y.0 ++ vs) ++ ys) (bytes "watch") ah (q ∙ ap (λ (l : Tokens). (l ++ vs) ++ ys) y.1) watch_word refl (apart k watch_word refl t))

    goes : (us xs ys : Tokens) → bytes "watch" ∷ us ≡ xs ++ ys → AreWatches names xs → NoSign (Word watch_word) ys → (zs : Tokens) × (xs ≡ bytes "watch" ∷ zs) × Joins (WatchRest names) (AreWatches names) zs
    goes us xs ys q G.AreWatches.none z = absurd (subst (NoSign (Word watch_word)) (sym q) z refl)
    goes us xs ys q (G.AreWatches.more ts vs x r) z = let y = watch_of_lem ts x in (y.0 ++ vs, ap (λ (l : Tokens). l ++ vs) y.1, (y.0, vs, refl, y.2, r))

    -- what follows the watches begins with no `watch`
    pub watches_sole : (left : ℕ) (done : List Watch) (at : ℕ) → at ≤ length sc.text → Sole (AreWatches names) (NoSign (Word watch_word)) sc.text at (watches_from left sc done at)
    unfolding watches_from is_fixed is kind_number
    watches_sole zero done at h =
        token_sole sc.text at
        (λ k s n e. cond_sole (is k watch_word) (λ t. by_other 30 (λ q. omega (arith, q))) (λ t. nothing_sole _ (λ us xs ys ah q l z. none_left_lem at h k s n e t us xs ys (ah k s n e) q l)))
    watches_sole (suc left) done at h =
        token_sole sc.text at
        (λ k s n e. cond_sole (is k watch_word)
        (λ t.
        let i = (token_at_moved sc.text at k s n h e).2 in
        behind (bytes "watch") (fixed_stands normally sc.text watch_word refl at k s n h e t) goes
        (then_sole {L = WatchRest names} {M = AreWatches names} {N = Joins (WatchRest names) (AreWatches names)} {S = Anything} {S2 = NoSign (Word watch_word)} i (λ zs j. j) (λ xs ys l z. tt) (watch_sole n i)
        (λ w m j o q. watches_sole left (done ++ (w ∷ [])) m o)))
        (λ t. nothing_sole _ (λ us xs ys ah q l z. none_left_lem at h k s n e t us xs ys (ah k s n e) q l)))
