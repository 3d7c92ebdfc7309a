-- What stands before a token refused by 2 in a watch begins watches of the grammar. Assumes nothing.
use mathlib.Core.Path.{refl}
use mathlib.Core.List.{List, [], ◌∷◌, ◌++◌}
use Prim.Native.Nat.{ℕ, zero, suc, ◌≤◌}
use native.Mathlib.Omega.{arith}
use lib.ListN.{length}
use Rattle.lexer.specs.Bytes.{bytes}
use Rattle.lexer.specs.Token.{kind_number, arrow, watch_word, is}
use Rattle.lexer.proofs.Laws.{token_at_moved}
use Rattle.lexer.proofs.Spellings.{is_fixed}
use Rattle.semantics.specs.Program.{Condition, Watch}
use Rattle.grammar.specs.Expressions.{Scope}
use Rattle.grammar.specs.Forms.{formula_closing, function_closing, watch_opening, later_opening}
use Rattle.grammar.specs.Watches.{later_at, after_first, watch_at, watches_from}
use Rattle.grammar.specs.Derivation as D
use Rattle.grammar.specs.Derivation.{Tokens, normals}
use Rattle.grammar.proofs.Phrases.{fixed_stands, wanted_tokens, signs}
use Rattle.grammar.proofs.Standing.{normally}
use Rattle.faults.specs.Grammar as G
use Rattle.faults.specs.Grammar.{IsCondition, IsWatch, AreWatches}
use Rattle.faults.proofs.Languages.{InSquare, Later, AfterFirst, alone, paired, WatchRest}
use Rattle.faults.proofs.Viable.{Viable, by_other, wider, behind, then_viable, cond_viable, token_viable}
use Rattle.faults.proofs.ViableParts.{equal_zeros, zero_in_condition}
use Rattle.faults.proofs.ViableDeclarations.{cat_viable, nothing_more, phrase_viable, followed_by_lem}
use Rattle.faults.proofs.ViableRules.{listed_viable}

-- a watch by its parts
watch_of_lem : (names : List (List ℕ)) (ts us : Tokens) → IsCondition names D.condition ts → AfterFirst names us → IsWatch names (bytes "watch" ∷ wanted_tokens watch_opening ++ ((ts ++ bytes "]" ∷ []) ++ us))
watch_of_lem names ts us x alone = G.IsWatch.alone ts x
watch_of_lem names ts us x (paired vs (a, b, q1, q2, (c, d, q3, (es, f, q4, y, q5), q6))) = rw (q1, q2, q3, q4, q5, q6) (G.IsWatch.paired ts es x y)

watch_in : (names : List (List ℕ)) (us : Tokens) → WatchRest names us → IsWatch names (bytes "watch" ∷ us)
watch_in names us (a, b, q1, q2, (c, d, q3, (ts, e, q4, x, q5), r)) = rw (q1, q2, q3, q4, q5) (watch_of_lem names ts d x r)

module _ (sc : Scope) where
  abbrev given : List (List ℕ)
  given = normals sc.names

  some_square : InSquare given (equal_zeros given ++ bytes "]" ∷ [])
  some_square = (equal_zeros given, bytes "]" ∷ [], refl, zero_in_condition given, refl)

  later_viable : (c : Condition) (at : ℕ) → at ≤ length sc.text → Viable (Later given) sc.text at (later_at sc c at)
  unfolding later_at signs is_fixed kind_number
  later_viable c at h =
      cat_viable h _ (equal_zeros given ++ bytes "]" ∷ [], wanted_tokens function_closing, refl, some_square, refl) (phrase_viable sc.text later_opening refl tt at h)
      (λ u n1 h1. cat_viable h1 (wanted_tokens function_closing) refl (listed_viable sc n1 h1) (λ d n2 h2. followed_by_lem sc.text function_closing refl tt _ n2 h2))

  after_viable : (c : Condition) (at : ℕ) → at ≤ length sc.text → Viable (AfterFirst given) sc.text at (after_first sc c at)
  unfolding after_first signs is_fixed kind_number
  after_viable c at h =
      token_viable sc.text at
      (λ k s n e. cond_viable (is k arrow)
      (λ t. behind {M = Later given} (bytes "->" ∷ []) (n, fixed_stands normally sc.text arrow refl at k s n h e t, refl) (λ us x. paired us x) (later_viable c n (token_at_moved sc.text at k s n h e).2))
      (λ t. wider (λ ts q. rw q alone) (followed_by_lem sc.text formula_closing refl tt _ at h)))

  watch_viable : (at : ℕ) → at ≤ length sc.text → Viable (WatchRest given) sc.text at (watch_at sc at)
  unfolding watch_at signs is_fixed kind_number
  watch_viable at h =
      cat_viable h _ (equal_zeros given ++ bytes "]" ∷ [], wanted_tokens formula_closing, refl, some_square, alone) (phrase_viable sc.text watch_opening refl tt at h)
      (λ u n1 h1. cat_viable h1 (wanted_tokens formula_closing) alone (listed_viable sc n1 h1) (λ c n2 h2. after_viable c n2 h2))

  pub watches_viable : (left : ℕ) (done : List Watch) (at : ℕ) → at ≤ length sc.text → Viable (AreWatches given) sc.text at (watches_from left sc done at)
  unfolding watches_from is_fixed kind_number
  watches_viable zero done at h = token_viable sc.text at (λ k s n e. cond_viable (is k watch_word) (λ t. by_other 30 (λ q. omega (arith, q))) (λ t. nothing_more _ G.AreWatches.none))
  watches_viable (suc left) done at h =
      token_viable sc.text at
      (λ k s n e. cond_viable (is k watch_word)
      (λ t.
      let i = (token_at_moved sc.text at k s n h e).2 in
      behind {M = λ us. AreWatches given (bytes "watch" ∷ us)} (bytes "watch" ∷ []) (n, fixed_stands normally sc.text watch_word refl at k s n h e t, refl) (λ us g. g)
      (then_viable {L = WatchRest given} {M = AreWatches given} i (λ ts us x y. G.AreWatches.more (bytes "watch" ∷ ts) us (watch_in given ts x) y) [] G.AreWatches.none (watch_viable n i) (λ w m j. watches_viable left (done ++ (w ∷ [])) m j)))
      (λ t. nothing_more _ G.AreWatches.none))
