-- Watches that were read once: what is read of them again, one by one. Assumes nothing.
use mathlib.Core.Path.{◌≡◌, refl, ap, sym, subst, ◌∙◌}
use mathlib.Core.Bool.{Bool, true, false}
use mathlib.Core.List.{List, [], ◌∷◌, ◌++◌, append_assoc, append-nil}
use Prim.Native.Nat.{ℕ, zero, suc, ◌+◌, ◌-◌, ◌≤◌, ◌<◌}
use native.Mathlib.Omega.{arith}
use lib.ListN.{length, length-append}
use Rattle.lexer.specs.Token.{Kind, watch_word, is, token, fault}
use Rattle.lexer.specs.Lexer.{token_at}
use Rattle.lexer.proofs.Laws.{cond_prop}
use Rattle.semantics.specs.Program.{Watch}
use Rattle.grammar.specs.Parsed.{Parsed, accepted, refused}
use Rattle.grammar.specs.Expressions.{Scope}
use Rattle.grammar.specs.Watches.{watch_at, watches_from}
use Rattle.grammar.proofs.Combine.{token_prop, then_prop, apart, same_value}
use Rattle.watches.proofs.Reading.{watches_fault, watches_end, watches_refused, watches_more}

-- ---- those done come first, and no more follow than are left to read

abbrev Grows : ℕ → List Watch → Parsed (List Watch) → Type 0
Grows left done (accepted ws m) = (more : List Watch) × (ws ≡ done ++ more) × (length more ≤ left)
Grows left done (refused k q) = Unit {0}

further : (left : ℕ) (done : List Watch) (w : Watch) (p : Parsed (List Watch)) → Grows left (done ++ (w ∷ [])) p → Grows (suc left) done p
further left done w (accepted ws m) g = (w ∷ g.0, g.1 ∙ append_assoc done (w ∷ []) g.0, omega (arith, g.2))
further left done w (refused k q) g = tt

watches_grow : (sc : Scope) (left : ℕ) (done : List Watch) (a : ℕ) → Grows left done (watches_from left sc done a)
unfolding watches_from
watches_grow sc zero done a =
    token_prop (Grows 0 done) (token_at sc.text a) _ (λ k q. tt)
    (λ k s n et. cond_prop (Grows 0 done) (is k watch_word) _ _ (λ y. tt) (λ y. ([], sym (append-nil done), omega arith)))
watches_grow sc (suc left) done a =
    token_prop (Grows (suc left) done) (token_at sc.text a) _ (λ k q. tt)
    (λ k s n et.
    cond_prop (Grows (suc left) done) (is k watch_word) _ _
    (λ y. then_prop (Grows (suc left) done) (watch_at sc n) _ (λ k q. tt)
    (λ w m e. further left done w (watches_from left sc (done ++ (w ∷ [])) m) (watches_grow sc left (done ++ (w ∷ [])) m)))
    (λ y. ([], sym (append-nil done), omega arith)))

module _ (sc : Scope) (left : ℕ) (done : List Watch) (a : ℕ) (ws : List Watch) (m : ℕ) (e : watches_from left sc done a ≡ accepted ws m) where
  grown : Grows left done (accepted ws m)
  grown = subst (Grows left done) e (watches_grow sc left done a)

  -- at most as many as may be read
  pub watches_few : length ws ≤ left + length done
  watches_few = let g = grown in omega (arith, ap length g.1 ∙ length-append done g.0, g.2)

  -- all are done
  pub watches_all : length ws ≤ length done → done ≡ ws
  watches_all h = go grown.0 grown.1 (omega (arith, h, ap length grown.1 ∙ length-append done grown.0))
    where
      go : (more : List Watch) → ws ≡ done ++ more → length more ≡ 0 → done ≡ ws
      go [] f z = sym (f ∙ append-nil done)
      go (w ∷ more) f z = let b : ⊥ = omega arith in absurd b

  -- some are left: the next is read as it was before
  module _ (h : length done < length ws) where
    pub next_token : {A : Type 0} {q : ℕ} → token_at sc.text a ≡ fault q → A
    next_token f = apart (sym e ∙ watches_fault sc done a left f)

    module _ {k : Kind} {s n : ℕ} (t : token_at sc.text a ≡ token k s n) where
      next_word_lem : is k watch_word ≡ true
      next_word_lem = go (is k watch_word) refl
        where
          go : (b : Bool) → is k watch_word ≡ b → is k watch_word ≡ true
          go true i = i
          go false i =
              let f : done ≡ ws = same_value (sym (watches_end sc done a t left i) ∙ e) in
              let z : ⊥ = omega (arith, h, ap length f) in
              absurd z

      more_left : watches_from (suc (left - 1)) sc done a ≡ accepted ws m
      more_left = let f : left ≡ suc (left - 1) = omega (arith, h, watches_few) in ap (λ (l : ℕ). watches_from l sc done a) (sym f) ∙ e

      pub next_read : {A : Type 0} {l q : ℕ} → watch_at sc n ≡ refused l q → A
      next_read f = apart (sym more_left ∙ watches_refused sc done a t next_word_lem (left - 1) f)

      pub next_done : {w : Watch} {p : ℕ} → watch_at sc n ≡ accepted w p → watches_from (left - 1) sc (done ++ (w ∷ [])) p ≡ accepted ws m
      next_done f = sym (watches_more sc done a t next_word_lem (left - 1) f) ∙ more_left
