-- The ways through a watch: what each comes to. Assumes nothing.
use mathlib.Core.Path.{◌≡◌, refl, sym, ap, ◌∙◌}
use mathlib.Core.Bool.{true, false}
use mathlib.Core.List.{List}
use mathlib.Core.Option.{none, some}
use Prim.Native.Nat.{ℕ, ◌+◌}
use native.Mathlib.Omega.{arith}
use lib.ListN.{length, length-append}
use lib.Seq.{sets}
use Rattle.lexer.specs.Token.{Kind, arrow, is, token}
use Rattle.lexer.specs.Lexer.{token_at}
use Rattle.lexer.specs.Results.{Step}
use Rattle.std.specs.Prelude.{Ok, Err}
use Rattle.semantics.specs.Program.{Condition, Watch}
use Rattle.grammar.specs.Parsed.{Parsed, accepted, refused, phrase, followed}
use Rattle.grammar.specs.Expressions.{Scope}
use Rattle.grammar.specs.Conditions.{listed}
use Rattle.grammar.specs.Forms.{formula_closing, function_closing, watch_opening, later_opening}
use Rattle.grammar.specs.Watches.{later_at, after_first, watch_at}
use Rattle.grammar.specs.Inner.Bytes.{bytes_c}
use Rattle.grammar.proofs.Combine.{then_prop, apart, same_value}
use Rattle.expressions.proofs.Steps.{Refuses}
use Rattle.phrases.specs.Inner.Steps.{number_told, Writes}
use Rattle.phrases.proofs.Writing.{got, refused_part, writes, refuses}
use Rattle.cases.proofs.Parts.{phrase_fault, behind_refused}
use Rattle.cases.proofs.Ways.{then_bytes}
use Rattle.watches.specs.Inner.Codes.{code_of_later, code_of_watch, end_of_first}

-- ---- the second condition

module _ (sc : Scope) (c : Condition) (at : ℕ) where
  pub later_unopened : {k q : ℕ} → phrase sc.text later_opening at ≡ refused k q → later_at sc c at ≡ refused k q
  unfolding later_at
  later_unopened e = rw e

  module _ {n1 : ℕ} (e1 : phrase sc.text later_opening at ≡ accepted tt n1) where
    pub second_refused : {k q : ℕ} → Refuses sc.text (listed sc n1) k q → later_at sc c at ≡ refused k q
    unfolding later_at followed
    second_refused r = rw e1 (behind_refused sc.text _ (λ d m q f. rw (phrase_fault sc.text _ _ m q f)) (listed sc n1) r)

    module _ {d : Condition} {n2 : ℕ} (e2 : listed sc n1 ≡ accepted d n2) where
      pub later_unclosed : {k q : ℕ} → phrase sc.text function_closing n2 ≡ refused k q → later_at sc c at ≡ refused k q
      unfolding later_at followed
      later_unclosed e3 = rw (e1, e2, e3)

      pub later_accepted : {n3 : ℕ} → phrase sc.text function_closing n2 ≡ accepted tt n3 → later_at sc c at ≡ accepted (record { first = c; later = some d }) n3
      unfolding later_at followed
      later_accepted e3 = rw (e1, e2, e3)

  later_first : (w : Watch) (m : ℕ) → later_at sc c at ≡ accepted w m → w.first ≡ c
  unfolding later_at followed
  later_first w m =
      then_prop P (phrase sc.text later_opening at) _ (λ k q e. apart (sym e))
      (λ u n1 e1. then_prop P (listed sc n1) _ (λ k q e. apart (sym e))
      (λ d n2 e2. then_prop P (phrase sc.text function_closing n2) _ (λ k q e. apart (sym e))
      (λ v n3 e3 e. ap (λ (x : Watch). x.first) (sym (same_value e)))))
    where
      P : Parsed Watch → Type 0
      P p = p ≡ accepted w m → w.first ≡ c

-- ---- a watch

module _ (sc : Scope) (at : ℕ) where
  pub watch_unopened : {k q : ℕ} → phrase sc.text watch_opening at ≡ refused k q → watch_at sc at ≡ refused k q
  unfolding watch_at
  watch_unopened e = rw e

  module _ {n1 : ℕ} (e1 : phrase sc.text watch_opening at ≡ accepted tt n1) where
    pub first_refused : {k q : ℕ} → Refuses sc.text (listed sc n1) k q → watch_at sc at ≡ refused k q
    unfolding watch_at after_first
    first_refused r = rw e1 (behind_refused sc.text _ (λ c m q f. rw f) (listed sc n1) r)

    module _ {c : Condition} {n2 : ℕ} (e2 : listed sc n1 ≡ accepted c n2) {k : Kind} {s n : ℕ} (e3 : token_at sc.text n2 ≡ token k s n) where
      pub watch_paired : is k arrow ≡ true → watch_at sc at ≡ later_at sc c n
      unfolding watch_at after_first
      watch_paired i = rw (e1, e2, e3, i)

      module _ (i : is k arrow ≡ false) where
        pub watch_unclosed : {l q : ℕ} → phrase sc.text formula_closing n2 ≡ refused l q → watch_at sc at ≡ refused l q
        unfolding watch_at after_first followed
        watch_unclosed e4 = rw (e1, e2, e3, i, e4)

        pub watch_accepted : {m : ℕ} → phrase sc.text formula_closing n2 ≡ accepted tt m → watch_at sc at ≡ accepted (record { first = c; later = none }) m
        unfolding watch_at after_first followed
        watch_accepted e4 = rw (e1, e2, e3, i, e4)

-- ---- the code of both conditions

module _ (sc : Scope) (c : Condition) (n : ℕ) {to t : ℕ} {before mid after : List ℕ} (ht : t ≡ to + length (bytes_c c)) (hm : mid ≡ sets before to (bytes_c c)) where
  -- the code of the second is written behind that of the first
  pub both_written : {r : Step} → Writes code_of_later number_told (λ w. t) (later_at sc c n) t mid after r → Writes code_of_watch number_told (end_of_first to) (later_at sc c n) to before after r
  both_written {r} x = go r refl
    where
      go : (s : Step) → r ≡ s → Writes code_of_watch number_told (end_of_first to) (later_at sc c n) to before after r
      go (Err e) d = refuses d (refused_part x d)
      go (Ok h) d =
          let g = got x d in
          let f = later_first sc c n g.tree h.at g.is in
          let l : t ≡ to + length (bytes_c g.tree.first) = ht ∙ ap (λ (y : Condition). to + length (bytes_c y)) (sym f) in
          let m : mid ≡ sets before to (bytes_c g.tree.first) = hm ∙ ap (λ (y : Condition). sets before to (bytes_c y)) (sym f) in
          writes d (record {
            tree = g.tree;
            is = g.is;
            ended = simp length-append (omega (arith, g.ended, l));
            tells_it = g.tells_it ∙ l;
            wrote = then_bytes before to (bytes_c g.tree.first) (code_of_later g.tree) l m g.wrote;
          })
