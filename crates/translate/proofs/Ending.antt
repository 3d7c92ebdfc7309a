-- The watches and the end of the text, from the token behind the rules on. Assumes nothing.
use mathlib.Core.Path.{◌≡◌, refl, sym, subst}
use mathlib.Core.Bool.{Bool, true, false}
use mathlib.Core.List.{List, []}
use Prim.Native.Nat.{ℕ}
use native.Mathlib.Omega.{arith}
use lib.Dec.{eqb}
use lib.ListN.{length}
use borrow.Author.Tests.{eqb-true, eqb-false}
use Rattle.limits.specs.Limits.{watch_limit, not_allowed, wrong_rule}
use Rattle.arith.specs.Inner.Flags.{flags_of}
use Rattle.lexer.specs.Token.{ending, kind_number}
use Rattle.lexer.specs.declared.Place.{Place}
use Rattle.lexer.specs.Results.{Step}
use Rattle.lexer.proofs.Laws.{cond_prop}
use Rattle.semantics.specs.Program.{Watch, all_true, free}
use Rattle.grammar.specs.Parsed.{accepted, refused}
use Rattle.grammar.specs.Expressions.{Scope}
use Rattle.grammar.specs.Watches.{watches_from}
use Rattle.grammar.specs.Parse.{end_at}
use Rattle.expressions.specs.declared.scope.Names.{Names}
use Rattle.expressions.specs.Inner.Scopes.{scope_of}
use Rattle.expressions.specs.Inner.Steps.{looked_ahead}
use Rattle.expressions.specs.Inner.Readers.{StandsAt}
use Rattle.expressions.proofs.Steps.{Refuses, told, untold}
use Rattle.phrases.specs.Inner.Steps.{number_told, Writes}
use Rattle.phrases.proofs.Writing.{writes, refuses}
use Rattle.cases.proofs.Parts.{behind_refused}
use Rattle.rules.specs.Inner.Spans.{end_of}
use Rattle.watches.specs.Inner.Codes.{no_code, watches_told, watches_behind}
use Rattle.translate.specs.Inner.Descent.{free_scope, tail_from}

-- all names of the table, as a program holds them
pub scope_free : (text starts ends : List ℕ) (count : ℕ) (names : Names) → (names.count ≡ count) × (flags_of count names.known ≡ free count) → scope_of text starts ends names ≡ free_scope text starts ends count
scope_free text starts ends count names e = rw (e.0, e.1)

-- the watches that were read, in the scope of all names
pub read_free : (text starts ends : List ℕ) (count at : ℕ) (names : Names) → (names.count ≡ count) × (flags_of count names.known ≡ free count) → {r : Step}
    → Writes no_code watches_told watches_behind (looked_ahead text (watches_from watch_limit (scope_of text starts ends names) [] at)) 0 [] [] r
    → Writes no_code watches_told watches_behind (looked_ahead text (watches_from watch_limit (free_scope text starts ends count) [] at)) 0 [] [] r
read_free text starts ends count at names e {r} w =
    subst (λ (sc : Scope). Writes no_code watches_told watches_behind (looked_ahead text (watches_from watch_limit sc [] at)) 0 [] [] r) (scope_free text starts ends count names e) w

-- a refusal of the watches
pub tail_refused : (sc : Scope) (known : List Bool) (at : ℕ) {k q : ℕ} → Refuses sc.text (watches_from watch_limit sc [] at) k q → tail_from sc known at ≡ refused k q
unfolding tail_from end_at
tail_refused sc known at r = behind_refused sc.text _ (λ ws n q f. rw f) (watches_from watch_limit sc [] at) r

module _ (sc : Scope) (h : Place) (names : Names) (t at : ℕ) {ws : List Watch} (w : watches_from watch_limit sc [] at ≡ accepted ws h.at) (k : StandsAt sc.text h) (counted : h.number ≡ length ws) where
  abbrev known : List Bool
  known = flags_of names.count names.known

  end_other : (h.kind ≡ 1 → ⊥) → tail_from sc known at ≡ refused not_allowed h.start
  unfolding tail_from end_at kind_number
  end_other e = rw (w, k.read, untold k ending e)

  module _ (e : h.kind ≡ 1) where
    end_missing : all_true known ≡ false → tail_from sc known at ≡ refused wrong_rule h.start
    unfolding tail_from end_at kind_number
    end_missing f = rw (w, k.read, told k ending e, f)

    end_accepted : all_true known ≡ true → tail_from sc known at ≡ accepted ws h.end
    unfolding tail_from end_at kind_number
    end_accepted f = rw (w, k.read, told k ending e, f)

  pub tail_answered : {r : Step} → r ≡ end_of h.kind h.start h.end names t h.number → Writes no_code number_told length (tail_from sc known at) t [] [] r
  unfolding end_of
  tail_answered e = subst P (sym e)
      (cond_prop P (eqb h.kind 1) _ _
      (λ y. cond_prop P (all_true known) _ _
      (λ z. writes refl (record { tree = ws; is = end_accepted (eqb-true h.kind 1 y) z; ended = omega arith; tells_it = counted; wrote = refl }))
      (λ z. refuses refl (end_missing (eqb-true h.kind 1 y) z)))
      (λ y. refuses refl (end_other (eqb-false h.kind 1 y))))
    where
      P : Step → Type 0
      P r = Writes no_code number_told length (tail_from sc known at) t [] [] r
