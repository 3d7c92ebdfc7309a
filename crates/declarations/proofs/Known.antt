-- For callers: what the answer to declarations says once it is taken apart, and the header of inputs and variables together.
-- Assumes nothing.
use mathlib.Core.Path.{◌≡◌, refl, sym, subst, ◌∙◌}
use mathlib.Core.List.{List, [], ◌∷◌, ◌++◌, append_assoc, append-nil}
use Prim.Native.Nat.{ℕ, zero, suc, ◌+◌}
use lib.ListN.{length}
use lib.Seq.{sets, drop-append_seam}
use Rattle.lexer.specs.Token.{Kind, is}
use Rattle.lexer.specs.Lexer.{token_at}
use Rattle.lexer.specs.Names.{table_names}
use Rattle.lexer.proofs.Laws.{cond_prop}
use Rattle.semantics.specs.Program.{Name}
use Rattle.grammar.specs.Parsed.{Parsed, accepted, refused}
use Rattle.grammar.specs.Declarations.{declaration, declarations_from, declarations}
use Rattle.grammar.specs.Inner.Bytes.{header}
use Rattle.grammar.proofs.Combine.{token_prop, then_prop}
use Rattle.lexer.specs.declared.Place.{Place}
use Rattle.lexer.specs.Results.{Step}
use Rattle.std.specs.Prelude.{Ok, Err}
use Rattle.limits.specs.declared.Refusal.{Refusal}
use Rattle.limits.specs.Refusals.{refusal_number, refusal_place}
use Rattle.phrases.proofs.Writing.{got, refused_part}
use Rattle.declarations.specs.Inner.Tables.{TableHolds, RangesBehind, header_after, DeclaresAll}
use Rattle.declarations.proofs.Loop.{header_append}

-- an empty table holds no names
pub holds_none : (text starts ends : List ℕ) → TableHolds text starts ends 0 []
unfolding table_names
holds_none text [] ends = record { counted = refl; spelled = refl }
holds_none text (s ∷ starts) [] = record { counted = refl; spelled = refl }
holds_none text (s ∷ starts) (e ∷ ends) = record { counted = refl; spelled = refl }

-- ---- the answer

-- all names up to n, c of them, with their bytes from `to` up to t
pub record AllDeclared (word : Kind) (text : List ℕ) (names : List Name) (at to : ℕ) (before after ends₀ starts ends : List ℕ) (n t c : ℕ) : Type 0 where
  pub all : List Name
  pub read : declarations word text names at ≡ accepted all n
  pub counted : c ≡ length all
  pub ended : t ≡ to + length (header_after names all)
  pub wrote : after ≡ sets before to (header_after names all)
  pub held : TableHolds text starts ends c all
  pub stand : RangesBehind text ends₀ 0 names → RangesBehind text ends 0 all

module _ (word : Kind) (text : List ℕ) (names : List Name) (at to : ℕ) (before after' ends₀ starts ends : List ℕ) {r : Step} (d : DeclaresAll word text names at to before after' ends₀ starts ends r) where
  pub all_declared : {x : Place} → r ≡ Ok x → AllDeclared word text names at to before after' ends₀ starts ends x.at x.to x.number
  all_declared {x} g =
      let a = got d.writes g in
      record {
        all = a.tree;
        read = a.is;
        counted = a.tells_it;
        ended = a.ended;
        wrote = a.wrote;
        held = subst (λ (m : ℕ). TableHolds text starts ends m a.tree) (sym a.tells_it) (d.named a.tree x.at a.is);
        stand = λ h. d.ranged h a.tree x.at a.is;
      }

  pub not_declared : {e : Refusal} → r ≡ Err e → declarations word text names at ≡ refused (refusal_number e) (refusal_place e)
  not_declared g = refused_part d.writes g

-- ---- names are added behind those declared before

abbrev Extends : List Name → Parsed (List Name) → Type 0
Extends names (accepted all n) = (new : List Name) × (all ≡ names ++ new)
Extends names (refused k p) = Unit {0}

one_more : (names : List Name) (x : Name) (p : Parsed (List Name)) → Extends (names ++ (x ∷ [])) p → Extends names p
one_more names x (accepted all n) h = (x ∷ h.0, h.1 ∙ append_assoc names (x ∷ []) h.0)
one_more names x (refused k p) h = tt

extends : (f : ℕ) (word : Kind) (text : List ℕ) (names : List Name) (at : ℕ) → Extends names (declarations_from f word text names at)
unfolding declarations_from
extends zero word text names at = ([], sym (append-nil names))
extends (suc f) word text names at =
    token_prop (Extends names) (token_at text at) _ (λ k q. tt)
    (λ k s n e.
    cond_prop (Extends names) (is k word) _ _
    (λ t. then_prop (Extends names) (declaration text names n) _ (λ k q. tt) (λ x m d. one_more names x (declarations_from f word text (names ++ (x ∷ [])) m) (extends f word text (names ++ (x ∷ [])) m)))
    (λ t. ([], sym (append-nil names))))

module _ (word : Kind) (text : List ℕ) (names : List Name) (at : ℕ) {all : List Name} {n : ℕ} (e : declarations word text names at ≡ accepted all n) where
  -- the header of all names is that of the names before, and then that of the names declared here
  pub header_joined : header all ≡ header names ++ header_after names all
  unfolding header_after declarations
  header_joined =
      let x : (new : List Name) × (all ≡ names ++ new) = subst (Extends names) e (extends 65 word text names at) in
      rw (x.1, drop-append_seam names x.0) (header_append names x.0)
