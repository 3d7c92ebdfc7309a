-- Both lists of a rule's conditions read as the same conditions: the second stands in the first's tokens, which spell the first's
-- conditions, and tokens are read as what they spell. Assumes nothing.
use mathlib.Core.Path.{◌≡◌, refl, sym, ◌∙◌, subst}
use mathlib.Core.List.{List, [], ◌∷◌, ◌++◌}
use Prim.Native.Nat.{ℕ, ◌≤◌}
use lib.ListN.{length}
use lib.Dec.{ltb, leb, eqb}
use Rattle.limits.specs.Limits.{case_limit}
use Rattle.lexer.specs.Bytes.{bytes, capitals}
use Rattle.lexer.proofs.Capitals.{capitals_twice}
use Rattle.lexer.proofs.Laws.{cond_prop}
use Rattle.semantics.specs.Program.{Condition, UsableK}
use Rattle.grammar.specs.Parsed.{Parsed, accepted, refused}
use Rattle.grammar.specs.Expressions.{Scope}
use Rattle.grammar.specs.Rules.{Spanned, cases_from, plain_list, Compared, agrees, differs, parts_from, first_found, agreeing_list, cases_of}
use Rattle.grammar.specs.Derivation.{Spells, normal, normals}
use Rattle.grammar.specs.Spelled.{SpellsCases}
use Rattle.grammar.specs.Inner.Names.{Named}
use Rattle.grammar.proofs.Shape.{conditions_of}
use Rattle.grammar.proofs.Combine.{never}
use Rattle.grammar.proofs.Standing.{spells_in, normally, seen_capitals}
use Rattle.grammar.proofs.SameRule.{cases_same}
use Rattle.grammar.proofs.Listed.{Listed, parts_spells}
use Rattle.grammar.proofs.DerivedCases.{CasesRead, CasesReads, cases_derive, cases_list}
use Rattle.grammar.proofs.ConverseCases.{no_change_reads}

-- a list that is accepted was read, and agrees
record NoneFound (r : Parsed (List Condition)) (d : Compared) (ds : List Condition) (m : ℕ) : Type 0 where
  place : ℕ
  agrees_at : d ≡ agrees place
  plain : r ≡ accepted ds m

first_found_inv : (r : Parsed (List Condition)) (d : Compared) (ds : List Condition) (m : ℕ) → first_found r d ≡ accepted ds m → NoneFound r d ds m
unfolding first_found
first_found_inv r (agrees n) ds m e = record { place = n; agrees_at = refl; plain = e }
first_found_inv (accepted a n) (differs p) ds m e = never 7 p m ds e
first_found_inv (refused k q) (differs p) ds m e =
    cond_prop P (ltb q p) _ _ (λ t f. never k q m ds f)
    (λ t. cond_prop P (eqb q p) _ _ (λ t2. cond_prop P (leb k 5) _ _ (λ t3 f. never k q m ds f) (λ t3 f. never 7 p m ds f)) (λ t2 f. never 7 p m ds f)) e
  where
    P : Parsed (List Condition) → Type 0
    P x = x ≡ accepted ds m → NoneFound (refused k q) (differs p) ds m

-- cases that are accepted are read from their tokens, whatever the case of their variable's letters
pub cases_seen : (sc : Scope) (left : ℕ) (w : List ℕ) (at n : ℕ) (cs : List Spanned) → at ≤ length sc.text → cases_from left sc w [] at ≡ accepted cs n → CasesRead sc (capitals w) left [] at n cs
cases_seen sc left w at n cs h e =
    subst (CasesReads sc (capitals w) left [] at) (sym (cases_same sc w (capitals w) (sym (capitals_twice w)) left [] at) ∙ e) (cases_derive sc (capitals w) (seen_capitals w) left [] at h)

module _ (sc : Scope) (few : length sc.names ≤ 64) (lengths : length sc.names ≡ length sc.known) where
  -- the cases of a formula, at most `left`, from `at` up to n
  pub record CasesUpTo (left : ℕ) (w : List ℕ) (at n : ℕ) (cs : List Spanned) : Type 0 where
    pub counted : length (cases_of cs) ≤ left
    pub usable : UsableK sc.known (cases_of cs)
    pub within : n ≤ length sc.text
    pub tokens : List (List ℕ)
    pub list : List (List ℕ)
    pub spells : Spells normal sc.text at n tokens
    pub derives : SpellsCases (normals sc.names) (capitals w) tokens list (cases_of cs)
    pub lists : Listed sc.text cs list

  -- those of a change formula
  abbrev pub CasesIn : List ℕ → ℕ → ℕ → List Spanned → Type 0
  CasesIn w at n cs = CasesUpTo case_limit w at n cs

  pub cases_up_to : (left : ℕ) (w : List ℕ) (at n : ℕ) (cs : List Spanned) → at ≤ length sc.text → cases_from left sc w [] at ≡ accepted cs n → CasesUpTo left w at n cs
  cases_up_to left w at n cs h e =
      let r = cases_seen sc left w at n cs h e in
      record {
        counted = subst (λ (x : List Spanned). length (cases_of x) ≤ left) (sym r.is_more) r.counted;
        usable = subst (λ (x : List Spanned). UsableK sc.known (cases_of x)) (sym r.is_more) (r.usable lengths);
        within = (spells_in normally sc.text at n r.tokens h r.spells).1;
        tokens = r.tokens;
        list = r.list;
        spells = r.spells;
        derives = subst (λ (x : List Spanned). SpellsCases (normals sc.names) (capitals w) r.tokens r.list (cases_of x)) (sym r.is_more) r.derives;
        lists = subst (λ (x : List Spanned). Listed sc.text x r.list) (sym r.is_more) r.lists;
      }

  pub cases_in : (w : List ℕ) (at n : ℕ) (cs : List Spanned) → at ≤ length sc.text → cases_from case_limit sc w [] at ≡ accepted cs n → CasesIn w at n cs
  cases_in w at n cs h e = cases_up_to case_limit w at n cs h e

  -- a list that agrees reads as the conditions of the cases
  pub agreeing_reads : Named sc.names → (w : List ℕ) (from to : ℕ) (cs : List Spanned) → CasesIn w from to cs → (at n : ℕ) → at ≤ length sc.text → parts_from sc.text cs at ≡ agrees n → plain_list sc at ≡ accepted (conditions_of (cases_of cs)) n
  agreeing_reads good w from to cs c at n h e =
      no_change_reads sc good (capitals w) c.tokens c.list (cases_of cs) (conditions_of (cases_of cs)) c.derives (cases_list (normals sc.names) (capitals w) c.tokens c.list (cases_of cs) c.derives)
      c.usable c.counted at n h (parts_spells sc.text cs c.list c.lists at n h e)

  -- a no-change list that is accepted lists the conditions of the cases, in the same tokens, and a `)`
  pub record Agreeing (cs : List Spanned) (ls : List (List ℕ)) (at m : ℕ) (ds : List Condition) : Type 0 where
    pub same : ds ≡ conditions_of (cases_of cs)
    pub spells : Spells normal sc.text at m (ls ++ bytes ")" ∷ [])

  pub agreeing_same : Named sc.names → (w : List ℕ) (from to : ℕ) (cs : List Spanned) (c : CasesIn w from to cs) (at m : ℕ) (ds : List Condition) → at ≤ length sc.text → agreeing_list sc cs at ≡ accepted ds m → Agreeing cs c.list at m ds
  unfolding agreeing_list
  agreeing_same good w from to cs c at m ds h e =
      let i = first_found_inv (plain_list sc at) (parts_from sc.text cs at) ds m e in
      let s = parts_spells sc.text cs c.list c.lists at i.place h i.agrees_at in
      same i.place s (sym i.plain ∙ agreeing_reads good w from to cs c at i.place h i.agrees_at)
    where
      same : (n : ℕ) → Spells normal sc.text at n (c.list ++ bytes ")" ∷ []) → accepted ds m ≡ accepted (conditions_of (cases_of cs)) n → Agreeing cs c.list at m ds
      same n s q = let j : n ≡ m = cc in record { same = cc; spells = subst (λ (x : ℕ). Spells normal sc.text at x (c.list ++ bytes ")" ∷ [])) j s }
