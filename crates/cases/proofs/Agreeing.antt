-- The list of a change formula that was read, and a no-change list that agrees with it. Assumes nothing.
use mathlib.Core.Path.{◌≡◌, refl, ap, sym, ◌∙◌, subst}
use mathlib.Core.List.{List, [], ◌∷◌}
use mathlib.Core.Option.{some}
use Prim.Native.Nat.{ℕ, zero, suc, ◌≤◌, ◌<◌}
use native.Mathlib.Omega.{arith}
use lib.ListN.{length, get_or, get_elem?}
use Rattle.bytecode.proofs.Soundness.{some_inj, none≢some}
use Rattle.grammar.specs.Parsed.{accepted}
use Rattle.grammar.specs.Rules.{Span, Spanned, Compared, agrees, cases_of, plain_list, parts_from, first_found, agreeing_list}
use Rattle.grammar.specs.Inner.Names.{Named, TokensIn}
use Rattle.grammar.proofs.Shape.{conditions_of}
use Rattle.grammar.proofs.Listed.{Listed, last, next}
use Rattle.grammar.proofs.Lists.{CasesIn, cases_in, agreeing_reads}
use Rattle.expressions.specs.declared.scope.Names.{Names}
use Rattle.expressions.specs.Inner.Scopes.{scope_of, Declared}
use Rattle.expressions.proofs.Scopes.{few_names, as_long}
use Rattle.agreement.specs.Inner.Spans.{spans_in, spans_of, Spans, SpansRead}
use Rattle.cases.specs.Inner.Places.{place_only}
use Rattle.cases.specs.Inner.Kept.{ListKept}

-- the spans held, one by one
span_held : (from upto : List ℕ) (n i : ℕ) → i < n → n ≤ length from → n ≤ length upto → get_elem? (spans_in from upto n) i ≡ some (record { from = get_or from i 0; to = get_or upto i 0 })
unfolding spans_in
span_held [] upto n i h hf hu = absurd (omega arith)
span_held (f ∷ from) [] n i h hf hu = absurd (omega arith)
span_held (f ∷ from) (u ∷ upto) zero i h hf hu = absurd (omega arith)
span_held (f ∷ from) (u ∷ upto) (suc n) zero h hf hu = refl
span_held (f ∷ from) (u ∷ upto) (suc n) (suc i) h hf hu = span_held from upto n i (omega arith) (omega arith) (omega arith)

-- each span of cases that were read holds just tokens
span_read : (text : List ℕ) (cs : List Spanned) (ls : List (List ℕ)) → Listed text cs ls → (i : ℕ) (s : Span) → get_elem? (spans_of cs) i ≡ some s → TokensIn text s.from s.to
span_read text cs ls (last c ts h sp) zero s e = subst (λ (x : Span). TokensIn text x.from x.to) (some_inj e) (record { tokens = ts; within = h; spells = sp })
span_read text cs ls (last c ts h sp) (suc i) s e = none≢some _ e
span_read text cs ls (next c ds ts us h sp r) zero s e = subst (λ (x : Span). TokensIn text x.from x.to) (some_inj e) (record { tokens = ts; within = h; spells = sp })
span_read text cs ls (next c ds ts us h sp r) (suc i) s e = span_read text ds us r i s e

module _ (text starts ends : List ℕ) (names : Names) (d : Declared starts ends names) (good : Named (scope_of text starts ends names).names) (from upto : List ℕ) (count : ℕ) (sp : Spans text from upto count) (k : ListKept (scope_of text starts ends names) from upto count) where
  kept_cases : CasesIn (scope_of text starts ends names) (few_names text d) (as_long text d) k.variable k.place k.end k.cases
  kept_cases = cases_in (scope_of text starts ends names) (few_names text d) (as_long text d) k.variable k.place k.end k.cases k.within k.read

  pub spans_read : SpansRead text from upto count
  spans_read = record { each = λ i h. span_read text k.cases kept_cases.list kept_cases.lists i _ (ap (λ (l : List Span). get_elem? l i) k.spans ∙ span_held from upto count i h sp.in_from sp.in_to) }

  list_agrees : (at n : ℕ) → at ≤ length text → parts_from text k.cases at ≡ agrees n → plain_list (scope_of text starts ends names) at ≡ accepted (conditions_of (cases_of k.cases)) n
  list_agrees at n h e = agreeing_reads (scope_of text starts ends names) (few_names text d) (as_long text d) good k.variable k.place k.end k.cases kept_cases at n h e

  pub agreed : (at n : ℕ) → at ≤ length text → {r : Compared} → ((cases : List Spanned) → spans_of cases ≡ spans_in from upto count → r ≡ parts_from text cases at) → r ≡ agrees n → (cases : List Spanned) → spans_of cases ≡ spans_in from upto count → accepted tt n ≡ place_only (agreeing_list (scope_of text starts ends names) cases at)
  unfolding agreeing_list first_found place_only
  agreed at n h f e cases s = rw (← f cases s, e, list_agrees at n h (sym (f k.cases k.spans) ∙ e))
