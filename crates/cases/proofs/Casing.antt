-- The ways through the cases of a change formula. Assumes nothing.
use mathlib.Core.Path.{◌≡◌, refl, ap, sym, ◌∙◌, subst}
use mathlib.Core.List.{List, [], ◌∷◌, ◌++◌, append_assoc}
use mathlib.Core.Bool.{Bool, true, false}
use mathlib.Core.Logic.{◌⊎◌, inl, inr, ⊎_elim}
use Prim.Native.Nat.{ℕ, zero, suc, ◌+◌, ◌-◌, ◌*◌, ◌≤◌, ◌<◌}
use native.Mathlib.Numerals.{add-one}
use native.Mathlib.Omega.{arith}
use lib.ListN.{length, get_or, set, length-append, length-set}
use lib.Dec.{ltb}
use lib.Seq.{sets, get_or-set_same, get_or-set_other}
use borrow.Author.Tests.{ltb-true, ltb-false}
use Rattle.limits.specs.Limits.{case_limit, no_token, not_allowed, too_many}
use Rattle.lexer.specs.Token.{Kind, open_square, bar, is, token, fault}
use Rattle.lexer.specs.Lexer.{token_at}
use Rattle.lexer.specs.Results.{kind_of, reached_at}
use Rattle.grammar.specs.Parsed.{Parsed, accepted, refused, phrase, followed}
use Rattle.grammar.specs.Expressions.{Scope, whole_expression}
use Rattle.grammar.specs.Conditions.{listed}
use Rattle.grammar.specs.Rules.{Span, Spanned, case_at, cases_from}
use Rattle.grammar.specs.Inner.Bytes.{bytes_c, bytes_picked}
use Rattle.grammar.proofs.Combine.{then_prop, apart, same_value}
use Rattle.grammar.proofs.Growth.{Grown, listed_grown}
use Rattle.grammar.proofs.Size.{Pays, case_pays}
use Rattle.expressions.specs.Inner.Steps.{Room}
use Rattle.agreement.specs.Inner.Spans.{spans_in, spans_of, Spans}
use Rattle.agreement.proofs.Parts.{spans_none}
use Rattle.lexer.specs.declared.Place.{Place}
use Rattle.lexer.specs.Results.{Step}
use Rattle.std.specs.Prelude.{Err}
use Rattle.limits.specs.declared.Refusal.{Refusal}
use Rattle.limits.specs.declared.Refusal.TheVariants.{NoToken, NotAllowed, TooMany}
use Rattle.limits.specs.Refusals.{refusal_number, refusal_place}
use Rattle.phrases.specs.Inner.Steps.{number_told, Writes}
use Rattle.phrases.proofs.Writing.{Got, writes, refuses}
use Rattle.cases.specs.Inner.Kept.{code_of_case, code_of_cases, end_of_condition, Lists}
use Rattle.cases.proofs.Ways.{then_bytes}
use Rattle.cases.proofs.Listing.{Found}

-- ---- spans

-- one more
spans_add : (from upto : List ℕ) (n f u : ℕ) → n < length from → n < length upto → spans_in (set from n f) (set upto n u) (suc n) ≡ spans_in from upto n ++ (record { from = f; to = u } ∷ [])
unfolding spans_in
spans_add [] upto n f u hf hu = absurd (omega arith)
spans_add (a ∷ from) [] n f u hf hu = absurd (omega arith)
spans_add (a ∷ from) (b ∷ upto) zero f u hf hu = ap (λ (l : List Span). record { from = f; to = u } ∷ l) (spans_none from upto)
spans_add (a ∷ from) (b ∷ upto) (suc n) f u hf hu = ap (λ (l : List Span). record { from = a; to = b } ∷ l) (spans_add from upto n f u (omega arith) (omega arith))

spans_append : (cs : List Spanned) (c : Spanned) → spans_of (cs ++ (c ∷ [])) ≡ spans_of cs ++ (c.span ∷ [])
spans_append [] c = refl
spans_append (d ∷ cs) c = ap (λ (l : List Span). d.span ∷ l) (spans_append cs c)

-- ---- code

code_append : (pick v : ℕ) (cs : List Spanned) (c : Spanned) → code_of_cases pick v (cs ++ (c ∷ [])) ≡ code_of_cases pick v cs ++ code_of_case pick v c
unfolding bytes_picked
code_append pick v [] c = refl
code_append pick v (d ∷ cs) c = rw (code_append pick v cs c) (simp append_assoc)

-- ---- a case's condition begins where the case does, and ends within the text

case_from : (sc : Scope) (w : List ℕ) (at n : ℕ) (c : Spanned) (m : ℕ) → case_at sc w at n ≡ accepted c m → c.span.from ≡ at
unfolding case_at followed
case_from sc w at n c m =
    then_prop P (listed sc n) _ (λ k q e. apart (sym e))
    (λ k n1 e1. then_prop P (phrase sc.text _ n1) _ (λ k q e. apart (sym e))
    (λ u n2 e2. then_prop P (whole_expression sc n2) _ (λ k q e. apart (sym e))
    (λ v n3 e3. then_prop P (phrase sc.text _ n3) _ (λ k q e. apart (sym e))
    (λ u2 n4 e4 e. ap (λ (x : Spanned). x.span.from) (sym (same_value e))))))
  where
    P : Parsed Spanned → Type 0
    P p = p ≡ accepted c m → c.span.from ≡ at

case_inside : (sc : Scope) → length sc.names ≤ 64 → (w : List ℕ) (at n : ℕ) → n ≤ length sc.text → (c : Spanned) (m : ℕ) → case_at sc w at n ≡ accepted c m → c.span.to ≤ length sc.text
unfolding case_at followed
case_inside sc few w at n h c m =
    then_prop P (listed sc n) _ (λ k q e. apart (sym e))
    (λ k n1 e1. then_prop P (phrase sc.text _ n1) _ (λ k q e. apart (sym e))
    (λ u n2 e2. then_prop P (whole_expression sc n2) _ (λ k q e. apart (sym e))
    (λ v n3 e3. then_prop P (phrase sc.text _ n3) _ (λ k q e. apart (sym e))
    (λ u2 n4 e4 e.
    let g = subst (Grown bytes_c (length sc.text) n) e1 (listed_grown sc few n h) in
    subst (λ (x : Spanned). x.span.to ≤ length sc.text) (same_value e) g.1))))
  where
    P : Parsed Spanned → Type 0
    P p = p ≡ accepted c m → c.span.to ≤ length sc.text

-- ---- cases with `left` of them left to read

module _ (sc : Scope) (w : List ℕ) (done : List Spanned) (a : ℕ) where
  cases_fault : {q : ℕ} (left : ℕ) → token_at sc.text a ≡ fault q → cases_from left sc w done a ≡ refused no_token q
  unfolding cases_from
  cases_fault zero e = rw e
  cases_fault (suc left) e = rw e

  module _ {k : Kind} {s n : ℕ} (e : token_at sc.text a ≡ token k s n) where
    cases_other : (left : ℕ) → is k open_square ≡ false → cases_from left sc w done a ≡ refused not_allowed s
    unfolding cases_from
    cases_other zero f = rw (e, f)
    cases_other (suc left) f = rw (e, f)

    module _ (f : is k open_square ≡ true) where
      cases_full : cases_from 0 sc w done a ≡ refused too_many s
      unfolding cases_from
      cases_full = rw (e, f)

      module _ (left : ℕ) where
        cases_refused : {l q : ℕ} → case_at sc w a n ≡ refused l q → cases_from (suc left) sc w done a ≡ refused l q
        unfolding cases_from
        cases_refused g = rw (e, f, g)

        module _ {c : Spanned} {n1 : ℕ} (g : case_at sc w a n ≡ accepted c n1) where
          cases_behind : {q : ℕ} → token_at sc.text n1 ≡ fault q → cases_from (suc left) sc w done a ≡ refused no_token q
          unfolding cases_from
          cases_behind h = rw (e, f, g, h)

          module _ {k2 : Kind} {s2 n2 : ℕ} (h : token_at sc.text n1 ≡ token k2 s2 n2) where
            cases_more : is k2 bar ≡ true → cases_from (suc left) sc w done a ≡ cases_from left sc w (done ++ (c ∷ [])) n2
            unfolding cases_from
            cases_more i = rw (e, f, g, h, i)

            cases_last : is k2 bar ≡ false → cases_from (suc left) sc w done a ≡ accepted (done ++ (c ∷ [])) n1
            unfolding cases_from
            cases_last i = rw (e, f, g, h, i)

-- ---- the loop

before_or : (j n : ℕ) → j < n + 1 → (j < n) ⊎ (j ≡ n)
before_or j n h = go (ltb j n) (ltb-true j n) (ltb-false j n)
  where
    go : (t : Bool) → (t ≡ true → j < n) → (t ≡ false → n ≤ j) → (j < n) ⊎ (j ≡ n)
    go true y z = inl (y refl)
    go false y z = let l = z refl in inr (omega arith)

-- what was read and written so far
pub record Casing (sc : Scope) (w : List ℕ) (limit pick v at to : ℕ) (out₀ from upto out : List ℕ) (a t count : ℕ) : Type 0 where
  pub done : List Spanned
  pub counted : length done ≡ count
  pub few : count ≤ limit
  pub small : limit ≤ case_limit
  pub same : cases_from limit sc w [] at ≡ cases_from (limit - count) sc w done a
  pub room : Room sc.text a t
  pub ended : t ≡ to + length (code_of_cases pick v done)
  pub wrote : out ≡ sets out₀ to (code_of_cases pick v done)
  pub listed : spans_of done ≡ spans_in from upto count
  pub inside : (i : ℕ) → i < count → get_or upto i 0 ≤ length sc.text
  pub in_from : limit ≤ length from
  pub in_upto : limit ≤ length upto

abbrev Answer : (sc : Scope) (w : List ℕ) (limit pick v at to : ℕ) (out₀ from upto out : List ℕ) → Step → Type 0
Answer sc w limit pick v at to out₀ from upto out r = Writes (code_of_cases pick v) number_told length (cases_from limit sc w [] at) to out₀ out r × Lists (cases_from limit sc w [] at) sc.text from upto

refuse : (sc : Scope) (w : List ℕ) (limit pick v at to : ℕ) (out₀ : List ℕ) {from upto out : List ℕ} {r : Step} {e : Refusal} → r ≡ Err e → cases_from limit sc w [] at ≡ refused (refusal_number e) (refusal_place e) → Answer sc w limit pick v at to out₀ from upto out r
refuse sc w limit pick v at to out₀ d e = (refuses d e, record { held = λ cs n f. apart (sym f ∙ e); listed = λ cs n f. apart (sym f ∙ e) })

pub casing_first : (sc : Scope) (w : List ℕ) (limit pick v at to : ℕ) (out₀ from upto : List ℕ) → Room sc.text at to → limit ≤ length from → limit ≤ length upto → limit ≤ case_limit → Casing sc w limit pick v at to out₀ from upto out₀ at to 0
unfolding bytes_picked
casing_first sc w limit pick v at to out₀ from upto r hf hu hs = record {
  done = [];
  counted = refl;
  few = omega arith;
  small = hs;
  same = let e : limit - 0 ≡ limit = omega arith in ap (λ (l : ℕ). cases_from l sc w [] at) (sym e);
  room = r;
  ended = omega arith;
  wrote = refl;
  listed = sym (spans_none from upto);
  inside = λ i h. absurd (omega arith);
  in_from = hf;
  in_upto = hu;
}

module _ {sc : Scope} {w : List ℕ} {limit pick v at to : ℕ} {out₀ from upto out : List ℕ} {a t count : ℕ} (x : Casing sc w limit pick v at to out₀ from upto out a t count) where
  -- the cases come to a refusal
  refused_so : {from' upto' out' : List ℕ} {r : Step} {e : Refusal} → r ≡ Err e → cases_from (limit - count) sc w x.done a ≡ refused (refusal_number e) (refusal_place e) → Answer sc w limit pick v at to out₀ from' upto' out' r
  refused_so d e = refuse sc w limit pick v at to out₀ d (x.same ∙ e)

  pub casing_fault : {from' upto' out' : List ℕ} {r : Step} {e : Refusal} → r ≡ Err e → (token_at sc.text a ≡ fault (refusal_place e)) × (e ≡ NoToken (refusal_place e)) → Answer sc w limit pick v at to out₀ from' upto' out' r
  casing_fault d f = refused_so (d ∙ ap Err f.1) (cases_fault sc w x.done a (limit - count) f.0)

  module _ {k s n : ℕ} (f : Found sc.text a k s n) where
    pub casing_other : {from' upto' out' : List ℕ} → is (kind_of k) open_square ≡ false → Answer sc w limit pick v at to out₀ from' upto' out' (Err (NotAllowed s))
    casing_other i = refused_so refl (cases_other sc w x.done a f.read (limit - count) i)

    module _ (i : is (kind_of k) open_square ≡ true) where
      pub casing_full : {from' upto' out' : List ℕ} → count ≡ limit → Answer sc w limit pick v at to out₀ from' upto' out' (Err (TooMany s))
      casing_full z =
          let e : limit - count ≡ 0 = omega arith in
          refused_so refl (ap (λ (l : ℕ). cases_from l sc w x.done a) e ∙ cases_full sc w x.done a f.read i)

      pub casing_room : Room sc.text n t
      casing_room = record { short = x.room.short; within = f.lies.within x.room.within; room = omega (arith, x.room.room, f.lies.after, f.lies.ordered) }

      module _ (z : count ≡ limit → ⊥) where
        more : count < limit
        more = omega (arith, x.few)

        some_left : cases_from (limit - count) sc w x.done a ≡ cases_from (suc (limit - (count + 1))) sc w x.done a
        some_left = let e : limit - count ≡ suc (limit - (count + 1)) = omega (arith, more) in ap (λ (l : ℕ). cases_from l sc w x.done a) e

        pub casing_refused : {from' upto' out' : List ℕ} {r : Step} {e : Refusal} → r ≡ Err e → case_at sc w a n ≡ refused (refusal_number e) (refusal_place e) → Answer sc w limit pick v at to out₀ from' upto' out' r
        casing_refused d e = refused_so d (some_left ∙ cases_refused sc w x.done a f.read i (limit - (count + 1)) e)

        module _ {out' : List ℕ} {o : Place} (g : Got (code_of_case pick v) number_told end_of_condition (case_at sc w a n) t out out' o) where
          pub casing_behind : {from' upto' out'' : List ℕ} {r : Step} {e : Refusal} → r ≡ Err e → (token_at sc.text o.at ≡ fault (refusal_place e)) × (e ≡ NoToken (refusal_place e)) → Answer sc w limit pick v at to out₀ from' upto' out'' r
          casing_behind d h = refused_so (d ∙ ap Err h.1) (some_left ∙ cases_behind sc w x.done a f.read i (limit - (count + 1)) g.is h.0)

          -- one case more
          abbrev all : List Spanned
          all = x.done ++ (g.tree ∷ [])

          all_counted : length all ≡ count + 1
          all_counted = length-append x.done (g.tree ∷ []) ∙ ap (λ (y : ℕ). y + 1) x.counted

          all_code : code_of_cases pick v all ≡ code_of_cases pick v x.done ++ code_of_case pick v g.tree
          all_code = code_append pick v x.done g.tree

          all_ended : o.to ≡ to + length (code_of_cases pick v all)
          all_ended = rw (all_code) (simp length-append (omega (arith, g.ended, x.ended)))

          all_wrote : out' ≡ sets out₀ to (code_of_cases pick v all)
          all_wrote = rw all_code (then_bytes out₀ to (code_of_cases pick v x.done) (code_of_case pick v g.tree) x.ended x.wrote g.wrote)

          all_listed : spans_of all ≡ spans_in (set from count a) (set upto count o.number) (count + 1)
          all_listed =
              spans_append x.done g.tree ∙ rw (add-one count, spans_add from upto count a o.number (omega (arith, more, x.in_from)) (omega (arith, more, x.in_upto)), ← x.listed, g.tells_it)
              (ap (λ (y : ℕ). spans_of x.done ++ (record { from = y; to = g.tree.span.to } ∷ [])) (case_from sc w a n g.tree o.at g.is))

          module _ (few : length sc.names ≤ 64) (hv : v < 64) where
            all_inside : (j : ℕ) → j < count + 1 → get_or (set upto count o.number) j 0 ≤ length sc.text
            all_inside j h = ⊎_elim
                (λ (l : j < count). rw (get_or-set_other upto count j o.number 0 (λ q. omega arith)) (x.inside j l))
                (λ (l : j ≡ count). rw (l, get_or-set_same upto count o.number 0 (omega (arith, more, x.in_upto)), g.tells_it) (case_inside sc few w a n casing_room.within g.tree o.at g.is))
                (before_or j count h)

            held : Spans sc.text (set from count a) (set upto count o.number) (count + 1)
            held = record { in_from = simp length-set (omega (arith, more, x.in_from)); in_to = simp length-set (omega (arith, more, x.in_upto)); inside = all_inside }

            paid : (2 * length (code_of_case pick v g.tree) + 3 * n ≤ 3 * o.at) × (o.at ≤ length sc.text)
            paid = subst (Pays (λ (c : Spanned). length (code_of_case pick v c)) (length sc.text) n) g.is (case_pays sc few v hv pick w a n casing_room.within)

            module _ {k2 s2 n2 : ℕ} (f2 : Found sc.text o.at k2 s2 n2) where
              pub casing_last : {r : Step} → r ≡ reached_at o.at o.to (count + 1) → is (kind_of k2) bar ≡ false → Answer sc w limit pick v at to out₀ (set from count a) (set upto count o.number) out' r
              casing_last d j =
                  let q : cases_from limit sc w [] at ≡ accepted all o.at = x.same ∙ (some_left ∙ cases_last sc w x.done a f.read i (limit - (count + 1)) g.is f2.read j) in (
                    writes d (record { tree = all; is = q; ended = all_ended; tells_it = sym all_counted; wrote = all_wrote }),
                    record {
                      held = λ cs y r. subst (λ (l : List Spanned). Spans sc.text (set from count a) (set upto count o.number) (length l)) (same_value (sym q ∙ r)) (rw all_counted held);
                      listed = λ cs y r. subst (λ (l : List Spanned). spans_of l ≡ spans_in (set from count a) (set upto count o.number) (length l)) (same_value (sym q ∙ r)) (rw all_counted all_listed);
                    },
                  )

              pub casing_more : is (kind_of k2) bar ≡ true → Casing sc w limit pick v at to out₀ (set from count a) (set upto count o.number) out' n2 o.to (count + 1)
              casing_more j = record {
                done = all;
                counted = all_counted;
                few = omega (arith, more);
                small = x.small;
                same = x.same ∙ (some_left ∙ cases_more sc w x.done a f.read i (limit - (count + 1)) g.is f2.read j);
                room = record {
                  short = x.room.short;
                  within = f2.lies.within paid.1;
                  room = omega (arith, g.ended, paid.0, casing_room.room, f2.lies.after, f2.lies.ordered);
                };
                ended = all_ended;
                wrote = all_wrote;
                listed = all_listed;
                inside = all_inside;
                in_from = simp length-set x.in_from;
                in_upto = simp length-set x.in_upto;
              }
