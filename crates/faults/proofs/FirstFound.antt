-- The first refusal found is answered: the record `FirstFound`. Assumes nothing.
use mathlib.Core.Path.{◌≡◌, refl, ap, sym, ◌∙◌, subst}
use mathlib.Core.List.{List}
use mathlib.Core.Bool.{Bool, true, false}
use Prim.Native.Nat.{ℕ, ◌≤◌, ◌<◌}
use native.Mathlib.Omega.{arith}
use lib.ListN.{length, length-take}
use Rattle.limits.specs.Limits.{text_limit}
use Rattle.limits.specs.Answer as Answer
use Rattle.lexer.specs.Token.{Kind, ending, is, TokenRead, token, fault}
use Rattle.lexer.specs.Lexer.{token_at}
use Rattle.lexer.proofs.Laws.{token_at_moved, token_faulted, Faulted}
use Rattle.lexer.proofs.Same.{same_kind}
use Rattle.grammar.specs.Parsed.{Parsed, refused}
use Rattle.grammar.specs.Parse.{program, parse, answer_of, program_of}
use Rattle.lexer.proofs.Spellings.{end_place}
use Rattle.grammar.proofs.ConverseText.{short_parse}
use Rattle.faults.specs.Texts.{read_end, SameThrough, FirstFound}
use Rattle.faults.proofs.Reaching.{reaches_le, read_start, token_again, not_ending}
use Rattle.faults.proofs.Readings.{RefusalOf, RefusedFrom}
use Rattle.faults.proofs.Alike.{Setting, b_within, Alike, Any, place_of, Same, yields, refuses, beyond}
use Rattle.faults.proofs.AlikeText.{program_alike}
use Rattle.faults.proofs.TextPlaces.{refused_parse, ParseRefusal, over, read, parse_refusal}

-- what stands before the end of the text has bytes, within the text
bounds : (text : List ℕ) (place : ℕ) (r : TokenRead) → token_at text place ≡ r → read_start r ≡ place → place < length text → (place < read_end r) × (read_end r ≤ length text)
bounds text place (token k s n) e q l = go (is k ending) refl
  where
    go : (t : Bool) → is k ending ≡ t → (place < n) × (n ≤ length text)
    go true t = let p = end_place text place s n (omega arith) (e ∙ ap (λ (x : Kind). token x s n) (same_kind k ending t)) in absurd (omega (arith, p.0))
    go false t = let m = token_at_moved text place k s n (omega arith) e in (omega (arith, m.3 (not_ending k t)), m.2)
bounds text place (fault p) e q l = let f = subst (Faulted (length text)) e (token_faulted text place) in (omega arith, omega arith)

told_start : (number place : ℕ) (r : TokenRead) → RefusalOf number place r → read_start r ≡ place
told_start number place (token k s n) h = h.2
told_start number place (fault p) h = h.1

same_refused : {A : Type 0} {S : Setting} {r r' : Parsed A} (number : ℕ) → Same S r r' → r ≡ refused number S.place → r' ≡ refused number S.place
same_refused number (yields a n i) e = let z : ◌≡◌ {A = ℕ} 0 1 = cc in absurd (omega arith)
same_refused number (refuses k q l) e = e
same_refused {A} {S = S} {r = r} number (beyond l l') e = let x = subst (λ (y : Parsed A). S.place < place_of y) e l in absurd (omega arith)

-- the setting of a refusal: reading comes to what is refused
setting : (text twin : List ℕ) (place b : ℕ) → read_start (token_at text b) ≡ place → place < length text → SameThrough text twin place → Setting
setting text twin place b s l x =
    let a : token_at text place ≡ token_at text b = ap (token_at text) (sym s) ∙ token_again text b (token_at text b) refl in
    let f : token_at text b ≡ x.found = sym a ∙ x.stands in
    let st : read_start x.found ≡ place = ap read_start (sym f) ∙ s in
    let w = bounds text place x.found x.stands st l in
    let m = ap length x.same in
    record {
      text = text;
      twin = twin;
      place = place;
      end = read_end x.found;
      b = b;
      found = x.found;
      is_found = f;
      starts = st;
      ends = refl;
      some_bytes = w.0;
      in_text_lem = w.1;
      in_twin = omega (arith, w.1, m, length-take (read_end x.found) text, length-take (read_end x.found) twin);
      same = x.same;
      twin_found = x.stands_there;
    }

-- a parser that refuses the one text refuses the other
pub twin_refused : {A : Type 0} (text twin : List ℕ) (at number place : ℕ) (F : List ℕ → Parsed A) → ((S : Setting) → Alike S Any at F) → place < length text → SameThrough text twin place → RefusedFrom text at number place → F text ≡ refused number place
    → (F twin ≡ refused number place) × (at ≤ length twin)
unfolding setting
twin_refused text twin at number place F g l x r e =
    let S = setting text twin place r.0 (told_start number place (token_at text r.0) r.2) l x in
    (same_refused {S = S} number ((g S).alike tt tt r.1) e, omega (arith, reaches_le text r.1, b_within S, S.some_bytes, S.in_twin))

first : (text twin : List ℕ) (number place : ℕ) → program_of text ≡ Answer.refused number place → place < length text → SameThrough text twin place → length text ≤ text_limit → length twin ≤ text_limit → program_of twin ≡ Answer.refused number place
unfolding program_of
first text twin number place e l x h h' = go (parse_refusal text number place e)
  where
    answer : parse twin ≡ refused number place → answer_of (parse twin) ≡ Answer.refused number place
    answer q = rw q

    go : ParseRefusal text number place → answer_of (parse twin) ≡ Answer.refused number place
    go (over i j k) = absurd (omega arith)
    go (read i y) =
        answer (short_parse twin h' ∙ (twin_refused text twin 0 number place program program_alike l x y (sym (short_parse text h) ∙ refused_parse text number place e)).0)

pub first_found : FirstFound
first_found = record { first_found = first }
