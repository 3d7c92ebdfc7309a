-- Where a refusal of a text stands: the record `FaultPlaces`. Assumes nothing.
use mathlib.Core.Path.{◌≡◌, refl, ap, sym, ◌∙◌}
use mathlib.Core.List.{List}
use mathlib.Core.Bool.{Bool, true, false}
use Prim.Native.Nat.{ℕ, ◌≤◌, ◌<◌}
use native.Mathlib.Omega.{arith}
use lib.ListN.{length}
use lib.Dec.{ltb}
use borrow.Author.Tests.{lt-ltb, ltb-true, ltb-false}
use Rattle.limits.specs.Limits.{text_limit, no_token, too_long}
use Rattle.limits.specs.Answer as A
use Rattle.lexer.specs.Token.{Kind, TokenRead, token, fault}
use Rattle.lexer.specs.Lexer.{token_at}
use Rattle.semantics.specs.Program.{Program}
use Rattle.grammar.specs.Parsed.{Parsed, accepted, refused}
use Rattle.grammar.specs.Parse.{parse, answer_of, program_of}
use Rattle.lexer.proofs.Spellings.{end_place}
use Rattle.faults.specs.Texts.{Behind, TokenBegins, FaultPlaces}
use Rattle.faults.proofs.Reaching.{Reaches, reaches_within, spelt_to, token_again}
use Rattle.faults.proofs.Readings.{RefusalOf, RefusedFrom}
use Rattle.faults.proofs.ReadingsText.{parse_reads}

pub refused_parse : (text : List ℕ) (number place : ℕ) → program_of text ≡ A.refused number place → parse text ≡ refused number place
unfolding program_of
refused_parse text number place = go (parse text)
  where
    go : (r : Parsed Program) → answer_of r ≡ A.refused number place → r ≡ refused number place
    go (accepted p n) e = let z : ◌≡◌ {A = ℕ} 0 1 = cc in absurd (omega arith)
    go (refused k q) e = cc

long_parse : (text : List ℕ) → text_limit < length text → parse text ≡ refused too_long 0
unfolding parse
long_parse text h = rw (lt-ltb text_limit (length text) h)

-- a refusal is 9 at 0, of a text over its limit, or refuses what is read
pub data ParseRefusal (text : List ℕ) (number place : ℕ) : Type 0 where
  over : text_limit < length text → number ≡ too_long → place ≡ 0 → ParseRefusal text number place
  read : length text ≤ text_limit → RefusedFrom text 0 number place → ParseRefusal text number place

pub parse_refusal : (text : List ℕ) (number place : ℕ) → program_of text ≡ A.refused number place → ParseRefusal text number place
parse_refusal text number place e = go (ltb text_limit (length text)) refl
  where
    q : parse text ≡ refused number place
    q = refused_parse text number place e

    go : (t : Bool) → ltb text_limit (length text) ≡ t → ParseRefusal text number place
    go true t =
        let l = ltb-true text_limit (length text) t in
        let f : ◌≡◌ {A = Parsed Program} (refused too_long 0) (refused number place) = sym (long_parse text l) ∙ q in
        over l (cc) (cc)
    go false t = let l = ltb-false text_limit (length text) t in read l (rw q at (parse_reads text l)).found

behind_of : (text : List ℕ) (b : ℕ) (r : TokenRead) → Reaches text 0 b → token_at text b ≡ r → Behind text r
behind_of text b r c e = let x = spelt_to text (omega arith) c in record { before = x.before; end = x.end; spells = x.spells; next = x.same ∙ e }

pub fault_places : FaultPlaces
unfolding program_of
fault_places = record {
  too_long_lem = λ text h. rw (long_parse text h);
  only_too_long = λ text place e. nine text place (parse_refusal text too_long place e);
  no_token_lem = λ text place e. one text place (parse_refusal text no_token place e);
  only_no_token = λ text number place e f g. only text number place f g (parse_refusal text number place e);
  at_token = λ text number place e f g. others text number place f g (parse_refusal text number place e);
}
  where
    nine : (text : List ℕ) (place : ℕ) → ParseRefusal text too_long place → (text_limit < length text) × (place ≡ 0)
    nine text place (over l e f) = (l, f)
    nine text place (read l (b, c, t)) = go (token_at text b) t
      where
        go : (r : TokenRead) → RefusalOf too_long place r → (text_limit < length text) × (place ≡ 0)
        go (token k s n) h = absurd (h.1 refl)
        go (fault p) h = absurd (omega (arith, h.0))

    one : (text : List ℕ) (place : ℕ) → ParseRefusal text no_token place → (token_at text place ≡ fault place) × Behind text (fault place)
    one text place (over l e f) = absurd (omega (arith, e))
    one text place (read l x) = go (token_at text x.0) refl x.2
      where
        go : (r : TokenRead) → token_at text x.0 ≡ r → RefusalOf no_token place r → (token_at text place ≡ fault place) × Behind text (fault place)
        go (token k s n) e h = absurd (omega (arith, h.0))
        go (fault p) e h =
            let f : token_at text x.0 ≡ fault place = e ∙ ap fault h.1 in
            (token_again text x.0 (fault place) f, behind_of text x.0 (fault place) x.1 f)

    only : (text : List ℕ) (number place : ℕ) → (number ≡ too_long → ⊥) → token_at text place ≡ fault place → ParseRefusal text number place → number ≡ no_token
    only text number place f g (over l e h) = absurd (f e)
    only text number place f g (read l x) = go (token_at text x.0) refl x.2
      where
        go : (r : TokenRead) → token_at text x.0 ≡ r → RefusalOf number place r → number ≡ no_token
        go (token k s n) e h =
            let q : token k s n ≡ fault place = sym (token_again text x.0 (token k s n) e) ∙ (ap (token_at text) h.2 ∙ g) in
            let z : ◌≡◌ {A = ℕ} 0 1 = cc in
            absurd (omega arith)
        go (fault p) e h = h.0

    others : (text : List ℕ) (number place : ℕ) → (number ≡ no_token → ⊥) → (number ≡ too_long → ⊥) → ParseRefusal text number place → TokenBegins text place
    others text number place f g (over l e h) = absurd (g e)
    others text number place f g (read l x) = go (token_at text x.0) refl x.2
      where
        go : (r : TokenRead) → token_at text x.0 ≡ r → RefusalOf number place r → TokenBegins text place
        go (token k s n) e h =
            let q : token_at text x.0 ≡ token k place n = e ∙ ap (λ (y : ℕ). token k y n) h.2 in
            let w = reaches_within text (omega arith) x.1 in
            record { kind = k; end = n; stands = token_again text x.0 (token k place n) q; at_end_lem = λ z. (end_place text x.0 place n w (q ∙ ap (λ (y : Kind). token y place n) z)).0; behind = behind_of text x.0 (token k place n) x.1 q }
        go (fault p) e h = absurd (f h.0)
