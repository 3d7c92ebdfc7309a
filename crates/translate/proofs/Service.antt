-- From the descent to the service: the limit of texts, the answer, and the buffer. Assumes nothing.
use mathlib.Core.Path.{◌≡◌, refl, sym, ap, subst, ◌∙◌}
use mathlib.Core.Bool.{Bool, true, false, cond}
use mathlib.Core.List.{List, [], ◌∷◌, ◌++◌}
use Prim.Native.Nat.{ℕ, ◌+◌, ◌-◌, ◌*◌, ◌≤◌, ◌<◌}
use native.Mathlib.Omega.{arith}
use lib.Dec.{leb}
use lib.ListN.{length, take, drop, get_or, length-map}
use lib.Seq.{sets, length-sets}
use borrow.Author.Tests.{lt-ltb, le-leb, lt-leb}
use Rattle.limits.specs.Limits.{text_limit, name_limit, image_limit}
use Rattle.limits.specs.Answer.{Answer}
use Rattle.limits.specs.Answer as A
use Rattle.semantics.specs.Program.{Program}
use Rattle.bytecode.specs.Translation.{image_of}
use Rattle.grammar.specs.Parsed.{Parsed, accepted, refused}
use Rattle.grammar.specs.Inner.Bytes.{header, bytes_r, image}
use Rattle.grammar.specs.Parse.{program, parse, answer_of, program_of}
use Rattle.grammar.proofs.Image.{image_emitted}
use Rattle.grammar.proofs.Accepted.{parse_translatable, parse_few, parse_growth, parse_short as accepted-short}
use Rattle.grammar.proofs.PlacesText.{Placed, parse_limited}
use Rattle.grammar.proofs.ConverseText.{short_parse}
use Rattle.lexer.specs.declared.Place.{Place}
use Rattle.lexer.specs.Results.{Step}
use Rattle.std.specs.Prelude.{Result, Ok, Err}
use Rattle.limits.specs.declared.Refusal.{Refusal}
use Rattle.limits.specs.declared.Refusal.TheVariants.{TooLong, BufferTooShort}
use Rattle.limits.specs.Refusals.{refusal_number, refusal_place, stands_for}
use Rattle.phrases.proofs.Writing.{got, refused_part}
use Rattle.translate.specs.declared.Analysis.{Analysis}
use Rattle.translate.specs.Services.{AfterTranslation, translated, translation_of}
use Rattle.translate.specs.Results.{after_translation, TranslatedWithin}
use Rattle.translate.specs.Inner.Descent.{WatchesStand, AnalysedText, AnalysedAs, Analyses, Descends}
use Rattle.leb128.proofs.Stores.{sets_past, take_sets}
use Rattle.translate.proofs.Descent.{image_bytes}

-- ---- the limit of texts

pub parse_long : (text : List ℕ) → text_limit < length text → parse text ≡ refused 9 0
unfolding parse
parse_long text h = rw (lt-ltb text_limit (length text) h)

-- the two counts are the first bytes of the image
two_counts : (q : Program) → q.inputs ≤ length q.names → length q.names ≤ name_limit → sets (0 ∷ 0 ∷ []) 0 (image q) ≡ q.inputs ∷ (length q.names - q.inputs) ∷ []
two_counts q h i = rw (image_bytes q (omega arith) (omega arith)) (sets_past (q.inputs ∷ (length q.names - q.inputs) ∷ []) 2 (header q.names ++ bytes_r q.timers q.rules) (omega arith))

module _ (text last starts ends : List ℕ) {r : Step} (short : length text ≤ text_limit) (d : Descends text (program text) (0 ∷ 0 ∷ []) last starts ends r) where
  pub analyses_refused : (e : Refusal) → r ≡ Err e → parse text ≡ refused (refusal_number e) (refusal_place e)
  analyses_refused e h = short_parse text short ∙ refused_part d.writes h

  module _ (x : Place) (e : r ≡ Ok x) {i v : ℕ} (ei : i ≡ get_or last 0 0) (ev : v ≡ get_or last 1 0) (hs : name_limit ≤ length starts) (he : name_limit ≤ length ends) where
    abbrev read : Program
    read = (got d.writes e).tree

    parsed : parse text ≡ accepted read x.at
    parsed = short_parse text short ∙ (got d.writes e).is

    few : length read.names ≤ name_limit
    few = parse_few text read x.at parsed

    inputs_few : read.inputs ≤ length read.names
    inputs_few = subst (λ (n : ℕ). read.inputs ≤ n) (length-map read.names (λ n. n.range)) (parse_translatable text read x.at parsed).well_formed.inputs_fit

    two_are : last ≡ read.inputs ∷ (length read.names - read.inputs) ∷ []
    two_are = (got d.writes e).wrote ∙ two_counts read inputs_few few

    first : i ≡ read.inputs
    first = ei ∙ ap (λ (k : List ℕ). get_or k 0 0) two_are

    -- the two counts together
    total : i + v ≡ length read.names
    total = let b : v ≡ length read.names - read.inputs = ev ∙ ap (λ (k : List ℕ). get_or k 1 0) two_are in omega (arith, first, b, inputs_few)

    standing : WatchesStand text starts ends (i + v) x.start read.watches
    standing =
        let w = (d.watched read x.at x (got d.writes e).is e).1 in
        let t = (d.named read x.at (got d.writes e).is).spelled in
        record {
          short = short;
          within = w.within;
          few = omega (arith, total, few);
          table = record { in_starts = omega (arith, total, few, hs); in_ends = omega (arith, total, few, he) };
          end = w.end;
          read = rw (total, t) w.read;
        }

    pub analyses_accepted : AnalysedText text (parse text) starts ends x.to i (i + v) x.end x.start x.number
    analyses_accepted =
        let g = got d.writes e in
        record {
          program = read;
          end = x.at;
          parsed = parsed;
          sized = omega (arith, g.ended);
          inputs_are = first;
          named = total;
          timed = d.timed read x.at x g.is e;
          counted = (d.watched read x.at x g.is e).0;
          held = d.named read x.at g.is;
          stand = standing;
        }

-- ---- what the analysis says of the text

module _ {text : List ℕ} {p : Parsed Program} {starts ends : List ℕ} {r : Result Analysis Refusal} (a : Analyses text p starts ends r) where
  pub analysed_text : {x : Analysis} → r ≡ Ok x → AnalysedText text p starts ends x.length x.inputs x.names x.timers x.rules_end x.watches
  analysed_text e = subst (AnalysedAs text p starts ends) e a.so

  pub analysed_refused : {e : Refusal} → r ≡ Err e → p ≡ refused (refusal_number e) (refusal_place e)
  analysed_refused h = subst (AnalysedAs text p starts ends) h a.so

-- ---- the service's definition

module _ (text buffer : List ℕ) where
  pub translation_refused : (e : Refusal) → parse text ≡ refused (refusal_number e) (refusal_place e) → after_translation (Err e) buffer ≡ translation_of text buffer
  unfolding translation_of program_of
  translation_refused e h = rw h

  module _ (q : Program) (n : ℕ) (e : parse text ≡ accepted q n) where
    pub translation_short : length buffer < length (image q) → after_translation (Err (BufferTooShort (length text))) buffer ≡ translation_of text buffer
    unfolding translation_of program_of
    translation_short h = rw (e, ← image_emitted, lt-leb (length (image q)) (length buffer) h)

    pub translation_stored : (left : List ℕ) → length (image q) ≤ length buffer → left ≡ image q ++ drop (length (image q)) buffer → after_translation (Ok (length (image q))) left ≡ translation_of text buffer
    unfolding translation_of program_of
    translation_stored left h w = rw (e, ← image_emitted, le-leb (length (image q)) (length buffer) h, w)

-- ---- how large the numbers of an answer are

abbrev Small : Answer ℕ → Type 0
Small (A.accepted n) = n ≤ image_limit
Small (A.refused number place) = place ≤ text_limit

translation_small : (text buffer : List ℕ) → Small (translation_of text buffer).answer
unfolding translation_of program_of
translation_small text buffer = go (parse text) refl (parse_limited text)
  where
    room : (p : Program) → length (image_of p) ≤ image_limit → length text ≤ text_limit → (b : Bool)
        → Small (cond {A = AfterTranslation} b (record { answer = A.accepted (length (image_of p)); buffer = image_of p ++ drop (length (image_of p)) buffer }) (record { answer = A.refused 10 (length text); buffer = buffer })).answer
    room p h l true = h
    room p h l false = l

    go : (r : Parsed Program) → parse text ≡ r → Placed text_limit r → Small (translated (answer_of r) text buffer).answer
    go (accepted p n) e h = room p (parse_translatable text p n e).short (accepted-short text p n e) (leb (length (image_of p)) (length buffer))
    go (refused k q) e h = h.1

pub translation_within : (text buffer : List ℕ) (r : Result ℕ Refusal) (left : List ℕ) → after_translation r left ≡ translation_of text buffer → TranslatedWithin r
translation_within text buffer r left e = go r (subst Small (sym (ap {A = AfterTranslation} (λ x. x.answer) e)) (translation_small text buffer))
  where
    go : (r : Result ℕ Refusal) → Small (stands_for r) → TranslatedWithin r
    go (Ok n) h = h
    go (Err e) h = h

-- what is the definition's answer is as small as that
bounded : (text buffer : List ℕ) (r : Result ℕ Refusal) (left : List ℕ) → after_translation r left ≡ translation_of text buffer → (after_translation r left ≡ translation_of text buffer) × TranslatedWithin r
bounded text buffer r left e = (e, translation_within text buffer r left e)

-- ---- the service's ways

pub long_refused : (text buffer : List ℕ) → text_limit < length text → (after_translation (Err TooLong) buffer ≡ translation_of text buffer) × TranslatedWithin (Err TooLong)
long_refused text buffer h = bounded text buffer (Err TooLong) buffer (translation_refused text buffer TooLong (parse_long text h))

-- a descent over memory with room for the image: the image stands in front
pub record Made (text scratch : List ℕ) (size : ℕ) : Type 0 where
  pub read : Program
  pub end : ℕ
  pub parsed : parse text ≡ accepted read end
  pub measure : size ≡ length (image read)
  pub room : size ≤ length scratch
  pub there : take size scratch ≡ image read

module _ (text before after starts ends : List ℕ) {r : Step} (short : length text ≤ text_limit) (d : Descends text (program text) before after starts ends r) where
  pub fault_passed : (e : Refusal) (buffer : List ℕ) → r ≡ Err e → (after_translation (Err e) buffer ≡ translation_of text buffer) × TranslatedWithin (Err e)
  fault_passed e buffer h = bounded text buffer (Err e) buffer (translation_refused text buffer e (short_parse text short ∙ refused_part d.writes h))

  pub image_made : (x : Place) → 3 * length text + 4 ≤ 2 * length before → r ≡ Ok x → Made text after x.to
  image_made x h e =
      let g = got d.writes e in
      let p : parse text ≡ accepted g.tree x.at = short_parse text short ∙ g.is in
      let l : length (image g.tree) ≡ length (image_of g.tree) = ap {A = List ℕ} length (image_emitted g.tree) in
      let f : length (image g.tree) ≤ length before = omega (arith, parse_growth text g.tree x.at p) in
      let m : x.to ≡ length (image g.tree) = omega (arith, g.ended) in
      record {
        read = g.tree;
        end = x.at;
        parsed = p;
        measure = m;
        room = omega (arith, ap {A = List ℕ} length g.wrote, length-sets before 0 (image g.tree));
        there = ap (λ (n : ℕ). take n after) m ∙ ap (take (length (image g.tree))) g.wrote ∙ take_sets before (image g.tree) f;
      }

module _ {text scratch : List ℕ} {size : ℕ} (m : Made text scratch size) (buffer : List ℕ) where
  pub made_short : length buffer < size → (after_translation (Err (BufferTooShort (length text))) buffer ≡ translation_of text buffer) × TranslatedWithin (Err (BufferTooShort (length text)))
  made_short h = bounded text buffer (Err (BufferTooShort (length text))) buffer (translation_short text buffer m.read m.end m.parsed (omega (arith, m.measure)))

  pub made_stored : (left : List ℕ) → size ≤ length buffer → left ≡ take size scratch ++ drop (length (take size scratch)) buffer
      → (after_translation (Ok size) left ≡ translation_of text buffer) × TranslatedWithin (Ok size)
  made_stored left h w =
      rw m.measure (bounded text buffer (Ok (length (image m.read))) left (translation_stored text buffer m.read m.end m.parsed left (omega (arith, m.measure)) (w ∙ rw m.there)))
