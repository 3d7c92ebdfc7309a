-- The text is whole: its refusal, or its image, its start and their lines. Assumes nothing.
use mathlib.Core.Path.{◌≡◌, refl, sym, ap, ap₂, subst, ◌∙◌}
use mathlib.Core.List.{List, [], ◌∷◌, ◌++◌}
use mathlib.Core.Option.{some}
use Prim.Native.Nat.{ℕ, zero, suc, ◌+◌, ◌*◌, ◌≤◌}
use native.Mathlib.Omega.{arith}
use lib.ListN.{length, take, drop, get_elem?, length-map, length-take}
use lib.Seq.{take-append_seam, length-take-le}
use borrow.Author.Tests.{le-leb}
use Rattle.limits.specs.Limits.{state_limit}
use Rattle.limits.specs.Answer as A
use Rattle.semantics.specs.Program.{Program}
use Rattle.semantics.specs.Formula.{State}
use Rattle.semantics.specs.Rows.{starts_of}
use Rattle.bytecode.specs.Translation.{image_of}
use Rattle.lexer.specs.Names.{table_names}
use Rattle.grammar.specs.Parsed.{accepted, refused}
use Rattle.grammar.specs.Parse.{parse, answer_of, program_of}
use Rattle.grammar.specs.Declarations.{spellings}
use Rattle.grammar.proofs.Accepted.{name_length, parse_short, parse_named, parse_few, parse_growth, parse_translatable}
use Rattle.grammar.proofs.Image.{image_emitted}
use Rattle.std.specs.Prelude.{Result}
use Rattle.limits.specs.declared.Refusal.{Refusal}
use Rattle.translate.specs.Services.{AfterTranslation, translation_of}
use Rattle.translate.specs.Results.{after_translation}
use Rattle.translate.specs.Inner.Descent.{AnalysedText}
use Rattle.std.specs.Prelude.{Result}
use Rattle.limits.specs.declared.Refusal.{Refusal}
use Rattle.scan.specs.Services.{AfterStart, start_of}
use Rattle.scan.specs.Results.{after_start}
use Rattle.correctness.proofs.Correct.{start_translated}
use Rattle.trace_text.specs.Output.{head_line, row_line, refused_line, Put}
use Rattle.trace_text.proofs.Puts.{put_length, put_inside}
use Rattle.trace_text.proofs.Lengths.{AllShort, head_length, put_all}
use Rattle.trace_text.specs.declared.Stage.TheVariants.{Rows}
use Rattle.trace_text.specs.declared.Line.TheVariants.{Start}
use Rattle.tracer.specs.declared.Tracer.TheVariants as T
use Rattle.tracer.specs.Printed.{printed_values, opening}
use Rattle.tracer.specs.Session.{line_room}
use Rattle.tracer.specs.Inner.Contracts.{PutWhole, AcceptedText, Begins, Opens}
use Rattle.tracer.proofs.States.{state_counted, state_few}

-- ---- what analyse says

pub text_accepted : {text starts ends : List ℕ} {size inputs names timers at count : ℕ} → AnalysedText text (parse text) starts ends size inputs names timers at count → AcceptedText text starts ends size names (names + timers)
text_accepted {text} x = record {
  program = x.program;
  place = x.end;
  parsed = x.parsed;
  sized = x.sized ∙ ap length (image_emitted x.program);
  counted = x.named;
  spelled = rw x.named x.held.spelled;
  states = ap₂ ◌+◌ x.named x.timed ∙ sym (state_counted x.program (parse_translatable text x.program x.end x.parsed).well_formed);
}

pub text_refused : (text : List ℕ) {number place : ℕ} → parse text ≡ refused number place → program_of text ≡ A.refused number place
unfolding program_of
text_refused text e = ap answer_of e

program-is : (text : List ℕ) (p : Program) (n : ℕ) → parse text ≡ accepted p n → program_of text ≡ A.accepted p
unfolding program_of
program-is text p n e = ap answer_of e

-- the program of a text is one
pub program-one : (text : List ℕ) (p q : Program) (n : ℕ) → parse text ≡ accepted p n → program_of text ≡ A.accepted q → p ≡ q
program-one text p q n e f = let g = program-is text p n e in cc

-- image, state and bytes put out, of whatever program the text has
pub begins : {text starts ends : List ℕ} {size names width : ℕ} (a : AcceptedText text starts ends size names width) {image : List ℕ} {t : State} {out : List ℕ}
    → image ≡ image_of a.program → t ≡ starts_of a.program → out ≡ opening (A.accepted a.program) → (p : Program) → program_of text ≡ A.accepted p → Begins image t out p
begins {text} a {image} {t} {out} i s o p e =
    subst (Begins image t out) (program-one text a.program p a.place a.parsed e) (record { image_is = i; state_is = s; printed_is = o })

-- the names are the first numbers of the state, which has room
pub names_fit : {text starts ends : List ℕ} {size names width : ℕ} → AcceptedText text starts ends size names width → (names ≤ width) × (width ≤ state_limit)
names_fit {text} a =
    let w = (parse_translatable text a.program a.place a.parsed).well_formed in
    let k = a.states ∙ state_counted a.program w in
    (omega (arith, k, a.counted), omega (arith, k, state_few a.program w (parse_few text a.program a.place a.parsed)))

pub state_part : {text starts ends : List ℕ} {size names width : ℕ} → AcceptedText text starts ends size names width → (s : State) → length s ≡ state_limit → length (take width s) ≡ width
state_part {width = width} a s e = length-take-le width s (omega (arith, (names_fit a).1, e))

-- the numbers of the state as they are counted
pub accepts_part : {text starts ends : List ℕ} {size names width n : ℕ} → AcceptedText text starts ends size names width → n ≡ width → AcceptedText text starts ends size names n
accepts_part {text} {starts} {ends} {size} {names} {width} {n} a e = subst (AcceptedText text starts ends size names) (sym e) a

-- ---- bytes put whole

pub put_whole : {l : List ℕ} {at : ℕ} {xs k : List ℕ} {p : ℕ} → Put l at xs k p → at + length xs ≤ length l → PutWhole l at xs k p
put_whole h r = let e = h.place in record { bytes = put_all h r; place = omega arith; inside = omega (arith, put_inside h, put_length h) }

-- ---- an accepted text

image_stored : (text buffer : List ℕ) (p : Program) → program_of text ≡ A.accepted p → length (image_of p) ≤ length buffer
    → (translation_of text buffer).buffer ≡ image_of p ++ drop (length (image_of p)) buffer
unfolding translation_of
image_stored text buffer p e h = rw (e, le-leb (length (image_of p)) (length buffer) h)

all_short : (l : List (List ℕ)) → ((i : ℕ) (w : List ℕ) → get_elem? l i ≡ some w → length w ≤ 16) → AllShort l
all_short [] h = tt
all_short (x ∷ l) h = (h zero x refl, all_short l (λ i w e. h (suc i) w e))

module _ {text starts ends : List ℕ} {size names : ℕ} (s : State) (a : AcceptedText text starts ends size names (length s)) where
  abbrev p : Program
  p = a.program

  pub image_is : (buffer : List ℕ) → 49154 ≤ length buffer → (r : Result ℕ Refusal) {left : List ℕ} → after_translation r left ≡ translation_of text buffer → take size left ≡ image_of p
  image_is buffer h r {left} e =
      let g = parse_growth text p a.place a.parsed in
      let l = parse_short text p a.place a.parsed in
      let f : left ≡ image_of p ++ drop (length (image_of p)) buffer = ap {A = AfterTranslation} (λ x. x.buffer) e ∙ image_stored text buffer p (program-is text p a.place a.parsed) (omega arith) in
      ap (λ (k : ℕ). take k left) a.sized ∙ ap (take (length (image_of p))) f ∙ take-append_seam (image_of p) (drop (length (image_of p)) buffer)

  -- the image ends within the buffer left
  pub size_inside : (buffer : List ℕ) → 49154 ≤ length buffer → (left : List ℕ) → length left ≡ length buffer → size ≤ length left
  size_inside buffer h left e =
      let g = parse_growth text p a.place a.parsed in
      let l = parse_short text p a.place a.parsed in
      omega (arith, a.sized)

  pub start_is : (image : List ℕ) → image ≡ image_of p → (r : Result (Unit {0}) Refusal) {t : State} → after_start r t ≡ start_of image s → t ≡ starts_of p
  start_is image i r e =
      let t = parse_translatable text p a.place a.parsed in
      ap {A = AfterStart} (λ x. x.state) (e ∙ ap (λ (x : List ℕ). start_of x s) i ∙ start_translated p t s a.states)

  head_short : length (head_line (spellings p.names)) ≤ 1100
  head_short =
      let few = parse_few text p a.place a.parsed in
      let n = parse_named text p a.place a.parsed in
      head_length (spellings p.names) (all_short (spellings p.names) (λ i w e. (name_length w (n.each i w e)).1)) (rw (length-map p.names (λ x. x.spelling)) (omega arith))

  pub opening_put : {out first second : List ℕ} {at put : ℕ} {t : State} → t ≡ starts_of p → line_room ≤ length out
      → Put out 0 (head_line (table_names text starts ends names)) first at → Put first at (row_line 0 (take names t) 0) second put → length (row_line 0 (take names t) 0) ≤ 12 * length (take names t) + 42
      → (take put second ≡ opening (A.accepted p)) × (put ≤ length second)
  opening_put {out} {first} {second} {at} {put} {t} i r h g l =
      let few = parse_few text p a.place a.parsed in
      let n : length (take names t) ≤ 64 = rw length-take (omega (arith, a.counted, few)) in
      let v : take names t ≡ printed_values (length p.names) (starts_of p) = ap (λ (k : ℕ). take k t) a.counted ∙ ap (take (length p.names)) i in
      let k = head_short in
      let f : Put out 0 (head_line (spellings p.names)) first at = rw a.spelled at h in
      let z : at ≡ length (head_line (spellings p.names)) = (put_whole f (omega arith)).place ∙ omega arith in
      let u : take at first ≡ head_line (spellings p.names) = put_all f (omega arith) in
      let w = put_whole g (omega (arith, put_length f)) in
      (w.bytes ∙ ap (λ (x : List ℕ). x ++ row_line 0 (take names t) 0) u ∙ ap (λ (x : State). head_line (spellings p.names) ++ row_line 0 x 0) v, w.inside)

-- ---- behind the text

pub opens_refused : (text image : List ℕ) (s : State) {number place : ℕ} → program_of text ≡ A.refused number place → {out after : List ℕ} {put : ℕ} → line_room ≤ length out
    → Put out 0 (refused_line number place) after put → length (refused_line number place) ≤ 53 → Opens text image s after (T.Text Rows 0) put
opens_refused text image s e r h l =
    let w = put_whole h (omega arith) in
    record { session = λ buffer cells. rw e; output = rw e w.bytes; inside = w.inside }

pub opens_accepted : {text starts ends : List ℕ} {size names width : ℕ} (a : AcceptedText text starts ends size names width) (image : List ℕ) (s t : State) (out : List ℕ) (put : ℕ)
    → ((p : Program) → program_of text ≡ A.accepted p → Begins (take size image) t (take put out) p) → take width s ≡ t → put ≤ length out
    → Opens text image s out (T.Rows size names width Start 0) put
opens_accepted {text} {starts} {ends} {size} {names} {width} a image s t out put b e i =
    let q = program-is text a.program a.place a.parsed in
    let g = b a.program q in
    record {
      session = λ buffer cells. rw (q, e, a.counted, g.image_is, g.state_is);
      output = rw q g.printed_is;
      inside = i;
    }
