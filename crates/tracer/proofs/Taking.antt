-- The bytes that one call takes: in the rows, in the text, behind a refused text. Assumes nothing.
use mathlib.Core.Path.{◌≡◌, refl, sym, ap, subst, ◌∙◌}
use mathlib.Core.Bool.{true, false, true≢false}
use mathlib.Core.List.{List, [], ◌∷◌, ◌++◌, append-nil}
use Prim.Native.Nat.{ℕ, suc, ◌+◌, ◌-◌, ◌≤◌, ◌<◌, min}
use native.Mathlib.Numerals.{add-one}
use native.Mathlib.Omega.{arith}
use lib.IntN.{ℤ}
use lib.ListN.{length, get_or, take, drop, length-take, drop_of_length-le}
use lib.Seq.{take-suc, drop-cons, take_at, take_all}
use borrow.Author.Tests.{lt-ltb, le-ltb}
use Rattle.limits.specs.Limits.{state_limit}
use Rattle.semantics.specs.Formula.{State}
use Rattle.grammar.specs.Parse.{program_of}
use Rattle.scan.specs.Services.{scan_of}
use Rattle.trace_text.specs.Output.{Put}
use Rattle.trace_text.specs.declared.Stage.{Stage}
use Rattle.trace_text.specs.declared.Stage.TheVariants.{LineStart, InLine, Hash, Rows}
use Rattle.trace_text.specs.declared.Line.{Line}
use Rattle.trace_text.specs.Inner.Stages.{stage_after, text_after, stage_over, text_over, is_rows, bytes_before, handed_row, is_begun}
use Rattle.trace_text.proofs.Chunks.{rows_of, stage_rows, text_rows, none_before, before_cons}
use Rattle.trace_text.proofs.Within.{rows-within}
use Rattle.trace_text.proofs.Lengths.{put_cut}
use Rattle.leb128.proofs.Stores.{take_clip}
use Rattle.tracer.specs.declared.Tracer.{Tracer}
use Rattle.tracer.specs.declared.Tracer.TheVariants as T
use Rattle.tracer.specs.Printed.{opening}
use Rattle.tracer.specs.Session.{text_room, line_room, Session, in_text, in_rows, passed_over, if_text, if_rows, session_of, behind_text, next_number, scan_line, longer_text, after, put_by, fed_over, put_over, at_end, taken_with, taken_of}
use Rattle.tracer.specs.Inner.Contracts.{PutWhole, Opens, Takes}
use Rattle.tracer.proofs.Feeding.{fed_append, put_append, text_cut, cut_within, cut_again}

-- ---- a part of the lent memory that is cut at its end

-- ---- rows, byte by byte

-- come to `taken` bytes: what is left of them makes the whole
pub record Taking (room : ℕ) (before : Session) (part : List ℕ) (taken : ℕ) (s : Session) (out : List ℕ) (put : ℕ) : Type 0 where
  pub count : taken + taken_with (length out - put) s (drop taken part) ≡ taken_with room before part
  pub session : s ≡ fed_over before (take taken part)
  pub output : take put out ≡ put_over before (take taken part)
  pub size : length out ≡ room
  pub within : taken ≤ length part
  pub inside : put ≤ length out

pub taking : (before : Session) (part out : List ℕ) → Taking (length out) before part 0 before out 0
unfolding fed_over put_over
taking before part out = record { count = let e : length out - 0 ≡ length out = omega arith in rw e (omega arith); session = refl; output = refl; size = refl; within = omega arith; inside = omega arith }

module _ {room : ℕ} {before : Session} {part : List ℕ} {taken : ℕ} {s : Session} {out : List ℕ} {put : ℕ} (h : Taking room before part taken s out put) where
  -- a byte more
  pub taking_byte : taken < length part → line_room ≤ length out - put → {next : Session} → next ≡ after s (get_or part taken 0)
      → {more : List ℕ} {behind : ℕ} → PutWhole out put (put_by s (get_or part taken 0)) more behind → length more ≡ length out → Taking room before part (taken + 1) next more behind
  unfolding taken_with fed_over put_over
  taking_byte l r {next} e {more} {behind} p n =
      let b = get_or part taken 0 in
      let d = drop-cons part taken 0 l in
      let t : take (taken + 1) part ≡ take taken part ++ (b ∷ []) = rw add-one (take-suc part taken 0 l) in
      let c : taken + suc (taken_with ((length out - put) - length (put_by s b)) (after s b) (drop (suc taken) part)) ≡ taken_with room before part =
      rw (d, le-ltb (length out - put) line_room r) at h.count
      in
      let m : length more - behind ≡ (length out - put) - length (put_by s b) = omega arith in
      let i : put_over before (take taken part) ++ (put_by s b ++ []) ≡ put_over before (take (taken + 1) part) =
      rw t (ap (λ (x : Session). put_over before (take taken part) ++ (put_by x b ++ [])) h.session ∙ sym (put_append before (take taken part) (b ∷ [])))
      in
      record {
        count = rw (m, e, add-one) (omega (arith, c));
        session = rw t (e ∙ ap (λ (x : Session). after x b) h.session ∙ sym (fed_append before (take taken part) (b ∷ [])));
        output = p.bytes ∙ ap (λ (x : List ℕ). x ++ put_by s b) h.output ∙ ap (λ (x : List ℕ). put_over before (take taken part) ++ x) (sym (append-nil (put_by s b))) ∙ i;
        size = n ∙ h.size;
        within = omega arith;
        inside = p.inside;
      }

  -- the end of the part
  pub taking_all : length part ≤ taken → taken ≡ taken_with room before part
  unfolding taken_with
  taking_all l = let c : taken + 0 ≡ taken_with room before part = rw (drop_of_length-le part l) at h.count in omega arith

  -- no room for another line
  pub taking_full : taken < length part → length out - put < line_room → taken ≡ taken_with room before part
  unfolding taken_with
  taking_full l r = let c : taken + 0 ≡ taken_with room before part = rw (drop-cons part taken 0 l, lt-ltb (length out - put) line_room r) at h.count in omega arith

some_taken : (room : ℕ) (s : Session) (part : List ℕ) → line_room ≤ room → 0 < length part → 0 < taken_with room s part
unfolding taken_with
some_taken room s [] h l = l
some_taken room s (b ∷ part) h l = rw (le-ltb room line_room h) (omega arith)

module _ (image : List ℕ) (names : ℕ) {s₀ : State} {begun : Line} {cells₀ : List ℤ} {last room : ℕ} {part : List ℕ} {taken : ℕ} {s : State} {line : Line} {cells : List ℤ} {number : ℕ} {out : List ℕ} {put : ℕ}
    (h : Taking room (in_rows image names s₀ begun cells₀ last) part taken (in_rows image names s line cells number) out put) where
  pub rows_taken : line_room ≤ room → taken ≡ taken_with room (in_rows image names s₀ begun cells₀ last) part
      → Takes room (in_rows image names s₀ begun cells₀ last) part taken (in_rows image names s line cells number) out put
  unfolding taken_of
  rows_taken r e = record {
    count = e;
    session = h.session;
    output = h.output;
    some = λ l. rw e (some_taken room (in_rows image names s₀ begun cells₀ last) part r l);
    within = h.within;
    inside = h.inside;
  }

-- ---- the text, as far as the rows

-- the session and the bytes put out
pub record TextRun (l : List ℕ) (stage : Stage) (t : List ℕ) (cells : List ℤ) (all : List ℕ) : Type 0 where
  pub session : fed_over (in_text stage t cells) (take (bytes_before stage l) l) ≡ if_text (stage_over stage l) all cells (behind_text (program_of all) cells)
  pub output : put_over (in_text stage t cells) (take (bytes_before stage l) l) ≡ if_rows (stage_over stage l) (opening (program_of all))

run_none : (stage : Stage) (t : List ℕ) (cells : List ℤ) → is_rows stage ≡ false → TextRun [] stage t cells t
unfolding fed_over put_over bytes_before stage_over
run_none LineStart t cells e = record { session = refl; output = refl }
run_none InLine t cells e = record { session = refl; output = refl }
run_none Hash t cells e = record { session = refl; output = refl }
run_none Rows t cells e = absurd (true≢false e)

-- behind a byte that leads to a stage
run_behind : (l : List ℕ) → ((stage : Stage) (t : List ℕ) (cells : List ℤ) → is_rows stage ≡ false → length t ≤ text_room → TextRun l stage t cells (take text_room (t ++ text_over stage l)))
    → (stage : Stage) (t : List ℕ) (cells : List ℤ) → length t ≤ text_room
    → (fed_over (if_text stage t cells (behind_text (program_of t) cells)) (take (bytes_before stage l) l) ≡ if_text (stage_over stage l) (take text_room (t ++ text_over stage l)) cells (behind_text (program_of (take text_room (t ++ text_over stage l))) cells))
    × (if_rows stage (opening (program_of t)) ++ put_over (if_text stage t cells (behind_text (program_of t) cells)) (take (bytes_before stage l) l) ≡ if_rows (stage_over stage l) (opening (program_of (take text_room (t ++ text_over stage l)))))
unfolding fed_over put_over
run_behind l h LineStart t cells n = let r = h LineStart t cells refl n in (r.session, r.output)
run_behind l h InLine t cells n = let r = h InLine t cells refl n in (r.session, r.output)
run_behind l h Hash t cells n = let r = h Hash t cells refl n in (r.session, r.output)
run_behind l h Rows t cells n = rw (none_before l, stage_rows l, text_rows l, append-nil t, take_all text_room t n) (refl, append-nil (opening (program_of t)))

run_byte : (b : ℕ) (l : List ℕ) (stage : Stage) (t : List ℕ) (cells : List ℤ) (all : List ℕ) → is_rows stage ≡ false
    → fed_over (if_text (stage_after stage b) (longer_text stage t b) cells (behind_text (program_of (longer_text stage t b)) cells)) (take (bytes_before (stage_after stage b) l) l) ≡ if_text (stage_over (stage_after stage b) l) all cells (behind_text (program_of all) cells)
    → if_rows (stage_after stage b) (opening (program_of (longer_text stage t b))) ++ put_over (if_text (stage_after stage b) (longer_text stage t b) cells (behind_text (program_of (longer_text stage t b)) cells)) (take (bytes_before (stage_after stage b) l) l) ≡ if_rows (stage_over (stage_after stage b) l) (opening (program_of all))
    → TextRun (b ∷ l) stage t cells all
unfolding fed_over put_over after put_by stage_over
run_byte b l stage t cells all e f g = record { session = rw (before_cons stage b l e) f; output = rw (before_cons stage b l e) g }

pub text_run : (l : List ℕ) (stage : Stage) (t : List ℕ) (cells : List ℤ) → is_rows stage ≡ false → length t ≤ text_room → TextRun l stage t cells (take text_room (t ++ text_over stage l))
text_run [] stage t cells e n = subst (TextRun [] stage t cells) (sym (text_cut stage t n)) (run_none stage t cells e)
text_run (b ∷ l) stage t cells e n =
    let r = run_behind l (text_run l) (stage_after stage b) (longer_text stage t b) cells (cut_within (t ++ text_after stage b)) in
    subst (TextRun (b ∷ l) stage t cells) (cut_again b l stage t) (run_byte b l stage t cells _ e r.0 r.1)

-- ---- a call in the text

if_text_lem : (stage : Stage) (t : List ℕ) (cells : List ℤ) (a b : Session) → is_rows stage ≡ false → if_text stage t cells a ≡ if_text stage t cells b
if_text_lem LineStart t cells a b e = refl
if_text_lem InLine t cells a b e = refl
if_text_lem Hash t cells a b e = refl
if_text_lem Rows t cells a b e = absurd (true≢false e)

if_rows_lem : (stage : Stage) (out : List ℕ) → is_rows stage ≡ false → [] ≡ if_rows stage out
if_rows_lem LineStart out e = refl
if_rows_lem InLine out e = refl
if_rows_lem Hash out e = refl
if_rows_lem Rows out e = absurd (true≢false e)

some_before : (stage : Stage) (part : List ℕ) → is_rows stage ≡ false → 0 < length part → 0 < bytes_before stage part
some_before stage [] e l = let f : ⊥ = omega arith in absurd f
some_before stage (b ∷ part) e l = rw (before_cons stage b part e) (omega arith)

module _ (stage : Stage) (stored : ℕ) (text part : List ℕ) (e : is_rows stage ≡ false) (i : stored ≤ length text) (n : length text ≡ text_room) {reached : Stage} {left : List ℕ} {end taken : ℕ}
    (f : reached ≡ stage_over stage part) (p : Put text stored (text_over stage part) left end) (k : taken ≡ 0 + bytes_before stage part) where
  all_stored : take end left ≡ take text_room (take stored text ++ text_over stage part)
  all_stored = put_cut p i ∙ ap (λ (m : ℕ). take m (take stored text ++ text_over stage part)) n

  room_stored : length (take stored text) ≤ text_room
  room_stored = rw length-take (omega arith)

  before_is : taken ≡ bytes_before stage part
  before_is = omega (arith, k)

  -- the part ends in the text
  pub text_taken : is_rows reached ≡ false → (image : List ℕ) (s : State) (out : List ℕ) (room : ℕ) (cells : List ℤ)
      → Takes room (in_text stage (take stored text) cells) part taken (session_of (T.Text reached end) left image s cells) out 0
  unfolding taken_of
  text_taken g image s out room cells =
      let r = text_run part stage (take stored text) cells e room_stored in
      let all = take text_room (take stored text ++ text_over stage part) in
      record {
        count = before_is;
        session = rw (before_is, all_stored, f) (if_text_lem (stage_over stage part) all cells passed_over (behind_text (program_of all) cells) (rw f at g) ∙ sym r.session);
        output = rw before_is (if_rows_lem (stage_over stage part) (opening (program_of all)) (rw f at g) ∙ sym r.output);
        some = λ l. rw before_is (some_before stage part e l);
        within = rw before_is (rows-within stage part);
        inside = omega arith;
      }

  -- the line `#` ends in it
  pub rows_begun : is_rows reached ≡ true → {image : List ℕ} {s : State} {out : List ℕ} {tracer : Tracer} {put : ℕ} → Opens (take end left) image s out tracer put → (room : ℕ) (cells : List ℤ)
      → Takes room (in_text stage (take stored text) cells) part taken (session_of tracer left image s cells) out put
  unfolding taken_of
  rows_begun g {image} {s} {out} {tracer} {put} o room cells =
      let r = text_run part stage (take stored text) cells e room_stored in
      let q : stage_over stage part ≡ Rows = sym f ∙ rows_of reached g in
      let all = take text_room (take stored text ++ text_over stage part) in
      record {
        count = before_is;
        session = rw before_is (o.session left cells ∙ ap (λ (x : List ℕ). behind_text (program_of x) cells) all_stored ∙ sym (rw q at r.session));
        output = rw before_is (o.output ∙ ap (λ (x : List ℕ). opening (program_of x)) all_stored ∙ sym (rw q at r.output));
        some = λ l. rw before_is (some_before stage part e l);
        within = rw before_is (rows-within stage part);
        inside = o.inside;
      }

-- ---- a call behind a refused text, and one behind a text that was cut

passed_fed : (l : List ℕ) → passed_over ≡ fed_over passed_over l
unfolding fed_over after
passed_fed [] = refl
passed_fed (b ∷ l) = passed_fed l

passed_put : (l : List ℕ) → [] ≡ put_over passed_over l
unfolding put_over after put_by
passed_put [] = refl
passed_put (b ∷ l) = passed_put l

pub passed_taken : (room : ℕ) (part out : List ℕ) → Takes room passed_over part (length part) passed_over out 0
unfolding taken_of
passed_taken room part out = record {
  count = refl;
  session = passed_fed (take (length part) part);
  output = passed_put (take (length part) part);
  some = λ l. l;
  within = omega arith;
  inside = omega arith;
}

-- a session of the text, of whatever is said of the rows
pub text_session : (stage : Stage) (t : List ℕ) (cells : List ℤ) (s : Session) → is_rows stage ≡ false → in_text stage t cells ≡ if_text stage t cells s
text_session LineStart t cells s e = refl
text_session InLine t cells s e = refl
text_session Hash t cells s e = refl
text_session Rows t cells s e = absurd (true≢false e)

-- ---- a call, by where the program stands

pub part_within : {A : Type 0} (n : ℕ) (l : List A) → length l ≡ state_limit → length (take n l) ≤ state_limit
part_within n l e = rw length-take (omega arith)

module _ (tracer : Tracer) (text image : List ℕ) (s : State) (cells : List ℤ) where
  module _ {stage : Stage} {n : ℕ} (e : tracer ≡ T.Text stage n) where
    pub fed_refused : is_rows stage ≡ true → (room : ℕ) (part out : List ℕ) → Takes room (session_of tracer text image s cells) part (length part) (session_of (T.Text stage n) text image s cells) out 0
    fed_refused r room part out = rw (e, rows_of stage r) (passed_taken room part out)

    pub end_refused : is_rows stage ≡ true → [] ≡ at_end (session_of tracer text image s cells)
    unfolding at_end
    end_refused r = rw (e, rows_of stage r)

    module _ (r : is_rows stage ≡ false) {k : ℕ} (c : k ≡ min n (length text)) where
      text_is : in_text stage (take k text) cells ≡ session_of tracer text image s cells
      text_is =
          ap (λ (x : ℕ). in_text stage (take x text) cells) c ∙ ap (λ (x : List ℕ). in_text stage x cells) (take_clip n text)
          ∙ text_session stage (take n text) cells passed_over r ∙ ap (λ (x : Tracer). session_of x text image s cells) (sym e)

      pub fed_text : {room taken put : ℕ} {part out : List ℕ} {left : Session} → Takes room (in_text stage (take k text) cells) part taken left out put → Takes room (session_of tracer text image s cells) part taken left out put
      fed_text {room} {taken} {put} {part} {out} {left} h = subst (λ (x : Session). Takes room x part taken left out put) text_is h

      pub end_text : {more : List ℕ} {t : State} {out : List ℕ} {last : Tracer} {put : ℕ} → Opens (take k text) more t out last put → (take put out ≡ at_end (session_of tracer text image s cells)) × (put ≤ length out)
      unfolding at_end
      end_text o = (o.output ∙ ap at_end text_is, o.inside)

  module _ {size names width : ℕ} {line : Line} {number : ℕ} (e : tracer ≡ T.Rows size names width line number) where
    pub end_no_line : is_begun line ≡ false → [] ≡ at_end (session_of tracer text image s cells)
    unfolding at_end
    end_no_line r = rw (e, r)

    module _ {end n : ℕ} (c : end ≡ min size (length image)) (d : n ≡ min width (length s)) where
      rows_are : in_rows (take end image) names (take n s) line cells number ≡ session_of tracer text image s cells
      rows_are =
          ap (λ (x : ℕ). in_rows (take x image) names (take n s) line cells number) c ∙ ap (λ (x : List ℕ). in_rows x names (take n s) line cells number) (take_clip size image)
          ∙ ap (λ (x : ℕ). in_rows (take size image) names (take x s) line cells number) d ∙ ap (λ (x : State). in_rows (take size image) names x line cells number) (take_clip width s)
          ∙ ap (λ (x : Tracer). session_of x text image s cells) (sym e)

      pub fed_rows : {room taken put : ℕ} {part out : List ℕ} {begun : Line} {all : List ℤ} {last : ℕ} (t : State) → length t ≡ n
          → Takes room (in_rows (take end image) names (take n s) line cells number) part taken (in_rows (take end image) names t begun all last) out put
          → Takes room (session_of tracer text image s cells) part taken (session_of (T.Rows end names n begun last) text image (t ++ drop n s) all) out put
      fed_rows {room} {taken} {put} {part} {out} {begun} {all} {last} t l h =
          subst (λ (x : Session). Takes room x part taken (in_rows (take end image) names (take n (t ++ drop n s)) begun all last) out put) rows_are
          (subst (λ (x : State). Takes room (in_rows (take end image) names (take n s) line cells number) part taken (in_rows (take end image) names x begun all last) out put) (sym (take_at t (drop n s) n l)) h)

      pub end_line : is_begun line ≡ true → {k : ℕ} → k ≡ next_number number → {out more : List ℕ} {put : ℕ}
          → PutWhole out 0 (scan_line names k (scan_of (take end image) (take n s) (handed_row line cells))) more put → (take put more ≡ at_end (session_of tracer text image s cells)) × (put ≤ length more)
      unfolding at_end
      end_line r {k} f w =
          let line-is : scan_line names (next_number number) (scan_of (take end image) (take n s) (handed_row line cells)) ≡ at_end (in_rows (take end image) names (take n s) line cells number) = rw r in
          (w.bytes ∙ ap (λ (x : ℕ). scan_line names x (scan_of (take end image) (take n s) (handed_row line cells))) f ∙ line-is ∙ ap at_end rows_are, w.inside)
