-- From the descent, the header and the prints to the service's definition. Assumes nothing.
use Prim.Native.Nat.{ℕ, zero, suc, ◌+◌, ◌*◌, ◌≤◌, ◌<◌}
use native.Mathlib.Omega.{arith}
use mathlib.Core.Path.{◌≡◌, refl, sym, ap, subst, ◌∙◌}
use mathlib.Core.Bool.{Bool, true, false, ◌&&◌}
use mathlib.Core.List.{List, [], ◌∷◌, ◌++◌, map}
use lib.IntN.{ℤ}
use lib.ListN.{length, take, drop, length-map}
use lib.Seq.{sets, length-sets}
use borrow.Author.Tests.{le-leb, lt-leb}
use Rattle.limits.specs.Limits.{text_limit, name_limit}
use Rattle.limits.specs.Answer as A
use Rattle.leb128.proofs.Stores.{sets_front}
use Rattle.lexer.specs.Token.{ending, is, TokenRead, token, fault}
use Rattle.lexer.specs.Lexer.{token_at}
use Rattle.lexer.specs.Bytes.{part}
use Rattle.lexer.specs.Names.{table_names, Table}
use Rattle.lexer.specs.declared.Place.{Place}
use Rattle.lexer.specs.Results.{Step}
use Rattle.std.specs.Prelude.{Ok, Err}
use Rattle.limits.specs.declared.Refusal.{Refusal}
use Rattle.limits.specs.Refusals.{refusal_number, refusal_place}
use Rattle.lexer.proofs.Laws.{cond_prop, Moved, token_moved}
use Rattle.semantics.specs.Program.{Name, Program, Timer}
use Rattle.bytecode.specs.Instructions.{encode_all}
use Rattle.bytecode.specs.Translation.{Translatable, code_rules}
use Rattle.bytecode.specs.Check.{Header, check_header}
use Rattle.bytecode.specs.Parts as Parts
use Rattle.bytecode.specs.Parts.{header_of, code_of}
use Rattle.bytecode.specs.Results.{HeaderStands}
use Rattle.bytecode.proofs.Soundness.{program_header, check_header_lem, header_of_lem, code_of_lem}
use Rattle.bytecode.proofs.SoundHeader.{header_counts, header_place, starts_stored}
use Rattle.grammar.specs.Parsed.{refused}
use Rattle.grammar.specs.Parse.{program, parse, program_of}
use Rattle.grammar.specs.Spelled.{names_of}
use Rattle.grammar.proofs.Image.{image_emitted}
use Rattle.st_program.proofs.Literals.{st_untimed}
use Rattle.grammar.proofs.Accepted.{parse_few, parse_short, program_parsed, program_translatable}
use Rattle.grammar.proofs.PlacesText.{Placed, parse_limited}
use Rattle.grammar.proofs.ConverseText.{short_parse}
use Rattle.phrases.proofs.Writing.{refused_part}
use Rattle.translate.specs.Inner.Descent.{Descends}
use Rattle.translate.proofs.Service.{parse_long, image_made}
use Rattle.st.specs.Printed.{statements_printed, section_printed, program_printed}
use Rattle.st_program.specs.Written.{current_line, previous_line, variable_lines, saving_line, rule_in_st, program_in_st, st_bytes, none_st_word, no_timer, has_st}
use Rattle.st_writer.specs.Inner.Fronts.{Fronts}
use Rattle.st_writer.specs.Inner.Mirrored.{mirrored}
use Rattle.st_writer.proofs.Listed.{statements_joined}
use Rattle.st_sections.proofs.Lines.{sections_program}
use Rattle.limits.specs.declared.Refusal.TheVariants.{TooLong, NotInSt, BufferTooShort}
use Rattle.std.specs.Prelude.{Result}
use Rattle.structured_text.specs.Services.{declares_name, is_outside, reserved_from, reserved_place, structured_text_of}
use Rattle.structured_text.specs.Room.{st_room}
use Rattle.structured_text.specs.Results.{after_writing, WrittenWithin}
use Rattle.structured_text.specs.Inner.Prepared.{whole_printed, Compiled, ReadyToPrint}
use Rattle.structured_text.proofs.Bound.{st_growth}

-- ---- 21's place stands in the text

module _ (text : List ℕ) where
  place_within : (f : ℕ) (named : Bool) (at : ℕ) → at ≤ length text → reserved_from f text named at ≤ length text
  unfolding reserved_from
  place_within zero named at h = omega arith
  place_within (suc f) named at h = go (token_at text at) refl (token_moved text at h) (λ b n l. place_within f b n l)
    where
      go : (t : TokenRead) → token_at text at ≡ t → Moved at (length text) t → ((b : Bool) (n : ℕ) → n ≤ length text → reserved_from f text b n ≤ length text) → reserved_from (suc f) text named at ≤ length text
      go (fault q) e m more = rw e (omega arith)
      go (token k s n) e m more =
          let on = more (declares_name k) n m.2 in
          rw e (cond_prop (λ (x : ℕ). x ≤ length text) (is k ending) _ _ (λ u. omega arith)
          (λ u. cond_prop (λ (x : ℕ). x ≤ length text) (is_outside k named (part text s n)) _ _ (λ v. omega (arith, m.1, m.2)) (λ v. on)))

  pub reserved_within : reserved_place text ≤ length text
  unfolding reserved_place
  reserved_within = place_within (suc (length text)) false 0 (omega arith)

-- ---- the service's definition

module _ (text buffer : List ℕ) where
  -- what is answered and left is the definition's, and small
  abbrev pub Served : Result ℕ Refusal → List ℕ → Type 0
  Served r left = (after_writing r left ≡ structured_text_of text buffer) × WrittenWithin r

  pub text_refused : (x : Refusal) → parse text ≡ refused (refusal_number x) (refusal_place x) → Served (Err x) buffer
  unfolding structured_text_of program_of
  text_refused x e = (rw e, (subst (Placed text_limit) e (parse_limited text)).1)

  pub long_refused : text_limit < length text → Served (Err TooLong) buffer
  long_refused h = text_refused TooLong (parse_long text h)

  module _ (p : Program) (e : program_of text ≡ A.accepted p) where
    short : length text ≤ text_limit
    short = let r = program_parsed text p e in parse_short text p r.0 r.1

    pub st_few : length (st_bytes p) ≤ st_room
    st_few = let g = st_growth text p e in let s = short in omega arith

    pub name-refused : has_st p ≡ false → Served (Err (NotInSt (reserved_place text))) buffer
    unfolding structured_text_of
    name-refused h = (rw (e, h), omega (arith, reserved_within text, short))

    module _ (h : has_st p ≡ true) (size : ℕ) (s : size ≡ length (st_bytes p)) where
      pub room_refused : length buffer < size → Served (Err (BufferTooShort (length text))) buffer
      unfolding structured_text_of
      room_refused l = (rw (e, h, lt-leb (length (st_bytes p)) (length buffer) (omega (arith, s))), short)

      pub st_written : (left : List ℕ) → size ≤ length buffer → left ≡ sets buffer 0 (st_bytes p) → Served (Ok size) left
      unfolding structured_text_of
      st_written left l w =
          let fits : length (st_bytes p) ≤ length buffer = omega (arith, s) in
          (rw (e, h, le-leb (length (st_bytes p)) (length buffer) fits, s, w, sets_front buffer (st_bytes p) fits), omega (arith, st_few, s))

-- ---- an accepted text

module _ (text before after starts ends : List ℕ) {r : Step} (short : length text ≤ text_limit) (d : Descends text (program text) before after starts ends r) where
  pub fault_passed : (e : Refusal) (buffer : List ℕ) → r ≡ Err e → Served text buffer (Err e) buffer
  fault_passed e buffer h = text_refused text buffer e (short_parse text short ∙ refused_part d.writes h)

  pub compiled : (x : Place) → 3 * length text + 4 ≤ 2 * length before → r ≡ Ok x → name_limit ≤ length starts → name_limit ≤ length ends → Compiled text starts ends x.end (take x.to after)
  unfolding program_of
  compiled x h e ls le =
      let m = image_made text before after starts ends short d x h e in
      let few = parse_few text m.read m.end m.parsed in
      record {
        program = m.read;
        parsed = rw m.parsed;
        made = m.there ∙ image_emitted m.read;
        timed = d.timed m.read m.end x (sym (short_parse text short) ∙ m.parsed) e;
        held = d.named m.read m.end (sym (short_parse text short) ∙ m.parsed);
        table = record { in_starts = omega arith; in_ends = omega arith };
      }

  pub image_room_lem : (x : Place) → 3 * length text + 4 ≤ 2 * length before → r ≡ Ok x → x.to ≤ length after
  image_room_lem x h e = (image_made text before after starts ends short d x h e).room

-- ---- its header

starts_of_lem : (ns : List Name) → Parts.starts (map (λ n. n.range) ns) ≡ map (λ n. n.range.start) ns
starts_of_lem [] = refl
starts_of_lem (n ∷ ns) = ap (λ (l : List ℤ). n.range.start ∷ l) (starts_of_lem ns)

module _ {text starts ends : List ℕ} {timers : ℕ} {image : List ℕ} (c : Compiled text starts ends timers image) where
  translatable : Translatable c.program
  translatable = program_translatable text c.program c.parsed

  pub header_unbroken : {X : Type 0} (place : ℕ) → check_header image ≡ A.refused 11 place → X
  header_unbroken place e =
      let q : A.accepted (program_header c.program) ≡ A.refused 11 place = sym (ap check_header c.made ∙ check_header_lem c.program translatable) ∙ e in
      let z : ◌≡◌ {A = ℕ} 0 1 = cc in absurd (omega arith)

  module _ {n : ℕ} {low₀ high₀ start₀ low high start : List ℤ} {inputs count place : ℕ} (h : HeaderStands (check_header image) n low₀ high₀ start₀ low high start inputs count place) where
    its_header : header_of image ≡ program_header c.program
    its_header = ap header_of c.made ∙ header_of_lem c.program translatable

    count_is : count ≡ length c.program.names
    count_is = sym (header_counts image h).names_are ∙ ap (λ (x : Header). length x.ranges) its_header ∙ length-map c.program.names (λ n. n.range)

    pub names_held : table_names text starts ends count ≡ names_of c.program
    names_held = ap (table_names text starts ends) count_is ∙ c.held.spelled

    pub count_held : Table starts ends count
    count_held = subst (Table starts ends) (sym count_is) c.table

    pub none_outside : {t : Bool} → ((ts : List Timer) → timers ≡ length ts → t ≡ (no_timer ts && none_st_word (table_names text starts ends count))) → has_st c.program ≡ t
    unfolding has_st
    none_outside e = sym (e c.program.timers c.timed ∙ ap (λ (ws : List (List ℕ)). no_timer c.program.timers && none_st_word ws) names_held)

    values_are : name_limit ≤ length start₀ → start ≡ map (λ n. n.range.start) c.program.names ++ drop (length (map (λ n. n.range.start) c.program.names)) start₀
    values_are long =
        let zs = map (λ (n : Name). n.range.start) c.program.names in
        let fits : length zs ≤ length start₀ = omega (arith, length-map c.program.names (λ n. n.range.start), count_is, h.extends.few) in
        starts_stored image h ∙ ap (λ (x : Header). sets start₀ 0 (Parts.starts x.ranges)) its_header ∙ ap (sets start₀ 0) (starts_of_lem c.program.names) ∙ sets_front start₀ zs fits

    pub prepared : has_st c.program ≡ true → name_limit ≤ length start₀ → ReadyToPrint encode_all text starts ends start inputs count (drop place image)
    unfolding code_of
    prepared has long =
        record {
          program = c.program;
          parsed = c.parsed;
          has = has;
          inputs_are = sym (header_counts image h).inputs_are ∙ ap (λ (x : Header). x.inputs) its_header;
          spelled = names_held;
          rest = drop (length (map (λ (n : Name). n.range.start) c.program.names)) start₀;
          starting = values_are long;
          table = count_held;
          among = h.extends.inputs_named;
          long = omega (arith, ap {A = List ℤ} length h.starting, length-sets start₀ 0 (Parts.starts h.ranges), h.extends.few);
          coded = ap (λ (k : ℕ). drop k image) (header_place image h) ∙ ap code_of c.made ∙ code_of_lem c.program translatable ∙ ap (λ (ts : List Timer). encode_all (code_rules ts c.program.rules)) (st_untimed c.program has);
        }

-- ---- its print

module _ {text starts ends : List ℕ} {values : List ℤ} {inputs count : ℕ} {code : List ℕ} where
  pub mirror_prepared : (q : ReadyToPrint encode_all text starts ends values inputs count code) (mirror : List ℕ)
      → ((p : Program) → Translatable p → p.timers ≡ [] → code ≡ encode_all (code_rules [] p.rules) → take (length code) mirror ≡ mirrored (code_rules [] p.rules) [])
      → ReadyToPrint (λ is. mirrored is []) text starts ends values inputs count (take (length code) mirror)
  mirror_prepared q mirror m =
      record {
        program = q.program;
        parsed = q.parsed;
        has = q.has;
        inputs_are = q.inputs_are;
        spelled = q.spelled;
        rest = q.rest;
        starting = q.starting;
        table = q.table;
        among = q.among;
        long = q.long;
        coded = m q.program (program_translatable text q.program q.parsed) (st_untimed q.program q.has) q.coded;
      }

  module _ (q : ReadyToPrint (λ is. mirrored is []) text starts ends values inputs count code) where
    pub st_translatable : Translatable q.program
    st_translatable = program_translatable text q.program q.parsed

    pub st_plain : q.program.timers ≡ []
    st_plain = st_untimed q.program q.has

    abbrev front : List ℕ → List ℕ
    front = whole_printed inputs (table_names text starts ends count) values q.program.rules

    whole_print : front [] ≡ st_bytes q.program
    unfolding st_bytes program_in_st program_printed
    whole_print =
        let ns = names_of q.program in
        let body = statements_printed (map (rule_in_st ns) q.program.rules) (statements_printed (map saving_line ns) []) in
        rw (q.inputs_are, q.spelled, q.starting) (sections_program q.program.inputs q.program.names q.rest body
        ∙ ap (λ (l : List ℕ). section_printed "VAR_INPUT" (map current_line (take q.program.inputs q.program.names)) (section_printed "VAR" (map previous_line (take q.program.inputs q.program.names) ++ variable_lines (drop q.program.inputs q.program.names)) l))
        (sym (statements_joined (map (rule_in_st ns) q.program.rules) (map saving_line ns) [])))

    whole_length : length (front []) ≡ length (st_bytes q.program)
    whole_length = ap {A = List ℕ} length whole_print

    -- the first print measures
    pub measured : {m k : List ℕ} {first : ℕ} → Fronts front m k st_room first → first + length (st_bytes q.program) ≡ st_room
    measured f =
        let e = whole_length in
        let b = st_few text [] q.program q.parsed in
        let p = f.place [] (omega arith) in
        omega arith

    -- the second one writes
    pub printed : {buffer left : List ℕ} {size first : ℕ} → size ≡ length (st_bytes q.program) → Fronts front buffer left size first → left ≡ sets buffer 0 (st_bytes q.program)
    printed {buffer} {left} {size} {first} s f =
        let e = whole_length in
        let p = f.place [] (omega arith) in
        let z : first ≡ 0 = omega arith in
        f.memory buffer [] (omega arith) refl ∙ ap (λ (k : ℕ). sets buffer k (front [])) z ∙ ap (sets buffer 0) whole_print
