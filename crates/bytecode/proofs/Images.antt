-- The laws of images, each once as it is read. Bytes are numbers below 256. Assumes nothing.
use Prim.Native.Nat.{ℕ, ◌+◌, ◌-◌}
use native.Mathlib.Omega.{arith}
use mathlib.Core.Path.{◌≡◌, sym, ◌∙◌}
use mathlib.Core.List.{List, [], ◌∷◌, ◌++◌, append_assoc}
use lib.ListN.{length, drop}
use lib.Seq.{get_or-drop}
use Rattle.limits.specs.Answer.{accepted}
use Rattle.semantics.specs.Program.{Range, Program}
use Rattle.leb128.specs.Numbers.{number}
use Rattle.leb128.proofs.Laws.{Bytes}
use Rattle.leb128.proofs.RoundTrip.{drop_behind, one_spelling}
use Rattle.bytecode.specs.Instructions.{Instruction, encode, encode_all}
use Rattle.bytecode.specs.Translation.{code_rules, encode_ranges, image_of, Translatable}
use Rattle.bytecode.specs.Check.{check_of}
use Rattle.bytecode.specs.Parts.{header_of, code_of}
use Rattle.bytecode.specs.Sound.{Sound, SpellsCode}
use Rattle.bytecode.proofs.RoundTrip.{AllSmall, fetch_encoded}
use Rattle.bytecode.proofs.Soundness.{program_header, header_of_lem, code_of_lem, translated_small, check_translated, past_end}
use Rattle.bytecode.proofs.Spelling.{spells_encoded, ranges_encoded}
use Rattle.bytecode.proofs.Paragraph.{check_if_sound, sound_if_checked}

-- ---- check answers sound exactly if the properties of document 01's paragraph hold

pub record Exactly (bytes : List ℕ) : Type 0 where
  pub sound_accepted : Sound bytes → check_of bytes ≡ accepted tt
  pub accepted_sound : check_of bytes ≡ accepted tt → Sound bytes

pub check_exact : (bytes : List ℕ) → Exactly bytes
check_exact bytes = record { sound_accepted = check_if_sound bytes; accepted_sound = sound_if_checked bytes }

-- ---- reading what was encoded gives it back

spelled : (code : List ℕ) (at : ℕ) (is : List Instruction) → AllSmall is → drop at code ≡ encode_all is → SpellsCode code at is
spelled code at [] s h = past_end code at h
spelled code at (i ∷ is) s h =
    (at + length (encode i), fetch_encoded code at i (encode_all is) s.0 h, spelled code (at + length (encode i)) is s.1 (drop_behind code at (encode i) (encode_all is) h))

-- the image of a program: its header, its code, and the instructions of its code
pub record ReadBack (p : Program) : Type 0 where
  pub header : header_of (image_of p) ≡ program_header p
  pub code : code_of (image_of p) ≡ encode_all (code_rules p.timers p.rules)
  pub instructions : SpellsCode (code_of (image_of p)) 0 (code_rules p.timers p.rules)

pub image_read_back : (p : Program) → Translatable p → ReadBack p
image_read_back p t =
    record { header = header_of_lem p t; code = code_of_lem p t; instructions = spelled (code_of (image_of p)) 0 (code_rules p.timers p.rules) (translated_small p t) (code_of_lem p t) }

-- ---- the image of every well-formed program within the limits is sound

pub translated_sound : (p : Program) → Translatable p → Sound (image_of p)
translated_sound p t = sound_if_checked (image_of p) (check_translated p t)

-- ---- what is sound spells exactly one image

-- the bytes of a header and its code: those of a program's image (`image_of`), for any header and any code
abbrev pub spelling : ℕ → List Range → List Instruction → List ℕ
spelling inputs ranges code = (number inputs ++ (number (length ranges - inputs) ++ encode_ranges ranges)) ++ encode_all code

pub one_image : (bytes : List ℕ) → Bytes bytes → (x : Sound bytes) → bytes ≡ spelling x.header.inputs x.header.ranges x.code
one_image bytes h x =
    let place = x.header.place in
    let m : x.variables ≡ length x.header.ranges - x.header.inputs = omega (arith, x.size) in
    let code : drop place bytes ≡ encode_all x.code = spells_encoded (drop place bytes) 0 x.code (λ i. rw get_or-drop (h (place + i))) x.spells in
    one_spelling bytes 0 h x.header.inputs x.at₁ x.inputs_read
    ∙ rw (one_spelling bytes x.at₁ h x.variables x.at₂ x.variables_read, ranges_encoded bytes x.at₂ x.header.ranges place h x.ranges_read, code, m) (simp append_assoc)

-- two sound images with the same counts, ranges and instructions are the same bytes
pub same_image_lem : (bytes other : List ℕ) → Bytes bytes → Bytes other → (x : Sound bytes) (y : Sound other)
    → x.header.inputs ≡ y.header.inputs → x.header.ranges ≡ y.header.ranges → x.code ≡ y.code → bytes ≡ other
same_image_lem bytes other h k x y a b c = one_image bytes h x ∙ rw (a, b, c) (sym (one_image other k y))
