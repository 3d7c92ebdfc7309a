-- The worked examples as one table under one statement. Document 01, "Latches to try"; document 02, A.2, A.5 to A.7. Assumes nothing.
use Rattle.std.specs.Prelude.{ℕ, ◌≡◌, List, [], ◌∷◌, map, ℤ, pos, negsuc, take, replicate}
use Rattle.limits.specs.Answer.{Answer, accepted, refused}
use Rattle.semantics.specs.Formula.{State}
use Rattle.lexer.specs.Bytes.{bytes}
use Rattle.bytecode.specs.Check.{check_of}
use Rattle.translate.specs.Services.{AfterTranslation, translation_of}
use Rattle.scan.specs.Services.{AfterScan, start_of, scans_of}

-- an example gives a text, or the bytes of an image
pub data Given : Type 0 where
  text : List ℕ → Given
  image : List ℕ → Given

-- the image image_written, the first bytes of the buffer left; or the refusal
abbrev pub image_written : Answer ℕ → List ℕ → Answer (List ℕ)
image_written (accepted n) buffer = accepted (take n buffer)
image_written (refused number place) buffer = refused number place

-- texts are translated_to into a buffer of 128 bytes
abbrev pub translated_to : AfterTranslation → Answer (List ℕ)
translated_to r = image_written r.answer r.buffer

abbrev pub image_given : Given → Answer (List ℕ)
image_given (text t) = translated_to (translation_of t (replicate 128 255))
image_given (image b) = accepted b

-- the image, or the refusal of the text; what check and start answer of it; the state after start; the rows, and what each scan answers
-- and leaves
pub record Example : Type 0 where
  pub given : Given
  pub translation : Answer (List ℕ)
  pub verdict : Answer (Unit {0})
  pub first : State
  pub rows : List (List ℤ)
  pub results : List AfterScan

-- of an image: check's answer; start, lent a state of minus ones; the scans from the state that it left
abbrev pub HoldsOn : Answer (List ℕ) → Example → Type 0
HoldsOn (accepted b) e =
    (check_of b ≡ e.verdict) × (start_of b (map (λ z. negsuc 0) e.first) ≡ record { answer = e.verdict; state = e.first }) × (scans_of b e.first e.rows ≡ e.results)
HoldsOn (refused number place) e = Unit {0}

-- the definitions of the services give what the table says
abbrev pub HoldsOf : Example → Type 0
HoldsOf e = (image_given e.given ≡ e.translation) × HoldsOn e.translation e

abbrev pub AllHold : List Example → Type 0
AllHold [] = Unit {0}
AllHold (e ∷ es) = HoldsOf e × AllHold es

-- ---- the table

abbrev pub done : ℕ → State → AfterScan
done n s = record { answer = accepted tt; steps = n; state = s }

abbrev pub stopped : ℕ → ℕ → State → AfterScan
stopped k n s = record { answer = refused k 0; steps = n; state = s }

-- a text whose image is sound
abbrev pub sound : List ℕ → List ℕ → State → List (List ℤ) → List AfterScan → Example
sound t b first rows results = record { given = text t; translation = accepted b; verdict = accepted tt; first = first; rows = rows; results = results }

-- L1 the empty text: image 00 00
abbrev pub L1 : Example
L1 = sound (bytes "") (0x00 ∷ 0x00 ∷ []) [] ([] ∷ (pos 1 ∷ []) ∷ []) (done 0 [] ∷ stopped 12 0 [] ∷ [])

-- L2 17 bytes, 7 instructions; v runs 0, 1, 1
abbrev pub L2 : Example
L2 = sound
    (bytes "var v 0..1; v: GX(~(v = _v) -> [_v = 0] & v = (1)); v: GX(v = _v -> ~([_v = 0]));")
    (0x00 ∷ 0x01 ∷ 0x00 ∷ 0x02 ∷ 0x00 ∷ 0x03 ∷ 0x00 ∷ 0x01 ∷ 0x00 ∷ 0x0A ∷ 0x13 ∷ 0x01 ∷ 0x02 ∷ 0x14 ∷ 0x00 ∷ 0x16 ∷ 0x00 ∷ [])
    (pos 0 ∷ [])
    ([] ∷ [] ∷ [])
    (done 7 (pos 1 ∷ []) ∷ done 7 (pos 1 ∷ []) ∷ [])

-- L3 −7 / 2 = −3, −7 mod 2 = −1, 7 mod −2 = 1
abbrev pub L3 : Example
L3 = sound
    (bytes "var a -9..9; var b -9..9; var c -9..9; a: GX(a = (-7 / 2)); b: GX(b = (-7 mod 2)); c: GX(c = (7 mod -2));")
    (0x00 ∷ 0x03 ∷ 0x11 ∷ 0x12 ∷ 0x00 ∷ 0x11 ∷ 0x12 ∷ 0x00 ∷ 0x11 ∷ 0x12 ∷ 0x00
    ∷ 0x01 ∷ 0x0E ∷ 0x09 ∷ 0x01 ∷ 0x04 ∷ 0x07 ∷ 0x15 ∷ 0x00
    ∷ 0x01 ∷ 0x0E ∷ 0x09 ∷ 0x01 ∷ 0x04 ∷ 0x08 ∷ 0x15 ∷ 0x01
    ∷ 0x01 ∷ 0x0E ∷ 0x01 ∷ 0x04 ∷ 0x09 ∷ 0x08 ∷ 0x15 ∷ 0x02 ∷ [])
    (pos 0 ∷ pos 0 ∷ pos 0 ∷ [])
    ([] ∷ [])
    (done 15 (negsuc 2 ∷ negsuc 0 ∷ pos 1 ∷ []) ∷ [])

-- L4 −2,147,483,648 / −1 is 14, mod −1 is 0
abbrev pub L4 : Example
L4 = sound
    (bytes "input i 0..1; var a -9..9 init 5; a: GX(~(a = _a) -> [i = 0] & a = ((-2147483647 - 1) mod -1) | [i = 1] & a = ((-2147483647 - 1) / -1)); a: GX(a = _a -> ~([i = 0] | [i = 1]));")
    (0x01 ∷ 0x01 ∷ 0x00 ∷ 0x02 ∷ 0x00 ∷ 0x11 ∷ 0x12 ∷ 0x0A
    ∷ 0x02 ∷ 0x00 ∷ 0x01 ∷ 0x00 ∷ 0x0A ∷ 0x13
    ∷ 0x01 ∷ 0xFE ∷ 0xFF ∷ 0xFF ∷ 0xFF ∷ 0x0F ∷ 0x09 ∷ 0x01 ∷ 0x02 ∷ 0x05 ∷ 0x01 ∷ 0x02 ∷ 0x09 ∷ 0x08 ∷ 0x14 ∷ 0x01
    ∷ 0x02 ∷ 0x00 ∷ 0x01 ∷ 0x02 ∷ 0x0A ∷ 0x13
    ∷ 0x01 ∷ 0xFE ∷ 0xFF ∷ 0xFF ∷ 0xFF ∷ 0x0F ∷ 0x09 ∷ 0x01 ∷ 0x02 ∷ 0x05 ∷ 0x01 ∷ 0x02 ∷ 0x09 ∷ 0x07 ∷ 0x14 ∷ 0x01
    ∷ 0x16 ∷ 0x01 ∷ [])
    (pos 0 ∷ pos 5 ∷ [])
    ((pos 1 ∷ []) ∷ (pos 0 ∷ []) ∷ [])
    (stopped 14 23 (pos 0 ∷ pos 5 ∷ []) ∷ done 25 (pos 0 ∷ pos 0 ∷ []) ∷ [])

-- L5 16 brackets pass (those of the function itself aren't counted)
abbrev pub L5 : Example
L5 = sound
    (bytes "var v 0..1; v: GX(v = (((((((((((((((((0))))))))))))))))));")
    (0x00 ∷ 0x01 ∷ 0x00 ∷ 0x02 ∷ 0x00 ∷ 0x01 ∷ 0x00 ∷ 0x15 ∷ 0x00 ∷ [])
    (pos 0 ∷ [])
    ([] ∷ [])
    (done 2 (pos 0 ∷ []) ∷ [])

-- 17 give 8, at the 17th (of a refused text only the translation is stated; the other fields are unused)
abbrev pub l5_deeper : Example
l5_deeper = record {
  given = text (bytes "var v 0..1; v: GX(v = ((((((((((((((((((0)))))))))))))))))));");
  translation = refused 8 39;
  verdict = accepted tt;
  first = [];
  rows = [];
  results = [];
}

-- L6 two true cases with one value: 15
abbrev pub L6 : Example
L6 = sound
    (bytes "var v 0..1; v: GX(~(v = _v) -> [_v = 0] & v = (1) | [_v = 0] & v = (1)); v: GX(v = _v -> ~([_v = 0] | [_v = 0]));")
    (0x00 ∷ 0x01 ∷ 0x00 ∷ 0x02 ∷ 0x00
    ∷ 0x03 ∷ 0x00 ∷ 0x01 ∷ 0x00 ∷ 0x0A ∷ 0x13 ∷ 0x01 ∷ 0x02 ∷ 0x14 ∷ 0x00
    ∷ 0x03 ∷ 0x00 ∷ 0x01 ∷ 0x00 ∷ 0x0A ∷ 0x13 ∷ 0x01 ∷ 0x02 ∷ 0x14 ∷ 0x00
    ∷ 0x16 ∷ 0x00 ∷ [])
    (pos 0 ∷ [])
    ([] ∷ [])
    (stopped 15 10 (pos 0 ∷ []) ∷ [])

-- L7 `(_v)` as a case's value: 16 when its condition holds
abbrev pub L7 : Example
L7 = sound
    (bytes "input i 0..1; var v 0..1; v: GX(~(v = _v) -> [i = 1] & v = (_v)); v: GX(v = _v -> ~([i = 1]));")
    (0x01 ∷ 0x01 ∷ 0x00 ∷ 0x02 ∷ 0x00 ∷ 0x00 ∷ 0x02 ∷ 0x00
    ∷ 0x02 ∷ 0x00 ∷ 0x01 ∷ 0x02 ∷ 0x0A ∷ 0x13 ∷ 0x03 ∷ 0x01 ∷ 0x14 ∷ 0x01 ∷ 0x16 ∷ 0x01 ∷ [])
    (pos 0 ∷ pos 0 ∷ [])
    ((pos 0 ∷ []) ∷ (pos 1 ∷ []) ∷ (pos 2 ∷ []) ∷ [])
    (done 7 (pos 0 ∷ pos 0 ∷ []) ∷ stopped 16 6 (pos 0 ∷ pos 0 ∷ []) ∷ stopped 13 0 (pos 0 ∷ pos 0 ∷ []) ∷ [])

-- L8 number 128 as groups: 80 01 (a name whose low, high and start are 64)
abbrev pub L8 : Example
L8 = sound
    (bytes "var v 64..64 init 64; v: GX(v = (_v));")
    (0x00 ∷ 0x01 ∷ 0x80 ∷ 0x01 ∷ 0x80 ∷ 0x01 ∷ 0x80 ∷ 0x01 ∷ 0x03 ∷ 0x00 ∷ 0x15 ∷ 0x00 ∷ [])
    (pos 64 ∷ [])
    ([] ∷ [])
    (done 2 (pos 64 ∷ []) ∷ [])

abbrev pub longer : List ℕ
longer = 0x00 ∷ 0x01 ∷ 0x80 ∷ 0x00 ∷ 0x80 ∷ 0x01 ∷ 0x80 ∷ 0x01 ∷ 0x03 ∷ 0x00 ∷ 0x15 ∷ 0x00 ∷ []

-- 80 00 is unsound
abbrev pub l8_unsound : Example
l8_unsound = record {
  given = image longer;
  translation = accepted longer;
  verdict = refused 11 2;
  first = [];
  rows = [] ∷ [];
  results = record { answer = refused 11 2; steps = 0; state = [] } ∷ [];
}

-- the rows 1, 1, 2, 0 of the trace program's example
abbrev pub launch : Example
launch = sound
    (bytes "input go 0..1; var run 0..1; run: GX(~(run = _run) -> [_run = 0 & go = 1] & run = (1) | [_run = 1 & go = 0] & run = (0)); run: GX(run = _run -> ~([_run = 0 & go = 1] | [_run = 1 & go = 0]));")
    (0x01 ∷ 0x01 ∷ 0x00 ∷ 0x02 ∷ 0x00 ∷ 0x00 ∷ 0x02 ∷ 0x00
    ∷ 0x03 ∷ 0x01 ∷ 0x01 ∷ 0x00 ∷ 0x0A ∷ 0x02 ∷ 0x00 ∷ 0x01 ∷ 0x02 ∷ 0x0A ∷ 0x11 ∷ 0x13 ∷ 0x01 ∷ 0x02 ∷ 0x14 ∷ 0x01
    ∷ 0x03 ∷ 0x01 ∷ 0x01 ∷ 0x02 ∷ 0x0A ∷ 0x02 ∷ 0x00 ∷ 0x01 ∷ 0x00 ∷ 0x0A ∷ 0x11 ∷ 0x13 ∷ 0x01 ∷ 0x00 ∷ 0x14 ∷ 0x01
    ∷ 0x16 ∷ 0x01 ∷ [])
    (pos 0 ∷ pos 0 ∷ [])
    ((pos 1 ∷ []) ∷ (pos 1 ∷ []) ∷ (pos 2 ∷ []) ∷ (pos 0 ∷ []) ∷ [])
    (done 21 (pos 1 ∷ pos 1 ∷ []) ∷ done 21 (pos 1 ∷ pos 1 ∷ []) ∷ stopped 13 0 (pos 1 ∷ pos 1 ∷ []) ∷ done 21 (pos 0 ∷ pos 0 ∷ []) ∷ [])

-- A.5 a rotation rule over an empty host list: the remainder by zero is 0
abbrev pub rotation : Example
rotation = sound
    (bytes "input hosts 0..9; var turn 0..9; turn: GX(turn = ((_turn + 1) mod hosts));")
    (0x01 ∷ 0x01 ∷ 0x00 ∷ 0x12 ∷ 0x00 ∷ 0x00 ∷ 0x12 ∷ 0x00
    ∷ 0x03 ∷ 0x01 ∷ 0x01 ∷ 0x02 ∷ 0x04 ∷ 0x02 ∷ 0x00 ∷ 0x08 ∷ 0x15 ∷ 0x01 ∷ [])
    (pos 0 ∷ pos 0 ∷ [])
    ((pos 3 ∷ []) ∷ (pos 3 ∷ []) ∷ (pos 0 ∷ []) ∷ (pos 3 ∷ []) ∷ [])
    (done 6 (pos 3 ∷ pos 1 ∷ []) ∷ done 6 (pos 3 ∷ pos 2 ∷ []) ∷ done 6 (pos 0 ∷ pos 0 ∷ []) ∷ done 6 (pos 3 ∷ pos 1 ∷ []) ∷ [])

-- division by zero is still 14
abbrev pub share : Example
share = sound
    (bytes "input hosts 0..9; var each 0..9; each: GX(each = (9 / hosts));")
    (0x01 ∷ 0x01 ∷ 0x00 ∷ 0x12 ∷ 0x00 ∷ 0x00 ∷ 0x12 ∷ 0x00
    ∷ 0x01 ∷ 0x12 ∷ 0x02 ∷ 0x00 ∷ 0x07 ∷ 0x15 ∷ 0x01 ∷ [])
    (pos 0 ∷ pos 0 ∷ [])
    ((pos 3 ∷ []) ∷ (pos 0 ∷ []) ∷ [])
    (done 4 (pos 3 ∷ pos 3 ∷ []) ∷ stopped 14 3 (pos 3 ∷ pos 3 ∷ []) ∷ [])

-- A.2 names in other letter cases than declared
abbrev pub recased : Example
recased = sound
    (bytes "input Go 0..1; var run 0..1; RUN: GX(~(Run = _rUn) -> [_RUN = 0 & GO = 1] & ruN = (go)); run: GX(run = _run -> ~([_run = 0 & go = 1]));")
    (0x01 ∷ 0x01 ∷ 0x00 ∷ 0x02 ∷ 0x00 ∷ 0x00 ∷ 0x02 ∷ 0x00
    ∷ 0x03 ∷ 0x01 ∷ 0x01 ∷ 0x00 ∷ 0x0A ∷ 0x02 ∷ 0x00 ∷ 0x01 ∷ 0x02 ∷ 0x0A ∷ 0x11 ∷ 0x13 ∷ 0x02 ∷ 0x00 ∷ 0x14 ∷ 0x01 ∷ 0x16 ∷ 0x01 ∷ [])
    (pos 0 ∷ pos 0 ∷ [])
    ((pos 1 ∷ []) ∷ (pos 0 ∷ []) ∷ [])
    (done 11 (pos 1 ∷ pos 1 ∷ []) ∷ done 11 (pos 0 ∷ pos 1 ∷ []) ∷ [])

-- a word of the grammar in another case is 2
abbrev pub other_word : Example
other_word = record { given = text (bytes "var v 0..1; v: GX(v = (_v MOD 2));"); translation = refused 2 26; verdict = accepted tt; first = []; rows = []; results = [] }

-- A.6 a pair: to 5 and back; 22 where the value stands there already
abbrev pub climb : Example
climb = sound
    (bytes "input i 0..1; var v 0..5; v +: GX(v > _v -> [i = 1] & v = (5)) ; v - : GX(v < _v -> [i = 0] & v = (0));")
    (0x01 ∷ 0x01 ∷ 0x00 ∷ 0x02 ∷ 0x00 ∷ 0x00 ∷ 0x0A ∷ 0x00
    ∷ 0x02 ∷ 0x00 ∷ 0x01 ∷ 0x02 ∷ 0x0A ∷ 0x13 ∷ 0x01 ∷ 0x0A ∷ 0x18 ∷ 0x01
    ∷ 0x02 ∷ 0x00 ∷ 0x01 ∷ 0x00 ∷ 0x0A ∷ 0x13 ∷ 0x01 ∷ 0x00 ∷ 0x19 ∷ 0x01 ∷ 0x16 ∷ 0x01 ∷ [])
    (pos 0 ∷ pos 0 ∷ [])
    ((pos 1 ∷ []) ∷ (pos 1 ∷ []) ∷ (pos 0 ∷ []) ∷ (pos 0 ∷ []) ∷ [])
    (done 13 (pos 1 ∷ pos 5 ∷ []) ∷ stopped 22 6 (pos 1 ∷ pos 5 ∷ []) ∷ done 13 (pos 0 ∷ pos 0 ∷ []) ∷ stopped 22 12 (pos 0 ∷ pos 0 ∷ []) ∷ [])

-- A.7 a delay of 5 s: from the edge of W on; the elapsed time is the state's last number, and a row ends with its milliseconds
abbrev pub delay_text : Example
delay_text = sound
    (bytes "input In 0..1; var W 0..1; timer Q of W limit 5000; W: GX(W = (In));")
    (0x01 ∷ 0x02 ∷ 0x00 ∷ 0x02 ∷ 0x00 ∷ 0x00 ∷ 0x02 ∷ 0x00 ∷ 0x00 ∷ 0x02 ∷ 0x00 ∷ 0x02 ∷ 0x00 ∷ 0x15 ∷ 0x01 ∷ 0x17 ∷ 0x02 ∷ 0x01 ∷ 0x88 ∷ 0x27 ∷ [])
    (pos 0 ∷ pos 0 ∷ pos 0 ∷ pos 0 ∷ [])
    ((pos 1 ∷ pos 100 ∷ []) ∷ (pos 1 ∷ pos 4999 ∷ []) ∷ (pos 1 ∷ pos 1 ∷ []) ∷ (pos 1 ∷ []) ∷ (pos 1 ∷ negsuc 0 ∷ []) ∷ (pos 0 ∷ pos 100 ∷ []) ∷ [])
    (done 3 (pos 1 ∷ pos 1 ∷ pos 0 ∷ pos 0 ∷ [])
    ∷ done 3 (pos 1 ∷ pos 1 ∷ pos 0 ∷ pos 4999 ∷ [])
    ∷ done 3 (pos 1 ∷ pos 1 ∷ pos 1 ∷ pos 5000 ∷ [])
    ∷ stopped 12 0 (pos 1 ∷ pos 1 ∷ pos 1 ∷ pos 5000 ∷ [])
    ∷ stopped 13 0 (pos 1 ∷ pos 1 ∷ pos 1 ∷ pos 5000 ∷ [])
    ∷ done 3 (pos 0 ∷ pos 0 ∷ pos 0 ∷ pos 0 ∷ [])
    ∷ [])

-- a timer of an input is 23
abbrev pub other_timer : Example
other_timer = record { given = text (bytes "input i 0..1; timer t of i limit 1;"); translation = refused 23 25; verdict = accepted tt; first = []; rows = []; results = [] }

abbrev pub examples : List Example
examples = L1 ∷ L2 ∷ L3 ∷ L4 ∷ L5 ∷ l5_deeper ∷ L6 ∷ L7 ∷ L8 ∷ l8_unsound ∷ launch ∷ rotation ∷ share ∷ recased ∷ other_word ∷ climb ∷ delay_text ∷ other_timer ∷ []
