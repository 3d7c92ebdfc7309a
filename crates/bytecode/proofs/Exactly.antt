-- Check answers sound exactly if the image is sound. Assumes nothing.
use Prim.Native.Nat.{ℕ, zero, suc, ◌+◌, ◌≤◌}
use native.Mathlib.Omega.{arith}
use mathlib.Core.Path.{◌≡◌, refl, ap, ◌∙◌, subst}
use mathlib.Core.Bool.{Bool, true, false, not, ◌&&◌}
use mathlib.Core.List.{List, [], ◌∷◌, ◌++◌}
use mathlib.Core.Option.{Option, none, some}
use lib.Dec.{T, leb, ltb, ltb→lt, le→leb}
use lib.ListN.{length, drop}
use lib.Seq.{drop-append_seam}
use lib.Signed.{le_z}
use borrow.Author.Tests.{lt-ltb, le-ltb, ltb-true, ltb-false}
use Rattle.limits.specs.Answer.{Answer, accepted}
use Rattle.arith.specs.Values.{is_int32}
use Rattle.semantics.specs.Program.{Range, all_true, RangeFits}
use Rattle.arith.proofs.Basics.{T_true, true_T, and_left, and_right, T_not_false}
use Rattle.leb128.specs.Numbers.{Read, got, nothing, number_at, signed_at}
use Rattle.bytecode.specs.Instructions.{Instruction, fetch}
use Rattle.bytecode.specs.Translation.{RangesFit}
use Rattle.bytecode.specs.Signature.{Sort, number, truth, Role, pushes, computes, tests, opens, picks, lets, settles, times, signature}
use Rattle.bytecode.specs.Check.{Picks, Known, known, one, empty, unset, closed, fresh, opened, taking, admits, advance, suits, complete, item, check_range, check_ranges, check_counts, Header, check_header, check_code, at_start, check_body, check_of}
use Rattle.bytecode.specs.Parts.{header_of, code_of, counted, count_from, instructions_in}
use Rattle.bytecode.specs.Sound.{RangesAt, SpellsCode, Sound}
use Rattle.bytecode.specs.Allowed.{left_in, left_by, left_by_all, AllowedIn, Allowed, Finished}
use Rattle.bytecode.proofs.RoundTrip.{fetch_next}
use Rattle.bytecode.proofs.TimerPlaces.{last_of}
use Rattle.bytecode.proofs.Advancing.{Suited}
use Rattle.bytecode.proofs.Soundness.{some_inj, none≢some, guard_some}
use Rattle.bytecode.proofs.Walk.{Stepped, check_stepped, check_ended}

-- ---- one instruction

one_shape : (x : Sort) (vs : List Sort) (k : List Sort → Option Known) (d : Known) → one x vs k ≡ some d → (rest : List Sort) × (vs ≡ x ∷ rest) × (k rest ≡ some d)
one_shape number [] k d e = none≢some d e
one_shape number (number ∷ vs) k d e = (vs, refl, e)
one_shape number (truth ∷ vs) k d e = none≢some d e
one_shape truth [] k d e = none≢some d e
one_shape truth (number ∷ vs) k d e = none≢some d e
one_shape truth (truth ∷ vs) k d e = (vs, refl, e)

empty_is : (vs : List Sort) → T (empty vs) → vs ≡ []
empty_is [] h = refl
empty_is (v ∷ vs) h = absurd h

closed_is : (o : Option Picks) → T (closed o) → o ≡ none
closed_is none h = refl
closed_is (some u) h = absurd h

-- the operands taken are those on top
pub taking_shape : (xs vs : List Sort) (k : List Sort → Option Known) (d : Known) → taking xs vs k ≡ some d → (rest : List Sort) × (vs ≡ xs ++ rest) × (k rest ≡ some d)
taking_shape [] vs k d e = (vs, refl, e)
taking_shape (x ∷ xs) vs k d e =
    let a = one_shape x vs _ d e in
    let b = taking_shape xs a.0 k d a.2 in
    (b.0, a.1 ∙ ap {B = List Sort} (λ l. x ∷ l) b.1, b.2)

taking_is : (xs rest : List Sort) (k : List Sort → Option Known) → taking xs (xs ++ rest) k ≡ k rest
taking_is [] rest k = refl
taking_is (number ∷ xs) rest k = taking_is xs rest k
taking_is (truth ∷ xs) rest k = taking_is xs rest k

-- what an instruction of a role that keeps soundness needed, and leaves
record KeptIn (r : Role) (rest : List Sort) (g : Bool) (o : Option Picks) (ids : List Bool) (d : Known) : Type 0 where
  allowed : AllowedIn r rest g o ids
  left : left_in r rest g o ids ≡ d

admitted : (r : Role) (rest : List Sort) (g : Bool) (o : Option Picks) (ids : List Bool) (d : Known) → admits r rest g o ids ≡ some d → KeptIn r rest g o ids d
admitted (pushes fits) rest g o ids d e =
    let h = guard_some (fits ids && ltb (length rest) 40) _ d e in
    record { allowed = (and_left (fits ids) _ h.0, ltb→lt (length rest) 40 (and_right (fits ids) _ h.0)); left = h.1 }
admitted computes rest g o ids d e = record { allowed = tt; left = some_inj e }
admitted tests rest g o ids d e = let h = guard_some (not g) _ d e in record { allowed = T_not_false g h.0; left = h.1 }
admitted opens rest g o ids d e =
    let h = guard_some (not g && empty rest) _ d e in
    let s : rest ≡ [] = empty_is rest (and_right (not g) _ h.0) in
    record { allowed = (T_not_false g (and_left (not g) _ h.0), s); left = rw s h.1 }
admitted (picks side v) rest g o ids d e =
    let h = guard_some (g && empty rest && unset ids v && fresh o side v) _ d e in
    let q = and_left (g && empty rest && unset ids v) (fresh o side v) h.0 in
    let p = and_left (g && empty rest) (unset ids v) q in
    let s : rest ≡ [] = empty_is rest (and_right g _ p) in
    record { allowed = (T_true g (and_left g _ p), s, and_right (g && empty rest) (unset ids v) q, and_right (g && empty rest && unset ids v) (fresh o side v) h.0); left = rw s h.1 }
admitted (lets v) rest g o ids d e =
    let h = guard_some (not g && empty rest && unset ids v && closed o) _ d e in
    let q = and_left (not g && empty rest && unset ids v) (closed o) h.0 in
    let p = and_left (not g && empty rest) (unset ids v) q in
    let s : rest ≡ [] = empty_is rest (and_right (not g) _ p) in
    let f : g ≡ false = T_not_false g (and_left (not g) _ p) in
    let c : o ≡ none = closed_is o (and_right (not g && empty rest && unset ids v) (closed o) h.0) in
    record { allowed = (f, s, and_right (not g && empty rest) (unset ids v) q, c); left = rw (s, f, c) h.1 }
admitted (settles v) rest g o ids d e =
    let h = guard_some (not g && empty rest && unset ids v && opened o v) _ d e in
    let q = and_left (not g && empty rest && unset ids v) (opened o v) h.0 in
    let p = and_left (not g && empty rest) (unset ids v) q in
    let s : rest ≡ [] = empty_is rest (and_right (not g) _ p) in
    let f : g ≡ false = T_not_false g (and_left (not g) _ p) in
    record { allowed = (f, s, and_right (not g && empty rest) (unset ids v) q, and_right (not g && empty rest && unset ids v) (opened o v) h.0); left = rw (s, f) h.1 }
admitted (times t w n) rest g o ids d e =
    let h = guard_some (not g && empty rest && unset ids t && closed o) _ d e in
    let q = and_left (not g && empty rest && unset ids t) (closed o) h.0 in
    let p = and_left (not g && empty rest) (unset ids t) q in
    let s : rest ≡ [] = empty_is rest (and_right (not g) _ p) in
    let f : g ≡ false = T_not_false g (and_left (not g) _ p) in
    let c : o ≡ none = closed_is o (and_right (not g && empty rest && unset ids t) (closed o) h.0) in
    record { allowed = (f, s, and_right (not g && empty rest) (unset ids t) q, c); left = rw (s, f, c) h.1 }

-- an instruction of a role that is allowed keeps soundness
admits_allowed : (r : Role) (rest : List Sort) (g : Bool) (o : Option Picks) (ids : List Bool) → AllowedIn r rest g o ids → admits r rest g o ids ≡ some (left_in r rest g o ids)
admits_allowed (pushes fits) rest g o ids a = rw (T_true (fits ids) a.0, lt-ltb (length rest) 40 a.1)
admits_allowed computes rest g o ids a = refl
admits_allowed tests rest g o ids a = rw a
admits_allowed opens rest g o ids a = rw (a.0, a.1)
admits_allowed (picks side v) rest g o ids a = rw (a.0, a.1, T_true (unset ids v) a.2, T_true (fresh o side v) a.3)
admits_allowed (lets v) rest g o ids a = rw (a.0, a.1, T_true (unset ids v) a.2, a.3)
admits_allowed (settles v) rest g o ids a = rw (a.0, a.1, T_true (unset ids v) a.2, T_true (opened o v) a.3)
admits_allowed (times t w n) rest g o ids a = rw (a.0, a.1, T_true (unset ids t) a.2, a.3)

-- the values below the operands
below : (i : Instruction) (vs rest : List Sort) → vs ≡ (signature i).takes ++ rest → drop (length (signature i).takes) vs ≡ rest
below i vs rest e = rw e (drop-append_seam (signature i).takes rest)

-- what an instruction that keeps soundness needed, and leaves
pub record KeptBy (i : Instruction) (c d : Known) : Type 0 where
  pub allowed : Allowed i c
  pub left : left_by i c ≡ d

pub kept_by : (i : Instruction) (c d : Known) → advance i c ≡ some d → KeptBy i c d
kept_by i (known vs g o ids) d e =
    let t = taking_shape (signature i).takes vs _ d e in
    let k = admitted (signature i).role t.0 g o ids d t.2 in
    record { allowed = record { rest = t.0; operands = t.1; in_role = k.allowed }; left = rw (below i vs t.0 t.1) k.left }

-- an instruction that is allowed keeps soundness
pub allowed_advances : (i : Instruction) (c : Known) → Allowed i c → advance i c ≡ some (left_by i c)
allowed_advances i (known vs g o ids) a =
    rw (below i vs a.rest a.operands, a.operands)
    (taking_is (signature i).takes a.rest _ ∙ admits_allowed (signature i).role a.rest g o ids a.in_role)

pub finished_by : (c : Known) → complete c ≡ true → Finished c
finished_by (known vs g o ids) e =
    let h = true_T _ e in
    let q = and_left (empty vs && not g && closed o) (all_true ids) h in
    let r = and_left (empty vs && not g) (closed o) q in
    (empty_is vs (and_left (empty vs) _ r), T_not_false g (and_right (empty vs) _ r), closed_is o (and_right (empty vs && not g) (closed o) q), and_right (empty vs && not g && closed o) (all_true ids) h)

pub complete_if : (c : Known) → Finished c → complete c ≡ true
complete_if (known vs g o ids) f = rw (f.0, f.1, f.2, T_true (all_true ids) f.3)

-- ---- the instructions in a row

abbrev pub Places : List Instruction → Known → Type 0
Places [] c = Unit {0}
Places (i ∷ is) c = Allowed i c × Places is (left_by i c)

pub suited_at : (ns : List Range) (last : Option Instruction) (is : List Instruction) → Suited ns last is → (before : List Instruction) (i : Instruction) (after : List Instruction) → is ≡ before ++ i ∷ after → T (suits ns (last_of last before) i)
suited_at ns last [] p [] i after e = let z : ◌≡◌ {A = ℕ} 0 1 = cc in let f : ⊥ = omega arith in absurd f
suited_at ns last [] p (b ∷ before) i after e = let z : ◌≡◌ {A = ℕ} 0 1 = cc in let f : ⊥ = omega arith in absurd f
suited_at ns last (j ∷ is) p [] i after e = let q : j ≡ i = cc in subst (λ (x : Instruction). T (suits ns last x)) q p.0
suited_at ns last (j ∷ is) p (b ∷ before) i after e =
    let q : j ≡ b = cc in
    let r : is ≡ before ++ i ∷ after = cc in
    subst (λ (x : Instruction). T (suits ns (last_of (some x) before) i)) q (suited_at ns (some j) is p.1 before i after r)

pub at_suited : (ns : List Range) (last : Option Instruction) (is : List Instruction) → ((before : List Instruction) (i : Instruction) (after : List Instruction) → is ≡ before ++ i ∷ after → T (suits ns (last_of last before) i)) → Suited ns last is
at_suited ns last [] h = tt
at_suited ns last (j ∷ is) h = (h [] j is refl, at_suited ns (some j) is (λ before i after e. h (j ∷ before) i after (ap {B = List Instruction} (λ l. j ∷ l) e)))

-- ---- the code

-- what the walk found
pub record Walked (ns : List Range) (code : List ℕ) (at : ℕ) (last : Option Instruction) (c : Known) : Type 0 where
  pub instructions : List Instruction
  pub spells : SpellsCode code at instructions
  pub places : Places instructions c
  pub suited : Suited ns last instructions
  pub ends : Finished (left_by_all instructions c)

walked_step : (ns : List Range) (base : ℕ) (code : List ℕ) (f at : ℕ) (last : Option Instruction) (c : Known) (x : Stepped ns base code f at last c) → Walked ns code x.next (some x.instruction) x.after → Walked ns code at last c
walked_step ns base code f at last c x w =
    let k = kept_by x.instruction c x.after x.advanced in
    let p : Places w.instructions (left_by x.instruction c) = rw k.left w.places in
    let q : Finished (left_by_all w.instructions (left_by x.instruction c)) = rw k.left w.ends in
    record { instructions = x.instruction ∷ w.instructions; spells = (x.next, x.fetched, w.spells); places = (k.allowed, p); suited = (x.suited, w.suited); ends = q }

walked : (ns : List Range) (base : ℕ) (code : List ℕ) (f at : ℕ) (last : Option Instruction) (c : Known) → length code ≤ at + f → check_code ns base code f at last c ≡ accepted tt → Walked ns code at last c
walked ns base code zero at last c l e = record { instructions = []; spells = omega arith; places = tt; suited = tt; ends = finished_by c (check_ended ns base code zero at last c (omega arith) e) }
walked ns base code (suc f) at last c l e = inside (ltb at (length code)) refl (λ next i c₁ k q. walked ns base code f next (some i) c₁ k q)
  where
    inside : (b : Bool) → ltb at (length code) ≡ b → ((next : ℕ) (i : Instruction) (c₁ : Known) → length code ≤ next + f → check_code ns base code f next (some i) c₁ ≡ accepted tt → Walked ns code next (some i) c₁) → Walked ns code at last c
    inside true b ih =
        let x = check_stepped ns base code f at last c (ltb-true at (length code) b) e in
        walked_step ns base code f at last c x (ih x.next x.instruction x.after (omega (arith, (fetch_next code at x.instruction x.next x.fetched).1)) x.goes)
    inside false b ih =
        let k : length code ≤ at = ltb-false at (length code) b in
        record { instructions = []; spells = k; places = tt; suited = tt; ends = finished_by c (check_ended ns base code (suc f) at last c k e) }

walks : (ns : List Range) (base : ℕ) (code : List ℕ) (f at : ℕ) (last : Option Instruction) (is : List Instruction) (c : Known) → length code ≤ at + f → SpellsCode code at is → Places is c → Suited ns last is → Finished (left_by_all is c) → check_code ns base code f at last c ≡ accepted tt
walks ns base code zero at last [] c l s p t e = rw (complete_if c e)
walks ns base code (suc f) at last [] c l s p t e = rw (le-ltb at (length code) s, complete_if c e)
walks ns base code zero at last (i ∷ is) c l s p t e = let b : ⊥ = omega (arith, (fetch_next code at i s.0 s.1).0) in absurd b
walks ns base code (suc f) at last (i ∷ is) c l s p t e =
    let n = fetch_next code at i s.0 s.1 in
    rw (lt-ltb at (length code) n.0, s.1, T_true (suits ns last i) t.0, allowed_advances i c p.0) (walks ns base code f s.0 (some i) is (left_by i c) (omega (arith, n.1)) s.2 p.1 t.1 e)

-- ---- the header

pub item_passes : {A B : Type 0} (o : Read A) (at : ℕ) (test : A → Bool) (k : A → ℕ → Answer B) (a : A) (next : ℕ) → o ≡ got a next → T (test a) → item o at test k ≡ k a next
item_passes o at test k a next e t = rw e (rw (T_true (test a) t))

pub range_passes : (bytes : List ℕ) (at at₁ at₂ at₃ : ℕ) (n : Range) → signed_at bytes at ≡ got n.low at₁ → signed_at bytes at₁ ≡ got n.high at₂ → signed_at bytes at₂ ≡ got n.start at₃
    → RangeFits n → check_range bytes at ≡ accepted (record { range = n; next = at₃ })
unfolding check_range
range_passes bytes at at₁ at₂ at₃ n e₁ e₂ e₃ f =
    item_passes (signed_at bytes at) at is_int32 _ n.low at₁ e₁ f.0
    ∙ item_passes (signed_at bytes at₁) at₁ (λ h. is_int32 h && le_z n.low h) _ n.high at₂ e₂ f.1
    ∙ item_passes (signed_at bytes at₂) at₂ (λ z. is_int32 z && le_z n.low z && le_z z n.high) _ n.start at₃ e₃ f.2

pub ranges_pass : {B : Type 0} (bytes : List ℕ) (at : ℕ) (ns : List Range) (end : ℕ) (k : List Range → ℕ → Answer B) → RangesAt bytes at ns end → RangesFit ns → check_ranges bytes (length ns) at k ≡ k ns end
ranges_pass bytes at [] end k r f = rw r
ranges_pass bytes at (n ∷ ns) end k r f =
    rw (range_passes bytes at r.0 r.1 r.2 n r.3 r.4 r.5 f.0) (ranges_pass bytes r.2 ns end (λ ms next. k (n ∷ ms) next) r.6 f.1)

pub counts_pass : (bytes : List ℕ) (k m at₁ at₂ : ℕ) → number_at bytes 0 ≡ got k at₁ → number_at bytes at₁ ≡ got m at₂ → k + m ≤ 64 → check_counts bytes ≡ accepted (record { inputs = k; names = k + m; place = at₂ })
unfolding check_counts
counts_pass bytes k m at₁ at₂ e₁ e₂ few =
    item_passes (number_at bytes 0) 0 (λ k. leb k 64) _ k at₁ e₁ (le→leb k 64 (omega arith))
    ∙ item_passes (number_at bytes at₁) at₁ (λ m. leb (k + m) 64) _ m at₂ e₂ (le→leb (k + m) 64 few)

header_passes : (bytes : List ℕ) (x : Sound bytes) → check_header bytes ≡ accepted x.header
unfolding check_header
header_passes bytes x =
    rw (counts_pass bytes x.header.inputs x.variables x.at₁ x.at₂ x.inputs_read x.variables_read x.few)
    (rw (← x.size) (ranges_pass bytes x.at₂ x.header.ranges x.header.place (λ ns next. accepted (record { inputs = x.header.inputs; ranges = ns; place = next })) x.ranges_read x.fit))

body_passes : (bytes : List ℕ) (h : Header) → Walked h.ranges (drop h.place bytes) 0 none (at_start h) → check_body bytes h ≡ accepted tt
unfolding check_body
body_passes bytes h w =
    walks h.ranges h.place (drop h.place bytes) (length (drop h.place bytes)) 0 none w.instructions (at_start h) (omega arith) w.spells w.places w.suited w.ends

-- a sound image is answered sound, if the walk finds its code so
pub sound_accepted : (bytes : List ℕ) (x : Sound bytes) → Walked x.header.ranges (drop x.header.place bytes) 0 none (at_start x.header) → check_of bytes ≡ accepted tt
unfolding check_of
sound_accepted bytes x w =
    let l : leb (length bytes) 65536 ≡ true = T_true (leb (length bytes) 65536) (le→leb (length bytes) 65536 x.short) in
    rw (l, header_passes bytes x) (body_passes bytes x.header w)

pub body_walked : (bytes : List ℕ) (h : Header) → check_body bytes h ≡ accepted tt → Walked h.ranges (drop h.place bytes) 0 none (at_start h)
unfolding check_body
body_walked bytes h e = walked h.ranges h.place (drop h.place bytes) (length (drop h.place bytes)) 0 none (at_start h) (omega arith) e

-- ---- the count of instructions

count_spelled : (code : List ℕ) (f at : ℕ) (is : List Instruction) → length code ≤ at + f → SpellsCode code at is → count_from code f at ≡ length is
count_spelled code zero at [] l s = refl
count_spelled code (suc f) at [] l s = go (fetch code at) refl
  where
    go : (r : Read Instruction) → fetch code at ≡ r → counted r (λ next. count_from code f next) ≡ 0
    go nothing e = refl
    go (got i next) e = let b : ⊥ = omega (arith, (fetch_next code at i next e).0) in absurd b
count_spelled code zero at (i ∷ is) l s = let b : ⊥ = omega (arith, (fetch_next code at i s.0 s.1).0) in absurd b
count_spelled code (suc f) at (i ∷ is) l s =
    let n = fetch_next code at i s.0 s.1 in
    let h : count_from code f s.0 ≡ length is = count_spelled code f s.0 is (omega (arith, n.1)) s.2 in
    rw s.1 (omega arith)

header_of_sound : (bytes : List ℕ) (x : Sound bytes) → header_of bytes ≡ x.header
unfolding header_of
header_of_sound bytes x = rw (header_passes bytes x)

code_of_sound : (bytes : List ℕ) (x : Sound bytes) → code_of bytes ≡ drop x.header.place bytes
unfolding code_of
code_of_sound bytes x = rw (header_of_sound bytes x)

-- the count taken from the bytes is the number of instructions in the code
pub instructions_counted : (bytes : List ℕ) (x : Sound bytes) → instructions_in bytes ≡ length x.code
unfolding instructions_in
instructions_counted bytes x =
    rw (code_of_sound bytes x) (count_spelled (drop x.header.place bytes) (length (drop x.header.place bytes)) 0 x.code (omega arith) x.spells)
