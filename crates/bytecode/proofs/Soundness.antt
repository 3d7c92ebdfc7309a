-- The image of a translatable program is sound. Assumes nothing.
use Prim.Native.Nat.{ℕ, zero, suc, ◌+◌, ◌-◌, ◌≤◌, ◌<◌}
use native.Mathlib.Omega.{arith}
use mathlib.Core.Path.{◌≡◌, refl, ap, ◌∙◌}
use mathlib.Core.Bool.{Bool, true, false, not, ◌&&◌}
use mathlib.Core.List.{List, [], ◌∷◌, ◌++◌, append_assoc}
use mathlib.Core.Option.{Option, none, some}
use lib.Dec.{T, leb, ltb, ltb→lt, le→leb}
use lib.ListN.{length, get_or, drop, length-append, length-drop}
use lib.Seq.{drop-append_seam}
use lib.Signed.{le_z}
use borrow.Author.Tests.{lt-ltb, le-ltb}
use Rattle.limits.specs.Answer.{Answer, accepted}
use Rattle.arith.specs.Values.{is_int32}
use Rattle.semantics.specs.Program.{Program, Range, ranges_of, known_first, RangeFits, first_timer, EachTimer, TimerFits}
use Rattle.arith.proofs.Basics.{T_true, and_left}
use Rattle.semantics.specs.Shape.{shape_of, setting_of}
use Rattle.semantics.proofs.Timers.{each_map, each_both, numbered_from, owner_of, placed}
use Rattle.semantics.proofs.Reference.{length_known, first_waiting}
use Rattle.leb128.specs.Numbers.{number, zigzag}
use Rattle.bytecode.specs.Instructions.{Instruction, encode, encode_all}
use Rattle.bytecode.specs.Translation.{code_rules, encode_ranges, encode_header, image_of, RangesFit, Translatable}
use Rattle.bytecode.specs.Check.{Known, known, guard, unset, advance, suits, complete, check_range, check_ranges, Header, check_counts, check_header, check_code, check_body, check_of}
use Rattle.bytecode.specs.Parts.{header_of, code_of}
use Rattle.leb128.proofs.RoundTrip.{drop_behind, number_at_lem, signed_at_lem}
use Rattle.bytecode.proofs.SmallOperands.{SmallTimer, small_rules}
pub use Rattle.bytecode.proofs.SmallOperands.{known_inside}
use Rattle.bytecode.proofs.Advancing.{◌continue◌, advances, adv_rules, Suited, suited_rules}
use Rattle.bytecode.proofs.RoundTrip.{AllSmall, fetch_encoded, length_encode, encoded_inside}

-- ---- what was answered

pub some_inj : {A : Type 0} {a b : A} → some a ≡ some b → a ≡ b
some_inj e = cc

pub none≢some : {A X : Type 0} (a : A) → none ≡ some a → X
none≢some a e = let z : ◌≡◌ {A = ℕ} 0 1 = cc in let f : ⊥ = omega arith in absurd f

pub guard_some : (b : Bool) (c d : Known) → guard b c ≡ some d → T b × (c ≡ d)
guard_some true c d e = (tt, cc)
guard_some false c d e = none≢some d e

pub continue_some : (o : Option Known) (f : Known → Option Known) (c : Known) → (o continue f) ≡ some c → (c₁ : Known) × (o ≡ some c₁) × (f c₁ ≡ some c)
continue_some none f c e = none≢some c e
continue_some (some c₁) f c e = (c₁, refl, e)

abbrev pub ids_of : Known → List Bool
ids_of (known vs g o ids) = ids

pub unset_inside : (ids : List Bool) (v : ℕ) → T (unset ids v) → v < length ids
unset_inside ids v t = ltb→lt v (length ids) (and_left (ltb v (length ids)) (not (get_or ids v false)) t)

-- ---- the walk

pub past_end : (code : List ℕ) (at : ℕ) → drop at code ≡ [] → length code ≤ at
past_end code at h =
    let l : length (drop at code) ≡ 0 = ap length h in
    let k : length code - at ≡ 0 = rw length-drop at l in
    omega arith

past : (code : List ℕ) (at : ℕ) → drop at code ≡ [] → ltb at (length code) ≡ false
past code at h = le-ltb at (length code) (past_end code at h)

check_code_lem : (ns : List Range) (base : ℕ) (code : List ℕ) (f at : ℕ) (last : Option Instruction) (is : List Instruction) (c d : Known) → drop at code ≡ encode_all is → length (encode_all is) ≤ f
    → AllSmall is → Suited ns last is → advances is c ≡ some d → complete d ≡ true → check_code ns base code f at last c ≡ accepted tt
check_code_lem ns base code zero at last [] c d h l s u e k = let q : c ≡ d = cc in rw (q, k)
check_code_lem ns base code (suc f) at last [] c d h l s u e k = let q : c ≡ d = cc in rw (past code at h, q, k)
check_code_lem ns base code zero at last (i ∷ is) c d h l s u e k = let b : ⊥ = omega (arith, length_encode i, simp length-append at l) in absurd b
check_code_lem ns base code (suc f) at last (i ∷ is) c d h l s u e k =
    let a = continue_some (advance i c) _ d e in
    rw (lt-ltb at (length code) (encoded_inside code at i (encode_all is) h), fetch_encoded code at i (encode_all is) s.0 h, T_true (suits ns last i) u.0, a.1)
    (check_code_lem ns base code f (at + length (encode i)) (some i) is a.0 d (drop_behind code at (encode i) (encode_all is) h) (omega (arith, length_encode i, simp length-append at l)) s.1 u.1 a.2 k)

-- ---- the header

check_range_lem : (bytes : List ℕ) (at : ℕ) (n : Range) (rest : List ℕ) → RangeFits n
    → drop at bytes ≡ number (zigzag n.low) ++ (number (zigzag n.high) ++ (number (zigzag n.start) ++ rest))
    → check_range bytes at ≡ accepted (record { range = n; next = at + length (number (zigzag n.low)) + length (number (zigzag n.high)) + length (number (zigzag n.start)) })
unfolding check_range
check_range_lem bytes at n rest f h₀ =
    let a : is_int32 n.low ≡ true = T_true _ f.0 in
    let b : (is_int32 n.high && le_z n.low n.high) ≡ true = T_true _ f.1 in
    let c : (is_int32 n.start && le_z n.low n.start && le_z n.start n.high) ≡ true = T_true _ f.2 in
    let lo = number (zigzag n.low) in
    let hi = number (zigzag n.high) in
    let h₁ : drop (at + length lo) bytes ≡ hi ++ (number (zigzag n.start) ++ rest) = drop_behind bytes at lo _ h₀ in
    let h₂ : drop (at + length lo + length hi) bytes ≡ number (zigzag n.start) ++ rest = drop_behind bytes (at + length lo) hi _ h₁ in
    rw (
      signed_at_lem bytes at n.low _ f.0 h₀,
      a,
      signed_at_lem bytes (at + length lo) n.high _ (and_left (is_int32 n.high) _ f.1) h₁,
      b,
      signed_at_lem bytes (at + length lo + length hi) n.start _ (and_left (is_int32 n.start) _ (and_left (is_int32 n.start && le_z n.low n.start) _ f.2)) h₂,
      c,
    )

check_ranges_lem : {B : Type 0} (bytes : List ℕ) (at : ℕ) (ns : List Range) (rest : List ℕ) (k : List Range → ℕ → Answer B) → RangesFit ns → drop at bytes ≡ encode_ranges ns ++ rest
    → check_ranges bytes (length ns) at k ≡ k ns (at + length (encode_ranges ns))
check_ranges_lem bytes at [] rest k f h = let z : at + 0 ≡ at = omega arith in rw z
check_ranges_lem bytes at (n ∷ ns) rest k f h =
    let lo = number (zigzag n.low) in
    let hi = number (zigzag n.high) in
    let st = number (zigzag n.start) in
    let h₀ : drop at bytes ≡ lo ++ (hi ++ (st ++ (encode_ranges ns ++ rest))) = simp append_assoc at h in
    let h₂ : drop (at + length lo + length hi) bytes ≡ st ++ (encode_ranges ns ++ rest) = drop_behind bytes (at + length lo) hi _ (drop_behind bytes at lo _ h₀) in
    let h₃ : drop (at + length lo + length hi + length st) bytes ≡ encode_ranges ns ++ rest = drop_behind bytes (at + length lo + length hi) st _ h₂ in
    let e : at + length lo + length hi + length st + length (encode_ranges ns) ≡ at + length (lo ++ (hi ++ (st ++ encode_ranges ns))) = simp length-append (omega arith) in
    rw (check_range_lem bytes at n (encode_ranges ns ++ rest) f.0 h₀)
    (check_ranges_lem bytes (at + length lo + length hi + length st) ns rest (λ ms next. k (n ∷ ms) next) f.1 h₃ ∙ ap (k (n ∷ ns)) e)

-- the header of a program's image
abbrev pub program_header : Program → Header
program_header p = record { inputs = p.inputs; ranges = ranges_of p; place = length (encode_header p) }

pub check_header_lem : (p : Program) → Translatable p → check_header (image_of p) ≡ accepted (program_header p)
unfolding check_header check_counts image_of
check_header_lem p t =
    let w : p.inputs ≤ length (ranges_of p) = t.well_formed.inputs_fit in
    let f : length (ranges_of p) ≤ 64 = t.few in
    let code = encode_all (code_rules p.timers p.rules) in
    let bytes = encode_header p ++ code in
    let ins = number p.inputs in
    let vars = number (length (ranges_of p) - p.inputs) in
    let h₀ : bytes ≡ ins ++ (vars ++ (encode_ranges (ranges_of p) ++ code)) = simp append_assoc in
    let h₁ : drop (0 + length ins) bytes ≡ vars ++ (encode_ranges (ranges_of p) ++ code) = drop_behind bytes 0 ins _ h₀ in
    let h₂ : drop (0 + length ins + length vars) bytes ≡ encode_ranges (ranges_of p) ++ code = drop_behind bytes (0 + length ins) vars _ h₁ in
    let e : p.inputs + (length (ranges_of p) - p.inputs) ≡ length (ranges_of p) = omega arith in
    let a : leb p.inputs 64 ≡ true = T_true _ (le→leb p.inputs 64 (omega arith)) in
    let b : leb (length (ranges_of p)) 64 ≡ true = T_true _ (le→leb (length (ranges_of p)) 64 f) in
    let l : 0 + length ins + length vars + length (encode_ranges (ranges_of p)) ≡ length (encode_header p) = simp length-append (omega arith) in
    rw (number_at_lem bytes 0 p.inputs _ (omega arith) h₀, a, number_at_lem bytes (0 + length ins) (length (ranges_of p) - p.inputs) _ (omega arith) h₁, e, b)
    (check_ranges_lem bytes (0 + length ins + length vars) (ranges_of p) code _ t.ranges_fit h₂
    ∙ ap {A = ℕ} {B = Answer Header} (λ n. accepted (record { inputs = p.inputs; ranges = ranges_of p; place = n })) l)

pub header_of_lem : (p : Program) → Translatable p → header_of (image_of p) ≡ program_header p
unfolding header_of
header_of_lem p t = rw (check_header_lem p t)

pub code_of_lem : (p : Program) → Translatable p → code_of (image_of p) ≡ encode_all (code_rules p.timers p.rules)
unfolding code_of image_of
code_of_lem p t = rw (header_of_lem p t) (drop-append_seam (encode_header p) (encode_all (code_rules p.timers p.rules)))

limits_few : (p : Program) → Translatable p → EachTimer SmallTimer p.timers
limits_few p t =
    let f : length (ranges_of p) ≤ 64 = t.few in
    let fit = t.well_formed.timed in
    each_map (λ x. ((first_timer p ≤ x.id) × (x.id < length (ranges_of p))) × TimerFits (ranges_of p) p.inputs (first_timer p) x) SmallTimer (λ x q. let a = q.0.1 in let b = q.1.most in (omega arith, omega arith)) p.timers
    (each_both (λ x. (first_timer p ≤ x.id) × (x.id < length (ranges_of p))) (TimerFits (ranges_of p) p.inputs (first_timer p)) p.timers
    (numbered_from (first_timer p) (first_timer p) (length (ranges_of p)) p.timers (omega arith) fit.numbered) fit.each)

pub translated_small : (p : Program) → Translatable p → AllSmall (code_rules p.timers p.rules)
translated_small p t =
    let f : length (ranges_of p) ≤ 64 = t.few in
    let l = length_known p.inputs (length (ranges_of p)) in
    small_rules p.timers (limits_few p t) (known_first p.inputs (length (ranges_of p))) p.rules (omega arith) t.well_formed.ordered

check_body_lem : (p : Program) → Translatable p → check_body (image_of p) (program_header p) ≡ accepted tt
unfolding check_body image_of
check_body_lem p t =
    let wf = t.well_formed in
    let n = length (ranges_of p) in
    let is = code_rules p.timers p.rules in
    let code = encode_all (code_rules p.timers p.rules) in
    let r = adv_rules (setting_of (shape_of p) []) n (first_timer p) (owner_of p) p.timers wf.timed.numbered (placed p wf.timed []) p.rules (known_first p.inputs n) (length_known p.inputs n) (first_waiting p wf) wf.sided wf.ordered t.shallow in
    let e : drop (length (encode_header p)) (encode_header p ++ code) ≡ code = drop-append_seam (encode_header p) code in
    rw e (check_code_lem (ranges_of p) (length (encode_header p)) code (length code) 0 none (code_rules p.timers p.rules) _ (known [] false none r.0) refl (omega arith) (translated_small p t)
    (suited_rules (ranges_of p) p.inputs (first_timer p) n p.timers wf.timed.numbered wf.timed.each none p.rules) r.1 (rw r.2))

-- check answers sound
pub check_translated : (p : Program) → Translatable p → check_of (image_of p) ≡ accepted tt
unfolding check_of
check_translated p t =
    let a : leb (length (image_of p)) 65536 ≡ true = T_true _ (le→leb (length (image_of p)) 65536 t.short) in
    rw (a, check_header_lem p t) (check_body_lem p t)
