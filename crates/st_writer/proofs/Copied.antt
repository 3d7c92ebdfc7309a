-- What holds at each turn of the loop that mirrors code: the instructions that are left make the whole. Assumes nothing.
use Prim.Native.Nat.{ℕ, ◌+◌, ◌-◌, ◌≤◌, ◌<◌}
use native.Mathlib.Omega.{arith}
use mathlib.Core.Path.{◌≡◌, refl, sym, ap, subst, ◌∙◌}
use mathlib.Core.List.{List, [], ◌∷◌, ◌++◌}
use mathlib.Core.Option.{Option, none, some}
use lib.ListN.{length, take, drop, length-append}
use lib.Seq.{sets}
use Rattle.leb128.specs.Numbers.{got, nothing}
use Rattle.leb128.proofs.RoundTrip.{drop_behind}
use Rattle.leb128.proofs.Stores.{take_sets}
use Rattle.semantics.specs.Program.{Program}
use Rattle.bytecode.specs.Instructions.{Instruction, timer, encode, encode_all, decoded, fetch}
use Rattle.bytecode.specs.Signature.{signature}
use Rattle.bytecode.specs.Translation.{code_rules, Translatable}
use Rattle.bytecode.proofs.RoundTrip.{AllSmall, fetch_encoded, encoded_inside}
use Rattle.bytecode.proofs.Soundness.{past_end}
use Rattle.bytecode.proofs.Timeless.{Timeless, TimelessIn, timeless_rules}
use Rattle.st_writer.specs.Inner.Fronts.{Fronts}
use Rattle.st_writer.specs.Inner.Mirrored.{mirrored}
use Rattle.st_writer.proofs.Numbers.{none_got}
use Rattle.st_writer.proofs.Mirrors.{untimed_small}
use Rattle.st_writer.proofs.Laws.{fronts_nothing, fronts_then}

pub record Copied (code : List ℕ) (is : List Instruction) (at : ℕ) (before after : List ℕ) (to : ℕ) : Type 0 where
  pub rest : List Instruction
  pub front : List ℕ → List ℕ
  pub small : AllSmall rest
  pub untimed : Timeless rest
  pub stands : drop at code ≡ encode_all rest
  pub wrote : Fronts front before after (length code) to
  pub whole : (l : List ℕ) → mirrored is l ≡ mirrored rest (front l)

abbrev pub Copying : List ℕ → ℕ → List ℕ → List ℕ → ℕ → Type 0
Copying code at before after to = (p : Program) → Translatable p → p.timers ≡ [] → code ≡ encode_all (code_rules [] p.rules) → Copied code (code_rules [] p.rules) at before after to

pub copy_starts : (code out : List ℕ) → Copying code 0 out out (length code)
copy_starts code out p t z e =
    record { rest = code_rules [] p.rules; front = λ l. l; small = untimed_small p t z; untimed = timeless_rules p.rules; stands = e; wrote = fronts_nothing out (length code); whole = λ l. refl }

decoded_got : (o : Option Instruction) (next : ℕ) (i : Instruction) (n : ℕ) → decoded o next ≡ got i n → next ≡ n
decoded_got none next i n e = absurd (none_got e)
decoded_got (some j) next i n e = cc

-- a 23 is no instruction of a rule
timed_not : {i : Instruction} {t w n : ℕ} → TimelessIn (signature i).role → timer t w n ≡ i → ⊥
timed_not u e = subst (λ (j : Instruction). TimelessIn (signature j).role) (sym e) u

-- an instruction is malformed nowhere
pub copy_broken : (code : List ℕ) (at : ℕ) (m₀ m₁ : List ℕ) (to : ℕ) → at < length code → nothing ≡ fetch code at → Copying code at m₀ m₁ to → (p : Program) → Translatable p → p.timers ≡ []
    → code ≡ encode_all (code_rules [] p.rules) → ⊥
copy_broken code at m₀ m₁ to h f s p t z e = go (s p t z e).rest (s p t z e).small (s p t z e).untimed (s p t z e).stands where
  go : (is : List Instruction) → AllSmall is → Timeless is → drop at code ≡ encode_all is → ⊥
  go [] g u d = let x = past_end code at d in omega arith
  go (i ∷ is) g u d = none_got (f ∙ fetch_encoded code at i (encode_all is) g.0 d)

-- and there is no timer
pub copy_timer : (code : List ℕ) (at : ℕ) (m₀ m₁ : List ℕ) (to t w n next : ℕ) → at < length code → got (timer t w n) next ≡ fetch code at → Copying code at m₀ m₁ to → (p : Program) → Translatable p → p.timers ≡ []
    → code ≡ encode_all (code_rules [] p.rules) → ⊥
copy_timer code at m₀ m₁ to t w n next h f s p x z e = go (s p x z e).rest (s p x z e).small (s p x z e).untimed (s p x z e).stands where
  go : (is : List Instruction) → AllSmall is → Timeless is → drop at code ≡ encode_all is → ⊥
  go [] g u d = let y = past_end code at d in omega arith
  go (i ∷ is) g u d = let q : got (timer t w n) next ≡ got i (at + length (encode i)) = f ∙ fetch_encoded code at i (encode_all is) g.0 d in timed_not {i = i} {t = t} {w = w} {n = n} u.0 cc

take_part : (n : ℕ) (a b : List ℕ) → n ≡ length a → take n (a ++ b) ≡ a
take_part n a b e = rw e (go a) where
  go : (k : List ℕ) → take (length k) (k ++ b) ≡ k
  go [] = refl
  go (x ∷ k) = ap (λ (l : List ℕ). x ∷ l) (go k)

-- the instruction at the place is put before the others
pub copy_goes : (code : List ℕ) (at next : ℕ) (o : Option Instruction) (m₀ m₁ m₂ : List ℕ) (to p : ℕ) → at < length code → decoded o next ≡ fetch code at → Copying code at m₀ m₁ to
    → Fronts (λ l. take (next - at) (drop at code) ++ l) m₁ m₂ to p → Copying code next m₀ m₂ p
unfolding mirrored
copy_goes code at next o m₀ m₁ m₂ to p h f s w q t z e = go (s q t z e).rest refl (s q t z e).small (s q t z e).untimed (s q t z e).stands where
  go : (is : List Instruction) → (s q t z e).rest ≡ is → AllSmall (s q t z e).rest → Timeless (s q t z e).rest → drop at code ≡ encode_all (s q t z e).rest → Copied code (code_rules [] q.rules) next m₀ m₂ p
  go [] r g u d = let x = past_end code at (d ∙ ap encode_all r) in absurd (omega arith)
  go (i ∷ is) r g u d =
      let d₂ : drop at code ≡ encode i ++ encode_all is = d ∙ ap encode_all r in
      let g₂ : AllSmall (i ∷ is) = subst AllSmall r g in
      let u₂ : Timeless (i ∷ is) = subst Timeless r u in
      let n : next ≡ at + length (encode i) = decoded_got o next i _ (f ∙ fetch_encoded code at i (encode_all is) g₂.0 d₂) in
      let k : take (next - at) (drop at code) ≡ encode i = ap (take (next - at)) d₂ ∙ take_part (next - at) (encode i) (encode_all is) (omega arith) in
      record {
        rest = is;
        front = λ l. take (next - at) (drop at code) ++ (s q t z e).front l;
        small = g₂.1;
        untimed = u₂.1;
        stands = ap (λ (j : ℕ). drop j code) n ∙ drop_behind code at (encode i) (encode_all is) d₂;
        wrote = fronts_then (s q t z e).wrote w;
        whole = λ l. (s q t z e).whole l ∙ ap (λ (js : List Instruction). mirrored js ((s q t z e).front l)) r ∙ ap (λ (j : List ℕ). mirrored is (j ++ (s q t z e).front l)) (sym k);
      }

-- ---- at the end

length_mirrored : (is : List Instruction) (l : List ℕ) → length (mirrored is l) ≡ length (encode_all is) + length l
unfolding mirrored
length_mirrored [] l = omega arith
length_mirrored (i ∷ is) l =
    let a = length_mirrored is (encode i ++ l) in
    let b = length-append (encode i) l in
    let c = length-append (encode i) (encode_all is) in
    omega arith

pub copy_ends : (code : List ℕ) (at : ℕ) (m₀ m₁ : List ℕ) (to : ℕ) → length code ≤ at → length code ≤ length m₀ → Copying code at m₀ m₁ to → (p : Program) → Translatable p → p.timers ≡ []
    → code ≡ encode_all (code_rules [] p.rules) → take (length code) m₁ ≡ mirrored (code_rules [] p.rules) []
unfolding mirrored
copy_ends code at m₀ m₁ to h g s p t z e = go (s p t z e).rest refl (s p t z e).stands where
  go : (js : List Instruction) → (s p t z e).rest ≡ js → drop at code ≡ encode_all (s p t z e).rest → take (length code) m₁ ≡ mirrored (code_rules [] p.rules) []
  go (i ∷ js) r d = let x = encoded_inside code at i (encode_all js) (d ∙ ap encode_all r) in absurd (omega arith)
  go [] r d =
      let w : mirrored (code_rules [] p.rules) [] ≡ (s p t z e).front [] = (s p t z e).whole [] ∙ ap (λ (ks : List Instruction). mirrored ks ((s p t z e).front [])) r in
      let m : length (mirrored (code_rules [] p.rules) []) ≡ length (encode_all (code_rules [] p.rules)) + 0 = length_mirrored (code_rules [] p.rules) [] in
      let n : length code ≡ length (encode_all (code_rules [] p.rules)) = ap length e in
      let f : length ((s p t z e).front []) ≡ length code = ap length (sym w) ∙ m ∙ (omega arith) in
      let a : to + length ((s p t z e).front []) ≡ length code + 0 = (s p t z e).wrote.place [] (omega arith) in
      let y : to ≡ 0 = omega arith in
      let o : m₁ ≡ sets m₀ to ((s p t z e).front []) = (s p t z e).wrote.memory m₀ [] (omega arith) refl in
      ap (take (length code)) (o ∙ ap (λ (k : ℕ). sets m₀ k ((s p t z e).front [])) y)
      ∙ ap (λ (k : ℕ). take k (sets m₀ 0 ((s p t z e).front []))) (sym f)
      ∙ take_sets m₀ ((s p t z e).front []) (omega arith) ∙ sym w
