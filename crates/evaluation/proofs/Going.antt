-- What holds at each turn of the loop over a condition's code. Assumes nothing.
use Prim.Native.Nat.{ℕ, ◌+◌, ◌-◌, ◌≤◌, ◌<◌}
use native.Mathlib.Omega.{arith}
use mathlib.Core.Path.{◌≡◌, refl, sym, ap, subst, ◌∙◌}
use mathlib.Core.Bool.{Bool, true, false}
use mathlib.Core.List.{List, [], ◌∷◌, map}
use mathlib.Core.Option.{Option, none, some}
use lib.IntN.{ℤ, pos}
use lib.ListN.{length, get_or, drop, length-map}
use Rattle.arith.specs.Values.{Outcome, ok, refusal, ◌>>=◌}
use Rattle.arith.proofs.Basics.{ok≢refusal, ok_inj}
use Rattle.semantics.specs.Program.{Condition, free, no_range}
use Rattle.semantics.specs.Formula.{State, eval_c}
use Rattle.semantics.specs.Shape.{Setting}
use Rattle.semantics.proofs.Reference.{length_known}
use Rattle.leb128.specs.Numbers.{Read, got, nothing}
use Rattle.leb128.proofs.RoundTrip.{drop_behind}
use Rattle.bytecode.specs.Instructions.{Instruction, encode, encode_all, decoded, fetch_one}
use Rattle.bytecode.specs.Translation.{code_c}
use Rattle.bytecode.specs.Signature.{signature}
use Rattle.bytecode.proofs.Soundness.{past_end}
use Rattle.bytecode.proofs.RoundTrip.{fetch_encoded, encoded_inside}
use Rattle.bytecode.proofs.Timeless.{timeless_one}
use Rattle.machine.specs.declared.Registers.{Registers}
use Rattle.machine.specs.declared.Stepped.{Stepped}
use Rattle.machine.specs.declared.Stepped.TheVariants.{Next, Refused}
use Rattle.machine.specs.Step.{Machine, machine, bit, yes, perform}
use Rattle.machine.specs.Inner.Memory.{held_of, machine_of, step_outcome, Stack}
use Rattle.machine.specs.Inner.Groups.{performed}
use Rattle.machine.proofs.Translated.{yes_bit, exec, exec_C}
use Rattle.machine.proofs.Stack.{held_top, not_none}
use Rattle.evaluation.specs.Conditions.{ConditionCode}
use Rattle.evaluation.specs.Inner.Instructions.{Calculates, CalculatesOr}
use Rattle.evaluation.proofs.Working.{Calm, calm, calculates_timeless, Fit, fit_C}

-- as many ranges as names, no timers: no condition looks at one
abbrev pub unranged : State → Setting
unranged t = record { ranges = map (λ z. no_range) t; timers = []; millis = 0 }

pub unranged_length : (t : State) → length t ≡ length (unranged t).ranges
unranged_length t = sym (length-map t (λ z. no_range))

-- what a condition leaves
abbrev left : State → State → Condition → Outcome Machine
left s t c = eval_c s t c >>= λ b. ok (machine false false (bit b ∷ []) t)

-- the instructions that are left to do make the whole condition
pub record Rest (code : List ℕ) (s t : State) (c : Condition) (k : Registers) (vals : List ℤ) (at : ℕ) : Type 0 where
  pub rest : List Instruction
  pub spelled : drop at code ≡ encode_all rest
  pub fit : Fit rest
  pub calmly : k.passing ≡ false
  pub same : exec (unranged t) s rest (machine_of k vals t) ≡ left s t c

pub record Going (code : List ℕ) (s t : State) (vals₀ : List ℤ) (k : Registers) (vals : List ℤ) (at : ℕ) : Type 0 where
  pub stack : Stack k vals
  pub deep : length vals ≡ length vals₀
  pub within : at ≤ length code
  pub goes : (c : Condition) → ConditionCode c (length t) code → length s ≡ length t → Rest code s t c k vals at

pub begins : (code : List ℕ) (s t : State) (vals : List ℤ) (k : Registers) → k.held ≡ 0 → k.passing ≡ false → k.picked ≡ false → 40 ≤ length vals → Going code s t vals k vals 0
unfolding held_of
begins code s t vals k h p q r =
    record {
      stack = record { few = omega arith; room = r };
      deep = refl;
      within = omega arith;
      goes = λ c d l. record {
        rest = code_c c;
        spelled = d.spelled;
        fit = fit_C (free (length t)) (omega (arith, d.few, length_known (length t) (length t))) c d.usable;
        calmly = p;
        same = rw (h, p, q) (exec_C (unranged t) s (free (length t)) (omega (arith, length_known (length t) (length t), unranged_length t)) c false [] t d.usable (omega (arith, d.shallow)));
      };
    }

-- ---- what a code that is left begins with

none_got : {X : Type 0} {i : Instruction} {n : ℕ} → ◌≡◌ {A = Read Instruction} nothing (got i n) → X
none_got e = let z : ◌≡◌ {A = ℕ} 0 1 = cc in let f : ⊥ = omega arith in absurd f

got_some : (o : Option Instruction) (next : ℕ) (i : Instruction) (n : ℕ) → decoded o next ≡ got i n → (o ≡ some i) × (next ≡ n)
got_some none next i n e = none_got e
got_some (some j) next i n e =
    let a : j ≡ i = cc in
    let b : next ≡ n = cc in
    (ap some a, b)

machine_held : (p c : Bool) (vs ws : List ℤ) (t u : State) (q d : Bool) → machine p c vs t ≡ machine q d ws u → vs ≡ ws
machine_held p c vs ws t u q d e = cc

-- the condition's value is the only one held
pub record Ended (s t : State) (c : Condition) (held : List ℤ) : Type 0 where
  pub truth : Bool
  pub is : eval_c s t c ≡ ok truth
  pub top : held ≡ bit truth ∷ []

-- the instruction at hand, and what follows it
pub record Taken (code : List ℕ) (s t : State) (c : Condition) (k : Registers) (vals : List ℤ) (o : Option Instruction) (next : ℕ) : Type 0 where
  pub one : Instruction
  pub more : List Instruction
  pub is_one : o ≡ some one
  pub spelled : drop next code ≡ encode_all more
  pub plain : Calculates one
  pub fit : Fit more
  pub same : (perform (unranged t) s one k.picked (held_of vals k.held) t >>= λ m. exec (unranged t) s more m) ≡ left s t c

-- what `work` did
abbrev pub Done : State → State → Registers → List ℤ → Option Instruction → Stepped → List ℤ → Type 0
Done s t k vals o r vs =
    (ns : Setting) → length s ≡ length ns.ranges → length t ≡ length ns.ranges → CalculatesOr o → step_outcome r vs t ≡ performed ns s o k.picked (held_of vals k.held) t

abbrev refused_first : Outcome Machine → Outcome Bool
refused_first (ok m) = ok true
refused_first (refusal n) = refusal n

module _ {code : List ℕ} {s t : State} {c : Condition} {k : Registers} {vals : List ℤ} {at : ℕ} (r : Rest code s t c k vals at) where
  pub ended : length code ≤ at → Ended s t c (held_of vals k.held)
  ended h = go r.rest r.spelled r.same
    where
      value : (o : Outcome Bool) → eval_c s t c ≡ o → ok (machine_of k vals t) ≡ (o >>= λ b. ok (machine false false (bit b ∷ []) t)) → Ended s t c (held_of vals k.held)
      value (ok b) e f = record { truth = b; is = e; top = machine_held _ _ _ _ _ _ _ _ (ok_inj f) }
      value (refusal j) e f = ok≢refusal _ j f

      go : (is : List Instruction) → drop at code ≡ encode_all is → exec (unranged t) s is (machine_of k vals t) ≡ left s t c → Ended s t c (held_of vals k.held)
      go [] d e = value (eval_c s t c) refl e
      go (i ∷ is) d e = let b : ⊥ = omega (arith, encoded_inside code at i (encode_all is) d) in absurd b

  one_encoded : (i : Instruction) (is : List Instruction) → drop at code ≡ encode_all (i ∷ is) → Fit (i ∷ is) → fetch_one code at ≡ got i (at + length (encode i))
  one_encoded i is d q = timeless_one code at i _ (fetch_encoded code at i (encode_all is) q.0 d) (calculates_timeless (signature i).role q.1)

  -- an instruction that is malformed is never met
  pub broken : at < length code → nothing ≡ fetch_one code at → ⊥
  broken h f = go r.rest r.spelled r.fit
    where
      go : (is : List Instruction) → drop at code ≡ encode_all is → Fit is → ⊥
      go [] d q = omega (arith, past_end code at d)
      go (i ∷ is) d q = none_got (f ∙ one_encoded i is d q)

  pub taken : at < length code → (o : Option Instruction) (next : ℕ) → decoded o next ≡ fetch_one code at → Taken code s t c k vals o next
  taken h o next f = go r.rest r.spelled r.fit r.same
    where
      go : (is : List Instruction) → drop at code ≡ encode_all is → Fit is → exec (unranged t) s is (machine_of k vals t) ≡ left s t c → Taken code s t c k vals o next
      go [] d q e = let b : ⊥ = omega (arith, past_end code at d) in absurd b
      go (i ∷ is) d q e =
          let g = got_some o next i (at + length (encode i)) (f ∙ one_encoded i is d q) in
          let p : k.passing ≡ false = r.calmly in
          record { one = i; more = is; is_one = g.0; spelled = ap (λ (n : ℕ). drop n code) g.1 ∙ drop_behind code at (encode i) (encode_all is) d; plain = q.1; fit = q.2; same = rw p at e }

module _ {code : List ℕ} {s t : State} {c : Condition} {k : Registers} {vals : List ℤ} {o : Option Instruction} {next : ℕ}
    (x : Taken code s t c k vals o next) (l : length s ≡ length t) (r : Stepped) (vs : List ℤ) (w : Done s t k vals o r vs) where
  did : step_outcome r vs t ≡ perform (unranged t) s x.one k.picked (held_of vals k.held) t
  did =
      let p : CalculatesOr o = subst CalculatesOr (sym x.is_one) x.plain in
      w (unranged t) (l ∙ unranged_length t) (unranged_length t) p ∙ ap (λ (q : Option Instruction). performed (unranged t) s q k.picked (held_of vals k.held) t) x.is_one

  goes_on_lem : (step_outcome r vs t >>= λ m. exec (unranged t) s x.more m) ≡ left s t c
  goes_on_lem = ap (λ (u : Outcome Machine). u >>= λ m. exec (unranged t) s x.more m) did ∙ x.same

  pub refused : (j : ℕ) → r ≡ Refused j → eval_c s t c ≡ refusal j
  refused j e = go (eval_c s t c) refl (rw e at goes_on_lem)
    where
      go : (u : Outcome Bool) → eval_c s t c ≡ u → refusal j ≡ (u >>= λ b. ok (machine false false (bit b ∷ []) t)) → eval_c s t c ≡ refusal j
      go (ok b) f g = ok≢refusal _ j (sym g)
      go (refusal i) f g = f ∙ sym (ap refused_first g)

  pub again : (m : Registers) → r ≡ Next m → Rest code s t c m vs next
  again m e =
      let d : ok (machine_of m vs t) ≡ perform (unranged t) s x.one k.picked (held_of vals k.held) t = rw e at did in
      record {
        rest = x.more;
        spelled = x.spelled;
        fit = x.fit;
        calmly = subst Calm (sym d) (calm (unranged t) s k.picked (held_of vals k.held) t x.one x.plain);
        same = rw e at goes_on_lem;
      }

-- ---- the answer

pub none_held_lem : (vals : List ℤ) (held : ℕ) (z : ℤ) → held ≡ 0 → held_of vals held ≡ z ∷ [] → ⊥
unfolding held_of
none_held_lem vals held z e h =
    let q : [] ≡ z ∷ [] = rw e at h in
    let l : ◌≡◌ {A = ℕ} 0 1 = ap length q in
    omega arith

head_is : (a b : ℤ) (vs ws : List ℤ) → a ∷ vs ≡ b ∷ ws → a ≡ b
head_is a b vs ws e = cc

pub top_is : (vals : List ℤ) (held : ℕ) (b : Bool) → (held ≡ 0 → ⊥) → held_of vals held ≡ bit b ∷ [] → yes (get_or vals (held - 1) (pos 0)) ≡ b
top_is vals held b h e = ap yes (head_is _ _ _ _ (sym (held_top vals held (not_none held h)) ∙ e)) ∙ yes_bit b
