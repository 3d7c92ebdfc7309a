-- What is read back from the memory after an instalment. Assumes nothing.
use Prim.Native.Nat.{ℕ, zero, suc, ◌+◌, ◌≤◌}
use native.Mathlib.Omega.{arith}
use mathlib.Core.Path.{◌≡◌, refl, sym, ◌∙◌}
use mathlib.Core.Bool.{Bool, true, false, cond}
use mathlib.Core.List.{List, [], ◌∷◌, ◌++◌}
use lib.Dec.{leb}
use lib.IntN.{ℤ, pos}
use lib.ListN.{length, get_or, take, drop, length-append, get_or-append}
use lib.Seq.{sets, length-sets, take-take, get_or-take, get_or-append_seam}
use Rattle.machine.specs.Held.{held_of}
use Rattle.limits.specs.Limits.{image_limit, stack_limit, state_limit, paused_length}
use Rattle.arith.specs.Values.{Outcome, ok, refusal}
use Rattle.machine.specs.Step.{Machine, machine}
use Rattle.runs.proofs.Sizes.{SizedIn}
use Rattle.paused.specs.declared.Checkpoint.{Checkpoint}
use Rattle.paused.specs.Memory.{held_place, start_place, current_place, low_place, high_place, row_place, waiting_place, slice, checkpoint_of, layout_of, waiting_of, checkpoint_cells, stacked}
use Rattle.paused.proofs.ReadBack.{get_d_sets_before, get_d_sets_behind, slice_sets_before, slice_sets_behind, slice_sets_same, checkpoint_stored, layout_alike, waiting_alike}
use Rattle.resumable.specs.Instalment.{went_to, stopped_at, left_after}

-- ---- the values held

length_stacked : (vs : List ℤ) → length (stacked vs) ≡ length vs
length_stacked [] = refl
length_stacked (z ∷ vs) = length-append (stacked vs) (z ∷ []) ∙ let h = length_stacked vs in omega arith

held_append : (xs ys : List ℤ) (n : ℕ) → n ≤ length xs → held_of (xs ++ ys) n ≡ held_of xs n
unfolding held_of
held_append xs ys zero h = refl
held_append xs ys (suc n) h = rw (get_or-append xs ys (pos 0) n h, held_append xs ys n (omega arith))

held_stacked : (vs : List ℤ) → held_of (stacked vs) (length vs) ≡ vs
unfolding held_of
held_stacked [] = refl
held_stacked (z ∷ vs) =
    let l = length_stacked vs in
    let g : get_or (stacked vs ++ (z ∷ [])) (length vs) (pos 0) ≡ z = rw l at (get_or-append_seam (stacked vs) z [] (pos 0)) in
    rw (g, held_append (stacked vs) (z ∷ []) (length vs) (omega arith), held_stacked vs)

held_take : (l : List ℤ) (n m : ℕ) → n ≤ m → held_of (take m l) n ≡ held_of l n
unfolding held_of
held_take l zero m h = refl
held_take l (suc n) m h = rw (get_or-take m l n (pos 0) h, held_take l n m (omega arith))

-- ---- what an instalment leaves alone

pub record Kept (cells left : List ℤ) : Type 0 where
  pub long : length left ≡ length cells
  pub layout : layout_of left ≡ layout_of cells
  pub waits : waiting_of left ≡ waiting_of cells
  pub start : (n : ℕ) → n ≤ state_limit → slice start_place n left ≡ slice start_place n cells
  pub low : (n : ℕ) → slice low_place n left ≡ slice low_place n cells
  pub high : (n : ℕ) → slice high_place n left ≡ slice high_place n cells

kept_progress : (p : Checkpoint) (cells : List ℤ) → Kept cells (sets cells 0 (checkpoint_cells p))
kept_progress p cells =
    record {
      long = length-sets cells 0 (checkpoint_cells p);
      layout = layout_alike _ _ (λ j a b. get_d_sets_behind (checkpoint_cells p) cells 0 j (omega arith)) (λ j a b. get_d_sets_behind (checkpoint_cells p) cells 0 j (omega arith));
      waits =
          waiting_alike _ _ (get_d_sets_behind (checkpoint_cells p) cells 0 waiting_place (omega arith))
          (λ n h. slice_sets_behind (checkpoint_cells p) cells 0 row_place n (omega arith));
      start = λ n h. slice_sets_behind (checkpoint_cells p) cells 0 start_place n (omega arith);
      low = λ n. slice_sets_behind (checkpoint_cells p) cells 0 low_place n (omega arith);
      high = λ n. slice_sets_behind (checkpoint_cells p) cells 0 high_place n (omega arith);
    }

kept_held : (vs cells : List ℤ) → length vs ≤ stack_limit → Kept cells (sets cells held_place vs)
kept_held vs cells h =
    record {
      long = length-sets cells held_place vs;
      layout = layout_alike _ _ (λ j a b. get_d_sets_before vs cells held_place j (omega arith)) (λ j a b. get_d_sets_behind vs cells held_place j (omega arith));
      waits = waiting_alike _ _ (get_d_sets_before vs cells held_place waiting_place (omega arith)) (λ n k. slice_sets_before vs cells held_place row_place n (omega arith));
      start = λ n k. slice_sets_behind vs cells held_place start_place n (omega arith);
      low = λ n. slice_sets_behind vs cells held_place low_place n (omega arith);
      high = λ n. slice_sets_behind vs cells held_place high_place n (omega arith);
    }

kept_current : (t cells : List ℤ) → length t ≤ state_limit → Kept cells (sets cells current_place t)
kept_current t cells h =
    record {
      long = length-sets cells current_place t;
      layout = layout_alike _ _ (λ j a b. get_d_sets_before t cells current_place j (omega arith)) (λ j a b. get_d_sets_before t cells current_place j (omega arith));
      waits = waiting_alike _ _ (get_d_sets_before t cells current_place waiting_place (omega arith)) (λ n k. slice_sets_before t cells current_place row_place n (omega arith));
      start = λ n k. slice_sets_before t cells current_place start_place n (omega arith);
      low = λ n. slice_sets_behind t cells current_place low_place n (omega arith);
      high = λ n. slice_sets_behind t cells current_place high_place n (omega arith);
    }

kept_both : {a b c : List ℤ} → Kept a b → Kept b c → Kept a c
kept_both x y =
    record {
      long = y.long ∙ x.long;
      layout = y.layout ∙ x.layout;
      waits = y.waits ∙ x.waits;
      start = λ n h. y.start n h ∙ x.start n h;
      low = λ n. y.low n ∙ x.low n;
      high = λ n. y.high n ∙ x.high n;
    }

-- ---- where the scan stands

-- the steps in all, the length of the code, the place, and the machine
pub record Going (cells : List ℤ) (w len total place : ℕ) (b c : Bool) (vs t : List ℤ) : Type 0 where
  pub progress : checkpoint_of cells ≡ record { phase = cond (leb len place) 2 1; number = 0; place = place; steps = total; held = length vs; picked = c; passing = b }
  pub held : held_of (slice held_place stack_limit cells) (length vs) ≡ vs
  pub current : slice current_place w cells ≡ t

abbrev pub Stands : List ℤ → ℕ → ℕ → ℕ → ℕ → Outcome Machine → Type 0
Stands cells w len total place (ok (machine b c vs t)) = Going cells w len total place b c vs t
Stands cells w len total place (refusal k) = checkpoint_of cells ≡ record { phase = 3; number = k; place = place; steps = total; held = 0; picked = false; passing = false }

two_phases : (b : Bool) → cond b 2 1 ≤ 3
two_phases true = omega arith
two_phases false = omega arith

module _ (before len n place w : ℕ) (cells : List ℤ) (l : length cells ≡ paused_length) (few : w ≤ state_limit) where
  pub kept_left : (o : Outcome Machine) → SizedIn w o → Kept cells (left_after before len n place o cells)
  kept_left (ok (machine b c vs t)) z =
      kept_both (kept_both (kept_current t cells (omega (arith, z.1))) (kept_held (stacked vs) _ (omega (arith, z.0, length_stacked vs)))) (kept_progress (went_to before len n place (machine b c vs t)) (sets (sets cells current_place t) held_place (stacked vs)))
  kept_left (refusal k) z = kept_progress (stopped_at before n place k) cells

  pub stands_left : place ≤ image_limit → before + n ≤ image_limit → (o : Outcome Machine) → SizedIn w o → Stands (left_after before len n place o cells) w len (before + n) place o
  stands_left h k (refusal j) z =
      checkpoint_stored cells (stopped_at before n place j) (omega (arith, l)) (record { phases = omega arith; numbers = z; places = h; counts = k; stack = omega arith })
  stands_left h k (ok (machine b c vs t)) z =
      let p = went_to before len n place (machine b c vs t) in
      let x = sets cells current_place t in
      let y = sets x held_place (stacked vs) in
      let lx : length x ≡ 640 = length-sets cells current_place t ∙ l in
      let ly : length y ≡ 640 = length-sets x held_place (stacked vs) ∙ lx in
      let v = length_stacked vs in
      let held-part : slice held_place (length vs) (sets y 0 (checkpoint_cells p)) ≡ stacked vs =
      slice_sets_behind (checkpoint_cells p) y 0 held_place (length vs) (omega arith) ∙ (rw v at (slice_sets_same (stacked vs) x held_place (omega (arith, z.0, v, lx)))) in
      record {
        progress = checkpoint_stored y p (omega (arith, ly)) (record { phases = two_phases (leb len place); numbers = omega arith; places = h; counts = k; stack = z.0 });
        held =
            sym (held_take (slice held_place stack_limit (sets y 0 (checkpoint_cells p))) (length vs) (length vs) (omega arith))
            ∙ rw (take-take (length vs) stack_limit (drop held_place (sets y 0 (checkpoint_cells p))) z.0, held-part) (held_stacked vs);
        current =
            slice_sets_behind (checkpoint_cells p) y 0 current_place w (omega arith) ∙ slice_sets_behind (stacked vs) x held_place current_place w (omega (arith, z.0, v))
            ∙ (rw z.1 at (slice_sets_same t cells current_place (omega (arith, z.1, few, l))));
      }
