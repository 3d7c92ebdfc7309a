-- An instalment of a paused scan: what it answers and leaves, for any memory. Document 02, A.8. Assumes nothing.
use Rattle.std.specs.Prelude.{ℕ, ◌+◌, ◌-◌, min, false, ◌&&◌, cond, List, [], ◌∷◌, eqb, ltb, leb, ℤ, pos, length, drop}
use Rattle.std.proofs.lemmas.List.Edits.{sets}
use Rattle.machine.specs.Held.{held_of}
use Rattle.limits.specs.Limits.{image_limit, stack_limit, paused_length}
use Rattle.arith.specs.Values.{Outcome, ok, refusal}
use Rattle.arith.specs.Inner.Flags.{flags_of}
use Rattle.semantics.specs.Program.{Range}
use Rattle.semantics.specs.Shape.{Setting}
use Rattle.machine.specs.Step.{Machine, machine}
use Rattle.machine.specs.Runs.{Ran, run}
use Rattle.paused.specs.declared.Checkpoint.{Checkpoint}
use Rattle.paused.specs.declared.Layout.{Layout}
use Rattle.paused.specs.declared.Response.{Response}
use Rattle.paused.specs.declared.Response.TheVariants as R
use Rattle.paused.specs.Memory.{held_place, start_place, current_place, low_place, high_place, slice, checkpoint_of, layout_of, checkpoint_cells, stacked}

-- ---- what every call answers and leaves

-- what a call answers, and the memory left
pub record AfterCall : Type 0 where
  pub reply : Response
  pub cells : List ℤ

abbrev pub after_call : Response → List ℤ → AfterCall
after_call r cells = record { reply = r; cells = cells }

-- Memory of another length holds neither scan nor row.
abbrev pub sized : List ℤ → AfterCall → AfterCall
sized cells a = cond (eqb (length cells) paused_length) a (after_call R.Idle cells)

-- ---- an instalment

-- ranges by their lows and highs: a run asks no starts
abbrev pub ranges_between : List ℤ → List ℤ → List Range
ranges_between [] hs = []
ranges_between (l ∷ ls) [] = []
ranges_between (l ∷ ls) (h ∷ hs) = record { low = l; high = h; start = pos 0 } ∷ ranges_between ls hs

abbrev pub ranges_in : ℕ → List ℤ → List Range
ranges_in size cells = ranges_between (slice low_place size cells) (slice high_place size cells)

-- what the scan works with: the ranges of its state's numbers, the names that are timers, the milliseconds of its row
abbrev pub setting_in : Layout → List ℤ → Setting
setting_in f cells = record { ranges = ranges_in f.size cells; timers = flags_of f.names f.timers; millis = f.millis }

-- the machine that stands in the memory
abbrev pub standing : Checkpoint → ℕ → List ℤ → Machine
standing p size cells = machine p.passing p.picked (held_of (slice held_place stack_limit cells) p.held) (slice current_place size cells)

-- at most n instructions from where the scan stopped
unfoldable pub ran_from : List ℕ → ℕ → Checkpoint → Layout → List ℤ → Ran
ran_from code n p f cells =
    run (setting_in f cells) (slice start_place f.size cells) code n p.place 0 (standing p f.size cells)

-- where the scan now stands: the steps before, the length of the code, the steps of this run and the place that it reached
abbrev pub went_to : ℕ → ℕ → ℕ → ℕ → Machine → Checkpoint
went_to before len n place (machine b c vs t) =
    record { phase = cond (leb len place) 2 1; number = 0; place = place; steps = before + n; held = length vs; picked = c; passing = b }

abbrev pub stopped_at : ℕ → ℕ → ℕ → ℕ → Checkpoint
stopped_at before n place k = record { phase = 3; number = k; place = place; steps = before + n; held = 0; picked = false; passing = false }

-- A refused run leaves only its progress.
abbrev pub left_after : ℕ → ℕ → ℕ → ℕ → Outcome Machine → List ℤ → List ℤ
left_after before len n place (ok (machine b c vs t)) cells =
    sets (sets (sets cells current_place t) held_place (stacked vs)) 0 (checkpoint_cells (went_to before len n place (machine b c vs t)))
left_after before len n place (refusal k) cells = sets cells 0 (checkpoint_cells (stopped_at before n place k))

abbrev pub left_by_run : ℕ → ℕ → Ran → List ℤ → List ℤ
left_by_run before len d cells = left_after before len d.steps d.place d.last cells

abbrev pub instalment : List ℕ → ℕ → List ℤ → Checkpoint → Layout → AfterCall
instalment code n cells p f = after_call (R.Done (ran_from code n p f cells).steps) (left_by_run p.steps (length code) (ran_from code n p f cells) cells)

-- A caller gives a number of steps; the scan does that many, or fewer if it finishes or is refused, and reports how many.
abbrev pub advanced : List ℕ → ℕ → List ℤ → Checkpoint → Layout → AfterCall
advanced image n cells p f =
    cond (eqb p.phase 0) (after_call R.Idle cells)
    (cond (eqb p.phase 1 && (ltb 0 n && (eqb (length image) f.image && ltb p.place (length image - f.base))))
    (instalment (drop f.base image) (min n image_limit) cells p f)
    (after_call (R.Done 0) cells))

-- An instalment without a scan answers idle; then nothing moves. At the end of the code, after a refusal, with 0 steps, or lent an image of
-- another length, it does 0 steps; with 0 steps nothing moves.
unfoldable pub advance_of : List ℕ → ℕ → List ℤ → AfterCall
advance_of image n cells = sized cells (advanced image n cells (checkpoint_of cells) (layout_of cells))
