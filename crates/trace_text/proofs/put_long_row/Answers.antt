use Rattle.std.proofs.Common.{◌≡◌, ℕ, List, ℤ, ◌++◌, ◌+◌, ◌≤◌, refl, sym, ◌∙◌, take, drop, length, min, pos, arith, zero-add}
use lib.ListN.{replicate}
use lib.Seq.{sets, length-take-le, take_all}
use Rattle.std.proofs.lemmas.List.{take-replicate, length-replicate}
use Rattle.trace_text.specs.Row.{long_row}
use Rattle.trace_text.proofs.Puts.{sets_part}
use Rattle.trace_text.proofs.put_long_row.Goals as goal

-- as many of n equal numbers as there is room for
row_filled : (n : ℕ) (z : ℤ) (cells ys : List ℤ) (k : ℕ) → k ≡ min n (length cells) → ys ≡ replicate (length (take k cells)) z
    → ys ++ drop k cells ≡ sets cells 0 (replicate n z)
row_filled n z cells ys k e f =
    let l : length (take k cells) ≡ k = length-take-le k cells (omega arith) in
    let le : k ≤ n = omega arith in
    let m : length (take k (replicate n z)) ≤ k = rw (take-replicate k n z le, length-replicate) (omega arith) in
    let t : ys ≡ take k (take k (replicate n z)) = f ∙ (rw (l, take_all k (take k (replicate n z)) m, take-replicate k n z le)) in
    let u : ys ++ drop k cells ≡ take k (take k (replicate n z)) ++ drop (0 + k) cells = rw (t, zero-add) in
    u ∙ sym (sets_part cells (replicate n z) 0 k (omega arith) (rw length-replicate (omega arith)))

pub returns : goal.returns
unfolding long_row
returns c = (refl, row_filled 65 (pos 0) c.args.cells.now c.fill.new.self c.min-count.result c.min-count.ensures (c.fill.ensures.after (λ y e. e)))
