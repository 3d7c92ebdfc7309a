-- What a wrapped function answers, with what it leaves, is packed as the definition's. Assumes nothing.
use mathlib.Core.Path.{◌≡◌, sym, ap, ◌∙◌}
use Prim.Native.Nat.{ℕ}

pub answers : {R L D : Type 0} (pack : D → ℕ) (after : R → L → D) {r q : R} {left : L} {d : D} → r ≡ q → after r left ≡ d → pack (after q left) ≡ pack d
answers pack after {left = left} e h = ap (λ r. pack (after r left)) (sym e) ∙ ap pack h
