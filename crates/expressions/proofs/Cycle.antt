-- A function of a cycle of calls is proved at each measure t, with what it calls in the cycle at any measure below. Assumes nothing.
use Prim.Native.Nat.{ℕ, ◌<◌}
use mathlib.Core.List.{List}
use borrow.Fn.Kinds.{ParamKind, In}
use borrow.Fn.PlainCycle.{Measures, is, falls, and}

abbrev pub just : (ps : List (ParamKind 4)) → Measures 4 ps ℕ → In 4 ps → ℕ → In 4 ps
just ps μ pre t = and 4 ps (is 4 ps μ t) pre

abbrev pub below : (ps : List (ParamKind 4)) → Measures 4 ps ℕ → In 4 ps → ℕ → In 4 ps
below ps μ pre t = and 4 ps (falls 4 ps ◌<◌ μ t) pre
