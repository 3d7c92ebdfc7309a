-- The whole input, fed in parts, comes to `printed`. Assumes nothing.
use Rattle.std.proofs.Common.{List, ℕ, [], ◌++◌, ◌≤◌, ◌≡◌, length, Some, None, IfSome, subst, take}
use mathlib.Core.Path.{sym, ap, ◌∙◌}
use mathlib.Core.List.{append-nil}
use lib.IntN.{ℤ}
use Rattle.std.specs.declared.option.Option.{Option}
use Rattle.std.proofs.KnownBytes.{Consumes-trans}
use Rattle.std.specs.Io.KnownBytes.{Appends, Consumes, IsAtEnd}
use Rattle.trace_text.specs.declared.Stage.TheVariants.{LineStart}
use Rattle.trace_text.specs.Input.{row_lines}
use Rattle.tracer.specs.Printed.{printed}
use Rattle.tracer.specs.Session.{Session, in_text, fed_over, put_over, at_end}
use Rattle.tracer.specs.Calls.{Calls, ends, call}
use Rattle.tracer.proofs.Whole.{whole}

-- before the first byte
abbrev pub start : List ℤ → Session
start cells = in_text LineStart [] cells

-- the whole input in one call
calls_all : (s : Session) (input : List ℕ) → Calls s input (put_over s input ++ at_end (fed_over s input))
calls_all s input = subst (λ (x : List ℕ). Calls s x (put_over s input ++ at_end (fed_over s input))) (append-nil input) (call input ends)

-- a read that gave no byte
pub read_none : (first before after : Option (List ℕ)) (bytes part : List ℕ) {n : ℕ} → Consumes first before bytes → n ≡ 0 → Consumes before after (take n part) → Consumes first after bytes
read_none first before after bytes part c e d =
    subst (Consumes first after) (append-nil bytes) (Consumes-trans first before after bytes [] c (subst (λ (n : ℕ). Consumes before after (take n part)) e d))

-- what was read is all that there was, and what was written of it is the trace
pub written : (before after : Option (List ℕ)) (input : List ℕ) (cells : List ℤ) (held left : Option (List ℕ))
    → Consumes before after input → IsAtEnd after → 65 ≤ length cells
    → Appends held left (put_over (start cells) input ++ at_end (fed_over (start cells) input))
    → IfSome before (λ bytes. length (row_lines bytes) ≤ 18446744073709551615 → Appends held left (printed bytes))
written None after input cells held left c e room w = tt
written (Some bytes) None input cells held left c e room w = absurd c
written (Some bytes) (Some rest) input cells held left c e room w =
    let same : bytes ≡ input = c ∙ ap (λ (x : List ℕ). input ++ x) e ∙ append-nil input in
    λ few. subst (Appends held left) (whole input cells room (subst (λ (x : List ℕ). length (row_lines x) ≤ 18446744073709551615) same few) (calls_all (start cells) input) ∙ ap printed (sym same)) w
