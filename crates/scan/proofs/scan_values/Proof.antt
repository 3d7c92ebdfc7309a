-- `scan::scan_values` meets its contract: 18, 13, then the code, after what the check of the image answers. Assumes nothing.
use mathlib.Core.Path.{sym, ◌∙◌}
use borrow.Author.Tests.{not-true, not-false}
use Rattle.bytecode.specs.Parts.{header_of}
use Rattle.scan.proofs.Joined.{known_ranges, value_refused, input_refused}
use borrow.Author.Rules.{rules}
use Rattle.scan.proofs.scan_values.Statement.{statement}
use Rattle.scan.proofs.scan_values.Tie as tie

returns : tie.Need-returns-then-not-all_in_range
returns c = (
  c.after_check.ensures.0 (λ s u. value_refused c.args.state.now c.args.row.now c.requires.1 s u (sym (c.all_in_range.ensures (header_of c.args.image.now).ranges (known_ranges c.requires.1)) ∙ not-true _ c.if-not-all_in_range.true-raw)),
  c.after_check.ensures.1,
)

returns-2 : tie.Need-returns-then-not-all_in_range-2
returns-2 c = (
  c.after_check-then-not-all_in_range-2.ensures.0 (λ s u. input_refused c.args.state.now c.args.row.now c.requires.1 s u (sym (c.all_in_range.ensures (header_of c.args.image.now).ranges (known_ranges c.requires.1)) ∙ not-false _ c.if-not-all_in_range.false-raw) (sym (c.all_in_range-2.ensures (header_of c.args.image.now).ranges (known_ranges c.requires.1)) ∙ not-true _ c.if-not-all_in_range-2.true-raw)),
  c.after_check-then-not-all_in_range-2.ensures.1,
)

scan-code-requires : tie.Need-scan_code-requires
scan-code-requires c κs = (
  c.requires.0,
  (c.requires.1, (sym (c.all_in_range.ensures (header_of c.args.image.now).ranges (known_ranges c.requires.1)) ∙ not-false _ c.if-not-all_in_range.false-raw, sym (c.all_in_range-2.ensures (header_of c.args.image.now).ranges (known_ranges c.requires.1)) ∙ not-false _ c.if-not-all_in_range-2.false-raw)),
)

pub scan_values_spec : {M : Type 1} → statement M
scan_values_spec =
    tie.close
    (tie.spec (λ c κs. search rules) (λ c κs. search rules) (λ c. search rules) returns (λ c κs. search rules) (λ c κs. search rules) (λ c. search rules) returns-2 scan-code-requires
    (λ c. search rules) (λ c. search rules) (λ c. search rules))
