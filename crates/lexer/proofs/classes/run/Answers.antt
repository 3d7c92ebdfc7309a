use Rattle.std.proofs.Common.{◌≡◌, ℕ, ◌≤◌, Bool, List, length, max, ◌∙◌, sym, arith}
use Rattle.lexer.specs.Lexer.{run_end}
use Rattle.lexer.specs.Inner.Classes.{member}
use Rattle.lexer.proofs.Laws.{run_out, run_stop, run_step}
use Rattle.lexer.proofs.classes.run.Goals as goal

pub returns-then-not-has : goal.returns-then-not-has
returns-then-not-has c = sym (run_stop (member c.args.class) _ _ c.loop-i-test.true (sym c.has.ensures ∙ c.if-not-has.true)) ∙ c.loop-i.invariant

pub loop-i-preserved : goal.loop-i-preserved
loop-i-preserved c = sym (run_step (member c.args.class) _ _ c.loop-i-test.true (sym c.has.ensures ∙ c.if-not-has.false)) ∙ c.loop-i.invariant

-- a run that begins past the text's end is empty
to_end : (p : ℕ → Bool) (text : List ℕ) (at i : ℕ) → length text ≤ i → (at ≤ length text → i ≤ length text) → run_end p text i ≡ run_end p text at → max at (length text) ≡ run_end p text at
to_end p text at i h g e = let out = run_out p text i h in grind (arith, g, e, out, run_out p text at)

pub returns : goal.returns
returns c = c.max.ensures ∙ to_end (member c.args.class) _ _ _ c.loop-i-test.false c.loop-i.auto.i-end c.loop-i.invariant
