-- White space alone: accepted up to the limit of a text, and 9 above it. Assumes nothing.
use mathlib.Core.Path.{◌≡◌, refl, ap}
use mathlib.Core.List.{[]}
use Prim.Native.Nat.{ℕ, zero, suc, ◌-◌, ◌≤◌, ◌<◌}
use native.Mathlib.Nat.{le_refl}
use native.Mathlib.Omega.{arith}
use lib.ListN.{length}
use lib.Seq.{take_all}
use Rattle.limits.specs.Limits.{text_limit, too_long}
use Rattle.limits.specs.Answer.{refused}
use Rattle.lexer.specs.Lexer.{is_space}
use Rattle.lexer.specs.Spelling.{AllBytes}
use Rattle.semantics.specs.Program.{Program}
use Rattle.grammar.specs.Spelled.{Spelled}
use Rattle.grammar.specs.Spelled as S
use Rattle.grammar.proofs.ExampleTexts.{spaces, fine}
use Rattle.grammar.proofs.Examples.{verdict, Holds, too_long_lem}
use Rattle.grammar.proofs.ConverseText.{accepted_exactly}

length_spaces : (n : ℕ) → length (spaces n) ≡ n
length_spaces zero = refl
length_spaces (suc n) = ap suc (length_spaces n)

all_spaces : (n : ℕ) → AllBytes is_space (spaces n)
unfolding is_space
all_spaces zero = tt
all_spaces (suc n) = (refl, all_spaces n)

nothing : Program
nothing = record { inputs = 0; names = []; timers = []; rules = []; watches = [] }

spaces_spelled : (n : ℕ) → n ≤ text_limit → Spelled (spaces n) nothing
unfolding nothing
spaces_spelled n h =
    record {
      short = omega (arith, length_spaces n);
      input_tokens = [];
      variable_tokens = [];
      timer_tokens = [];
      rule_tokens = [];
      watch_tokens = [];
      rules_from_lem = 0;
      end = 0;
      spells_declarations = refl;
      spells_tokens = refl;
      ends = record { ordered = omega arith; within = le_refl (length (spaces n)); spaces = rw (take_all (length (spaces n) - 0) (spaces n) (omega arith)) (all_spaces n) };
      inputs = [];
      variables = [];
      timer_names = [];
      declares_inputs = S.DeclareAll.none;
      declares_variables = S.DeclareAll.none;
      declares_timers = S.DeclareTimers.none;
      names = refl;
      input_count = refl;
      distinct = tt;
      few = omega arith;
      timers_fit = record { numbered = refl; each = tt };
      spells_rules = S.SpellsRules.none;
      spells_watches = S.SpellsWatches.none;
      few_watches = omega arith;
      ordered = tt;
    }

-- so 32,768 spaces are accepted, and 32,769 are 9
pub spaces_answered : (n : ℕ) → (n ≤ text_limit → Holds (fine (spaces n))) × (text_limit < n → Holds (record { text = spaces n; answer = refused too_long 0 }))
spaces_answered n = (
  λ h. ap verdict (accepted_exactly.spelled_accepted (spaces n) nothing (spaces_spelled n h)),
  λ h. ap verdict (too_long_lem (spaces n) (omega (arith, length_spaces n))),
)
