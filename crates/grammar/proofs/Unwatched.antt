-- A text without its watches is accepted as the same program but for these. Assumes nothing.
use mathlib.Core.Path.{◌≡◌, refl, ap, sym, ◌∙◌, subst}
use mathlib.Core.List.{List, [], ◌∷◌, ◌++◌, append-nil}
use Prim.Native.Nat.{ℕ, ◌+◌, ◌-◌, ◌≤◌}
use native.Mathlib.Omega.{arith}
use lib.ListN.{length, take, drop}
use lib.Seq.{length-take-le, take_all}
use Rattle.lexer.specs.Bytes.{part}
use Rattle.lexer.specs.Token.{Kind}
use Rattle.lexer.specs.Lexer.{is_space}
use Rattle.lexer.specs.Spelling.{AllBytes, Spelling, TokenFrom, Separated}
use Rattle.lexer.proofs.Repeated.{part_cut}
use Rattle.semantics.specs.Program.{Program}
use Rattle.bytecode.specs.Translation.{image_of}
use Rattle.grammar.specs.Derivation.{Tokens, normal, Stands, Spells}
use Rattle.grammar.specs.Spelled.{Spelled}
use Rattle.grammar.specs.Spelled as S
use Rattle.grammar.specs.Unwatched.{unwatched, WatchesLeave}
use Rattle.grammar.proofs.Standing.{View, split, stands_in, spells_in, written, normally}
use Rattle.grammar.proofs.ConverseText.{accepted_exactly}

-- ---- what stands in the first bytes of a text

module _ (text : List ℕ) (cut : ℕ) (within : cut ≤ length text) where
  abbrev front : List ℕ
  front = take cut text

  front_length : length front ≡ cut
  front_length = length-take-le cut text within

  part_kept : (s n : ℕ) → s ≤ n → n ≤ cut → part front s n ≡ part text s n
  part_kept s n h l =
      let size = front_length in
      part_cut front s (n - s) cut (omega arith) (omega arith)
      ∙ (ap (λ (x : List ℕ). drop s (take (s + (n - s)) x)) (take_all cut front (omega arith)) ∙ sym (part_cut text s (n - s) cut (omega arith) (omega arith)))

  token_kept : (s n : ℕ) (k : Kind) → n ≤ cut → TokenFrom text s n k → TokenFrom front s n k
  token_kept s n k l t =
      let size = front_length in
      let some = t.some_bytes in
      record {
        some_bytes = some;
        within = omega arith;
        spells = subst (Spelling k) (sym (part_kept s n (omega arith) l)) t.spells;
        longest = λ m j i w sp. t.longest m j i (omega arith) (subst (Spelling j) (part_kept s m (omega arith) (omega arith)) sp);
        longest_name = λ q m j i w sp. t.longest_name q m j i (omega arith) (subst (Spelling j) (part_kept (s + 1) m (omega arith) (omega arith)) sp);
      }

  space_kept : (a s : ℕ) → s ≤ cut → Separated text a s → Separated front a s
  space_kept a s l t = let size = front_length in record { ordered = t.ordered; within = omega arith; spaces = subst (AllBytes is_space) (sym (part_kept a s t.ordered l)) t.spaces }

  spells_kept : (v : View) (a b : ℕ) (ts : Tokens) → a ≤ length text → b ≤ cut → Spells v.see text a b ts → Spells v.see front a b ts
  spells_kept v a b [] h l g = g
  spells_kept v a b (w ∷ ws) h l (n, st, g) =
      let i = (stands_in v text a n w h st).1 in
      let j = (spells_in v text n b ws i g).0 in
      let kept : Stands v.see front a n w = record {
        kind = st.kind;
        start = st.start;
        separated = space_kept a st.start (omega arith) st.separated;
        is_token = token_kept st.start n st.kind (omega arith) st.is_token;
        spelled = ap (λ (x : List ℕ). v.see x) (part_kept st.start n (omega arith) (omega arith)) ∙ st.spelled;
      } in
      (n, kept, spells_kept v n b ws i l g)

-- ---- the claim

no_space : (text : List ℕ) (n : ℕ) → length text ≡ n → AllBytes is_space (part text n (length text))
no_space text n e = let z : length text - n ≡ 0 = omega arith in rw z tt

cut_spelled : (text : List ℕ) (p : Program) (s : Spelled text p) (cut : ℕ) → cut ≤ length text → s.rules_from_lem ≤ cut → Spells normal text s.rules_from_lem cut s.rule_tokens → Spelled (take cut text) (unwatched p)
cut_spelled text p s cut within after sr =
    let size = front_length text cut within in
    let short = s.short in
    record {
      short = omega arith;
      input_tokens = s.input_tokens;
      variable_tokens = s.variable_tokens;
      timer_tokens = s.timer_tokens;
      rule_tokens = s.rule_tokens;
      watch_tokens = [];
      rules_from_lem = s.rules_from_lem;
      end = cut;
      spells_declarations = spells_kept text cut within written 0 s.rules_from_lem (s.input_tokens ++ s.variable_tokens ++ s.timer_tokens) (omega arith) after s.spells_declarations;
      spells_tokens = subst (Spells normal (take cut text) s.rules_from_lem cut) (sym (append-nil s.rule_tokens)) (spells_kept text cut within normally s.rules_from_lem cut s.rule_tokens (omega arith) (omega arith) sr);
      ends = record { ordered = omega arith; within = omega arith; spaces = no_space (take cut text) cut size };
      inputs = s.inputs;
      variables = s.variables;
      timer_names = s.timer_names;
      declares_inputs = s.declares_inputs;
      declares_variables = s.declares_variables;
      declares_timers = s.declares_timers;
      names = s.names;
      input_count = s.input_count;
      distinct = s.distinct;
      few = s.few;
      timers_fit = record { numbered = s.timers_fit.numbered; each = s.timers_fit.each };
      spells_rules = s.spells_rules;
      spells_watches = S.SpellsWatches.none;
      few_watches = omega arith;
      ordered = s.ordered;
    }

same_image_lem : (p : Program) → image_of (unwatched p) ≡ image_of p
unfolding image_of
same_image_lem p = refl

pub watches-leave : WatchesLeave
watches-leave = record {
  leave = λ text p e.
      let s = accepted_exactly.accepted_spelled text p e in
      let i = (spells_in written text 0 s.rules_from_lem (s.input_tokens ++ s.variable_tokens ++ s.timer_tokens) (omega arith) s.spells_declarations).1 in
      let q = split normally text s.rules_from_lem s.end s.rule_tokens s.watch_tokens s.spells_tokens in
      let j = spells_in normally text s.rules_from_lem q.place s.rule_tokens i q.first in
      record {
        cut = q.place;
        end = s.end;
        tokens = s.watch_tokens;
        spells = q.second;
        are_watches = s.spells_watches;
        ends = s.ends;
        same_program = accepted_exactly.spelled_accepted (take q.place text) (unwatched p) (cut_spelled text p s q.place j.1 j.0 q.first);
        same_image_lem = same_image_lem p;
      };
}
