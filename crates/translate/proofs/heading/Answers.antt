-- `translate::heading` meets its contract: the inputs, the variables, then the timers. Assumes nothing.
use mathlib.Core.List.{[]}
use mathlib.Core.Path.{refl, ◌∙◌}
use native.Mathlib.Omega.{arith}
use Rattle.limits.proofs.Exits.{handed_on}
use Rattle.lexer.specs.Token.{input_word, var_word}
use Rattle.lexer.specs.Results.{kind_of}
use Rattle.declarations.specs.Inner.Tables.{header_after}
use Rattle.declarations.proofs.Known.{holds_none, all_declared, not_declared}
use Rattle.translate.proofs.Ways.{inputs_refused, variables_refused, inputs_few, names_few, end_is, held_untimed, heading_refused, heading_read, refused_heading, done_heading}
use Rattle.translate.proofs.heading.Goals as goal

pub returns-in_err-inputs : goal.returns-in_err-inputs
unfolding kind_of
returns-in_err-inputs c =
    let e = c.in_err-inputs.was in
    rw (handed_on c.from_residual.ensures e)
    (refused_heading _ _ _ _ _ _ _ e (inputs_refused _ _ _ (not_declared input_word _ _ _ _ _ _ _ _ _ (c.declarations.ensures.declares_all [] (holds_none _ _ _)) e)))

pub declarations-requires-2 : goal.declarations-requires-2
unfolding kind_of header_after
declarations-requires-2 c =
    let x = all_declared input_word _ _ _ _ _ _ _ _ _ (c.declarations.ensures.declares_all [] (holds_none _ _ _)) c.in_ok-inputs.was in
    let f = inputs_few c.args.text.now c.requires.text_len_bound x.all c.in_ok-inputs.inputs.at x.read in
    let r = c.requires.table_room in
    record {
      word_le_last_kind = (omega arith, omega (arith, x.ended, f.1, f.2, c.requires.text_len_bound));
      table_room = record { few = omega (arith, x.counted, f.0); in_starts = omega (arith, r.in_starts, c.declarations.auto.starts); in_ends = omega (arith, r.in_ends, c.declarations.auto.ends) };
    }

pub returns-in_err-variables : goal.returns-in_err-variables
unfolding kind_of
returns-in_err-variables c =
    let x = all_declared input_word _ _ _ _ _ _ _ _ _ (c.declarations.ensures.declares_all [] (holds_none _ _ _)) c.in_ok-inputs.was in
    let e = c.in_err-variables.was in
    rw (handed_on c.from_residual-in_err-variables.ensures e)
    (refused_heading _ _ _ _ _ _ _ e (variables_refused _ x.all _ x.read _ _ (not_declared var_word _ _ _ _ _ _ _ _ _ (c.declarations-2.ensures.declares_all x.all x.held) e)))

pub timers-requires : goal.timers-requires
unfolding kind_of
timers-requires c =
    let x = all_declared input_word _ _ _ _ _ _ _ _ _ (c.declarations.ensures.declares_all [] (holds_none _ _ _)) c.in_ok-inputs.was in
    let y = all_declared var_word _ _ _ _ _ _ _ _ _ (c.declarations-2.ensures.declares_all x.all x.held) c.in_ok-variables.was in
    let f = names_few c.args.text.now c.requires.text_len_bound x.all y.all _ _ x.read y.read in
    let r = c.requires.table_room in
    record {
      table_room = record {
        few = omega (arith, y.counted, f.0);
        in_starts = omega (arith, r.in_starts, c.declarations-2.auto.starts ∙ c.declarations.auto.starts);
        in_ends = omega (arith, r.in_ends, c.declarations-2.auto.ends ∙ c.declarations.auto.ends);
      };
      timer_room = c.requires.timer_room;
      to_bound = omega (arith, end_is _ _ _ _ _ _ _ _ _ _ _ _ _ _ _ x y, f.2, f.3, c.requires.text_len_bound);
    }

pub returns-in_err-all : goal.returns-in_err-all
unfolding kind_of
returns-in_err-all c =
    let x = all_declared input_word _ _ _ _ _ _ _ _ _ (c.declarations.ensures.declares_all [] (holds_none _ _ _)) c.in_ok-inputs.was in
    let y = all_declared var_word _ _ _ _ _ _ _ _ _ (c.declarations-2.ensures.declares_all x.all x.held) c.in_ok-variables.was in
    let e = c.in_err-all.was in
    rw (handed_on c.from_residual-in_err-all.ensures e)
    (refused_heading _ _ _ _ _ _ _ e
    (heading_refused _ _ _ _ _ _ _ _ _ _ _ _ _ _ _ x y c.requires.text_len_bound _ _ _ _ _ (c.timers.ensures.declares_timers _ (held_untimed _ _ _ _ _ _ _ _ _ _ _ _ _ _ _ x y _ _)) e))

pub returns : goal.returns
unfolding kind_of
returns c =
    let x = all_declared input_word _ _ _ _ _ _ _ _ _ (c.declarations.ensures.declares_all [] (holds_none _ _ _)) c.in_ok-inputs.was in
    let y = all_declared var_word _ _ _ _ _ _ _ _ _ (c.declarations-2.ensures.declares_all x.all x.held) c.in_ok-variables.was in
    done_heading _ _ _ _ _ _ _ refl
    (heading_read _ _ _ _ _ _ _ _ _ _ _ _ _ _ _ x y c.requires.text_len_bound _ _ _ _ _ (c.timers.ensures.declares_timers _ (held_untimed _ _ _ _ _ _ _ _ _ _ _ _ _ _ _ x y _ _)) c.in_ok-all.was)
