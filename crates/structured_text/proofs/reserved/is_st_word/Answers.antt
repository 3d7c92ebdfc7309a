use Rattle.std.proofs.Common.{refl, ap, ◌∙◌, rules, tests}
use Rattle.std.specs.List.{list_any}
use Rattle.std.proofs.lemmas.Iterator.{YieldsList-from_slice}
use Rattle.std.proofs.lemmas.Iterator.Search.{any_from_yields_List}
use Rattle.lexer.specs.Lexer.{same_name}
use Rattle.st_program.specs.Written.{is_st_word}
use Rattle.structured_text.proofs.reserved.is_st_word.Goals as goal

pub returns : goal.returns
unfolding is_st_word
returns c =
    any_from_yields_List (λ word. same_name c.args.w.now word.now) _ _ c.any.result c.any.ensures.ran (YieldsList-from_slice c.iter.result.rest.now refl) (λ x b q k. search (rules, tests))
    ∙ ap (list_any (λ word. same_name c.args.w.now word.now)) c.iter.ensures.rest
