-- `declarations::new_name` meets its contract. Assumes nothing.
use mathlib.Core.Path.{sym, ap, ◌∙◌}
use native.Mathlib.Omega.{arith}
use Rattle.lexer.specs.Token.{kind_number, name}
use Rattle.lexer.specs.Names.{id_of}
use Rattle.lexer.proofs.KindNumbers.{kind_is, kind_is_not}
use Rattle.lexer.proofs.Tokens.{is_token, is_fault}
use Rattle.declarations.proofs.NewNames.{an_id, no_id, faulty_name, refuses_other, refuses_known, refuses_long, refuses_last, takes_name}
use Rattle.declarations.proofs.new_name.Goals as goal

pub returns-in_default : goal.returns-in_default
returns-in_default c =
    let both = faulty_name _ _ _ _ _ _ _ _ c.in_default.is (is_fault _ _ _ (c.token_at-read.ensures.value, c.token_at-read.ensures.placed_in) _ c.in_default.is) in
    record { names = both.0; count_lt_name_limit = both.1 }

pub returns-then-token-ne-NAME : goal.returns-then-token-ne-NAME
unfolding kind_number
returns-then-token-ne-NAME c =
    let t = is_token _ _ _ (c.token_at-read.ensures.value, c.token_at-read.ensures.placed_in) _ c.in-Ok.is in
    let both = refuses_other _ _ _ _ _ _ _ _ _ _ t.0 (kind_is_not _ name t.1.known_kind c.if-token-ne-NAME.true) in
    record { names = both.0; count_lt_name_limit = both.1 }

pub returns-then-is_some : goal.returns-then-is_some
unfolding kind_number
returns-then-is_some c =
    let t = is_token _ _ _ (c.token_at-read.ensures.value, c.token_at-read.ensures.placed_in) _ c.in-Ok.is in
    let i = an_id _ (sym (c.find-known.ensures ∙ ap (id_of _) c.name.ensures)) (sym c.is_some.ensures ∙ c.if-is_some.true) in
    let both = refuses_known _ _ _ _ _ _ _ _ _ _ t.0 (kind_is _ name c.if-token-ne-NAME.false) i.0 i.1 in
    record { names = both.0; count_lt_name_limit = both.1 }

pub returns-then-is_over_long : goal.returns-then-is_over_long
unfolding kind_number
returns-then-is_over_long c =
    let t = is_token _ _ _ (c.token_at-read.ensures.value, c.token_at-read.ensures.placed_in) _ c.in-Ok.is in
    let i = no_id _ (sym (c.find-known.ensures ∙ ap (id_of _) c.name.ensures)) (sym c.is_some.ensures ∙ c.if-is_some.false) in
    let both = refuses_long _ _ _ _ _ _ _ _ _ _ t.0 (kind_is _ name c.if-token-ne-NAME.false) i (sym c.is_over_long.ensures ∙ c.if-is_over_long.true) in
    record { names = both.0; count_lt_name_limit = both.1 }

pub add-requires : goal.add-requires
add-requires c = (omega (arith, c.requires.in_starts, c.if-count-lt-NAME_LIMIT.true), omega (arith, c.requires.in_ends, c.if-count-lt-NAME_LIMIT.true))

pub returns-then-count-lt-NAME_LIMIT : goal.returns-then-count-lt-NAME_LIMIT
unfolding kind_number
returns-then-count-lt-NAME_LIMIT c =
    let t = is_token _ _ _ (c.token_at-read.ensures.value, c.token_at-read.ensures.placed_in) _ c.in-Ok.is in
    let i = no_id _ (sym (c.find-known.ensures ∙ ap (id_of _) c.name.ensures)) (sym c.is_some.ensures ∙ c.if-is_some.false) in
    let both = takes_name _ _ _ _ _ _ _ _ _ _ t.0 (kind_is _ name c.if-token-ne-NAME.false) i (sym c.is_over_long.ensures ∙ c.if-is_over_long.false) c.if-count-lt-NAME_LIMIT.true c.requires c.add.ensures c.reached.ensures in
    record { names = both.0; count_lt_name_limit = both.1 }

pub returns : goal.returns
unfolding kind_number
returns c =
    let t = is_token _ _ _ (c.token_at-read.ensures.value, c.token_at-read.ensures.placed_in) _ c.in-Ok.is in
    let i = no_id _ (sym (c.find-known.ensures ∙ ap (id_of _) c.name.ensures)) (sym c.is_some.ensures ∙ c.if-is_some.false) in
    let both = refuses_last _ _ _ _ _ _ _ _ _ _ t.0 (kind_is _ name c.if-token-ne-NAME.false) i (sym c.is_over_long.ensures ∙ c.if-is_over_long.false) c.if-count-lt-NAME_LIMIT.false in
    record { names = both.0; count_lt_name_limit = both.1 }
