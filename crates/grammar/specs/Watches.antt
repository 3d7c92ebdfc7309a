-- Watches. Document 02, A.13. Assumes nothing.
use Rattle.std.specs.Prelude.{ℕ, zero, suc, cond, List, [], ◌∷◌, ◌++◌}
use Rattle.std.proofs.Math.Option.{none, some}
use Rattle.limits.specs.Limits.{too_many_watches}
use Rattle.lexer.specs.Token.{watch_word, arrow, is}
use Rattle.lexer.specs.Lexer.{token_at}
use Rattle.semantics.specs.Program.{Condition, Watch}
use Rattle.grammar.specs.Parsed.{Parsed, accepted, refused, and_then, on_token, phrase, followed}
use Rattle.grammar.specs.Expressions.{Scope}
use Rattle.grammar.specs.Conditions.{listed}
use Rattle.grammar.specs.Forms.{formula_closing, function_closing, watch_opening, later_opening}

-- `X([c]));` after `watch: G([c] ->`
unfoldable pub later_at : Scope → Condition → ℕ → Parsed Watch
later_at sc c at =
    and_then (phrase sc.text later_opening at) (λ u n1.
    and_then (listed sc n1) (λ d n2.
    followed sc.text function_closing (record { first = c; later = some d }) n2))

-- `);` or `-> X([c]));` after `watch: G([c]`
unfoldable pub after_first : Scope → Condition → ℕ → Parsed Watch
after_first sc c at =
    on_token (token_at sc.text at)
    (λ k s n.
    let paired = later_at sc c n in
    let alone = followed sc.text formula_closing (record { first = c; later = none }) at in
    cond (is k arrow) paired alone)

-- `: G([c]);` or `: G([c] -> X([c]));` after `watch`; the brackets shown here aren't counted
unfoldable pub watch_at : Scope → ℕ → Parsed Watch
watch_at sc at =
    and_then (phrase sc.text watch_opening at) (λ u n1.
    and_then (listed sc n1) (λ c n2. after_first sc c n2))

-- watches up to the first token that is no `watch`, after those done, with `left` watches left to read: the next is refused by 30 at its word
unfoldable pub watches_from : ℕ → Scope → List Watch → ℕ → Parsed (List Watch)
watches_from zero sc done at = on_token (token_at sc.text at) (λ k s n. cond (is k watch_word) (refused too_many_watches s) (accepted done at))
watches_from (suc left) sc done at =
    on_token (token_at sc.text at)
    (λ k s n.
    let more = and_then (watch_at sc n) (λ w m. watches_from left sc (done ++ (w ∷ [])) m) in
    cond (is k watch_word) more (accepted done at))
