-- `lexer::keywords::exact_word` meets its contract: the kinds are tried in the order of their table. Assumes nothing.
use borrow.Author.Rules.{rules}
use mathlib.Core.Path.{◌≡◌, sym, ap, ◌∙◌}
use mathlib.Core.List.{List, [], ◌∷◌}
use Rattle.lexer.specs.Token.{Kind, input_word, var_word, init_word, mod_word, next_word, watch_word, always_word, after_word, timer_word, of_word, limit_word, other_case, kind_number}
use Rattle.lexer.specs.Lexer.{kind_in, exact_word}
use Rattle.lexer.proofs.Words.{kind_here, kind_later}
use Rattle.lexer.proofs.keywords.exact_word.Statement.{statement}
use Rattle.lexer.proofs.keywords.exact_word.Tie as tie

-- the kinds behind one of the table
abbrev behind_limit : List Kind
behind_limit = []

abbrev behind_of : List Kind
behind_of = limit_word ∷ behind_limit

abbrev behind_timer : List Kind
behind_timer = of_word ∷ behind_of

abbrev behind_after : List Kind
behind_after = timer_word ∷ behind_timer

abbrev behind_always : List Kind
behind_always = after_word ∷ behind_after

abbrev behind_watch : List Kind
behind_watch = always_word ∷ behind_always

abbrev behind_next : List Kind
behind_next = watch_word ∷ behind_watch

abbrev behind_mod : List Kind
behind_mod = next_word ∷ behind_next

abbrev behind_init : List Kind
behind_init = mod_word ∷ behind_mod

abbrev behind_var : List Kind
behind_var = init_word ∷ behind_init

abbrev behind_input : List Kind
behind_input = var_word ∷ behind_var

-- which is told by them, if it is none before
past_input : (c : tie.Else-same_bytes) → exact_word c.args.w.now ≡ kind_in behind_input c.args.w.now other_case
unfolding exact_word
past_input c = kind_later input_word behind_input _ c.same_bytes.ensures c.if-same_bytes.false

past_var : (c : tie.Else-same_bytes-2) → exact_word c.args.w.now ≡ kind_in behind_var c.args.w.now other_case
past_var c = past_input c.before.before.before.before ∙ kind_later var_word behind_var _ c.same_bytes-2.ensures c.if-same_bytes-2.false

past_init : (c : tie.Else-same_bytes-3) → exact_word c.args.w.now ≡ kind_in behind_init c.args.w.now other_case
past_init c = past_var c.before.before.before.before ∙ kind_later init_word behind_init _ c.same_bytes-3.ensures c.if-same_bytes-3.false

past_mod : (c : tie.Else-same_bytes-4) → exact_word c.args.w.now ≡ kind_in behind_mod c.args.w.now other_case
past_mod c = past_init c.before.before.before.before ∙ kind_later mod_word behind_mod _ c.same_bytes-4.ensures c.if-same_bytes-4.false

past_next : (c : tie.Else-same_bytes-5) → exact_word c.args.w.now ≡ kind_in behind_next c.args.w.now other_case
past_next c = past_mod c.before.before.before.before ∙ kind_later next_word behind_next _ c.same_bytes-5.ensures c.if-same_bytes-5.false

past_watch : (c : tie.Else-same_bytes-6) → exact_word c.args.w.now ≡ kind_in behind_watch c.args.w.now other_case
past_watch c = past_next c.before.before.before.before ∙ kind_later watch_word behind_watch _ c.same_bytes-6.ensures c.if-same_bytes-6.false

past_always : (c : tie.Else-same_bytes-7) → exact_word c.args.w.now ≡ kind_in behind_always c.args.w.now other_case
past_always c = past_watch c.before.before.before.before ∙ kind_later always_word behind_always _ c.same_bytes-7.ensures c.if-same_bytes-7.false

past_after : (c : tie.Else-same_bytes-8) → exact_word c.args.w.now ≡ kind_in behind_after c.args.w.now other_case
past_after c = past_always c.before.before.before.before ∙ kind_later after_word behind_after _ c.same_bytes-8.ensures c.if-same_bytes-8.false

past_timer : (c : tie.Else-same_bytes-9) → exact_word c.args.w.now ≡ kind_in behind_timer c.args.w.now other_case
past_timer c = past_after c.before.before.before.before ∙ kind_later timer_word behind_timer _ c.same_bytes-9.ensures c.if-same_bytes-9.false

past_of : (c : tie.Else-same_bytes-10) → exact_word c.args.w.now ≡ kind_in behind_of c.args.w.now other_case
past_of c = past_timer c.before.before.before.before ∙ kind_later of_word behind_of _ c.same_bytes-10.ensures c.if-same_bytes-10.false

past_limit : (c : tie.Else-same_bytes-11) → exact_word c.args.w.now ≡ kind_in behind_limit c.args.w.now other_case
past_limit c = past_of c.before.before.before.before ∙ kind_later limit_word behind_limit _ c.same_bytes-11.ensures c.if-same_bytes-11.false

returns : tie.Need-returns-then-same_bytes
unfolding exact_word kind_number
returns c = sym (ap kind_number (kind_here input_word behind_input _ c.same_bytes.ensures c.if-same_bytes.true))

returns-2 : tie.Need-returns-then-same_bytes-2
unfolding kind_number
returns-2 c = sym (ap kind_number (past_input c.before.before.before.before ∙ kind_here var_word behind_var _ c.same_bytes-2.ensures c.if-same_bytes-2.true))

returns-3 : tie.Need-returns-then-same_bytes-3
unfolding kind_number
returns-3 c = sym (ap kind_number (past_var c.before.before.before.before ∙ kind_here init_word behind_init _ c.same_bytes-3.ensures c.if-same_bytes-3.true))

returns-4 : tie.Need-returns-then-same_bytes-4
unfolding kind_number
returns-4 c = sym (ap kind_number (past_init c.before.before.before.before ∙ kind_here mod_word behind_mod _ c.same_bytes-4.ensures c.if-same_bytes-4.true))

returns-5 : tie.Need-returns-then-same_bytes-5
unfolding kind_number
returns-5 c = sym (ap kind_number (past_mod c.before.before.before.before ∙ kind_here next_word behind_next _ c.same_bytes-5.ensures c.if-same_bytes-5.true))

returns-6 : tie.Need-returns-then-same_bytes-6
unfolding kind_number
returns-6 c = sym (ap kind_number (past_next c.before.before.before.before ∙ kind_here watch_word behind_watch _ c.same_bytes-6.ensures c.if-same_bytes-6.true))

returns-7 : tie.Need-returns-then-same_bytes-7
unfolding kind_number
returns-7 c = sym (ap kind_number (past_watch c.before.before.before.before ∙ kind_here always_word behind_always _ c.same_bytes-7.ensures c.if-same_bytes-7.true))

returns-8 : tie.Need-returns-then-same_bytes-8
unfolding kind_number
returns-8 c = sym (ap kind_number (past_always c.before.before.before.before ∙ kind_here after_word behind_after _ c.same_bytes-8.ensures c.if-same_bytes-8.true))

returns-9 : tie.Need-returns-then-same_bytes-9
unfolding kind_number
returns-9 c = sym (ap kind_number (past_after c.before.before.before.before ∙ kind_here timer_word behind_timer _ c.same_bytes-9.ensures c.if-same_bytes-9.true))

returns-10 : tie.Need-returns-then-same_bytes-10
unfolding kind_number
returns-10 c = sym (ap kind_number (past_timer c.before.before.before.before ∙ kind_here of_word behind_of _ c.same_bytes-10.ensures c.if-same_bytes-10.true))

returns-11 : tie.Need-returns-then-same_bytes-11
unfolding kind_number
returns-11 c = sym (ap kind_number (past_of c.before.before.before.before ∙ kind_here limit_word behind_limit _ c.same_bytes-11.ensures c.if-same_bytes-11.true))

returns-12 : tie.Need-returns
unfolding kind_number
returns-12 c = sym (ap kind_number (past_limit c))

pub exact_word_spec : {M : Type 1} → statement M
exact_word_spec =
    tie.close
    (tie.spec (λ c. search rules) returns (λ c. search rules) returns-2 (λ c. search rules) returns-3 (λ c. search rules) returns-4 (λ c. search rules) returns-5 (λ c. search rules) returns-6 (λ c. search rules) returns-7 (λ c. search rules) returns-8 (λ c. search rules) returns-9 (λ c. search rules) returns-10 (λ c. search rules) returns-11 returns-12)
