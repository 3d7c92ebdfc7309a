-- Rules: functions, change formulas and their no-change formulas; pairs of rising and falling formulas. Document 01, "The text"; document 02,
-- A.6, A.7. Assumes nothing.
use Rattle.std.specs.Prelude.{ℕ, zero, suc, ◌-◌, Bool, true, cond, List, [], ◌∷◌, ◌++◌, length, set, ltb, leb, eqb}
use Rattle.limits.specs.Limits.{case_limit, not_allowed, wrong_rule, lists_differ, too_many}
use Rattle.lexer.specs.Bytes.{part}
use Rattle.lexer.specs.Token.{Kind, name, close_round, open_square, tilde, bar, greater, plus, is, TokenRead, token, fault}
use Rattle.lexer.specs.Lexer.{token_at, same_token}
use Rattle.semantics.specs.Program.{Condition, changing, Case, Rule, function, change, Timer, target, taken, timers_known}
use Rattle.grammar.specs.Parsed.{Parsed, accepted, refused, and_then, on_token, sign, phrase, followed}
use Rattle.grammar.specs.Expressions.{Scope, with_id, whole_expression}
use Rattle.grammar.specs.Conditions.{listed}
use Rattle.grammar.specs.Forms.{value_opening, function_closing, formula_closing, change_opening, no_change_opening, rule_opening, case_value_opening, turned_opening, falling_opening}
use Rattle.grammar.specs.Pairs.{pair_rule}

-- ---- the cases of a change formula

-- where a condition of a list stands, its square brackets and the space before it included
pub record Span : Type 0 where
  pub from : ℕ
  pub to : ℕ

-- a case, and where its condition stands
pub record Spanned : Type 0 where
  pub case : Case
  pub span : Span

-- `[c] & w = (e)` at `at`, after its first bracket, which ends at n
unfoldable pub case_at : Scope → List ℕ → ℕ → ℕ → Parsed Spanned
case_at sc w at n =
    and_then (listed sc n) (λ c n1.
    and_then (phrase sc.text (case_value_opening w) n1) (λ u n2.
    and_then (whole_expression sc n2) (λ e n3.
    followed sc.text (sign close_round ∷ []) (record { case = record { side = changing; condition = c; value = e }; span = record { from = at; to = n1 } }) n3)))

-- cases with `|` between them, after those done, with `left` cases left to read: the next is refused by 8 at its bracket
unfoldable pub cases_from : ℕ → Scope → List ℕ → List Spanned → ℕ → Parsed (List Spanned)
cases_from zero sc w done at = on_token (token_at sc.text at) (λ k s n. cond (is k open_square) (refused too_many s) (refused not_allowed s))
cases_from (suc left) sc w done at =
    on_token (token_at sc.text at)
    (λ k s n.
    let more = and_then (case_at sc w at n) (λ c n1.
    on_token (token_at sc.text n1)
    (λ k2 s2 n2.
    let again = cases_from left sc w (done ++ (c ∷ [])) n2 in
    cond (is k2 bar) again (accepted (done ++ (c ∷ [])) n1))) in
    cond (is k open_square) more (refused not_allowed s))

-- ---- the conditions of a no-change formula

-- `[c] | [c]`, after those done, with `left` conditions left to read, as cases are read. (A list longer than the other differs from it
-- at the `|` before, so no answer to a text shows this 8.)
unfoldable pub list_from : ℕ → Scope → List Condition → ℕ → Parsed (List Condition)
list_from zero sc done at = on_token (token_at sc.text at) (λ k s n. cond (is k open_square) (refused too_many s) (refused not_allowed s))
list_from (suc left) sc done at =
    on_token (token_at sc.text at)
    (λ k s n.
    let more = and_then (listed sc n) (λ c n1.
    on_token (token_at sc.text n1)
    (λ k2 s2 n2.
    let again = list_from left sc (done ++ (c ∷ [])) n2 in
    cond (is k2 bar) again (accepted (done ++ (c ∷ [])) n1))) in
    cond (is k open_square) more (refused not_allowed s))

-- what the second list reads as, its closing bracket included, whatever the first is
unfoldable pub plain_list : Scope → ℕ → Parsed (List Condition)
plain_list sc at = and_then (list_from case_limit sc [] at) (λ cs n. followed sc.text (sign close_round ∷ []) cs n)

-- ---- agreement of the two lists, token by token

-- the place after what agrees, or the place of the first token that is not the one wanted
pub data Compared : Type 0 where
  agrees : ℕ → Compared
  differs : ℕ → Compared

abbrev pub on_compared : Compared → (ℕ → Compared) → Compared
on_compared (agrees n) f = f n
on_compared (differs p) f = differs p

-- the token found: if it passes the test, `next` from the place after it; else it is the first that differs
abbrev pub on_found : TokenRead → (Kind → ℕ → ℕ → Bool) → (ℕ → Compared) → Compared
on_found (token k s n) test next = let more = next n in cond (test k s n) more (differs s)
on_found (fault p) test next = differs p

-- the token wanted, from the first list (which was accepted, so it is a token)
abbrev pub on_wanted : TokenRead → (Kind → ℕ → ℕ → Compared) → Compared
on_wanted (token k s n) f = f k s n
on_wanted (fault p) f = differs p

-- the tokens from `from` up to `to` are wanted at `at`; f is no smaller than their number
unfoldable pub part_from : ℕ → List ℕ → ℕ → ℕ → ℕ → Compared
part_from zero text from to at = agrees at
part_from (suc f) text from to at =
    let more = on_wanted (token_at text from) (λ k s n. on_found (token_at text at) (same_token text k s n) (λ m. part_from f text n to m)) in
    cond (ltb from to) more (agrees at)

unfoldable pub kind_at : List ℕ → Kind → ℕ → Compared
kind_at text w at = on_found (token_at text at) (λ k s n. is k w) (λ m. agrees m)

-- the parts with `|` between them and `)` after the last
unfoldable pub parts_from : List ℕ → List Spanned → ℕ → Compared
parts_from text [] at = agrees at
parts_from text (c ∷ []) at = on_compared (part_from (length text) text c.span.from c.span.to at) (λ n. kind_at text close_round n)
parts_from text (c ∷ d ∷ cs) at =
    on_compared (part_from (length text) text c.span.from c.span.to at) (λ n.
    on_compared (kind_at text bar n) (λ m. parts_from text (d ∷ cs) m))

-- The checks go token by token and in number order at each, so of a list that reads as r and differs first at m, a refusal before m
-- is answered, and one of 1 to 5 at m; else 7 at m.
unfoldable pub first_found : {A : Type 0} → Parsed A → Compared → Parsed A
first_found r (agrees n) = r
first_found (accepted a n) (differs m) = refused lists_differ m
first_found (refused k p) (differs m) = cond (ltb p m) (refused k p) (cond (eqb p m) (cond (leb k 5) (refused k p) (refused lists_differ m)) (refused lists_differ m))

unfoldable pub agreeing_list : Scope → List Spanned → ℕ → Parsed (List Condition)
agreeing_list sc cases at = first_found (plain_list sc at) (parts_from sc.text cases at)

-- ---- rules

abbrev pub cases_of : List Spanned → List Case
cases_of [] = []
cases_of (c ∷ cs) = c.case ∷ cases_of cs

-- `w = (e));` after `w: GX(`
unfoldable pub function_at : Scope → List ℕ → ℕ → ℕ → Parsed Rule
function_at sc w v at =
    and_then (phrase sc.text (value_opening w) at) (λ u n1.
    and_then (whole_expression sc n1) (λ e n2.
    followed sc.text function_closing (function v e) n2))

-- `(w = _w) -> [c] & w = (e) | ..);` after `w: GX(~`, then `w: GX(w = _w -> ~([c] | ..));`
unfoldable pub change_at : Scope → List ℕ → ℕ → ℕ → Parsed Rule
change_at sc w v at =
    and_then (phrase sc.text (change_opening w) at) (λ u n1.
    and_then (cases_from case_limit sc w [] n1) (λ cases n2.
    and_then (phrase sc.text (no_change_opening w) n2) (λ u n3.
    and_then (agreeing_list sc cases n3) (λ conditions n4.
    followed sc.text formula_closing (change v (cases_of cases) conditions) n4))))

-- `: GX(w > _w -> [c] & w = (e) | ..);` after `w+`, then `w-: GX(w < _w -> [c] & w = (e) | ..);`, at most 32 cases in the two together
unfoldable pub pair_at : Scope → List ℕ → ℕ → ℕ → Parsed Rule
pair_at sc w v at =
    and_then (phrase sc.text (turned_opening greater w) at) (λ u n1.
    and_then (cases_from case_limit sc w [] n1) (λ ups n2.
    and_then (phrase sc.text (falling_opening w) n2) (λ u n3.
    and_then (cases_from (case_limit - length ups) sc w [] n3) (λ downs n4.
    followed sc.text formula_closing (pair_rule v (cases_of ups) (cases_of downs)) n4))))

-- a function, or a change formula and its no-change formula, of the variable v, spelled w, after that name
unfoldable pub formula_at : Scope → List ℕ → ℕ → ℕ → Parsed Rule
formula_at sc w v at =
    and_then (phrase sc.text rule_opening at) (λ u n.
    on_token (token_at sc.text n)
    (λ k s m.
    let changes = change_at sc w v m in
    let computes = function_at sc w v n in
    cond (is k tilde) changes computes))

-- the rule of the variable v, spelled w, after that name
unfoldable pub formulas : Scope → List ℕ → ℕ → ℕ → Parsed Rule
formulas sc w v at =
    on_token (token_at sc.text at)
    (λ k s n.
    let pair = pair_at sc w v n in
    let formula = formula_at sc w v at in
    cond (is k plus) pair formula)

-- the rule whose name stands from s to n: 6 for an input, a second rule, or a timer
unfoldable pub rule_at : List Timer → Scope → ℕ → ℕ → Parsed Rule
rule_at ts sc s n =
    with_id sc s s n (λ v.
    let rule = formulas sc (part sc.text s n) v n in
    cond (taken ts sc.known v) (refused wrong_rule s) rule)

-- after a rule the current values of its variable and of the timers of that may be used
abbrev pub ruled : List Timer → Scope → ℕ → Scope
ruled ts sc v = record { text = sc.text; names = sc.names; known = timers_known v ts (set sc.known v true) }

-- rules read, and which names may be used with their current value after them: just the inputs, the variables that have a rule and the timers
-- of these (law `known_exactly`)
pub record Ruled : Type 0 where
  pub rules : List Rule
  pub known : List Bool

-- rules up to the first token that is no name, after those done. No variable has two rules, so `item_bound` rules are enough
unfoldable pub rules_from : ℕ → List Timer → Scope → List Rule → ℕ → Parsed Ruled
rules_from zero ts sc done at = refused wrong_rule at
rules_from (suc f) ts sc done at =
    on_token (token_at sc.text at)
    (λ k s n.
    let more = and_then (rule_at ts sc s n) (λ r m. rules_from f ts (ruled ts sc (target r)) (done ++ (r ∷ [])) m) in
    cond (is k name) more (accepted (record { rules = done; known = sc.known }) at))
