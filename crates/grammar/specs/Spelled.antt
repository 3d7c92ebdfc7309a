-- Which texts spell a program: document 01's grammar, limits, order of work and agreement of the two lists, apart from any way of
-- reading them. Document 01, "The text"; document 02, A.6, A.7, A.13. Assumes nothing.
use Rattle.std.specs.Prelude.{ℕ, ◌+◌, ◌≤◌, ◌≡◌, false, List, [], ◌∷◌, ◌++◌, map, length, ℤ, pos, neg_ℤ}
use Rattle.std.proofs.Math.Option.{some}
use Rattle.std.proofs.Math.Option as O
use Rattle.std.proofs.Math.ListN.{get_elem?}
use Rattle.limits.specs.Limits.{text_limit, name_limit, case_limit, bracket_limit, watch_limit}
use Rattle.semantics.specs.Program.{Range, Name, Expression, Condition, changing, Case, Rule, function, change, Timer, Watch, Program, Ordered, RangeFits, bit_range, TimersFit}
use Rattle.lexer.specs.Bytes.{bytes}
use Rattle.lexer.specs.Lexer.{same_name, value_of}
use Rattle.lexer.specs.Spelling.{IsDigits, Separated}
use Rattle.grammar.specs.Pairs.{pair_rule}
use Rattle.grammar.specs.Derivation.{Tokens, as_written, normal, normals, Spells, IsName, SpellsE, expression, SpellsC, condition}

-- ---- declarations

-- Bounds and start may carry `-`.
pub data SpellsZ : Tokens → ℤ → Type 0 where
  positive : (w : List ℕ) → IsDigits w → SpellsZ (w ∷ []) (pos (value_of w))
  negative : (w : List ℕ) → IsDigits w → SpellsZ (bytes "-" ∷ w ∷ []) (neg_ℤ (pos (value_of w)))

-- An absent `init` means 0.
pub data SpellsStart : Tokens → ℤ → Type 0 where
  absent : SpellsStart [] (pos 0)
  given : (ts : Tokens) (z : ℤ) → SpellsZ ts z → SpellsStart (bytes "init" ∷ ts) z

-- `input go 0..1 init 0;` `var run 0..1;`
abbrev pub declaration_form : List ℕ → List ℕ → Tokens → Tokens → Tokens → Tokens
declaration_form word name low high start = word ∷ name ∷ low ++ bytes ".." ∷ high ++ start ++ bytes ";" ∷ []

-- Bounds and start lie in −2,147,483,648..2,147,483,647, low ≤ high, start within them.
pub data Declares (word : List ℕ) : Tokens → Name → Type 0 where
  declares : (w : List ℕ) (ts us vs : Tokens) (r : Range) → IsName w → SpellsZ ts r.low → SpellsZ us r.high → SpellsStart vs r.start → RangeFits r → Declares word (declaration_form word w ts us vs) (record { spelling = w; range = r })

pub data DeclareAll (word : List ℕ) : Tokens → List Name → Type 0 where
  none : DeclareAll word [] []
  more : (ts us : Tokens) (x : Name) (l : List Name) → Declares word ts x → DeclareAll word us l → DeclareAll word (ts ++ us) (x ∷ l)

-- names are the same when they agree with a to z read as A to Z (document 02, A.2); none is declared twice
abbrev pub Apart : List ℕ → List (List ℕ) → Type 0
Apart w [] = Unit {0}
Apart w (x ∷ l) = (same_name w x ≡ false) × Apart w l

abbrev pub Distinct : List (List ℕ) → Type 0
Distinct [] = Unit {0}
Distinct (x ∷ l) = Apart x l × Distinct l

-- ---- timers (document 02, A.7)

-- `timer t of w limit N;`
abbrev pub timer_form : List ℕ → List ℕ → List ℕ → Tokens
timer_form t w n = bytes "timer" ∷ t ∷ bytes "of" ∷ w ∷ bytes "limit" ∷ n ∷ bytes ";" ∷ []

-- t is a name of range 0..1, starting at 0; w, in any case, is the name of its id among those of the inputs and variables.
pub data DeclaresTimer (names : List (List ℕ)) : Tokens → Name → Timer → Type 0 where
  declares_timer : (t w n : List ℕ) (x : Timer) → IsName t → IsName w → get_elem? names x.watched ≡ some (normal w) → IsDigits n → x.limit ≡ value_of n → DeclaresTimer names (timer_form t w n) (record { spelling = t; range = bit_range }) x

pub data DeclareTimers (names : List (List ℕ)) : Tokens → List Name → List Timer → Type 0 where
  none : DeclareTimers names [] [] []
  more : (ts us : Tokens) (t : Name) (l : List Name) (x : Timer) (xs : List Timer) → DeclaresTimer names ts t x → DeclareTimers names us l xs → DeclareTimers names (ts ++ us) (t ∷ l) (x ∷ xs)

-- ---- rules

-- `[c]`, its bracket not counted
abbrev pub squared : Tokens → Tokens
squared ts = bytes "[" ∷ ts ++ bytes "]" ∷ []

-- `[c] & v = (e)`, their brackets not counted
abbrev pub cased : List ℕ → Tokens → Tokens → Tokens
cased v ts us = squared ts ++ bytes "&" ∷ v ∷ bytes "=" ∷ bytes "(" ∷ us ++ bytes ")" ∷ []

-- the cases of the variable v, `[c] & v = (e) | [c] & v = (e)`; the tokens of their list of conditions, `[c] | [c]`
pub data SpellsCases (names : List (List ℕ)) (v : List ℕ) : Tokens → Tokens → List Case → Type 0 where
  one_case : (ts us : Tokens) (k : Case) → k.side ≡ changing → SpellsC names condition bracket_limit ts k.condition → SpellsE names expression bracket_limit us k.value → SpellsCases names v (cased v ts us) (squared ts) (k ∷ [])
  more_cases : (ts us cs ls : Tokens) (k : Case) (ks : List Case) → k.side ≡ changing → SpellsC names condition bracket_limit ts k.condition → SpellsE names expression bracket_limit us k.value → SpellsCases names v cs ls ks → SpellsCases names v (cased v ts us ++ bytes "|" ∷ cs) (squared ts ++ bytes "|" ∷ ls) (k ∷ ks)

-- `[c] | [c]`
pub data SpellsList (names : List (List ℕ)) : Tokens → List Condition → Type 0 where
  one_listed : (ts : Tokens) (c : Condition) → SpellsC names condition bracket_limit ts c → SpellsList names (squared ts) (c ∷ [])
  more_listed : (ts ls : Tokens) (c : Condition) (cs : List Condition) → SpellsC names condition bracket_limit ts c → SpellsList names ls cs → SpellsList names (squared ts ++ bytes "|" ∷ ls) (c ∷ cs)

-- A change formula, `v: GX(~(v = _v) -> [c] & v = (e) | [c] & v = (e));`, is followed directly by its no-change formula,
-- `v: GX(v = _v -> ~([c] | [c]));`.
abbrev pub change_form : List ℕ → Tokens → Tokens → Tokens
change_form v cases list =
    v ∷ bytes ":" ∷ bytes "GX" ∷ bytes "(" ∷ bytes "~" ∷ bytes "(" ∷ v ∷ bytes "=" ∷ (bytes "_" ++ v) ∷ bytes ")" ∷ bytes "->" ∷ cases ++ bytes ")" ∷ bytes ";"
    ∷ v ∷ bytes ":" ∷ bytes "GX" ∷ bytes "(" ∷ v ∷ bytes "=" ∷ (bytes "_" ++ v) ∷ bytes "->" ∷ bytes "~" ∷ bytes "(" ∷ list ++ bytes ")" ∷ bytes ")" ∷ bytes ";" ∷ []

-- Or a function: `v: GX(v = (e));`
abbrev pub function_form : List ℕ → Tokens → Tokens
function_form v e = v ∷ bytes ":" ∷ bytes "GX" ∷ bytes "(" ∷ v ∷ bytes "=" ∷ bytes "(" ∷ e ++ bytes ")" ∷ bytes ")" ∷ bytes ";" ∷ []

-- Or a pair (document 02, A.6): `v+: GX(v > _v -> cases);` and `v-: GX(v < _v -> cases);`, in this order.
abbrev pub pair_form : List ℕ → Tokens → Tokens → Tokens
pair_form v ups downs =
    v ∷ bytes "+" ∷ bytes ":" ∷ bytes "GX" ∷ bytes "(" ∷ v ∷ bytes ">" ∷ (bytes "_" ++ v) ∷ bytes "->" ∷ ups ++ bytes ")" ∷ bytes ";"
    ∷ v ∷ bytes "-" ∷ bytes ":" ∷ bytes "GX" ∷ bytes "(" ∷ v ∷ bytes "<" ∷ (bytes "_" ++ v) ∷ bytes "->" ∷ downs ++ bytes ")" ∷ bytes ";" ∷ []

-- A rule of the variable v, whose id is i.
pub data SpellsR (names : List (List ℕ)) : Tokens → Rule → Type 0 where
  -- with 1 to 32 cases, both lists of conditions equal token by token in spelling
  a_change : (v : List ℕ) (i : ℕ) (ts ls : Tokens) (ks : List Case) (cs : List Condition) → get_elem? names i ≡ some v → SpellsCases names v ts ls ks → length ks ≤ case_limit → SpellsList names ls cs → SpellsR names (change_form v ts ls) (change i ks cs)
  a_function : (v : List ℕ) (i : ℕ) (ts : Tokens) (e : Expression) → get_elem? names i ≡ some v → SpellsE names expression bracket_limit ts e → SpellsR names (function_form v ts) (function i e)
  -- case lists as before, at least one case in each list, at most 32 in the two together
  a_pair : (v : List ℕ) (i : ℕ) (ts ls us ms : Tokens) (ks js : List Case) → get_elem? names i ≡ some v → SpellsCases names v ts ls ks → SpellsCases names v us ms js → length ks + length js ≤ case_limit → SpellsR names (pair_form v ts us) (pair_rule i ks js)

pub data SpellsRules (names : List (List ℕ)) : Tokens → List Rule → Type 0 where
  none : SpellsRules names [] []
  more : (ts us : Tokens) (r : Rule) (rs : List Rule) → SpellsR names ts r → SpellsRules names us rs → SpellsRules names (ts ++ us) (r ∷ rs)

-- ---- watches (document 02, A.13); the brackets shown here aren't counted

-- `watch: G([c]);`
abbrev pub alone_form : Tokens → Tokens
alone_form c = bytes "watch" ∷ bytes ":" ∷ bytes "G" ∷ bytes "(" ∷ squared c ++ bytes ")" ∷ bytes ";" ∷ []

-- `watch: G([c] -> X([c]));`
abbrev pub paired_form : Tokens → Tokens → Tokens
paired_form c d =
    bytes "watch" ∷ bytes ":" ∷ bytes "G" ∷ bytes "(" ∷ squared c ++ (bytes "->" ∷ bytes "X" ∷ bytes "(" ∷ squared d ++ bytes ")" ∷ bytes ")" ∷ bytes ";" ∷ [])

-- They may use any current and previous value.
pub data SpellsWatch (names : List (List ℕ)) : Tokens → Watch → Type 0 where
  alone : (ts : Tokens) (c : Condition) → SpellsC names condition bracket_limit ts c → SpellsWatch names (alone_form ts) (record { first = c; later = O.none })
  paired : (ts us : Tokens) (c d : Condition) → SpellsC names condition bracket_limit ts c → SpellsC names condition bracket_limit us d → SpellsWatch names (paired_form ts us) (record { first = c; later = some d })

pub data SpellsWatches (names : List (List ℕ)) : Tokens → List Watch → Type 0 where
  none : SpellsWatches names [] []
  more : (ts us : Tokens) (w : Watch) (ws : List Watch) → SpellsWatch names ts w → SpellsWatches names us ws → SpellsWatches names (ts ++ us) (w ∷ ws)

-- ---- the text

abbrev pub names_of : Program → List (List ℕ)
names_of p = map (λ x. x.spelling) p.names

pub record Spelled (text : List ℕ) (p : Program) : Type 0 where
  -- At most 32,768 bytes.
  pub short : length text ≤ text_limit
  -- All inputs, then all variables. Timers stand after the variables. Then the rules. Watches stand after the rules. A declaration's name is as
  -- it stands there; in rules and watches only sameness counts.
  pub input_tokens : Tokens
  pub variable_tokens : Tokens
  pub timer_tokens : Tokens
  pub rule_tokens : Tokens
  pub watch_tokens : Tokens
  pub rules_from_lem : ℕ
  pub end : ℕ
  pub spells_declarations : Spells as_written text 0 rules_from_lem (input_tokens ++ variable_tokens ++ timer_tokens)
  pub spells_tokens : Spells normal text rules_from_lem end (rule_tokens ++ watch_tokens)
  pub ends : Separated text end (length text)
  pub inputs : List Name
  pub variables : List Name
  pub timer_names : List Name
  pub declares_inputs : DeclareAll (bytes "input") input_tokens inputs
  pub declares_variables : DeclareAll (bytes "var") variable_tokens variables
  pub declares_timers : DeclareTimers (normals (map (λ x. x.spelling) (inputs ++ variables))) timer_tokens timer_names p.timers
  pub names : p.names ≡ inputs ++ variables ++ timer_names
  pub input_count : p.inputs ≡ length inputs
  pub distinct : Distinct (names_of p)
  -- At most 64 names in all.
  pub few : length p.names ≤ name_limit
  -- Their ids are those of their names, w is a `var` of range 0..1, and N from 1 to 2,147,483,647.
  pub timers_fit : TimersFit p
  pub spells_rules : SpellsRules (normals (names_of p)) rule_tokens p.rules
  pub spells_watches : SpellsWatches (normals (names_of p)) watch_tokens p.watches
  -- At most 16.
  pub few_watches : length p.watches ≤ watch_limit
  -- The rules are in the order of work; every variable has exactly one, and no timer has one. A current value is used only for inputs, for
  -- variables whose rule stands earlier and for their timers; a previous value for any name.
  pub ordered : Ordered p
