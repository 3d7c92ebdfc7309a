-- What an answer says of the rules that were read, and of the token behind them. Assumes nothing.
use mathlib.Core.Path.{◌≡◌, sym, ap, ap₂, ◌∙◌}
use mathlib.Core.Bool.{Bool}
use mathlib.Core.List.{List}
use Prim.Native.Nat.{ℕ, ◌+◌}
use lib.ListN.{length}
use lib.Seq.{sets}
use Rattle.arith.specs.Inner.Flags.{flags_of}
use Rattle.semantics.specs.Program.{Timer}
use Rattle.lexer.specs.Token.{token}
use Rattle.lexer.specs.declared.Place.{Place}
use Rattle.grammar.specs.Parsed.{Parsed, accepted}
use Rattle.grammar.specs.Rules.{Ruled}
use Rattle.grammar.specs.Inner.Bytes.{bytes_r}
use Rattle.expressions.specs.Inner.Steps.{looked_ahead}
use Rattle.expressions.specs.Inner.Readers.{StandsAt}
use Rattle.expressions.proofs.Steps.{looked}
use Rattle.phrases.proofs.Writing.{Got}
use Rattle.rules.specs.Inner.Behind.{code_of_rules, ruled_told, ruled_behind}

-- rules that read as p, with the token x behind them
pub record RulesBehind (ts : List Timer) (text : List ℕ) (count : ℕ) (p : Parsed Ruled) (to : ℕ) (before after : List ℕ) (x : Place) : Type 0 where
  pub ruled : Ruled
  pub is : p ≡ accepted ruled x.at
  pub known : flags_of count x.number ≡ ruled.known
  pub stands : StandsAt text x
  pub ended : x.to ≡ to + length (bytes_r ts ruled.rules)
  pub wrote : after ≡ sets before to (bytes_r ts ruled.rules)

pub rules_behind : {ts : List Timer} {text : List ℕ} {count : ℕ} {p : Parsed Ruled} {to : ℕ} {before after : List ℕ} {x : Place} → Got (code_of_rules ts) (ruled_told count) ruled_behind (looked_ahead text p) to before after x → RulesBehind ts text count p to before after x
rules_behind {text} {p = p} {x = x} g =
    let y = g.tree in
    let l = looked text p y x.at g.is in
    let hs : x.start ≡ y.start = ap (λ (z : List Bool × ℕ × ℕ × ℕ). z.2) g.tells_it in
    let he : x.end ≡ y.end = ap (λ (z : List Bool × ℕ × ℕ × ℕ). z.3) g.tells_it in
    record {
      ruled = y.part;
      is = l.is;
      known = ap (λ (z : List Bool × ℕ × ℕ × ℕ). z.0) g.tells_it;
      stands = record { kind = y.kind; read = l.read ∙ ap₂ (λ (s n : ℕ). token y.kind s n) (sym hs) (sym he); numbered = ap (λ (z : List Bool × ℕ × ℕ × ℕ). z.1) g.tells_it };
      ended = g.ended;
      wrote = g.wrote;
    }
