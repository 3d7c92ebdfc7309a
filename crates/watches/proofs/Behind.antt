-- What an answer says of the watches that were read, and of the token behind them. Assumes nothing.
use mathlib.Core.Path.{◌≡◌, sym, ap, ap₂, ◌∙◌}
use mathlib.Core.List.{List, []}
use Prim.Native.Nat.{ℕ}
use lib.ListN.{length}
use Rattle.lexer.specs.Token.{token}
use Rattle.lexer.specs.declared.Place.{Place}
use Rattle.semantics.specs.Program.{Watch}
use Rattle.grammar.specs.Parsed.{Parsed, accepted}
use Rattle.expressions.specs.Inner.Steps.{looked_ahead}
use Rattle.expressions.specs.Inner.Readers.{StandsAt}
use Rattle.expressions.proofs.Steps.{looked}
use Rattle.phrases.proofs.Writing.{Got}
use Rattle.watches.specs.Inner.Codes.{no_code, watches_told, watches_behind}

-- watches that read as p, with the token x behind them
pub record WatchesBehind (text : List ℕ) (p : Parsed (List Watch)) (x : Place) : Type 0 where
  pub watches : List Watch
  pub is : p ≡ accepted watches x.at
  pub counted : x.number ≡ length watches
  pub stands : StandsAt text x

pub watches_behind_lem : {text : List ℕ} {p : Parsed (List Watch)} {x : Place} → Got no_code watches_told watches_behind (looked_ahead text p) 0 [] [] x → WatchesBehind text p x
watches_behind_lem {text} {p} {x} g =
    let y = g.tree in
    let l = looked text p y x.at g.is in
    let hs : x.start ≡ y.start = ap (λ (z : ℕ × ℕ × ℕ × ℕ). z.2) g.tells_it in
    let he : x.end ≡ y.end = ap (λ (z : ℕ × ℕ × ℕ × ℕ). z.3) g.tells_it in
    record {
      watches = y.part;
      is = l.is;
      counted = ap (λ (z : ℕ × ℕ × ℕ × ℕ). z.0) g.tells_it;
      stands = record { kind = y.kind; read = l.read ∙ ap₂ (λ (s n : ℕ). token y.kind s n) (sym hs) (sym he); numbered = ap (λ (z : ℕ × ℕ × ℕ × ℕ). z.1) g.tells_it };
    }
