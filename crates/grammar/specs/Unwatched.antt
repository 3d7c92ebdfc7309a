-- Watches leave the program as it is: the claim. Document 02, A.13: image, ST and printed trace hold no watches. Assumes nothing.
use Rattle.std.specs.Prelude.{ℕ, ◌≡◌, List, [], length, take}
use Rattle.limits.specs.Answer.{accepted}
use Rattle.semantics.specs.Program.{Program}
use Rattle.lexer.specs.Spelling.{Separated}
use Rattle.bytecode.specs.Translation.{image_of}
use Rattle.grammar.specs.Derivation.{Tokens, normal, normals, Spells}
use Rattle.grammar.specs.Parse.{program_of}
use Rattle.grammar.specs.Spelled.{SpellsWatches, names_of}

-- the same program without watches
abbrev pub unwatched : Program → Program
unwatched p = record { inputs = p.inputs; names = p.names; timers = p.timers; rules = p.rules; watches = [] }

-- Of an accepted text: behind a place stand just its watches; without them the text is accepted as the same program but for these, and has the
-- same image.
pub record WatchesCut (text : List ℕ) (p : Program) : Type 0 where
  pub cut : ℕ
  pub end : ℕ
  pub tokens : Tokens
  pub spells : Spells normal text cut end tokens
  pub are_watches : SpellsWatches (normals (names_of p)) tokens p.watches
  pub ends : Separated text end (length text)
  pub same_program : program_of (take cut text) ≡ accepted (unwatched p)
  pub same_image_lem : image_of (unwatched p) ≡ image_of p

pub record WatchesLeave : Type 0 where
  pub leave : (text : List ℕ) (p : Program) → program_of text ≡ accepted p → WatchesCut text p
