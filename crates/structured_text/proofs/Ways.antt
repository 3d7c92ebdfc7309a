-- The four ways of the service, and what it leaves in the buffer. Assumes nothing.
use Prim.Native.Nat.{ℕ, ◌≤◌, ◌<◌}
use mathlib.Core.Path.{◌≡◌, refl, sym, ap}
use mathlib.Core.Bool.{Bool, true, false, cond}
use mathlib.Core.List.{List, ◌++◌}
use lib.Dec.{leb}
use lib.ListN.{length, take, drop}
use lib.Seq.{take-append_seam}
use borrow.Author.Tests.{leb-true, leb-false}
use Rattle.limits.specs.Limits.{buffer_too_short, not_in_st}
use Rattle.limits.specs.Answer.{Answer, accepted, refused}
use Rattle.semantics.specs.Program.{Program}
use Rattle.grammar.specs.Parse.{program_of}
use Rattle.translate.specs.Services.{AfterTranslation, stored}
use Rattle.translate.proofs.Kept.{never}
use Rattle.st_program.specs.Written.{st_bytes, has_st}
use Rattle.structured_text.specs.Services.{reserved_place, written_in_st, structured_text_of}

pub data StWay (text buffer : List ℕ) : AfterTranslation → Type 0 where
  printed_whole : (p : Program) → program_of text ≡ accepted p → has_st p ≡ true → length (st_bytes p) ≤ length buffer
      → StWay text buffer (record { answer = accepted (length (st_bytes p)); buffer = st_bytes p ++ drop (length (st_bytes p)) buffer })
  too_short : (p : Program) → program_of text ≡ accepted p → has_st p ≡ true → length buffer < length (st_bytes p)
      → StWay text buffer (record { answer = refused buffer_too_short (length text); buffer = buffer })
  reserved : (p : Program) → program_of text ≡ accepted p → has_st p ≡ false → StWay text buffer (record { answer = refused not_in_st (reserved_place text); buffer = buffer })
  faulty : (number place : ℕ) → program_of text ≡ refused number place → StWay text buffer (record { answer = refused number place; buffer = buffer })

module _ (text buffer : List ℕ) where
  pub st_way : StWay text buffer (structured_text_of text buffer)
  unfolding structured_text_of
  st_way = go (program_of text) refl
    where
      room : (p : Program) → program_of text ≡ accepted p → has_st p ≡ true → (t : Bool) → leb (length (st_bytes p)) (length buffer) ≡ t
          → StWay text buffer (cond t (record { answer = accepted (length (st_bytes p)); buffer = st_bytes p ++ drop (length (st_bytes p)) buffer }) (record { answer = refused buffer_too_short (length text); buffer = buffer }))
      room p e h true t = printed_whole p e h (leb-true _ _ t)
      room p e h false t = too_short p e h (leb-false _ _ t)

      named : (p : Program) → program_of text ≡ accepted p → (t : Bool) → has_st p ≡ t → StWay text buffer (cond t (stored text (st_bytes p) buffer) (record { answer = refused not_in_st (reserved_place text); buffer = buffer }))
      named p e true h = room p e h (leb (length (st_bytes p)) (length buffer)) refl
      named p e false h = reserved p e h

      go : (a : Answer Program) → program_of text ≡ a → StWay text buffer (written_in_st a text buffer)
      go (refused number place) e = faulty number place e
      go (accepted p) e = named p e (has_st p) refl

  -- what a call that succeeded with n bytes shows
  pub record StStored (n : ℕ) : Type 0 where
    pub program : Program
    pub parsed : program_of text ≡ accepted program
    pub has : has_st program ≡ true
    pub size : length (st_bytes program) ≡ n
    pub left : (structured_text_of text buffer).buffer ≡ st_bytes program ++ drop (length (st_bytes program)) buffer

  pub st_stored : (n : ℕ) → (structured_text_of text buffer).answer ≡ accepted n → StStored n
  st_stored n = go (structured_text_of text buffer) refl st_way
    where
      go : (r : AfterTranslation) → structured_text_of text buffer ≡ r → StWay text buffer r → r.answer ≡ accepted n → StStored n
      go r q (printed_whole p e h f) a =
          let s : length (st_bytes p) ≡ n = cc in
          record { program = p; parsed = e; has = h; size = s; left = ap {A = AfterTranslation} (λ x. x.buffer) q }
      go r q (too_short p e h f) a = never n buffer_too_short (length text) (sym a)
      go r q (reserved p e h) a = never n not_in_st (reserved_place text) (sym a)
      go r q (faulty number place e) a = never n number place (sym a)

  -- the Structured Text stands in front of the buffer left
  pub stored_st : (n : ℕ) (x : StStored n) → take n (structured_text_of text buffer).buffer ≡ st_bytes x.program
  stored_st n x = rw (x.left, ← x.size) (take-append_seam (st_bytes x.program) (drop (length (st_bytes x.program)) buffer))
