-- The service that writes Structured Text: what it answers and leaves in the buffer lent to it, for every text and every buffer.
-- Document 02, A.4, A.7. Assumes nothing.
use Rattle.std.specs.Prelude.{ℕ, zero, suc, Bool, false, ◌&&◌, ◌||◌, cond, List, length}
use Rattle.limits.specs.Limits.{not_in_st}
use Rattle.limits.specs.Answer.{Answer, accepted, refused}
use Rattle.lexer.specs.Bytes.{part}
use Rattle.lexer.specs.Token.{Kind, ending, input_word, var_word, timer_word, is, TokenRead, token, fault}
use Rattle.lexer.specs.Lexer.{token_at}
use Rattle.semantics.specs.Program.{Program}
use Rattle.grammar.specs.Parse.{program_of}
use Rattle.translate.specs.Services.{AfterTranslation, stored}
use Rattle.st_program.specs.Written.{st_bytes, is_st_word, has_st}

-- ---- the place of 21

-- behind `input` or `var` stands the name declared
abbrev pub declares_name : Kind → Bool
declares_name k = is k input_word || is k var_word

-- what is not in Structured Text: a declared name that is a word of it, and `timer`
abbrev pub is_outside : Kind → Bool → List ℕ → Bool
is_outside k named w = is k timer_word || (named && is_st_word w)

-- of a token: where it stands if it is such, else what the walk goes on to find
abbrev pub reserved_at : List ℕ → Bool → (Bool → ℕ → ℕ) → TokenRead → ℕ
reserved_at text named more (fault s) = 0
reserved_at text named more (token k s n) =
    let next = more (declares_name k) n in
    let here = cond (is_outside k named (part text s n)) s next in
    cond (is k ending) 0 here

-- 21 a declared name that is a word of Structured Text, at its declaration; a timer, at its word (document 02, A.7): the place of the first, token
-- by token from `at` on. `named` says whether a declared name stands next. (Each token has a byte.)
unfoldable pub reserved_from : ℕ → List ℕ → Bool → ℕ → ℕ
reserved_from zero text named at = 0
reserved_from (suc f) text named at = reserved_at text named (λ b n. reserved_from f text b n) (token_at text at)

unfoldable pub reserved_place : List ℕ → ℕ
reserved_place text = reserved_from (suc (length text)) text false 0

-- ---- the service

-- 21 .. after all faults of the text; a short buffer is 10, after 21 (place: the text length). Every refusal leaves all lent memory as found.
abbrev pub written_in_st : Answer Program → List ℕ → List ℕ → AfterTranslation
written_in_st (refused number place) text buffer = record { answer = refused number place; buffer = buffer }
written_in_st (accepted p) text buffer =
    cond (has_st p) (stored text (st_bytes p) buffer) (record { answer = refused not_in_st (reserved_place text); buffer = buffer })

unfoldable pub structured_text_of : List ℕ → List ℕ → AfterTranslation
structured_text_of text buffer = written_in_st (program_of text) text buffer
