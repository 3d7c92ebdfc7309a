-- Lists of bytes: quoted texts, parts, equality, capitals. Where an arm of `cond` computes, here and above, it is bound by `let`, since arguments are
-- computed before a call. Assumes nothing.
use Rattle.std.specs.Prelude.{ℕ, ◌-◌, Bool, true, false, ◌&&◌, cond, List, [], ◌∷◌, take, drop, eqb, leb, ltb}
use Prim.Native.String as S
use Prim.Native.String.{String}
use Prim.Native.Char.{code}

-- the bytes of a quoted text
abbrev pub bytes : String → List ℕ
bytes S.[] = []
bytes (S.◌∷◌ c s) = code c ∷ bytes s

-- the bytes from s up to n
abbrev pub part : List ℕ → ℕ → ℕ → List ℕ
part text s n = take (n - s) (drop s text)

-- the same bytes
unfoldable pub same_bytes : List ℕ → List ℕ → Bool
same_bytes [] [] = true
same_bytes [] (y ∷ l) = false
same_bytes (x ∷ k) [] = false
same_bytes (x ∷ k) (y ∷ l) = let r = same_bytes k l in cond (eqb x y) r false

-- a to z read as A to Z (document 02, A.2)
unfoldable pub capital : ℕ → ℕ
capital b = cond (leb 97 b && ltb b 123) (b - 32) b

unfoldable pub capitals : List ℕ → List ℕ
capitals [] = []
capitals (b ∷ l) = capital b ∷ capitals l
