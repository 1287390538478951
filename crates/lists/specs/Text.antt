-- Quoted text in definitions and trials. Assumes nothing.
use Rattle.std.specs.Prelude.{List, [], ◌∷◌, ℕ}
use Prim.Native.String as S
use Prim.Native.String.{String}
use Prim.Native.Char as C

-- the codes of a text's characters; for ASCII text, its bytes
unfoldable pub text : String → List ℕ
text S.[] = []
text (S.◌∷◌ c s) = C.code c ∷ text s
