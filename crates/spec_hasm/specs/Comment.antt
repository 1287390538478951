-- A line without its comment: `strip_comment` of parse.rs (document 01, 'Assembler'). Assumes nothing.
use Rattle.std.specs.Prelude.{Bool, not, List, [], ◌∷◌, ℕ, suc, eqb, get_or, take}
use Rattle.lists.specs.Choice.{pick, both}

-- "`strip_comment` honours a backslash before a quote"
unfoldable pub is_quote : ℕ → ℕ → Bool
is_quote before b = both (eqb b 34) (not (eqb before 92))

-- two slashes come next
unfoldable pub is_comment : List ℕ → Bool
is_comment s = both (eqb (get_or s 0 0) 47) (eqb (get_or s 1 0) 47)

-- "A scan outside quotes hands over at each quote to one inside, and back": how many bytes stand before the first comment;
-- `before` is the byte in front of them
unfoldable mutual
  pub outside : ℕ → List ℕ → ℕ
  outside before [] = 0
  outside before (b ∷ s) = pick (is_quote before b) (suc (inside b s)) (pick (is_comment (b ∷ s)) 0 (suc (outside b s)))

  pub inside : ℕ → List ℕ → ℕ
  inside before [] = 0
  inside before (b ∷ s) = pick (is_quote before b) (suc (outside b s)) (suc (inside b s))

abbrev pub strip_comment : List ℕ → List ℕ
strip_comment s = take (outside 0 s) s
