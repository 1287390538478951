-- The second table's ids of the first table's texts. Assumes nothing.
use Rattle.std.specs.Prelude.{◌≡◌, List, ℕ, suc, ◌<◌, length, get_or}
use Rattle.lists.specs.Found.{Found}
use Rattle.lists.specs.Found.Found.{found, missing}
use Rattle.spec_strings.specs.Table.{text_of, lookup}

-- what stands for an id: 1 more than the first id with its text in the second table, 0 where that lacks it
unfoldable pub id_mark : Found → ℕ
id_mark (found k) = suc k
id_mark missing = 0

-- one for each id of the first table
pub record Translated (bytes₁ ends₁ bytes₂ ends₂ ids : List ℕ) : Type 0 where
  pub many : length ids ≡ length ends₁
  pub each : (id : ℕ) → id < length ends₁ → get_or ids id 0 ≡ id_mark (lookup (text_of bytes₁ ends₁ id) bytes₂ ends₂)
