-- The texts of a string table as keys of an index. Assumes nothing.
use Rattle.std.specs.Prelude.{ℕ, ◌+◌, min, List, Option, Some, length}
use Rattle.spec_strings.specs.Table.{text_of}
use Rattle.hash_index.specs.Keys.{KeysIndexed}

-- the key of an id: its text
abbrev pub text_key : List ℕ → List ℕ → ℕ → Option (List ℕ)
text_key bytes ends id = Some (text_of bytes ends id)

-- how many buckets an index of n texts has: about as many as texts, so that few are emptied for a small table, and at most 16384
abbrev pub text_buckets : ℕ → ℕ
text_buckets n = min (n + 1) 16384

-- how long that index is: the heads, and behind them a next for each id
abbrev pub text_space : ℕ → ℕ
text_space n = text_buckets n + n

-- an index of all texts
abbrev pub TextsIndexed : List ℕ → List ℕ → List ℕ → Type 0
TextsIndexed bytes ends index = KeysIndexed (text_key bytes ends) (text_buckets (length ends)) (length ends) index
